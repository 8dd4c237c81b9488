-- What a make comes to.
use Rattle.std.proofs.Common.{◌≡◌, ℕ, ◌+◌, ◌^◌, ◌<◌, ◌≤◌, ◌&&◌, ltb, leb, List, [], ◌∷◌, length, ℤ, pos, nat_abs, Some, None, Ok, Err, Result, sym, ap, ◌∙◌, subst, arith}
use lib.Signed.{le_z}
use Rattle.std.proofs.lemmas.Bool.{and_parts, leb-true, ltb-true}
use Rattle.refusal.specs.declared.Refusal.{Refusal}
use Rattle.refusal.specs.declared.Refusal.TheVariants.{BufferTooShort, IntervalFull, NoSuchInterval, ReadingOutOfOrder, TooLong}
use Rattle.cipher.specs.declared.block.Block as block
use Rattle.cipher.specs.Blocks.{Make}
use Rattle.cipher.specs.declared.key.Key.{Key}
use Rattle.packet.specs.Kinds.{a_data}
use Rattle.packet.specs.Layouts.{data_bytes}
use Rattle.packet.specs.Writing.{filled}
use Rattle.source.specs.declared.key_source.KeySource.{Ghosts}
use Rattle.link.specs.Base.{Base, base_interval, base_questions, base_then, made_in, order, reply, to_make}
use Rattle.link.specs.Questions.{Question, first_no}
use Rattle.link.specs.Reception.{in_order}
use Rattle.link.proofs.Asking.{all_yes}
use Rattle.base.specs.Asked.{asked, data_under, made_at, make_questions, numbers, plain_interval}
use Rattle.base.specs.Keys.{Serves, key_from}
use Rattle.base.specs.Meaning.{Called, Means, held, lent}
use Rattle.base.specs.declared.state.Base as Held
use Rattle.base.proofs.Asks.{after_reading, granted_by, had_begun, has_begun, ordered, plainly, refused_by}
use Rattle.base.proofs.Calls.{begun}
use Rattle.base.proofs.Drawn.{key_behind}

module _ (b : Base) (s : ℕ) (payload : List ℕ) (room : ℕ) (later_start : b.setup.start ≤ b.latest) where
  -- the questions behind the one for the reading, at an interval
  abbrev behind : ℤ → List Question
  behind m =
      (NoSuchInterval, le_z (pos 1) m && le_z m (pos b.setup.count))
      ∷ (TooLong, leb (length payload) 64)
      ∷ (IntervalFull, ltb (made_in b (nat_abs m)) 256)
      ∷ (BufferTooShort, leb (12 + length payload) room)
      ∷ []

  abbrev plain : List Question
  plain = make_questions (numbers b) s (length payload) room

  pub make_asks : first_no plain ≡ first_no (base_questions b (to_make s payload room))
  make_asks =
      after_reading ReadingOutOfOrder (in_order b.latest s) (behind (pos (plain_interval (numbers b) s))) (behind (base_interval b.setup (pos s))) λ e.
      let later = ordered b.latest s e in
      ap (λ z. first_no (behind z)) (sym (plainly b s (omega arith)))

  pub make_refused : (e : Refusal) → Err e ≡ asked plain (plain_interval (numbers b) s) → first_no (base_questions b (to_make s payload room)) ≡ Some e
  make_refused e h = sym make_asks ∙ refused_by plain (plain_interval (numbers b) s) e h

  -- what is known of a make that is granted, of an order of interval m
  pub record Granted (m : ℕ) : Type 0 where
    pub none : first_no (base_questions b (to_make s payload room)) ≡ None
    pub is : m ≡ plain_interval (numbers b) s
    pub at : base_interval b.setup (pos s) ≡ pos m
    pub below : s < 2 ^ 52
    pub later : b.latest ≤ s
    pub least : 1 ≤ m
    pub most : m ≤ b.setup.count
    pub short : length payload ≤ 64
    pub few : made_in b m < 256
    pub roomy : 12 + length payload ≤ room

  pub make_granted : (m : ℕ) → Ok m ≡ asked plain (plain_interval (numbers b) s) → Granted m
  make_granted m h =
      let g = granted_by plain (plain_interval (numbers b) s) m h in
      let yes_all = all_yes plain g.0 in
      let order_of = ordered b.latest s yes_all.0 in
      let there = and_parts (leb 1 (plain_interval (numbers b) s)) _ yes_all.1.0 in
      record {
        none = sym make_asks ∙ g.0;
        is = g.1;
        at = plainly b s (omega arith) ∙ ap pos (sym g.1);
        below = order_of.0;
        later = order_of.1;
        least = rw g.1 (leb-true 1 _ there.0);
        most = rw g.1 (leb-true _ b.setup.count there.1);
        short = leb-true (length payload) 64 yes_all.1.1.0;
        few = rw g.1 (ltb-true _ 256 yes_all.1.1.1.0);
        roomy = leb-true (12 + length payload) room yes_all.1.1.1.1.0;
      }

  pub make_replies : (cipher : Make) (m : ℕ) → Granted m → reply cipher b (to_make s payload room) ≡ Ok (a_data (data_under cipher (b.setup.making m) m (made_in b m) payload))
  unfolding reply
  make_replies cipher m g = rw g.none (ap (λ z. Ok (a_data (order cipher b (nat_abs z) payload))) g.at)

  pub make_leaves : (m : ℕ) → Granted m → base_then b (to_make s payload room) ≡ record { setup = b.setup; latest = s; busy = m; made = made_in b m + 1; last = b.last }
  unfolding base_then
  make_leaves m g = rw g.none (ap (λ z. record { setup = b.setup; latest = s; busy = nat_abs z; made = made_in b (nat_abs z) + 1; last = b.last }) g.at)

pub unmade : {B M D : Type 0} {c : block.Ghosts B} (m : Ghosts M) (d : Ghosts D) (b : Held.Base B M D c m d) (x : Base) → Means m d b x → (s : ℕ) (payload : List ℕ) (room : ℕ) (e : Refusal) →
    Err e ≡ asked (make_questions (held m d b) s (length payload) room) (plain_interval (held m d b) s) → first_no (base_questions x (to_make s payload room)) ≡ Some e
unmade m d b x means s payload room e asks =
    make_refused x s payload room (begun m d b x means) e (asks ∙ ap (λ k. asked (make_questions k s (length payload) room) (plain_interval k s)) means.same)

module _ {B M D : Type 0} {c : block.Ghosts B} (cipher : Make) (m : Ghosts M) (d : Ghosts D) (b : Held.Base B M D c m d) (x : Base) (means : Means m d b x) where
  -- a make that draws on the first source until it has given the key of interval i
  pub made_call : (s i n : ℕ) (payload out out' : List ℕ) (r : Result ℕ Refusal) (b' : Held.Base B M D c m d) →
      Ok i ≡ asked (make_questions (held m d b) s (length payload) (length out)) (plain_interval (held m d b) s) → n ≡ made_at (held m d b) i →
      ((m.meaning b.making.source).drawn ≤ i → (m.meaning b'.making.source).drawn ≡ i) →
      ((zeroth : Key) (n : ℕ) (key : ℕ → Key) → Serves m.meaning b.making zeroth n key → Serves m.meaning b'.making zeroth n key) →
      b'.disclosing ≡ b.disclosing → b'.schedule ≡ b.schedule → b'.latest ≡ s → b'.made ≡ n + 1 →
      r ≡ Ok (12 + length payload) → out' ≡ filled (data_bytes (data_under cipher b'.making.last i n payload)) out →
      Called cipher m d x (to_make s payload (length out)) r out out' b'
  made_call s i n payload out out' r b' asks count given serves other schedule latest made answer written =
      let started = begun m d b x means in
      let at_x = ap (λ k. asked (make_questions k s (length payload) (length out)) (plain_interval k s)) means.same in
      let g = make_granted x s payload (length out) started i (asks ∙ at_x) in
      let number : n ≡ made_in x i = count ∙ ap (λ k. made_at k i) means.same in
      let busy : (m.meaning b.making.source).drawn ≡ x.busy = ap (λ k. k.busy) means.same in
      let lasts : 1 ≤ x.setup.duration = rw (← (ap (λ k. k.duration) means.same)) b.lasts in
      let before : x.busy ≤ i = rw g.is (had_begun x.setup.start x.setup.duration s x.busy lasts (omega (arith, means.reached, g.later))) in
      let drew : (m.meaning b'.making.source).drawn ≡ i = given (rw busy before) in
      let now = serves x.setup.commitment x.setup.count x.setup.making means.making in
      let key : b'.making.last ≡ x.setup.making i = now.last ∙ ap (key_from x.setup.commitment x.setup.making) drew ∙ key_behind x.setup.commitment x.setup.making i g.least in
      let replies = make_replies x s payload (length out) started cipher i g in
      let P : Base → Type 0 = λ y. Means m d b' y in
      let left : Means m d b' (record { setup = x.setup; latest = s; busy = i; made = made_in x i + 1; last = x.last }) = record {
        same = λ k. record {
          count = now.count k;
          start = (ap (λ z. z.start) schedule ∙ ap (λ z. z.start) means.same) k;
          duration = (ap (λ z. z.duration) schedule ∙ ap (λ z. z.duration) means.same) k;
          delay = (ap (λ z. z.delay) schedule ∙ ap (λ z. z.delay) means.same) k;
          latest = latest k;
          busy = drew k;
          made = (made ∙ ap (λ z. z + 1) number) k;
          last = (ap (λ z. (d.meaning z.source).drawn) other ∙ ap (λ z. z.last) means.same) k;
        };
        making = now;
        disclosing = subst (λ z. Serves d.meaning z x.setup.commitment x.setup.count x.setup.disclosing) (sym other) means.disclosing;
        reached = rw g.is (has_begun x.setup.start x.setup.duration s lasts (omega (arith, g.later, started)));
      } in
      record {
        answer = answer ∙ sym (ap (λ a. (lent a out).0) replies);
        buffer = written ∙ (λ k. filled (data_bytes (data_under cipher (key k) i (number k) payload)) out) ∙ sym (ap (λ a. (lent a out).1) replies);
        after = subst P (sym (make_leaves x s payload (length out) started i g)) left;
      }
