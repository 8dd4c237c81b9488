-- What a disclosure comes to.
use Rattle.std.proofs.Common.{◌≡◌, ℕ, suc, ◌-◌, ◌^◌, ◌<◌, ◌≤◌, min, ltb, leb, List, [], ◌∷◌, length, pos, negsuc, ◌-ℤ◌, nat_abs, Some, None, Ok, Err, Result, sym, ap, ◌∙◌, subst, inl, inr, arith}
use lib.Signed.{lt_z}
use Rattle.std.specs.Int.{int_min}
use Rattle.std.proofs.lemmas.Int.{ints}
use Rattle.std.proofs.lemmas.Bool.{cases_lt, leb-true, ltb-true, le-ltb}
use Rattle.std.proofs.lemmas.Bool.Decides.{nat_tests}
use Rattle.refusal.specs.declared.Refusal.{Refusal}
use Rattle.refusal.specs.declared.Refusal.TheVariants.{BufferTooShort, NoKeyDue, ReadingOutOfOrder}
use Rattle.cipher.specs.declared.block.Block as block
use Rattle.cipher.specs.Blocks.{Make}
use Rattle.cipher.specs.declared.key.Key.{Key}
use Rattle.packet.specs.Kinds.{a_key}
use Rattle.packet.specs.Layouts.{disclosure_bytes}
use Rattle.packet.specs.Writing.{filled}
use Rattle.source.specs.declared.key_source.KeySource.{Ghosts}
use Rattle.link.specs.Base.{Base, base_questions, base_then, disclosure, key_due, reply, to_disclose}
use Rattle.link.specs.Questions.{Question, first_no}
use Rattle.link.specs.Reception.{in_order}
use Rattle.link.proofs.Asking.{all_yes}
use Rattle.base.specs.Asked.{asked, disclose_questions, disclosure_of, numbers, plain_due, plain_interval}
use Rattle.base.specs.Keys.{Serves, key_from}
use Rattle.base.specs.Meaning.{Called, Means, held, lent}
use Rattle.base.specs.declared.state.Base as Held
use Rattle.base.proofs.Asks.{after_reading, granted_by, ordered, plainly, refused_by}
use Rattle.base.proofs.Calls.{begun}
use Rattle.base.proofs.Drawn.{key_behind}

-- the smaller of two naturals
least_of : (a n : ℕ) → int_min (pos a) (pos n) ≡ pos (min a n)
least_of a n = grind (arith, nat_tests)

-- an interval less the delay, where it is not negative
past : (m delay : ℕ) → delay ≤ m → pos m -ℤ pos delay ≡ pos (m - delay)
past m delay h = omega (arith, ints)

-- below the delay
short_of : (m delay : ℕ) → m < delay → pos m -ℤ pos delay ≡ negsuc (delay - suc m)
short_of m delay h = omega (arith, ints)

-- whether a key above the last one disclosed is due can be told on naturals
due_test : (last m delay n : ℕ) → ltb last (min (m - delay) n) ≡ lt_z (pos last) (int_min (pos m -ℤ pos delay) (pos n))
due_test last m delay n = elim (cases_lt m delay) [
  | inl h ↦
      let zero_due : min (m - delay) n ≡ 0 = omega arith in
      rw (zero_due, short_of m delay h) (le-ltb last 0 (omega arith))
  | inr h ↦ rw (past m delay h, least_of (m - delay) n)
]

-- and which it is, where there is one
due_is : (last m delay n : ℕ) → last < min (m - delay) n → int_min (pos m -ℤ pos delay) (pos n) ≡ pos (min (m - delay) n)
due_is last m delay n h = let far : delay ≤ m = omega arith in rw (past m delay far) (least_of (m - delay) n)

module _ (b : Base) (s room n : ℕ) (later_start : b.setup.start ≤ b.latest) (paired : b.setup.count ≡ n) where
  abbrev plain : List Question
  plain = disclose_questions (numbers b) n s room

  abbrev due : ℕ
  due = plain_due (numbers b) n s

  -- the interval of the rules, in the key that is due
  as_rules : b.setup.start ≤ s → int_min (pos (plain_interval (numbers b) s) -ℤ pos b.setup.delay) (pos n) ≡ key_due b.setup s
  as_rules later = sym (λ i. int_min (plainly b s later i -ℤ pos b.setup.delay) (pos (paired i)))

  pub disclose_asks : first_no plain ≡ first_no (base_questions b (to_disclose s room))
  disclose_asks =
      after_reading ReadingOutOfOrder (in_order b.latest s) ((NoKeyDue, ltb b.last due) ∷ (BufferTooShort, leb 19 room) ∷ []) ((NoKeyDue, lt_z (pos b.last) (key_due b.setup s)) ∷ (BufferTooShort, leb 19 room) ∷ []) λ e.
      let order_of = ordered b.latest s e in
      let same : ltb b.last due ≡ lt_z (pos b.last) (key_due b.setup s) = due_test b.last (plain_interval (numbers b) s) b.setup.delay n ∙ ap (lt_z (pos b.last)) (as_rules (omega arith)) in
      ap (λ q. first_no ((NoKeyDue, q) ∷ (BufferTooShort, leb 19 room) ∷ [])) same

  pub disclose_refused : (e : Refusal) → Err e ≡ asked plain due → first_no (base_questions b (to_disclose s room)) ≡ Some e
  disclose_refused e h = sym disclose_asks ∙ refused_by plain due e h

  -- what is known of a disclosure that is granted, of the key of interval j
  pub record Granted (j : ℕ) : Type 0 where
    pub none : first_no (base_questions b (to_disclose s room)) ≡ None
    pub at : key_due b.setup s ≡ pos j
    pub below : s < 2 ^ 52
    pub later : b.latest ≤ s
    pub newer : b.last < j
    pub roomy : 19 ≤ room

  pub disclose_granted : (j : ℕ) → Ok j ≡ asked plain due → Granted j
  disclose_granted j h =
      let g = granted_by plain due j h in
      let yes_all = all_yes plain g.0 in
      let order_of = ordered b.latest s yes_all.0 in
      let above : b.last < due = ltb-true b.last due yes_all.1.0 in
      record {
        none = sym disclose_asks ∙ g.0;
        at = sym (as_rules (omega arith)) ∙ due_is b.last (plain_interval (numbers b) s) b.setup.delay n above ∙ ap pos (sym g.1);
        below = order_of.0;
        later = order_of.1;
        newer = rw g.1 above;
        roomy = leb-true 19 room yes_all.1.1.0;
      }

  pub disclose_replies : (cipher : Make) (j : ℕ) → Granted j → reply cipher b (to_disclose s room) ≡ Ok (a_key (disclosure_of j (b.setup.disclosing j)))
  unfolding reply
  disclose_replies cipher j g = rw g.none (ap (λ z. Ok (a_key (disclosure b (nat_abs z)))) g.at)

  pub disclose_leaves : (j : ℕ) → Granted j → base_then b (to_disclose s room) ≡ record { setup = b.setup; latest = s; busy = b.busy; made = b.made; last = j }
  unfolding base_then
  disclose_leaves j g = rw g.none (ap (λ z. record { setup = b.setup; latest = s; busy = b.busy; made = b.made; last = nat_abs z }) g.at)

module _ {B M D : Type 0} {c : block.Ghosts B} (cipher : Make) (m : Ghosts M) (d : Ghosts D) (b : Held.Base B M D c m d) (x : Base) (means : Means m d b x) where
  abbrev n : ℕ
  n = (d.meaning b.disclosing.source).count

  paired : x.setup.count ≡ n
  paired = sym means.disclosing.count

  pub undisclosed : (s room : ℕ) (e : Refusal) → Err e ≡ asked (disclose_questions (held m d b) n s room) (plain_due (held m d b) n s) → first_no (base_questions x (to_disclose s room)) ≡ Some e
  undisclosed s room e asks =
      disclose_refused x s room n (begun m d b x means) paired e (asks ∙ ap (λ k. asked (disclose_questions k n s room) (plain_due k n s)) means.same)

  -- a disclosure that draws on the second source until it has given the key of interval j
  pub disclosed_call : (s j : ℕ) (out out' : List ℕ) (r : Result ℕ Refusal) (b' : Held.Base B M D c m d) →
      Ok j ≡ asked (disclose_questions (held m d b) n s (length out)) (plain_due (held m d b) n s) →
      ((d.meaning b.disclosing.source).drawn ≤ j → (d.meaning b'.disclosing.source).drawn ≡ j) →
      ((zeroth : Key) (n : ℕ) (key : ℕ → Key) → Serves d.meaning b.disclosing zeroth n key → Serves d.meaning b'.disclosing zeroth n key) →
      b'.making ≡ b.making → b'.schedule ≡ b.schedule → b'.latest ≡ s → b'.made ≡ b.made →
      r ≡ Ok 19 → out' ≡ filled (disclosure_bytes (disclosure_of j b'.disclosing.last)) out →
      Called cipher m d x (to_disclose s (length out)) r out out' b'
  disclosed_call s j out out' r b' asks given serves other schedule latest made answer written =
      let started = begun m d b x means in
      let at_x = ap (λ k. asked (disclose_questions k n s (length out)) (plain_due k n s)) means.same in
      let g = disclose_granted x s (length out) n started paired j (asks ∙ at_x) in
      let last : (d.meaning b.disclosing.source).drawn ≡ x.last = ap (λ k. k.last) means.same in
      let drew : (d.meaning b'.disclosing.source).drawn ≡ j = given (omega (arith, last, g.newer)) in
      let now = serves x.setup.commitment x.setup.count x.setup.disclosing means.disclosing in
      let key : b'.disclosing.last ≡ x.setup.disclosing j = now.last ∙ ap (key_from x.setup.commitment x.setup.disclosing) drew ∙ key_behind x.setup.commitment x.setup.disclosing j (omega (arith, g.newer)) in
      let replies = disclose_replies x s (length out) n started paired cipher j g in
      let P : Base → Type 0 = λ y. Means m d b' y in
      let left : Means m d b' (record { setup = x.setup; latest = s; busy = x.busy; made = x.made; last = j }) = record {
        same = λ k. record {
          count = (ap (λ z. (m.meaning z.source).count) other ∙ ap (λ z. z.count) means.same) k;
          start = (ap (λ z. z.start) schedule ∙ ap (λ z. z.start) means.same) k;
          duration = (ap (λ z. z.duration) schedule ∙ ap (λ z. z.duration) means.same) k;
          delay = (ap (λ z. z.delay) schedule ∙ ap (λ z. z.delay) means.same) k;
          latest = latest k;
          busy = (ap (λ z. (m.meaning z.source).drawn) other ∙ ap (λ z. z.busy) means.same) k;
          made = (made ∙ ap (λ z. z.made) means.same) k;
          last = drew k;
        };
        making = subst (λ z. Serves m.meaning z x.setup.commitment x.setup.count x.setup.making) (sym other) means.making;
        disclosing = now;
        reached = omega (arith, means.reached, g.later);
      } in
      record {
        answer = answer ∙ sym (ap (λ a. (lent a out).0) replies);
        buffer = written ∙ (λ k. filled (disclosure_bytes (disclosure_of j (key k))) out) ∙ sym (ap (λ a. (lent a out).1) replies);
        after = subst P (sym (disclose_leaves x s (length out) n started paired j g)) left;
      }
