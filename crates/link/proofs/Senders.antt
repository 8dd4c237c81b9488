-- A sender writes keys in time: every key written is K_0, or was due at the reading.
use Rattle.std.proofs.Common.{◌≡◌, ℕ, zero, suc, ◌+◌, ◌-◌, ◌<◌, ◌≤◌, true, ◌&&◌, eqb, List, [], ◌∷◌, ℤ, pos, ◌-ℤ◌, nat_abs, ◌≤ℤ◌, Some, None, Ok, Option, sym, refl, ap, ◌∙◌, subst, inl, inr, arith}
use lib.Signed.{le_z, lt_z}
use Rattle.std.specs.Int.{int_min}
use Rattle.std.specs.List.{AllByRecursion}
use Rattle.std.proofs.lemmas.Int.{ints, clamps}
use Rattle.std.proofs.lemmas.Bool.{and_parts, leb-true, cases_eq, cond-true, cond-false, eq-eqb, ne_eqb}
use Rattle.refusal.specs.declared.Refusal.{Refusal}
use Rattle.cipher.specs.Blocks.{Make}
use Rattle.cipher.specs.Keys.{key_bytes}
use Rattle.chain.specs.Chain.{down, step}
use Rattle.packet.specs.Kinds.{Data, Disclosure, Answer, Packet, a_data, a_key, an_answer}
use Rattle.packet.specs.Reading.{read_request, request_of}
use Rattle.link.specs.Questions.{first_no, unless}
use Rattle.link.specs.Receiver.{reading, data_tag}
use Rattle.link.specs.Base.{Setup, Base, Errand, to_make, to_disclose, to_answer, asked_at, base_interval, key_due, unused, last_key, data_with, order, disclosure, welcome, base_questions, written, done, reply, base_then, base_after}
use Rattle.link.specs.Sender.{Sender, ran, Made, Undisclosed, InTime, DisclosesInTime}
use Rattle.link.proofs.Clocks.{since_grows}
use Rattle.link.proofs.Meanings.{tag_of_fields}
use Rattle.link.proofs.Asking.{Yes, all_yes, all_behind, granted_ok}

-- the last key disclosed was due at the latest reading
pub record Timed (x : Setup) (b : Base) : Type 0 where
  pub same : b.setup ≡ x
  pub started : x.start ≤ b.latest
  pub within : b.last ≤ x.count
  pub due : 0 < b.last → pos (b.last + x.delay) ≤ℤ base_interval x (pos b.latest)

-- the reading of a granted call is not before the latest
in_order_later : (b : Base) (errand : Errand) → AllByRecursion Yes (base_questions b errand) → b.latest ≤ asked_at errand
in_order_later b (to_make s payload room) h = leb-true _ _ (and_parts _ _ h.0).1
in_order_later b (to_disclose s room) h = leb-true _ _ (and_parts _ _ h.0).1
in_order_later b (to_answer s pair bytes room) h = leb-true _ _ (and_parts _ _ (all_behind Yes (reading (read_request bytes)) _ h).0).1

-- what was due stays due
due_later : (x : Setup) (j s t : ℕ) → s ≤ t → pos (j + x.delay) ≤ℤ base_interval x (pos s) → pos (j + x.delay) ≤ℤ base_interval x (pos t)
due_later x j s t h due =
    let more = since_grows x.start x.duration (pos s) (pos t) (omega (arith, ints)) in omega (arith, ints)

pub in_range : (i : ℤ) (n : ℕ) → (le_z (pos 1) i && le_z i (pos n)) ≡ true → (1 ≤ nat_abs i) × (nat_abs i ≤ n)
in_range i n h =
    let both = and_parts (le_z (pos 1) i) (le_z i (pos n)) h in
    let low = both.0 in
    let high = both.1 in
    (omega (arith, ints), omega (arith, ints))

-- the interval of a key to be disclosed
pub due_key : (last count delay : ℕ) (i : ℤ) → lt_z (pos last) (int_min (i -ℤ pos delay) (pos count)) ≡ true →
    (0 < nat_abs (int_min (i -ℤ pos delay) (pos count))) × (nat_abs (int_min (i -ℤ pos delay) (pos count)) ≤ count) × (pos (nat_abs (int_min (i -ℤ pos delay) (pos count)) + delay) ≤ℤ i)
due_key last count delay i h = (omega (arith, ints, clamps), omega (arith, ints, clamps), omega (arith, ints, clamps))

done_timed : (x : Setup) (b : Base) (errand : Errand) → Timed x b → AllByRecursion Yes (base_questions b errand) → Timed x (done b errand)
done_timed x b (to_make s payload room) timed h =
    record { same = timed.same; started = omega (arith, timed.started, in_order_later b (to_make s payload room) h); within = timed.within; due = λ on. due_later x b.last b.latest s (in_order_later b (to_make s payload room) h) (timed.due on) }
done_timed x b (to_disclose s room) timed h =
    let key = due_key b.last x.count x.delay (base_interval x (pos s)) (subst (λ y. lt_z (pos b.last) (key_due y s) ≡ true) timed.same h.1.0) in
    let same_key : nat_abs (key_due b.setup s) ≡ nat_abs (key_due x s) = ap (λ y. nat_abs (key_due y s)) timed.same in
    record { same = timed.same; started = omega (arith, timed.started, in_order_later b (to_disclose s room) h); within = rw same_key key.1; due = λ on. rw same_key key.2 }
done_timed x b (to_answer s pair bytes room) timed h =
    record { same = timed.same; started = omega (arith, timed.started, in_order_later b (to_answer s pair bytes room) h); within = timed.within; due = λ on. due_later x b.last b.latest s (in_order_later b (to_answer s pair bytes room) h) (timed.due on) }

then_timed : (x : Setup) (b : Base) (errand : Errand) → Timed x b → Timed x (base_then b errand)
unfolding base_then
then_timed x b errand timed = go (first_no (base_questions b errand)) refl
  where
    go : (o : Option Refusal) → first_no (base_questions b errand) ≡ o → Timed x (unless o (λ refusal. b) (done b errand))
    go None e = done_timed x b errand timed (all_yes _ e)
    go (Some r) e = timed

after_timed : (x : Setup) (run : List Errand) (b : Base) → Timed x b → Timed x (base_after b run)
unfolding base_after
after_timed x [] b timed = timed
after_timed x (errand ∷ run) b timed = after_timed x run (base_then b errand) (then_timed x b errand timed)

pub ran_timed : {cipher : Make} (x : Sender cipher) (run : List Errand) → Timed x.setup (ran x run)
ran_timed x run = after_timed x.setup run (unused x.setup) (record { same = refl; started = omega arith; within = omega arith; due = λ on. absurd (omega arith) })

-- a call that wrote a packet was granted, and that packet is what it writes
pub granted_reply : (cipher : Make) (b : Base) (errand : Errand) (p : Packet) → reply cipher b errand ≡ Ok p → AllByRecursion Yes (base_questions b errand) × (written cipher b errand ≡ p)
unfolding reply
granted_reply cipher b errand p w = granted_ok (base_questions b errand) (written cipher b errand) p w

module _ {cipher : Make} (x : Sender cipher) where
  -- what a granted disclosure writes
  disclosed_in_time : (b : Base) (s room : ℕ) → Timed x.setup b → AllByRecursion Yes (base_questions b (to_disclose s room)) → InTime x (nat_abs (key_due b.setup s)) (key_bytes (b.setup.disclosing (nat_abs (key_due b.setup s)))) s
  disclosed_in_time b s room timed h =
      let key = due_key b.last x.setup.count x.setup.delay (base_interval x.setup (pos s)) (subst (λ y. lt_z (pos b.last) (key_due y s) ≡ true) timed.same h.1.0) in
      rw timed.same (record { within = key.1; of_chain = ap key_bytes (x.disclosing _ key.0 key.1); due = λ on. key.2 })

  -- the last key disclosed is the chain's
  pub last_of_chain : (b : Base) → Timed x.setup b → last_key b ≡ x.chain b.last
  last_of_chain b timed = elim (cases_eq b.last 0) [
    | inl e ↦ cond-true (eqb b.last 0) _ _ (eq-eqb _ _ e) ∙ ap (λ y. y.commitment) timed.same ∙ x.commitment ∙ ap x.chain (sym e)
    | inr n ↦ cond-false (eqb b.last 0) _ _ (ne_eqb _ _ n) ∙ ap (λ y. y.disclosing b.last) timed.same ∙ x.disclosing b.last (omega (arith, n)) timed.within
  ]

  -- what a granted answer writes
  answered_in_time : (b : Base) (errand : Errand) → Timed x.setup b → AllByRecursion Yes (base_questions b errand) → InTime x b.last (key_bytes (last_key b)) (asked_at errand)
  answered_in_time b errand timed h =
      record { within = timed.within; of_chain = ap key_bytes (last_of_chain b timed); due = λ on. due_later x.setup b.last b.latest (asked_at errand) (in_order_later b errand h) (timed.due on) }

  pub discloses_in_time : DisclosesInTime x
  discloses_in_time = record { disclosed = disclosed; answered = answered }
    where
      disclosed : (run : List Errand) (errand : Errand) (d : Disclosure) → reply cipher (ran x run) errand ≡ Ok (a_key d) → InTime x d.interval d.key (asked_at errand)
      disclosed run (to_make s payload room) d w = let e = (granted_reply cipher (ran x run) (to_make s payload room) (a_key d) w).1 in absurd (let z : ◌≡◌ {A = ℕ} 0 1 = cc in omega arith)
      disclosed run (to_disclose s room) d w =
          let both = granted_reply cipher (ran x run) (to_disclose s room) (a_key d) w in
          let e = both.1 in
          let same : disclosure (ran x run) (nat_abs (key_due (ran x run).setup s)) ≡ d = cc in
          subst (λ k. InTime x k.interval k.key s) same (disclosed_in_time (ran x run) s room (ran_timed x run) both.0)
      disclosed run (to_answer s pair bytes room) d w = let e = (granted_reply cipher (ran x run) (to_answer s pair bytes room) (a_key d) w).1 in absurd (let z : ◌≡◌ {A = ℕ} 0 1 = cc in omega arith)

      answered : (run : List Errand) (errand : Errand) (a : Answer) → reply cipher (ran x run) errand ≡ Ok (an_answer a) → InTime x a.interval a.key (asked_at errand)
      answered run (to_make s payload room) a w = let e = (granted_reply cipher (ran x run) (to_make s payload room) (an_answer a) w).1 in absurd (let z : ◌≡◌ {A = ℕ} 0 1 = cc in omega arith)
      answered run (to_disclose s room) a w = let e = (granted_reply cipher (ran x run) (to_disclose s room) (an_answer a) w).1 in absurd (let z : ◌≡◌ {A = ℕ} 0 1 = cc in omega arith)
      answered run (to_answer s pair bytes room) a w =
          let both = granted_reply cipher (ran x run) (to_answer s pair bytes room) (an_answer a) w in
          let e = both.1 in
          let same : welcome cipher (ran x run) s pair (request_of bytes).nonce ≡ a = cc in
          subst (λ k. InTime x k.interval k.key s) same (answered_in_time (ran x run) (to_answer s pair bytes room) (ran_timed x run) both.0)

  -- before its interval is over by the delay, no key of it or of a later one was written
  pub undisclosed : (u : ℤ) (m : ℕ) → 1 ≤ m → lt_z (base_interval x.setup u) (pos (m + x.setup.delay)) ≡ true → Undisclosed x u m
  undisclosed u m from early run errand until = record {
    disclosed = λ d w. below d.interval (discloses_in_time.disclosed run errand d w).due;
    answered = λ a w. below a.interval (discloses_in_time.answered run errand a w).due;
  }
    where
      grown : base_interval x.setup (pos (asked_at errand)) ≤ℤ base_interval x.setup u
      grown = since_grows x.setup.start x.setup.duration (pos (asked_at errand)) u until.0

      below : (j : ℕ) → (0 < j → pos (j + x.setup.delay) ≤ℤ base_interval x.setup (pos (asked_at errand))) → j < m
      below zero due = from
      below (suc j) due = let on = due (omega arith) in omega (arith, ints, grown)

  -- d steps down from a key of the chain
  chain_steps : (d m : ℕ) → m + d ≤ x.setup.count → down cipher (x.chain (m + d)) d ≡ x.chain m
  unfolding down
  chain_steps zero m h = ap x.chain (omega arith)
  chain_steps (suc d) m h =
      let next : m + suc d ≡ m + 1 + d = omega arith in
      ap (λ n. step cipher (down cipher (x.chain n) d)) next ∙ ap (step cipher) (chain_steps d (m + 1) (omega arith)) ∙ sym (x.steps m (omega arith))

  pub chain_down : (m j : ℕ) → m ≤ j → j ≤ x.setup.count → down cipher (x.chain j) (j - m) ≡ x.chain m
  chain_down m j low high =
      let whole : m + (j - m) ≡ j = omega arith in
      ap (λ n. down cipher (x.chain n) (j - m)) (sym whole) ∙ chain_steps (j - m) m (omega arith)

  order_right : (b : Base) (s room : ℕ) (payload : List ℕ) → Timed x.setup b → AllByRecursion Yes (base_questions b (to_make s payload room)) →
      (order cipher b (nat_abs (base_interval b.setup (pos s))) payload).tag ≡ data_tag cipher (x.chain (nat_abs (base_interval b.setup (pos s)))) (order cipher b (nat_abs (base_interval b.setup (pos s))) payload)
  order_right b s room payload timed h =
      let m : ℕ = nat_abs (base_interval b.setup (pos s)) in
      let range = in_range (base_interval b.setup (pos s)) b.setup.count h.1.0 in
      let key : b.setup.making m ≡ x.chain m = ap (λ y. y.making m) timed.same ∙ x.making m range.0 (omega (arith, range.1, ap (λ y. y.count) timed.same)) in
      ap (λ k. data_tag cipher k (data_with b m payload [])) key ∙ tag_of_fields cipher (x.chain m) (data_with b m payload []) (order cipher b m payload) refl refl refl

  -- a packet that the sender made has the tag that is right under the chain's key of its interval
  pub made_right : (p : Data) → Made x p → p.tag ≡ data_tag cipher (x.chain p.interval) p
  made_right p made = go made.errand made.wrote
    where
      go : (errand : Errand) → reply cipher (ran x made.run) errand ≡ Ok (a_data p) → p.tag ≡ data_tag cipher (x.chain p.interval) p
      go (to_make s payload room) w =
          let both = granted_reply cipher (ran x made.run) (to_make s payload room) (a_data p) w in
          let e = both.1 in
          let same : order cipher (ran x made.run) (nat_abs (base_interval (ran x made.run).setup (pos s))) payload ≡ p = cc in
          subst (λ (q : Data). q.tag ≡ data_tag cipher (x.chain q.interval) q) same (order_right (ran x made.run) s room payload (ran_timed x made.run) both.0)
      go (to_disclose s room) w = let e = (granted_reply cipher (ran x made.run) (to_disclose s room) (a_data p) w).1 in absurd (let z : ◌≡◌ {A = ℕ} 0 1 = cc in omega arith)
      go (to_answer s pair bytes room) w = let e = (granted_reply cipher (ran x made.run) (to_answer s pair bytes room) (a_data p) w).1 in absurd (let z : ◌≡◌ {A = ℕ} 0 1 = cc in omega arith)
