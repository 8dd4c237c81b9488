-- What a sender answers: it fits its packet, tells the sender's own schedule, and passes the questions on it.
use Rattle.std.proofs.Common.{◌≡◌, ℕ, ◌+◌, ◌-◌, ◌*◌, ◌/◌, ◌^◌, ◌<◌, ◌≤◌, true, eqb, ltb, leb, List, ℤ, pos, ◌-ℤ◌, ◌≤ℤ◌, Ok, sym, ap, ◌∙◌, subst, inl, inr, mul-le-mul, le-div_iff_mul-le, zero-mul, arith}
use lib.Signed.{le_z}
use Rattle.std.specs.Int.{int_div_euclid}
use Rattle.std.specs.List.{AllByRecursion}
use Rattle.std.proofs.lemmas.Int.{ints}
use Rattle.std.proofs.lemmas.Bool.{and_parts, and_from, leb-true, ltb-true, le-leb, lt-ltb, eq-eqb, or_left, or_right, cases_eq}
use Rattle.cipher.specs.Blocks.{Make}
use Rattle.cipher.specs.declared.key.Key.{Key}
use Rattle.cipher.proofs.KeyLaws.{length_key_bytes}
use Rattle.packet.specs.Kinds.{Answer, an_answer, CoveredFits}
use Rattle.packet.specs.Reading.{read_request, request_of}
use Rattle.link.specs.Clock.{interval_at}
use Rattle.link.specs.Receiver.{reading}
use Rattle.link.specs.Join.{schedule_of}
use Rattle.link.specs.Base.{Base, Errand, to_make, to_disclose, to_answer, base_interval, base_questions, last_key, welcome, reply}
use Rattle.link.specs.Sender.{Sender, ran, Answered, InTime, Welcomed, AnswersPass}
use Rattle.link.proofs.Asking.{Yes, all_behind}
use Rattle.link.proofs.Clocks.{aligned}
use Rattle.link.proofs.Senders.{Timed, ran_timed, granted_reply, discloses_in_time}

module _ {cipher : Make} (x : Sender cipher) where
  -- the limits of a sender, one by one
  pub record Limits : Type 0 where
    pub lasts : 1 ≤ x.setup.duration
    pub short : x.setup.duration < 2 ^ 32
    pub delays : (1 ≤ x.setup.delay) × (x.setup.delay ≤ 16)
    pub starts : x.setup.start < (2 ^ 52)

  pub limits : Limits
  limits =
      let a = and_parts _ _ x.limits in
      let b = and_parts _ _ a.0 in
      let c = and_parts _ _ b.0 in
      let d = and_parts _ _ c.0 in
      record { lasts = leb-true _ _ d.0; short = ltb-true _ _ d.1; delays = (leb-true _ _ c.1, leb-true _ _ b.1); starts = ltb-true _ _ a.1 }

  -- what a sender answers fits its packet
  welcome_fits : (b : Base) (s room : ℕ) (pair : Key) (bytes nonce : List ℕ) → Timed x.setup b → AllByRecursion Yes (base_questions b (to_answer s pair bytes room)) → CoveredFits (welcome cipher b s pair nonce)
  welcome_fits b s room pair bytes nonce timed h =
      let asked = all_behind Yes (reading (read_request bytes)) _ h in
      let reading_below : s < (2 ^ 52) = ltb-true s (2 ^ 52) (and_parts (ltb s (2 ^ 52)) (leb b.latest s) asked.0).0 in
      let few : b.last ≤ 4096 = omega (arith, timed.within, x.most) in
      let short : b.setup.duration < 2 ^ 32 = rw timed.same limits.short in
      let starts : b.setup.start < (2 ^ 52) = rw timed.same limits.starts in
      let shorter : b.setup.duration ≤ 2 ^ 32 - 1 = omega arith in
      let long : b.last * b.setup.duration ≤ 4096 * (2 ^ 32 - 1) = mul-le-mul few shorter in
      (omega arith, length_key_bytes (last_key b), omega arith, omega arith, omega arith)

  -- the answer of a sender tells the sender's own schedule
  pub record Told (a : Answer) : Type 0 where
    pub duration : a.duration ≡ x.setup.duration
    pub delay : a.delay ≡ x.setup.delay
    pub start : a.start ≡ x.setup.start + a.interval * x.setup.duration
    pub fits : CoveredFits a
    pub below : a.time < 2 ^ 52
    pub after_start : x.setup.start ≤ a.time
    pub in_time : InTime x a.interval a.key a.time

  pub answered_told : (a : Answer) → Answered x a → Told a
  answered_told a answered = go answered.errand answered.wrote
    where
      go : (errand : Errand) → reply cipher (ran x answered.run) errand ≡ Ok (an_answer a) → Told a
      go (to_make s payload room) e = let d = (granted_reply cipher (ran x answered.run) (to_make s payload room) (an_answer a) e).1 in absurd (let z : ◌≡◌ {A = ℕ} 0 1 = cc in omega arith)
      go (to_disclose s room) e = let d = (granted_reply cipher (ran x answered.run) (to_disclose s room) (an_answer a) e).1 in absurd (let z : ◌≡◌ {A = ℕ} 0 1 = cc in omega arith)
      go (to_answer s pair bytes room) e =
          let both = granted_reply cipher (ran x answered.run) (to_answer s pair bytes room) (an_answer a) e in
          let d = both.1 in
          let same : welcome cipher (ran x answered.run) s pair (request_of bytes).nonce ≡ a = cc in
          let timed = ran_timed x answered.run in
          let asked = all_behind Yes (reading (read_request bytes)) _ both.0 in
          let order = and_parts (ltb s (2 ^ 52)) (leb (ran x answered.run).latest s) asked.0 in
          let later = leb-true (ran x answered.run).latest s order.1 in
          subst Told same (record {
            duration = ap (λ y. y.duration) timed.same;
            delay = ap (λ y. y.delay) timed.same;
            start = (λ i. (timed.same i).start + (ran x answered.run).last * (timed.same i).duration);
            fits = welcome_fits (ran x answered.run) s room pair bytes (request_of bytes).nonce timed both.0;
            below = ltb-true s (2 ^ 52) order.0;
            after_start = omega (arith, timed.started, later);
            in_time = (discloses_in_time x).answered answered.run (to_answer s pair bytes room) _ (e ∙ ap (λ y. Ok (an_answer y)) (sym same));
          })

  -- so a receiver counts intervals as the sender does
  pub told_intervals : (a : Answer) → Told a → (u : ℤ) → interval_at (schedule_of a) u ≡ base_interval x.setup u
  told_intervals a told u =
      (λ i. interval_at (record { number = a.interval; start = told.start i; duration = told.duration i; delay = a.delay }) u) ∙ aligned x.setup.start a.interval x.setup.duration a.delay u limits.lasts

  -- the interval told began before the answer
  began : (a : Answer) → Told a → a.start ≤ a.time
  began a told = elim (cases_eq a.interval 0) [
    | inl e ↦
        let none : a.interval * x.setup.duration ≡ 0 = ap (λ i. i * x.setup.duration) e ∙ zero-mul x.setup.duration in
        omega (arith, told.start, told.after_start, none)
    | inr n ↦
        let since : pos a.time -ℤ pos x.setup.start ≡ pos (a.time - x.setup.start) = omega (arith, ints, told.after_start) in
        let due : pos (a.interval + x.setup.delay) ≤ℤ pos ((a.time - x.setup.start) / x.setup.duration) = subst (λ z. pos (a.interval + x.setup.delay) ≤ℤ int_div_euclid z (pos x.setup.duration)) since (told.in_time.due (omega (arith, n))) in
        let few : a.interval ≤ (a.time - x.setup.start) / x.setup.duration = omega (arith, ints) in
        let whole : a.interval * x.setup.duration ≤ a.time - x.setup.start = (le-div_iff_mul-le limits.lasts).0 few in
        omega (arith, told.start, told.after_start, whole)
  ]

  welcomed : (a : Answer) → Told a → Welcomed x a
  welcomed a told = record {
    fits = and_from _ _ (and_from _ _ (and_from _ _ (and_from _ _ (and_from _ _ (le-leb 1 a.delay low) (le-leb a.delay 16 high)) (le-leb 1 a.duration lasts)) (le-leb a.interval 4096 few)) (lt-ltb a.time (2 ^ 52) told.below)) (le-leb a.start a.time (began a told));
    due = elim (cases_eq a.interval 0) [
      | inl e ↦ or_left _ _ (eq-eqb _ _ e)
      | inr n ↦ or_right (eqb a.interval 0) (le_z (pos (a.interval + a.delay)) (interval_at (schedule_of a) (pos a.time))) (was (omega (arith, n)))
    ];
  }
    where
      low : 1 ≤ a.delay
      low = rw told.delay limits.delays.0

      high : a.delay ≤ 16
      high = rw told.delay limits.delays.1

      lasts : 1 ≤ a.duration
      lasts = rw told.duration limits.lasts

      few : a.interval ≤ 4096
      few = omega (arith, told.in_time.within, x.most)

      was : 0 < a.interval → le_z (pos (a.interval + a.delay)) (interval_at (schedule_of a) (pos a.time)) ≡ true
      was on = rw (told_intervals a told (pos a.time), told.delay) (let due = told.in_time.due on in sym (omega (arith, ints)))

pub answers_pass : AnswersPass
answers_pass cipher x a answered = welcomed x a (answered_told x a answered)
