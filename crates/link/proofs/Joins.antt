-- What a join gives: a sound receiver, whose intervals are the sender's own if the answer was the sender's.
use Rattle.std.proofs.Common.{◌≡◌, ℕ, ◌+◌, ◌^◌, ◌<◌, ◌≤◌, Bool, true, false, cond, ◌&&◌, eqb, ltb, leb, List, [], ◌∷◌, ◌++◌, length, ℤ, pos, Ok, Err, Result, sym, refl, ap, ◌∙◌, subst, inl, inr, arith}
use lib.Signed.{le_z}
use Rattle.std.specs.List.{AllByRecursion}
use Rattle.std.proofs.lemmas.List.{length-append}
use Rattle.std.proofs.lemmas.Int.{ints}
use Rattle.std.proofs.lemmas.Bool.{true≢false, and_parts, leb-true, eqb-true, or_cases}
use Rattle.refusal.specs.declared.Refusal.{Refusal}
use Rattle.refusal.specs.declared.Refusal.TheVariants.{NotThisKind, WrongLength}
use Rattle.cipher.specs.Blocks.{Make}
use Rattle.cipher.specs.Keys.{key_bytes, key_of}
use Rattle.packet.specs.Kinds.{Answer, an_answer, CoveredFits}
use Rattle.packet.specs.Layouts.{answer_covered, answer_bytes}
use Rattle.packet.specs.Reading.{is_kind, read_answer, answer_of}
use Rattle.packet.proofs.LayoutLaws.{length_answer_covered}
use Rattle.packet.proofs.ReadBack.{read_back}
use Rattle.packet.proofs.ReadingLaws.{reads_answer}
use Rattle.link.specs.Clock.{interval_at, sender_time, early_at}
use Rattle.link.specs.Reception.{Sound}
use Rattle.link.specs.Receiver.{Receiver, world, reading}
use Rattle.link.specs.Base.{base_interval}
use Rattle.link.specs.Sender.{Sender}
use Rattle.link.specs.Histories.{Joined}
use Rattle.link.specs.Join.{Node, schedule_of, key_was_due, finish_questions, joined, finish}
use Rattle.link.proofs.Asking.{Yes, all_behind, granted_ok}
use Rattle.link.proofs.Clocks.{interval_grows}
use Rattle.link.proofs.Welcomes.{Told, answered_told, told_intervals}

-- the key of an answer was due at the answer's time, so it is due at every reading since the request
joined_due : (node : Node) (t : ℕ) (a : Answer) → node.requested ≤ t → key_was_due a ≡ true → 0 < a.interval → early_at (joined node t a).clock t a.interval ≡ false
joined_due node t a later was on = elim (or_cases (eqb a.interval 0) (le_z (pos (a.interval + a.delay)) (interval_at (schedule_of a) (pos a.time))) was) [
  | inl e ↦ absurd (omega (arith, eqb-true a.interval 0 e))
  | inr e ↦
      let more = interval_grows (schedule_of a) (pos a.time) (sender_time (joined node t a).clock t) (omega (arith, ints)) in
      sym (omega (arith, ints))
]

-- every receiver that a join gives is sound, and holds nothing
pub finish_sound : (cipher : Make) (node : Node) (t : ℕ) (bytes : List ℕ) (r : Receiver) → finish cipher node t bytes ≡ Ok r → Sound (world cipher r.clock) r.state × (r.state.held ≡ [])
unfolding finish
finish_sound cipher node t bytes r granted =
    let both = granted_ok (finish_questions cipher node t bytes) (joined node t (answer_of bytes)) r granted in
    let h = all_behind Yes (reading (read_answer bytes)) _ both.0 in
    let later : node.requested ≤ t = leb-true node.requested t (and_parts (ltb t (2 ^ 52)) (leb node.requested t) h.0).1 in
    subst (λ (q : Receiver). Sound (world cipher q.clock) q.state × (q.state.held ≡ [])) both.1
    (record { apart = λ p. omega arith; due = joined_due node t (answer_of bytes) later h.1.1.1.0 }, refl)

-- a packet whose reading is granted was read, and so has its kind's length
read_yes : {P : Type 0} (read : Result P Refusal) → AllByRecursion Yes (reading read) → (p : P) × (read ≡ Ok p)
read_yes (Ok p) h = (p, refl)
read_yes (Err e) h = absurd (true≢false (sym h.0))

read_long : {A : Type 0} (b c : Bool) (a d : A) (e f : Refusal) → cond b (cond c (Ok a) (Err e)) (Err f) ≡ Ok d → c ≡ true
read_long true true a d e f h = refl
read_long true false a d e f h = absurd (let z : ◌≡◌ {A = ℕ} 0 1 = cc in omega arith)
read_long false c a d e f h = absurd (let z : ◌≡◌ {A = ℕ} 0 1 = cc in omega arith)

answer_long : (bytes : List ℕ) → AllByRecursion Yes (reading (read_answer bytes)) → length bytes ≡ 48
answer_long bytes h =
    let was = read_yes (read_answer bytes) h in
    let long = and_parts (leb 48 (length bytes)) (leb (length bytes) 48) (read_long (is_kind 2 bytes) (leb 48 (length bytes) && leb (length bytes) 48) (answer_of bytes) was.0 WrongLength NotThisKind was.1) in
    let low = leb-true 48 (length bytes) long.0 in
    let high = leb-true (length bytes) 48 long.1 in
    omega arith

all_front : {X : Type 0} (P : X → Type 0) (xs ys : List X) → AllByRecursion P (xs ++ ys) → AllByRecursion P xs
all_front P [] ys h = tt
all_front P (y ∷ xs) ys h = (h.0, all_front P xs ys h.1)

-- an answer whose covered part fits, and that is as long as an answer, reads as itself
pub answer_reads : (a : Answer) → CoveredFits a → length (answer_bytes a) ≡ 48 → answer_of (answer_bytes a) ≡ a
unfolding answer_bytes answer_covered
answer_reads a covered long =
    let tag_long : length a.tag ≡ 8 = omega (arith, length_answer_covered a covered.1, length-append (answer_covered a) a.tag, long) in
    let back = read_back (an_answer a) (covered, tag_long) in
    let read = reads_answer (answer_bytes a) long refl in
    cc (sym read ∙ back)

module _ {cipher : Make} (x : Sender cipher) where
  -- a receiver that joined with the sender's answer counts intervals as the sender does
  pub record OnSchedule (r : Receiver) : Type 0 where
    pub intervals : (u : ℤ) → interval_at r.clock.schedule u ≡ base_interval x.setup u
    pub delay : r.clock.schedule.delay ≡ x.setup.delay

  module _ (r : Receiver) (j : Joined x r) where
    join : AllByRecursion Yes (finish_questions cipher j.node j.reading (answer_bytes j.said)) × (joined j.node j.reading (answer_of (answer_bytes j.said)) ≡ r)
    unfolding finish
    join = granted_ok (finish_questions cipher j.node j.reading (answer_bytes j.said)) (joined j.node j.reading (answer_of (answer_bytes j.said))) r j.finished

    told : Told x j.said
    told = answered_told x j.said j.answered

    -- the receiver is made of what the sender said
    from_said : joined j.node j.reading j.said ≡ r
    from_said = ap (joined j.node j.reading) (sym (answer_reads j.said told.fits (answer_long (answer_bytes j.said) (all_front Yes (reading (read_answer (answer_bytes j.said))) _ join.0)))) ∙ join.1

    pub joined_on_schedule : OnSchedule r
    joined_on_schedule = subst OnSchedule from_said (record { intervals = told_intervals x j.said told; delay = told.delay })

    -- its newest key is the chain's key of its interval, as the 16 bytes of that key tell it
    pub joined_newest : r.state.newest ≡ key_of (key_bytes (x.chain r.state.reached))
    joined_newest = subst (λ (q : Receiver). q.state.newest ≡ key_of (key_bytes (x.chain q.state.reached))) from_said (ap key_of told.in_time.of_chain)
