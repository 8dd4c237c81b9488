-- An order is written behind what fills the buffer so far.
use Rattle.std.proofs.Common.{◌≡◌, ℕ, ◌+◌, ◌≤◌, true, leb, List, [], ◌∷◌, length, take, Ok, Err, Result, sym, ap, ◌∙◌, subst, add-zero, arith}
use Rattle.std.specs.List.{AllByRecursion}
use Rattle.std.proofs.lemmas.List.{append-nil}
use Rattle.std.proofs.lemmas.Bool.{le-leb}
use Rattle.refusal.specs.declared.Refusal.{Refusal}
use Rattle.packet.specs.Writing.{filled, Puts}
use Rattle.packet.proofs.BufferLaws.{filled_whole, puts_same}
use Rattle.capture.specs.declared.forms.ByteOrder.TheVariants.{Little}
use Rattle.capture.specs.Format.{Record, record_bytes, record_length, records_bytes}
use Rattle.capture.specs.Writing.{write_record}
use Rattle.capture.proofs.RecordLaws.{length_record_bytes}
use Rattle.link.specs.Receiver.{out}
use Rattle.node.specs.declared.released.Released.{Released}
use Rattle.playback.specs.declared.counts.Counts.{Counts}
use Rattle.playback.specs.declared.step as step
use Rattle.capture.specs.declared.forms.Time.{Time}
use Rattle.playback.specs.declared.step.Step.TheVariants.{Out}
use Rattle.playback.specs.Steps.{order_of, order_out}
use Rattle.playback.specs.Walks.{step_said}
use Rattle.playback.specs.Counting.{Counted, order_bytes, Regular, StepFits}

-- in just as much room as it needs
pub written_whole : (r : Record) (part : List ℕ) → Regular r → length part ≡ record_length r → write_record Little 256 r part ≡ (Ok (record_length r), record_bytes Little r)
written_whole r part fine long =
    let room : leb (record_length r) (length part) ≡ true = le-leb _ _ (omega arith) in
    rw (fine, room) (ap (λ b. (Ok (record_length r), b)) (filled_whole (record_bytes Little r) part (length_record_bytes Little r ∙ sym long)))

pub ok_is : {X : Type 0} (x y : X) → ◌≡◌ {A = Result X Refusal} (Ok x) (Ok y) → x ≡ y
ok_is {X} x y e = ap value e
  where
    value : Result X Refusal → X
    value (Ok n) = n
    value (Err r) = x

-- the same, as a write of the code says it
pub wrote_order : (r : Record) (part after : List ℕ) (result : Result ℕ Refusal) (n : ℕ) → Regular r → length part ≡ record_length r → result ≡ (write_record Little 256 r part).0 → after ≡ (write_record Little 256 r part).1 → result ≡ Ok n → (n ≡ record_length r) × (after ≡ record_bytes Little r)
wrote_order r part after result n fine long value left is =
    let whole = written_whole r part fine long in
    (ok_is n (record_length r) (sym is ∙ value ∙ ap (λ x. x.0) whole), left ∙ ap (λ x. x.1) whole)

-- where nothing is written, nothing changes
pub puts_nothing : (at : ℕ) (buffer : List ℕ) → Puts at [] buffer buffer
puts_nothing at buffer done before here start = start ∙ ap (λ d. filled d before) (sym (append-nil done))

-- the order that a true release is
module _ (m : Time) (x : Released) (buffer : List ℕ) (right : x.verdict ≡ true) where
  abbrev pub order_told : List ℕ → Record
  order_told payload = record { seconds = m.seconds; micros = m.micros; bytes = payload }

  -- its payload, as the code cuts it from the buffer
  module _ (payload : List ℕ) (cut : payload ≡ take x.length buffer) where
    told_so : order_of (step_said (Out m x) buffer) ≡ order_told payload ∷ []
    told_so = ap (λ v. order_out m.seconds m.micros (out x.interval x.number (take x.length buffer) v)) right ∙ ap (λ b. order_told b ∷ []) (sym cut)

    bytes_so : order_bytes (step_said (Out m x) buffer) ≡ record_bytes Little (order_told payload)
    bytes_so = ap (records_bytes Little) told_so ∙ append-nil _

    long_so : length (order_bytes (step_said (Out m x) buffer)) ≡ record_length (order_told payload)
    long_so = ap length bytes_so ∙ length_record_bytes Little (order_told payload)

    module _ (s : step.Step.Step) (is : s ≡ Out m x) where
      pub order_fits : (c : Counts) (room : ℕ) → StepFits c (step_said s buffer) room → Regular (order_told payload) × (c.written + record_length (order_told payload) ≤ room)
      order_fits c room fits =
          let here : StepFits c (step_said (Out m x) buffer) room = subst (λ t. StepFits c (step_said t buffer) room) is fits in
          ((subst (AllByRecursion Regular) told_so here.order).0, subst (λ n. c.written + n ≤ room) long_so here.written)

      pub order_after : (c r : Counts) (before after : List ℕ) → r.read ≡ c.read → r.written ≡ c.written + record_length (order_told payload) → Puts c.written (record_bytes Little (order_told payload)) before after → Counted c (step_said s buffer) r before after
      order_after c r before after read written puts =
          subst (λ t. Counted c (step_said t buffer) r before after) (sym is)
          (record { read = read ∙ sym (add-zero _); written = written ∙ ap (λ n. c.written + n) (sym long_so); puts = puts_same _ _ _ _ _ (sym bytes_so) puts })
