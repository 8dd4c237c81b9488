-- The records of a capture, one after another.
use Rattle.std.proofs.Common.{◌≡◌, ℕ, ◌+◌, ◌-◌, ◌^◌, ◌<◌, ◌≤◌, List, [], ◌∷◌, ◌++◌, length, take, drop, Some, None, Option, sym, refl, ap, ◌∙◌, arith}
use Rattle.std.specs.List.{AllByRecursion}
use Rattle.std.proofs.lemmas.Grind.{common_steps}
use Rattle.std.proofs.lemmas.List.{append_assoc, drop_at, take_rest}
use Rattle.capture.specs.declared.forms.ByteOrder.{ByteOrder}
use Rattle.capture.specs.declared.forms as forms
use Rattle.capture.specs.declared.records.Records.{Records}
use Rattle.capture.specs.Format.{Record, record_said, record_bytes, record_length, records_bytes}
use Rattle.capture.specs.Reading.{read_record, onward, records_within, records, Whole, Writable}
use Rattle.capture.specs.Ahead.{unread, GivesRecord}
use Rattle.capture.proofs.RecordLaws.{length_record_bytes, record_long, read_form, read_record_back}

-- a record that is read takes its length from what is there
pub read_long : (o : ByteOrder) (l : ℕ) (bytes : List ℕ) (r : Record) → read_record o l bytes ≡ Some r → length bytes ≡ record_length r + length (drop (record_length r) bytes)
read_long o l bytes r e = record_long o r bytes _ (read_form o l bytes r e).1

-- any bound that is large enough gives the same records
within_same : (o : ByteOrder) (l : ℕ) (m n bytes : List ℕ) → length bytes ≤ length m → length bytes ≤ length n → records_within m o l bytes ≡ records_within n o l bytes
unfolding records_within
within_same o l [] [] bytes p q = refl
within_same o l [] (b ∷ n) bytes p q = grind (arith, read_long)
within_same o l (a ∷ m) [] bytes p q = grind (arith, read_long)
within_same o l (a ∷ m) (b ∷ n) bytes p q = grind (arith, read_long, within_same o l m n)

-- the first record, and then those behind its bytes
records_onward : (o : ByteOrder) (l : ℕ) (bytes : List ℕ) → records o l bytes ≡ onward (read_record o l bytes) (λ n. records o l (drop n bytes))
unfolding records records_within
records_onward o l [] = grind (arith, read_long o l [])
records_onward o l (b ∷ bytes) = grind (arith, read_long o l (b ∷ bytes), within_same)

pub records_none : (o : ByteOrder) (l : ℕ) (bytes : List ℕ) → read_record o l bytes ≡ None → records o l bytes ≡ []
records_none o l bytes e = grind (arith, records_onward)

pub records_one : (o : ByteOrder) (l : ℕ) (bytes : List ℕ) (r : Record) → read_record o l bytes ≡ Some r → records o l bytes ≡ r ∷ records o l (drop (record_length r) bytes)
records_one o l bytes r e = grind (arith, records_onward)

-- what was written, one record after another, is read so
pub records_back : (o : ByteOrder) (l : ℕ) (rs : List Record) → AllByRecursion (Writable l) rs → l < 2 ^ 32 → records o l (records_bytes o rs) ≡ rs
unfolding records records_within
records_back o l [] fit small = refl
records_back o l (r ∷ rs) fit small =
    let first = read_record_back o l r (records_bytes o rs) fit.0.0 fit.0.1 small in
    let behind = drop_at (record_bytes o r) (records_bytes o rs) _ (length_record_bytes o r) in
    let others = records_back o l rs fit.1 small in
    grind (arith, records_one)

-- what is left behind the first record, read on
whole_by : (o : ByteOrder) (l : ℕ) (bytes : List ℕ) (x : Option Record) → read_record o l bytes ≡ x → ((r : Record) → x ≡ Some r → Whole o l (drop (record_length r) bytes) (records o l (drop (record_length r) bytes))) → Whole o l bytes (records o l bytes)
whole_by o l bytes None e onwards = let none = records_none o l bytes e in record { rest = bytes; split = grind (arith, common_steps); ends = e }
whole_by o l bytes (Some r) e onwards =
    let w = onwards r refl in
    let form = read_form o l bytes r e in
    let one = records_one o l bytes r e in
    record { rest = w.rest; split = grind (arith, common_steps, append_assoc); ends = w.ends }

whole_within : (o : ByteOrder) (l : ℕ) (m bytes : List ℕ) → length bytes ≤ length m → Whole o l bytes (records o l bytes)
whole_within o l [] bytes room = whole_by o l bytes (read_record o l bytes) refl (λ r e. let long = read_long o l bytes r e in absurd (omega arith))
whole_within o l (b ∷ m) bytes room = whole_by o l bytes (read_record o l bytes) refl (λ r e. let long = read_long o l bytes r e in whole_within o l m _ (omega arith))

pub records_whole : (o : ByteOrder) (l : ℕ) (bytes : List ℕ) → Whole o l bytes (records o l bytes)
records_whole o l bytes = whole_within o l bytes bytes (omega arith)

-- what a reader of records has ahead, before and after it gives one, or none
pub takes : (before after : Records) (heard : forms.Record.Record) → after.format ≡ before.format → unread after ≡ take (length (unread before) - record_length (record_said heard)) (drop (record_length (record_said heard)) (unread before)) → Some (record_said heard) ≡ read_record before.format.order before.format.limit (unread before) → GivesRecord before (Some heard) after
takes before after heard same part e =
    let r = record_said heard in
    let left = part ∙ take_rest (unread before) (record_length r) in
    let read = sym e in
    let o = before.format.order in
    let l = before.format.limit in
    let bytes = unread before in
    let form = read_form o l bytes r read in
    record {
      taken = record {
        first = records_one o l bytes r read ∙ ap (λ rs. r ∷ rs) (sym (λ i. records (same i).order (same i).limit (left i)));
        split = form.1 ∙ ap (λ b. record_bytes o r ++ b) (sym left);
        long = read_long o l bytes r read ∙ ap (λ b. record_length r + length b) (sym left);
        fits = form.0;
      };
      format = same;
    }

pub ends : (s : Records) → None ≡ read_record s.format.order s.format.limit (unread s) → GivesRecord s None s
ends s e =
    let none = records_none _ _ _ (sym e) in
    record { taken = record { none = none; still = none; same = refl }; format = refl }
