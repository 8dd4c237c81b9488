-- Laws of the bytes of records one behind the other, and of what holds of all in front.
use Rattle.std.proofs.Common.{◌≡◌, ◌+◌, List, [], ◌∷◌, ◌++◌, map, length, sym, refl, ap, ◌∙◌, append_assoc, arith}
use Rattle.std.specs.List.{flat_map, AllByRecursion}
use Rattle.std.proofs.lemmas.List.{length-append}
use Rattle.capture.specs.declared.forms.ByteOrder.{ByteOrder}
use Rattle.capture.specs.Format.{Record, record_bytes, records_bytes}
use Rattle.capture.proofs.RecordLaws.{length_record_bytes}
use Rattle.playback.specs.Playing.{total}

pub total_append : (xs ys : List Record) → total (xs ++ ys) ≡ total xs + total ys
total_append [] ys = omega arith
total_append (x ∷ xs) ys = omega (arith, total_append xs ys)

pub length_records : (o : ByteOrder) (xs : List Record) → length (records_bytes o xs) ≡ total xs
length_records o [] = refl
length_records o (x ∷ xs) = length-append (record_bytes o x) _ ∙ (λ i. length_record_bytes o x i + length_records o xs i)

-- what holds of all holds of those in front
pub all_in_front : {X : Type 0} (P : X → Type 0) (xs ys : List X) → AllByRecursion P (xs ++ ys) → AllByRecursion P xs
all_in_front P [] ys all = tt
all_in_front P (x ∷ xs) ys all = (all.0, all_in_front P xs ys all.1)
