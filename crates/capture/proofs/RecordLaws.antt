-- One record: its bytes, and that reading and writing are inverse.
use Rattle.std.proofs.Common.{◌≡◌, ℕ, ◌+◌, ◌-◌, ◌^◌, ◌<◌, ◌≤◌, Bool, true, ◌&&◌, List, [], ◌++◌, length, take, drop, Some, None, Option, sym, refl, ap, ◌∙◌, subst, arith}
use Rattle.std.specs.List.{AllByRecursion}
use Rattle.std.proofs.lemmas.List.{append_assoc, length-append}
use Rattle.std.proofs.lemmas.Bool.Decides.{nat_tests}
use Rattle.std.proofs.lemmas.Bool.{and_from, and_parts, cond-true, cond-false, cond_both, false_from_ne_true, both_ways}
use Rattle.std.proofs.lemmas.Option.{cond_some}
use Rattle.cipher.proofs.ByteLaws.{Byte}
use Rattle.packet.specs.Reading.{part}
use Rattle.packet.specs.Writing.{filled}
use Rattle.capture.specs.declared.forms.ByteOrder.{ByteOrder}
use Rattle.capture.specs.Format.{Record, record_bytes, record_length, regular}
use Rattle.capture.specs.Reading.{begins_with, word_at, record_at, read_record, RecordForm, Complete}
use Rattle.capture.proofs.FieldLaws.{length_number, length_part, part_of, next_part, words, Reads, words_read, words_again}
use Rattle.capture.proofs.FrontLaws.{begins_split, begins_take, begins_from}

-- the numbers before what was heard
abbrev pub lead : ByteOrder → Record → List ℕ
lead o r = words o [] r.seconds r.micros (length r.bytes) (length r.bytes)

pub length_lead : (o : ByteOrder) (r : Record) → length (lead o r) ≡ 16
length_lead o r = grind (arith, length-append, length_number)

pub length_record_bytes : (o : ByteOrder) (r : Record) → length (record_bytes o r) ≡ record_length r
unfolding record_bytes
length_record_bytes o r = grind (arith, length-append, length_number)

-- the parts of bytes that begin with those of a record
module _ (o : ByteOrder) (r : Record) (bytes rest : List ℕ) (e : bytes ≡ record_bytes o r ++ rest) where
  behind_lead : bytes ≡ lead o r ++ (r.bytes ++ rest)
  unfolding record_bytes
  behind_lead = e ∙ append_assoc (lead o r) r.bytes rest

  lead_read : Reads o 0 bytes r.seconds r.micros (length r.bytes) (length r.bytes)
  lead_read = words_read o [] 0 r.seconds r.micros _ _ refl bytes (r.bytes ++ rest) behind_lead

  pub record_long : length bytes ≡ record_length r + length rest
  record_long = grind (arith, length-append, length_record_bytes)

  record_fields : r.seconds < 2 ^ 32 → r.micros < 2 ^ 32 → length r.bytes < 2 ^ 32 → record_at o bytes ≡ r
  record_fields seconds micros small = λ i. record {
    seconds = lead_read.first seconds i;
    micros = lead_read.second micros i;
    bytes = (ap (λ n. part 16 n bytes) (lead_read.third small) ∙ part_of bytes (lead o r) r.bytes rest 16 _ behind_lead (length_lead o r) refl) i;
  }

pub regular_parts : (l : ℕ) (r : Record) → regular l r ≡ true → (r.micros < 1000000) × (length r.bytes ≤ l)
regular_parts l r h = grind (arith, nat_tests)

pub regular_from : (l : ℕ) (r : Record) → r.micros < 1000000 → length r.bytes ≤ l → regular l r ≡ true
regular_from l r time short = grind (arith, nat_tests)

-- whether a record stands there, as reading asks it
abbrev Stands : ByteOrder → ℕ → List ℕ → Bool
Stands o l bytes = regular l (record_at o bytes) && begins_with (record_bytes o (record_at o bytes)) bytes

-- where the code's questions are answered with yes, the stored length is that of what was heard
module _ (o : ByteOrder) (l : ℕ) (bytes : List ℕ) (all : AllByRecursion Byte bytes) (h : Complete o l bytes) where
  long : length (record_at o bytes).bytes ≡ word_at o 8 bytes
  long = length_part bytes 16 (word_at o 8 bytes) h.whole

  record_again : record_bytes o (record_at o bytes) ≡ take (record_length (record_at o bytes)) bytes
  unfolding record_bytes
  record_again =
      let room = h.lead in
      let same : lead o (record_at o bytes) ≡ take 16 bytes =
      (λ i. words o [] (word_at o 0 bytes) (word_at o 4 bytes) (long i) ((long ∙ h.uncut) i)) ∙ words_again o [] 0 bytes all (omega arith) refl in
      next_part bytes _ _ 16 (length (record_at o bytes).bytes) same (ap (λ n. part 16 n bytes) (sym long))

  stands_from : Stands o l bytes ≡ true
  stands_from =
      let short = h.short in
      let stored = long in
      let r = record_at o bytes in
      and_from _ _ (regular_from l r h.time (omega arith))
      (begins_take (record_bytes o r) bytes (ap (λ n. take n bytes) (length_record_bytes o r) ∙ sym record_again))

-- and they are answered so where the bytes of a regular record stand
complete_from : (o : ByteOrder) (l : ℕ) (r : Record) (bytes rest : List ℕ) → regular l r ≡ true → l < 2 ^ 32 → bytes ≡ record_bytes o r ++ rest → Complete o l bytes
complete_from o l r bytes rest fit small e =
    let parts = regular_parts l r fit in
    let whole = record_long o r bytes rest e in
    let reads = lead_read o r bytes rest e in
    let micros = reads.second (omega arith) in
    let stored = reads.third (omega arith) in
    let original = reads.fourth (omega arith) in
    record { lead = omega arith; time = omega arith; short = omega arith; uncut = stored ∙ sym original; whole = omega arith }

-- a record that stands there is regular, and its bytes come first
pub record_split : (o : ByteOrder) (l : ℕ) (bytes : List ℕ) → Stands o l bytes ≡ true → RecordForm o l bytes (Some (record_at o bytes))
record_split o l bytes t =
    let r = record_at o bytes in
    let both = and_parts _ _ t in
    (both.0, begins_split (record_bytes o r) bytes both.1 ∙ ap (λ n. record_bytes o r ++ drop n bytes) (length_record_bytes o r))

pub reads_record : (o : ByteOrder) (l : ℕ) (bytes : List ℕ) → AllByRecursion Byte bytes → Complete o l bytes → read_record o l bytes ≡ Some (record_at o bytes)
unfolding read_record
reads_record o l bytes all h = cond-true _ _ _ (stands_from o l bytes all h)

pub reads_no_record : (o : ByteOrder) (l : ℕ) (bytes : List ℕ) → l < 2 ^ 32 → (Complete o l bytes → ⊥) → read_record o l bytes ≡ None
unfolding read_record
reads_no_record o l bytes small none =
    cond-false _ _ _ (false_from_ne_true (Stands o l bytes) (λ t. let split = record_split o l bytes t in none (complete_from o l _ bytes _ split.0 small split.1)))

-- a regular record is read where its bytes stand
pub read_record_back : (o : ByteOrder) (l : ℕ) (r : Record) (rest : List ℕ) → regular l r ≡ true → r.seconds < 2 ^ 32 → l < 2 ^ 32 → read_record o l (record_bytes o r ++ rest) ≡ Some r
unfolding read_record
read_record_back o l r rest fit seconds small =
    let bytes = record_bytes o r ++ rest in
    let parts = regular_parts l r fit in
    let same = record_fields o r bytes rest refl seconds (omega arith) (omega arith) in
    let Good : Record → Type 0 = λ x. (regular l x && begins_with (record_bytes o x) bytes) ≡ true in
    cond-true _ _ _ (subst Good (sym same) (and_from _ _ fit (begins_from (record_bytes o r) bytes rest refl))) ∙ ap Some same

-- a record that is read stands there with the fields at their offsets
pub read_at : (o : ByteOrder) (l : ℕ) (bytes : List ℕ) (r : Record) → read_record o l bytes ≡ Some r → record_at o bytes ≡ r
unfolding read_record
read_at o l bytes r e = (cond_some _ _ _ e).1

pub read_form : (o : ByteOrder) (l : ℕ) (bytes : List ℕ) (r : Record) → read_record o l bytes ≡ Some r → RecordForm o l bytes (Some r)
unfolding read_record
read_form o l bytes r e =
    let both = cond_some _ _ _ e in
    let Good : Record → Type 0 = λ x. RecordForm o l bytes (Some x) in
    subst Good both.1 (record_split o l bytes both.0)

-- and where none is read, no regular one stands there
pub record_form : (o : ByteOrder) (l : ℕ) (bytes : List ℕ) → AllByRecursion Byte bytes → l < 2 ^ 32 → RecordForm o l bytes (read_record o l bytes)
unfolding read_record
record_form o l bytes all small =
    let Good : Option Record → Type 0 = RecordForm o l bytes in
    cond_both (Stands o l bytes) _ _ Good (record_split o l bytes)
    (λ f. λ r rest fit e. both_ways _ f (stands_from o l bytes all (complete_from o l r bytes rest fit small e)))

pub answered : (o : ByteOrder) (l : ℕ) (bytes : List ℕ) (x : Option Record) → AllByRecursion Byte bytes → l < 2 ^ 32 → x ≡ read_record o l bytes → RecordForm o l bytes x
answered o l bytes x all small e = subst (RecordForm o l bytes) (sym e) (record_form o l bytes all small)

-- the record that the code makes of its fields
pub found : (o : ByteOrder) (bytes : List ℕ) (seconds micros end : ℕ) → seconds ≡ word_at o 0 bytes → micros ≡ word_at o 4 bytes → end ≡ 16 + word_at o 8 bytes → ◌≡◌ {A = Record} (record { seconds = seconds; micros = micros; bytes = take (end - 16) (drop 16 bytes) }) (record_at o bytes)
found o bytes seconds micros end p q e =
    let n : end - 16 ≡ word_at o 8 bytes = omega arith in
    λ i. record { seconds = p i; micros = q i; bytes = take (n i) (drop 16 bytes) }

-- what was written reads back
pub written_back : (o : ByteOrder) (l : ℕ) (r : Record) (out after : List ℕ) → regular l r ≡ true → r.seconds < 2 ^ 32 → l < 2 ^ 32 → after ≡ filled (record_bytes o r) out → read_record o l after ≡ Some r
unfolding filled
written_back o l r out after fit seconds small e = ap (read_record o l) e ∙ read_record_back o l r _ fit seconds small
