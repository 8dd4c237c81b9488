-- Every record that is read can be written.
use Rattle.std.proofs.Common.{◌≡◌, ℕ, ◌+◌, ◌^◌, ◌<◌, ◌≤◌, List, [], ◌∷◌, reverse, length, Some, sym, ◌∙◌, subst, arith}
use Rattle.std.specs.List.{AllByRecursion}
use Rattle.std.proofs.ByRecursion.{All-take, All-drop}
use Rattle.std.proofs.lemmas.List.{length-reverse, reverse-reverse}
use Rattle.cipher.specs.Bytes.{from_le, from_be}
use Rattle.cipher.proofs.ByteLaws.{Byte, all_reverse}
use Rattle.packet.specs.Reading.{part}
use Rattle.packet.proofs.NumberLaws.{from_be_below}
use Rattle.capture.specs.declared.forms.ByteOrder.{ByteOrder}
use Rattle.capture.specs.declared.forms.ByteOrder.TheVariants.{Little, Big}
use Rattle.capture.specs.Format.{Record}
use Rattle.capture.specs.Reading.{read_record, records, records_within, word_at, Writable}
use Rattle.capture.proofs.FieldLaws.{length_part, value, word_is}
use Rattle.capture.proofs.RecordLaws.{read_at, read_form}
use Rattle.capture.proofs.RecordsLaws.{read_long}

-- a number of four bytes
value_below : (o : ByteOrder) (bs : List ℕ) → length bs ≡ 4 → AllByRecursion Byte bs → value o bs < 2 ^ 32
unfolding from_be
value_below Little bs long all = subst (λ b. from_le b < 2 ^ 32) (reverse-reverse bs) (from_be_below (reverse bs) 4 (length-reverse bs ∙ long) (all_reverse bs all))
value_below Big bs long all = from_be_below bs 4 long all

word_below : (o : ByteOrder) (from : ℕ) (bytes : List ℕ) → AllByRecursion Byte bytes → from + 4 ≤ length bytes → word_at o from bytes < 2 ^ 32
word_below o from bytes all room =
    subst (λ n. n < 2 ^ 32) (sym (word_is o from bytes)) (value_below o (part from 4 bytes) (length_part bytes from 4 room) (All-take Byte 4 _ (All-drop Byte from bytes all)))

read_writable : (o : ByteOrder) (l : ℕ) (bytes : List ℕ) (r : Record) → AllByRecursion Byte bytes → read_record o l bytes ≡ Some r → Writable l r
read_writable o l bytes r all e =
    let long = read_long o l bytes r e in
    ((read_form o l bytes r e).0, subst (λ x. x.seconds < 2 ^ 32) (read_at o l bytes r e) (word_below o 0 bytes all (omega arith)))

writable_within : (o : ByteOrder) (l : ℕ) (m bytes : List ℕ) → AllByRecursion Byte bytes → AllByRecursion (Writable l) (records_within m o l bytes)
unfolding records_within
writable_within o l [] bytes all = tt
writable_within o l (b ∷ m) bytes all = grind (arith, read_writable, writable_within o l m, All-drop)

pub records_writable : (o : ByteOrder) (l : ℕ) (bytes : List ℕ) → AllByRecursion Byte bytes → AllByRecursion (Writable l) (records o l bytes)
unfolding records
records_writable o l bytes all = writable_within o l bytes bytes all
