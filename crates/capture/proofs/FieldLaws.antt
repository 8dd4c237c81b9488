-- Numbers of four bytes in either byte order: one at an offset, and four in a row.
use Rattle.std.proofs.Common.{◌≡◌, ℕ, ◌+◌, ◌*◌, ◌^◌, ◌<◌, ◌≤◌, List, ◌++◌, length, get_or, take, sym, refl, ap, ◌∙◌, arith, Fits, w8}
use Rattle.std.specs.List.{AllByRecursion}
use Rattle.std.proofs.lemmas.Grind.{common_steps}
use Rattle.std.proofs.lemmas.List.{append_assoc, length-append, take_at, drop_at}
use Rattle.std.proofs.Math.Seq.{take-add}
use Rattle.std.proofs.ByRecursion.{All-take, All-drop, All-from_get_or}
use Rattle.cipher.specs.Bytes.{from_le, from_be}
use Rattle.cipher.proofs.ByteLaws.{Byte, spelled, from_le_4, from_to_le, to_from_le, length_to_le, from_to_be, to_from_be, length_to_be}
use Rattle.packet.specs.Reading.{part}
use Rattle.packet.specs.Writing.{filled, Puts}
use Rattle.capture.specs.declared.forms.ByteOrder.{ByteOrder}
use Rattle.capture.specs.declared.forms.ByteOrder.TheVariants.{Little, Big}
use Rattle.capture.specs.Format.{number}
use Rattle.capture.specs.Reading.{word_at}

-- the elements of a slice of bytes are bytes
pub all_bytes : (bytes : List ℕ) → ((i : ℕ) → Fits w8 (get_or bytes i 0)) → AllByRecursion Byte bytes
all_bytes bytes h = All-from_get_or Byte bytes 0 (λ i below. (h i).fits)

-- what `u32::from_le_bytes` answers
pub four_bytes_le : (bs : List ℕ) → length bs ≡ 4 → get_or bs 0 0 + get_or bs 1 0 * 256 + get_or bs 2 0 * 65536 + get_or bs 3 0 * 16777216 ≡ from_le bs
four_bytes_le bs h = from_le_4 _ _ _ _ ∙ ap from_le (sym (spelled bs 4 h))

pub length_number : (o : ByteOrder) (n x : ℕ) → length (number o n x) ≡ n
length_number Little n x = length_to_le n x
length_number Big n x = length_to_be n x

pub length_part : (bytes : List ℕ) (from n : ℕ) → from + n ≤ length bytes → length (part from n bytes) ≡ n
length_part bytes from n room = grind (arith, common_steps)

-- bytes that hold x behind `before`
pub part_of : (bytes before x after : List ℕ) (from n : ℕ) → bytes ≡ before ++ (x ++ after) → length before ≡ from → length x ≡ n → part from n bytes ≡ x
part_of bytes before x after from n e here long = grind (arith, take_at, drop_at)

-- one more part of the bytes behind their start
pub next_part : (bytes done x : List ℕ) (from n : ℕ) → done ≡ take from bytes → x ≡ part from n bytes → done ++ x ≡ take (from + n) bytes
next_part bytes done x from n d e = (λ i. d i ++ e i) ∙ sym (take-add from n bytes)

-- the number that bytes write
abbrev pub value : ByteOrder → List ℕ → ℕ
value Little bs = from_le bs
value Big bs = from_be bs

pub word_is : (o : ByteOrder) (from : ℕ) (bytes : List ℕ) → word_at o from bytes ≡ value o (part from 4 bytes)
word_is Little from bytes = refl
word_is Big from bytes = refl

value_number : (o : ByteOrder) (n x : ℕ) → x < 256 ^ n → value o (number o n x) ≡ x
value_number Little n x small = from_to_le n x small
value_number Big n x small = from_to_be n x small

number_value : (o : ByteOrder) (bs : List ℕ) → AllByRecursion Byte bs → number o (length bs) (value o bs) ≡ bs
number_value Little bs all = to_from_le bs all
number_value Big bs all = to_from_be bs all

-- a number that is written is read again
pub word_of : (o : ByteOrder) (bytes before : List ℕ) (x : ℕ) (after : List ℕ) (from : ℕ) → bytes ≡ before ++ (number o 4 x ++ after) → length before ≡ from → x < 2 ^ 32 → word_at o from bytes ≡ x
word_of o bytes before x after from e here small =
    word_is o from bytes ∙ ap (value o) (part_of bytes before _ after from 4 e here (length_number o 4 x)) ∙ value_number o 4 x small

-- a number that is read is written as the bytes it was read from
pub number_word : (o : ByteOrder) (bytes : List ℕ) (from : ℕ) → AllByRecursion Byte bytes → from + 4 ≤ length bytes → number o 4 (word_at o from bytes) ≡ part from 4 bytes
number_word o bytes from all room =
    (λ i. number o (sym (length_part bytes from 4 room) i) (word_is o from bytes i)) ∙ number_value o (part from 4 bytes) (All-take Byte 4 _ (All-drop Byte from bytes all))

-- four numbers behind `done`
abbrev pub words : ByteOrder → List ℕ → ℕ → ℕ → ℕ → ℕ → List ℕ
words o done a b c d = done ++ number o 4 a ++ number o 4 b ++ number o 4 c ++ number o 4 d

-- four numbers are read from an offset on, as far as they fit
pub record Reads (o : ByteOrder) (n : ℕ) (bytes : List ℕ) (a b c d : ℕ) : Type 0 where
  pub first : a < 2 ^ 32 → word_at o n bytes ≡ a
  pub second : b < 2 ^ 32 → word_at o (n + 4) bytes ≡ b
  pub third : c < 2 ^ 32 → word_at o (n + 4 + 4) bytes ≡ c
  pub fourth : d < 2 ^ 32 → word_at o (n + 4 + 4 + 4) bytes ≡ d

module _ (o : ByteOrder) (done : List ℕ) (n a b c d : ℕ) (here : length done ≡ n) where
  one : length (done ++ number o 4 a) ≡ n + 4
  one = grind (arith, length-append, length_number)

  two : length (done ++ number o 4 a ++ number o 4 b) ≡ n + 4 + 4
  two = grind (arith, length-append, length_number)

  three : length (done ++ number o 4 a ++ number o 4 b ++ number o 4 c) ≡ n + 4 + 4 + 4
  three = grind (arith, length-append, length_number)

  -- where they are written they are read
  pub words_read : (bytes rest : List ℕ) → bytes ≡ words o done a b c d ++ rest → Reads o n bytes a b c d
  words_read bytes rest e =
      let at_d = e ∙ append_assoc _ (number o 4 d) rest in
      let at_c = at_d ∙ append_assoc _ (number o 4 c) _ in
      let at_b = at_c ∙ append_assoc _ (number o 4 b) _ in
      let at_a = at_b ∙ append_assoc done (number o 4 a) _ in
      record {
        first = word_of o bytes done a _ _ at_a here;
        second = word_of o bytes _ b _ _ at_b one;
        third = word_of o bytes _ c _ _ at_c two;
        fourth = word_of o bytes _ d _ _ at_d three;
      }

  -- put one after another, they come behind what fills the buffer's start so far
  pub words_put : (out s t u v w : List ℕ) → s ≡ filled done out → Puts n (number o 4 a) s t → Puts (n + 4) (number o 4 b) t u → Puts (n + 4 + 4) (number o 4 c) u v → Puts (n + 4 + 4 + 4) (number o 4 d) v w → w ≡ filled (words o done a b c d) out
  words_put out s t u v w start first second third fourth =
      fourth _ out three (third _ out two (second _ out one (first done out here start)))

-- where they are read they are written
pub words_again : (o : ByteOrder) (done : List ℕ) (n : ℕ) (bytes : List ℕ) → AllByRecursion Byte bytes → n + 16 ≤ length bytes → done ≡ take n bytes → words o done (word_at o n bytes) (word_at o (n + 4) bytes) (word_at o (n + 4 + 4) bytes) (word_at o (n + 4 + 4 + 4) bytes) ≡ take (n + 4 + 4 + 4 + 4) bytes
words_again o done n bytes all room start =
    let next : (done : List ℕ) (from : ℕ) → from + 4 ≤ length bytes → done ≡ take from bytes → done ++ number o 4 (word_at o from bytes) ≡ take (from + 4) bytes =
    λ done from room start. next_part bytes done _ from 4 start (number_word o bytes from all room) in
    next _ (n + 4 + 4 + 4) (omega arith) (next _ (n + 4 + 4) (omega arith) (next _ (n + 4) (omega arith) (next done n (omega arith) start)))
