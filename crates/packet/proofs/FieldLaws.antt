-- Fields of byte strings: found in parts that follow one another, and joined to such parts, by offsets and lengths alone.
use Rattle.std.proofs.Common.{◌≡◌, ℕ, ◌+◌, ◌-◌, ◌^◌, ◌<◌, ◌≤◌, List, [], ◌∷◌, ◌++◌, length, get_or, take, drop, sym, ap, ◌∙◌, arith, length-append}
use Rattle.std.specs.List.{AllByRecursion}
use Rattle.std.proofs.ByRecursion.{All-take, All-drop}
use Rattle.std.proofs.lemmas.List.{drop-take, take-append-drop}
use Rattle.std.proofs.lemmas.Grind.{common_steps}
use Rattle.cipher.specs.Bytes.{to_be, from_be}
use Rattle.cipher.proofs.ByteLaws.{Byte, from_to_be, to_from_be, length_to_be}
use Rattle.packet.specs.Reading.{part, byte_at}
use Rattle.packet.proofs.NumberLaws.{from_be_below}

-- a part and a byte, which do not compute where the offset is a numeral
unfoldable pub field : ℕ → ℕ → List ℕ → List ℕ
field from n bytes = part from n bytes

unfoldable pub byte : ℕ → List ℕ → ℕ
byte from bytes = byte_at from bytes

pub length_field : (from n : ℕ) (bytes : List ℕ) → from + n ≤ length bytes → length (field from n bytes) ≡ n
unfolding field
length_field from n bytes room = grind (arith, common_steps)

pub byte_is_field : (from : ℕ) (bytes : List ℕ) → from < length bytes → byte from bytes ∷ [] ≡ field from 1 bytes
unfolding field byte
byte_is_field from bytes room = grind (arith, common_steps)

pub field_behind : (from n x : ℕ) (xs : List ℕ) → 0 < from → field from n (x ∷ xs) ≡ field (from - 1) n xs
unfolding field
field_behind from n x xs behind = grind (arith, common_steps)

pub field_in_front : (from n : ℕ) (xs ys : List ℕ) → from + n ≤ length xs → field from n (xs ++ ys) ≡ field from n xs
unfolding field
field_in_front from n xs ys room = grind (arith, common_steps)

pub field_last : (from n : ℕ) (xs ys : List ℕ) → from ≡ length xs → n ≡ length ys → field from n (xs ++ ys) ≡ ys
unfolding field
field_last from n xs ys here long = grind (arith, common_steps)

pub field_whole : (n : ℕ) (xs : List ℕ) → n ≡ length xs → field 0 n xs ≡ xs
unfolding field
field_whole n xs long = grind (arith, common_steps)

pub field_next : (from n at m : ℕ) (bytes : List ℕ) → at ≡ from + n → field from n bytes ++ field at m bytes ≡ field from (n + m) bytes
unfolding field
field_next from n at m bytes here =
    let split = take-append-drop n (take (n + m) (drop from bytes)) in
    grind (arith, common_steps, drop-take)

pub field_rest : (n kind : ℕ) (bytes : List ℕ) → length bytes ≡ n + 1 → get_or bytes 0 0 ≡ kind → kind ∷ field 1 n bytes ≡ bytes
unfolding field
field_rest n kind bytes long first = grind (arith, common_steps)

bytes_field : (from n : ℕ) (bytes : List ℕ) → AllByRecursion Byte bytes → AllByRecursion Byte (field from n bytes)
unfolding field
bytes_field from n bytes all = All-take Byte n _ (All-drop Byte from bytes all)

pub below_field : (from n : ℕ) (bytes : List ℕ) → AllByRecursion Byte bytes → from + n ≤ length bytes → from_be (field from n bytes) < 256 ^ n
below_field from n bytes all room =
    from_be_below (field from n bytes) n (length_field from n bytes room) (bytes_field from n bytes all)

pub number_field : (from n : ℕ) (bytes : List ℕ) → AllByRecursion Byte bytes → from + n ≤ length bytes → to_be n (from_be (field from n bytes)) ≡ field from n bytes
number_field from n bytes all room =
    ap (λ k. to_be k (from_be (field from n bytes))) (sym (length_field from n bytes room)) ∙ to_from_be (field from n bytes) (bytes_field from n bytes all)

-- the fields of parts that follow one another
pub ruleset found = (byte_is_field, field_behind, field_in_front, field_last, field_whole, length-append, length_to_be, from_to_be)

-- fields that follow one another as one
pub ruleset joined = (byte_is_field, field_next, field_rest, number_field, below_field, length_field)
