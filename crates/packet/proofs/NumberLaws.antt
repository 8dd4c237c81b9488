-- Numbers and their bytes: what the integers' `from_be_bytes` and `to_be_bytes` answer, and how large a number is.
use Rattle.std.proofs.Common.{◌≡◌, ℕ, ◌+◌, ◌*◌, ◌/◌, ◌%◌, ◌^◌, ◌<◌, List, [], ◌∷◌, reverse, length, get_or, refl, ap, ◌∙◌, subst, pow-suc, arith}
use native.Mathlib.Nat.{div-div-eq-div-mul}
use Rattle.std.specs.List.{AllByRecursion}
use Rattle.std.proofs.lemmas.List.{length-reverse}
use Rattle.cipher.specs.Bytes.{from_le, to_le, from_be, to_be}
use Rattle.cipher.proofs.ByteLaws.{Byte, all_reverse, spelled}

pub two_bytes_read : (bs : List ℕ) → length bs ≡ 2 → get_or bs 0 0 * 256 + get_or bs 1 0 ≡ from_be bs
unfolding from_be from_le
two_bytes_read bs long = omega (arith, ap from_be (spelled bs 2 long))

pub four_bytes_read : (bs : List ℕ) → length bs ≡ 4 → get_or bs 0 0 * 16777216 + get_or bs 1 0 * 65536 + get_or bs 2 0 * 256 + get_or bs 3 0 ≡ from_be bs
unfolding from_be from_le
four_bytes_read bs long = omega (arith, ap from_be (spelled bs 4 long))

pub eight_bytes_read : (bs : List ℕ) → length bs ≡ 8 →
    get_or bs 0 0 * 72057594037927936 + get_or bs 1 0 * 281474976710656 + get_or bs 2 0 * 1099511627776 + get_or bs 3 0 * 4294967296 + get_or bs 4 0 * 16777216 + get_or bs 5 0 * 65536 + get_or bs 6 0 * 256 + get_or bs 7 0 ≡ from_be bs
unfolding from_be from_le
eight_bytes_read bs long = omega (arith, ap from_be (spelled bs 8 long))

pub ruleset numbers_read = (two_bytes_read, four_bytes_read, eight_bytes_read)

pub two_bytes_written : (x : ℕ) → (x / 256 % 256) ∷ (x % 256) ∷ [] ≡ to_be 2 x
unfolding to_be to_le
two_bytes_written x = refl

pub four_bytes_written : (x : ℕ) → (x / 16777216 % 256) ∷ (x / 65536 % 256) ∷ (x / 256 % 256) ∷ (x % 256) ∷ [] ≡ to_be 4 x
unfolding to_be to_le
four_bytes_written x = simp div-div-eq-div-mul

from_le_below : (bs : List ℕ) → AllByRecursion Byte bs → from_le bs < 256 ^ length bs
unfolding from_le
from_le_below [] h = omega arith
from_le_below (b ∷ bs) h = let rest = from_le_below bs h.1 in simp pow-suc (omega arith)

pub from_be_below : (bs : List ℕ) (n : ℕ) → length bs ≡ n → AllByRecursion Byte bs → from_be bs < 256 ^ n
unfolding from_be
from_be_below bs n long h = subst (λ k. from_le (reverse bs) < 256 ^ k) (length-reverse bs ∙ long) (from_le_below (reverse bs) (all_reverse bs h))
