-- Laws of numbers as bytes: reading and writing are inverse in both orders, and what the integer methods of the language give.
use Rattle.std.proofs.Common.{◌≡◌, ℕ, zero, suc, ◌+◌, ◌*◌, ◌/◌, ◌%◌, ◌^◌, ◌<◌, List, [], ◌∷◌, map, reverse, length, get_or, sym, refl, ap, ◌∙◌, subst, pow-suc, arith, w8}
use native.Mathlib.Nat.{div-div-eq-div-mul}
use mir.Val.{Val}
use denote.Array.{each}
use denote.Plain.{UInt}
use denote.Shadow.{shadow}
use borrow.Author.Rules.{elem_Fits}
use Rattle.std.specs.List.{range_with_len, AllByRecursion}
use Rattle.std.proofs.lemmas.List.{reverse-reverse, reverse-append, length-reverse}
use Rattle.std.proofs.ByRecursion.{All-append, All-from_get_or}
use Rattle.std.proofs.lemmas.List.FromFn.{fill_by_all}
use Rattle.std.proofs.lemmas.Nat.{div_below}
use Rattle.cipher.specs.Bytes.{from_le, to_le, from_be, to_be}

abbrev pub Byte : ℕ → Type 0
Byte b = b < 256

pub from_to_le : (n x : ℕ) → x < 256 ^ n → from_le (to_le n x) ≡ x
unfolding from_le to_le
from_to_le zero x h = omega arith
from_to_le (suc n) x h =
    let small : x / 256 < 256 ^ n = div_below x 256 (256 ^ n) (omega arith) (rw pow-suc at h) in
    ap (λ y. x % 256 + 256 * y) (from_to_le n (x / 256) small) ∙ omega arith

pub to_from_le : (bs : List ℕ) → AllByRecursion Byte bs → to_le (length bs) (from_le bs) ≡ bs
unfolding from_le to_le
to_from_le [] h = refl
to_from_le (b ∷ bs) h =
    let low : (b + 256 * from_le bs) % 256 ≡ b = omega arith in
    let rest : (b + 256 * from_le bs) / 256 ≡ from_le bs = omega arith in
    (λ i. low i ∷ to_le (length bs) (rest i)) ∙ ap (λ l. b ∷ l) (to_from_le bs h.1)

pub length_to_le : (n x : ℕ) → length (to_le n x) ≡ n
unfolding to_le
length_to_le zero x = refl
length_to_le (suc n) x = ap suc (length_to_le n (x / 256))

pub all_reverse : (bs : List ℕ) → AllByRecursion Byte bs → AllByRecursion Byte (reverse bs)
all_reverse [] h = tt
all_reverse (b ∷ bs) h =
    subst (AllByRecursion Byte) (sym (reverse-append (b ∷ []) bs)) (All-append Byte (reverse bs) (b ∷ []) (all_reverse bs h.1) (h.0, tt))

pub from_to_be : (n x : ℕ) → x < 256 ^ n → from_be (to_be n x) ≡ x
unfolding from_be to_be
from_to_be n x h = ap from_le (reverse-reverse (to_le n x)) ∙ from_to_le n x h

pub to_from_be : (bs : List ℕ) → AllByRecursion Byte bs → to_be (length bs) (from_be bs) ≡ bs
unfolding from_be to_be
to_from_be bs h =
    ap (λ n. reverse (to_le n (from_le (reverse bs)))) (sym (length-reverse bs)) ∙ ap reverse (to_from_le (reverse bs) (all_reverse bs h)) ∙ reverse-reverse bs

pub length_to_be : (n x : ℕ) → length (to_be n x) ≡ n
unfolding to_be
length_to_be n x = length-reverse (to_le n x) ∙ length_to_le n x

-- a list of known length, element by element
pub spelled : (xs : List ℕ) (n : ℕ) → length xs ≡ n → xs ≡ map (λ i. get_or xs i 0) (range_with_len 0 n)
spelled xs n h = fill_by_all (λ i. get_or xs i 0) xs n 0 h (λ k below. refl)

-- the elements of an array of bytes are bytes
pub array_bytes : (xs : List ℕ) (us : List Val) → shadow (each ℕ (UInt w8).own_val xs us) → AllByRecursion Byte xs
array_bytes xs us h = All-from_get_or Byte xs 0 (λ i below. (elem_Fits w8 w8 xs us i h tt).fits)

-- what `u64::from_be_bytes` answers
pub from_be_8 : (a b c d e f g h : ℕ) →
    a * 72057594037927936 + b * 281474976710656 + c * 1099511627776 + d * 4294967296 + e * 16777216 + f * 65536 + g * 256 + h ≡ from_be (a ∷ b ∷ c ∷ d ∷ e ∷ f ∷ g ∷ h ∷ [])
unfolding from_be from_le
from_be_8 a b c d e f g h = omega arith

-- what `u64::to_be_bytes` answers
pub to_be_8 : (x : ℕ) →
    (x / 72057594037927936 % 256) ∷ (x / 281474976710656 % 256) ∷ (x / 1099511627776 % 256) ∷ (x / 4294967296 % 256) ∷ (x / 16777216 % 256) ∷ (x / 65536 % 256) ∷ (x / 256 % 256) ∷ (x % 256) ∷ [] ≡ to_be 8 x
unfolding to_be to_le
to_be_8 x = simp div-div-eq-div-mul

-- what `u32::from_le_bytes` and `u32::to_le_bytes` answer
pub from_le_4 : (a b c d : ℕ) → a + b * 256 + c * 65536 + d * 16777216 ≡ from_le (a ∷ b ∷ c ∷ d ∷ [])
unfolding from_le
from_le_4 a b c d = omega arith

pub to_le_4 : (x : ℕ) → (x % 256) ∷ (x / 256 % 256) ∷ (x / 65536 % 256) ∷ (x / 16777216 % 256) ∷ [] ≡ to_le 4 x
unfolding to_le
to_le_4 x = simp div-div-eq-div-mul
