-- The trailing zero bits of a number: the power of two that divides it.
use Rattle.std.proofs.Common.{◌≡◌, ℕ, zero, suc, ◌+◌, ◌*◌, ◌/◌, ◌%◌, ◌^◌, ◌<◌, refl, ap, ◌∙◌, ap₂, mul_assoc, pow-suc, arith}
use native.Mathlib.Nat.{pow-succ'}
use lib.Count.{count_trailing_zeros, under}

pub twice_power : (j c : ℕ) → 2 ^ suc j * c ≡ 2 * (2 ^ j * c)
twice_power j c = ap (λ (x : ℕ). x * c) (pow-succ' 2 j) ∙ mul_assoc 2 (2 ^ j) c

-- a number that w bits hold is an odd multiple of the power of two that its trailing zero bits name
pub zeros_split : (w p : ℕ) → 0 < p → p < 2 ^ w → (m : ℕ) × (p ≡ 2 ^ count_trailing_zeros w p * (2 * m + 1))
unfolding count_trailing_zeros
zeros_split zero p pos small = absurd (omega arith)
zeros_split (suc w) p pos small = go (p % 2) refl (λ some. zeros_split w (p / 2) some (omega (arith, pow-suc 2 w)))
  where
    go : (d : ℕ) → p % 2 ≡ d → (0 < p / 2 → (m : ℕ) × (p / 2 ≡ 2 ^ count_trailing_zeros w (p / 2) * (2 * m + 1)))
        → (m : ℕ) × (p ≡ 2 ^ under d (count_trailing_zeros w (p / 2)) * (2 * m + 1))
    go zero e rest =
        let half = rest (omega arith) in
        (half.0, omega (arith, e, half.1, twice_power (count_trailing_zeros w (p / 2)) (2 * half.0 + 1)))
    go (suc d) e rest = (p / 2, omega arith)

-- and an odd multiple of a power of two has as many trailing zero bits as the power
pub zeros_of : (w j m : ℕ) → j < w → count_trailing_zeros w (2 ^ j * (2 * m + 1)) ≡ j
unfolding count_trailing_zeros
zeros_of zero j m h = absurd (omega arith)
zeros_of (suc w) zero m h =
    let odd : 1 * (2 * m + 1) % 2 ≡ 1 = omega arith in ap (λ (d : ℕ). under d (count_trailing_zeros w (1 * (2 * m + 1) / 2))) odd
zeros_of (suc w) (suc j) m h =
    let c : ℕ = 2 * m + 1 in
    let even : 2 ^ suc j * c % 2 ≡ 0 = omega (arith, twice_power j c) in
    let half : 2 ^ suc j * c / 2 ≡ 2 ^ j * c = omega (arith, twice_power j c) in
    ap₂ (λ (d x : ℕ). under d (count_trailing_zeros w x)) even half ∙ ap suc (zeros_of w j m (omega arith))
