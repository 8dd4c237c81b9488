-- The numbers of keys that a table may have are the powers of two from 2 to 4,096.
use Rattle.std.proofs.Common.{◌≡◌, ℕ, zero, suc, ◌+◌, ◌*◌, ◌/◌, ◌%◌, ◌^◌, ◌<◌, ◌≤◌, count_ones, refl, sym, ap, ◌∙◌, arith, pow-suc, pow_pos}
use Rattle.std.proofs.lemmas.Nat.{ones_cat, zero_from_ones}
use Rattle.pebbles.proofs.Strides.{exponent_le}
use lib.Count.{ones, ones_in, ones_step}
use Rattle.source.specs.Sizes.{Size, few_at_most, two_at_least}

-- a number of one set bit is a power of two
power_of_ones : (w n : ℕ) → n < 2 ^ w → count_ones n ≡ 1 → (k : ℕ) × (n ≡ 2 ^ k)
unfolding ones ones_in
power_of_ones zero n small one = let none : n ≡ 0 = omega arith in absurd (omega (arith, one, ap count_ones none))
power_of_ones (suc w) n small one = go (n % 2) refl (power_of_ones w (n / 2) (omega (arith, pow-suc 2 w)))
  where
    go : (d : ℕ) → n % 2 ≡ d → (count_ones (n / 2) ≡ 1 → (k : ℕ) × (n / 2 ≡ 2 ^ k)) → (k : ℕ) × (n ≡ 2 ^ k)
    go zero even rest =
        let half = rest (omega (arith, ones_step n, one)) in
        (suc half.0, omega (arith, half.1, pow-suc 2 half.0))
    go (suc d) odd rest = (0, omega (arith, zero_from_ones (n / 2) (omega (arith, ones_step n, one))))

-- such a number from 2 to 4,096 is a table's size, and so is no other
pub size_of_power : (n : ℕ) → count_ones n ≡ 1 → 2 ≤ n → n ≤ 4096 → Size n
size_of_power n one least most =
    let power = power_of_ones 13 n (omega arith) one in
    (power.0, exponent_le 1 power.0 (omega (arith, power.1)), exponent_le power.0 12 (omega (arith, power.1)), power.1)

pub power_of_size : (n : ℕ) → Size n → (count_ones n ≡ 1) × (2 ≤ n) × (n ≤ 4096)
unfolding ones ones_in
power_of_size n (k, some, most, is) =
    let whole : 1 * 2 ^ k + 0 ≡ n = omega arith in
    (ap count_ones (sym whole) ∙ ones_cat k 1 0 (pow_pos k), omega (arith, two_at_least k some), omega (arith, few_at_most k most))
