-- The places that levels serve, within the largest chain.
use Rattle.std.proofs.Common.{◌≡◌, ℕ, ◌-◌, ◌*◌, ◌%◌, ◌^◌, ◌<◌, ◌≤◌, sym, ◌∙◌, arith, pow_mono}
use Rattle.std.proofs.lemmas.Nat.{shl_whole}
use Rattle.pebbles.specs.Levels.{zeros}
use Rattle.pebbles.proofs.Ready.{zeros_within}
use Rattle.pebbles.proofs.Strides.{even_power}

-- an even place has between 1 and 12 trailing zero bits
pub zeros_of_even : (place : ℕ) → 0 < place → place ≤ 4096 → place % 2 ≡ 0 → (0 < zeros place) × (zeros place ≤ 12) × (2 ^ zeros place ≤ 4096)
zeros_of_even place some most even = grind (arith, zeros_within 12 place, pow_mono)

-- the place of level j of an unused source, `2 << (j - 1)`
pub first_place : (j : ℕ) → 0 < j → j ≤ 12 → 2 * 2 ^ (j - 1) % 2 ^ 32 ≡ 2 ^ j
first_place j pos small = shl_whole 2 2 (j - 1) 32 (omega arith) (omega arith) ∙ sym (even_power j pos)
