-- How many keys a source may have.
use Rattle.std.specs.Prelude.{◌≡◌, ℕ, ◌^◌, ◌≤◌}
use Rattle.std.proofs.Common.{pow_mono}

-- n is 2 ^ k, for a k from 1 to 12
abbrev pub Size : ℕ → Type 0
Size n = (k : ℕ) × (1 ≤ k) × (k ≤ 12) × (n ≡ 2 ^ k)

pub two_at_least : (k : ℕ) → 1 ≤ k → 2 ≤ 2 ^ k
two_at_least k some = pow_mono some

pub few_at_most : (k : ℕ) → k ≤ 12 → 2 ^ k ≤ 4096
few_at_most k most = pow_mono most
