-- What a call asks for stands, at its place, among the lowered levels of the closed form.
use Rattle.std.proofs.Common.{◌≡◌, ℕ, zero, suc, ◌+◌, ◌-◌, ◌*◌, ◌%◌, ◌^◌, ◌<◌, ◌≤◌, map, Some, ap, ◌∙◌, suc-mul, arith, pow_pos, pow_mono}
use native.Mathlib.Nat.{pow-succ'}
use Rattle.std.proofs.lemmas.Nat.{pow_below}
use Rattle.std.specs.List.{range_with_len}
use Rattle.pebbles.specs.Levels.{Levels, key_at, level, lowered, unless_away, zeros}
use Rattle.pebbles.specs.Places.{next_target, pebble, served, since, standing, standing_levels}
use Rattle.pebbles.specs.Runs.{Ready}
use Rattle.pebbles.proofs.Making.{key_at_below}
use Rattle.pebbles.proofs.Places.{in_time, lowered_standing, target_stride}
use Rattle.pebbles.proofs.Rows.{map_row, row_nth}
use Rattle.pebbles.proofs.Strides.{even_power, level_within, stride_of_room, zeros_at_least}
use Rattle.pebbles.proofs.Zeros.{twice_power, zeros_split}

-- an even number within 2 ^ k places is served by one of the levels 1 to k
pub zeros_within : (k s : ℕ) → k < 32 → 0 < s → s ≤ 2 ^ k → s % 2 ≡ 0 → (0 < zeros s) × (zeros s ≤ k) × ((m : ℕ) × (s ≡ next_target (2 ^ zeros s) m))
zeros_within k s small pos within even =
    let parts = zeros_split 32 s pos (omega (arith, pow_below k 32 small)) in
    let some : 0 < zeros s = at_least (zeros s) parts.0 parts.1 in
    (some, level_within k (zeros s) parts.0 (omega (arith, parts.1)), parts)
  where
    at_least : (z m : ℕ) → s ≡ 2 ^ z * (2 * m + 1) → 0 < z
    at_least zero m e = absurd (omega arith)
    at_least (suc z) m e = omega arith

-- the place of a refill lies in the chain, and is even
pub refill_place : (k i : ℕ) → k < 32 → 0 < i → i ≤ 2 ^ k → i % 2 ≡ 0 → i + 2 * 2 ^ zeros i ≤ 2 ^ k
    → (i + 3 * 2 ^ zeros i ≤ 2 ^ k) × ((i + 3 * 2 ^ zeros i) % 2 ≡ 0)
refill_place k i small pos within even goes_on =
    let z = zeros_within k i small pos within even in
    let p : ℕ = 2 ^ zeros i in
    let m : ℕ = z.2.0 in
    let next : next_target p (suc m) ≡ next_target p m + 2 * p = omega (arith, target_stride p m, target_stride p (suc m), suc-mul m (2 * p)) in
    (omega (arith, stride_of_room k (zeros i) (suc m) (omega arith) (omega (arith, z.2.1)), z.2.1), omega (arith, even_power (zeros i) z.0))

-- what refills a level of stride 2 ^ j after the place i comes from a level of a larger stride
larger : (i j m v m' : ℕ) → i ≡ next_target (2 ^ j) m → i + 3 * 2 ^ j ≡ next_target (2 ^ v) m' → 2 * 2 ^ j ≤ 2 ^ v
larger i j m v m' e e' = grind (arith, zeros_at_least (suc j) v (m + 2) m', pow_mono, pow-succ' 2 j, twice_power j (m + 2))

-- the levels after those of g keys went down
abbrev pub lowered_levels : {X : Type 0} → (ℕ → X) → ℕ → ℕ → ℕ → Levels X
lowered_levels chain n room g = map (λ j. standing chain n (2 ^ j) (served g (2 ^ j)) (suc (since g (2 ^ j)))) (range_with_len 1 room)

module _ {X : Type 0} (step : X → X) (top : X) (k room : ℕ) (some : 1 ≤ k) (small : k < 32) (fits : k ≤ room) where
  abbrev chain : ℕ → X
  chain = key_at step top k

  -- every level goes down
  pub row_lowered : (g : ℕ) → map (lowered step) (standing_levels chain (2 ^ k) room g) ≡ lowered_levels chain (2 ^ k) room g
  row_lowered g =
      map_row (lowered step) _ _ 1 room λ j pos.
      lowered_standing step chain (2 ^ k) (key_at_below step top k) (2 ^ j) (2 ^ (j - 1)) (served g (2 ^ j)) (since g (2 ^ j)) (even_power j pos)
      (stride_of_room k j (served g (2 ^ j)))

  -- the level that serves a place is there, from one and a half strides before on
  there : (g d place : ℕ) → g + d ≡ place → place ≤ 2 ^ k → place % 2 ≡ 0 → 0 < d → d ≤ 2 * 2 ^ zeros place → 2 * d ≤ 3 * 2 ^ zeros place + 2
      → level (lowered_levels chain (2 ^ k) room g) (zeros place) ≡ Some (pebble chain place place)
  there g d place e within even pos near low =
      let z = zeros_within k place small (omega arith) within even in
      ap unless_away (row_nth _ room (zeros place) z.0 (omega (arith, z.1)))
      ∙ ap (λ l. unless_away (Some l)) (in_time chain (2 ^ k) g (2 ^ zeros place) (pow_pos (zeros place)) z.2.0 d place e z.2.1 pos near low within)

  -- a refill comes from a level of a larger stride
  refill_there : (g i : ℕ) → g + 1 ≡ i → i ≤ 2 ^ k → i % 2 ≡ 0 → i + 2 * 2 ^ zeros i ≤ 2 ^ k
      → level (lowered_levels chain (2 ^ k) room g) (zeros (i + 3 * 2 ^ zeros i)) ≡ Some (pebble chain (i + 3 * 2 ^ zeros i) (i + 3 * 2 ^ zeros i))
  refill_there g i e within even goes_on =
      let z = zeros_within k i small (omega arith) within even in
      let p : ℕ = 2 ^ zeros i in
      let place : ℕ = i + 3 * p in
      let inside = refill_place k i small (omega arith) within even goes_on in
      let v = zeros_within k place small (omega arith) inside.0 inside.1 in
      let stride = larger i (zeros i) z.2.0 (zeros place) v.2.0 z.2.1 v.2.1 in
      there g (1 + 3 * p) place (omega arith) inside.0 inside.1 (omega arith) (omega (arith, pow_pos (zeros i))) (omega arith)

  pub row_ready : (g : ℕ) → g < 2 ^ k → Ready chain (2 ^ k) (g + 1) (lowered_levels chain (2 ^ k) room g)
  row_ready g more = record {
    odd = λ o. there g 2 (g + 1 + 1) (omega arith) (omega (arith, even_power k some)) (omega arith) (omega arith) (omega (arith, pow_pos (zeros (g + 1 + 1)))) (omega (arith, pow_pos (zeros (g + 1 + 1))));
    even = λ o. there g 1 (g + 1) (omega arith) (omega arith) o (omega arith) (omega (arith, pow_pos (zeros (g + 1)))) (omega arith);
    refill = λ o. refill_there g (g + 1) (omega arith) (omega arith) o;
  }
