-- What holds of a pebbled key source over a whole run from an unused one.
use Rattle.std.specs.Prelude.{◌≡◌, ℕ, ◌+◌, ◌*◌, ◌%◌, ◌^◌, ◌<◌, ◌≤◌, map, Some, count_by}
use Rattle.pebbles.specs.declared.level.Level.{Level}
use Rattle.pebbles.specs.Levels.{Levels, call_after, key_at, level, levels_after, lowered, moves, zeros}
use Rattle.pebbles.specs.Places.{pebble, standing_levels}

-- a level's key is the chain's key of its place, which lies from its target, 2 at least, to n
pub record Kept {X : Type 0} (chain : ℕ → X) (n : ℕ) (l : Level X) : Type 0 where
  pub of_chain : l.key ≡ chain l.place
  pub low : 2 ≤ l.target
  pub above : l.target ≤ l.place
  pub within : l.place ≤ n

-- what the call that gives K_i, of n keys, asks for stands among the lowered levels, at its place
pub record Ready {X : Type 0} (chain : ℕ → X) (n i : ℕ) (ls : Levels X) : Type 0 where
  pub odd : i % 2 ≡ 1 → level ls (zeros (i + 1)) ≡ Some (pebble chain (i + 1) (i + 1))
  pub even : i % 2 ≡ 0 → level ls (zeros i) ≡ Some (pebble chain i i)
  pub refill : i % 2 ≡ 0 → i + 2 * 2 ^ zeros i ≤ n
      → level ls (zeros (i + 3 * 2 ^ zeros i)) ≡ Some (pebble chain (i + 3 * 2 ^ zeros i) (i + 3 * 2 ^ zeros i))

pub record Run {X : Type 0} (step : X → X) (top : X) (k room : ℕ) : Type 0 where
  -- the levels stand in the closed form
  pub stands : (g : ℕ) → g ≤ 2 ^ k → levels_after step top k room g ≡ standing_levels (key_at step top k) (2 ^ k) room g
  pub kept : (g j : ℕ) (l : Level X) → g ≤ 2 ^ k → 0 < j → j ≤ room → level (levels_after step top k room g) j ≡ Some l → Kept (key_at step top k) (2 ^ k) l
  pub ready : (g : ℕ) → g < 2 ^ k → Ready (key_at step top k) (2 ^ k) (g + 1) (map (lowered step) (levels_after step top k room g))
  -- each answer is the chain's key
  pub answers : (g : ℕ) → g < 2 ^ k → (call_after step top k room g).answer ≡ Some (key_at step top k (g + 1))
  -- it takes two steps for each level above its target, and one more for an odd place: at most k
  pub steps : (g : ℕ) → g < 2 ^ k → (call_after step top k room g).steps ≡ 2 * count_by moves (levels_after step top k room g) + (g + 1) % 2
  pub bounded : (g : ℕ) → g < 2 ^ k → (call_after step top k room g).steps ≤ k
