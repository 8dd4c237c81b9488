-- How one level goes from call to call in the closed form.
use Rattle.std.proofs.Common.{◌≡◌, ℕ, suc, ◌+◌, ◌-◌, ◌*◌, ◌<◌, ◌≤◌, true, cond, leb, Some, Option, arith}
use Rattle.std.proofs.lemmas.Grind.{common_steps}
use Rattle.pebbles.specs.declared.level.Level.{Level}
use Rattle.pebbles.specs.Levels.{lowered, moves, put_away, with_key_of}
use Rattle.pebbles.specs.Places.{next_target, pebble, served, since, standing, standing_after}

-- ---- the places served, and the calls since

pub counted : (g p : ℕ) → 0 < p → (g + p ≡ served g p * (2 * p) + since g p) × (since g p < 2 * p)
counted g p pos = grind arith

pub served_is : (g p q r : ℕ) → g + p ≡ q * (2 * p) + r → r < 2 * p → served g p ≡ q
served_is g p q r e h = grind arith

pub since_is : (g p q r : ℕ) → g + p ≡ q * (2 * p) + r → r < 2 * p → since g p ≡ r
since_is g p q r e h = grind arith

-- the next target is one stride past what was served
pub target_stride : (p q : ℕ) → next_target p q ≡ q * (2 * p) + p
target_stride p q = grind arith

-- ---- one level over n keys, where the key of each place lies one step below that of the next

module _ {X : Type 0} (step : X → X) (chain : ℕ → X) (n : ℕ) (descends : (x : ℕ) → 0 < x → x ≤ n → step (chain x) ≡ chain (x - 1)) where
  -- a level that has served some place has a stride of room above its target
  pub lowered_standing : (p h q r : ℕ) → p ≡ 2 * h → (0 < q → next_target p q ≤ n → next_target p q + p ≤ n)
      → lowered step (standing chain n p q r) ≡ standing chain n p q (suc r)
  unfolding standing
  lowered_standing p h q r even room = grind (arith, common_steps)

-- ---- the calls that serve a level, and the others

-- a level whose next target lies d places past g
pub target_ahead : (g p m d : ℕ) → g + d ≡ next_target p m → 0 < d → d ≤ 2 * p → (served g p ≡ m) × (since g p ≡ 2 * p - d)
target_ahead g p m d e pos near = grind arith

-- it serves at call g + 1 only where its target is g + 1
pub served_at : (g p : ℕ) → 0 < p → suc (since g p) ≡ 2 * p → suc g ≡ next_target p (served g p)
served_at g p pos last = grind arith

module _ {X : Type 0} (chain : ℕ → X) (n g p : ℕ) (pos : 0 < p) where
  pub standing_next : suc (since g p) < 2 * p → standing_after chain n (suc g) p ≡ standing chain n p (served g p) (suc (since g p))
  standing_next more = grind (arith, served_is (suc g) p (served g p) (suc (since g p)), since_is (suc g) p (served g p) (suc (since g p)), counted g p pos)

  -- in time: from one and a half strides before its target on, a level is there
  pub in_time : (m d place : ℕ) → g + d ≡ place → place ≡ next_target p m → 0 < d → d ≤ 2 * p → 2 * d ≤ 3 * p + 2 → place ≤ n
      → standing chain n p (served g p) (suc (since g p)) ≡ pebble chain place place
  unfolding standing
  in_time m d place e t some near low fits = grind (arith, target_ahead g p m d)

-- a level that has just served the place i
pub standing_anew : {X : Type 0} (chain : ℕ → X) (n p q i : ℕ) → 0 < p → i ≡ next_target p q → standing_after chain n i p ≡ standing chain n p (suc q) 0
standing_anew chain n p q i pos e = grind arith

-- what becomes of a level that gave K_i: it gets the key of the place above, or is put away
pub refill_standing : {X : Type 0} (chain : ℕ → X) (n p q i : ℕ) (source this : Option (Level X)) → i ≡ next_target p q
    → (i + 2 * p ≤ n → source ≡ Some (pebble chain (i + 3 * p) (i + 3 * p))) → this ≡ Some (pebble chain i i)
    → cond (leb (i + 2 * p) n) (with_key_of source (i + 3 * p) (i + 2 * p)) (put_away this) ≡ Some (standing chain n p (suc q) 0)
unfolding standing
refill_standing {X} chain n p q i source this e there here = grind arith

-- a level that moves has served a place, less than half a stride ago, and serves another
pub moving : {X : Type 0} (chain : ℕ → X) (n p q r : ℕ) → moves (standing chain n p q r) ≡ true → (0 < q) × (2 * r < p) × (next_target p q ≤ n)
unfolding standing
moving {X} chain n p q r = grind arith
