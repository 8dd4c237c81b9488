-- Where the levels of a pebbled key source stand after g keys, in closed form. A level of number j has the stride p = 2 ^ j.
use Rattle.std.specs.Prelude.{ℕ, ◌+◌, ◌-◌, ◌*◌, ◌/◌, ◌%◌, ◌^◌, true, false, cond, map, ◌==◌, nat_le}
use Rattle.std.specs.List.{range_with_len}
use Rattle.pebbles.specs.declared.level.Level.{Level}
use Rattle.pebbles.specs.Levels.{Levels}

-- how many places the level has served
abbrev pub served : ℕ → ℕ → ℕ
served g p = (g + p) / (2 * p)

-- how many calls there were since it served last
abbrev pub since : ℕ → ℕ → ℕ
since g p = (g + p) % (2 * p)

-- the next place that it serves, q places served
abbrev pub next_target : ℕ → ℕ → ℕ
next_target p q = p * (2 * q + 1)

-- how far above its target it is, r calls since it served last
abbrev pub above : ℕ → ℕ → ℕ → ℕ
above p q r = cond (q == 0) 0 (p - 2 * r)

-- where it rests once it is put away: at the place that it served last, or at n if there is none
abbrev pub rest : ℕ → ℕ → ℕ → ℕ
rest n p q = cond (q == 0) n (next_target p (q - 1))

-- a level with the key of its place, where `chain` is the key of each place
abbrev pub pebble : {X : Type 0} → (ℕ → X) → ℕ → ℕ → Level X
pebble chain place target = record { key = chain place; place = place; target = target; away = false }

abbrev pub away_at : {X : Type 0} → (ℕ → X) → ℕ → Level X
away_at chain place = record { key = chain place; place = place; target = place; away = true }

-- the level over n keys: it is put away where its next target passes n
unfoldable pub standing : {X : Type 0} → (ℕ → X) → ℕ → ℕ → ℕ → ℕ → Level X
standing chain n p q r = cond (nat_le (next_target p q) n) (pebble chain (next_target p q + above p q r) (next_target p q)) (away_at chain (rest n p q))

-- the level after g keys
abbrev pub standing_after : {X : Type 0} → (ℕ → X) → ℕ → ℕ → ℕ → Level X
standing_after chain n g p = standing chain n p (served g p) (since g p)

-- all the levels after g keys, in room for so many
abbrev pub standing_levels : {X : Type 0} → (ℕ → X) → ℕ → ℕ → ℕ → Levels X
standing_levels chain n room g = map (λ j. standing_after chain n g (2 ^ j)) (range_with_len 1 room)
