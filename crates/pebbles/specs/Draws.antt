-- Levels without their keys, and the keys that the calls from some state on give.
use Rattle.std.specs.Prelude.{◌≡◌, ℕ, zero, suc, ◌+◌, List, [], ◌∷◌, map, Some, None, Option}
use Rattle.pebbles.specs.declared.level.Level.{Level}
use Rattle.pebbles.specs.Levels.{Levels, call, call_after, levels_after}

-- a level with another key, o
abbrev pub bare : {X Y : Type 0} → Y → Level X → Level Y
bare o l = record { key = o; place = l.place; target = l.target; away = l.away }

-- a step that keeps each key, for where keys do not matter
abbrev pub same : {Y : Type 0} → Y → Y
same x = x

-- the levels have the places and targets that they have after g calls from an unused source over 2 ^ k keys, whatever these are
abbrev pub Placed : {X Y : Type 0} → Y → Levels X → ℕ → ℕ → ℕ → Type 0
Placed o ls k room g = map (bare o) ls ≡ levels_after same o k room g

-- the steps of the call after those g: the places and targets tell them
abbrev pub steps_after : ℕ → ℕ → ℕ → ℕ
steps_after k room g = (call_after {X = ℕ} same 0 k room g).steps

abbrev pub or_else : {X : Type 0} → X → Option X → X
or_else d None = d
or_else d (Some x) = x

-- the keys that c calls give, after g of them, from these levels of a source over n keys; d stands for one that is missing
unfoldable pub draws : {X : Type 0} → (X → X) → X → ℕ → ℕ → ℕ → Levels X → List X
draws step d n zero g ls = []
draws step d n (suc c) g ls = or_else d (call step n (g + 1) ls).answer ∷ draws step d n c (g + 1) (call step n (g + 1) ls).levels
