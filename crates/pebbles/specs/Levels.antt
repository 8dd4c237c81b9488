-- The rule of a pebbled key source: its levels, and what one call does to them.
use Rattle.std.specs.Prelude.{◌≡◌, ℕ, zero, suc, ◌+◌, ◌-◌, ◌*◌, ◌%◌, ◌^◌, Bool, true, false, cond, not, ◌&&◌, List, map, Some, None, count_by, Option, ◌==◌, nat_le, nat_lt, slice_set}
use Rattle.std.specs.Int.Count.{count_trailing_zeros}
use Rattle.std.specs.List.{range_with_len, slice_get}
use Rattle.pebbles.specs.declared.level.Level.{Level}

-- the key that stands s steps below `top`
abbrev pub down : {X : Type 0} → (X → X) → X → ℕ → X
down step top zero = top
down step top (suc s) = step (down step top s)

-- level j stands at index j - 1
abbrev pub Levels : Type 0 → Type 0
Levels X = List (Level X)

abbrev pub unless_away : {X : Type 0} → Option (Level X) → Option (Level X)
unless_away None = None
unless_away (Some l) = cond l.away None (Some l)

-- level j, if it is not put away
abbrev pub level : {X : Type 0} → Levels X → ℕ → Option (Level X)
level ls j = unless_away (slice_get ls (j - 1))

-- the number of trailing zero bits, as u32::trailing_zeros counts them
abbrev pub zeros : ℕ → ℕ
zeros = count_trailing_zeros 32

-- a level moves in a call if it is not put away and its place is above its target
abbrev pub moves : {X : Type 0} → Level X → Bool
moves l = not l.away && nat_lt l.target l.place

abbrev pub two_down : {X : Type 0} → (X → X) → Level X → Level X
two_down step l = record { key = step (step l.key); place = l.place - 2; target = l.target; away = false }

abbrev pub lowered : {X : Type 0} → (X → X) → Level X → Level X
lowered step l = cond (moves l) (two_down step l) l

-- the steps that the levels take to go down
abbrev pub lowering_steps : {X : Type 0} → Levels X → ℕ
lowering_steps ls = 2 * count_by moves ls

abbrev pub key_of : {X : Type 0} → Option (Level X) → Option X
key_of None = None
key_of (Some l) = Some l.key

abbrev pub key_below : {X : Type 0} → (X → X) → Option (Level X) → Option X
key_below step None = None
key_below step (Some l) = Some (step l.key)

-- a level with the key of another, at a new place and for a new target
abbrev pub with_key_of : {X : Type 0} → Option (Level X) → ℕ → ℕ → Option (Level X)
with_key_of None place target = None
with_key_of (Some l) place target = Some (record { key = l.key; place = place; target = target; away = false })

abbrev pub put_away : {X : Type 0} → Option (Level X) → Option (Level X)
put_away None = None
put_away (Some l) = Some (record { key = l.key; place = l.place; target = l.target; away = true })

-- what becomes of level j, which gave K_i, of n keys
abbrev pub refilled : {X : Type 0} → ℕ → ℕ → ℕ → Levels X → Option (Level X)
refilled n i j ls =
    cond (nat_le (i + 2 * 2 ^ j) n) (with_key_of (level ls (zeros (i + 3 * 2 ^ j))) (i + 3 * 2 ^ j) (i + 2 * 2 ^ j)) (put_away (level ls j))

abbrev pub with_level : {X : Type 0} → Levels X → ℕ → Option (Level X) → Levels X
with_level ls j None = ls
with_level ls j (Some l) = slice_set ls (j - 1) l

-- what a call answers, the steps that it takes, and the levels after it
pub record Call (X : Type 0) : Type 0 where
  pub answer : Option X
  pub steps : ℕ
  pub levels : Levels X

-- a call that comes to these: the form for code, whose answer is always there
pub record Gives {X : Type 0} (c : Call X) (key : X) (taken : ℕ) (after : Levels X) : Type 0 where
  pub answer : c.answer ≡ Some key
  pub steps : c.steps ≡ taken
  pub levels : c.levels ≡ after

-- the call that gives K_i, of n keys; the levels are lowered already, by `spent` steps
abbrev pub odd_call : {X : Type 0} → (X → X) → ℕ → ℕ → Levels X → Call X
odd_call step i spent ls = record { answer = key_below step (level ls (zeros (i + 1))); steps = spent + 1; levels = ls }

abbrev pub even_call : {X : Type 0} → ℕ → ℕ → ℕ → Levels X → Call X
even_call n i spent ls =
    record { answer = key_of (level ls (zeros i)); steps = spent; levels = with_level ls (zeros i) (refilled n i (zeros i) ls) }

unfoldable pub call : {X : Type 0} → (X → X) → ℕ → ℕ → Levels X → Call X
call step n i ls =
    cond (i % 2 == 0) (even_call n i (lowering_steps ls) (map (lowered step) ls)) (odd_call step i (lowering_steps ls) (map (lowered step) ls))

-- the key at each place of the chain of 2 ^ k keys whose last is `top`
abbrev pub key_at : {X : Type 0} → (X → X) → X → ℕ → ℕ → X
key_at step top k place = down step top (2 ^ k - place)

-- level j of an unused source over 2 ^ k keys; the levels above k are put away
abbrev pub first_level : {X : Type 0} → (X → X) → X → ℕ → ℕ → Level X
first_level step top k j =
    cond (nat_le j k) (record { key = key_at step top k (2 ^ j); place = 2 ^ j; target = 2 ^ j; away = false })
    (record { key = top; place = 2 ^ k; target = 2 ^ k; away = true })

-- an unused source over 2 ^ k keys, with room for so many levels
unfoldable pub unused : {X : Type 0} → (X → X) → X → ℕ → ℕ → Levels X
unused step top k room = map (first_level step top k) (range_with_len 1 room)

-- the levels after g calls, and the call after those
unfoldable pub levels_after : {X : Type 0} → (X → X) → X → ℕ → ℕ → ℕ → Levels X
levels_after step top k room zero = unused step top k room
levels_after step top k room (suc g) = (call step (2 ^ k) (g + 1) (levels_after step top k room g)).levels

abbrev pub call_after : {X : Type 0} → (X → X) → X → ℕ → ℕ → ℕ → Call X
call_after step top k room g = call step (2 ^ k) (g + 1) (levels_after step top k room g)
