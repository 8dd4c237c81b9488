-- A call moves the places and targets of the levels whatever their keys are.
use Rattle.std.proofs.Common.{◌≡◌, ℕ, zero, suc, ◌+◌, ◌-◌, ◌*◌, ◌%◌, ◌^◌, Bool, true, false, cond, eqb, leb, map, Some, None, sum, count_by, Option, option_map, sym, refl, ap, ◌∙◌, ap₂, add-one}
use mathlib.Core.List.{map-map}
use Rattle.std.proofs.lemmas.List.{map-set}
use Rattle.std.proofs.lemmas.List.Sums.{sum-map}
use Rattle.std.proofs.lemmas.Option.{slice_get-map}
use Rattle.std.specs.List.{slice_get}
use Rattle.pebbles.specs.declared.level.Level.{Level}
use Rattle.pebbles.specs.Draws.{Placed, bare, same}
use Rattle.pebbles.specs.Levels.{Call, Levels, call, down, even_call, first_level, level, levels_after, lowered, lowering_steps, moves, odd_call, put_away, refilled, two_down, unless_away, unused, with_key_of, with_level, zeros}
use Rattle.pebbles.proofs.Rows.{map_row}

-- a function of a choice is a choice of its values
cond_map : {A B : Type 0} (f : A → B) (b : Bool) (x y : A) → f (cond b x y) ≡ cond b (f x) (f y)
cond_map f true x y = refl
cond_map f false x y = refl

pub bare_level : {X Y : Type 0} (o : Y) (ls : Levels X) (j : ℕ) → level (map (bare o) ls) j ≡ option_map (bare o) (level ls j)
bare_level {X} o ls j = ap unless_away (slice_get-map (bare o) ls (j - 1)) ∙ bare_unless (slice_get ls (j - 1))
  where
    bare_unless : (p : Option (Level X)) → unless_away (option_map (bare o) p) ≡ option_map (bare o) (unless_away p)
    bare_unless None = refl
    bare_unless (Some l) = sym (cond_map (option_map (bare o)) l.away None (Some l))

pub bare_count : {X Y : Type 0} (o : Y) (ls : Levels X) → count_by moves (map (bare o) ls) ≡ count_by moves ls
bare_count o ls =
    sym (sum-map (λ l. cond (moves l) 1 0) (map (bare o) ls)) ∙ ap sum (map-map (λ l. cond (moves l) 1 0) (bare o) ls)
    ∙ sum-map (λ l. cond (moves l) 1 0) ls

module _ {X Y : Type 0} (o : Y) (step : X → X) where
  pub bare_low : (ls : Levels X) → map (lowered same) (map (bare o) ls) ≡ map (bare o) (map (lowered step) ls)
  bare_low ls =
      map-map (lowered same) (bare o) ls ∙ ap (λ f. map f ls) (λ i l. sym (cond_map (bare o) (moves l) (two_down step l) l) i)
      ∙ sym (map-map (bare o) (lowered step) ls)

  bare_key_of : (p : Option (Level X)) (place target : ℕ) → with_key_of (option_map (bare o) p) place target ≡ option_map (bare o) (with_key_of p place target)
  bare_key_of None place target = refl
  bare_key_of (Some l) place target = refl

  bare_away : (p : Option (Level X)) → put_away (option_map (bare o) p) ≡ option_map (bare o) (put_away p)
  bare_away None = refl
  bare_away (Some l) = refl

  bare_refilled : (n i j : ℕ) (ls : Levels X) → refilled n i j (map (bare o) ls) ≡ option_map (bare o) (refilled n i j ls)
  bare_refilled n i j ls =
      let from : ℕ = zeros (i + 3 * 2 ^ j) in
      ap₂ (cond (leb (i + 2 * 2 ^ j) n))
      (ap (λ p. with_key_of p (i + 3 * 2 ^ j) (i + 2 * 2 ^ j)) (bare_level o ls from) ∙ bare_key_of (level ls from) (i + 3 * 2 ^ j) (i + 2 * 2 ^ j))
      (ap put_away (bare_level o ls j) ∙ bare_away (level ls j))
      ∙ sym (cond_map (option_map (bare o)) (leb (i + 2 * 2 ^ j) n) (with_key_of (level ls from) (i + 3 * 2 ^ j) (i + 2 * 2 ^ j)) (put_away (level ls j)))

  bare_with : (ls : Levels X) (j : ℕ) (p : Option (Level X)) → with_level (map (bare o) ls) j (option_map (bare o) p) ≡ map (bare o) (with_level ls j p)
  bare_with ls j None = refl
  bare_with ls j (Some l) = sym (map-set (bare o) ls (j - 1) l)

  -- the levels after a call
  pub bare_call : (n i : ℕ) (ls : Levels X) → (call same n i (map (bare o) ls)).levels ≡ map (bare o) (call step n i ls).levels
  unfolding call
  bare_call n i ls =
      let low : Levels X = map (lowered step) ls in
      cond_map (λ (c : Call Y). c.levels) (eqb (i % 2) 0) _ _
      ∙ ap₂ (cond (eqb (i % 2) 0))
      (ap (λ l. with_level l (zeros i) (refilled n i (zeros i) l)) (bare_low ls)
      ∙ ap (with_level (map (bare o) low) (zeros i)) (bare_refilled n i (zeros i) low)
      ∙ bare_with low (zeros i) (refilled n i (zeros i) low))
      (bare_low ls)
      ∙ sym (cond_map (λ (c : Call X). map (bare o) c.levels) (eqb (i % 2) 0) (even_call n i (lowering_steps ls) low) (odd_call step i (lowering_steps ls) low))

  -- an unused source
  bare_first : (top : X) (k j : ℕ) → bare o (first_level step top k j) ≡ first_level same o k j
  bare_first top k j =
      cond_map (bare o) (leb j k) _ _
      ∙ ap (λ x. cond (leb j k) (record { key = x; place = 2 ^ j; target = 2 ^ j; away = false }) (record { key = o; place = 2 ^ k; target = 2 ^ k; away = true }))
      (zero_below (2 ^ k - 2 ^ j))
    where
      zero_below : (s : ℕ) → o ≡ down same o s
      zero_below zero = refl
      zero_below (suc s) = zero_below s

  pub bare_unused : (top : X) (k room : ℕ) → map (bare o) (levels_after step top k room 0) ≡ levels_after same o k room 0
  unfolding levels_after unused
  bare_unused top k room = map_row (bare o) (first_level step top k) (first_level same o k) 1 room (λ j _. bare_first top k j)

  -- the places and targets after g calls
  pub placed_after : (top : X) (k room g : ℕ) → map (bare o) (levels_after step top k room g) ≡ levels_after same o k room g
  unfolding levels_after
  placed_after top k room zero = bare_unused top k room
  placed_after top k room (suc g) =
      sym (bare_call (2 ^ k) (g + 1) (levels_after step top k room g)) ∙ ap (λ l. (call same (2 ^ k) (g + 1) l).levels) (placed_after top k room g)

  pub placed_next : (k room g : ℕ) (ls after : Levels X) → Placed o ls k room g → (call step (2 ^ k) (g + 1) ls).levels ≡ after → Placed o after k room (g + 1)
  unfolding levels_after
  placed_next k room g ls after placed gives =
      ap (map (bare o)) (sym gives) ∙ sym (bare_call (2 ^ k) (g + 1) ls) ∙ ap (λ l. (call same (2 ^ k) (g + 1) l).levels) placed
      ∙ ap (levels_after same o k room) (sym (add-one g))
