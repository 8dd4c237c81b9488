-- A call of a pebbled key source in the forms that code has it: levels are read and written by index.
use Rattle.std.proofs.Common.{◌≡◌, ℕ, ◌+◌, ◌-◌, ◌*◌, ◌%◌, ◌^◌, ◌<◌, ◌≤◌, true, false, not, ltb, map, length, get_or, set, Some, None, Option, All, sym, ap, ◌∙◌, subst, arith}
use Rattle.std.proofs.Math.ListN.{get_or-map}
use Rattle.std.proofs.lemmas.List.{length-map}
use Rattle.std.proofs.lemmas.List.FromFn.{length-map-range_with_len}
use Rattle.std.proofs.lemmas.Option.{get_or_from_slice_get, slice_get-get_or}
use Rattle.std.proofs.lemmas.Bool.{cond-true, cond-false, and_parts, not-true, le-leb, lt-leb}
use Rattle.std.specs.List.{slice_get}
use Rattle.pebbles.specs.declared.level.Level.{Level}
use Rattle.pebbles.specs.Draws.{Placed, bare, same}
use Rattle.pebbles.specs.Levels.{Gives, Levels, call, even_call, key_at, key_below, level, levels_after, lowered, lowering_steps, moves, odd_call, put_away, unless_away, with_key_of, with_level, zeros}
use Rattle.pebbles.specs.Runs.{Ready}
use Rattle.pebbles.proofs.Bare.{bare_level, bare_low, placed_next}
use Rattle.pebbles.proofs.Calls.{even_form, odd_form}
use Rattle.pebbles.proofs.Runs.{run}

-- a level that moves can go down two places
moves_two_bare : {Y : Type 0} (o : Y) (k room : ℕ) → 1 ≤ k → k < 32 → k ≤ room → (g : ℕ) → g ≤ 2 ^ k
    → All (λ (l : Level Y). moves l ≡ true → 2 ≤ l.place) (levels_after same o k room g)
moves_two_bare {Y} o k room some small fits g within j d inside moving =
    let this : Level Y = get_or (levels_after same o k room g) j d in
    let long : length (levels_after same o k room g) ≡ room =
    ap length ((run same o k room some small fits).stands g within) ∙ length-map-range_with_len _ 1 room in
    let index : j + 1 - 1 ≡ j = omega arith in
    let kept = (run same o k room some small fits).kept g (j + 1) this within (omega arith) (omega arith)
    (ap (λ i. unless_away (slice_get (levels_after same o k room g) i)) index
    ∙ ap unless_away (slice_get-get_or (levels_after same o k room g) j d inside)
    ∙ cond-false this.away None (Some this) (not-true this.away (and_parts (not this.away) (ltb this.target this.place) moving).0)) in
    omega arith

pub moves_two : {X Y : Type 0} (o : Y) (k room : ℕ) → 1 ≤ k → k < 32 → k ≤ room → (g : ℕ) → g ≤ 2 ^ k → (ls : Levels X) → Placed o ls k room g
    → All (λ (l : Level X). moves l ≡ true → 2 ≤ l.place) ls
moves_two {X} {Y} o k room some small fits g within ls placed j d inside =
    subst (λ (l : Level Y). moves l ≡ true → 2 ≤ l.place)
    (ap (λ l. get_or l j (bare o d)) (sym placed) ∙ get_or-map (bare o) ls j d)
    (moves_two_bare o k room some small fits g within j (bare o d) (omega (arith, ap length placed, length-map ls (bare o))))

-- what is there and not put away
in_use : {X : Type 0} (p : Option (Level X)) (l : Level X) → unless_away p ≡ Some l → (p ≡ Some l) × (l.away ≡ false)
in_use p l e = grind arith

-- a level is there, if it is there without its key
found : {X Y : Type 0} (o : Y) (ls : Levels X) (j : ℕ) (d : Level X) (l : Level Y) → level (map (bare o) ls) j ≡ Some l
    → (level ls j ≡ Some (get_or ls (j - 1) d)) × ((get_or ls (j - 1) d).away ≡ false)
found {X} o ls j d l e = grind (arith, in_use, bare_level, get_or_from_slice_get)

-- the call after g, where code has the levels ls and has lowered them to `low` by `spent` steps
pub record Midway {X Y : Type 0} (o : Y) (step : X → X) (k room g : ℕ) (ls low : Levels X) (spent : ℕ) : Type 0 where
  pub some : 1 ≤ k
  pub small : k < 32
  pub fits : k ≤ room
  pub more : g < 2 ^ k
  pub placed : Placed o ls k room g
  pub is : low ≡ map (lowered step) ls
  pub counted : spent ≡ lowering_steps ls

module _ {X Y : Type 0} {o : Y} {step : X → X} {k room g : ℕ} {ls low : Levels X} {spent : ℕ} (mid : Midway o step k room g ls low spent) where
  ready : Ready (key_at same o k) (2 ^ k) (g + 1) (map (bare o) low)
  ready =
      subst (Ready (key_at same o k) (2 ^ k) (g + 1)) (sym (ap (map (bare o)) mid.is ∙ sym (bare_low o step ls) ∙ ap (map (lowered same)) mid.placed))
      ((run same o k room mid.some mid.small mid.fits).ready g mid.more)

  odd_is : (g + 1) % 2 ≡ 1 → call step (2 ^ k) (g + 1) ls ≡ odd_call step (g + 1) spent low
  odd_is odd = grind (arith, odd_form)

  even_is : (g + 1) % 2 ≡ 0 → call step (2 ^ k) (g + 1) ls ≡ even_call (2 ^ k) (g + 1) spent low
  even_is even = grind (arith, even_form)

  -- the levels after the call stand as the next one wants them
  pub placed_odd : (g + 1) % 2 ≡ 1 → Placed o low k room (g + 1)
  placed_odd odd = placed_next o step k room g ls low mid.placed (ap (λ c. c.levels) (odd_is odd))

  pub placed_even : {key : X} {taken : ℕ} {after : Levels X} → Gives (call step (2 ^ k) (g + 1) ls) key taken after → Placed o after k room (g + 1)
  placed_even {after = after} gives = placed_next o step k room g ls after mid.placed gives.levels

  -- levels are read with the default d
  pub gives_odd : (d : Level X) (z : ℕ) (key : X) (taken : ℕ) → (g + 1) % 2 ≡ 1 → z ≡ zeros (g + 1 + 1) - 1 → key ≡ step (get_or low z d).key → taken ≡ spent + 1
      → Gives (call step (2 ^ k) (g + 1) ls) key taken low
  gives_odd d z key taken odd at e t = record {
    answer =
        ap (λ c. c.answer) (odd_is odd) ∙ ap (key_below step) (found o low (zeros (g + 1 + 1)) d _ (ready.odd odd)).0
        ∙ ap (λ x. Some (step (get_or low x d).key)) (sym at) ∙ ap Some (sym e);
    steps = ap (λ c. c.steps) (odd_is odd) ∙ sym t;
    levels = ap (λ c. c.levels) (odd_is odd);
  }

  -- at an even place, the level of index z serves it
  module _ (d : Level X) (z stride : ℕ) (even : (g + 1) % 2 ≡ 0) (at : z ≡ zeros (g + 1) - 1) (wide : stride ≡ 2 ^ zeros (g + 1)) where
    even_answer : (call step (2 ^ k) (g + 1) ls).answer ≡ Some (get_or low z d).key
    even_answer = grind (arith, even_is even, found, ready.even even)

    -- it is refilled from the level that serves the place where it goes on
    pub gives_refill : (after : Level X) → g + 1 + 2 * stride ≤ 2 ^ k
        → after ≡ record (get_or low (zeros (g + 1 + 3 * stride) - 1) d) { place = g + 1 + 3 * stride; target = g + 1 + 2 * stride }
        → Gives (call step (2 ^ k) (g + 1) ls) (get_or low z d).key spent (set low z after)
    gives_refill after goes_on refilled =
        let goes_on' : g + 1 + 2 * 2 ^ zeros (g + 1) ≤ 2 ^ k = omega arith in
        let there = found o low (zeros (g + 1 + 3 * 2 ^ zeros (g + 1))) d _ (ready.refill even goes_on') in
        record {
          answer = even_answer;
          steps = ap (λ c. c.steps) (even_is even);
          levels =
              ap (λ c. c.levels) (even_is even)
              ∙ ap (with_level low (zeros (g + 1)))
              (cond-true _ _ _ (le-leb _ _ goes_on') ∙ ap (λ l. with_key_of l (g + 1 + 3 * 2 ^ zeros (g + 1)) (g + 1 + 2 * 2 ^ zeros (g + 1))) there.0)
              ∙ ap (λ b. set low (zeros (g + 1) - 1)
              (record (get_or low (zeros (g + 1 + 3 * 2 ^ zeros (g + 1)) - 1) d) { place = g + 1 + 3 * 2 ^ zeros (g + 1); target = g + 1 + 2 * 2 ^ zeros (g + 1); away = b }))
              (sym there.1)
              ∙ (λ x. set low (sym at x) (record (get_or low (zeros (g + 1 + 3 * sym wide x) - 1) d) { place = g + 1 + 3 * sym wide x; target = g + 1 + 2 * sym wide x }))
              ∙ ap (set low z) (sym refilled);
        }

    -- it is put away
    pub gives_away : 2 ^ k < g + 1 + 2 * stride
        → Gives (call step (2 ^ k) (g + 1) ls) (get_or low z d).key spent (set low z (record (get_or low z d) { away = true }))
    gives_away past =
        let past' : 2 ^ k < g + 1 + 2 * 2 ^ zeros (g + 1) = omega arith in
        record {
          answer = even_answer;
          steps = ap (λ c. c.steps) (even_is even);
          levels =
              ap (λ c. c.levels) (even_is even)
              ∙ ap (with_level low (zeros (g + 1))) (cond-false _ _ _ (lt-leb _ _ past') ∙ ap put_away (found o low (zeros (g + 1)) d _ (ready.even even)).0)
              ∙ ap (λ x. set low x (record (get_or low x d) { away = true })) (sym at);
        }
