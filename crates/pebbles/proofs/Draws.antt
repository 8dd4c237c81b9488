-- What the calls from some state on give, and how the state goes on.
use Rattle.std.proofs.Common.{◌≡◌, ℕ, zero, suc, ◌+◌, ◌-◌, ◌*◌, ◌%◌, ◌^◌, ◌<◌, ◌≤◌, ◌∷◌, map, length, count_by, sym, refl, ap, ◌∙◌, ap₂, add-one, arith}
use Rattle.std.specs.List.{range_with_len}
use Rattle.pebbles.specs.Draws.{Placed, draws, or_else, same, steps_after}
use Rattle.pebbles.specs.Levels.{Gives, Levels, call, key_at, levels_after, moves}
use Rattle.pebbles.proofs.Bare.{bare_count, placed_after}
use Rattle.pebbles.proofs.Runs.{run, steps_counted}

pub length_draws : {X : Type 0} (step : X → X) (d : X) (n c g : ℕ) (ls : Levels X) → length (draws step d n c g ls) ≡ c
unfolding draws
length_draws step d n zero g ls = refl
length_draws step d n (suc c) g ls = ap suc (length_draws step d n c (g + 1) (call step n (g + 1) ls).levels)

-- a call gives the first of them, and leaves the others
pub draws_next : {X : Type 0} (step : X → X) (d : X) (n c g : ℕ) (ls after : Levels X) (key : X) (taken : ℕ) → Gives (call step n (g + 1) ls) key taken after
    → 0 < c → draws step d n c g ls ≡ key ∷ draws step d n (c - 1) (g + 1) after
unfolding draws
draws_next step d n c g ls after key taken gives pos = grind arith

-- the steps are those that the places tell
pub steps_placed : {X Y : Type 0} (o : Y) (step : X → X) (k room g : ℕ) (ls : Levels X) → Placed o ls k room g
    → (call step (2 ^ k) (g + 1) ls).steps ≡ steps_after k room g
steps_placed o step k room g ls placed =
    let count : count_by moves ls ≡ count_by moves (levels_after same 0 k room g) =
    sym (bare_count o ls) ∙ ap (count_by moves) placed ∙ sym (bare_count 0 (levels_after same o k room g)) ∙ ap (count_by moves) (placed_after 0 same o k room g) in
    steps_counted step (2 ^ k) (g + 1) ls ∙ ap (λ n. 2 * n + (g + 1) % 2) count
    ∙ sym (steps_counted same (2 ^ k) (g + 1) (levels_after same 0 k room g))

pub steps_bounded : (k room g : ℕ) → 1 ≤ k → k < 32 → k ≤ room → g < 2 ^ k → steps_after k room g ≤ k
steps_bounded k room g some small fits more = (run same 0 k room some small fits).bounded g more

-- from an unused source on they are the chain
module _ {X : Type 0} (step : X → X) (top d : X) (k room : ℕ) (some : 1 ≤ k) (small : k < 32) (fits : k ≤ room) where
  pub draws_chain : (c g : ℕ) → g + c ≡ 2 ^ k → draws step d (2 ^ k) c g (levels_after step top k room g) ≡ map (key_at step top k) (range_with_len (g + 1) c)
  unfolding draws levels_after
  draws_chain zero g all = refl
  draws_chain (suc c) g all =
      ap₂ ◌∷◌ (ap (or_else d) ((run step top k room some small fits).answers g (omega arith)))
      (ap (λ m. draws step d (2 ^ k) c (g + 1) (levels_after step top k room m)) (sym (add-one g)) ∙ draws_chain c (g + 1) (omega arith))
