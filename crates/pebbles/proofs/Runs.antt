-- Over a whole run the levels of a pebbled key source stand in the closed form, so each answer is the chain's key, by at most k steps.
use Rattle.std.proofs.Common.{◌≡◌, ℕ, zero, suc, ◌+◌, ◌%◌, ◌^◌, ◌<◌, ◌≤◌, map, Some, sym, ap, ◌∙◌, subst, arith, pow_pos, pow_mono}
use Rattle.std.proofs.lemmas.Nat.{pow_below}
use Rattle.pebbles.specs.declared.level.Level.{Level}
use Rattle.pebbles.specs.Levels.{Levels, call, call_after, first_level, key_at, level, levels_after, lowered, lowering_steps, unless_away, unused}
use Rattle.pebbles.specs.Places.{away_at, pebble, served, since, standing, standing_after, standing_levels}
use Rattle.pebbles.specs.Runs.{Kept, Ready, Run}
use Rattle.pebbles.proofs.Calls.{Good, call_good, even_form, odd_form}
use Rattle.pebbles.proofs.Places.{served_is, since_is, target_stride}
use Rattle.pebbles.proofs.Ready.{row_lowered, row_ready}
use Rattle.pebbles.proofs.Rows.{row_nth, same_row}
use Rattle.pebbles.proofs.Strides.{even_power, stride_of_room}

-- a level that stands in the closed form, and is not put away, has the key of its place
standing_kept : {X : Type 0} (chain : ℕ → X) (k j q r : ℕ) (l : Level X) → 0 < j → unless_away (Some (standing chain (2 ^ k) (2 ^ j) q r)) ≡ Some l
    → Kept chain (2 ^ k) l
unfolding standing
standing_kept {X} chain k j q r l pos = grind (arith, stride_of_room, target_stride, even_power, pow_pos)

-- before it has served a place, a level stands at its stride, or is put away where that passes n
module _ {X : Type 0} (chain : ℕ → X) (n g p : ℕ) (early : g < p) where
  unserved_yet : standing_after chain n g p ≡ standing chain n p 0 (g + p)
  unserved_yet = grind (arith, served_is g p 0 (g + p), since_is g p 0 (g + p))

  unserved : p ≤ n → standing_after chain n g p ≡ pebble chain p p
  unfolding standing
  unserved fits = grind arith

  beyond : n < p → standing_after chain n g p ≡ away_at chain n
  unfolding standing
  beyond past = grind arith

-- an unused source stands in the closed form
first_stands : {X : Type 0} (step : X → X) (top : X) (k j : ℕ) → first_level step top k j ≡ standing_after (key_at step top k) (2 ^ k) 0 (2 ^ j)
first_stands {X} step top k j = grind (arith, unserved, beyond, pow_pos, pow_mono, pow_below)

-- the steps of a call, on any levels
pub steps_counted : {X : Type 0} (step : X → X) (n i : ℕ) (ls : Levels X) → (call step n i ls).steps ≡ lowering_steps ls + i % 2
steps_counted step n i ls = grind (arith, even_form, odd_form)

module _ {X : Type 0} (step : X → X) (top : X) (k room : ℕ) (some : 1 ≤ k) (small : k < 32) (fits : k ≤ room) where
  stands : (g : ℕ) → g ≤ 2 ^ k → levels_after step top k room g ≡ standing_levels (key_at step top k) (2 ^ k) room g
  unfolding levels_after unused
  stands zero within = same_row _ _ 1 room (λ j _. first_stands step top k j)
  stands (suc g) within =
      ap (λ ls. (call step (2 ^ k) (g + 1) ls).levels) (stands g (omega arith)) ∙ (call_good step top k room some small fits g (omega arith)).after

  good : (g : ℕ) → g < 2 ^ k → Good (key_at step top k) k room g (call_after step top k room g)
  good g more =
      subst (λ ls. Good (key_at step top k) k room g (call step (2 ^ k) (g + 1) ls)) (sym (stands g (omega arith)))
      (call_good step top k room some small fits g more)

  pub run : Run step top k room
  run = record {
    stands = stands;
    kept = λ g j l within pos inside e.
        standing_kept (key_at step top k) k j (served g (2 ^ j)) (since g (2 ^ j)) l pos
        (ap unless_away (sym (row_nth _ room j pos inside)) ∙ ap (λ ls. level ls j) (sym (stands g within)) ∙ e);
    ready = λ g more.
        subst (Ready (key_at step top k) (2 ^ k) (g + 1))
        (sym (ap (map (lowered step)) (stands g (omega arith)) ∙ row_lowered step top k room some small fits g))
        (row_ready step top k room some small fits g more);
    answers = λ g more. (good g more).answer;
    steps = λ g more. steps_counted step (2 ^ k) (g + 1) (levels_after step top k room g);
    bounded = λ g more. (good g more).steps;
  }
