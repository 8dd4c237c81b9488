-- One call on levels in the closed form: its answer is the chain's key, it takes at most k steps, and the closed form is kept.
use Rattle.std.proofs.Common.{◌≡◌, ℕ, suc, ◌+◌, ◌-◌, ◌*◌, ◌%◌, ◌^◌, ◌<◌, ◌≤◌, true, map, Some, sym, ap, ◌∙◌, subst, ⊎_elim, mul_left_comm, add-one, arith, pow_pos}
use native.Mathlib.Nat.{pow-succ'}
use Rattle.std.proofs.lemmas.Bool.{cases_lt}
use Rattle.pebbles.specs.Levels.{Call, Levels, call, even_call, key_at, key_below, key_of, lowered, lowering_steps, moves, odd_call, refilled, with_level, zeros}
use Rattle.pebbles.specs.Places.{next_target, served, since, standing, standing_after, standing_levels}
use Rattle.pebbles.proofs.Making.{key_at_below}
use Rattle.pebbles.proofs.Places.{counted, moving, refill_standing, served_at, standing_anew, standing_next, target_stride}
use Rattle.pebbles.proofs.Rows.{same_row, set_row, count_row}
use Rattle.pebbles.proofs.Strides.{even_power, level_below, level_within, neighbours}
use Rattle.pebbles.proofs.Zeros.{zeros_of}
use Rattle.pebbles.proofs.Ready.{lowered_levels, row_lowered, row_ready, zeros_within}

-- what the call g + 1 comes to, on levels in the closed form
pub record Good {X : Type 0} (chain : ℕ → X) (k room g : ℕ) (c : Call X) : Type 0 where
  pub after : c.levels ≡ standing_levels chain (2 ^ k) room (suc g)
  pub answer : c.answer ≡ Some (chain (g + 1))
  pub steps : c.steps ≤ k

-- a call, by the place that it gives
module _ {X : Type 0} (step : X → X) (n i : ℕ) (ls : Levels X) where
  pub odd_form : i % 2 ≡ 1 → call step n i ls ≡ odd_call step i (lowering_steps ls) (map (lowered step) ls)
  unfolding call
  odd_form odd = grind arith

  pub even_form : i % 2 ≡ 0 → call step n i ls ≡ even_call n i (lowering_steps ls) (map (lowered step) ls)
  unfolding call
  even_form even = grind arith

module _ {X : Type 0} (step : X → X) (top : X) (k room : ℕ) (some : 1 ≤ k) (small : k < 32) (fits : k ≤ room) where
  abbrev chain : ℕ → X
  chain = key_at step top k

  abbrev before : ℕ → Levels X
  before g = standing_levels chain (2 ^ k) room g

  abbrev between : ℕ → Levels X
  between g = lowered_levels chain (2 ^ k) room g

  -- ---- a call keeps the closed form

  -- a level that call g + 1 does not serve stands as it was lowered
  not_served : (g j : ℕ) → 0 < j → (suc g ≡ next_target (2 ^ j) (served g (2 ^ j)) → ⊥)
      → standing chain (2 ^ k) (2 ^ j) (served g (2 ^ j)) (suc (since g (2 ^ j))) ≡ standing_after chain (2 ^ k) (suc g) (2 ^ j)
  not_served g j pos other = grind (arith, standing_next, served_at, counted, pow_pos)

  row_odd : (g : ℕ) → (g + 1) % 2 ≡ 1 → between g ≡ before (suc g)
  row_odd g odd =
      same_row _ _ 1 room λ j pos. not_served g j pos λ e.
      omega (arith, e, target_stride (2 ^ j) (served g (2 ^ j)), mul_left_comm (served g (2 ^ j)) 2 (2 ^ j), even_power j pos)

  level_refilled : (g : ℕ) → g < 2 ^ k → (g + 1) % 2 ≡ 0
      → refilled (2 ^ k) (g + 1) (zeros (g + 1)) (between g) ≡ Some (standing_after chain (2 ^ k) (g + 1) (2 ^ zeros (g + 1)))
  level_refilled g more even =
      let z = zeros_within k (g + 1) small (omega arith) (omega arith) even in
      let ready = row_ready step top k room some small fits g more in
      refill_standing chain (2 ^ k) (2 ^ zeros (g + 1)) z.2.0 (g + 1) _ _ z.2.1 (ready.refill even) (ready.even even)
      ∙ ap Some (sym (standing_anew chain (2 ^ k) (2 ^ zeros (g + 1)) z.2.0 (g + 1) (pow_pos (zeros (g + 1))) z.2.1))

  row_even : (g : ℕ) → g < 2 ^ k → (g + 1) % 2 ≡ 0
      → with_level (between g) (zeros (g + 1)) (refilled (2 ^ k) (g + 1) (zeros (g + 1)) (between g)) ≡ before (suc g)
  row_even g more even =
      let z = zeros_within k (g + 1) small (omega arith) (omega arith) even in
      ap (with_level (between g) (zeros (g + 1))) (level_refilled g more even)
      ∙ set_row _ _ room (zeros (g + 1)) _ z.0 (omega (arith, z.1)) (ap (λ i. standing_after chain (2 ^ k) i (2 ^ zeros (g + 1))) (add-one g)) λ j pos other.
      not_served g j pos λ e.
      let within : j < 32 = omega (arith, level_within k j (served g (2 ^ j)) (omega arith)) in
      other (sym (zeros_of 32 j (served g (2 ^ j)) within) ∙ ap zeros (sym (add-one g ∙ e)))

  -- ---- one call

  call_odd : (g : ℕ) → (g + 1) % 2 ≡ 1 → call step (2 ^ k) (g + 1) (before g) ≡ odd_call step (g + 1) (lowering_steps (before g)) (between g)
  call_odd g odd = grind (arith, odd_form, row_lowered)

  call_even : (g : ℕ) → (g + 1) % 2 ≡ 0 → call step (2 ^ k) (g + 1) (before g) ≡ even_call (2 ^ k) (g + 1) (lowering_steps (before g)) (between g)
  call_even g even = grind (arith, even_form, row_lowered)

  steps_below : (g : ℕ) → lowering_steps (before g) ≤ k - 1
  steps_below g =
      count_row moves _ k 1 room
      (λ j pos m.
      let at = moving chain (2 ^ k) (2 ^ j) (served g (2 ^ j)) (since g (2 ^ j)) m in
      omega (arith, level_below k j (served g (2 ^ j)) at.0 at.2))
      (λ j pos low high.
      let doubled : 2 ^ (j + 1) ≡ 2 * 2 ^ j = ap (λ x. 2 ^ x) (add-one j) ∙ pow-succ' 2 j in
      neighbours chain (2 ^ k) g (2 ^ j) (pow_pos j) low (subst (λ p. moves (standing_after chain (2 ^ k) g p) ≡ true) doubled high))

  good_odd : (g : ℕ) → g < 2 ^ k → (g + 1) % 2 ≡ 1 → Good chain k room g (odd_call step (g + 1) (lowering_steps (before g)) (between g))
  good_odd g more odd = record {
    after = row_odd g odd;
    answer = ap (key_below step) ((row_ready step top k room some small fits g more).odd odd) ∙ ap Some (key_at_below step top k (g + 1 + 1) (omega arith) (omega (arith, even_power k some)) ∙ ap chain (back (g + 1)));
    steps = omega (arith, steps_below g);
  }
    where
      back : (i : ℕ) → i + 1 - 1 ≡ i
      back i = omega arith

  good_even : (g : ℕ) → g < 2 ^ k → (g + 1) % 2 ≡ 0 → Good chain k room g (even_call (2 ^ k) (g + 1) (lowering_steps (before g)) (between g))
  good_even g more even = record {
    after = row_even g more even;
    answer = ap key_of ((row_ready step top k room some small fits g more).even even);
    steps = omega (arith, steps_below g);
  }

  pub call_good : (g : ℕ) → g < 2 ^ k → Good (key_at step top k) k room g (call step (2 ^ k) (g + 1) (standing_levels (key_at step top k) (2 ^ k) room g))
  call_good g more =
      ⊎_elim (λ e. let even : (g + 1) % 2 ≡ 0 = omega arith in subst (Good chain k room g) (sym (call_even g even)) (good_even g more even))
      (λ o. let odd : (g + 1) % 2 ≡ 1 = omega arith in subst (Good chain k room g) (sym (call_odd g odd)) (good_odd g more odd))
      (cases_lt ((g + 1) % 2) 1)
