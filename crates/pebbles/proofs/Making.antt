-- How an unused source is made: the chain is walked down from its last key, and a level is filled at each power of two.
use Rattle.std.proofs.Common.{◌≡◌, ℕ, zero, suc, ◌+◌, ◌-◌, ◌^◌, ◌<◌, ◌≤◌, true, false, map, length, get_or, set, replicate, sym, refl, ap, ◌∙◌, suc-add, zero-add, arith}
use native.Mathlib.Nat.{sub_self}
use Rattle.std.proofs.lemmas.List.FromFn.{get_or-map-range_with_len, length-map-range_with_len}
use Rattle.std.proofs.lemmas.List.{ext_get_or, get_or-replicate, get_or-set_same, get_or-set_other, length-replicate, length-set}
use Rattle.std.proofs.lemmas.Bool.{cond-false, le-leb, lt-leb}
use Rattle.std.specs.List.{range_with_len}
use Rattle.pebbles.specs.declared.level.Level.{Level}
use Rattle.pebbles.proofs.Strides.{even_power}
use Rattle.pebbles.specs.Levels.{Levels, down, first_level, key_at, levels_after, unused}

-- the walk starts at the last key, and a step leads from a place to the one below
pub key_at_last : {X : Type 0} (step : X → X) (top : X) (k : ℕ) → key_at step top k (2 ^ k) ≡ top
key_at_last step top k = ap (down step top) (sub_self (2 ^ k))

pub key_at_below : {X : Type 0} (step : X → X) (top : X) (k place : ℕ) → 0 < place → place ≤ 2 ^ k → step (key_at step top k place) ≡ key_at step top k (place - 1)
key_at_below step top k place pos within = grind arith

-- a walk down is a walk to a place and one from there
pub down_down : {X : Type 0} (step : X → X) (top : X) (a b : ℕ) → down step (down step top a) b ≡ down step top (b + a)
down_down step top a zero = ap (down step top) (sym (zero-add a))
down_down step top a (suc b) = ap step (down_down step top a b) ∙ ap (down step top) (sym (suc-add b a))

pub key_at_walk : {X : Type 0} (step : X → X) (top : X) (k from to : ℕ) → to ≤ from → from ≤ 2 ^ k
    → down step (key_at step top k from) (from - to) ≡ key_at step top k to
key_at_walk step top k from to below within = grind (arith, down_down)

-- the walk has come down to a place, 2 ^ j at least, and the levels from index j on are those of an unused source; the list is read with the default d
pub record MadeFrom {X : Type 0} (step : X → X) (top : X) (k room : ℕ) (d : Level X) (j : ℕ) (ls : Levels X) (key : X) (place : ℕ) : Type 0 where
  pub long : length ls ≡ room
  pub above : 2 ^ j ≤ place
  pub within : place ≤ 2 ^ k
  pub of_chain : key ≡ key_at step top k place
  pub made : (a : ℕ) → a < room → j ≤ a → get_or ls a d ≡ first_level step top k (1 + a)

pub made_none : {X : Type 0} (step : X → X) (top : X) (k room : ℕ) (d : Level X) (n : ℕ) → n ≡ 2 ^ k
    → MadeFrom step top k room d k (replicate room (record { key = top; place = n; target = n; away = true })) top n
made_none step top k room d n e = record {
  long = length-replicate room _;
  above = omega arith;
  within = omega arith;
  of_chain = sym (key_at_last step top k) ∙ ap (key_at step top k) (sym e);
  made = λ a inside from.
      get_or-replicate room a _ d inside ∙ ap (λ x. record { key = top; place = x; target = x; away = true }) e
      ∙ sym (cond-false _ _ _ (lt-leb (1 + a) k (omega arith)));
}

module _ {X : Type 0} {step : X → X} {top : X} {k room : ℕ} {d : Level X} {j place : ℕ} {key : X} {ls : Levels X} (so_far : MadeFrom step top k room d j ls key place) where
  -- the turn that fills level j
  module _ (lower : ℕ) (after : X) (pos : 0 < j) (in_use : j ≤ k) (fits : k ≤ room) (e : lower ≡ 2 ^ j) (walked : after ≡ down step key (place - lower)) where
    walked_to : after ≡ key_at step top k lower
    walked_to = grind (arith, key_at_walk)

    abbrev filled : Level X
    filled = record { key = after; place = lower; target = lower; away = false }

    filled_is : (a : ℕ) → 1 + a ≡ j → filled ≡ first_level step top k (1 + a)
    filled_is a at = grind (arith, walked_to, le-leb)

    made_at : (a : ℕ) → a < room → j - 1 ≤ a → get_or (set ls (j - 1) filled) a d ≡ first_level step top k (1 + a)
    made_at a inside from = grind (arith, get_or-set_same, get_or-set_other, filled_is, so_far.long, so_far.made a inside)

    pub made_more : MadeFrom step top k room d (j - 1) (set ls (j - 1) filled) after lower
    made_more = record {
      long = length-set ls (j - 1) _ ∙ so_far.long;
      above = omega (arith, even_power j pos);
      within = omega (arith, so_far.above, so_far.within);
      of_chain = walked_to;
      made = made_at;
    }

  -- the levels are those of an unused source once the walk is done
  pub made_all : j ≤ 0 → ls ≡ levels_after step top k room 0
  unfolding levels_after unused
  made_all last =
      ext_get_or d ls (map (first_level step top k) (range_with_len 1 room)) (so_far.long ∙ sym (length-map-range_with_len (first_level step top k) 1 room)) λ a inside.
      let within : a < room = omega (arith, so_far.long) in
      so_far.made a within (omega arith) ∙ sym (get_or-map-range_with_len (first_level step top k) 1 room a (1 + a) d within refl)
