-- A row of levels made from a function of the level's number: a map over it, a write to it, a count over it.
use Rattle.std.proofs.Common.{◌≡◌, ℕ, zero, suc, ◌+◌, ◌-◌, ◌*◌, ◌<◌, ◌≤◌, Bool, true, false, cond, ◌≢◌, ◌∷◌, map, get_or, set, Some, count_by, sym, refl, ap, ◌∙◌, ap₂, ⊎_elim, arith}
use mathlib.Core.List.{map-map}
use Rattle.std.proofs.lemmas.List.FromFn.{length-map-range_with_len, get_or-map-range_with_len}
use Rattle.std.proofs.lemmas.List.{ext_get_or, length-set, get_or-set_same, get_or-set_other}
use Rattle.std.proofs.lemmas.Option.{slice_get-get_or}
use Rattle.std.proofs.lemmas.List.Sums.{sum_by-cons}
use Rattle.std.proofs.lemmas.Bool.{cases_Bool, true≢false}
use Rattle.std.specs.List.{range_with_len, slice_get}

pub same_row : {X : Type 0} (f f' : ℕ → X) (a n : ℕ) → ((j : ℕ) → a ≤ j → f j ≡ f' j) → map f (range_with_len a n) ≡ map f' (range_with_len a n)
same_row f f' a zero same = refl
same_row f f' a (suc n) same = ap₂ ◌∷◌ (same a (omega arith)) (same_row f f' (a + 1) n (λ j l. same j (omega arith)))

pub map_row : {X Y : Type 0} (h : X → Y) (f : ℕ → X) (f' : ℕ → Y) (a n : ℕ) → ((j : ℕ) → a ≤ j → h (f j) ≡ f' j) → map h (map f (range_with_len a n)) ≡ map f' (range_with_len a n)
map_row h f f' a n same = map-map h f (range_with_len a n) ∙ same_row (λ j. h (f j)) f' a n same

pub row_nth : {X : Type 0} (f : ℕ → X) (n j : ℕ) → 0 < j → j ≤ n → slice_get (map f (range_with_len 1 n)) (j - 1) ≡ Some (f j)
row_nth f n j pos within =
    slice_get-get_or (map f (range_with_len 1 n)) (j - 1) (f j) (omega (arith, length-map-range_with_len f 1 n))
    ∙ ap Some (get_or-map-range_with_len f 1 n (j - 1) j (f j) (omega arith) (omega arith))

-- level t is written, and the others stay
module _ {X : Type 0} (f f' : ℕ → X) (n t : ℕ) (x : X) (pos : 0 < t) (within : t ≤ n) (here : x ≡ f' t) (others : (j : ℕ) → 0 < j → j ≢ t → f j ≡ f' j) where
  set_row_at : (i : ℕ) → i < n → get_or (set (map f (range_with_len 1 n)) (t - 1) x) i x ≡ get_or (map f' (range_with_len 1 n)) i x
  set_row_at i inside = grind (arith, get_or-set_same, get_or-set_other, get_or-map-range_with_len, length-map-range_with_len, others (1 + i))

  pub set_row : set (map f (range_with_len 1 n)) (t - 1) x ≡ map f' (range_with_len 1 n)
  set_row =
      ext_get_or x _ _ (length-set (map f (range_with_len 1 n)) (t - 1) x ∙ length-map-range_with_len f 1 n ∙ sym (length-map-range_with_len f' 1 n)) λ i inside.
      set_row_at i (omega (arith, length-set (map f (range_with_len 1 n)) (t - 1) x, length-map-range_with_len f 1 n))

-- where no two neighbours pass, and none from k - 1 on, twice their number is at most k - a; and one less where the first does not pass
module _ {X : Type 0} (passes : X → Bool) (f : ℕ → X) (k : ℕ) where
  count_row_both : (a n : ℕ) → ((j : ℕ) → a ≤ j → passes (f j) ≡ true → j + 1 < k) → ((j : ℕ) → a ≤ j → passes (f j) ≡ true → passes (f (j + 1)) ≡ true → ⊥)
      → (2 * count_by passes (map f (range_with_len a n)) ≤ k - a) × (passes (f a) ≡ false → 2 * count_by passes (map f (range_with_len a n)) ≤ k - (a + 1))
  count_row_both a zero low apart = (omega arith, λ _. omega arith)
  count_row_both a (suc n) low apart =
      go _ (passes (f a)) refl (sum_by-cons (λ x. cond (passes x) 1 0) (f a) (map f (range_with_len (a + 1) n)))
      (count_row_both (a + 1) n (λ j l. low j (omega arith)) (λ j l. apart j (omega arith)))
    where
      rest : ℕ
      rest = count_by passes (map f (range_with_len (a + 1) n))

      go : (all : ℕ) (b : Bool) → passes (f a) ≡ b → all ≡ cond b 1 0 + rest → (2 * rest ≤ k - (a + 1)) × (passes (f (a + 1)) ≡ false → 2 * rest ≤ k - (a + 1 + 1))
          → (2 * all ≤ k - a) × (b ≡ false → 2 * all ≤ k - (a + 1))
      go all false e sum ih = (omega arith, λ _. omega arith)
      go all true e sum ih =
          let next : passes (f (a + 1)) ≡ false = ⊎_elim (λ t. absurd (apart a (omega arith) e t)) (λ stays. stays) (cases_Bool (passes (f (a + 1)))) in
          (omega (arith, ih.1 next, low a (omega arith) e), λ stays. absurd (true≢false stays))

  pub count_row : (a n : ℕ) → ((j : ℕ) → a ≤ j → passes (f j) ≡ true → j + 1 < k) → ((j : ℕ) → a ≤ j → passes (f j) ≡ true → passes (f (j + 1)) ≡ true → ⊥)
      → 2 * count_by passes (map f (range_with_len a n)) ≤ k - a
  count_row a n low apart = (count_row_both a n low apart).0
