-- Laws of lists put in order interval by interval.
use Rattle.std.proofs.Common.{◌≡◌, ℕ, zero, suc, ◌+◌, ◌<◌, ◌≤◌, Bool, true, List, [], ◌∷◌, ◌++◌, filter, sym, refl, ◌∙◌, inl, inr, append_assoc, append-nil, add-zero, add-suc, arith}
use Rattle.std.proofs.lemmas.List.Elements.{filter-append}
use Rattle.std.proofs.lemmas.Bool.{eq-eqb, ne_eqb, cases_order}
use Rattle.link.specs.Intervals.{of_interval, upto}
use Rattle.link.proofs.Keeping.{kept_in, kept_out, kept_comm}

module _ {X : Type 0} (interval : X → ℕ) where
  -- one more member, of another interval
  pub of_interval_push_other : (m : ℕ) (xs : List X) (x : X) → (interval x ≡ m → ⊥) → of_interval interval m (xs ++ x ∷ []) ≡ of_interval interval m xs
  of_interval_push_other m xs x other = filter-append _ xs (x ∷ []) ∙ rw (ne_eqb (interval x) m other) (append-nil _)

  -- one more member, of an interval above a
  pub upto_push_above : (a : ℕ) (xs : List X) (x : X) → a < interval x → upto interval a (xs ++ x ∷ []) ≡ upto interval a xs
  upto_push_above zero xs x above = refl
  upto_push_above (suc a) xs x above =
      let before : upto interval a (xs ++ x ∷ []) ≡ upto interval a xs = upto_push_above a xs x (omega arith) in
      let here : of_interval interval (suc a) (xs ++ x ∷ []) ≡ of_interval interval (suc a) xs = of_interval_push_other (suc a) xs x (λ e. omega arith) in
      λ i. before i ++ here i

  -- where two lists have the same members of each later interval, d intervals more are appended to both
  pub upto_more : (a d : ℕ) (front xs ys : List X) → upto interval a xs ≡ front ++ upto interval a ys → ((m : ℕ) → a < m → of_interval interval m xs ≡ of_interval interval m ys) → upto interval (a + d) xs ≡ front ++ upto interval (a + d) ys
  upto_more a zero front xs ys h above = rw add-zero h
  upto_more a (suc d) front xs ys h above =
      let before : upto interval (a + d) xs ≡ front ++ upto interval (a + d) ys = upto_more a d front xs ys h above in
      let here : of_interval interval (suc (a + d)) xs ≡ of_interval interval (suc (a + d)) ys = above (suc (a + d)) (omega arith) in
      rw add-suc ((λ i. before i ++ here i) ∙ append_assoc front _ _)

  -- a test commutes with the order
  pub upto_kept : (f : X → Bool) (a : ℕ) (xs : List X) → upto interval a (filter f xs) ≡ filter f (upto interval a xs)
  upto_kept f zero xs = refl
  upto_kept f (suc a) xs =
      let before : upto interval a (filter f xs) ≡ filter f (upto interval a xs) = upto_kept f a xs in
      let here : of_interval interval (suc a) (filter f xs) ≡ filter f (of_interval interval (suc a) xs) = kept_comm _ f xs in
      (λ i. before i ++ here i) ∙ sym (filter-append f (upto interval a xs) _)

  module _ (f : X → Bool) (m : ℕ) (only : (x : X) → f x ≡ true → interval x ≡ m) where
    -- a test that passes in interval m only keeps nothing of an earlier order
    pub upto_before : (a : ℕ) (xs : List X) → a < m → filter f (upto interval a xs) ≡ []
    upto_before zero xs below = refl
    upto_before (suc a) xs below =
        let before : filter f (upto interval a xs) ≡ [] = upto_before a xs (omega arith) in
        let here : filter f (of_interval interval (suc a) xs) ≡ [] = kept_out f _ (λ x e. ne_eqb (interval x) (suc a) (λ d. omega (arith, only x e))) xs in
        filter-append f (upto interval a xs) _ ∙ (λ i. before i ++ here i)

    -- and of a later one what it keeps of the list
    pub upto_within : (a : ℕ) (xs : List X) → 1 ≤ m → m ≤ a → filter f (upto interval a xs) ≡ filter f xs
    upto_within zero xs from to = absurd (omega arith)
    upto_within (suc a) xs from to = elim (cases_order m (suc a)) [
      | inl e ↦
          let before : filter f (upto interval a xs) ≡ [] = upto_before a xs (omega arith) in
          let here : filter f (of_interval interval (suc a) xs) ≡ filter f xs = kept_in f _ (λ x p. eq-eqb (interval x) (suc a) (only x p ∙ e)) xs in
          filter-append f (upto interval a xs) _ ∙ (λ i. before i ++ here i)
      | inr (inl l) ↦
          let before : filter f (upto interval a xs) ≡ filter f xs = upto_within a xs from (omega arith) in
          let here : filter f (of_interval interval (suc a) xs) ≡ [] = kept_out f _ (λ x p. ne_eqb (interval x) (suc a) (λ d. omega (arith, only x p))) xs in
          filter-append f (upto interval a xs) _ ∙ (λ i. before i ++ here i) ∙ append-nil _
      | inr (inr g) ↦ absurd (omega arith)
    ]

  pub upto_nil : (a : ℕ) → upto interval a [] ≡ []
  upto_nil zero = refl
  upto_nil (suc a) = rw (upto_nil a)
