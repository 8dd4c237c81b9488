-- Laws of what a test keeps of a list, where two tests meet.
use Rattle.std.proofs.Common.{◌≡◌, ◌≤◌, Bool, true, false, not, List, [], ◌∷◌, map, length, filter, sym, refl, ap, ◌∙◌, arith}
use Rattle.std.specs.List.{AllByRecursion}
use Rattle.std.proofs.lemmas.Bool.{true≢false}

module _ {X : Type 0} where
  -- where f passes g does: f keeps the same of what g keeps
  pub kept_in : (f g : X → Bool) → ((x : X) → f x ≡ true → g x ≡ true) → (xs : List X) → filter f (filter g xs) ≡ filter f xs
  kept_in f g h [] = refl
  kept_in f g h (x ∷ xs) = go (kept_in f g h xs) (f x) (g x) refl refl
    where
      go : filter f (filter g xs) ≡ filter f xs → (a b : Bool) → f x ≡ a → g x ≡ b → filter f (filter g (x ∷ xs)) ≡ filter f (x ∷ xs)
      go ih true true e d = rw (d, e) (ap (λ l. x ∷ l) ih)
      go ih true false e d = absurd (true≢false (sym (h x e) ∙ d))
      go ih false true e d = rw (d, e) ih
      go ih false false e d = rw (d, e) ih

  -- where f passes g does not: f keeps nothing of what g keeps
  pub kept_out : (f g : X → Bool) → ((x : X) → f x ≡ true → g x ≡ false) → (xs : List X) → filter f (filter g xs) ≡ []
  kept_out f g h [] = refl
  kept_out f g h (x ∷ xs) = go (kept_out f g h xs) (f x) (g x) refl refl
    where
      go : filter f (filter g xs) ≡ [] → (a b : Bool) → f x ≡ a → g x ≡ b → filter f (filter g (x ∷ xs)) ≡ []
      go ih true true e d = absurd (true≢false (sym d ∙ h x e))
      go ih true false e d = rw d ih
      go ih false true e d = rw (d, e) ih
      go ih false false e d = rw d ih

  -- where g passes f does: f keeps all of what g keeps
  pub kept_whole : (f g : X → Bool) → ((x : X) → g x ≡ true → f x ≡ true) → (xs : List X) → filter f (filter g xs) ≡ filter g xs
  kept_whole f g h [] = refl
  kept_whole f g h (x ∷ xs) = go (kept_whole f g h xs) (f x) (g x) refl refl
    where
      go : filter f (filter g xs) ≡ filter g xs → (a b : Bool) → f x ≡ a → g x ≡ b → filter f (filter g (x ∷ xs)) ≡ filter g (x ∷ xs)
      go ih true true e d = rw (d, e) (ap (λ l. x ∷ l) ih)
      go ih true false e d = rw d ih
      go ih false true e d = absurd (true≢false (sym (h x d) ∙ e))
      go ih false false e d = rw d ih

  pub kept_comm : (f g : X → Bool) (xs : List X) → filter f (filter g xs) ≡ filter g (filter f xs)
  kept_comm f g [] = refl
  kept_comm f g (x ∷ xs) = go (kept_comm f g xs) (f x) (g x) refl refl
    where
      go : filter f (filter g xs) ≡ filter g (filter f xs) → (a b : Bool) → f x ≡ a → g x ≡ b → filter f (filter g (x ∷ xs)) ≡ filter g (filter f (x ∷ xs))
      go ih true true e d = rw (d, e, d) (ap (λ l. x ∷ l) ih)
      go ih true false e d = rw (d, e, d) ih
      go ih false true e d = rw (d, e) ih
      go ih false false e d = rw (d, e) ih

  -- what a test keeps, and what it does not: with nothing kept, the rest is all
  pub kept_none : (f : X → Bool) (xs : List X) → filter f xs ≡ [] → filter (λ x. not (f x)) xs ≡ xs
  kept_none f [] h = refl
  kept_none f (x ∷ xs) h = go (kept_none f xs) (f x) refl
    where
      go : (filter f xs ≡ [] → filter (λ y. not (f y)) xs ≡ xs) → (a : Bool) → f x ≡ a → filter (λ y. not (f y)) (x ∷ xs) ≡ x ∷ xs
      go ih true e = absurd (omega (arith, ap length (rw e at h)))
      go ih false e = rw e (ap (λ l. x ∷ l) (ih (rw e at h)))

  pub kept_fewer : (f : X → Bool) (xs : List X) → length (filter f xs) ≤ length xs
  kept_fewer f [] = omega arith
  kept_fewer f (x ∷ xs) = go (kept_fewer f xs) (f x) refl
    where
      go : length (filter f xs) ≤ length xs → (a : Bool) → f x ≡ a → length (filter f (x ∷ xs)) ≤ length (x ∷ xs)
      go ih true e = rw e (omega arith)
      go ih false e = rw e (omega arith)

  pub kept_map : {Y : Type 0} (f : X → Bool) (g : Y → X) (ys : List Y) → map g (filter (λ y. f (g y)) ys) ≡ filter f (map g ys)
  kept_map f g [] = refl
  kept_map f g (y ∷ ys) = go (kept_map f g ys) (f (g y)) refl
    where
      go : map g (filter (λ z. f (g z)) ys) ≡ filter f (map g ys) → (a : Bool) → f (g y) ≡ a → map g (filter (λ z. f (g z)) (y ∷ ys)) ≡ filter f (map g (y ∷ ys))
      go ih true e = rw e (ap (λ l. g y ∷ l) ih)
      go ih false e = rw e ih

  pub one_only : (xs : List X) → length xs ≡ 1 → (x : X) × (xs ≡ x ∷ [])
  one_only [] h = absurd (omega arith)
  one_only (x ∷ []) h = (x, refl)
  one_only (x ∷ y ∷ xs) h = absurd (omega arith)

  -- a test that keeps nothing fails everywhere
  pub all_fail : (f : X → Bool) (xs : List X) → filter f xs ≡ [] → AllByRecursion (λ x. f x ≡ false) xs
  all_fail f [] h = tt
  all_fail f (x ∷ xs) h = go (all_fail f xs) (f x) refl
    where
      go : (filter f xs ≡ [] → AllByRecursion (λ y. f y ≡ false) xs) → (a : Bool) → f x ≡ a → AllByRecursion (λ y. f y ≡ false) (x ∷ xs)
      go ih true e = absurd (omega (arith, ap length (rw e at h)))
      go ih false e = (e, ih (rw e at h))
