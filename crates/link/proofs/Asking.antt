-- Questions: a call is granted exactly when every one is answered yes.
use Rattle.std.proofs.Common.{◌≡◌, ℕ, Bool, true, false, List, [], ◌∷◌, ◌++◌, Some, None, Ok, Err, Option, Result, refl, arith}
use Rattle.std.specs.List.{AllByRecursion}
use Rattle.refusal.specs.declared.Refusal.{Refusal}
use Rattle.link.specs.Questions.{Question, first_no, unless}

abbrev pub Yes : Question → Type 0
Yes q = q.1 ≡ true

pub all_yes : (qs : List Question) → first_no qs ≡ None → AllByRecursion Yes qs
all_yes [] e = tt
all_yes (q ∷ qs) e = go (all_yes qs) q.1 refl
  where
    go : (first_no qs ≡ None → AllByRecursion Yes qs) → (b : Bool) → q.1 ≡ b → AllByRecursion Yes (q ∷ qs)
    go ih true y = (y, ih (rw y at e))
    go ih false y = absurd (let z : ◌≡◌ {A = ℕ} 0 1 = cc (rw y at e) in omega arith)

pub no_no : (qs : List Question) → AllByRecursion Yes qs → first_no qs ≡ None
no_no [] h = refl
no_no (q ∷ qs) h = rw h.0 (no_no qs h.1)

-- the questions behind others
pub all_behind : {X : Type 0} (P : X → Type 0) (xs ys : List X) → AllByRecursion P (xs ++ ys) → AllByRecursion P ys
all_behind P [] ys h = h
all_behind P (x ∷ xs) ys h = all_behind P xs ys h.1

-- a call that answers Ok was granted
pub granted_ok : {A : Type 0} (qs : List Question) (a b : A) → unless {A = Result A Refusal} (first_no qs) Err (Ok a) ≡ Ok b → AllByRecursion Yes qs × (a ≡ b)
granted_ok {A} qs a b = go (first_no qs) refl
  where
    go : (o : Option Refusal) → first_no qs ≡ o → unless {A = Result A Refusal} o Err (Ok a) ≡ Ok b → AllByRecursion Yes qs × (a ≡ b)
    go None e w = (all_yes qs e, cc)
    go (Some r) e w = absurd (let z : ◌≡◌ {A = ℕ} 0 1 = cc in omega arith)
