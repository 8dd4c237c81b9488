-- Arrays that are made element by element, and slices cut into arrays.
use Rattle.std.proofs.Common.{◌≡◌, ℕ, zero, suc, ◌+◌, ◌*◌, ◌<◌, ◌≤◌, List, [], get_or, map, take, drop, inl, inr, sym, ap, ◌∙◌, subst, arith}
use Rattle.std.specs.Array.{IsFromFnResult, IsFromFnResultFrom}
use Rattle.std.specs.Simd.{first_chunks}
use Rattle.std.specs.List.{range_with_len}
use Rattle.std.proofs.lemmas.Bool.{cases_eq}
use Rattle.std.proofs.lemmas.List.{drop-drop}
use Rattle.std.proofs.lemmas.List.FromFn.{fill_by_all}
use denote.Param.Members.{Mut, Called}

-- each call of the closure at an index below n gives what h gives, and leaves the closure as it was
abbrev pub Gives : {F : Type 0} → Mut F (ℕ × Unit {0}) ℕ → F → (ℕ → ℕ) → ℕ → Type 0
Gives {F} g f h n = (x r : ℕ) (q : F) → x < n → Called g f (x, tt) r q → (q ≡ f) × (r ≡ h x)

filled_from : {F : Type 0} (g : Mut F (ℕ × Unit {0}) ℕ) (f : F) (ys : List ℕ) (h : ℕ → ℕ) (n : ℕ) → Gives g f h n → (i m : ℕ) → i + m ≡ n → IsFromFnResultFrom g f ys i m → (k : ℕ) → i ≤ k → k < n → get_or ys k 0 ≡ h k
filled_from g f ys h n gives i zero end made k from below = absurd (omega arith)
filled_from g f ys h n gives i (suc m) end (q, y, is, call, rest) k from below =
    let same = gives i y q (omega arith) call in
    elim (cases_eq i k) [
      | inl here ↦ ap (λ j. get_or ys j 0) (sym here) ∙ is.1 0 ∙ same.1 ∙ ap h here
      | inr above ↦ filled_from g f ys h n gives (i + 1) m (omega arith) (subst (λ p. IsFromFnResultFrom g p ys (i + 1) m) same.0 rest) k (omega arith) below
    ]

-- what `array::from_fn` answers
pub filled_by : {F : Type 0} {g : Mut F (ℕ × Unit {0}) ℕ} {f : F} {ys : List ℕ} (h : ℕ → ℕ) (n : ℕ) → IsFromFnResult g f ys n → Gives g f h n → ys ≡ map h (range_with_len 0 n)
filled_by {F} {g} {f} {ys} h n made gives =
    fill_by_all h ys n 0 made.long (λ k below. filled_from g f ys h n gives 0 n (omega arith) made.each k (omega arith) below)

-- the chunk at an index
pub chunk_at : (n k i : ℕ) (xs : List ℕ) → i < k → get_or (first_chunks n k xs) i [] ≡ take n (drop (n * i) xs)
chunk_at n zero i xs below = absurd (omega arith)
chunk_at n (suc k) zero xs below = let none : 0 ≡ n * 0 = omega arith in ap (λ j. take n (drop j xs)) none
chunk_at n (suc k) (suc i) xs below =
    let place : n + n * i ≡ n * suc i = omega arith in
    chunk_at n k i (drop n xs) (omega arith) ∙ ap (take n) (drop-drop (n * i) n xs ∙ ap (λ j. drop j xs) place)
