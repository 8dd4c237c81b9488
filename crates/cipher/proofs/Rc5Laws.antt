-- One step more of each recursion in RC5's definition.
use Rattle.std.proofs.Common.{◌≡◌, ℕ, suc, ◌+◌, ◌-◌, ◌*◌, ◌<◌, List, [], ◌∷◌, ◌++◌, length, get_or, take, drop, set, sym, ap, ◌∙◌, append_assoc, add-one, arith}
use Rattle.std.specs.Simd.{first_chunks}
use Rattle.std.proofs.lemmas.List.{get_or-drop, get_or-take, take_more_set}
use Rattle.cipher.specs.declared.rc5.Mixing.{Mixing}
use Rattle.cipher.specs.declared.rc5.Halves.{Halves}
use Rattle.cipher.specs.Rc5.{◌⊞◌, progression, mix, mixed, round, rounds}
use Rattle.cipher.proofs.Arrays.{chunk_at}

-- a round by its two words
abbrev with_words : ℕ → ℕ → Halves → Halves
with_words s t h = round 0 (s ∷ t ∷ []) h

-- a round takes the words of its pair
round_of_pair : (r : ℕ) (table : List ℕ) (h : Halves) → round 0 (take 2 (drop (2 * r) table)) h ≡ round r table h
round_of_pair r table h =
    let at : (i : ℕ) → i < 2 → get_or (take 2 (drop (2 * r) table)) i 0 ≡ get_or table (2 * r + i) 0 = λ i below. get_or-take 2 (drop (2 * r) table) i 0 below ∙ get_or-drop (2 * r) table i 0 in
    let first : get_or (take 2 (drop (2 * r) table)) 0 0 ≡ get_or table (2 * r) 0 = at 0 (omega arith) ∙ ap (λ j. get_or table j 0) (omega arith) in
    λ i. with_words (first i) (at 1 (omega arith) i) h

-- one round more, with the next of the pairs behind the first
pub rounds_next : (pairs : List (List ℕ)) (i : ℕ) (table : List ℕ) (h : Halves) → pairs ≡ first_chunks 2 13 table → i < 12 → round 0 (get_or (drop 1 pairs) i []) (rounds i table h) ≡ rounds (i + 1) table h
unfolding rounds
rounds_next pairs i table h is below =
    let next : 1 + i ≡ suc i = omega arith in
    let pair = get_or-drop 1 pairs i [] ∙ (λ j. get_or (is j) (next j) []) ∙ chunk_at 2 13 (suc i) table (omega arith) in
    ap (λ p. round 0 p (rounds i table h)) pair ∙ round_of_pair (suc i) table (rounds i table h) ∙ ap (λ n. rounds n table h) (sym (add-one i))

pub mixed_next : (r : ℕ) (m : Mixing) → mix r (mixed r m) ≡ mixed (r + 1) m
unfolding mixed
mixed_next r m = rw add-one

-- word i of n is written, and the next one is due
pub progression_next : (n i word : ℕ) (table : List ℕ) → i < n → i < length table →
    take (i + 1) (set table i word) ++ progression (n - (i + 1)) (word ⊞ 0x9e3779b9) ≡ take i table ++ progression (n - i) word
unfolding progression
progression_next n i word table more within =
    let left : suc (n - (i + 1)) ≡ n - i = omega arith in
    ap (λ l. l ++ progression (n - (i + 1)) (word ⊞ 0x9e3779b9)) (take_more_set table i word within) ∙ append_assoc (take i table) (word ∷ []) _ ∙ ap (λ m. take i table ++ progression m word) left
