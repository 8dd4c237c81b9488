-- A length below 65,536 as a big-endian block: zeros, then its two bytes.
use Rattle.std.proofs.Common.{◌≡◌, ℕ, zero, suc, ◌-◌, ◌/◌, ◌%◌, ◌<◌, ◌≤◌, List, [], ◌∷◌, ◌++◌, drop, reverse, replicate, sym, refl, ap, ◌∙◌, append_assoc, add-one, arith}
use Rattle.std.proofs.lemmas.List.{reverse-append, replicate_more, take-replicate, drop-replicate}
use borrow.Rule.Slice.PartMut.{put_mid}
use Rattle.cipher.specs.Bytes.{to_le, to_be}

to_le_zero : (n x : ℕ) → x ≡ 0 → to_le n x ≡ replicate n 0
unfolding to_le
to_le_zero zero x h = refl
to_le_zero (suc n) x h =
    let low : x % 256 ≡ 0 = omega arith in
    let rest = to_le_zero n (x / 256) (omega arith) in
    λ i. low i ∷ rest i

reverse_zeros : (n : ℕ) → reverse {A = ℕ} (replicate n 0) ≡ replicate n 0
reverse_zeros zero = refl
reverse_zeros (suc n) =
    reverse-append (0 ∷ []) (replicate n 0) ∙ ap (λ l. l ++ (0 ∷ [])) (reverse_zeros n) ∙ replicate_more n 0 ∙ ap (λ m. replicate m 0) (add-one n)

two_bytes : (n x : ℕ) → x < 65536 → to_be (suc (suc n)) x ≡ replicate n 0 ++ (x / 256 % 256 ∷ x % 256 ∷ [])
unfolding to_be to_le
two_bytes n x h =
    let none : to_le n (x / 256 / 256) ≡ replicate n 0 = to_le_zero n _ (omega arith) in
    reverse-append (x % 256 ∷ x / 256 % 256 ∷ []) (to_le n (x / 256 / 256)) ∙ ap (λ l. l ++ (x / 256 % 256 ∷ x % 256 ∷ [])) (ap reverse none ∙ reverse_zeros n)

-- zeros with the two bytes written before place w
pub length_block : (w x : ℕ) → 8 ≤ w → w ≤ 16 → x < 65536 →
    put_mid (w - 2) (w - (w - 2)) (replicate 16 0) (x / 256 % 256 ∷ x % 256 ∷ []) ≡ to_be w x ++ replicate (16 - w) 0
length_block w x low high small =
    let n : ℕ = w - 2 in
    let whole : suc (suc n) ≡ w = omega arith in
    let behind : 16 - n - (w - n) ≡ 16 - w = omega arith in
    let bytes : List ℕ = x / 256 % 256 ∷ x % 256 ∷ [] in
    let front = take-replicate {X = ℕ} n 16 0 (omega arith) in
    let back = ap (drop (w - n)) (drop-replicate {X = ℕ} n 16 0) ∙ drop-replicate (w - n) (16 - n) 0 ∙ ap (λ k. replicate k 0) behind in
    (λ i. front i ++ (bytes ++ back i)) ∙ sym (append_assoc (replicate n 0) bytes _) ∙ ap (λ l. l ++ replicate (16 - w) 0) (sym (two_bytes n x small) ∙ ap (λ k. to_be k x) whole)
