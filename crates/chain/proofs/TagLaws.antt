-- Laws of the exclusive or of byte strings, of the blocks of a message and of their chaining.
use Rattle.std.proofs.Common.{◌≡◌, ℕ, zero, suc, ◌+◌, ◌-◌, ◌<◌, ◌≤◌, min, List, [], ◌∷◌, ◌++◌, length, get_or, map, take, drop, replicate, sym, refl, ap, ◌∙◌, append-nil, arith, length-append, length-drop}
use Rattle.std.specs.List.{range_with_len}
use Rattle.std.specs.Int.Bits.{bit_xor, xor_zero_r}
use Rattle.std.proofs.lemmas.List.FromFn.{fill_by_all}
use Rattle.std.proofs.lemmas.List.{take_all, drop_all, take_at, drop_at}
use Rattle.cipher.specs.Blocks.{on_front}
use Rattle.chain.specs.Tag.{◌⊕◌, filled, blocks_by, blocks, chained}

pub xor_none : (xs : List ℕ) → xs ⊕ [] ≡ xs
unfolding ◌⊕◌
xor_none [] = refl
xor_none (x ∷ xs) = refl

pub length_xor : (xs ys : List ℕ) → length (xs ⊕ ys) ≡ length xs
unfolding ◌⊕◌
length_xor [] ys = refl
length_xor (x ∷ xs) [] = refl
length_xor (x ∷ xs) (y ∷ ys) = ap suc (length_xor xs ys)

get_or_xor : (xs ys : List ℕ) (i : ℕ) → i < length xs → get_or (xs ⊕ ys) i 0 ≡ bit_xor (get_or xs i 0) (get_or ys i 0)
unfolding ◌⊕◌
get_or_xor [] ys i h = absurd (omega arith)
get_or_xor (x ∷ xs) [] i h = sym (xor_zero_r (get_or (x ∷ xs) i 0))
get_or_xor (x ∷ xs) (y ∷ ys) zero h = refl
get_or_xor (x ∷ xs) (y ∷ ys) (suc i) h = get_or_xor xs ys i (omega arith)

-- the exclusive or, byte by byte
pub xor_by_bytes : (xs ys : List ℕ) (n : ℕ) → length xs ≡ n → xs ⊕ ys ≡ map (λ i. bit_xor (get_or xs i 0) (get_or ys i 0)) (range_with_len 0 n)
xor_by_bytes xs ys n long = fill_by_all (λ i. bit_xor (get_or xs i 0) (get_or ys i 0)) (xs ⊕ ys) n 0 (length_xor xs ys ∙ long) (λ i h. get_or_xor xs ys i (omega arith))

-- zeros change nothing, on either side
pub zeros_xor : (n : ℕ) (ys : List ℕ) → length ys ≡ n → replicate n 0 ⊕ ys ≡ ys
unfolding ◌⊕◌
zeros_xor zero [] h = refl
zeros_xor zero (y ∷ ys) h = absurd (omega arith)
zeros_xor (suc n) [] h = absurd (omega arith)
zeros_xor (suc n) (y ∷ ys) h = ap (λ l. y ∷ l) (zeros_xor n ys (omega arith))

xor_zeros : (xs : List ℕ) (n : ℕ) → xs ⊕ replicate n 0 ≡ xs
unfolding ◌⊕◌
xor_zeros [] n = refl
xor_zeros (x ∷ xs) zero = refl
xor_zeros (x ∷ xs) (suc n) = λ i. xor_zero_r x i ∷ xor_zeros xs n i

pub xor_filled : (xs ys : List ℕ) (n : ℕ) → xs ⊕ (ys ++ replicate n 0) ≡ xs ⊕ ys
unfolding ◌⊕◌
xor_filled [] ys n = refl
xor_filled (x ∷ xs) [] n = xor_zeros (x ∷ xs) n
xor_filled (x ∷ xs) (y ∷ ys) n = ap (λ l. bit_xor x y ∷ l) (xor_filled xs ys n)

take_xor : (w : ℕ) (xs ys : List ℕ) → length ys ≤ w → take w (xs ⊕ ys) ≡ take w xs ⊕ ys
unfolding ◌⊕◌
take_xor zero xs [] h = refl
take_xor zero xs (y ∷ ys) h = absurd (omega arith)
take_xor (suc w) [] ys h = refl
take_xor (suc w) (x ∷ xs) [] h = refl
take_xor (suc w) (x ∷ xs) (y ∷ ys) h = ap (λ l. bit_xor x y ∷ l) (take_xor w xs ys (omega arith))

-- the front of a state with a part of a message joined in is the front with the filled block joined in
pub xor_front : (w : ℕ) (xs ys : List ℕ) → length ys ≤ w → take w (xs ⊕ ys) ≡ take w xs ⊕ filled w ys
unfolding filled
xor_front w xs ys h = take_xor w xs ys h ∙ sym (xor_filled (take w xs) ys (w - length ys))

no_blocks : (n w : ℕ) → blocks_by n w [] ≡ []
unfolding blocks_by
no_blocks zero w = refl
no_blocks (suc n) w = refl

enough : (n m w : ℕ) (bs : List ℕ) → 0 < w → length bs ≤ n → length bs ≤ m → blocks_by n w bs ≡ blocks_by m w bs
unfolding blocks_by
enough n m w [] wide a b = no_blocks n w ∙ sym (no_blocks m w)
enough zero m w (x ∷ xs) wide a b = absurd (omega arith)
enough (suc n) zero w (x ∷ xs) wide a b = absurd (omega arith)
enough (suc n) (suc m) w (x ∷ xs) wide a b =
    let left = length-drop w (x ∷ xs) in
    ap (λ l. filled w (take w (x ∷ xs)) ∷ l) (enough n m w (drop w (x ∷ xs)) wide (omega arith) (omega arith))

pub blocks_none : (w : ℕ) → blocks w [] ≡ []
unfolding blocks blocks_by
blocks_none w = refl

pub blocks_next : (w : ℕ) (bs : List ℕ) → 0 < w → 0 < length bs → blocks w bs ≡ filled w (take w bs) ∷ blocks w (drop w bs)
unfolding blocks blocks_by
blocks_next w [] wide some = absurd (omega arith)
blocks_next w (b ∷ bs) wide some =
    let left = length-drop w (b ∷ bs) in
    ap (λ l. filled w (take w (b ∷ bs)) ∷ l) (enough (length bs) (length (drop w (b ∷ bs))) w (drop w (b ∷ bs)) wide (omega arith) (omega arith))

-- the front of what an encryption of the front answers
pub front_of : (w : ℕ) (f : List ℕ → List ℕ) (bs r : List ℕ) → w ≤ 16 → length bs ≡ 16 → length r ≡ 16 → r ≡ on_front w f bs → take w r ≡ f (take w bs)
front_of w f bs r narrow long whole is =
    let sizes = sym whole ∙ ap length is ∙ length-append (f (take w bs)) (drop w bs) in
    let behind = length-drop w bs in
    ap (take w) is ∙ take_at (f (take w bs)) (drop w bs) w (omega arith)

-- a list cut behind a block, or at its end where that comes first
cut_at : (w : ℕ) (xs ys : List ℕ) → length xs ≡ min w (length xs + length ys) → (take w (xs ++ ys) ≡ xs) × (drop w (xs ++ ys) ≡ ys)
cut_at w xs [] h = (ap (take w) (append-nil xs) ∙ take_all w xs (omega arith), ap (drop w) (append-nil xs) ∙ drop_all w xs (omega arith))
cut_at w xs (y ∷ ys) h = let whole : length xs ≡ w = omega arith in (take_at xs (y ∷ ys) w whole, drop_at xs (y ∷ ys) w whole)

-- One part of the message more is chained: `next` is the state after `last`.
pub chained_next : (w : ℕ) (f : List ℕ → List ℕ) (last next rest part after : List ℕ) → 0 < w → 0 < length rest →
    rest ≡ part ++ after → length part ≡ min w (length rest) → take w next ≡ f (take w (last ⊕ part)) →
    chained f (take w next) (blocks w after) ≡ chained f (take w last) (blocks w rest)
unfolding chained
chained_next w f last next rest part after wide some cut long is =
    let sizes = ap length cut ∙ length-append part after in
    let parted = cut_at w part after (omega arith) in
    let front : take w rest ≡ part = ap (take w) cut ∙ parted.0 in
    let back : drop w rest ≡ after = ap (drop w) cut ∙ parted.1 in
    let here : blocks w rest ≡ filled w part ∷ blocks w after = blocks_next w rest wide some ∙ (λ i. filled w (front i) ∷ blocks w (back i)) in
    ap (λ s. chained f s (blocks w after)) (is ∙ ap f (xor_front w last part (omega arith))) ∙ ap (chained f (take w last)) (sym here)
