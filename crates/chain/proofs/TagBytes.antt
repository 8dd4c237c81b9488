-- The tag of a byte string is 8 bytes, and a key's bytes are 16.
use Rattle.std.proofs.Common.{ℕ, zero, suc, ◌-◌, ◌≤◌, List, [], ◌∷◌, length, take, drop, replicate, ◌∙◌, arith}
use Rattle.std.specs.List.{AllByRecursion}
use Rattle.std.proofs.lemmas.Nat.{xor_lt}
use Rattle.std.proofs.ByRecursion.{All-append, All-take, All-drop}
use Rattle.std.proofs.lemmas.List.{length-append, length-take, length-take-le, length-replicate}
use Rattle.cipher.specs.Blocks.{Make, Bytes}
use Rattle.cipher.specs.Bytes.{to_le, to_be}
use Rattle.cipher.specs.Keys.{key_bytes}
use Rattle.cipher.specs.Makes.{bytes_to_le}
use Rattle.cipher.specs.declared.key.Key.{Key}
use Rattle.cipher.proofs.ByteLaws.{Byte, all_reverse, length_to_be}
use Rattle.cipher.proofs.KeyLaws.{length_key_bytes}
use Rattle.chain.specs.Tag.{◌⊕◌, filled, blocks_by, blocks, chained, mac, tag}
use Rattle.chain.proofs.TagLaws.{length_xor}

pub be_bytes : (n x : ℕ) → Bytes n (to_be n x)
unfolding to_be
be_bytes n x = (length_to_be n x, all_reverse (to_le n x) (bytes_to_le n x).1)

pub key_16 : (k : Key) → Bytes 16 (key_bytes k)
unfolding key_bytes
key_16 k = (length_key_bytes k, All-append Byte (to_be 8 k.high) (to_be 8 k.low) (be_bytes 8 k.high).1 (be_bytes 8 k.low).1)

zeros_bytes : (n : ℕ) → AllByRecursion Byte (replicate n 0)
zeros_bytes zero = tt
zeros_bytes (suc n) = (omega arith, zeros_bytes n)

xor_bytes : (xs ys : List ℕ) → AllByRecursion Byte xs → AllByRecursion Byte ys → AllByRecursion Byte (xs ⊕ ys)
unfolding ◌⊕◌
xor_bytes [] ys h k = tt
xor_bytes (x ∷ xs) [] h k = h
xor_bytes (x ∷ xs) (y ∷ ys) h k = (xor_lt 8 x y h.0 k.0, xor_bytes xs ys h.1 k.1)

filled_bytes : (w : ℕ) (bs : List ℕ) → length bs ≤ w → AllByRecursion Byte bs → Bytes w (filled w bs)
unfolding filled
filled_bytes w bs short h =
    (length-append bs (replicate (w - length bs) 0) ∙ omega (arith, length-replicate {A = ℕ} (w - length bs) 0), All-append Byte bs (replicate (w - length bs) 0) h (zeros_bytes (w - length bs)))

blocks_bytes : (n w : ℕ) (message : List ℕ) → AllByRecursion Byte message → AllByRecursion (Bytes w) (blocks_by n w message)
unfolding blocks_by
blocks_bytes zero w message h = tt
blocks_bytes (suc n) w [] h = tt
blocks_bytes (suc n) w (b ∷ bs) h =
    (filled_bytes w (take w (b ∷ bs)) (omega (arith, length-take w (b ∷ bs))) (All-take Byte w (b ∷ bs) h), blocks_bytes n w (drop w (b ∷ bs)) (All-drop Byte w (b ∷ bs) h))

chained_bytes : (w : ℕ) (encrypt : List ℕ → List ℕ) → ((bs : List ℕ) → Bytes w bs → Bytes w (encrypt bs)) → (last : List ℕ) (bss : List (List ℕ)) → Bytes w last → AllByRecursion (Bytes w) bss → Bytes w (chained encrypt last bss)
unfolding chained
chained_bytes w encrypt whole last [] h k = h
chained_bytes w encrypt whole last (bs ∷ bss) h k =
    chained_bytes w encrypt whole (encrypt (last ⊕ bs)) bss (whole (last ⊕ bs) (length_xor last bs ∙ h.0, xor_bytes last bs h.1 k.0.1)) k.1

pub tag_8 : (cipher : Make) (k : Key) (message : List ℕ) → AllByRecursion Byte message → Bytes 8 (tag cipher k message)
unfolding tag mac blocks
tag_8 cipher k message h =
    let w : ℕ = cipher.width in
    let encrypt : List ℕ → List ℕ = cipher.value (key_bytes k) in
    let result : Bytes w (mac w encrypt message) =
    chained_bytes w encrypt (λ bs b. cipher.whole (key_bytes k) bs (key_16 k) b) (replicate w 0) _ (length-replicate w 0, zeros_bytes w) (be_bytes w (length message), blocks_bytes (length message) w message h) in
    (length-take-le 8 (mac w encrypt message) (omega (arith, result.0, cipher.at_least)), All-take Byte 8 (mac w encrypt message) result.1)
