-- A key and its 16 bytes give each other back.
use Rattle.std.proofs.Common.{◌≡◌, ℕ, ◌+◌, ◌^◌, ◌<◌, List, ◌++◌, length, take, drop, sym, ap, ◌∙◌, arith, length-append, length-drop, take-append-drop}
use Rattle.std.specs.List.{AllByRecursion}
use Rattle.std.proofs.lemmas.List.{length-take-le, take_at, drop_at}
use Rattle.std.proofs.ByRecursion.{All-take, All-drop}
use Rattle.cipher.specs.declared.key.Key.{Key}
use Rattle.cipher.specs.Bytes.{from_be, to_be}
use Rattle.cipher.specs.Keys.{key_bytes, key_of}
use Rattle.cipher.proofs.ByteLaws.{Byte, from_to_be, to_from_be, length_to_be}

pub length_key_bytes : (k : Key) → length (key_bytes k) ≡ 16
unfolding key_bytes
length_key_bytes k = length-append _ _ ∙ (λ i. length_to_be 8 k.high i + length_to_be 8 k.low i)

-- eight bytes, read and written again
half : (bs : List ℕ) → length bs ≡ 8 → AllByRecursion Byte bs → to_be 8 (from_be bs) ≡ bs
half bs h b = ap (λ n. to_be n (from_be bs)) (sym h) ∙ to_from_be bs b

pub key_bytes_of : (bs : List ℕ) → length bs ≡ 16 → AllByRecursion Byte bs → key_bytes (key_of bs) ≡ bs
unfolding key_bytes key_of
key_bytes_of bs h b =
    let front = half (take 8 bs) (length-take-le 8 bs (omega arith)) (All-take Byte 8 bs b) in
    let back = half (drop 8 bs) (length-drop 8 bs ∙ omega arith) (All-drop Byte 8 bs b) in
    (λ i. front i ++ back i) ∙ take-append-drop 8 bs

pub key_of_bytes : (k : Key) → k.high < 2 ^ 64 → k.low < 2 ^ 64 → key_of (key_bytes k) ≡ k
unfolding key_bytes key_of
key_of_bytes k h l =
    let long = length_to_be 8 k.high in
    let high = ap from_be (take_at (to_be 8 k.high) (to_be 8 k.low) 8 long) ∙ from_to_be 8 k.high h in
    let low = ap from_be (drop_at (to_be 8 k.high) (to_be 8 k.low) 8 long) ∙ from_to_be 8 k.low l in
    λ i. record { high = high i; low = low i }
