-- RC5-32/12/16 as its paper has it: words of 32 bits, 12 rounds, a key of 16 bytes.
use Rattle.std.specs.Prelude.{ℕ, zero, suc, ◌+◌, ◌-◌, ◌*◌, ◌/◌, ◌%◌, ◌^◌, List, [], ◌∷◌, ◌++◌, map, take, drop, bit_or, bit_xor, slice_index_or, slice_set}
use Rattle.std.specs.List.{range_with_len}
use Rattle.cipher.specs.Bytes.{from_le, to_le}
use Rattle.cipher.specs.declared.rc5.Mixing.{Mixing}
use Rattle.cipher.specs.declared.rc5.Halves.{Halves}

infixl 60 ◌⊞◌
infixl 62 ◌⋘◌
-- a sum of words, which wraps
abbrev pub ◌⊞◌ : ℕ → ℕ → ℕ
a ⊞ b = (a + b) % 2 ^ 32

-- a word rotated to the left by the low five bits of a count
abbrev pub ◌⋘◌ : ℕ → ℕ → ℕ
a ⋘ n = bit_or ((a * 2 ^ (n % 32)) % 2 ^ 32) (a / 2 ^ ((32 - n % 32) % 32))

-- the little-endian words L0 to L3 of a key
unfoldable pub key_words : List ℕ → List ℕ
key_words key = map (λ i. from_le (take 4 (drop (4 * i) key))) (range_with_len 0 4)

-- n words from s on, each the magic step above the one before
unfoldable pub progression : ℕ → ℕ → List ℕ
progression zero s = []
progression (suc n) s = s ∷ progression n (s ⊞ 0x9e3779b9)

-- round r of the mixing, from 0: the words of the table and of the key take turns
abbrev pub mix : ℕ → Mixing → Mixing
mix r m =
    let i : ℕ = r % 26 in
    let j : ℕ = r % 4 in
    let a : ℕ = (slice_index_or m.table i 0 ⊞ m.a ⊞ m.b) ⋘ 3 in
    let b : ℕ = (slice_index_or m.key j 0 ⊞ a ⊞ m.b) ⋘ (a ⊞ m.b) in
    record { table = slice_set m.table i a; key = slice_set m.key j b; a = a; b = b }

-- the state after the first r rounds of the mixing
unfoldable pub mixed : ℕ → Mixing → Mixing
mixed zero m = m
mixed (suc r) m = mix r (mixed r m)

unfoldable pub unmixed : List ℕ → Mixing
unmixed key = record { table = progression 26 0xb7e15163; key = key_words key; a = 0; b = 0 }

-- the words S0 to S25 that a key is set up to
unfoldable pub key_table : List ℕ → List ℕ
key_table key = (mixed 78 (unmixed key)).table

-- round r, from 1, with the words S_2r and S_2r+1
abbrev pub round : ℕ → List ℕ → Halves → Halves
round r table h =
    let a : ℕ = (bit_xor h.a h.b ⋘ h.b) ⊞ slice_index_or table (2 * r) 0 in
    let b : ℕ = (bit_xor h.b a ⋘ a) ⊞ slice_index_or table (2 * r + 1) 0 in
    record { a = a; b = b }

-- the first r rounds
unfoldable pub rounds : ℕ → List ℕ → Halves → Halves
rounds zero table h = h
rounds (suc r) table h = round (suc r) table (rounds r table h)

-- what comes before the rounds: S0 and S1 are added
abbrev pub whitened : List ℕ → Halves → Halves
whitened table h = record { a = h.a ⊞ slice_index_or table 0 0; b = h.b ⊞ slice_index_or table 1 0 }

-- a block is two little-endian words
unfoldable pub halves_of : List ℕ → Halves
halves_of block = record { a = from_le (take 4 block); b = from_le (drop 4 block) }

unfoldable pub halves_bytes : Halves → List ℕ
halves_bytes h = to_le 4 h.a ++ to_le 4 h.b

-- a block of 8 bytes under a table of words
unfoldable pub encrypted : List ℕ → List ℕ → List ℕ
encrypted table block = halves_bytes (rounds 12 table (whitened table (halves_of block)))

unfoldable pub rc5 : List ℕ → List ℕ → List ℕ
rc5 key = encrypted (key_table key)
