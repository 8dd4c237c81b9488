-- The tag of a message: a CBC-MAC that begins with the message's length, over any block cipher.
use Rattle.std.specs.Prelude.{ℕ, zero, suc, ◌-◌, cond, List, [], ◌∷◌, ◌++◌, length, take, drop, replicate, Ok, Err, Result, bit_xor, nat_le}
use Rattle.refusal.specs.declared.Refusal.{Refusal}
use Rattle.refusal.specs.declared.Refusal.TheVariants.{TooLong}
use Rattle.cipher.specs.Blocks.{Make}
use Rattle.cipher.specs.Bytes.{to_be}
use Rattle.cipher.specs.Keys.{key_bytes}
use Rattle.cipher.specs.declared.key.Key.{Key}

infixl 65 ◌⊕◌
-- the exclusive or of two strings of bytes
unfoldable pub ◌⊕◌ : List ℕ → List ℕ → List ℕ
◌⊕◌ [] ys = []
◌⊕◌ (x ∷ xs) [] = x ∷ xs
◌⊕◌ (x ∷ xs) (y ∷ ys) = bit_xor x y ∷ ◌⊕◌ xs ys

-- bytes filled with zeros to a block of w
unfoldable pub filled : ℕ → List ℕ → List ℕ
filled w bs = bs ++ replicate (w - length bs) 0

-- a message as whole blocks of w bytes; none for the empty message, and n is at least their number
unfoldable pub blocks_by : ℕ → ℕ → List ℕ → List (List ℕ)
blocks_by zero w message = []
blocks_by (suc n) w [] = []
blocks_by (suc n) w (b ∷ bs) = filled w (take w (b ∷ bs)) ∷ blocks_by n w (drop w (b ∷ bs))

unfoldable pub blocks : ℕ → List ℕ → List (List ℕ)
blocks w message = blocks_by (length message) w message

-- cipher block chaining: each block is joined with the result before it, and encrypted
unfoldable pub chained : (List ℕ → List ℕ) → List ℕ → List (List ℕ) → List ℕ
chained encrypt last [] = last
chained encrypt last (b ∷ bs) = chained encrypt (encrypt (last ⊕ b)) bs

-- what is chained from zeros: the length as a block, then the message
unfoldable pub mac : (w : ℕ) → (List ℕ → List ℕ) → List ℕ → List ℕ
mac w encrypt message = chained encrypt (replicate w 0) (to_be w (length message) ∷ blocks w message)

unfoldable pub tag : Make → Key → List ℕ → List ℕ
tag make key message = take 8 (mac make.width (make.value (key_bytes key)) message)

-- a message above 4,096 bytes is refused, and no other
abbrev pub tagged : Make → Key → List ℕ → Result (List ℕ) Refusal
tagged make key message = cond (nat_le (length message) 4096) (Ok (tag make key message)) (Err TooLong)
