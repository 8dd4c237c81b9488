-- What hexadecimal text says: two digits a byte, the high one first, in either case of letters.
use Rattle.std.specs.Prelude.{ℕ, ◌+◌, ◌*◌, cond, ◌&&◌, List, [], ◌∷◌, Some, None, Option, nat_lt}
use Rattle.std.specs.Char.{digit_value}

abbrev pub byte_of : ℕ → ℕ → Option ℕ
byte_of high low =
    cond (nat_lt (digit_value high) 16 && nat_lt (digit_value low) 16) (Some (digit_value high * 16 + digit_value low)) None

-- one byte more in front
abbrev pub with_byte : Option ℕ → Option (List ℕ) → Option (List ℕ)
with_byte None bs = None
with_byte (Some b) None = None
with_byte (Some b) (Some bs) = Some (b ∷ bs)

unfoldable pub bytes_of : List ℕ → Option (List ℕ)
bytes_of [] = Some []
bytes_of (high ∷ []) = None
bytes_of (high ∷ low ∷ rest) = with_byte (byte_of high low) (bytes_of rest)
