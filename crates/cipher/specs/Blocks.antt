-- What a block cipher is: a width, and for each key a function on blocks of that width.
use Rattle.std.specs.Prelude.{◌≡◌, ℕ, ◌<◌, ◌≤◌, List, ◌++◌, length, take, drop}
use Rattle.std.specs.List.{AllByRecursion}

-- a byte string of w bytes
abbrev pub Bytes : ℕ → List ℕ → Type 0
Bytes w bs = (length bs ≡ w) × AllByRecursion (λ b. b < 256) bs

-- The meaning of one make of cipher. It takes a key of 16 bytes and a block of `width` bytes to `width` bytes.
pub record Make : Type 0 where
  pub width : ℕ
  pub at_least : 8 ≤ width
  pub at_most : width ≤ 16
  pub value : List ℕ → List ℕ → List ℕ
  pub whole : (key block : List ℕ) → Bytes 16 key → Bytes width block → Bytes width (value key block)

-- a function on blocks of w bytes, used on the first w bytes of a longer list
abbrev pub on_front : ℕ → (List ℕ → List ℕ) → List ℕ → List ℕ
on_front w f bs = f (take w bs) ++ drop w bs
