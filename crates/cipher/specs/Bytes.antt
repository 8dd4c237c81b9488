-- Numbers as bytes, in both orders.
use Rattle.std.specs.Prelude.{ℕ, zero, suc, ◌+◌, ◌*◌, ◌/◌, ◌%◌, List, [], ◌∷◌, reverse}

-- the number that bytes write, the least byte first
unfoldable pub from_le : List ℕ → ℕ
from_le [] = 0
from_le (b ∷ bs) = b + 256 * from_le bs

-- the first n bytes of a number, the least first
unfoldable pub to_le : ℕ → ℕ → List ℕ
to_le zero x = []
to_le (suc n) x = x % 256 ∷ to_le n (x / 256)

-- the same with the greatest byte first
unfoldable pub from_be : List ℕ → ℕ
from_be bs = from_le (reverse bs)

unfoldable pub to_be : ℕ → ℕ → List ℕ
to_be n x = reverse (to_le n x)
