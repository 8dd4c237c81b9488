-- Which bytes read the same in every terminal, and between double quotes.
use Rattle.std.specs.Prelude.{ℕ, Bool, not, ◌&&◌, List, ◌==◌, nat_le}
use Rattle.std.specs.List.{list_all}

-- 34 is the double quote, and 92 the backslash
abbrev pub plain : ℕ → Bool
plain b = nat_le 32 b && nat_le b 126 && not (b == 34) && not (b == 92)

abbrev pub all_plain : List ℕ → Bool
all_plain = list_all plain
