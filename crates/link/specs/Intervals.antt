-- Lists of what has an interval, interval by interval.
use Rattle.std.specs.Prelude.{ℕ, zero, suc, List, [], ◌++◌, filter, nat_eq}

-- the members of interval m, in order
abbrev pub of_interval : {X : Type 0} → (X → ℕ) → ℕ → List X → List X
of_interval interval m xs = filter (λ x. nat_eq (interval x) m) xs

-- the members of interval 1, then those of interval 2, and so on to interval a
abbrev pub upto : {X : Type 0} → (X → ℕ) → ℕ → List X → List X
upto interval zero xs = []
upto interval (suc a) xs = upto interval a xs ++ of_interval interval (suc a) xs
