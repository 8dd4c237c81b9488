-- What is printed of the microseconds of a time.
use Rattle.std.proofs.Common.{◌≡◌, ℕ, ◌-◌, ◌^◌, false, List, [], ◌++◌, length, replicate}
use Rattle.std.proofs.Math.Nat.{sub-zero}
use Rattle.std.proofs.lemmas.List.{append-nil}
use Rattle.std.specs.Fmt.{padded_integral, format_spec, char_count}

-- what `{:06}` writes of digits
pub six_places : (ds : List ℕ) → padded_integral (format_spec 32 0 4 6 (2 ^ 64 - 1)) false [] ds ≡ replicate (6 - length ds) 48 ++ ds
unfolding padded_integral char_count
six_places ds = simp (sub-zero, append-nil)
