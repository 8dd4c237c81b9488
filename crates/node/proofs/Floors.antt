-- A quotient that is rounded down lies within the bounds of what is divided.
use Rattle.std.proofs.Common.{ℕ, ◌/◌, ◌≤◌, ℤ, pos, negsuc, ◌≤ℤ◌, div-le_self, arith}
use Rattle.std.specs.Int.{int_div_euclid}
use Rattle.std.proofs.lemmas.Int.{ints}

pub floor_least : (z : ℤ) (d b : ℕ) → negsuc b ≤ℤ z → negsuc b ≤ℤ int_div_euclid z (pos d)
floor_least (pos a) d b h = omega (arith, ints)
floor_least (negsuc a) d b h = let less : a / d ≤ a = div-le_self a d in omega (arith, ints)

pub floor_most : (z : ℤ) (d b : ℕ) → z ≤ℤ pos b → int_div_euclid z (pos d) ≤ℤ pos b
floor_most (pos a) d b h = let less : a / d ≤ a = div-le_self a d in omega (arith, ints)
floor_most (negsuc a) d b h = omega (arith, ints)
