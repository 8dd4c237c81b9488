-- What bytes begin with.
use Rattle.std.proofs.Common.{◌≡◌, ℕ, true, List, ◌++◌, length, take, drop, arith}
use Rattle.std.proofs.lemmas.Grind.{common_steps}
use Rattle.std.proofs.lemmas.List.{take_at}
use Rattle.std.proofs.lemmas.Slice.Eq.{bytes_eq-Decides}
use Rattle.capture.specs.Reading.{begins_with}

pub begins_split : (front bytes : List ℕ) → begins_with front bytes ≡ true → bytes ≡ front ++ drop (length front) bytes
begins_split front bytes h = grind (arith, common_steps, bytes_eq-Decides)

pub begins_take : (front bytes : List ℕ) → take (length front) bytes ≡ front → begins_with front bytes ≡ true
begins_take front bytes h = (bytes_eq-Decides _ _).1 h

pub begins_from : (front bytes rest : List ℕ) → bytes ≡ front ++ rest → begins_with front bytes ≡ true
begins_from front bytes rest e = grind (arith, take_at, bytes_eq-Decides)
