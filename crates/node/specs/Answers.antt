-- What the code's answers say.
use Rattle.std.specs.Prelude.{ℕ, List, [], take, Some, None, Ok, Err, Option, Result}
use Rattle.refusal.specs.declared.Refusal.{Refusal}
use Rattle.link.specs.Receiver.{Answer, refused, holds, steps, none, out}
use Rattle.node.specs.declared.released.Released.{Released}

-- the answer of questions that were asked on the way
abbrev pub asked : Option Refusal → Result (Unit {0}) Refusal
asked None = Ok tt
asked (Some refusal) = Err refusal

abbrev pub take_says : Result ℕ Refusal → Answer
take_says (Ok count) = holds count
take_says (Err refusal) = refused refusal

abbrev pub key_says : Result ℕ Refusal → Answer
key_says (Ok count) = steps count
key_says (Err refusal) = refused refusal

-- a release, with the buffer after it
abbrev pub released_says : Released → List ℕ → Answer
released_says x buffer = out x.interval x.number (take x.length buffer) x.verdict

abbrev pub release_says : Result (Option Released) Refusal → List ℕ → Answer
release_says (Ok (Some x)) buffer = released_says x buffer
release_says (Ok None) buffer = none
release_says (Err refusal) buffer = refused refusal

-- the length that a release tells
abbrev pub release_length : Result (Option Released) Refusal → ℕ
release_length (Ok (Some x)) = x.length
release_length (Ok None) = 0
release_length (Err refusal) = 0

-- what an answer has written
abbrev pub written : Answer → List ℕ
written (refused refusal) = []
written (holds count) = []
written (steps count) = []
written none = []
written (out interval number payload verdict) = payload
