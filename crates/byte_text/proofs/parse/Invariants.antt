use Rattle.std.proofs.Common.{◌≡◌, length, vec_items}
use Rattle.byte_text.specs.Text.{bytes_of}
use Rattle.byte_text.proofs.Steps.{after}
use Rattle.byte_text.proofs.parse.Given as goal

abbrev pub invariant-loop-rest : goal.invariant-loop-rest
invariant-loop-rest l = after (vec_items l.bytes) (bytes_of l.rest) ≡ bytes_of l.initial.rest

abbrev pub decreases-loop-rest : goal.decreases-loop-rest
decreases-loop-rest l = length l.rest
