-- Buffers that are filled part by part.
use Rattle.std.proofs.Common.{◌≡◌, ℕ, ◌+◌, List, [], ◌++◌, length, sym, refl, ap, ◌∙◌, subst, arith, length-append}
use borrow.Rule.Slice.PartMut.{put_mid}
use Rattle.std.proofs.lemmas.Grind.{common_steps}
use Rattle.cipher.proofs.ByteLaws.{length_to_be, to_be_8}
use Rattle.packet.specs.Writing.{filled, with_part, Puts}
use Rattle.packet.proofs.NumberLaws.{two_bytes_written, four_bytes_written}

pub filled_none : (out : List ℕ) → out ≡ filled [] out
unfolding filled
filled_none out = refl

pub filled_whole : (bytes out : List ℕ) → length bytes ≡ length out → filled bytes out ≡ bytes
unfolding filled
filled_whole bytes out same = grind (arith, common_steps)

-- the first part, and one behind what fills the start so far
pub part_first : (part out : List ℕ) → with_part 0 part out ≡ filled part out
unfolding with_part filled
part_first part out = refl

pub part_next : (at : ℕ) (part done out : List ℕ) → length done ≡ at → with_part at part (filled done out) ≡ filled (done ++ part) out
unfolding with_part filled
part_next at part done out here = grind (arith, common_steps)

-- a write to the k bytes from `at` on
pub puts_mid : (at k : ℕ) (before new part : List ℕ) → k ≡ length part → new ≡ part → Puts at part before (put_mid at k before new)
unfolding filled
puts_mid at k before new part long same done out here start = grind (arith, common_steps)

pub puts_same : (at : ℕ) (before after p q : List ℕ) → p ≡ q → Puts at p before after → Puts at q before after
puts_same at before after p q e h = subst (λ part. Puts at part before after) e h

-- parts that are put one behind another fill a buffer
pub ruleset filling = (part_first, part_next, filled_whole, length-append, length_to_be, two_bytes_written, four_bytes_written, to_be_8)
