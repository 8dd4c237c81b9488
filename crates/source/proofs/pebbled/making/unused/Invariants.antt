-- The walk so far.
use Rattle.chain.specs.Chain.{step}
use Rattle.pebbles.proofs.Making.{MadeFrom}
use Rattle.source.specs.Chains.{no_level}
use Rattle.source.proofs.pebbled.making.unused.Given as goal

abbrev pub invariant-loop-j : goal.invariant-loop-j
invariant-loop-j g l = MadeFrom (step g.B.Block.make) l.initial.key l.fn.size.bits 12 no_level l.j l.levels l.key l.place
