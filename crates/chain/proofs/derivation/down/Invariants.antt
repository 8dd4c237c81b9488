use Rattle.std.proofs.Common.{◌≡◌}
use Rattle.chain.specs.Chain.{down}
use Rattle.chain.proofs.derivation.down.Given as goal

abbrev pub invariant-loop : goal.invariant-loop
invariant-loop g l = l.reached ≡ down g.B.Block.make l.fn.key l.counter
