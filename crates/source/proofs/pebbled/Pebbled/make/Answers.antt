-- An unused source of the chain, and every run from it.
use Rattle.std.proofs.Common.{map, refl, ap, ◌∙◌, zero-le}
use Rattle.chain.specs.Chain.{step}
use Rattle.pebbles.specs.Draws.{bare}
use Rattle.pebbles.proofs.Bare.{bare_unused}
use Rattle.source.specs.Sources.{no_key}
use Rattle.source.proofs.UnusedSources.{runs_pebbled, unused_pebbled}
use Rattle.source.proofs.pebbled.Pebbled.make.Goals as goal

pub invariant_of-result : goal.invariant_of-result
invariant_of-result g c = record {
  within = zero-le;
  placed = ap (map (bare no_key)) c.unused.ensures ∙ bare_unused no_key (step g.B.Block.make) c.args.last c.in_ok-size.size.bits 12;
}

pub returns-clause-made : goal.returns-clause-made
returns-clause-made g c = unused_pebbled g.B.Block.make c.args.last _ c.args.k refl c.in_ok-size.ensures c.unused.ensures

pub returns-clause-runs : goal.returns-clause-runs
returns-clause-runs g c = runs_pebbled g.B.Block.make c.args.last _ c.args.k refl c.in_ok-size.ensures c.unused.ensures
