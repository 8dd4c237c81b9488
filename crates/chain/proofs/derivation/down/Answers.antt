use Rattle.std.proofs.Common.{◌≡◌, refl, ap, ◌∙◌, rules}
use Rattle.chain.specs.Chain.{step, down}
use Rattle.chain.proofs.ChainLaws.{down_add, down_next}
use Rattle.chain.proofs.derivation.down.Goals as goal

pub loop-init : goal.loop-init
unfolding down
loop-init g c = refl

pub loop-preserved : goal.loop-preserved
loop-preserved g c =
    let make = g.B.Block.make in
    c.step-reached.ensures ∙ ap (step make) c.loop.invariant ∙ down_next make c.args.key c.loop.counter

pub returns-clause-more : goal.returns-clause-more
returns-clause-more g c = λ t.
    let make = g.B.Block.make in
    let value : c.loop.reached ≡ down make c.args.key c.args.steps = search rules in
    ap (λ key. down make key t) value ∙ down_add make c.args.key c.args.steps t
