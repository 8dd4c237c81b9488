use Rattle.std.proofs.Common.{sym, subst}
use Rattle.playback.specs.Counting.{StepsFit}
use Rattle.playback.specs.Walks.{to_come}
use Rattle.playback.proofs.Underway.{UnderWay, goes_on, step_fits}
use Rattle.playback.proofs.walk.Walk.write_orders.Goals as goal

pub after-counts-requires : goal.after-counts-requires
after-counts-requires g c =
    let on = subst (λ l. UnderWay (to_come g.B.Block.make c.args.self) l c.loop-step.counts c.args.out.now c.loop-step.out) c.in-Some.ensures.steps c.loop-step.invariant in
    record {
      step_fits = step_fits _ _ _ _ _ _ on _ (subst (StepsFit (to_come g.B.Block.make c.args.self)) (sym c.loop-step.auto.out) c.requires);
      step_bound = c.in-Some.ensures.within;
    }

pub loop-step-preserved : goal.loop-step-preserved
loop-step-preserved g c =
    let on = subst (λ l. UnderWay (to_come g.B.Block.make c.args.self) l c.loop-step.counts c.args.out.now c.loop-step.out) c.in-Some.ensures.steps c.loop-step.invariant in
    goes_on _ _ _ _ _ _ on _ _ c.after-counts.ensures
