use Rattle.std.proofs.Common.{refl, ap, ◌∙◌}
use Rattle.cipher.specs.Rc5.{mix, mixed}
use Rattle.cipher.proofs.Rc5Laws.{mixed_next}
use Rattle.cipher.proofs.rc5.Mixing.mixed.Goals as goal

pub loop-r-init : goal.loop-r-init
unfolding mixed
loop-r-init c = refl

pub loop-r-preserved : goal.loop-r-preserved
loop-r-preserved c = c.round.ensures ∙ ap (mix c.loop-r.r) c.loop-r.invariant ∙ mixed_next c.loop-r.r _
