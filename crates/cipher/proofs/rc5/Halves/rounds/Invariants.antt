use Rattle.std.proofs.Common.{◌≡◌}
use Rattle.cipher.specs.Rc5.{rounds}
use Rattle.cipher.proofs.rc5.Halves.rounds.Given as goal

abbrev pub invariant-loop-pair : goal.invariant-loop-pair
invariant-loop-pair l = l.halves ≡ rounds l.pair-index l.table l.initial.halves
