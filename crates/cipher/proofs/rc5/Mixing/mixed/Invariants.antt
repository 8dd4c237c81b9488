use Rattle.std.proofs.Common.{◌≡◌}
use Rattle.cipher.specs.Rc5.{mixed}
use Rattle.cipher.proofs.rc5.Mixing.mixed.Given as goal

abbrev pub invariant-loop-r : goal.invariant-loop-r
invariant-loop-r l = l.mixing ≡ mixed l.r l.initial.mixing
