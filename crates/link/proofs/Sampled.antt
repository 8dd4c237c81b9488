-- The samples hold.
use Rattle.std.proofs.Common.{refl}
use Rattle.link.specs.Samples.{SamplesStand}

pub clock_sampled : SamplesStand
clock_sampled cipher = record { ahead = refl; behind = refl; second = refl; third = refl; taken = refl; too_late = refl; not_due = λ key. refl }
