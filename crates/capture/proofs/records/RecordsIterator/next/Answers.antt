use Rattle.std.proofs.Common.{refl}
use Rattle.capture.proofs.RecordsLaws.{takes}
use Rattle.capture.proofs.records.RecordsIterator.next.Goals as goal

pub returns-clause-steps : goal.returns-clause-steps
returns-clause-steps c = takes _ _ _ refl refl c.in_ok-first.ensures.value
