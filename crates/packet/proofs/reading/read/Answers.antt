use Rattle.std.proofs.Common.{rules}
use Rattle.packet.proofs.WritingLaws.{read_writes}
use Rattle.packet.proofs.reading.read.Goals as goal

pub returns-in-1-clause-back : goal.returns-in-1-clause-back
returns-in-1-clause-back c = search (rules, read_writes)

pub returns-in-2-clause-back : goal.returns-in-2-clause-back
returns-in-2-clause-back c = search (rules, read_writes)

pub returns-in-3-clause-back : goal.returns-in-3-clause-back
returns-in-3-clause-back c = search (rules, read_writes)

pub returns-in-4-clause-back : goal.returns-in-4-clause-back
returns-in-4-clause-back c = search (rules, read_writes)
