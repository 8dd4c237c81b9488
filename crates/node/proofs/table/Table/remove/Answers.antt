use Rattle.std.proofs.Common.{arith}
use Rattle.node.specs.Places.{slot_said}
use Rattle.node.proofs.Tables.{one_less, most_first}
use Rattle.node.proofs.table.Table.remove.Goals as goal

pub returns-clause-held : goal.returns-clause-held
returns-clause-held c =
    let self = c.args.self.now in
    let most = most_first slot_said self.slots self.count in
    one_less slot_said self.slots _ self.count c.args.place _ (omega arith) (omega arith) c.rotate_left.ensures.after
