use Rattle.std.proofs.Common.{refl}
use Rattle.packet.specs.Kinds.{answer_said}
use Rattle.node.specs.Clocks.{clock_of}
use Rattle.node.specs.Nodes.{node_of}
use Rattle.node.specs.Places.{held}
use Rattle.node.proofs.Joining.{welcomed_ok, welcomed_err, refused_finish, schedule_told, finish_gives, ends_well, joined_sound}
use Rattle.node.proofs.requesting.Requesting.finish.Goals as goal

pub clock_by-requires-clause-schedule : goal.clock_by-requires-clause-schedule
clock_by-requires-clause-schedule g c =
    let granted = welcomed_ok _ _ _ c.in-Ok.ensures in
    schedule_told g.B.Block.make (node_of c.args.self) c.args.at.0 c.args.bytes.now _ granted.0 granted.1

pub invariant_of-result : goal.invariant_of-result
invariant_of-result g c =
    let cipher = g.B.Block.make in
    let node = node_of c.args.self in
    let t = c.args.at.0 in
    let bytes = c.args.bytes.now in
    let granted = welcomed_ok _ _ _ c.in-Ok.ensures in
    let gives = finish_gives cipher node t bytes (answer_said c.in-Ok.answer) granted.0 granted.1 (clock_of c.clock_by.result) c.from_bytes.result (held c.new.result) c.clock_by.ensures c.from_bytes.ensures.value c.new.ensures in
    let sound = joined_sound cipher node t bytes _ gives in
    record { apart = sound.apart; due = sound.due }

pub returns-in-Ok : goal.returns-in-Ok
returns-in-Ok g c =
    let cipher = g.B.Block.make in
    let node = node_of c.args.self in
    let t = c.args.at.0 in
    let bytes = c.args.bytes.now in
    let granted = welcomed_ok _ _ _ c.in-Ok.ensures in
    let gives = finish_gives cipher node t bytes (answer_said c.in-Ok.answer) granted.0 granted.1 (clock_of c.clock_by.result) c.from_bytes.result (held c.new.result) c.clock_by.ensures c.from_bytes.ensures.value c.new.ensures in
    record { value = gives; back = tt; history = ends_well cipher node t bytes _ gives }

pub returns-in-Err : goal.returns-in-Err
returns-in-Err g c = record {
  value = refused_finish g.B.Block.make (node_of c.args.self) c.args.at.0 c.args.bytes.now _ (welcomed_err _ _ _ c.in-Err.ensures);
  back = refl;
  history = tt;
}
