-- Each answer is that of the questions: those before it were answered yes.
use Rattle.std.proofs.Common.{◌≡◌, true, false, nat_lt, sym, refl, rules}
use Rattle.node.specs.Clocks.{clock_of}
use Rattle.node.proofs.receiver.Receiver.may_take.Goals as goal

pub returns-then-not-in_order : goal.returns-then-not-in_order
returns-then-not-in_order g c = rw (sym c.if-not-in_order.ensures) refl

pub returns-then-not-is_interval : goal.returns-then-not-is_interval
returns-then-not-is_interval g c = rw (sym c.if-not-in_order.ensures, sym c.if-not-is_interval.ensures) refl

pub returns-then-not-is_early : goal.returns-then-not-is_early
returns-then-not-is_early g c =
    rw (sym c.if-not-in_order.ensures, sym c.if-not-is_interval.ensures, sym c.if-not-is_early.ensures) refl

pub returns-then-holds : goal.returns-then-holds
returns-then-holds g c =
    let held_already = c.if-holds.ensures g.B.Block.make (clock_of c.args.self.now.clock) in
    rw (sym c.if-not-in_order.ensures, sym c.if-not-is_interval.ensures, sym c.if-not-is_early.ensures, sym held_already) refl

pub returns-then-len-ge-PLACES : goal.returns-then-len-ge-PLACES
returns-then-len-ge-PLACES g c =
    let new = c.if-holds.ensures g.B.Block.make (clock_of c.args.self.now.clock) in
    let full : nat_lt c.len.result 32 ≡ false = search rules in
    rw (sym c.if-not-in_order.ensures, sym c.if-not-is_interval.ensures, sym c.if-not-is_early.ensures, sym new, sym c.len.ensures, full) refl

pub returns : goal.returns
returns g c =
    let new = c.if-holds.ensures g.B.Block.make (clock_of c.args.self.now.clock) in
    let room : nat_lt c.len.result 32 ≡ true = search rules in
    rw (sym c.if-not-in_order.ensures, sym c.if-not-is_interval.ensures, sym c.if-not-is_early.ensures, sym new, sym c.len.ensures, room) refl
