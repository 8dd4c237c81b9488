-- Each answer is that of the questions: those before it were answered yes.
use Rattle.std.proofs.Common.{◌≡◌, ◌-◌, true, false, nat_lt, sym, refl, rules, tests}
use Rattle.chain.specs.Chain.{down}
use Rattle.link.specs.Receiver.{same_key}
use Rattle.node.proofs.receiver.Receiver.may_adopt.Goals as goal

pub returns-then-not-in_order : goal.returns-then-not-in_order
returns-then-not-in_order g c = rw (sym c.if-not-in_order.ensures) refl

pub returns-then-not-is_interval : goal.returns-then-not-is_interval
returns-then-not-is_interval g c = rw (sym c.if-not-in_order.ensures, sym c.if-not-is_interval.ensures) refl

pub returns-then-interval-self : goal.returns-then-interval-self
returns-then-interval-self g c =
    let older : nat_lt c.args.self.now.reached c.args.interval ≡ false = search rules in
    rw (sym c.if-not-in_order.ensures, sym c.if-not-is_interval.ensures, older) refl

pub returns-then-is_early : goal.returns-then-is_early
returns-then-is_early g c =
    let newer : nat_lt c.args.self.now.reached c.args.interval ≡ true = search rules in
    rw (sym c.if-not-in_order.ensures, sym c.if-not-is_interval.ensures, newer, sym c.if-is_early.ensures) refl

pub returns-then-ne : goal.returns-then-ne
returns-then-ne g c =
    let newer : nat_lt c.args.self.now.reached c.args.interval ≡ true = search rules in
    let end : c.down-end.result ≡ down g.B.Block.make c.args.key (c.args.interval - c.args.self.now.reached) = search rules in
    let other : same_key c.down-end.result c.args.self.now.newest ≡ false = search (rules, tests) in
    rw (sym c.if-not-in_order.ensures, sym c.if-not-is_interval.ensures, newer, sym c.if-is_early.ensures, sym end, other) refl

pub returns : goal.returns
returns g c =
    let newer : nat_lt c.args.self.now.reached c.args.interval ≡ true = search rules in
    let end : c.down-end.result ≡ down g.B.Block.make c.args.key (c.args.interval - c.args.self.now.reached) = search rules in
    let same : same_key c.down-end.result c.args.self.now.newest ≡ true = search (rules, tests) in
    rw (sym c.if-not-in_order.ensures, sym c.if-not-is_interval.ensures, newer, sym c.if-is_early.ensures, sym end, same) refl
