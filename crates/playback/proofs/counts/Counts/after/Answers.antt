use Rattle.std.proofs.Common.{◌≤◌, Some, refl, subst, arith, rules}
use Rattle.playback.specs.Walks.{payload_length}
use Rattle.playback.proofs.Orders.{order_after, order_fits, puts_nothing}
use Rattle.playback.proofs.counts.Counts.after.Goals as goal

pub slice_bounds-order-end : goal.slice_bounds-order-end
slice_bounds-order-end c =
    let within : c.in-Out.released.length ≤ 64 = subst (λ s. payload_length (Some s) ≤ 64) c.in-Out.is c.requires.step_bound in
    search rules

pub put_order-requires-clause-order_in_bounds : goal.put_order-requires-clause-order_in_bounds
put_order-requires-clause-order_in_bounds c =
    let fits = order_fits c.in-Out.at c.in-Out.released c.args.payload.now c.if-released.true _ refl _ c.in-Out.is _ _ c.requires.step_fits in
    fits.1

pub returns-in-Heard : goal.returns-in-Heard
returns-in-Heard c = rw c.in-Heard.is (record { read = omega arith; written = omega arith; puts = puts_nothing _ _ })

pub returns-in-Out : goal.returns-in-Out
returns-in-Out c =
    order_after c.in-Out.at c.in-Out.released c.args.payload.now c.if-released.true _ refl _ c.in-Out.is _ _ _ _ refl c.put_order.ensures.value c.put_order.ensures.after

pub returns-in-Out-2 : goal.returns-in-Out-2
returns-in-Out-2 c =
    rw (c.in-Out.is, c.if-released.false) (record { read = omega arith; written = omega arith; puts = puts_nothing _ _ })
