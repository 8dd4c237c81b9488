use Rattle.std.proofs.Common.{◌≡◌, pos, ◌+ℤ◌, ap, ◌∙◌, arith, w64, to_z, of_z}
use lib.Signed.{lt_z}
use Rattle.std.proofs.lemmas.Int.{ints}
use Rattle.link.specs.Clock.{interval_at}
use Rattle.node.specs.Clocks.{clock_of}
use Rattle.node.proofs.clock.Clock.is_early.Goals as goal

pub returns : goal.returns
returns c =
    let self = c.args.self.now in
    let interval = c.from.ensures in
    let delay = c.from-2.ensures in
    let sum : to_z w64 (of_z w64 (to_z w64 (of_z w64 c.from.result) +ℤ to_z w64 (of_z w64 c.from-2.result))) ≡ pos c.args.interval +ℤ pos self.delay = omega (arith, ints) in
    let latest : to_z w64 (of_z w64 c.interval_at-latest.result) ≡ c.interval_at-latest.result = omega (arith, ints) in
    let at : c.interval_at-latest.result ≡ _ = c.interval_at-latest.ensures ∙ ap (interval_at (clock_of self).schedule) c.sender_time.ensures in
    λ i. lt_z ((latest ∙ at) i) (sum i)
