use Rattle.std.proofs.Common.{◌≡◌, ◌^◌, ℤ, pos, ◌-ℤ◌, ◌∙◌, arith, w64, to_z, of_z}
use Rattle.std.specs.Int.{int_div_euclid}
use Rattle.std.proofs.lemmas.Int.{ints}
use Rattle.node.proofs.Floors.{floor_least, floor_most}
use Rattle.node.proofs.clock.Clock.interval_at.Goals as goal

pub returns : goal.returns
returns c =
    let self = c.args.self.now in
    let time = c.args.time.micros in
    let number = c.from.ensures in
    let duration = c.from-2.ensures in
    let since : ℤ = time -ℤ pos self.start in
    let divided : to_z w64 (of_z w64 (to_z w64 (of_z w64 time) -ℤ to_z w64 self.start)) ≡ since = omega (arith, ints) in
    let by : to_z w64 (of_z w64 c.from-2.result) ≡ pos self.duration = omega (arith, ints) in
    let floor : c.div_euclid.result ≡ int_div_euclid since (pos self.duration) = c.div_euclid.ensures ∙ (λ i. int_div_euclid (divided i) (by i)) in
    let least = floor_least since self.duration (2 ^ 54) (omega (arith, ints)) in
    let most = floor_most since self.duration (2 ^ 54) (omega (arith, ints)) in
    omega (arith, ints)
