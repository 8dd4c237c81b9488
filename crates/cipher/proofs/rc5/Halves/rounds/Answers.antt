use Rattle.std.proofs.Common.{rules, ◌≡◌, refl, arith}
use Rattle.std.proofs.lemmas.Grind.{common_steps}
use Rattle.std.proofs.lemmas.List.{get_or-take}
use Rattle.std.specs.Simd.{first_chunks}
use Rattle.cipher.specs.Rc5.{rounds}
use Rattle.cipher.proofs.Rc5Laws.{rounds_next}
use Rattle.cipher.proofs.rc5.Halves.rounds.Goals as goal

pub loop-pair-init : goal.loop-pair-init
unfolding rounds
loop-pair-init c = refl

pub loop-pair-preserved : goal.loop-pair-preserved
loop-pair-preserved c =
    let table = c.args.table.now in
    let pairs = c.as_chunks.result.0.now in
    let i = c.loop-pair.pair-index in
    let cut : pairs ≡ first_chunks 2 13 table = search rules in
    let next = rounds_next pairs i table c.args.self cut (omega arith) in
    grind (arith, common_steps, get_or-take)
