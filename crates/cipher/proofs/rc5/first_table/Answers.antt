use Rattle.std.proofs.Common.{◌≡◌, ◌-◌, ◌++◌, take, sym, ap, ◌∙◌, append-nil, arith, length-set}
use Rattle.std.proofs.lemmas.List.{take_all}
use Rattle.cipher.specs.Rc5.{progression}
use Rattle.cipher.proofs.Rc5Laws.{progression_next}
use Rattle.cipher.proofs.rc5.first_table.Goals as goal

pub loop-slot-preserved : goal.loop-slot-preserved
loop-slot-preserved c =
    let now = c.loop-slot in (
      length-set now.slot-items _ _ ∙ now.invariant.0,
      progression_next 26 now.slot-index now.word now.slot-items c.loop-slot-test.true (omega arith) ∙ now.invariant.1,
    )

pub returns : goal.returns
unfolding progression
returns c =
    let now = c.loop-slot in
    let all : now.slot-index ≡ 26 = omega arith in
    sym (append-nil _) ∙ ap (λ l. l ++ progression 0 now.word) (sym (take_all now.slot-index now.slot-items (omega arith))) ∙ ap (λ n. take now.slot-index now.slot-items ++ progression (26 - n) now.word) (sym all) ∙ now.invariant.1
