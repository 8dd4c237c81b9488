use Rattle.std.proofs.Common.{◌≡◌, ℕ, ◌-◌, [], ◌++◌, length, take, replicate, sym, ap, ◌∙◌, rules, arith, length-append}
use Rattle.std.specs.Slice.Iter.{chunks_rest}
use Rattle.std.proofs.lemmas.List.{length-replicate, nil_from_length, take_at, take-take}
use Rattle.cipher.specs.Blocks.{on_front}
use Rattle.cipher.specs.Bytes.{to_be}
use Rattle.cipher.proofs.ByteLaws.{length_to_be}
use Rattle.chain.specs.Tag.{◌⊕◌, blocks, chained, mac}
use Rattle.chain.proofs.TagLaws.{length_xor, zeros_xor, blocks_none, front_of, chained_next}
use Rattle.chain.proofs.mac.mac.Goals as goal

pub loop-part-preserved : goal.loop-part-preserved
loop-part-preserved g c =
    let m = g.B.Block in
    let w = m.make.width in
    let encrypt = m.under c.args.cipher.now in
    let least = m.make.at_least in
    let steps = c.in-Some.ensures.steps in
    let so_far = c.loop-part.invariant in
    let last = c.loop-part.state in
    let part = c.in-Some.part.now in
    let next = c.absorb.new.state in
    let long : length next ≡ 16 = search rules in
    let front = front_of w encrypt (last ⊕ part) next m.make.at_most (length_xor last part ∙ so_far.long) long c.absorb.ensures in
    record {
      size = steps.0 ∙ so_far.size;
      long = long;
      ends = chained_next w encrypt last next (chunks_rest c.loop-part.part-iterator) part (chunks_rest c.next.new.self) (omega arith) steps.1.2 steps.1.0 (rw so_far.size at steps.1.1) front ∙ so_far.ends;
    }

pub returns : goal.returns
unfolding mac chained
returns g c =
    let m = g.B.Block in
    let w = m.make.width in
    let encrypt = m.under c.args.cipher.now in
    let message = c.args.message.bytes.now in
    let size = to_be w (length message) in
    let long = length_to_be w (length message) in
    let narrow = m.make.at_most in
    let block = size ++ replicate (16 - w) 0 in
    let wide : length block ≡ 16 = length-append size _ ∙ omega (arith, length-replicate {A = ℕ} (16 - w) 0) in
    let begun : c.begun-state.result ≡ on_front w encrypt block = c.begun-state.ensures ∙ ap (λ n. on_front w encrypt (to_be w n ++ replicate (16 - w) 0)) c.len.ensures in
    let sixteen : length c.begun-state.result ≡ 16 = search rules in
    let first : take w c.begun-state.result ≡ encrypt (replicate w 0 ⊕ size) =
    front_of w encrypt block c.begun-state.result narrow wide sixteen begun ∙ ap encrypt (take_at size _ w long ∙ sym (zeros_xor w size long)) in
    let none : chunks_rest c.loop-part.part-iterator ≡ [] = nil_from_length _ c.in-None.ensures.steps.1.0 in
    let whole : chunks_rest c.into_iter-part-iterator.result ≡ message =
    ap chunks_rest c.into_iter-part-iterator.ensures.into_iter_gives ∙ c.chunks-part-items.ensures.rest in
    let ended : take w c.loop-part.state ≡ mac w encrypt message =
    ap (chained encrypt (take w c.loop-part.state)) (sym (ap (blocks w) none ∙ blocks_none w)) ∙ c.loop-part.invariant.ends ∙ (λ i. chained encrypt (first i) (blocks w (whole i))) in
    c.front.ensures ∙ sym (take-take 8 w c.loop-part.state m.make.at_least) ∙ ap (take 8) ended
