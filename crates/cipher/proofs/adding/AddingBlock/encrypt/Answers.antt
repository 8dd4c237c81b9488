use Rattle.std.proofs.Common.{◌≡◌, ◌+◌, ◌%◌, ◌++◌, length, get_or, sym, ◌∙◌, append-nil, arith, rules}
use Rattle.std.proofs.lemmas.List.{take_all, drop_all}
use Rattle.cipher.specs.Adding.{adding}
use Rattle.cipher.proofs.Arrays.{filled_by}
use Rattle.cipher.proofs.adding.AddingBlock.encrypt.Goals as goal

pub returns : goal.returns
unfolding adding
returns c =
    let key = c.args.self.now.key in
    let block = c.args.block in
    let long : length block ≡ 16 = search rules in
    let all = filled_by (λ m. (get_or block m 0 + get_or key m 0 + 1) % 256) 16 c.from_fn.ensures.items (λ m r q below k. search rules) in
    let whole = take_all 16 block (omega arith) in
    let none = drop_all 16 block (omega arith) in
    all ∙ sym (append-nil _) ∙ sym (λ i. adding key (whole i) ++ none i)
