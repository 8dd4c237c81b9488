use Rattle.std.proofs.Common.{ap, ◌∙◌}
use Rattle.cipher.specs.Rc5.{encrypted, key_table, mixed, rc5}
use Rattle.cipher.proofs.rc5.Rc5Block.keyed.Goals as goal

pub returns : goal.returns
unfolding rc5 key_table
returns c = ap (λ m. encrypted m.table) (c.mixed-mixing.ensures ∙ ap (mixed 78) c.start.ensures)
