-- What each source means.
use Rattle.std.specs.Prelude.{◌^◌, length, vec_items}
use Rattle.cipher.specs.Blocks.{Make}
use Rattle.cipher.specs.declared.block.Block.{Ghosts}
use Rattle.pebbles.specs.Draws.{steps_after}
use Rattle.source.specs.declared.pebbled.Pebbled.{Pebbled}
use Rattle.source.specs.declared.table.Table.{Table}
use Rattle.source.specs.Chains.{key_from}
use Rattle.source.specs.Sizes.{few_at_most, two_at_least}
use Rattle.source.specs.Sources.{Source, kth}

-- the keys as they are stored, by no steps
abbrev pub stored : Table → Source
stored t = record {
  key = kth (vec_items t.keys);
  count = length (vec_items t.keys);
  drawn = t.given;
  due = 0;
  least = t.least;
  most = t.most;
  within = t.within;
}

-- the keys that the rule gives, over a block; the steps are those of the rule on the levels' places and targets, in room for 12 levels
abbrev pub stepped : {B : Type 0} {b : Ghosts B} → Make → Pebbled B b → Source
stepped make p = record {
  key = key_from make p.levels p.size.bits p.given;
  count = 2 ^ p.size.bits;
  drawn = p.given;
  due = steps_after p.size.bits 12 p.given;
  least = two_at_least p.size.bits p.size.least;
  most = few_at_most p.size.bits p.size.most;
  within = p.within;
}
