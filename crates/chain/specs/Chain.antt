-- Keys derived from keys, and the one-way chain of them, over any block cipher.
use Rattle.std.specs.Prelude.{ℕ, zero, suc, [], ◌∷◌, ◌++◌}
use Rattle.cipher.specs.Blocks.{Make}
use Rattle.cipher.specs.Keys.{key_of}
use Rattle.cipher.specs.declared.key.Key.{Key}
use Rattle.chain.specs.Tag.{tag}

-- the key for a purpose: two tags, one after the other
unfoldable pub derive : Make → Key → ℕ → Key
derive make key purpose = key_of (tag make key (purpose ∷ 0 ∷ []) ++ tag make key (purpose ∷ 1 ∷ []))

-- one step down the chain
abbrev pub step : Make → Key → Key
step make key = derive make key 1

-- s steps down the chain
unfoldable pub down : Make → Key → ℕ → Key
down make key zero = key
down make key (suc s) = step make (down make key s)

-- the key under which the packets of an interval are tagged, from the chain's key of that interval
abbrev pub interval_tag_key : Make → Key → Key
interval_tag_key make key = derive make key 2

-- the key under which a base and a node tag what they say to each other, from the key of the pair
abbrev pub pair_tag_key : Make → Key → Key
pair_tag_key make key = derive make key 3
