-- The keys that the levels of a pebbled source lead to, over any block.
use Rattle.std.specs.Prelude.{ℕ, ◌+◌, ◌-◌, ◌^◌, false, slice_index_or}
use Rattle.cipher.specs.Blocks.{Make}
use Rattle.cipher.specs.declared.key.Key.{Key}
use Rattle.chain.specs.Chain.{step}
use Rattle.pebbles.specs.declared.level.Level.{Level}
use Rattle.pebbles.specs.Draws.{draws}
use Rattle.pebbles.specs.Levels.{Levels}
use Rattle.source.specs.Sources.{no_key}

-- what levels are read with beyond their end
abbrev pub no_level : Level Key
no_level = record { key = no_key; place = 0; target = 0; away = false }

-- K_m of the 2 ^ k keys that the rule gives from these levels on, after g calls
unfoldable pub key_from : Make → Levels Key → ℕ → ℕ → ℕ → Key
key_from make ls k g m = slice_index_or (draws (step make) no_key (2 ^ k) (2 ^ k - g) g ls) (m - (g + 1)) no_key
