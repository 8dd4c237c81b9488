use Rattle.std.proofs.Common.{refl}
use lib.Count.{count_trailing_zeros}
use Rattle.cipher.specs.Bytes.{from_le, to_le, from_be, to_be}
use Rattle.cipher.specs.Keys.{key_bytes, key_of}
use Rattle.cipher.specs.Rc5.{key_words, progression, mixed, unmixed, key_table, rounds, halves_of, halves_bytes, encrypted, rc5}
use Rattle.cipher.specs.Adding.{adding}
use Rattle.chain.specs.Tag.{◌⊕◌, filled, blocks_by, blocks, chained, mac, tag}
use Rattle.chain.specs.Chain.{derive, down}
use Rattle.packet.specs.Layouts.{data_covered, data_bytes}
use Rattle.link.proofs.Sampled.{clock_sampled}
use Rattle.pebbles.specs.Levels.{call, levels_after, unused}
use Rattle.samples.proofs.known_values.Goals as goal

pub returns : goal.returns
unfolding from_le to_le from_be to_be key_bytes key_of key_words progression mixed unmixed key_table rounds halves_of halves_bytes encrypted rc5 adding ◌⊕◌ filled blocks_by blocks chained mac tag derive down data_covered data_bytes call levels_after unused count_trailing_zeros
returns c = record { rc5_of_zeros = refl; tag_of_nothing = refl; key_one = refl; key_nought = refl; tag_of_data = refl; data_written = refl; data_read = refl; clock = clock_sampled; pebbled_steps = refl }
