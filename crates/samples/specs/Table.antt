-- The sample table: known values of the definitions, one row for each.
use Rattle.std.specs.Prelude.{◌≡◌, ℕ, List, [], map, replicate, Ok}
use Rattle.std.specs.List.{range_with_len}
use Rattle.cipher.specs.declared.key.Key.{Key}
use Rattle.cipher.specs.Keys.{key_bytes}
use Rattle.cipher.specs.Makes.{rc5_make, adding_make}
use Rattle.chain.specs.Tag.{tag}
use Rattle.chain.specs.Chain.{down, interval_tag_key}
use Rattle.packet.specs.Kinds.{Data, a_data}
use Rattle.packet.specs.Layouts.{data_covered, packet_bytes}
use Rattle.packet.specs.Reading.{read_packet}
use Rattle.link.specs.Samples.{SamplesStand}
use Rattle.pebbles.specs.Draws.{steps_after}
use Rattle.samples.specs.declared.Samples.{Samples}

abbrev pub zero_key : Key
zero_key = record { high = 0; low = 0 }

-- the first packet of interval 2, with no payload
abbrev pub first_data : List ℕ → Data
first_data tag = record { interval = 2; number = 0; payload = []; tag = tag }

-- The chain of the adding block has two keys, and the last of them is zero.
pub record Table (s : Samples) : Type 0 where
  pub rc5_of_zeros : s.rc5_of_zeros ≡ rc5_make.value (key_bytes zero_key) (replicate 8 0)
  pub tag_of_nothing : s.tag_of_nothing ≡ tag adding_make zero_key []
  pub key_one : s.key_one ≡ key_bytes (down adding_make zero_key 1)
  pub key_nought : s.key_nought ≡ key_bytes (down adding_make zero_key 2)
  pub tag_of_data : s.tag_of_data ≡ tag adding_make (interval_tag_key adding_make zero_key) (data_covered (first_data []))
  -- that packet, as written bytes and as read fields
  pub data_written : s.data_packet ≡ packet_bytes (a_data (first_data s.tag_of_data))
  pub data_read : read_packet s.data_packet ≡ Ok (a_data (first_data s.tag_of_data))
  -- the receiver's clock, and the two questions that it decides, on both sides of their signs
  pub clock : SamplesStand
  -- the steps of each call of a pebbled source over eight keys
  pub pebbled_steps : s.pebbled_steps ≡ map (steps_after 3 12) (range_with_len 0 8)
