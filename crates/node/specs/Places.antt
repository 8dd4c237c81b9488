-- What a place in the table and the table itself mean.
use Rattle.std.specs.Prelude.{◌≡◌, ℕ, ◌<◌, List, [], ◌∷◌, map, length, take, replicate, Some, None, Option, slice_index_or}
use Rattle.packet.specs.Kinds.{Data}
use Rattle.link.specs.Intervals.{upto}
use Rattle.node.specs.declared.slot.Slot.{Slot}
use Rattle.node.specs.declared.table.Table.{Table}

abbrev pub slot_said : Slot → Data
slot_said s = record { interval = s.interval; number = s.number; payload = take s.length s.payload; tag = s.tag }

-- what a free place says
abbrev pub nothing : Data
nothing = record { interval = 0; number = 0; payload = []; tag = replicate 8 0 }

-- the packets held, in the order of taking
abbrev pub held : Table → List Data
held t = map slot_said (take t.count t.slots)

-- at this place, the packet stands first among those up to interval a, in the order in which they are to go out
pub record FirstAt (a : ℕ) (packets : List Data) (place : ℕ) : Type 0 where
  pub within : place < length packets
  pub rest : List Data
  pub first : (d : Data) → upto (λ p. p.interval) a packets ≡ slice_index_or packets place d ∷ rest

abbrev pub KnownFirst : ℕ → List Data → Option ℕ → Type 0
KnownFirst a packets None = upto (λ p. p.interval) a packets ≡ []
KnownFirst a packets (Some place) = FirstAt a packets place
