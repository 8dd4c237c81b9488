-- What steps come to in bytes: what they read, and the orders that they write.
use Rattle.std.specs.Prelude.{◌≡◌, ℕ, ◌+◌, ◌≤◌, true, List, [], ◌∷◌, length}
use Rattle.std.specs.List.{flat_map, AllByRecursion}
use Rattle.packet.specs.Writing.{Puts}
use Rattle.capture.specs.declared.forms.ByteOrder.TheVariants.{Little}
use Rattle.capture.specs.Format.{Record, record_length, records_bytes, regular}
use Rattle.playback.specs.declared.counts.Counts.{Counts}
use Rattle.playback.specs.Steps.{Step, heard, let_out, order_of}

-- the bytes of the record that a step read
abbrev pub read_of : Step → ℕ
read_of (heard x hearing) = record_length x
read_of (let_out seconds micros answer) = 0

abbrev pub read_in : List Step → ℕ
read_in [] = 0
read_in (s ∷ steps) = read_of s + read_in steps

-- the bytes of the order that a step lets out, or of the orders of all steps
abbrev pub order_bytes : Step → List ℕ
order_bytes s = records_bytes Little (order_of s)

abbrev pub orders_bytes : List Step → List ℕ
orders_bytes steps = records_bytes Little (flat_map order_of steps)

-- an order that a capture may have
abbrev pub Regular : Record → Type 0
Regular r = regular 256 r ≡ true

-- there is room for what a step reads and writes
pub record StepFits (counts : Counts) (s : Step) (room : ℕ) : Type 0 where
  pub read : counts.read + read_of s ≤ 65536
  pub written : counts.written + length (order_bytes s) ≤ room
  pub order : AllByRecursion Regular (order_of s)

-- what a step does to the counts and to the buffer
pub record Counted (c : Counts) (s : Step) (r : Counts) (before after : List ℕ) : Type 0 where
  pub read : r.read ≡ c.read + read_of s
  pub written : r.written ≡ c.written + length (order_bytes s)
  pub puts : Puts c.written (order_bytes s) before after

-- there is room for what all steps read and write
pub record StepsFit (steps : List Step) (room : ℕ) : Type 0 where
  pub read : 24 + read_in steps ≤ 65536
  pub written : 24 + length (orders_bytes steps) ≤ room
  pub orders : AllByRecursion Regular (flat_map order_of steps)

-- the counts when all steps are done
abbrev pub counts_of : List Step → Counts
counts_of steps = record { written = 24 + length (orders_bytes steps); read = 24 + read_in steps }
