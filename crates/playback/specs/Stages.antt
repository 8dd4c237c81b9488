-- What the code's stage and outcome mean, and the part of the node before releases.
use Rattle.std.specs.Prelude.{◌≡◌, ℕ, List, Some, None, Ok, Err, Option, Result}
use Rattle.refusal.specs.declared.Refusal.{Refusal}
use Rattle.cipher.specs.Blocks.{Make}
use Rattle.cipher.specs.declared.key.Key.{Key}
use Rattle.packet.specs.Kinds.{Packet, a_request, an_answer, a_data, a_key}
use Rattle.packet.specs.Reading.{read_packet}
use Rattle.link.specs.Receiver.{Receiver, Call, refused, holds, steps, then}
use Rattle.link.specs.Join.{Node, finish}
use Rattle.node.specs.Nodes.{node_of}
use Rattle.node.specs.Receivers.{meaning}
use Rattle.playback.specs.declared.stage as stage
use Rattle.playback.specs.declared.outcome as outcome
use Rattle.playback.specs.Parts.{Part, silent, asking, receiving, asks, joins, led, offers}
use Rattle.playback.specs.Steps.{Hearing, read_hearing, too_soon, repeated, asked, has_joined, answered}

abbrev pub part_of : {B : Type 0} → stage.Stage.Stage B → Part
part_of stage.Stage.TheVariants.Silent = silent
part_of (stage.Stage.TheVariants.Asking node) = asking (node_of node)
part_of (stage.Stage.TheVariants.Receiving receiver) = receiving (meaning receiver)

abbrev pub outcome_said : Result outcome.Outcome.Outcome Refusal → Hearing
outcome_said (Err refusal) = answered (refused refusal)
outcome_said (Ok outcome.Outcome.TheVariants.TooSoon) = too_soon
outcome_said (Ok outcome.Outcome.TheVariants.Repeated) = repeated
outcome_said (Ok outcome.Outcome.TheVariants.Asked) = asked
outcome_said (Ok outcome.Outcome.TheVariants.Joined) = has_joined
outcome_said (Ok (outcome.Outcome.TheVariants.Held count)) = answered (holds count)
outcome_said (Ok (outcome.Outcome.TheVariants.Adopted count)) = answered (steps count)

-- a receiver after a call, if there is one
abbrev pub called : Make → Receiver → Option Call → Receiver
called cipher r None = r
called cipher r (Some call) = then cipher r call

-- the node after bytes at a time, before any release
abbrev pub heard_part : Make → Key → Part → ℕ → List ℕ → Part
heard_part cipher pair part t bytes = led cipher pair (λ r. called cipher r (offers t bytes (read_packet bytes))) part t bytes

-- the same by what the bytes read as: only a request makes the node ask, only an answer makes it a receiver
abbrev pub asked_by : Key → ℕ → Result Packet Refusal → Part
asked_by pair t (Ok (a_request p)) = asks pair t (Ok p)
asked_by pair t (Ok (an_answer p)) = silent
asked_by pair t (Ok (a_data p)) = silent
asked_by pair t (Ok (a_key p)) = silent
asked_by pair t (Err refusal) = silent

abbrev pub joined_by : Make → Node → ℕ → List ℕ → Result Packet Refusal → Part
joined_by cipher node t bytes (Ok (a_request p)) = asking node
joined_by cipher node t bytes (Ok (an_answer p)) = joins node (finish cipher node t bytes)
joined_by cipher node t bytes (Ok (a_data p)) = asking node
joined_by cipher node t bytes (Ok (a_key p)) = asking node
joined_by cipher node t bytes (Err refusal) = asking node

-- what hearing bytes at a time comes to: the node then, and what it made of them
pub record Heard (cipher : Make) (pair : Key) (before : Part) (t : ℕ) (bytes : List ℕ) (after : Part) (made : Hearing) : Type 0 where
  pub part : after ≡ heard_part cipher pair before t bytes
  pub outcome : made ≡ read_hearing cipher before t bytes (read_packet bytes)
