-- What a node that asks to join means, and what its calls say.
use Rattle.std.specs.Prelude.{◌≡◌, ℕ, Bool, ◌&&◌, List, Ok, Err, Result, nat_le}
use Rattle.refusal.specs.declared.Refusal.{Refusal}
use Rattle.cipher.specs.Blocks.{Make}
use Rattle.cipher.specs.declared.key.Key.{Key}
use Rattle.packet.specs.Kinds.{Answer, Packet}
use Rattle.packet.specs.Layouts.{answer_bytes, packet_bytes, packet_length}
use Rattle.packet.specs.Writing.{filled}
use Rattle.link.specs.Receiver.{Receiver}
use Rattle.link.specs.Join.{Node}
use Rattle.link.specs.Sender.{Sender, Answered}
use Rattle.link.specs.Histories.{EveryHistory}
use Rattle.node.specs.declared.requesting as requesting
use Rattle.node.specs.declared.time as time

abbrev pub asking : Key → List ℕ → time.Reading.Reading → ℕ → Node
asking pair nonce at drift = record { pair = pair; nonce = nonce; requested = at.0; drift = drift }

abbrev pub node_of : requesting.Requesting.Requesting → Node
node_of q = asking q.pair q.nonce q.requested q.drift

-- a node with the length of its request, as the code has them and as they are to be
abbrev pub sent : requesting.Requesting.Requesting × ℕ → Node × ℕ
sent x = (node_of x.0, x.1)

abbrev pub to_send : Node → Packet → Node × ℕ
to_send node p = (node, packet_length p)

-- the buffer after a call that may write a packet
abbrev pub leaves : Result Packet Refusal → List ℕ → List ℕ
leaves (Ok p) buffer = filled (packet_bytes p) buffer
leaves (Err refusal) buffer = buffer

-- the first part of what an answer's schedule has to fit
abbrev pub rhythm_fits : Answer → Bool
rhythm_fits a = nat_le 1 a.delay && nat_le a.delay 16 && nat_le 1 a.duration

-- where some run of some sender wrote these bytes as an answer, every history from the receiver ends well
abbrev pub EndsWell : Make → List ℕ → Receiver → Type 0
EndsWell cipher bytes r = (x : Sender cipher) (said : Answer) → Answered x said → bytes ≡ answer_bytes said → EveryHistory x r
