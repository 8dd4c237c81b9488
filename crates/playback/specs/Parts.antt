-- The node's part in a capture: the first request and the first answer granted make a receiver of it, which then gets data and keys.
use Rattle.std.specs.Prelude.{ℕ, ◌+◌, List, [], ◌∷◌, length, replicate, Some, None, Ok, Err, Option, Result}
use Rattle.refusal.specs.declared.Refusal.{Refusal}
use Rattle.cipher.specs.Blocks.{Make}
use Rattle.cipher.specs.declared.key.Key.{Key}
use Rattle.packet.specs.Kinds.{Request, Packet, a_request, an_answer, a_data, a_key}
use Rattle.packet.specs.Reading.{read_request, read_packet}
use Rattle.capture.specs.Format.{Record, time}
use Rattle.link.specs.Reception.{known}
use Rattle.link.specs.Receiver.{Receiver, Call, to_take, to_key, to_release, Answer, refused, holds, steps, none, out, world, answer, then, after}
use Rattle.link.specs.Join.{Node, finish}

pub data Part : Type 0 where
  -- no request was heard
  silent : Part
  asking : Node → Part
  receiving : Receiver → Part

abbrev pub asks : Key → ℕ → Result Request Refusal → Part
asks pair t (Ok q) = asking (record { pair = pair; nonce = q.nonce; requested = t; drift = 10000 })
asks pair t (Err refusal) = silent

abbrev pub joins : Node → Result Receiver Refusal → Part
joins node (Ok r) = receiving r
joins node (Err refusal) = asking node

-- the call that a packet means to a receiver: data are taken and keys offered
abbrev pub offers : ℕ → List ℕ → Result Packet Refusal → Option Call
offers t bytes (Ok (a_request p)) = None
offers t bytes (Ok (an_answer p)) = None
offers t bytes (Ok (a_data p)) = Some (to_take t bytes)
offers t bytes (Ok (a_key p)) = Some (to_key t bytes)
offers t bytes (Err refusal) = None

-- releases until none: one for each packet whose key is known, and the one that answers none
unfoldable pub until_none : Make → Receiver → List Call
until_none cipher r = replicate (length (known (world cipher r.clock) r.state) + 1) (to_release 64)

-- the calls behind an answer: after a granted key, releases until none
abbrev pub behind : Make → Receiver → Answer → List Call
behind cipher r (refused refusal) = []
behind cipher r (holds count) = []
behind cipher r (steps count) = until_none cipher r
behind cipher r none = []
behind cipher r (out interval number payload verdict) = []

abbrev pub with_releases : Make → Receiver → Option Call → List Call
with_releases cipher r None = []
with_releases cipher r (Some call) = call ∷ behind cipher (then cipher r call) (answer cipher r call)

-- the calls that a record leads to
unfoldable pub calls : Make → Receiver → Record → List Call
calls cipher r x = with_releases cipher r (offers (time x) x.bytes (read_packet x.bytes))

-- the node after bytes at a time: up to the join by the rules of the join, then by what a receiver makes of them
abbrev pub led : Make → Key → (Receiver → Receiver) → Part → ℕ → List ℕ → Part
led cipher pair receive silent t bytes = asks pair t (read_request bytes)
led cipher pair receive (asking node) t bytes = joins node (finish cipher node t bytes)
led cipher pair receive (receiving r) t bytes = receiving (receive r)

-- the node after a record and all releases behind it
abbrev pub next : Make → Key → Part → Record → Part
next cipher pair part x = led cipher pair (λ r. after cipher r (calls cipher r x)) part (time x) x.bytes
