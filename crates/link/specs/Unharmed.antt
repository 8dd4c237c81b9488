-- What reaches a receiver unharmed: the bytes that a sender wrote read as what it wrote.
use Rattle.std.specs.Prelude.{◌≡◌, ℕ, ◌^◌, ◌<◌, ◌≤◌, List, Ok}
use Rattle.std.specs.List.{AllByRecursion}
use Rattle.cipher.specs.Blocks.{Make, Bytes}
use Rattle.packet.specs.Kinds.{Answer, Data, Disclosure, an_answer, a_key}
use Rattle.packet.specs.Layouts.{request_bytes, answer_bytes, data_bytes, disclosure_bytes}
use Rattle.packet.specs.Reading.{read_data}
use Rattle.link.specs.Join.{Node, joined, finish}
use Rattle.link.specs.Base.{Errand, to_answer, reply}
use Rattle.link.specs.Sender.{Sender, ran, Made}
use Rattle.link.specs.Histories.{KeyPacket}

pub record ReadsBack {cipher : Make} (x : Sender cipher) : Type 0 where
  -- a packet made of a payload of bytes
  pub order : (p : Data) → Made x p → AllByRecursion (λ b. b < 256) p.payload → read_data (data_bytes p) ≡ Ok p
  -- a key disclosed, of two halves of 64 bits
  pub key : (run : List Errand) (errand : Errand) (d : Disclosure)
      → reply cipher (ran x run) errand ≡ Ok (a_key d)
      → (x.chain d.interval).high < 2 ^ 64
      → (x.chain d.interval).low < 2 ^ 64
      → KeyPacket x d.interval (disclosure_bytes d)

-- an answer to a node's own request, of a nonce of 8 bytes, finishes the join
abbrev pub AnswersFinish : Type 0
AnswersFinish = (cipher : Make) (x : Sender cipher) (run : List Errand) (node : Node) (s t room : ℕ) (a : Answer)
    → reply cipher (ran x run) (to_answer s node.pair (request_bytes (record { nonce = node.nonce })) room) ≡ Ok (an_answer a)
    → Bytes 8 node.nonce
    → node.requested ≤ t
    → t < 2 ^ 52
    → finish cipher node t (answer_bytes a) ≡ Ok (joined node t a)

abbrev pub UnharmedReads : Type 0
UnharmedReads = (cipher : Make) (x : Sender cipher) → ReadsBack x
