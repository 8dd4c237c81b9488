-- The history that a replay ran: the calls that the joined receiver got, and what holds of them.
use Rattle.std.specs.Prelude.{◌≡◌, ℕ, List, [], ◌∷◌, ◌++◌, map, drop, Ok}
use Rattle.std.specs.List.{flat_map}
use Rattle.cipher.specs.Blocks.{Make}
use Rattle.cipher.specs.declared.key.Key.{Key}
use Rattle.packet.specs.Kinds as kinds
use Rattle.packet.specs.Layouts.{answer_bytes}
use Rattle.capture.specs.declared.forms.Header.{Header}
use Rattle.capture.specs.Format.{Record, capture_bytes, time}
use Rattle.capture.specs.Reading.{read_header, records}
use Rattle.link.specs.Receiver.{Receiver, Call, after, taken_packets, released}
use Rattle.link.specs.Join.{Node, finish}
use Rattle.link.specs.Sender.{Sender, Answered}
use Rattle.link.specs.Histories.{judged, EveryHistory}
use Rattle.playback.specs.Parts.{Part, silent, asking, calls, next}
use Rattle.playback.specs.Playing.{header_out, Playable, playable}
use Rattle.playback.specs.Steps.{orders, payload_out}

-- the node after records
unfoldable pub part_after : Make → Key → Part → List Record → Part
part_after cipher pair part [] = part
part_after cipher pair part (x ∷ xs) = part_after cipher pair (next cipher pair part x) xs

-- the calls that records lead to at a receiver
unfoldable pub history : Make → Receiver → List Record → List Call
history cipher r [] = []
history cipher r (x ∷ xs) = calls cipher r x ++ history cipher (after cipher r (calls cipher r x)) xs

-- a join among records: the node that asked, the answer that was granted, and the receiver that it made
pub record JoinIn (cipher : Make) (pair : Key) (start : Part) (xs : List Record) : Type 0 where
  pub before : List Record
  pub answer : Record
  pub behind : List Record
  pub split : xs ≡ before ++ answer ∷ behind
  pub node : Node
  pub asks : part_after cipher pair start before ≡ asking node
  pub receiver : Receiver
  pub finished : finish cipher node (time answer) answer.bytes ≡ Ok receiver

-- where there was a join, the orders are the true releases of the calls behind it, and the theorem of the link holds of every history of that receiver
pub record Ran (cipher : Make) (pair : Key) (start : Part) (xs : List Record) (out : List Record) (j : JoinIn cipher pair start xs) : Type 0 where
  pub releases : map (λ x. x.bytes) out ≡ flat_map payload_out (released cipher j.receiver (history cipher j.receiver j.behind))
  -- nothing true is lost: they are all taken packets up to the newest key's interval whose tag is right, interval by interval, in the order of taking
  pub complete : map (λ x. x.bytes) out ≡ flat_map payload_out (judged cipher (after cipher j.receiver (history cipher j.receiver j.behind)) (taken_packets cipher j.receiver (history cipher j.receiver j.behind)))
  pub theorem : (x : Sender cipher) (said : kinds.Answer) → Answered x said → j.answer.bytes ≡ answer_bytes said → EveryHistory x j.receiver

-- without a join no order comes out
pub record ReplayStands (cipher : Make) (pair : Key) (xs : List Record) : Type 0 where
  pub joined : (j : JoinIn cipher pair silent xs) → Ran cipher pair silent xs (orders cipher pair xs) j
  pub alone : (JoinIn cipher pair silent xs → ⊥) → orders cipher pair xs ≡ []

-- bytes are a capture with this header and just these records
pub record ReadsAs (h : Header) (xs : List Record) (bytes : List ℕ) : Type 0 where
  pub header : read_header bytes ≡ Ok h
  pub records : records h.order 256 (drop 24 bytes) ≡ xs
  pub whole : bytes ≡ capture_bytes h xs

-- the capture that comes out reads back to the orders, and to nothing else
abbrev pub GivesBack : Key → List ℕ → List ℕ → Type 0
GivesBack pair capture bytes = (p : Playable) → playable capture ≡ Ok p → ReadsAs (header_out p.link) (orders p.cipher pair p.records) bytes

abbrev pub ReplaysStand : Key → List ℕ → Type 0
ReplaysStand pair capture = (p : Playable) → playable capture ≡ Ok p → ReplayStands p.cipher pair p.records
