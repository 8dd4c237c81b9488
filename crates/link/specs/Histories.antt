-- The theorem: what holds of every history of a receiver that joined with a sender's answer.
use Rattle.std.specs.Prelude.{◌≡◌, ℕ, ◌+◌, ◌-◌, ◌^◌, ◌<◌, ◌≤◌, Bool, true, ◌&&◌, List, [], ◌∷◌, ◌++◌, map, pos, ◌≤ℤ◌, Ok, filter, ◌==◌}
use Rattle.std.specs.List.{ContainsAt}
use Rattle.std.specs.Str.{bytes_eq}
use Rattle.cipher.specs.Blocks.{Make}
use Rattle.cipher.specs.Keys.{key_of}
use Rattle.packet.specs.Kinds.{Data, Disclosure}
use Rattle.packet.specs.Kinds as kinds
use Rattle.packet.specs.Layouts.{answer_bytes}
use Rattle.packet.specs.Reading.{read_key}
use Rattle.link.specs.Intervals.{upto}
use Rattle.link.specs.Clock.{interval_at, sender_time}
use Rattle.link.specs.Reception.{Taking, right_now}
use Rattle.link.specs.Receiver.{Receiver, Call, to_key, to_release, Answer, steps, none, out, out_of, world, answer, after, takings, taken_packets, released}
use Rattle.link.specs.Join.{Node, finish}
use Rattle.link.specs.Sender.{Sender, Made, Answered, Undisclosed}

-- under the newest key, stepped down to the packet's interval, the packet's tag is right
abbrev pub tag_right : Make → Receiver → Data → Bool
tag_right cipher r p = right_now (world cipher r.clock) r.state p

-- a release answers true with the packet's interval, number and payload, and the packet's tag is right
pub record GoesOut (cipher : Make) (r : Receiver) (room : ℕ) (p : Data) : Type 0 where
  pub answers : answer cipher r (to_release room) ≡ out p.interval p.number p.payload true
  pub right : tag_right cipher r p ≡ true

-- the packet has this interval, number and payload, and its tag is right
abbrev pub fits : Make → Receiver → ℕ → ℕ → List ℕ → Data → Bool
fits cipher r m x payload p =
    (p.interval == m) && p.number == x && bytes_eq p.payload payload && tag_right cipher r p

-- the bytes are a key packet of interval j with the sender's key
pub record KeyPacket {cipher : Make} (x : Sender cipher) (j : ℕ) (bytes : List ℕ) : Type 0 where
  pub said : Disclosure
  pub reads : read_key bytes ≡ Ok said
  pub interval : said.interval ≡ j
  pub key : key_of said.key ≡ x.chain j
  pub from_one : 1 ≤ j
  pub to_last : j ≤ x.setup.count

module _ {cipher : Make} (x : Sender cipher) (r : Receiver) where
  -- the receiver comes from a join that was granted with an answer of the sender
  pub record Joined : Type 0 where
    pub node : Node
    pub reading : ℕ
    pub said : kinds.Answer
    pub answered : Answered x said
    pub finished : finish cipher node reading (answer_bytes said) ≡ Ok r

  -- one packet of those that calls took fits; when it was taken, the sender could not yet disclose the key of its interval
  pub record OneTaken (calls : List Call) (m number : ℕ) (payload : List ℕ) : Type 0 where
    pub taking : Taking Data
    pub only : filter (λ y. fits cipher (after cipher r calls) m number payload y.packet) (takings cipher r calls) ≡ taking ∷ []
    pub undisclosed : Undisclosed x (sender_time r.clock taking.reading) m

  -- True releases are safe.
  pub record Safe : Type 0 where
    pub one : (calls : List Call) (room m number : ℕ) (payload : List ℕ) → answer cipher (after cipher r calls) (to_release room) ≡ out m number payload true → OneTaken calls m number payload
    -- no packet goes out as true at two releases
    pub once : (before between : List Call) (room room' : ℕ) (p : Data) → GoesOut cipher (after cipher r before) room p → GoesOut cipher (after cipher r (before ++ to_release room ∷ between)) room' p → ⊥

  -- at a release among the calls, the packet went out as true
  pub record WentOut (calls : List Call) (p : Data) : Type 0 where
    pub before : List Call
    pub room : ℕ
    pub behind : List Call
    pub split : calls ≡ before ++ to_release room ∷ behind
    pub out : GoesOut cipher (after cipher r before) room p

  -- Nothing true is lost, however many keys were missed.
  pub record NothingLost : Type 0 where
    -- after a key of the sender was granted, and then a release answered none, its packets up to that interval have gone out
    pub out : (before between : List Call) (t room j count : ℕ) (bytes : List ℕ) (p : Data)
        → KeyPacket x j bytes
        → answer cipher (after cipher r before) (to_key t bytes) ≡ steps count
        → answer cipher (after cipher r (before ++ to_key t bytes ∷ between)) (to_release room) ≡ none
        → ContainsAt (taken_packets cipher r (before ++ to_key t bytes ∷ between)) p
        → Made x p
        → p.interval ≤ j
        → WentOut (before ++ to_key t bytes ∷ between) p
    -- a due key of the sender is granted
    pub granted : (calls : List Call) (t j : ℕ) (bytes : List ℕ)
        → KeyPacket x j bytes
        → (after cipher r calls).state.newest ≡ x.chain (after cipher r calls).state.reached
        → (after cipher r calls).state.reached < j
        → (after cipher r calls).state.latest ≤ t
        → t < 2 ^ 52
        → pos (j + x.setup.delay) ≤ℤ interval_at r.clock.schedule (sender_time r.clock t)
        → answer cipher (after cipher r calls) (to_key t bytes) ≡ steps (j - (after cipher r calls).state.reached)

-- among the calls, a release answered none when the newest key had the interval that it has at their end; a newer key has a later one
pub record Settled (cipher : Make) (r : Receiver) (calls : List Call) : Type 0 where
  pub before : List Call
  pub room : ℕ
  pub behind : List Call
  pub split : calls ≡ before ++ to_release room ∷ behind
  pub none_left : answer cipher (after cipher r before) (to_release room) ≡ none
  pub same_interval : (after cipher r before).state.reached ≡ (after cipher r calls).state.reached

-- for each interval up to the newest key's, the packets in order, each with true and its payload if its tag is right, else with false and none
abbrev pub judged : Make → Receiver → List Data → List Answer
judged cipher r packets = map (λ p. out_of p (tag_right cipher r p)) (upto (λ p. p.interval) r.state.reached packets)

-- Equal receivers agree.
pub record Agreeing {cipher : Make} (x : Sender cipher) (r : Receiver) : Type 0 where
  pub listed : (calls : List Call) → Settled cipher r calls → released cipher r calls ≡ judged cipher (after cipher r calls) (taken_packets cipher r calls)
  pub agreed : (r' : Receiver) → Joined x r' → (calls calls' : List Call)
      → Settled cipher r calls → Settled cipher r' calls'
      → taken_packets cipher r calls ≡ taken_packets cipher r' calls'
      → (after cipher r calls).state.newest ≡ (after cipher r' calls').state.newest
      → (after cipher r calls).state.reached ≡ (after cipher r' calls').state.reached
      → released cipher r calls ≡ released cipher r' calls'

pub record EveryHistory {cipher : Make} (x : Sender cipher) (r : Receiver) : Type 0 where
  pub safe : Safe x r
  pub nothing_lost : NothingLost x r
  pub agreeing : Agreeing x r

-- for every block, every sender, every run of it, and every history
abbrev pub LinkStands : Type 0
LinkStands = (cipher : Make) (x : Sender cipher) (r : Receiver) → Joined x r → EveryHistory x r
