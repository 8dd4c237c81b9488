-- The receiver: its calls, what it answers to each, and the state after it.
use Rattle.std.specs.Prelude.{ℕ, ◌+◌, ◌-◌, Bool, false, cond, ◌&&◌, List, [], ◌∷◌, ◌++◌, map, length, Ok, Err, Result, ◌==◌, nat_le}
use Rattle.std.specs.List.{flat_map}
use Rattle.std.specs.Str.{bytes_eq}
use Rattle.refusal.specs.declared.Refusal.{Refusal}
use Rattle.refusal.specs.declared.Refusal.TheVariants.{BufferTooShort}
use Rattle.cipher.specs.Blocks.{Make}
use Rattle.cipher.specs.Keys.{key_of}
use Rattle.cipher.specs.declared.key.Key.{Key}
use Rattle.chain.specs.Tag.{tag}
use Rattle.chain.specs.Chain.{down, interval_tag_key}
use Rattle.packet.specs.Kinds.{Data}
use Rattle.packet.specs.Layouts.{data_covered}
use Rattle.packet.specs.Reading.{read_data, read_key, data_of, disclosure_of}
use Rattle.link.specs.Questions.{Question, first_no, unless}
use Rattle.link.specs.Clock.{Clock, early_at}
use Rattle.link.specs.Reception.{World, State, Deed, refuses, takes, adopts, releases, rests, Taking, take_questions, key_questions, first_out, known, next, taken}

abbrev pub same_key : Key → Key → Bool
same_key k l = k.high == l.high && k.low == l.low

abbrev pub same_packet : Data → Data → Bool
same_packet p q =
    (p.interval == q.interval) && p.number == q.number && bytes_eq p.payload q.payload && bytes_eq p.tag q.tag

-- the tag that is right for a packet, from the chain's key of its interval
abbrev pub data_tag : Make → Key → Data → List ℕ
data_tag cipher key p = tag cipher (interval_tag_key cipher key) (data_covered p)

abbrev pub world : Make → Clock → World Data Key
world cipher clock = record {
  interval = λ p. p.interval;
  same = same_packet;
  same_key = same_key;
  down = down cipher;
  right = λ key p. bytes_eq p.tag (data_tag cipher key p);
  early = early_at clock;
}

pub record Receiver : Type 0 where
  -- never changes
  pub clock : Clock
  pub state : State Data Key

pub data Call : Type 0 where
  -- at a reading, the bytes received
  to_take : ℕ → List ℕ → Call
  to_key : ℕ → List ℕ → Call
  -- the length of the buffer lent
  to_release : ℕ → Call

pub data Answer : Type 0 where
  refused : Refusal → Answer
  -- how many packets are then held
  holds : ℕ → Answer
  -- the steps from the new key to the old
  steps : ℕ → Answer
  none : Answer
  -- interval, running number, what is written, and whether the tag is right
  out : ℕ → ℕ → List ℕ → Bool → Answer

-- reading a packet asks the first questions of a call: a packet that cannot be read is refused as reading refuses it
abbrev pub reading : {P : Type 0} → Result P Refusal → List Question
reading (Ok p) = []
reading (Err refusal) = (refusal, false) ∷ []

-- the questions of each call, in their order
abbrev pub questions : Make → Receiver → Call → List Question
questions cipher r (to_take t bytes) = reading (read_data bytes) ++ take_questions (world cipher r.clock) r.state t (data_of bytes)
questions cipher r (to_key t bytes) =
    reading (read_key bytes) ++ key_questions (world cipher r.clock) r.state t (key_of (disclosure_of bytes).key) (disclosure_of bytes).interval
questions cipher r (to_release room) = (BufferTooShort, nat_le 64 room) ∷ []

-- what each call does when it is granted
abbrev pub granted : Make → Receiver → Call → Deed Data Key
granted cipher r (to_take t bytes) = takes t (data_of bytes)
granted cipher r (to_key t bytes) = adopts t (key_of (disclosure_of bytes).key) (disclosure_of bytes).interval
granted cipher r (to_release room) = first_out (world cipher r.clock) r.state (known (world cipher r.clock) r.state)

unfoldable pub deed : Make → Receiver → Call → Deed Data Key
deed cipher r call = unless (first_no (questions cipher r call)) refuses (granted cipher r call)

-- a packet whose tag is wrong goes out without its payload
abbrev pub out_of : Data → Bool → Answer
out_of p verdict = out p.interval p.number (cond verdict p.payload []) verdict

abbrev pub told : State Data Key → Deed Data Key → Answer
told s (refuses refusal) = refused refusal
told s (takes t p) = holds (length s.held + 1)
told s (adopts t k j) = steps (j - s.reached)
told s (releases p verdict) = out_of p verdict
told s rests = none

-- what a call answers, and the receiver after it
unfoldable pub answer : Make → Receiver → Call → Answer
answer cipher r call = told r.state (deed cipher r call)

unfoldable pub then : Make → Receiver → Call → Receiver
then cipher r call = record { clock = r.clock; state = next (world cipher r.clock) r.state (deed cipher r call) }

-- the receiver after a list of calls
unfoldable pub after : Make → Receiver → List Call → Receiver
after cipher r [] = r
after cipher r (call ∷ calls) = after cipher (then cipher r call) calls

unfoldable pub deeds : Make → Receiver → List Call → List (Deed Data Key)
deeds cipher r [] = []
deeds cipher r (call ∷ calls) = deed cipher r call ∷ deeds cipher (then cipher r call) calls

unfoldable pub answers : Make → Receiver → List Call → List Answer
answers cipher r [] = []
answers cipher r (call ∷ calls) = answer cipher r call ∷ answers cipher (then cipher r call) calls

-- the packets that calls took, in order, each with its reading
abbrev pub takings : Make → Receiver → List Call → List (Taking Data)
takings cipher r calls = taken (deeds cipher r calls)

abbrev pub taken_packets : Make → Receiver → List Call → List Data
taken_packets cipher r calls = map (λ x. x.packet) (takings cipher r calls)

abbrev pub outs : Answer → List Answer
outs (refused refusal) = []
outs (holds count) = []
outs (steps count) = []
outs none = []
outs (out interval number payload verdict) = out interval number payload verdict ∷ []

-- what releases answered and wrote, in order, without none and refusals
unfoldable pub released : Make → Receiver → List Call → List Answer
released cipher r calls = flat_map outs (answers cipher r calls)
