-- One step of a walk: a record is heard, and what a granted key lets out comes before the next record.
use Rattle.std.proofs.Common.{◌≡◌, ℕ, suc, List, [], ◌∷◌, ◌++◌, map, length, Some, None, Ok, Err, Option, Result, sym, refl, ap, ◌∙◌, arith}
use Rattle.refusal.specs.declared.Refusal.{Refusal}
use Rattle.cipher.specs.Blocks.{Make}
use Rattle.cipher.specs.declared.key.Key.{Key}
use Rattle.packet.specs.Kinds.{Packet, a_request, an_answer, a_data, a_key}
use Rattle.packet.specs.Reading.{read_packet}
use Rattle.capture.specs.Format.{Record, time}
use Rattle.link.specs.Questions.{first_no, unless}
use Rattle.link.specs.Reception.{refuses}
use Rattle.link.specs.Receiver.{Receiver, Call, to_take, to_key, Answer, refused, holds, steps, none, out, outs, questions, granted, told, deed, answer, then, after, answers, released}
use Rattle.link.specs.Join.{Node, finish}
use Rattle.capture.specs.declared.forms.Time.{Time}
use Rattle.playback.specs.Parts.{Part, silent, asking, receiving, behind, calls, offers, with_releases}
use Rattle.playback.specs.Steps.{Hearing, answered, heard, hearing, join_hearing, let_out, let_outs, read_hearing, walked}
use Rattle.playback.specs.Stages.{called, Heard, heard_part}
use Rattle.playback.specs.Walks.{goes_out, onwards}

-- neither a take nor a key lets a packet out
take_quiet : (cipher : Make) (r : Receiver) (t : ℕ) (bytes : List ℕ) → outs (answer cipher r (to_take t bytes)) ≡ []
unfolding answer deed
take_quiet cipher r t bytes = go (first_no (questions cipher r (to_take t bytes)))
  where
    go : (o : Option Refusal) → outs (told r.state (unless o refuses (granted cipher r (to_take t bytes)))) ≡ []
    go None = refl
    go (Some refusal) = refl

key_quiet : (cipher : Make) (r : Receiver) (t : ℕ) (bytes : List ℕ) → outs (answer cipher r (to_key t bytes)) ≡ []
unfolding answer deed
key_quiet cipher r t bytes = go (first_no (questions cipher r (to_key t bytes)))
  where
    go : (o : Option Refusal) → outs (told r.state (unless o refuses (granted cipher r (to_key t bytes)))) ≡ []
    go None = refl
    go (Some refusal) = refl

module _ (cipher : Make) (pair : Key) (m : Time) (xs : List Record) where
  -- a call and the releases behind it: the same steps as the releases that a granted key is left with
  call_onwards : (r : Receiver) (call : Call) → outs (answer cipher r call) ≡ [] →
      map (let_out m.seconds m.micros) (released cipher r (with_releases cipher r (Some call))) ++ walked cipher pair (receiving (after cipher r (with_releases cipher r (Some call)))) xs
      ≡ onwards cipher pair (receiving (then cipher r call)) (goes_out m (answered (answer cipher r call))) xs
  unfolding released answers after
  call_onwards r call quiet = go (answer cipher r call) quiet
    where
      go : (a : Answer) → outs a ≡ [] →
          map (let_out m.seconds m.micros) (outs a ++ released cipher (then cipher r call) (behind cipher (then cipher r call) a)) ++ walked cipher pair (receiving (after cipher (then cipher r call) (behind cipher (then cipher r call) a))) xs
          ≡ onwards cipher pair (receiving (then cipher r call)) (goes_out m (answered a)) xs
      go (refused refusal) e = refl
      go (holds count) e = refl
      go (steps count) e = refl
      go none e = refl
      go (out i n payload verdict) e = absurd (let long : suc 0 ≡ 0 = ap length e in omega arith)

  nothing_on : (r : Receiver) → map (let_out m.seconds m.micros) (released cipher r []) ++ walked cipher pair (receiving (after cipher r [])) xs ≡ walked cipher pair (receiving r) xs
  unfolding released answers after
  nothing_on r = refl

  -- the same at a receiver for any packet, or none
  receiver_onwards : (r : Receiver) (t : ℕ) (bytes : List ℕ) (p : Result Packet Refusal) →
      map (let_out m.seconds m.micros) (released cipher r (with_releases cipher r (offers t bytes p))) ++ walked cipher pair (receiving (after cipher r (with_releases cipher r (offers t bytes p)))) xs
      ≡ onwards cipher pair (receiving (called cipher r (offers t bytes p))) (goes_out m (read_hearing cipher (receiving r) t bytes p)) xs
  receiver_onwards r t bytes (Ok (a_data p)) = call_onwards r (to_take t bytes) (take_quiet cipher r t bytes)
  receiver_onwards r t bytes (Ok (a_key p)) = call_onwards r (to_key t bytes) (key_quiet cipher r t bytes)
  receiver_onwards r t bytes (Ok (a_request p)) = nothing_on r
  receiver_onwards r t bytes (Ok (an_answer p)) = nothing_on r
  receiver_onwards r t bytes (Err refusal) = nothing_on r

-- only a granted key has packets go out
silent_quiet : (cipher : Make) (m : Time) (t : ℕ) (bytes : List ℕ) (p : Result Packet Refusal) → goes_out m (read_hearing cipher silent t bytes p) ≡ None
silent_quiet cipher m t bytes (Ok (a_request p)) = refl
silent_quiet cipher m t bytes (Ok (an_answer p)) = refl
silent_quiet cipher m t bytes (Ok (a_data p)) = refl
silent_quiet cipher m t bytes (Ok (a_key p)) = refl
silent_quiet cipher m t bytes (Err refusal) = refl

asking_quiet : (cipher : Make) (node : Node) (m : Time) (t : ℕ) (bytes : List ℕ) (p : Result Packet Refusal) → goes_out m (read_hearing cipher (asking node) t bytes p) ≡ None
asking_quiet cipher node m t bytes (Ok (a_request p)) = refl
asking_quiet cipher node m t bytes (Ok (an_answer p)) = go (finish cipher node t bytes)
  where
    go : (r : Result Receiver Refusal) → goes_out m (join_hearing r) ≡ None
    go (Ok r) = refl
    go (Err refusal) = refl
asking_quiet cipher node m t bytes (Ok (a_data p)) = refl
asking_quiet cipher node m t bytes (Ok (a_key p)) = refl
asking_quiet cipher node m t bytes (Err refusal) = refl

-- the steps from a record on
pub walked_one : (cipher : Make) (pair : Key) (part : Part) (x : Record) (xs : List Record) (m : Time) → m.seconds ≡ x.seconds → m.micros ≡ x.micros →
    walked cipher pair part (x ∷ xs) ≡ heard x (hearing cipher part x) ∷ onwards cipher pair (heard_part cipher pair part (time x) x.bytes) (goes_out m (hearing cipher part x)) xs
unfolding walked let_outs calls hearing
walked_one cipher pair silent x xs m e f = ap (λ o. heard x (hearing cipher silent x) ∷ onwards cipher pair (heard_part cipher pair silent (time x) x.bytes) o xs) (sym (silent_quiet cipher m (time x) x.bytes (read_packet x.bytes)))
walked_one cipher pair (asking node) x xs m e f = ap (λ o. heard x (hearing cipher (asking node) x) ∷ onwards cipher pair (heard_part cipher pair (asking node) (time x) x.bytes) o xs) (sym (asking_quiet cipher node m (time x) x.bytes (read_packet x.bytes)))
walked_one cipher pair (receiving r) x xs m e f =
    (λ i. heard x (hearing cipher (receiving r) x) ∷ map (let_out (sym e i) (sym f i)) (released cipher r (calls cipher r x)) ++ walked cipher pair (receiving (after cipher r (calls cipher r x))) xs)
    ∙ ap (λ l. heard x (hearing cipher (receiving r) x) ∷ l) (receiver_onwards cipher pair m xs r (time x) x.bytes (read_packet x.bytes))

-- a record that was heard, with what the node made of it, comes off what is to come
module _ (cipher : Make) (pair : Key) (part : Part) (o : Option Time) (xs ys : List Record) (quiet : o ≡ None) where
  pub ends_there : xs ≡ [] → ys ≡ [] → (onwards cipher pair part o xs ≡ []) × (onwards cipher pair part o ys ≡ [])
  unfolding walked
  ends_there e f = ((λ i. onwards cipher pair part (quiet i) (e i)), (λ i. onwards cipher pair part (quiet i) (f i)))

  pub hears_one : (part' : Part) (o' : Option Time) (x : Record) (t : ℕ) (h : Hearing) (m : Time) → xs ≡ x ∷ ys → t ≡ time x → Heard cipher pair part t x.bytes part' h → o' ≡ goes_out m h → m.seconds ≡ x.seconds → m.micros ≡ x.micros →
      onwards cipher pair part o xs ≡ heard x h ∷ onwards cipher pair part' o' ys
  unfolding hearing
  hears_one part' o' x t h m first at there goes e f =
      let here : h ≡ hearing cipher part x = there.outcome ∙ ap (λ u. read_hearing cipher part u x.bytes (read_packet x.bytes)) at in
      let then_part : part' ≡ heard_part cipher pair part (time x) x.bytes = there.part ∙ ap (λ u. heard_part cipher pair part u x.bytes) at in
      (λ i. onwards cipher pair part (quiet i) (first i)) ∙ walked_one cipher pair part x ys m e f
      ∙ sym (λ i. heard x (here i) ∷ onwards cipher pair (then_part i) ((goes ∙ ap (goes_out m) here) i) ys)
