-- The orders of a replay are the true releases of the history that it ran, and none is lost.
use Rattle.std.proofs.Common.{◌≡◌, ℕ, true, false, List, [], ◌∷◌, ◌++◌, map, Ok, Err, Result, sym, refl, ap, ◌∙◌, subst, append_assoc}
use Rattle.std.proofs.lemmas.List.Concat.{flat_map-append}
use Rattle.std.specs.List.{flat_map}
use Rattle.std.proofs.lemmas.List.{map-append}
use Rattle.refusal.specs.declared.Refusal.{Refusal}
use Rattle.cipher.specs.Blocks.{Make}
use Rattle.cipher.specs.declared.key.Key.{Key}
use Rattle.packet.specs.Kinds as kinds
use Rattle.packet.specs.Reading.{read_request}
use Rattle.capture.specs.Format.{Record, time}
use Rattle.link.specs.Receiver.{Receiver, Call, Answer, refused, holds, steps, none, out, outs, answer, answers, then, after, taken_packets, released}
use Rattle.link.specs.Join.{Node, finish}
use Rattle.link.specs.Histories.{judged}
use Rattle.link.proofs.Joins.{finish_sound}
use Rattle.link.proofs.Theorem.{link_stands}
use Rattle.playback.specs.Parts.{Part, silent, asking, receiving, asks, calls, joins, next}
use Rattle.playback.specs.Steps.{let_out, let_outs, order_of, payload_out, walked}
use Rattle.playback.specs.Replays.{history, JoinIn, part_after, ReplayStands}
use Rattle.playback.proofs.Complete.{history_judged}

-- what a list of calls lets out, and then another
pub released_append : (cipher : Make) (first then_calls : List Call) (r : Receiver) → released cipher r (first ++ then_calls) ≡ released cipher r first ++ released cipher (after cipher r first) then_calls
unfolding released answers after
released_append cipher [] more r = refl
released_append cipher (call ∷ first) more r = ap (λ l. outs (answer cipher r call) ++ l) (released_append cipher first more (then cipher r call)) ∙ sym (append_assoc (outs (answer cipher r call)) _ _)

-- the payloads of the orders that answers make
payloads : (s m : ℕ) (told : List Answer) → map (λ (x : Record). x.bytes) (flat_map order_of (map (let_out s m) told)) ≡ flat_map payload_out told
payloads s m [] = refl
payloads s m (refused r ∷ told) = payloads s m told
payloads s m (holds n ∷ told) = payloads s m told
payloads s m (steps n ∷ told) = payloads s m told
payloads s m (none ∷ told) = payloads s m told
payloads s m (out i n p true ∷ told) = ap (λ l. p ∷ l) (payloads s m told)
payloads s m (out i n p false ∷ told) = payloads s m told

-- the orders of a record, and then those of the records behind it
orders_split : (s m : ℕ) (told : List Answer) (rest : List Record) → map (λ (x : Record). x.bytes) (flat_map order_of (map (let_out s m) told) ++ rest) ≡ flat_map payload_out told ++ map (λ x. x.bytes) rest
orders_split s m told rest = map-append _ _ rest ∙ ap (λ l. l ++ map (λ x. x.bytes) rest) (payloads s m told)

module _ (cipher : Make) (pair : Key) where
  payloads_of : Part → List Record → List (List ℕ)
  payloads_of part xs = map (λ x. x.bytes) (flat_map order_of (walked cipher pair part xs))

  one_more : (part : Part) (x : Record) (xs : List Record) → payloads_of part (x ∷ xs) ≡ flat_map payload_out (let_outs cipher part x) ++ payloads_of (next cipher pair part x) xs
  unfolding payloads_of walked
  one_more part x xs =
      ap (map (λ x. x.bytes)) (flat_map-append order_of (map (let_out x.seconds x.micros) (let_outs cipher part x)) (walked cipher pair (next cipher pair part x) xs))
      ∙ orders_split x.seconds x.micros (let_outs cipher part x) _

  -- from a receiver on
  by_history : (r : Receiver) (xs : List Record) → payloads_of (receiving r) xs ≡ flat_map payload_out (released cipher r (history cipher r xs))
  unfolding payloads_of walked history released answers let_outs
  by_history r [] = refl
  by_history r (x ∷ xs) =
      one_more (receiving r) x xs
      ∙ ap (λ l. flat_map payload_out (released cipher r (calls cipher r x)) ++ l) (by_history (after cipher r (calls cipher r x)) xs)
      ∙ sym (flat_map-append payload_out (released cipher r (calls cipher r x)) _)
      ∙ ap (flat_map payload_out) (sym (released_append cipher (calls cipher r x) _ r))

  -- no receiver yet
  abbrev Deaf : Part → Type 0
  Deaf silent = Unit {0}
  Deaf (asking node) = Unit {0}
  Deaf (receiving r) = ⊥

  -- a receiver stays one
  stays : (r : Receiver) (xs : List Record) (node : Node) → part_after cipher pair (receiving r) xs ≡ asking node → ⊥
  unfolding part_after
  stays r [] node e = subst Deaf (sym e) tt
  stays r (x ∷ xs) node e = stays (after cipher r (calls cipher r x)) xs node e

  -- up to the join nothing goes out
  to_join : (part : Part) (before : List Record) (x : Record) (behind : List Record) (node : Node) (r : Receiver) → part_after cipher pair part before ≡ asking node → finish cipher node (time x) x.bytes ≡ Ok r → payloads_of part (before ++ x ∷ behind) ≡ payloads_of (receiving r) behind
  unfolding part_after let_outs
  to_join part [] x behind node r e f =
      ap (λ p. payloads_of p (x ∷ behind)) e ∙ one_more (asking node) x behind ∙ ap (λ q. payloads_of (joins node q) behind) f
  to_join silent (y ∷ before) x behind node r e f = one_more silent y (before ++ x ∷ behind) ∙ to_join (next cipher pair silent y) before x behind node r e f
  to_join (asking asker) (y ∷ before) x behind node r e f = one_more (asking asker) y (before ++ x ∷ behind) ∙ to_join (next cipher pair (asking asker) y) before x behind node r e f
  to_join (receiving s) (y ∷ before) x behind node r e f = absurd (stays s (y ∷ before) node e)

  -- without a join nothing goes out
  later : (start : Part) (x : Record) (xs : List Record) → JoinIn cipher pair (next cipher pair start x) xs → JoinIn cipher pair start (x ∷ xs)
  unfolding part_after
  later start x xs j = record { before = x ∷ j.before; answer = j.answer; behind = j.behind; split = ap (λ l. x ∷ l) j.split; node = j.node; asks = j.asks; receiver = j.receiver; finished = j.finished }

  joined_now : (node : Node) (x : Record) (xs : List Record) (r : Receiver) → finish cipher node (time x) x.bytes ≡ Ok r → JoinIn cipher pair (asking node) (x ∷ xs)
  unfolding part_after
  joined_now node x xs r f = record { before = []; answer = x; behind = xs; split = refl; node = node; asks = refl; receiver = r; finished = f }

  still_deaf : (part : Part) (x : Record) (xs : List Record) → Deaf part → (JoinIn cipher pair part (x ∷ xs) → ⊥) → Deaf (next cipher pair part x)
  still_deaf silent x xs deaf alone = go (read_request x.bytes)
    where
      go : (q : Result kinds.Request Refusal) → Deaf (asks pair (time x) q)
      go (Ok q) = tt
      go (Err refusal) = tt
  still_deaf (asking node) x xs deaf alone = go (finish cipher node (time x) x.bytes) refl
    where
      go : (q : Result Receiver Refusal) → finish cipher node (time x) x.bytes ≡ q → Deaf (joins node q)
      go (Ok r) e = alone (joined_now node x xs r e)
      go (Err refusal) e = tt
  still_deaf (receiving r) x xs deaf alone = deaf

  no_orders : (part : Part) (xs : List Record) → Deaf part → (JoinIn cipher pair part xs → ⊥) → flat_map order_of (walked cipher pair part xs) ≡ []
  unfolding walked let_outs
  no_orders part [] deaf alone = refl
  no_orders silent (x ∷ xs) deaf alone = no_orders (next cipher pair silent x) xs (still_deaf silent x xs deaf alone) (λ j. alone (later silent x xs j))
  no_orders (asking node) (x ∷ xs) deaf alone = no_orders (next cipher pair (asking node) x) xs (still_deaf (asking node) x xs deaf alone) (λ j. alone (later (asking node) x xs j))
  no_orders (receiving r) (x ∷ xs) deaf alone = absurd deaf

  module _ (xs : List Record) (j : JoinIn cipher pair silent xs) where
    -- the calls behind the join
    abbrev ran : List Call
    ran = history cipher j.receiver j.behind

    ran_releases : payloads_of silent xs ≡ flat_map payload_out (released cipher j.receiver ran)
    ran_releases = ap (payloads_of silent) j.split ∙ to_join silent j.before j.answer j.behind j.node j.receiver j.asks j.finished ∙ by_history j.receiver j.behind

    ran_complete : payloads_of silent xs ≡ flat_map payload_out (judged cipher (after cipher j.receiver ran) (taken_packets cipher j.receiver ran))
    ran_complete =
        let sound = finish_sound cipher j.node (time j.answer) j.answer.bytes j.receiver j.finished in
        ran_releases ∙ ap (flat_map payload_out) (history_judged cipher j.receiver sound.0 sound.1 j.behind)

pub replay_stands : (cipher : Make) (pair : Key) (xs : List Record) → ReplayStands cipher pair xs
unfolding payloads_of
replay_stands cipher pair xs = record {
  joined = λ j. record {
    releases = ran_releases cipher pair xs j;
    complete = ran_complete cipher pair xs j;
    theorem = λ x said answered is. link_stands cipher x j.receiver (record { node = j.node; reading = time j.answer; said = said; answered = answered; finished = ap (finish cipher j.node (time j.answer)) (sym is) ∙ j.finished });
  };
  alone = no_orders cipher pair silent xs tt;
}
