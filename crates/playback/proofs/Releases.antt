-- Releases until none: how many there are does not matter once one has answered none.
use Rattle.std.proofs.Common.{◌≡◌, ℕ, zero, suc, ◌+◌, ◌<◌, ◌≤◌, Bool, cond, not, List, [], ◌∷◌, ◌++◌, length, replicate, filter, sym, refl, ap, ◌∙◌, subst, add-one, arith}
use Rattle.cipher.specs.Blocks.{Make}
use Rattle.packet.specs.Kinds.{Data}
use Rattle.link.specs.Intervals.{upto}
use Rattle.link.specs.Reception.{first_out, known, others, right_now}
use Rattle.link.specs.Reception as reception
use Rattle.link.specs.Receiver.{Receiver, Call, to_release, Answer, none, out, refused, holds, steps, same_packet, out_of, told, outs, world, deed, answer, then, after, answers, released}
use Rattle.link.proofs.Keeping.{kept_fewer}
use Rattle.link.proofs.Receivers.{packet_decides}
use Rattle.link.proofs.Uptos.{upto_kept}
use Rattle.playback.specs.Parts.{until_none}

module _ (cipher : Make) where
  -- the packets of a receiver whose key is known
  abbrev pub ready : Receiver → List Data
  ready r = known (world cipher r.clock) r.state

  abbrev release : Receiver → Receiver
  release r = then cipher r (to_release 64)

  answer_rests : (r : Receiver) → ready r ≡ [] → answer cipher r (to_release 64) ≡ none
  unfolding answer deed
  answer_rests r e = ap (λ ps. told r.state (first_out (world cipher r.clock) r.state ps)) e

  then_rests : (r : Receiver) → ready r ≡ [] → release r ≡ r
  unfolding then deed
  then_rests r e = ap (λ ps. record { clock = r.clock; state = reception.next (world cipher r.clock) r.state (first_out (world cipher r.clock) r.state ps) }) e

  answer_out : (r : Receiver) (p : Data) (ps : List Data) → ready r ≡ p ∷ ps → answer cipher r (to_release 64) ≡ out_of p (right_now (world cipher r.clock) r.state p)
  unfolding answer deed
  answer_out r p ps e = ap (λ qs. told r.state (first_out (world cipher r.clock) r.state qs)) e

  then_out : (r : Receiver) (p : Data) (ps : List Data) → ready r ≡ p ∷ ps → (release r).state.held ≡ others (world cipher r.clock) p r.state.held
  unfolding then deed
  then_out r p ps e = ap (λ qs. (reception.next (world cipher r.clock) r.state (first_out (world cipher r.clock) r.state qs)).held) e

  then_reached : (r : Receiver) (p : Data) (ps : List Data) → ready r ≡ p ∷ ps → (release r).state.reached ≡ r.state.reached
  unfolding then deed
  then_reached r p ps e = ap (λ qs. (reception.next (world cipher r.clock) r.state (first_out (world cipher r.clock) r.state qs)).reached) e

  -- a packet that goes out is no longer ready
  fewer : (r : Receiver) (p : Data) (ps : List Data) → ready r ≡ p ∷ ps → length (ready (release r)) ≤ length ps
  fewer r p ps e =
      let other : Data → Bool = λ q. not (same_packet p q) in
      let left : ready (release r) ≡ filter other (p ∷ ps) =
      (λ i. upto (λ q. q.interval) (then_reached r p ps e i) (then_out r p ps e i)) ∙ upto_kept (λ q. q.interval) other r.state.reached r.state.held ∙ ap (filter other) e in
      let gone : filter other (p ∷ ps) ≡ filter other ps = ap (λ b. cond (not b) (p ∷ filter other ps) (filter other ps)) ((packet_decides p p).1 refl) in
      rw (left ∙ gone) (kept_fewer other ps)

  -- two lists of calls come to the same: what they let out, and the receiver after them
  record Same (r r' : Receiver) (calls calls' : List Call) : Type 0 where
    let_out : released cipher r calls ≡ released cipher r' calls'
    left : after cipher r calls ≡ after cipher r' calls'

  rests_on : (n : ℕ) (r : Receiver) → ready r ≡ [] → Same r r (replicate n (to_release 64)) []
  unfolding released answers after
  rests_on zero r e = record { let_out = refl; left = refl }
  rests_on (suc n) r e = record {
    let_out = (λ i. outs (answer_rests r e i) ++ released cipher (then_rests r e i) (replicate n (to_release 64))) ∙ (rests_on n r e).let_out;
    left = ap (λ q. after cipher q (replicate n (to_release 64))) (then_rests r e) ∙ (rests_on n r e).left;
  }

  -- where one answers none, more change nothing
  enough : (n m : ℕ) (r : Receiver) → length (ready r) < n → length (ready r) < m → Same r r (replicate n (to_release 64)) (replicate m (to_release 64))
  unfolding released answers after
  enough zero m r h k = absurd (omega arith)
  enough (suc n) zero r h k = absurd (omega arith)
  enough (suc n) (suc m) r h k = go (enough n m (release r)) (ready r) refl
    where
      go : (length (ready (release r)) < n → length (ready (release r)) < m → Same (release r) (release r) (replicate n (to_release 64)) (replicate m (to_release 64))) → (ps : List Data) → ready r ≡ ps → Same r r (replicate (suc n) (to_release 64)) (replicate (suc m) (to_release 64))
      go more [] e = record {
        let_out = (rests_on (suc n) r e).let_out ∙ sym (rests_on (suc m) r e).let_out;
        left = (rests_on (suc n) r e).left ∙ sym (rests_on (suc m) r e).left;
      }
      go more (p ∷ ps) e =
          let few : length (ready (release r)) ≤ length ps = fewer r p ps e in
          let held : length (ready r) ≡ suc (length ps) = ap length e in
          let rest : Same (release r) (release r) (replicate n (to_release 64)) (replicate m (to_release 64)) = more (omega arith) (omega arith) in
          record { let_out = ap (λ l. outs (answer cipher r (to_release 64)) ++ l) rest.let_out; left = rest.left }

  -- and no packet is ready after them
  none_ready : (n : ℕ) (r : Receiver) → length (ready r) < n → ready (after cipher r (replicate n (to_release 64))) ≡ []
  unfolding after
  none_ready zero r h = absurd (omega arith)
  none_ready (suc n) r h = go (none_ready n (release r)) (ready r) refl
    where
      go : (length (ready (release r)) < n → ready (after cipher (release r) (replicate n (to_release 64))) ≡ []) → (ps : List Data) → ready r ≡ ps → ready (after cipher r (replicate (suc n) (to_release 64))) ≡ []
      go more [] e = ap ready (rests_on (suc n) r e).left ∙ e
      go more (p ∷ ps) e =
          let few : length (ready (release r)) ≤ length ps = fewer r p ps e in
          let held : length (ready r) ≡ suc (length ps) = ap length e in
          more (omega arith)

  pub until_none_ready : (r : Receiver) → ready (after cipher r (until_none cipher r)) ≡ []
  unfolding until_none
  until_none_ready r = none_ready (length (ready r) + 1) r (omega arith)

  -- what a release says of all releases until none
  abbrev pub Unfolds : Receiver → Answer → Type 0
  Unfolds r (refused refusal) = ⊥
  Unfolds r (holds count) = ⊥
  Unfolds r (steps count) = ⊥
  Unfolds r none = (released cipher r (until_none cipher r) ≡ []) × (after cipher r (until_none cipher r) ≡ release r)
  Unfolds r (out m x payload verdict) =
      (released cipher r (until_none cipher r) ≡ out m x payload verdict ∷ released cipher (release r) (until_none cipher (release r)))
      × (after cipher r (until_none cipher r) ≡ after cipher (release r) (until_none cipher (release r)))

  pub unfolds : (r : Receiver) → Unfolds r (answer cipher r (to_release 64))
  unfolding until_none released answers after
  unfolds r = go (ready r) refl
    where
      go : (ps : List Data) → ready r ≡ ps → Unfolds r (answer cipher r (to_release 64))
      go [] e =
          let none_left : Same r r (replicate (length (ready r) + 1) (to_release 64)) [] = rests_on _ r e in
          subst (Unfolds r) (sym (answer_rests r e)) (none_left.let_out, none_left.left ∙ sym (then_rests r e))
      go (p ∷ ps) e =
          let few : length (ready (release r)) ≤ length ps = fewer r p ps e in
          let held : length (ready r) ≡ suc (length ps) = ap length e in
          let rest : Same (release r) (release r) (replicate (length (ready r)) (to_release 64)) (replicate (length (ready (release r)) + 1) (to_release 64)) = enough _ _ (release r) (omega arith) (omega arith) in
          let one : replicate (length (ready r) + 1) (to_release 64) ≡ to_release 64 ∷ replicate (length (ready r)) (to_release 64) = ap (λ n. replicate n (to_release 64)) (add-one _) in
          subst (Unfolds r) (sym (answer_out r p ps e)) (
            ap (released cipher r) one ∙ (λ i. outs (answer_out r p ps e i) ++ rest.let_out i),
            ap (after cipher r) one ∙ rest.left,
          )
