-- What a release of the code comes to.
use Rattle.std.proofs.Common.{◌≡◌, ℕ, ◌≤◌, List, ◌∷◌, length, take, Some, None, Ok, Err, Option, Result, sym, refl, ap, ◌∙◌, subst, arith, length-take}
use Rattle.std.specs.Result.{IsOk}
use Rattle.refusal.specs.declared.Refusal.{Refusal}
use Rattle.cipher.specs.Blocks.{Make}
use Rattle.packet.specs.Writing.{filled}
use Rattle.link.specs.Receiver.{Receiver, to_release, answer, then, none, after as afterwards, released}
use Rattle.node.specs.Answers.{release_length, release_says, released_says, written}
use Rattle.node.specs.declared.released.Released.{Released}
use Rattle.playback.specs.Parts.{receiving, until_none}
use Rattle.playback.specs.Releasing.{LetsOut, out_length, told_out}
use Rattle.playback.proofs.Releases.{Unfolds, unfolds}

module _ (cipher : Make) (r r' : Receiver) (before after : List ℕ) where
  -- the release, as its contract has it
  pub record ReleasedAs (result : Result (Option Released) Refusal) (room : ℕ) : Type 0 where
    pub says : release_says result after ≡ answer cipher r (to_release room)
    pub leaves : r' ≡ then cipher r (to_release room)
    pub buffer : after ≡ filled (written (answer cipher r (to_release room))) before
    pub long : release_length result ≡ length (written (answer cipher r (to_release room)))

  -- in a buffer of 64 bytes
  roomy : (result : Result (Option Released) Refusal) (room : ℕ) → room ≡ 64 → ReleasedAs result room → ReleasedAs result 64
  roomy result room e h = subst (ReleasedAs result) e h

  pub lets_out : (o : Option Released) (room : ℕ) → room ≡ 64 → ReleasedAs (Ok o) room → LetsOut cipher (receiving r) (receiving r') (told_out o after)
  lets_out o room e h = go o (roomy (Ok o) room e h)
    where
      go : (o : Option Released) → ReleasedAs (Ok o) 64 → LetsOut cipher (receiving r) (receiving r') (told_out o after)
      go None h =
          let all : Unfolds cipher r none = subst (Unfolds cipher r) (sym h.says) (unfolds cipher r) in
          (all.0, ap receiving (all.1 ∙ sym h.leaves))
      go (Some x) h =
          let all : Unfolds cipher r (released_says x after) = subst (Unfolds cipher r) (sym h.says) (unfolds cipher r) in (
            subst (λ q. released cipher r (until_none cipher r) ≡ released_says x after ∷ released cipher q (until_none cipher q)) (sym h.leaves) all.0,
            ap receiving (subst (λ q. afterwards cipher r (until_none cipher r) ≡ afterwards cipher q (until_none cipher q)) (sym h.leaves) all.1),
          )

  -- the payload that is told is the whole front of that length, so that the buffer is as long
  pub front_within : (o : Option Released) (room : ℕ) → length after ≡ 64 → ReleasedAs (Ok o) room → out_length o ≤ 64
  front_within None room same h = omega arith
  front_within (Some x) room same h =
      let told : x.length ≡ length (take x.length after) = h.long ∙ ap (λ a. length (written a)) (sym h.says) in
      let short = length-take x.length after in
      omega arith

  pub never_refused : (result : Result (Option Released) Refusal) (room : ℕ) → room ≡ 64 → ReleasedAs result room → IsOk result
  never_refused (Ok o) room e h = refl
  never_refused (Err f) room e h = absurd (subst (Unfolds cipher r) (sym (roomy (Err f) room e h).says) (unfolds cipher r))
