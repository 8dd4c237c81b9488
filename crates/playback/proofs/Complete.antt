-- A replay loses nothing true: after each record no packet is ready, so all that was taken up to the newest key's interval went out.
use Rattle.std.proofs.Common.{◌≡◌, List, [], ◌∷◌, Some, None, Option, refl, ap, ◌∙◌, subst}
use Rattle.cipher.specs.Blocks.{Make}
use Rattle.cipher.specs.declared.key.Key.{Key}
use Rattle.packet.specs.Kinds.{Data}
use Rattle.packet.specs.Reading.{read_packet}
use Rattle.capture.specs.Format.{Record, time}
use Rattle.link.specs.Reception.{World, Deed, refuses, takes, adopts, releases, rests, Sound, next}
use Rattle.link.specs.Receiver.{Receiver, Call, world, deed, told, answer, then, after, taken_packets, released}
use Rattle.link.specs.Histories.{judged}
use Rattle.link.proofs.Receptions.{Allowed, Laws, rests_on}
use Rattle.link.proofs.Receivers.{world_laws, deed_allowed, after_is, after_append, then_sound}
use Rattle.link.proofs.Uptos.{upto_nil}
use Rattle.link.proofs.Theorem.{settled_out}
use Rattle.playback.specs.Parts.{behind, with_releases, offers, calls}
use Rattle.playback.specs.Replays.{history}
use Rattle.playback.proofs.Releases.{ready, until_none_ready}

after_sound : (cipher : Make) (cs : List Call) (r : Receiver) → Sound (world cipher r.clock) r.state → Sound (world cipher (after cipher r cs).clock) (after cipher r cs).state
unfolding after
after_sound cipher [] r sound = sound
after_sound cipher (call ∷ cs) r sound = after_sound cipher cs (then cipher r call) (then_sound cipher r call sound)

module _ (cipher : Make) (r : Receiver) (sound : Sound (world cipher r.clock) r.state) (nothing : ready cipher r ≡ []) where
  abbrev w : World Data Key
  w = world cipher r.clock

  laws : Laws w
  laws = world_laws cipher r.clock

  -- where no packet is ready, a call and the releases behind it leave none ready
  call_rests : (call : Call) → ready cipher (after cipher r (with_releases cipher r (Some call))) ≡ []
  unfolding after then answer
  call_rests call = go (deed cipher r call) (deed_allowed cipher r call)
    where
      done : Deed Data Key → Receiver
      done d = record { clock = r.clock; state = next w r.state d }

      go : (d : Deed Data Key) → Allowed w r.state d → ready cipher (after cipher (done d) (behind cipher (done d) (told r.state d))) ≡ []
      go (refuses refusal) h = nothing
      go (takes t p) h = rests_on w laws (takes t p ∷ []) r.state sound (h, tt) nothing refl
      go (adopts t k j) h = until_none_ready cipher (done (adopts t k j))
      go (releases p verdict) h = rests_on w laws (releases p verdict ∷ []) r.state sound (h, tt) nothing refl
      go rests h = nothing

  -- and so do the calls of a record
  record_rests : (x : Record) → ready cipher (after cipher r (calls cipher r x)) ≡ []
  unfolding calls after
  record_rests x = go (offers (time x) x.bytes (read_packet x.bytes))
    where
      go : (o : Option Call) → ready cipher (after cipher r (with_releases cipher r o)) ≡ []
      go None = nothing
      go (Some call) = call_rests call

history_rests : (cipher : Make) (xs : List Record) (r : Receiver) → Sound (world cipher r.clock) r.state → ready cipher r ≡ [] → ready cipher (after cipher r (history cipher r xs)) ≡ []
unfolding history after
history_rests cipher [] r sound nothing = nothing
history_rests cipher (x ∷ xs) r sound nothing =
    ap (ready cipher) (after_append cipher (calls cipher r x) _ r) ∙ history_rests cipher xs (after cipher r (calls cipher r x)) (after_sound cipher (calls cipher r x) r sound) (record_rests cipher r sound nothing x)

pub history_judged : (cipher : Make) (r : Receiver) → Sound (world cipher r.clock) r.state → r.state.held ≡ [] → (xs : List Record) →
    released cipher r (history cipher r xs) ≡ judged cipher (after cipher r (history cipher r xs)) (taken_packets cipher r (history cipher r xs))
history_judged cipher r sound empty xs =
    let nothing : ready cipher r ≡ [] = rw empty (upto_nil (λ p. p.interval) r.state.reached) in
    settled_out cipher r sound empty (history cipher r xs) (subst (λ q. ready cipher q ≡ []) (after_is cipher (history cipher r xs) r) (history_rests cipher xs r sound nothing))
