-- The receiver of bytes keeps to what holds of any receiver.
use Rattle.std.proofs.Common.{◌≡◌, eqb, List, [], ◌∷◌, ◌++◌, map, Some, None, Decides, Option, sym, refl, ap, ◌∙◌}
use Rattle.std.specs.List.{AllByRecursion}
use Rattle.std.specs.Str.{bytes_eq}
use Rattle.std.proofs.lemmas.Slice.Eq.{bytes_eq-Decides}
use Rattle.std.proofs.lemmas.List.{map-append}
use Rattle.std.proofs.lemmas.Bool.{and_parts, leb-true, ltb-true, not-true}
use Rattle.std.proofs.lemmas.Bool.Decides.{Decides-and, Decides-like, Decides-eqb}
use Rattle.refusal.specs.declared.Refusal.{Refusal}
use Rattle.cipher.specs.Blocks.{Make}
use Rattle.cipher.specs.declared.key.Key.{Key}
use Rattle.chain.specs.Chain.{down}
use Rattle.chain.proofs.ChainLaws.{down_add}
use Rattle.packet.specs.Kinds.{Data}
use Rattle.packet.specs.Reading.{read_data, read_key}
use Rattle.link.specs.Questions.{Question, first_no, unless}
use Rattle.link.specs.Clock.{Clock}
use Rattle.link.specs.Reception.{World, State, Deed, refuses, takes, adopts, releases, rests, Outcome, Sound, first_out, known, given_by, given}
use Rattle.link.specs.Reception as reception
use Rattle.link.specs.Receiver.{Receiver, Call, to_take, to_key, to_release, same_key, same_packet, world, reading, questions, granted, deed, told, outs, out_of, answer, then, after, deeds, answers, released}
use Rattle.link.proofs.Asking.{Yes, all_yes, all_behind}
use Rattle.link.proofs.Clocks.{early_before, early_above}
use Rattle.link.proofs.Receptions.{Laws, Allowed, AllAllowed, next_sound}

pub key_decides : (k l : Key) → Decides (same_key k l) (k ≡ l)
key_decides k l =
    Decides-like (same_key k l) (λ e. λ i. record { high = e.0 i; low = e.1 i }) (λ e. (ap (λ x. x.high) e, ap (λ x. x.low) e)) (Decides-and (eqb k.high l.high) (eqb k.low l.low) (Decides-eqb _ _) (Decides-eqb _ _))

pub packet_decides : (p q : Data) → Decides (same_packet p q) (p ≡ q)
packet_decides p q =
    Decides-like (same_packet p q) (λ e. λ i. record { interval = e.0.0.0 i; number = e.0.0.1 i; payload = e.0.1 i; tag = e.1 i })
    (λ e. (((ap (λ x. x.interval) e, ap (λ x. x.number) e), ap (λ x. x.payload) e), ap (λ x. x.tag) e))
    (Decides-and _ (bytes_eq p.tag q.tag) (Decides-and _ (bytes_eq p.payload q.payload) (Decides-and (eqb p.interval q.interval) (eqb p.number q.number) (Decides-eqb _ _) (Decides-eqb _ _)) (bytes_eq-Decides _ _)) (bytes_eq-Decides _ _))

down_zero : (cipher : Make) (k : Key) → down cipher k 0 ≡ k
unfolding down
down_zero cipher k = refl

pub world_laws : (cipher : Make) (clock : Clock) → Laws (world cipher clock)
world_laws cipher clock = record {
  equal = packet_decides;
  equal_key = key_decides;
  down_none = down_zero cipher;
  down_down = down_add cipher;
  early_before = early_before clock;
  early_above = early_above clock;
}

-- a deed is allowed that is allowed when every question is answered yes
allowed_by : {P K : Type 0} (w : World P K) (s : State P K) (qs : List Question) (d : Deed P K) → (AllByRecursion Yes qs → Allowed w s d) → Allowed w s (unless (first_no qs) refuses d)
allowed_by w s qs d h = go (first_no qs) refl
  where
    go : (o : Option Refusal) → first_no qs ≡ o → Allowed w s (unless o refuses d)
    go None e = h (all_yes qs e)
    go (Some r) e = tt

first_allowed : {P K : Type 0} (w : World P K) (s : State P K) (ps : List P) → known w s ≡ ps → Allowed w s (first_out w s ps)
first_allowed w s [] e = e
first_allowed w s (p ∷ ps) e = record { rest = ps; first = e; judged = refl }

pub deed_allowed : (cipher : Make) (r : Receiver) (call : Call) → Allowed (world cipher r.clock) r.state (deed cipher r call)
unfolding deed
deed_allowed cipher r (to_take t bytes) = allowed_by w s (questions cipher r (to_take t bytes)) (granted cipher r (to_take t bytes)) (λ yes.
    let h = all_behind Yes (reading (read_data bytes)) _ yes in
    record { later = leb-true _ _ (and_parts _ _ h.0).1; from_one = leb-true _ _ (and_parts _ _ h.1.0).0; early = h.1.1.0; new = not-true _ h.1.1.1.0 })
  where
    w : World Data Key
    w = world cipher r.clock

    s : State Data Key
    s = r.state
deed_allowed cipher r (to_key t bytes) = allowed_by w s (questions cipher r (to_key t bytes)) (granted cipher r (to_key t bytes)) (λ yes.
    let h = all_behind Yes (reading (read_key bytes)) _ yes in
    record { later = leb-true _ _ (and_parts _ _ h.0).1; newer = ltb-true _ _ h.1.1.0; due = not-true _ h.1.1.1.0; of_chain = (key_decides _ _).0 h.1.1.1.1.0 })
  where
    w : World Data Key
    w = world cipher r.clock

    s : State Data Key
    s = r.state
deed_allowed cipher r (to_release room) =
    allowed_by (world cipher r.clock) r.state (questions cipher r (to_release room)) (granted cipher r (to_release room)) (λ yes. first_allowed (world cipher r.clock) r.state _ refl)

pub all_allowed : (cipher : Make) (calls : List Call) (r : Receiver) → AllAllowed (world cipher r.clock) r.state (deeds cipher r calls)
unfolding deeds then deed
all_allowed cipher [] r = tt
all_allowed cipher (call ∷ calls) r = (deed_allowed cipher r call, all_allowed cipher calls (then cipher r call))

-- the receiver after calls is the one after their deeds, with the same clock
pub after_is : (cipher : Make) (calls : List Call) (r : Receiver) → after cipher r calls ≡ record { clock = r.clock; state = reception.after (world cipher r.clock) r.state (deeds cipher r calls) }
unfolding after deeds then deed
after_is cipher [] r = refl
after_is cipher (call ∷ calls) r = after_is cipher calls (then cipher r call)

pub after_append : (cipher : Make) (before behind : List Call) (r : Receiver) → after cipher r (before ++ behind) ≡ after cipher (after cipher r before) behind
unfolding after
after_append cipher [] behind r = refl
after_append cipher (call ∷ before) behind r = after_append cipher before behind (then cipher r call)

pub deeds_append : (cipher : Make) (before behind : List Call) (r : Receiver) → deeds cipher r (before ++ behind) ≡ deeds cipher r before ++ deeds cipher (after cipher r before) behind
unfolding deeds after
deeds_append cipher [] behind r = refl
deeds_append cipher (call ∷ before) behind r = ap (λ l. deed cipher r call ∷ l) (deeds_append cipher before behind (then cipher r call))

-- what is told of a deed, as far as it belongs to the released list
told_out : (s : State Data Key) (d : Deed Data Key) → outs (told s d) ≡ map (λ (o : Outcome Data). out_of o.packet o.verdict) (given_by d)
told_out s (refuses r) = refl
told_out s (takes t p) = refl
told_out s (adopts t k j) = refl
told_out s (releases p v) = refl
told_out s rests = refl

pub released_is : (cipher : Make) (calls : List Call) (r : Receiver) → released cipher r calls ≡ map (λ (o : Outcome Data). out_of o.packet o.verdict) (given (deeds cipher r calls))
unfolding deeds released answers answer deed
released_is cipher [] r = refl
released_is cipher (call ∷ calls) r =
    (λ i. told_out r.state (deed cipher r call) i ++ released_is cipher calls (then cipher r call) i) ∙ sym (map-append _ (given_by (deed cipher r call)) _)

-- every call leaves a sound receiver sound
pub then_sound : (cipher : Make) (r : Receiver) (call : Call) → Sound (world cipher r.clock) r.state → Sound (world cipher (then cipher r call).clock) (then cipher r call).state
unfolding then
then_sound cipher r call sound = next_sound (world cipher r.clock) (world_laws cipher r.clock) r.state (deed cipher r call) sound (deed_allowed cipher r call)
