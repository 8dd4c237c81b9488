-- What a receiver does at a call, from what the call's parts found.
use Rattle.std.proofs.Common.{◌≡◌, ℕ, ◌+◌, ◌-◌, ◌<◌, ◌≤◌, Bool, true, false, cond, ◌&&◌, leb, List, [], ◌∷◌, ◌++◌, length, take, drop, Some, None, Ok, Err, Option, Result, sym, refl, ap, ◌∙◌, subst, arith}
use Rattle.std.proofs.lemmas.Bool.{and_parts, leb-true, ltb-true}
use Rattle.std.proofs.lemmas.List.{length-take, length_push}
use Rattle.refusal.specs.declared.Refusal.{Refusal}
use Rattle.refusal.specs.declared.Refusal.TheVariants.{NotThisKind, WrongLength}
use Rattle.cipher.specs.Blocks.{Make}
use Rattle.cipher.specs.Keys.{key_of}
use Rattle.cipher.specs.declared.key.Key.{Key}
use Rattle.packet.specs.Kinds.{Data, Disclosure}
use Rattle.packet.specs.Reading.{of_length, of_kind, is_kind, read_data, read_key, data_of, disclosure_of}
use Rattle.link.specs.Questions.{Question, first_no, unless}
use Rattle.link.specs.Reception.{World, State, Deed, Sound, refuses, takes, adopts, take_questions, key_questions, next}
use Rattle.link.specs.Receiver.{Receiver, Call, refused, holds, steps, to_take, to_key, world, reading, deed, told, answer, then}
use Rattle.link.proofs.Asking.{all_yes}
use Rattle.link.proofs.Receivers.{then_sound}
use Rattle.node.specs.Answers.{asked}

-- what was read: the fields at their places, of a length that fits
pub record Read {P : Type 0} (low high : ℕ) (fields : List ℕ → P) (bytes : List ℕ) (p : P) : Type 0 where
  pub is : fields bytes ≡ p
  pub least : low ≤ length bytes
  pub most : length bytes ≤ high

pub read_ok : {P : Type 0} (kind low high : ℕ) (fields : List ℕ → P) (bytes : List ℕ) (p : P) → of_kind kind (of_length low high fields) bytes ≡ Ok p → Read low high fields bytes p
read_ok {P} kind low high fields bytes p = go (is_kind kind bytes)
  where
    long : (b : Bool) → (leb low (length bytes) && leb (length bytes) high) ≡ b → cond {A = Result P Refusal} b (Ok (fields bytes)) (Err WrongLength) ≡ Ok p → Read low high fields bytes p
    long true e h = let parts = and_parts (leb low (length bytes)) (leb (length bytes) high) e in record {
      is = cc;
      least = leb-true low (length bytes) parts.0;
      most = leb-true (length bytes) high parts.1;
    }
    long false e h = absurd (let z : ◌≡◌ {A = ℕ} 0 1 = cc in omega arith)

    go : (b : Bool) → cond b (of_length low high fields bytes) (Err NotThisKind) ≡ Ok p → Read low high fields bytes p
    go true h = long _ refl h
    go false h = absurd (let z : ◌≡◌ {A = ℕ} 0 1 = cc in omega arith)

pub payload_fits : (bytes : List ℕ) (p : Data) → Ok p ≡ read_data bytes → length p.payload ≤ 64
payload_fits bytes p h =
    let read = read_ok 3 12 76 data_of bytes p (sym h) in
    let payload : length (take (length bytes - 12) (drop 4 bytes)) ≤ 64 = simp length-take (omega (arith, read.most)) in
    subst (λ q. length q.payload ≤ 64) read.is payload

-- what a call comes to: refused as reading refused, or as the questions behind have it
unread : {P A : Type 0} (x : Result P Refusal) (e : Refusal) (qs : List Question) (refuse : Refusal → A) (grant : A) → x ≡ Err e → unless (first_no (reading x ++ qs)) refuse grant ≡ refuse e
unread x e qs refuse grant is = ap (λ y. unless (first_no (reading y ++ qs)) refuse grant) is

well_read : {P A : Type 0} (x : Result P Refusal) (p : P) (qs : List Question) (o : Option Refusal) (refuse : Refusal → A) (grant : A) → x ≡ Ok p → first_no qs ≡ o → unless (first_no (reading x ++ qs)) refuse grant ≡ unless o refuse grant
well_read x p qs o refuse grant is found = ap (λ y. unless (first_no (reading y ++ qs)) refuse grant) is ∙ ap (λ o. unless o refuse grant) found

-- a helper asked the questions
pub asked_no : (o : Option Refusal) (e : Refusal) → ◌≡◌ {A = Result (Unit {0}) Refusal} (Err e) (asked o) → o ≡ Some e
asked_no None e h = absurd (let z : ◌≡◌ {A = ℕ} 0 1 = cc in omega arith)
asked_no (Some f) e h = cc

pub asked_yes : (o : Option Refusal) (x : Unit {0}) → ◌≡◌ {A = Result (Unit {0}) Refusal} (Ok x) (asked o) → o ≡ None
asked_yes None x h = refl
asked_yes (Some f) x h = absurd (let z : ◌≡◌ {A = ℕ} 0 1 = cc in omega arith)

-- a packet that passes the questions finds a place
pub has_room : (w : World Data Key) (s : State Data Key) (t : ℕ) (p : Data) → first_no (take_questions w s t p) ≡ None → length s.held < 32
has_room w s t p none = ltb-true (length s.held) 32 (all_yes (take_questions w s t p) none).1.1.1.1.0

module _ (cipher : Make) (r : Receiver) where
  -- what a call answers and leaves, once its deed is known
  pub answer_of : (call : Call) (d : Deed Data Key) → deed cipher r call ≡ d → answer cipher r call ≡ told r.state d
  unfolding answer
  answer_of call d e = ap (told r.state) e

  pub then_of : (call : Call) (d : Deed Data Key) → deed cipher r call ≡ d → then cipher r call ≡ record { clock = r.clock; state = next (world cipher r.clock) r.state d }
  unfolding then
  then_of call d e = ap (λ x. record { clock = r.clock; state = next (world cipher r.clock) r.state x }) e

  -- what holds of a receiver holds after a call
  pub sound_then : (call : Call) (r' : Receiver) → r' ≡ then cipher r call → Sound (world cipher r.clock) r.state → Sound (world cipher r'.clock) r'.state
  sound_then call r' e sound = subst (λ x. Sound (world cipher x.clock) x.state) (sym e) (then_sound cipher r call sound)

  module _ (t : ℕ) (bytes : List ℕ) where
    pub take_unread : (e : Refusal) → Err e ≡ read_data bytes → deed cipher r (to_take t bytes) ≡ refuses e
    unfolding deed
    take_unread e h = unread (read_data bytes) e _ refuses _ (sym h)

    pub take_read : (p : Data) (o : Option Refusal) → Ok p ≡ read_data bytes → first_no (take_questions (world cipher r.clock) r.state t p) ≡ o → deed cipher r (to_take t bytes) ≡ unless o refuses (takes t p)
    unfolding deed
    take_read p o h asks =
        let is : data_of bytes ≡ p = (read_ok 3 12 76 data_of bytes p (sym h)).is in
        let found : first_no (take_questions (world cipher r.clock) r.state t (data_of bytes)) ≡ o = ap (λ q. first_no (take_questions (world cipher r.clock) r.state t q)) is ∙ asks in
        well_read (read_data bytes) p _ o refuses _ (sym h) found ∙ ap (λ q. unless o refuses (takes t q)) is

    pub key_unread : (e : Refusal) → Err e ≡ read_key bytes → deed cipher r (to_key t bytes) ≡ refuses e
    unfolding deed
    key_unread e h = unread (read_key bytes) e _ refuses _ (sym h)

    pub key_read : (p : Disclosure) (k : Key) (o : Option Refusal) → Ok p ≡ read_key bytes → k ≡ key_of p.key → first_no (key_questions (world cipher r.clock) r.state t k p.interval) ≡ o → deed cipher r (to_key t bytes) ≡ unless o refuses (adopts t k p.interval)
    unfolding deed
    key_read p k o h key asks =
        let is : disclosure_of bytes ≡ p = (read_ok 4 19 19 disclosure_of bytes p (sym h)).is in
        let same : key_of (disclosure_of bytes).key ≡ k = ap (λ q. key_of q.key) is ∙ sym key in
        let found : first_no (key_questions (world cipher r.clock) r.state t (key_of (disclosure_of bytes).key) (disclosure_of bytes).interval) ≡ o = (λ i. first_no (key_questions (world cipher r.clock) r.state t (same i) (is i).interval)) ∙ asks in
        well_read (read_key bytes) p _ o refuses _ (sym h) found ∙ (λ i. unless o refuses (adopts t (same i) (is i).interval))

  -- a call that is refused leaves the receiver as it was
  pub refused_answer : (call : Call) (e : Refusal) → deed cipher r call ≡ refuses e → refused e ≡ answer cipher r call
  refused_answer call e d = sym (answer_of call (refuses e) d)

  pub refused_then : (call : Call) (e : Refusal) → deed cipher r call ≡ refuses e → r ≡ then cipher r call
  refused_then call e d = sym (then_of call (refuses e) d)

  -- a packet that passed was taken in
  pub take_done : (t : ℕ) (bytes : List ℕ) (p : Data) (held : List Data) → Ok p ≡ read_data bytes → first_no (take_questions (world cipher r.clock) r.state t p) ≡ None → held ≡ r.state.held ++ p ∷ []
      → (holds (length held) ≡ answer cipher r (to_take t bytes)) × (record { clock = r.clock; state = record { latest = t; newest = r.state.newest; reached = r.state.reached; held = held } } ≡ then cipher r (to_take t bytes))
  take_done t bytes p held read asks is =
      let does = take_read t bytes p None read asks in
      let count : length held ≡ length r.state.held + 1 = ap length is ∙ length_push r.state.held p in (
        ap holds count ∙ sym (answer_of (to_take t bytes) _ does),
        ap (λ ps. record { clock = r.clock; state = record { latest = t; newest = r.state.newest; reached = r.state.reached; held = ps } }) is ∙ sym (then_of (to_take t bytes) _ does),
      )

  -- a key that passed is the newest
  pub key_done : (t : ℕ) (bytes : List ℕ) (p : Disclosure) (k : Key) → Ok p ≡ read_key bytes → k ≡ key_of p.key → first_no (key_questions (world cipher r.clock) r.state t k p.interval) ≡ None
      → (steps (p.interval - r.state.reached) ≡ answer cipher r (to_key t bytes)) × (record { clock = r.clock; state = record { latest = t; newest = k; reached = p.interval; held = r.state.held } } ≡ then cipher r (to_key t bytes))
  key_done t bytes p k read key asks =
      let does = key_read t bytes p k None read key asks in
      (sym (answer_of (to_key t bytes) _ does), sym (then_of (to_key t bytes) _ does))
