-- What each answer of a receiver tells of its deed.
use Rattle.std.proofs.Common.{◌≡◌, ℕ, ◌-◌, Bool, true, false, List, [], Some, None, Decides, Option, sym, refl, ap, ◌∙◌, subst, arith}
use Rattle.std.proofs.lemmas.Slice.Eq.{bytes_eq-Decides}
use Rattle.std.proofs.lemmas.Bool.{and_parts, and_from, eqb-true, eq-eqb}
use Rattle.refusal.specs.declared.Refusal.{Refusal}
use Rattle.cipher.specs.Blocks.{Make}
use Rattle.cipher.specs.Keys.{key_of}
use Rattle.cipher.specs.declared.key.Key.{Key}
use Rattle.packet.specs.Kinds.{Data}
use Rattle.packet.specs.Layouts.{data_covered}
use Rattle.packet.specs.Reading.{disclosure_of}
use Rattle.link.specs.Questions.{first_no, unless}
use Rattle.link.specs.Reception.{Deed, refuses, takes, adopts, releases, rests, known}
use Rattle.link.specs.Receiver.{Receiver, Call, to_take, to_key, to_release, steps, none, out, world, data_tag, questions, granted, deed, told, answer}
use Rattle.link.specs.Histories.{tag_right, GoesOut, fits}
use Rattle.link.proofs.Receptions.{Releasable, Allowed}
use Rattle.link.proofs.Receivers.{deed_allowed}

-- the tag that is right hangs on interval, number and payload alone
pub tag_of_fields : (cipher : Make) (k : Key) (p q : Data) → p.interval ≡ q.interval → p.number ≡ q.number → p.payload ≡ q.payload → data_tag cipher k p ≡ data_tag cipher k q
unfolding data_covered
tag_of_fields cipher k p q e f g = λ i. data_tag cipher k (record { interval = e i; number = f i; payload = g i; tag = [] })

-- a release that answers true gives out a packet whose tag is right
pub record Out (cipher : Make) (r : Receiver) (room m x : ℕ) (payload : List ℕ) : Type 0 where
  pub packet : Data
  pub does : deed cipher r (to_release room) ≡ releases packet true
  pub releasable : Releasable (world cipher r.clock) r.state packet true
  pub interval : packet.interval ≡ m
  pub number : packet.number ≡ x
  pub payload_is : packet.payload ≡ payload

pub out_means : (cipher : Make) (r : Receiver) (room m x : ℕ) (payload : List ℕ) → answer cipher r (to_release room) ≡ out m x payload true → Out cipher r room m x payload
unfolding deed answer
out_means cipher r room m x payload h = go (deed cipher r (to_release room)) refl (deed_allowed cipher r (to_release room)) h
  where
    go : (d : Deed Data Key) → deed cipher r (to_release room) ≡ d → Allowed (world cipher r.clock) r.state d → told r.state d ≡ out m x payload true → Out cipher r room m x payload
    go (refuses q) e a t = absurd (let z : ◌≡◌ {A = ℕ} 0 1 = cc t in omega arith)
    go (takes s p) e a t = absurd (let z : ◌≡◌ {A = ℕ} 0 1 = cc t in omega arith)
    go (adopts s k j) e a t = absurd (let z : ◌≡◌ {A = ℕ} 0 1 = cc t in omega arith)
    go (releases p true) e a t = record { packet = p; does = e; releasable = a; interval = cc t; number = cc t; payload_is = cc t }
    go (releases p false) e a t = absurd (let z : ◌≡◌ {A = ℕ} 0 1 = cc t in omega arith)
    go rests e a t = absurd (let z : ◌≡◌ {A = ℕ} 0 1 = cc t in omega arith)

pub none_means : (cipher : Make) (r : Receiver) (room : ℕ) → answer cipher r (to_release room) ≡ none → known (world cipher r.clock) r.state ≡ []
unfolding deed answer
none_means cipher r room h = go (deed cipher r (to_release room)) (deed_allowed cipher r (to_release room)) h
  where
    go : (d : Deed Data Key) → Allowed (world cipher r.clock) r.state d → told r.state d ≡ none → known (world cipher r.clock) r.state ≡ []
    go (refuses q) a t = absurd (let z : ◌≡◌ {A = ℕ} 0 1 = cc t in omega arith)
    go (takes s p) a t = absurd (let z : ◌≡◌ {A = ℕ} 0 1 = cc t in omega arith)
    go (adopts s k j) a t = absurd (let z : ◌≡◌ {A = ℕ} 0 1 = cc t in omega arith)
    go (releases p v) a t = absurd (let z : ◌≡◌ {A = ℕ} 0 1 = cc t in omega arith)
    go rests a t = a

-- a key call that answers its steps adopts the key of the packet
pub steps_means : (cipher : Make) (r : Receiver) (t count : ℕ) (bytes : List ℕ) → answer cipher r (to_key t bytes) ≡ steps count → deed cipher r (to_key t bytes) ≡ adopts t (key_of (disclosure_of bytes).key) (disclosure_of bytes).interval
unfolding answer deed
steps_means cipher r t count bytes h = go (first_no (questions cipher r (to_key t bytes))) h
  where
    go : (o : Option Refusal) → told r.state (unless o refuses (granted cipher r (to_key t bytes))) ≡ steps count → unless o refuses (granted cipher r (to_key t bytes)) ≡ adopts t (key_of (disclosure_of bytes).key) (disclosure_of bytes).interval
    go None e = refl
    go (Some q) e = absurd (let z : ◌≡◌ {A = ℕ} 0 1 = cc e in omega arith)

-- packets come out of releases only
pub release_only : (cipher : Make) (r : Receiver) (call : Call) (p : Data) (v : Bool) → deed cipher r call ≡ releases p v → (room : ℕ) × (call ≡ to_release room)
unfolding deed
release_only cipher r (to_take t bytes) p v h = go (first_no (questions cipher r (to_take t bytes))) h
  where
    go : (o : Option Refusal) → unless o refuses (granted cipher r (to_take t bytes)) ≡ releases p v → (room : ℕ) × (to_take t bytes ≡ to_release room)
    go None e = absurd (let z : ◌≡◌ {A = ℕ} 0 1 = cc e in omega arith)
    go (Some q) e = absurd (let z : ◌≡◌ {A = ℕ} 0 1 = cc e in omega arith)
release_only cipher r (to_key t bytes) p v h = go (first_no (questions cipher r (to_key t bytes))) h
  where
    go : (o : Option Refusal) → unless o refuses (granted cipher r (to_key t bytes)) ≡ releases p v → (room : ℕ) × (to_key t bytes ≡ to_release room)
    go None e = absurd (let z : ◌≡◌ {A = ℕ} 0 1 = cc e in omega arith)
    go (Some q) e = absurd (let z : ◌≡◌ {A = ℕ} 0 1 = cc e in omega arith)
release_only cipher r (to_release room) p v h = (room, refl)

-- two packets with one interval, number and payload, and tags that are right, are one
pub one_right : (cipher : Make) (r : Receiver) (p q : Data) → p.interval ≡ q.interval → p.number ≡ q.number → p.payload ≡ q.payload → tag_right cipher r p ≡ true → tag_right cipher r q ≡ true → p ≡ q
one_right cipher r p q e f g right_p right_q =
    let key : ℕ → Key = λ m. (world cipher r.clock).down r.state.newest (r.state.reached - m) in
    let of_p : p.tag ≡ data_tag cipher (key p.interval) p = (bytes_eq-Decides _ _).0 right_p in
    let of_q : q.tag ≡ data_tag cipher (key q.interval) q = (bytes_eq-Decides _ _).0 right_q in
    let tags : p.tag ≡ q.tag = of_p ∙ tag_of_fields cipher (key p.interval) p q e f g ∙ ap (λ m. data_tag cipher (key m) q) e ∙ sym of_q in
    λ i. record { interval = e i; number = f i; payload = g i; tag = tags i }

-- only the packet that goes out fits what the release answers
pub fits_only : (cipher : Make) (r : Receiver) (room m x : ℕ) (payload : List ℕ) (o : Out cipher r room m x payload) (q : Data) → Decides (fits cipher r m x payload q) (o.packet ≡ q)
fits_only cipher r room m x payload o q = (one, back)
  where
    one : fits cipher r m x payload q ≡ true → o.packet ≡ q
    one h =
        let a = and_parts _ _ h in
        let b = and_parts _ _ a.0 in
        let c = and_parts _ _ b.0 in
        one_right cipher r o.packet q (o.interval ∙ sym (eqb-true _ _ c.0)) (o.number ∙ sym (eqb-true _ _ c.1)) (o.payload_is ∙ sym ((bytes_eq-Decides _ _).0 b.1)) (sym o.releasable.judged) a.1

    self : fits cipher r m x payload o.packet ≡ true
    self = and_from _ _ (and_from _ _ (and_from _ _ (eq-eqb _ _ o.interval) (eq-eqb _ _ o.number)) ((bytes_eq-Decides _ _).1 o.payload_is)) (sym o.releasable.judged)

    back : o.packet ≡ q → fits cipher r m x payload q ≡ true
    back e = subst (λ y. fits cipher r m x payload y ≡ true) e self

-- a packet that goes out as true is the one released
pub goes_out_means : (cipher : Make) (r : Receiver) (room : ℕ) (p : Data) → GoesOut cipher r room p → (deed cipher r (to_release room) ≡ releases p true) × Releasable (world cipher r.clock) r.state p true
goes_out_means cipher r room p h =
    let o = out_means cipher r room p.interval p.number p.payload h.answers in
    let same : o.packet ≡ p = one_right cipher r o.packet p o.interval o.number o.payload_is (sym o.releasable.judged) h.right in
    subst (λ (q : Data). (deed cipher r (to_release room) ≡ releases q true) × Releasable (world cipher r.clock) r.state q true) same (o.does, o.releasable)
