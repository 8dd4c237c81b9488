-- A release: which packet goes out, and what is left.
use Rattle.std.proofs.Common.{◌≡◌, ℕ, suc, ◌<◌, ◌≤◌, Bool, true, not, List, [], ◌∷◌, ◌++◌, length, get_or, take, drop, filter, sym, refl, ap, ◌∙◌, subst, add-one, arith}
use Rattle.std.specs.List.{remove}
use Rattle.std.proofs.lemmas.List.Elements.{filter-append}
use Rattle.std.proofs.lemmas.List.{length-append, take-append-drop, drop_more, nil_from_length}
use Rattle.std.proofs.lemmas.Bool.{le-leb, lt-leb}
use Rattle.refusal.specs.declared.Refusal.TheVariants.{BufferTooShort}
use Rattle.cipher.specs.Blocks.{Make}
use Rattle.cipher.specs.declared.key.Key.{Key}
use Rattle.packet.specs.Kinds.{Data}
use Rattle.packet.specs.Writing.{filled}
use Rattle.packet.proofs.BufferLaws.{filled_none}
use Rattle.link.specs.Reception.{Deed, refuses, releases, rests, known, right_now, first_out, others}
use Rattle.link.specs.Receiver.{Receiver, Call, Answer, to_release, world, deed, told, same_packet, answer, then}
use Rattle.link.proofs.Keeping.{kept_none}
use Rattle.link.proofs.Receivers.{packet_decides}
use Rattle.node.specs.Answers.{written}
use Rattle.node.specs.Places.{FirstAt}
use Rattle.node.proofs.Deeds.{answer_of, then_of}

-- where no two are equal, all but one packet are all but its place
module _ (p : Data) where
  self_same : same_packet p p ≡ true
  self_same = (packet_decides p p).1 refl

  parted : (front behind : List Data) → length (filter (same_packet p) (front ++ p ∷ behind)) ≤ 1 → filter (λ q. not (same_packet p q)) (front ++ p ∷ behind) ≡ front ++ behind
  parted front behind once =
      let found : filter (same_packet p) (front ++ p ∷ behind) ≡ filter (same_packet p) front ++ p ∷ filter (same_packet p) behind = filter-append (same_packet p) front (p ∷ behind) ∙ rw self_same refl in
      let total = ap length found ∙ length-append (filter (same_packet p) front) (p ∷ filter (same_packet p) behind) in
      let none_before : filter (same_packet p) front ≡ [] = nil_from_length _ (omega (arith, total, once)) in
      let none_behind : filter (same_packet p) behind ≡ [] = nil_from_length _ (omega (arith, total, once)) in
      filter-append (λ q. not (same_packet p q)) front (p ∷ behind) ∙ rw self_same (λ i. kept_none (same_packet p) front none_before i ++ kept_none (same_packet p) behind none_behind i)

pub others_removed : (p : Data) (ps : List Data) (place : ℕ) → place < length ps → get_or ps place p ≡ p → length (filter (same_packet p) ps) ≤ 1 → filter (λ q. not (same_packet p q)) ps ≡ remove ps place
others_removed p ps place within at once =
    let split : ps ≡ take place ps ++ p ∷ drop (suc place) ps = sym (take-append-drop place ps) ∙ ap (λ ys. take place ps ++ ys) (drop_more ps place p within ∙ (λ i. at i ∷ drop (add-one place i) ps)) in
    ap (filter (λ q. not (same_packet p q))) split ∙ parted p (take place ps) (drop (suc place) ps) (subst (λ ys. length (filter (same_packet p) ys) ≤ 1) split once)

module _ (cipher : Make) (r : Receiver) (room : ℕ) where
  pub release_short : room < 64 → deed cipher r (to_release room) ≡ refuses BufferTooShort
  unfolding deed
  release_short h = rw (lt-leb 64 room h) refl

  pub release_long : 64 ≤ room → deed cipher r (to_release room) ≡ first_out (world cipher r.clock) r.state (known (world cipher r.clock) r.state)
  unfolding deed
  release_long h = rw (le-leb 64 room h) refl

  pub release_none : 64 ≤ room → known (world cipher r.clock) r.state ≡ [] → deed cipher r (to_release room) ≡ rests
  release_none h none = release_long h ∙ ap (first_out (world cipher r.clock) r.state) none

  pub release_first : (p : Data) (rest : List Data) (v : Bool) → 64 ≤ room → known (world cipher r.clock) r.state ≡ p ∷ rest → v ≡ right_now (world cipher r.clock) r.state p → deed cipher r (to_release room) ≡ releases p v
  release_first p rest v h first right =
      release_long h ∙ ap (first_out (world cipher r.clock) r.state) first ∙ ap (releases p) (sym right)

module _ (cipher : Make) (r : Receiver) (call : Call) where
  -- what is said of an answer holds of the definition's answer
  pub record Told (says : Answer) (n : ℕ) (before after : List ℕ) : Type 0 where
    pub answers : says ≡ answer cipher r call
    pub long : n ≡ length (written (answer cipher r call))
    pub buffer : after ≡ filled (written (answer cipher r call)) before

  pub told_as : (a says : Answer) (n : ℕ) (before after : List ℕ) → answer cipher r call ≡ a → says ≡ a → n ≡ length (written a) → after ≡ filled (written a) before → Told says n before after
  told_as a says n before after is same long buffer = record {
    answers = same ∙ sym is;
    long = long ∙ ap (λ x. length (written x)) (sym is);
    buffer = buffer ∙ ap (λ x. filled (written x) before) (sym is);
  }

  -- nothing is written
  pub told_quiet : (d : Deed Data Key) (before : List ℕ) → deed cipher r call ≡ d → written (told r.state d) ≡ [] → Told (told r.state d) 0 before before
  told_quiet d before does quiet =
      told_as (told r.state d) _ 0 before before (answer_of cipher r call d does) refl (sym (ap length quiet)) (filled_none before ∙ ap (λ x. filled x before) (sym quiet))

-- the receiver after a packet went out
pub release_then : (cipher : Make) (r : Receiver) (room place : ℕ) (p : Data) (v : Bool) (held : List Data) → FirstAt r.state.reached r.state.held place → ((d : Data) → get_or r.state.held place d ≡ p) → 64 ≤ room → v ≡ right_now (world cipher r.clock) r.state p
    → ((q : Data) → length (filter (same_packet q) r.state.held) ≤ 1) → held ≡ remove r.state.held place
    → (deed cipher r (to_release room) ≡ releases p v) × (record { clock = r.clock; state = record { latest = r.state.latest; newest = r.state.newest; reached = r.state.reached; held = held } } ≡ then cipher r (to_release room))
release_then cipher r room place p v held first at roomy right apart is =
    let does = release_first cipher r room p first.rest v roomy (first.first p ∙ ap (λ y. y ∷ first.rest) (at p)) right in
    let left : held ≡ others (world cipher r.clock) p r.state.held = is ∙ sym (others_removed p r.state.held place first.within (at p) (apart p)) in
    (does, ap (λ ps. record { clock = r.clock; state = record { latest = r.state.latest; newest = r.state.newest; reached = r.state.reached; held = ps } }) left ∙ sym (then_of cipher r (to_release room) _ does))
