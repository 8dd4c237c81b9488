-- A finish: what its questions come to, and what holds of the receiver that it gives.
use Rattle.std.proofs.Common.{◌≡◌, ℕ, ◌^◌, ◌<◌, true, ltb, leb, List, [], ◌++◌, Some, None, Ok, Err, Option, Result, sym, refl, ap, ◌∙◌, arith}
use Rattle.std.proofs.lemmas.Bool.{and_parts, leb-true, ltb-true}
use Rattle.refusal.specs.declared.Refusal.{Refusal}
use Rattle.cipher.specs.Blocks.{Make}
use Rattle.cipher.specs.Keys.{key_of}
use Rattle.cipher.specs.declared.key.Key.{Key}
use Rattle.packet.specs.Kinds.{Answer, Data}
use Rattle.packet.specs.Reading.{read_answer, answer_of}
use Rattle.link.specs.Questions.{first_no, unless}
use Rattle.link.specs.Clock.{Clock}
use Rattle.link.specs.Reception.{Sound}
use Rattle.link.specs.Receiver.{Receiver, world, reading}
use Rattle.link.specs.Join.{join_questions, Node, schedule_fits, finish_questions, joined, finish}
use Rattle.link.proofs.Asking.{Yes, all_yes, all_behind}
use Rattle.link.proofs.Joins.{finish_sound}
use Rattle.link.proofs.Theorem.{link_stands}
use Rattle.node.specs.Nodes.{EndsWell}
use Rattle.node.proofs.Deeds.{read_ok}

-- an answer, or the refusal of the first no
abbrev pub welcomed : Option Refusal → Answer → Result Answer Refusal
welcomed o a = unless o Err (Ok a)

pub welcomed_ok : (o : Option Refusal) (a said : Answer) → Ok said ≡ welcomed o a → (o ≡ None) × (said ≡ a)
welcomed_ok None a said h = (refl, cc)
welcomed_ok (Some e) a said h = absurd (let z : ◌≡◌ {A = ℕ} 0 1 = cc in omega arith)

pub welcomed_err : (o : Option Refusal) (a : Answer) (e : Refusal) → Err e ≡ welcomed o a → o ≡ Some e
welcomed_err None a e h = absurd (let z : ◌≡◌ {A = ℕ} 0 1 = cc in omega arith)
welcomed_err (Some f) a e h = cc

module _ (cipher : Make) (node : Node) (t : ℕ) (bytes : List ℕ) where
  pub answer_is : (a : Answer) → Ok a ≡ read_answer bytes → answer_of bytes ≡ a
  answer_is a h = (read_ok 2 48 48 answer_of bytes a (sym h)).is

  -- the questions behind the reading decide
  pub join_asked : (a : Answer) (o : Option Refusal) → Ok a ≡ read_answer bytes → first_no (join_questions cipher node t a) ≡ o → first_no (finish_questions cipher node t bytes) ≡ o
  join_asked a o read asks =
      ap (λ y. first_no (reading y ++ join_questions cipher node t (answer_of bytes))) (sym read) ∙ ap (λ b. first_no (join_questions cipher node t b)) (answer_is a read) ∙ asks

  pub refused_finish : (e : Refusal) → first_no (finish_questions cipher node t bytes) ≡ Some e → Err e ≡ finish cipher node t bytes
  unfolding finish
  refused_finish e no_it = ap (λ o. unless o Err (Ok (joined node t (answer_of bytes)))) (sym no_it)

  module _ (a : Answer) (none : first_no (finish_questions cipher node t bytes) ≡ None) (is : a ≡ answer_of bytes) where
    pub requested_below : node.requested < 2 ^ 52
    requested_below =
        let h = all_behind Yes (reading (read_answer bytes)) (join_questions cipher node t (answer_of bytes)) (all_yes (finish_questions cipher node t bytes) none) in
        let parts = and_parts (ltb t (2 ^ 52)) (leb node.requested t) h.0 in
        omega (arith, ltb-true t (2 ^ 52) parts.0, leb-true node.requested t parts.1)

    pub schedule_told : schedule_fits a ≡ true
    schedule_told =
        let h = all_behind Yes (reading (read_answer bytes)) (join_questions cipher node t (answer_of bytes)) (all_yes (finish_questions cipher node t bytes) none) in
        ap schedule_fits is ∙ h.1.1.0

    -- the receiver made of the parts is the one that the join gives
    pub finish_gives : (clock : Clock) (key : Key) (held : List Data) → clock ≡ (joined node 0 a).clock → key ≡ key_of a.key → held ≡ []
        → Ok (record { clock = clock; state = record { latest = t; newest = key; reached = a.interval; held = held } }) ≡ finish cipher node t bytes
    unfolding finish
    finish_gives clock key held by newest empty =
        let parts : record { clock = clock; state = record { latest = t; newest = key; reached = a.interval; held = held } } ≡ joined node t a = λ i. record { clock = by i; state = record { latest = t; newest = newest i; reached = a.interval; held = empty i } } in
        ap Ok (parts ∙ ap (joined node t) is) ∙ ap (λ o. unless o Err (Ok (joined node t (answer_of bytes)))) (sym none)

  -- every history of it ends well
  pub ends_well : (r : Receiver) → Ok r ≡ finish cipher node t bytes → EndsWell cipher bytes r
  ends_well r gives x said answered wrote =
      link_stands cipher x r (record { node = node; reading = t; said = said; answered = answered; finished = ap (finish cipher node t) (sym wrote) ∙ sym gives })

  pub joined_sound : (r : Receiver) → Ok r ≡ finish cipher node t bytes → Sound (world cipher r.clock) r.state
  joined_sound r gives = (finish_sound cipher node t bytes r (sym gives)).0
