-- A key packet with a due key of the sender passes every question.
use Rattle.std.proofs.Common.{◌≡◌, ℕ, ◌-◌, ◌^◌, ◌<◌, ◌≤◌, Bool, true, false, cond, ◌&&◌, leb, List, ◌++◌, length, None, Ok, Err, sym, ap, ◌∙◌, subst, arith}
use Rattle.std.specs.List.{AllByRecursion}
use Rattle.std.proofs.lemmas.Bool.{and_from, lt-ltb, le-leb, not_from_false}
use Rattle.refusal.specs.declared.Refusal.{Refusal}
use Rattle.refusal.specs.declared.Refusal.TheVariants.{NotThisKind, WrongLength}
use Rattle.cipher.specs.Blocks.{Make}
use Rattle.cipher.specs.Keys.{key_of}
use Rattle.packet.specs.Kinds.{Disclosure}
use Rattle.packet.specs.Reading.{is_kind, disclosure_of}
use Rattle.link.specs.Questions.{Question, first_no, unless}
use Rattle.link.specs.Clock.{early_at}
use Rattle.link.specs.Reception.{refuses, adopts, key_questions}
use Rattle.link.specs.Receiver.{Receiver, to_key, steps, world, reading, questions, deed, told, answer}
use Rattle.link.specs.Sender.{Sender}
use Rattle.link.specs.Histories.{KeyPacket}
use Rattle.link.proofs.Asking.{Yes, no_no}
use Rattle.link.proofs.Receivers.{key_decides}
use Rattle.link.proofs.Senders.{chain_down}

-- what was read is what the bytes hold
read_ok : {A : Type 0} (b c : Bool) (a d : A) (e f : Refusal) → cond b (cond c (Ok a) (Err e)) (Err f) ≡ Ok d → a ≡ d
read_ok true true a d e f h = cc
read_ok true false a d e f h = absurd (let z : ◌≡◌ {A = ℕ} 0 1 = cc in omega arith)
read_ok false c a d e f h = absurd (let z : ◌≡◌ {A = ℕ} 0 1 = cc in omega arith)

-- the key and the interval that the bytes of a key packet hold
module _ {cipher : Make} (x : Sender cipher) (j : ℕ) (bytes : List ℕ) (key : KeyPacket x j bytes) where
  pub packet_said : disclosure_of bytes ≡ key.said
  packet_said = read_ok (is_kind 4 bytes) (leb 19 (length bytes) && leb (length bytes) 19) (disclosure_of bytes) key.said WrongLength NotThisKind key.reads

  pub key_packet_interval : (disclosure_of bytes).interval ≡ j
  key_packet_interval = ap (λ (d : Disclosure). d.interval) packet_said ∙ key.interval

  pub key_packet_key : key_of (disclosure_of bytes).key ≡ x.chain j
  key_packet_key = ap (λ (d : Disclosure). key_of d.key) packet_said ∙ key.key

pub key_granted : {cipher : Make} (x : Sender cipher) (r : Receiver) (t j : ℕ) (bytes : List ℕ)
    → KeyPacket x j bytes
    → r.state.newest ≡ x.chain r.state.reached
    → r.state.reached < j
    → r.state.latest ≤ t
    → t < 2 ^ 52
    → early_at r.clock t j ≡ false
    → answer cipher r (to_key t bytes) ≡ steps (j - r.state.reached)
unfolding answer deed
key_granted {cipher} x r t j bytes key newest newer later small due =
    ap (λ o. told r.state (unless o refuses (adopts t (key_of (disclosure_of bytes).key) (disclosure_of bytes).interval))) none_no ∙ ap (λ i. steps (i - r.state.reached)) interval
  where
    interval : (disclosure_of bytes).interval ≡ j
    interval = key_packet_interval x j bytes key

    the_key : key_of (disclosure_of bytes).key ≡ x.chain j
    the_key = key_packet_key x j bytes key

    all : AllByRecursion Yes (key_questions (world cipher r.clock) r.state t (x.chain j) j)
    all = (and_from _ _ (lt-ltb _ _ small) (le-leb _ _ later), (and_from _ _ (le-leb _ _ key.from_one) (le-leb _ _ (omega (arith, key.to_last, x.most))), (lt-ltb _ _ newer, (not_from_false _ due, ((key_decides _ _).1 (chain_down x r.state.reached j (omega arith) key.to_last ∙ sym newest), tt)))))

    asked : List Question
    asked = key_questions (world cipher r.clock) r.state t (key_of (disclosure_of bytes).key) (disclosure_of bytes).interval

    here : AllByRecursion Yes asked
    here = subst (λ k. AllByRecursion Yes (key_questions (world cipher r.clock) r.state t k (disclosure_of bytes).interval)) (sym the_key) (subst (λ i. AllByRecursion Yes (key_questions (world cipher r.clock) r.state t (x.chain j) i)) (sym interval) all)

    none_no : first_no (questions cipher r (to_key t bytes)) ≡ None
    none_no = ap (λ l. first_no (reading l ++ asked)) key.reads ∙ no_no asked here
