-- The join in a capture: a request in time is granted, only requests and answers lead on, and what reads as neither leaves the node as it is.
use Rattle.std.proofs.Common.{◌≡◌, ℕ, ◌^◌, ◌<◌, Bool, true, false, cond, eqb, ltb, List, ◌++◌, length, get_or, is_ok, Ok, Err, Result, sym, refl, ap, ◌∙◌, true≢false, arith}
use Rattle.std.proofs.lemmas.Bool.{lt-ltb, le-leb, eqb-true, and_parts, and_right}
use Rattle.refusal.specs.declared.Refusal.{Refusal}
use Rattle.refusal.specs.declared.Refusal.TheVariants.{NotThisKind}
use Rattle.cipher.specs.Blocks.{Make}
use Rattle.cipher.specs.declared.key.Key.{Key}
use Rattle.packet.specs.Kinds.{Packet, a_request, an_answer, a_data, a_key}
use Rattle.packet.specs.Kinds as kinds
use Rattle.packet.specs.Reading.{told, is_kind, request_long, answer_long, data_long, disclosure_long, read_request, read_answer, read_packet, answer_of}
use Rattle.link.specs.Questions.{first_no, unless}
use Rattle.link.specs.Receiver.{reading, refused}
use Rattle.link.specs.Join.{Node, request, finish, join_questions, joined}
use Rattle.playback.specs.Parts.{Part, silent, asking, receiving, asks, joins, offers}
use Rattle.playback.specs.Stages.{asked_by, called, Heard, heard_part, joined_by}
use Rattle.playback.specs.Steps.{Hearing, answered, packet_hearing, read_hearing}

-- where two results tell the same, both are granted or neither
pub granted_too : {P Q S : Type 0} (f : P → S) (g : Q → S) (x : Result P Refusal) (y : Result Q Refusal) → told f x ≡ told g y → is_ok y ≡ true → is_ok x ≡ true
granted_too f g (Ok p) y e h = refl
granted_too f g (Err r) (Ok q) e h = ap is_ok e
granted_too f g (Err r) (Err s) e h = h

pub request_granted : (pair : Key) (nonce : List ℕ) (t : ℕ) → t < 2 ^ 52 → is_ok (request (record { pair = pair; nonce = nonce; requested = t; drift = 10000 }) 9) ≡ true
unfolding request
request_granted pair nonce t h = rw (lt-ltb t (2 ^ 52) h, le-leb 0 t (omega arith)) refl

-- what reading a packet comes to, kind by kind
module _ {X : Type 0} (f : Result Packet Refusal → X) (x : X) where
  of_told : {P : Type 0} (g : P → Packet) → ((p : P) → f (Ok (g p)) ≡ x) → ((r : Refusal) → f (Err r) ≡ x) → (p : Result P Refusal) → f (told g p) ≡ x
  of_told g ok err (Ok p) = ok p
  of_told g ok err (Err r) = err r

  read_as : (bytes : List ℕ) →
      (is_kind 1 bytes ≡ true → (p : kinds.Request) → f (Ok (a_request p)) ≡ x) →
      (is_kind 2 bytes ≡ true → (p : kinds.Answer) → f (Ok (an_answer p)) ≡ x) →
      ((p : kinds.Data) → f (Ok (a_data p)) ≡ x) →
      ((p : kinds.Disclosure) → f (Ok (a_key p)) ≡ x) →
      ((r : Refusal) → f (Err r) ≡ x) → f (read_packet bytes) ≡ x
  read_as bytes ask answer order key err = go (is_kind 1 bytes) (is_kind 2 bytes) (is_kind 3 bytes) (is_kind 4 bytes) refl refl
    where
      go : (q a d k : Bool) → is_kind 1 bytes ≡ q → is_kind 2 bytes ≡ a → f (cond q (told a_request (request_long bytes)) (cond a (told an_answer (answer_long bytes)) (cond d (told a_data (data_long bytes)) (cond k (told a_key (disclosure_long bytes)) (Err NotThisKind))))) ≡ x
      go true a d k e h = of_told a_request (ask e) err _
      go false true d k e h = of_told an_answer (answer h) err _
      go false false true k e h = of_told a_data order err _
      go false false false true e h = of_told a_key key err _
      go false false false false e h = err NotThisKind

pub asks_packet : (pair : Key) (t : ℕ) (bytes : List ℕ) → asked_by pair t (read_packet bytes) ≡ asks pair t (read_request bytes)
asks_packet pair t bytes = go (is_kind 1 bytes) refl
  where
    told_same : (p : Result kinds.Request Refusal) → asked_by pair t (told a_request p) ≡ asks pair t p
    told_same (Ok p) = refl
    told_same (Err r) = refl

    go : (b : Bool) → is_kind 1 bytes ≡ b → asked_by pair t (read_packet bytes) ≡ asks pair t (cond b (request_long bytes) (Err NotThisKind))
    go true e = rw e (told_same (request_long bytes))
    go false e = read_as (asked_by pair t) silent bytes (λ k. absurd (true≢false (sym k ∙ e))) (λ k p. refl) (λ p. refl) (λ p. refl) (λ r. refl)

-- a finish reads the answer first
finish_unread : (cipher : Make) (node : Node) (t : ℕ) (bytes : List ℕ) (r : Refusal) → read_answer bytes ≡ Err r → joins node (finish cipher node t bytes) ≡ asking node
unfolding finish
finish_unread cipher node t bytes r h = ap (λ x. joins node (unless (first_no (reading x ++ join_questions cipher node t (answer_of bytes))) Err (Ok (joined node t (answer_of bytes))))) h

-- the first byte is one kind only
no_request : (bytes : List ℕ) → is_kind 2 bytes ≡ true → is_kind 1 bytes ≡ false
no_request bytes h =
    let two : get_or bytes 0 0 ≡ 2 = eqb-true _ _ (and_parts (ltb 0 (length bytes)) (eqb (get_or bytes 0 0) 2) h).1 in
    and_right (ltb 0 (length bytes)) (eqb (get_or bytes 0 0) 1) (ap (λ b. eqb b 1) two)

pub joins_packet : (cipher : Make) (node : Node) (t : ℕ) (bytes : List ℕ) → joined_by cipher node t bytes (read_packet bytes) ≡ joins node (finish cipher node t bytes)
joins_packet cipher node t bytes = go (is_kind 2 bytes) refl
  where
    to : Part
    to = joins node (finish cipher node t bytes)

    -- a finish of what does not read as an answer
    stays : (r : Refusal) → read_answer bytes ≡ Err r → asking node ≡ to
    stays r h = sym (finish_unread cipher node t bytes r h)

    answered : (p : Result kinds.Answer Refusal) → read_answer bytes ≡ p → joined_by cipher node t bytes (told an_answer p) ≡ to
    answered (Ok a) h = refl
    answered (Err r) h = stays r h

    go : (b : Bool) → is_kind 2 bytes ≡ b → joined_by cipher node t bytes (read_packet bytes) ≡ to
    go true e = rw (no_request bytes e, e) (answered (answer_long bytes) (rw e refl))
    go false e =
        let unread : asking node ≡ to = stays NotThisKind (rw e refl) in
        read_as (joined_by cipher node t bytes) to bytes (λ k p. unread) (λ k. absurd (true≢false (sym k ∙ e))) (λ p. unread) (λ p. unread) (λ r. unread)

-- what reads as no packet leaves the node as it is
unread_part : (cipher : Make) (pair : Key) (t : ℕ) (bytes : List ℕ) (part : Part) (r : Refusal) → Err r ≡ read_packet bytes → part ≡ heard_part cipher pair part t bytes
unread_part cipher pair t bytes silent r e = ap (asked_by pair t) e ∙ asks_packet pair t bytes
unread_part cipher pair t bytes (asking node) r e = ap (joined_by cipher node t bytes) e ∙ joins_packet cipher node t bytes
unread_part cipher pair t bytes (receiving receiver) r e = ap (λ p. receiving (called cipher receiver (offers t bytes p))) e

pub heard_unread : (cipher : Make) (pair : Key) (t : ℕ) (bytes : List ℕ) (part : Part) (r : Refusal) → Err r ≡ read_packet bytes → Heard cipher pair part t bytes part (answered (refused r))
heard_unread cipher pair t bytes part r e = record { part = unread_part cipher pair t bytes part r e; outcome = ap (read_hearing cipher part t bytes) e }

-- the node after bytes, by what they read as
module _ (cipher : Make) (pair : Key) (t : ℕ) (bytes : List ℕ) (part before : Part) (outcome : Hearing) where
  pub heard_silent : before ≡ silent → part ≡ asked_by pair t (read_packet bytes) → outcome ≡ read_hearing cipher silent t bytes (read_packet bytes) → Heard cipher pair before t bytes part outcome
  heard_silent is says hears = record {
    part = says ∙ asks_packet pair t bytes ∙ ap (λ b. heard_part cipher pair b t bytes) (sym is);
    outcome = hears ∙ ap (λ b. read_hearing cipher b t bytes (read_packet bytes)) (sym is);
  }

  pub heard_asking : (node : Node) → before ≡ asking node → part ≡ joined_by cipher node t bytes (read_packet bytes) → outcome ≡ read_hearing cipher (asking node) t bytes (read_packet bytes) → Heard cipher pair before t bytes part outcome
  heard_asking node is says hears = record {
    part = says ∙ joins_packet cipher node t bytes ∙ ap (λ b. heard_part cipher pair b t bytes) (sym is);
    outcome = hears ∙ ap (λ b. read_hearing cipher b t bytes (read_packet bytes)) (sym is);
  }
