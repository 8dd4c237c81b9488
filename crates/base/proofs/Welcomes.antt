-- What an answer to a request comes to.
use Rattle.std.proofs.Common.{◌≡◌, ℕ, ◌+◌, ◌*◌, Bool, true, false, cond, ◌&&◌, eqb, leb, List, ◌++◌, length, Some, None, Ok, Err, Result, sym, ap, ◌∙◌, subst, arith}
use Rattle.refusal.specs.declared.Refusal.{Refusal}
use Rattle.refusal.specs.declared.Refusal.TheVariants.{NotThisKind, WrongLength}
use Rattle.cipher.specs.declared.block.Block as block
use Rattle.cipher.specs.Blocks.{Make}
use Rattle.cipher.specs.declared.key.Key.{Key}
use Rattle.packet.specs.Kinds.{Request, an_answer}
use Rattle.packet.specs.Layouts.{answer_bytes}
use Rattle.packet.specs.Reading.{is_kind, read_request, request_of}
use Rattle.packet.specs.Writing.{filled}
use Rattle.source.specs.declared.key_source.KeySource.{Ghosts}
use Rattle.link.specs.Base.{Base, base_questions, base_then, reply, to_answer, welcome}
use Rattle.link.specs.Questions.{Question, first_no}
use Rattle.link.specs.Receiver.{reading}
use Rattle.link.proofs.Asking.{all_yes}
use Rattle.base.specs.Asked.{answer_questions, answer_under, answer_untagged, asked, numbers}
use Rattle.base.specs.Keys.{Serves}
use Rattle.base.specs.Meaning.{Called, Means, held, lent}
use Rattle.base.specs.declared.state.Base as Held
use Rattle.base.proofs.Asks.{granted_by, ordered, refused_by}

-- a request that is read is the one that stands there
of_cond : {A : Type 0} (k l : Bool) (a q : A) (e f : Refusal) → ◌≡◌ {A = Result A Refusal} (Ok q) (cond k (cond l (Ok a) (Err e)) (Err f)) → q ≡ a
of_cond true true a q e f h = cc
of_cond true false a q e f h = absurd (let z : ◌≡◌ {A = ℕ} 0 1 = cc in omega arith)
of_cond false l a q e f h = absurd (let z : ◌≡◌ {A = ℕ} 0 1 = cc in omega arith)

pub request_read : (bytes : List ℕ) (q : Request) → Ok q ≡ read_request bytes → q ≡ request_of bytes
request_read bytes q h = of_cond (is_kind 1 bytes) (leb 9 (length bytes) && leb (length bytes) 9) (request_of bytes) q WrongLength NotThisKind h

module _ (x : Base) (s : ℕ) (pair : Key) (bytes : List ℕ) (room : ℕ) where
  abbrev behind : List Question
  behind = answer_questions (numbers x) s room

  -- a packet that is no request is refused as reading refuses it
  pub unread : (e : Refusal) → Err e ≡ read_request bytes → first_no (base_questions x (to_answer s pair bytes room)) ≡ Some e
  unread e h = ap (λ r. first_no (reading r ++ behind)) (sym h)

  pub behind_read : (q : Request) → Ok q ≡ read_request bytes → first_no (base_questions x (to_answer s pair bytes room)) ≡ first_no behind
  behind_read q h = ap (λ r. first_no (reading r ++ behind)) (sym h)

  pub answer_replies : (cipher : Make) → first_no (base_questions x (to_answer s pair bytes room)) ≡ None → reply cipher x (to_answer s pair bytes room) ≡ Ok (an_answer (welcome cipher x s pair (request_of bytes).nonce))
  unfolding reply
  answer_replies cipher none = rw none

  pub answer_leaves : first_no (base_questions x (to_answer s pair bytes room)) ≡ None → base_then x (to_answer s pair bytes room) ≡ record { setup = x.setup; latest = s; busy = x.busy; made = x.made; last = x.last }
  unfolding base_then
  answer_leaves none = rw none

module _ {B M D : Type 0} {c : block.Ghosts B} (cipher : Make) (m : Ghosts M) (d : Ghosts D) (b : Held.Base B M D c m d) (x : Base) (means : Means m d b x) where
  abbrev drawn : ℕ
  drawn = (d.meaning b.disclosing.source).drawn

  pub unanswered : (s : ℕ) (pair : Key) (bytes : List ℕ) (room : ℕ) (q : Request) (e : Refusal) → Ok q ≡ read_request bytes → Err e ≡ asked (answer_questions (held m d b) s room) (tt {0}) →
      first_no (base_questions x (to_answer s pair bytes room)) ≡ Some e
  unanswered s pair bytes room q e read asks =
      behind_read x s pair bytes room q read ∙ refused_by (answer_questions (numbers x) s room) (tt {0}) e (asks ∙ ap (λ k. asked (answer_questions k s room) (tt {0})) means.same)

  pub answered_call : (s : ℕ) (pair : Key) (bytes out out' : List ℕ) (q : Request) (r : Result ℕ Refusal) (b' : Held.Base B M D c m d) →
      Ok q ≡ read_request bytes → Ok (tt {0}) ≡ asked (answer_questions (held m d b) s (length out)) (tt {0}) →
      b'.making ≡ b.making → b'.disclosing ≡ b.disclosing → b'.schedule ≡ b.schedule → b'.latest ≡ s → b'.made ≡ b.made →
      r ≡ Ok 48 →
      out' ≡ filled (answer_bytes (answer_under cipher pair q.nonce (answer_untagged s b.disclosing.last drawn (b.schedule.start + drawn * b.schedule.duration) b.schedule.duration b.schedule.delay))) out →
      Called cipher m d x (to_answer s pair bytes (length out)) r out out' b'
  answered_call s pair bytes out out' q r b' read asks first second schedule latest made answer written' =
      let g = granted_by (answer_questions (numbers x) s (length out)) (tt {0}) (tt {0}) (asks ∙ ap (λ k. asked (answer_questions k s (length out)) (tt {0})) means.same) in
      let later = (ordered x.latest s (all_yes (answer_questions (numbers x) s (length out)) g.0).0).1 in
      let none = behind_read x s pair bytes (length out) q read ∙ g.0 in
      let replies = answer_replies x s pair bytes (length out) cipher none in
      let nonce : q.nonce ≡ (request_of bytes).nonce = ap (λ a. a.nonce) (request_read bytes q read) in
      let last : drawn ≡ x.last = ap (λ k. k.last) means.same in
      let key = means.disclosing.last ∙ ap (λ k. cond (eqb k 0) x.setup.commitment (x.setup.disclosing k)) last in
      let began : b.schedule.start ≡ x.setup.start = ap (λ k. k.start) means.same in
      let lasts : b.schedule.duration ≡ x.setup.duration = ap (λ k. k.duration) means.same in
      let delays : b.schedule.delay ≡ x.setup.delay = ap (λ k. k.delay) means.same in
      let P : Base → Type 0 = λ y. Means m d b' y in
      let left : Means m d b' (record { setup = x.setup; latest = s; busy = x.busy; made = x.made; last = x.last }) = record {
        same = λ k. record {
          count = (ap (λ z. (m.meaning z.source).count) first ∙ ap (λ z. z.count) means.same) k;
          start = (ap (λ z. z.start) schedule ∙ began) k;
          duration = (ap (λ z. z.duration) schedule ∙ lasts) k;
          delay = (ap (λ z. z.delay) schedule ∙ delays) k;
          latest = latest k;
          busy = (ap (λ z. (m.meaning z.source).drawn) first ∙ ap (λ z. z.busy) means.same) k;
          made = (made ∙ ap (λ z. z.made) means.same) k;
          last = (ap (λ z. (d.meaning z.source).drawn) second ∙ last) k;
        };
        making = subst (λ z. Serves m.meaning z x.setup.commitment x.setup.count x.setup.making) (sym first) means.making;
        disclosing = subst (λ z. Serves d.meaning z x.setup.commitment x.setup.count x.setup.disclosing) (sym second) means.disclosing;
        reached = omega (arith, means.reached, later);
      } in
      record {
        answer = answer ∙ sym (ap (λ a. (lent a out).0) replies);
        buffer = written' ∙ (λ k. filled (answer_bytes (answer_under cipher pair (nonce k) (answer_untagged s (key k) (last k) (began k + last k * lasts k) (lasts k) (delays k)))) out) ∙ sym (ap (λ a. (lent a out).1) replies);
        after = subst P (sym (answer_leaves x s pair bytes (length out) none)) left;
      }
