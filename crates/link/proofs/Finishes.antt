-- A sender's answer to a node's own request finishes the join.
use Rattle.std.proofs.Common.{◌≡◌, ℕ, ◌^◌, ◌<◌, ◌≤◌, List, [], ◌∷◌, ◌++◌, length, None, Ok, Err, sym, refl, ap, ◌∙◌, subst, arith}
use Rattle.std.specs.List.{AllByRecursion}
use Rattle.std.specs.Str.{bytes_eq}
use Rattle.std.proofs.ByRecursion.{All-append}
use Rattle.std.proofs.lemmas.Slice.Eq.{bytes_eq-Decides}
use Rattle.std.proofs.lemmas.List.{take_all}
use Rattle.std.proofs.lemmas.Bool.{and_from, lt-ltb, le-leb, cond-true}
use Rattle.refusal.specs.declared.Refusal.TheVariants.{ReadingOutOfOrder, WrongAnswerTag, BadSchedule, CommitmentNotDue}
use Rattle.cipher.specs.Blocks.{Make, Bytes}
use Rattle.cipher.specs.Bytes.{to_be}
use Rattle.cipher.proofs.ByteLaws.{Byte}
use Rattle.chain.specs.Chain.{pair_tag_key}
use Rattle.packet.specs.Kinds.{Answer, an_answer}
use Rattle.packet.specs.Layouts.{request_bytes, answer_covered, answer_bytes}
use Rattle.packet.specs.Reading.{is_kind, read_answer, answer_of, request_of}
use Rattle.packet.proofs.LayoutLaws.{length_packet_bytes}
use Rattle.packet.proofs.ReadingLaws.{this_kind, of_length_yes}
use Rattle.link.specs.Questions.{Question, first_no, unless}
use Rattle.link.specs.Reception.{in_order}
use Rattle.link.specs.Receiver.{reading}
use Rattle.link.specs.Join.{Node, answer_tag, schedule_fits, key_was_due, finish_questions, joined, finish}
use Rattle.link.specs.Base.{Errand, to_answer, welcome, reply}
use Rattle.link.specs.Sender.{Sender, ran}
use Rattle.link.specs.Unharmed.{AnswersFinish}
use Rattle.link.proofs.Asking.{Yes, no_no}
use Rattle.link.proofs.Joins.{answer_reads}
use Rattle.link.proofs.Senders.{granted_reply}
use Rattle.chain.proofs.TagBytes.{be_bytes, key_16, tag_8}
use Rattle.link.proofs.Welcomes.{Told, answered_told, answers_pass, limits}

covered_bytes : (a : Answer) → AllByRecursion Byte a.key → a.delay < 256 → AllByRecursion Byte (answer_covered a)
unfolding answer_covered
covered_bytes a key small =
    let time = All-append Byte (2 ∷ []) (to_be 8 a.time) (omega arith, tt) (be_bytes 8 a.time).1 in
    let keyed = All-append Byte (2 ∷ [] ++ to_be 8 a.time) a.key time key in
    let interval = All-append Byte (2 ∷ [] ++ to_be 8 a.time ++ a.key) (to_be 2 a.interval) keyed (be_bytes 2 a.interval).1 in
    let start = All-append Byte (2 ∷ [] ++ to_be 8 a.time ++ a.key ++ to_be 2 a.interval) (to_be 8 a.start) interval (be_bytes 8 a.start).1 in
    let duration = All-append Byte (2 ∷ [] ++ to_be 8 a.time ++ a.key ++ to_be 2 a.interval ++ to_be 8 a.start) (to_be 4 a.duration) start (be_bytes 4 a.duration).1 in
    All-append Byte (2 ∷ [] ++ to_be 8 a.time ++ a.key ++ to_be 2 a.interval ++ to_be 8 a.start ++ to_be 4 a.duration) (a.delay ∷ []) duration (small, tt)

answer_read : (a : Answer) → length (answer_bytes a) ≡ 48 → read_answer (answer_bytes a) ≡ Ok (answer_of (answer_bytes a))
unfolding answer_bytes answer_covered
answer_read a long =
    cond-true (is_kind 2 (answer_bytes a)) _ _ (this_kind 2 (answer_bytes a) (omega arith) refl) ∙ of_length_yes 48 48 answer_of (answer_bytes a) (omega arith) (omega arith)

-- the nonce of a request comes back
nonce_back : (nonce : List ℕ) → length nonce ≡ 8 → (request_of (request_bytes (record { nonce = nonce }))).nonce ≡ nonce
unfolding request_bytes
nonce_back nonce long = take_all 8 nonce (omega arith)

module _ {cipher : Make} (x : Sender cipher) (run : List Errand) (node : Node) (s t room : ℕ) (a : Answer)
    (wrote : reply cipher (ran x run) (to_answer s node.pair (request_bytes (record { nonce = node.nonce })) room) ≡ Ok (an_answer a))
    (whole : Bytes 8 node.nonce) (later : node.requested ≤ t) (small : t < 2 ^ 52) where
  told : Told x a
  told = answered_told x a (record { run = run; errand = to_answer s node.pair (request_bytes (record { nonce = node.nonce })) room; wrote = wrote })

  tagged : a.tag ≡ answer_tag cipher node.pair node.nonce a
  unfolding answer_covered
  tagged =
      let request : List ℕ = request_bytes (record { nonce = node.nonce }) in
      let e = (granted_reply cipher (ran x run) (to_answer s node.pair request room) (an_answer a) wrote).1 in
      let same : welcome cipher (ran x run) s node.pair (request_of request).nonce ≡ a = cc in
      subst (λ (q : Answer). q.tag ≡ answer_tag cipher node.pair (request_of request).nonce q) same refl ∙ ap (λ nonce. answer_tag cipher node.pair nonce a) (nonce_back node.nonce whole.0)

  tag_long : length a.tag ≡ 8
  tag_long =
      let key : AllByRecursion Byte a.key = subst (AllByRecursion Byte) (sym told.in_time.of_chain) (key_16 (x.chain a.interval)).1 in
      let covered = covered_bytes a key (omega (arith, told.delay, (limits x).delays.1)) in
      ap length tagged ∙ (tag_8 cipher (pair_tag_key cipher node.pair) (node.nonce ++ answer_covered a) (All-append Byte node.nonce (answer_covered a) whole.1 covered)).0

  long : length (answer_bytes a) ≡ 48
  long = length_packet_bytes (an_answer a) (told.fits, tag_long)

  same_said : answer_of (answer_bytes a) ≡ a
  same_said = answer_reads a told.fits long

  -- the questions behind reading, of an answer
  abbrev asked : Answer → List Question
  asked b = (ReadingOutOfOrder, in_order node.requested t) ∷ (WrongAnswerTag, bytes_eq b.tag (answer_tag cipher node.pair node.nonce b)) ∷ (BadSchedule, schedule_fits b) ∷ (CommitmentNotDue, key_was_due b) ∷ []

  all : AllByRecursion Yes (asked a)
  all =
      let pass = answers_pass cipher x a (record { run = run; errand = to_answer s node.pair (request_bytes (record { nonce = node.nonce })) room; wrote = wrote }) in
      (and_from _ _ (lt-ltb _ _ small) (le-leb _ _ later), ((bytes_eq-Decides a.tag _).1 tagged, (pass.fits, (pass.due, tt))))

  none_no : first_no (finish_questions cipher node t (answer_bytes a)) ≡ None
  none_no = ap (λ l. first_no (reading l ++ asked (answer_of (answer_bytes a)))) (answer_read a long) ∙ no_no (asked (answer_of (answer_bytes a))) (subst (λ b. AllByRecursion Yes (asked b)) (sym same_said) all)

  finishes : finish cipher node t (answer_bytes a) ≡ Ok (joined node t a)
  unfolding finish
  finishes = ap (λ o. unless o Err (Ok (joined node t (answer_of (answer_bytes a))))) none_no ∙ ap (λ b. Ok (joined node t b)) same_said

pub answers_finish : AnswersFinish
answers_finish cipher x run node s t room a wrote whole later small = finishes x run node s t room a wrote whole later small
