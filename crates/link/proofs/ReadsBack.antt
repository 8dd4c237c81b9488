-- The bytes that a sender wrote read as what it wrote.
use Rattle.std.proofs.Common.{◌≡◌, ℕ, ◌^◌, ◌<◌, ◌≤◌, List, [], ◌∷◌, ◌++◌, length, pos, nat_abs, Ok, sym, refl, ap, ◌∙◌, subst, arith}
use Rattle.std.specs.List.{AllByRecursion}
use Rattle.std.proofs.ByRecursion.{All-append}
use Rattle.std.proofs.lemmas.Bool.{leb-true, ltb-true, cond-true}
use Rattle.cipher.specs.Blocks.{Make}
use Rattle.cipher.specs.Bytes.{to_be}
use Rattle.cipher.specs.Keys.{key_of}
use Rattle.cipher.proofs.ByteLaws.{Byte}
use Rattle.cipher.proofs.KeyLaws.{key_of_bytes}
use Rattle.chain.specs.Chain.{interval_tag_key}
use Rattle.packet.specs.Kinds.{Data, Disclosure, a_data, a_key, Fits}
use Rattle.packet.specs.Layouts.{data_covered, data_bytes, disclosure_bytes}
use Rattle.packet.specs.Reading.{is_kind, read_data, read_key, data_of, disclosure_of}
use Rattle.packet.proofs.LayoutLaws.{length_packet_bytes}
use Rattle.packet.proofs.ReadBack.{read_back}
use Rattle.packet.proofs.ReadingLaws.{this_kind, of_length_yes, reads_data, reads_key}
use Rattle.link.specs.Base.{Base, Errand, to_make, to_disclose, to_answer, base_interval, base_questions, data_with, order, disclosure, key_due, reply}
use Rattle.link.specs.Sender.{Sender, ran, Made}
use Rattle.link.specs.Histories.{KeyPacket}
use Rattle.link.specs.Unharmed.{UnharmedReads}
use Rattle.link.proofs.Asking.{Yes}
use Rattle.link.proofs.Senders.{Timed, ran_timed, granted_reply, in_range, due_key, discloses_in_time}
use Rattle.chain.proofs.TagBytes.{be_bytes, key_16, tag_8}

data_reads : (p : Data) → Fits (a_data p) → read_data (data_bytes p) ≡ Ok p
unfolding data_bytes data_covered
data_reads p f =
    let long = length_packet_bytes (a_data p) f in
    let read = reads_data (data_bytes p) (omega arith) (omega arith) refl in
    let back = read_back (a_data p) f in
    let same : data_of (data_bytes p) ≡ p = cc (sym read ∙ back) in
    cond-true (is_kind 3 (data_bytes p)) _ _ (this_kind 3 (data_bytes p) (omega arith) refl) ∙ of_length_yes 12 76 data_of (data_bytes p) (omega arith) (omega arith) ∙ ap Ok same

key_reads : (d : Disclosure) → Fits (a_key d) → read_key (disclosure_bytes d) ≡ Ok d
unfolding disclosure_bytes
key_reads d f =
    let long = length_packet_bytes (a_key d) f in
    let read = reads_key (disclosure_bytes d) long refl in
    let back = read_back (a_key d) f in
    let same : disclosure_of (disclosure_bytes d) ≡ d = cc (sym read ∙ back) in
    cond-true (is_kind 4 (disclosure_bytes d)) _ _ (this_kind 4 (disclosure_bytes d) (omega arith) refl) ∙ of_length_yes 19 19 disclosure_of (disclosure_bytes d) (omega arith) (omega arith) ∙ ap Ok same

covered_bytes : (p : Data) → p.number < 256 → AllByRecursion Byte p.payload → AllByRecursion Byte (data_covered p)
unfolding data_covered
covered_bytes p small h =
    let kind = All-append Byte (3 ∷ []) (to_be 2 p.interval) (omega arith, tt) (be_bytes 2 p.interval).1 in
    let number = All-append Byte (3 ∷ [] ++ to_be 2 p.interval) (p.number ∷ []) kind (small, tt) in
    All-append Byte (3 ∷ [] ++ to_be 2 p.interval ++ p.number ∷ []) p.payload number h

module _ {cipher : Make} (x : Sender cipher) where
  order_fits : (b : Base) (s room : ℕ) (payload : List ℕ) → Timed x.setup b → AllByRecursion Yes (base_questions b (to_make s payload room)) → AllByRecursion Byte payload → Fits (a_data (order cipher b (nat_abs (base_interval b.setup (pos s))) payload))
  order_fits b s room payload timed h bytes =
      let m : ℕ = nat_abs (base_interval b.setup (pos s)) in
      let range = in_range (base_interval b.setup (pos s)) b.setup.count h.1.0 in
      let few = ltb-true _ 256 h.1.1.1.0 in
      let tagged = tag_8 cipher (interval_tag_key cipher (b.setup.making m)) (data_covered (data_with b m payload [])) (covered_bytes (data_with b m payload []) few bytes) in
      (omega (arith, range.1, ap (λ y. y.count) timed.same, x.most), leb-true (length payload) 64 h.1.1.0, tagged.0)

  made_fits : (p : Data) → Made x p → AllByRecursion Byte p.payload → Fits (a_data p)
  made_fits p made bytes = go made.errand made.wrote
    where
      go : (errand : Errand) → reply cipher (ran x made.run) errand ≡ Ok (a_data p) → Fits (a_data p)
      go (to_make s payload room) w =
          let both = granted_reply cipher (ran x made.run) (to_make s payload room) (a_data p) w in
          let e = both.1 in
          let same : order cipher (ran x made.run) (nat_abs (base_interval (ran x made.run).setup (pos s))) payload ≡ p = cc in
          subst (λ (q : Data). Fits (a_data q)) same (order_fits (ran x made.run) s room payload (ran_timed x made.run) both.0 (subst (λ (q : Data). AllByRecursion Byte q.payload) (sym same) bytes))
      go (to_disclose s room) w = let e = (granted_reply cipher (ran x made.run) (to_disclose s room) (a_data p) w).1 in absurd (let z : ◌≡◌ {A = ℕ} 0 1 = cc in omega arith)
      go (to_answer s pair bytes room) w = let e = (granted_reply cipher (ran x made.run) (to_answer s pair bytes room) (a_data p) w).1 in absurd (let z : ◌≡◌ {A = ℕ} 0 1 = cc in omega arith)

  -- a key disclosed is of interval 1 at least
  from_one : (run : List Errand) (errand : Errand) (d : Disclosure) → reply cipher (ran x run) errand ≡ Ok (a_key d) → 1 ≤ d.interval
  from_one run (to_make s payload room) d w = let e = (granted_reply cipher (ran x run) (to_make s payload room) (a_key d) w).1 in absurd (let z : ◌≡◌ {A = ℕ} 0 1 = cc in omega arith)
  from_one run (to_disclose s room) d w =
      let both = granted_reply cipher (ran x run) (to_disclose s room) (a_key d) w in
      let e = both.1 in
      let same : disclosure (ran x run) (nat_abs (key_due (ran x run).setup s)) ≡ d = cc in
      let key = due_key (ran x run).last (ran x run).setup.count (ran x run).setup.delay (base_interval (ran x run).setup (pos s)) both.0.1.0 in
      subst (λ (k : Disclosure). 1 ≤ k.interval) same key.0
  from_one run (to_answer s pair bytes room) d w = let e = (granted_reply cipher (ran x run) (to_answer s pair bytes room) (a_key d) w).1 in absurd (let z : ◌≡◌ {A = ℕ} 0 1 = cc in omega arith)

  key_read : (run : List Errand) (errand : Errand) (d : Disclosure) → reply cipher (ran x run) errand ≡ Ok (a_key d) → (x.chain d.interval).high < 2 ^ 64 → (x.chain d.interval).low < 2 ^ 64 → KeyPacket x d.interval (disclosure_bytes d)
  key_read run errand d w high low =
      let timely = (discloses_in_time x).disclosed run errand d w in
      let long : length d.key ≡ 16 = ap length timely.of_chain ∙ (key_16 (x.chain d.interval)).0 in
      let small : d.interval < 2 ^ 16 = omega (arith, timely.within, x.most) in
      record {
        said = d;
        reads = key_reads d (small, long);
        interval = refl;
        key = ap key_of timely.of_chain ∙ key_of_bytes (x.chain d.interval) high low;
        from_one = from_one run errand d w;
        to_last = timely.within;
      }

pub unharmed_reads : UnharmedReads
unharmed_reads cipher x = record { order = λ p made bytes. data_reads p (made_fits x p made bytes); key = key_read x }
