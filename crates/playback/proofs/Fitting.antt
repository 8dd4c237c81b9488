-- The orders that come out of records are no longer than the records, and can be written where the records can.
use Rattle.std.proofs.Common.{◌≡◌, ℕ, zero, suc, ◌+◌, ◌-◌, ◌≤◌, Bool, true, false, not, List, [], ◌∷◌, ◌++◌, map, length, drop, replicate, Some, None, Ok, Err, filter, Option, Result, refl, ap, ◌∙◌, subst, arith}
use Rattle.std.proofs.lemmas.List.Concat.{flat_map-append}
use Rattle.std.proofs.lemmas.List.Folds.{flat_map-map}
use Rattle.std.specs.List.{flat_map, AllByRecursion}
use Rattle.std.proofs.ByRecursion.{All-append, all_kept_by, All-push, All-weaker}
use Rattle.std.proofs.lemmas.List.{length-drop, length-take-le}
use Rattle.refusal.specs.declared.Refusal.{Refusal}
use Rattle.cipher.specs.Blocks.{Make}
use Rattle.cipher.specs.declared.key.Key.{Key}
use Rattle.packet.specs.Kinds.{Request, Data, Packet, a_request, an_answer, a_data, a_key}
use Rattle.packet.specs.Reading.{read_request, read_data, read_packet, data_of}
use Rattle.capture.specs.declared.forms.ByteOrder.TheVariants.{Little}
use Rattle.capture.specs.Format.{Record, time, record_length, records_bytes}
use Rattle.capture.specs.Reading.{Writable}
use Rattle.capture.proofs.RecordLaws.{regular_parts, regular_from}
use Rattle.link.specs.Intervals.{upto}
use Rattle.link.specs.Questions.{Question, first_no, unless}
use Rattle.link.specs.Reception.{Deed, refuses, takes, adopts, releases, rests, first_out, known}
use Rattle.link.specs.Reception as reception
use Rattle.link.specs.Receiver.{Receiver, Call, to_take, to_key, to_release, Answer, refused, holds, steps, none, out, same_packet, world, reading, questions, granted, deed, told, outs, answer, then, after, answers, released}
use Rattle.link.specs.Join.{Node, finish}
use Rattle.link.proofs.Joins.{finish_sound}
use Rattle.link.proofs.Receptions.{Allowed}
use Rattle.link.proofs.Receivers.{packet_decides, deed_allowed}
use Rattle.node.proofs.Deeds.{read_ok}
use Rattle.playback.specs.Parts.{Part, silent, asking, receiving, asks, joins, offers, until_none, behind, with_releases, calls, next}
use Rattle.playback.specs.Playing.{total}
use Rattle.playback.proofs.JoinedLists.{length_records, total_append}
use Rattle.playback.specs.Steps.{let_out, let_outs, walked, order_out, order_of, orders}

-- the bytes of the records that brought packets
abbrev weight : List Data → ℕ
weight [] = 0
weight (p ∷ ps) = 28 + length p.payload + weight ps

abbrev Short : Data → Type 0
Short p = length p.payload ≤ 64

weight_push : (ps : List Data) (p : Data) → weight (ps ++ p ∷ []) ≡ weight ps + (28 + length p.payload)
weight_push [] p = omega arith
weight_push (q ∷ ps) p = omega (arith, weight_push ps p)

weight_kept : (f : Data → Bool) (ps : List Data) → weight (filter f ps) ≤ weight ps
weight_kept f [] = omega arith
weight_kept f (p ∷ ps) = go (weight_kept f ps) (f p) refl
  where
    go : weight (filter f ps) ≤ weight ps → (b : Bool) → f p ≡ b → weight (filter f (p ∷ ps)) ≤ weight (p ∷ ps)
    go less true e = rw e (omega arith)
    go less false e = rw e (omega arith)

-- what holds of each packet held holds of each whose key is known
all_upto : (P : Data → Type 0) (m : ℕ) (ps : List Data) → AllByRecursion P ps → AllByRecursion P (upto (λ p. p.interval) m ps)
all_upto P zero ps h = tt
all_upto P (suc m) ps h = All-append P (upto (λ p. p.interval) m ps) _ (all_upto P m ps h) (all_kept_by _ P ps h)

abbrev others : Data → List Data → List Data
others p = filter (λ q. not (same_packet p q))

-- a packet that goes out takes its weight away
abbrev Leaves : List Data → Data → Type 0
Leaves ps p = 28 + length p.payload + weight (others p ps) ≤ weight ps

all_leave : (ps : List Data) → AllByRecursion (Leaves ps) ps
all_leave [] = tt
all_leave (q ∷ ps) =
    (rw ((packet_decides q q).1 refl) (omega (arith, weight_kept (λ p. not (same_packet q p)) ps)), All-weaker (Leaves ps) (Leaves (q ∷ ps)) (λ p h. later p h (same_packet p q) refl) ps (all_leave ps))
  where
    later : (p : Data) → Leaves ps p → (b : Bool) → same_packet p q ≡ b → Leaves (q ∷ ps) p
    later p h true e = rw e (omega arith)
    later p h false e = rw e (omega arith)

module _ (x : Record) where
  -- the orders of what goes out at a record
  abbrev orders_at : List Answer → List Record
  orders_at = flat_map (order_out x.seconds x.micros)

  -- an order at the time of the record, which can be written where the record can
  abbrev Order : Record → Type 0
  Order y = (y.seconds ≡ x.seconds) × (y.micros ≡ x.micros) × (length y.bytes ≤ 64)

  order_writable : Writable 256 x → (y : Record) → Order y → Writable 256 y
  order_writable h y o =
      let parts = regular_parts 256 x h.0 in
      (regular_from 256 y (omega (arith, o.1, parts.0)) (omega (arith, o.2)), omega (arith, o.0, h.1))

  -- what goes out, and what is held after, was held before or is brought
  record Spends (before after : List Data) (brought : ℕ) (ys : List Record) : Type 0 where
    within : total ys + weight after ≤ weight before + brought
    short : AllByRecursion Short before → AllByRecursion Short after × AllByRecursion Order ys

  nothing : (ps : List Data) (n : ℕ) → Spends ps ps n []
  nothing ps n = record { within = omega arith; short = λ h. (h, tt) }

  more : {before after : List Data} {m : ℕ} {ys : List Record} (n : ℕ) → m ≤ n → Spends before after m ys → Spends before after n ys
  more n le h = record { within = omega (arith, h.within); short = h.short }

  onward : {a b c : List Data} {m n : ℕ} {ys zs : List Record} → Spends a b m ys → Spends b c n zs → Spends a c (m + n) (ys ++ zs)
  onward {ys} {zs} h k = record {
    within = omega (arith, total_append ys zs, h.within, k.within);
    short = λ s. let first = h.short s in let then = k.short first.0 in (then.0, All-append Order ys zs first.1 then.1);
  }

-- a deed brings at most a packet of a record of n bytes
abbrev Brings : ℕ → Deed Data Key → Type 0
Brings n (refuses refusal) = Unit {0}
Brings n (takes t p) = (28 + length p.payload ≤ n) × Short p
Brings n (adopts t k j) = Unit {0}
Brings n (releases p verdict) = Unit {0}
Brings n rests = Unit {0}

module _ (cipher : Make) (r : Receiver) (x : Record) where
  abbrev held : List Data
  held = r.state.held

  deed_spends : (n : ℕ) (d : Deed Data Key) → Allowed (world cipher r.clock) r.state d → Brings n d → Spends x held (reception.next (world cipher r.clock) r.state d).held n (orders_at x (outs (told r.state d)))
  deed_spends n (refuses refusal) h b = nothing x held n
  deed_spends n (takes t p) h b = record {
    within = omega (arith, weight_push held p, b.0);
    short = λ s. (All-push Short held p s b.1, tt);
  }
  deed_spends n (adopts t k j) h b = nothing x held n
  deed_spends n (releases p true) h b = record {
    within = omega (arith, of_held (Leaves held) (all_leave held));
    short = λ s. (all_kept_by _ Short held s, ((refl, refl, of_held Short s), tt));
  }
    where
      of_held : (P : Data → Type 0) → AllByRecursion P held → P p
      of_held P s = (subst (AllByRecursion P) h.first (all_upto P r.state.reached held s)).0
  deed_spends n (releases p false) h b = record {
    within = omega (arith, weight_kept (λ q. not (same_packet p q)) held);
    short = λ s. (all_kept_by _ Short held s, tt);
  }
  deed_spends n rests h b = nothing x held n

-- the bytes of the record that a call can bring a packet of
abbrev carried : Call → ℕ
carried (to_take t bytes) = 16 + length bytes
carried (to_key t bytes) = 0
carried (to_release room) = 0

was_read : {P : Type 0} (read : Result P Refusal) (qs : List Question) → first_no (reading read ++ qs) ≡ None → (p : P) × (read ≡ Ok p)
was_read (Ok p) qs e = (p, refl)
was_read (Err refusal) qs e = absurd (let z : ◌≡◌ {A = ℕ} 0 1 = cc in omega arith)

-- a data packet has 12 bytes beside its payload
data_brings : (t : ℕ) (bytes : List ℕ) (p : Data) → read_data bytes ≡ Ok p → Brings (16 + length bytes) (takes t (data_of bytes))
data_brings t bytes p e =
    let read = read_ok 3 12 76 data_of bytes p e in
    let long : length (data_of bytes).payload ≡ length bytes - 12 = length-take-le (length bytes - 12) (drop 4 bytes) (omega (arith, length-drop 4 bytes, read.least)) in
    (omega (arith, read.least), omega (arith, read.most))

module _ (cipher : Make) where
  deed_brings : (r : Receiver) (call : Call) → Brings (carried call) (deed cipher r call)
  unfolding deed
  deed_brings r (to_take t bytes) = go (first_no (questions cipher r (to_take t bytes))) refl
    where
      go : (o : Option Refusal) → first_no (questions cipher r (to_take t bytes)) ≡ o → Brings (16 + length bytes) (unless o refuses (takes t (data_of bytes)))
      go None e = let was = was_read (read_data bytes) _ e in data_brings t bytes was.0 was.1
      go (Some refusal) e = tt
  deed_brings r (to_key t bytes) = go (first_no (questions cipher r (to_key t bytes)))
    where
      go : (o : Option Refusal) → Brings 0 (unless o refuses (granted cipher r (to_key t bytes)))
      go None = tt
      go (Some refusal) = tt
  deed_brings r (to_release room) = go (first_no (questions cipher r (to_release room))) (known (world cipher r.clock) r.state)
    where
      go : (o : Option Refusal) (ps : List Data) → Brings 0 (unless o refuses (first_out (world cipher r.clock) r.state ps))
      go None [] = tt
      go None (p ∷ ps) = tt
      go (Some refusal) ps = tt

  abbrev carries : List Call → ℕ
  carries [] = 0
  carries (call ∷ calls) = carried call + carries calls

  calls_spend : (x : Record) (calls : List Call) (r : Receiver) → Spends x r.state.held (after cipher r calls).state.held (carries calls) (orders_at x (released cipher r calls))
  unfolding after released answers answer then
  calls_spend x [] r = nothing x _ 0
  calls_spend x (call ∷ calls) r =
      rw (flat_map-append (order_out x.seconds x.micros) (outs (answer cipher r call)) (released cipher (then cipher r call) calls))
      (onward x (deed_spends cipher r x (carried call) (deed cipher r call) (deed_allowed cipher r call) (deed_brings r call)) (calls_spend x calls (then cipher r call)))

  releases_carry : (n : ℕ) → carries (replicate n (to_release 64)) ≡ 0
  releases_carry zero = refl
  releases_carry (suc n) = omega (arith, releases_carry n)

  behind_carries : (r : Receiver) (a : Answer) → carries (behind cipher r a) ≡ 0
  unfolding until_none
  behind_carries r (refused refusal) = refl
  behind_carries r (holds count) = refl
  behind_carries r (steps count) = releases_carry _
  behind_carries r none = refl
  behind_carries r (out m n payload verdict) = refl

  offers_carry : (r : Receiver) (t : ℕ) (bytes : List ℕ) (o : Result Packet Refusal) → carries (with_releases cipher r (offers t bytes o)) ≤ 16 + length bytes
  offers_carry r t bytes (Ok (a_request p)) = omega arith
  offers_carry r t bytes (Ok (an_answer p)) = omega arith
  offers_carry r t bytes (Ok (a_data p)) = omega (arith, behind_carries (then cipher r (to_take t bytes)) (answer cipher r (to_take t bytes)))
  offers_carry r t bytes (Ok (a_key p)) = omega (arith, behind_carries (then cipher r (to_key t bytes)) (answer cipher r (to_key t bytes)))
  offers_carry r t bytes (Err refusal) = omega arith

-- the packets that a node holds
abbrev held_by : Part → List Data
held_by silent = []
held_by (asking node) = []
held_by (receiving r) = r.state.held

asks_hold : (pair : Key) (t : ℕ) (o : Result Request Refusal) → held_by (asks pair t o) ≡ []
asks_hold pair t (Ok q) = refl
asks_hold pair t (Err refusal) = refl

module _ (cipher : Make) (pair : Key) where
  joins_hold : (node : Node) (x : Record) (o : Result Receiver Refusal) → finish cipher node (time x) x.bytes ≡ o → held_by (joins node o) ≡ []
  joins_hold node x (Ok r) e = (finish_sound cipher node (time x) x.bytes r e).1
  joins_hold node x (Err refusal) e = refl

  next_spends : (part : Part) (x : Record) → Spends x (held_by part) (held_by (next cipher pair part x)) (record_length x) (orders_at x (let_outs cipher part x))
  unfolding let_outs calls
  next_spends silent x = rw (asks_hold pair (time x) (read_request x.bytes)) (nothing x [] _)
  next_spends (asking node) x = rw (joins_hold node x _ refl) (nothing x [] _)
  next_spends (receiving r) x =
      more x (record_length x) (offers_carry cipher r (time x) x.bytes (read_packet x.bytes)) (calls_spend cipher x (calls cipher r x) r)

  -- the orders of a record, and those of the records behind it
  walked_orders : (part : Part) (x : Record) (xs : List Record) → flat_map order_of (walked cipher pair part (x ∷ xs)) ≡ orders_at x (let_outs cipher part x) ++ flat_map order_of (walked cipher pair (next cipher pair part x) xs)
  unfolding walked
  walked_orders part x xs =
      let here = map (let_out x.seconds x.micros) (let_outs cipher part x) in
      flat_map-append order_of here _ ∙ ap (λ ys. ys ++ flat_map order_of (walked cipher pair (next cipher pair part x) xs)) (flat_map-map order_of (let_out x.seconds x.micros) (let_outs cipher part x))

  walked_fit : (xs : List Record) (part : Part) → total (flat_map order_of (walked cipher pair part xs)) ≤ weight (held_by part) + total xs
  unfolding walked
  walked_fit [] part = omega arith
  walked_fit (x ∷ xs) part =
      rw (walked_orders part x xs) (omega (arith, total_append (orders_at x (let_outs cipher part x)) (flat_map order_of (walked cipher pair (next cipher pair part x) xs)), (next_spends part x).within, walked_fit xs (next cipher pair part x)))

  walked_writable : (xs : List Record) (part : Part) → AllByRecursion Short (held_by part) → AllByRecursion (Writable 256) xs → AllByRecursion (Writable 256) (flat_map order_of (walked cipher pair part xs))
  unfolding walked
  walked_writable [] part s h = tt
  walked_writable (x ∷ xs) part s h =
      let now = (next_spends part x).short s in
      rw (walked_orders part x xs) (All-append (Writable 256) (orders_at x (let_outs cipher part x)) _ (All-weaker (Order x) (Writable 256) (order_writable x h.0) _ now.1) (walked_writable xs (next cipher pair part x) now.0 h.1))

pub orders_fit : (cipher : Make) (pair : Key) (xs : List Record) → length (records_bytes Little (orders cipher pair xs)) ≤ total xs
orders_fit cipher pair xs = omega (arith, length_records Little (orders cipher pair xs), walked_fit cipher pair xs silent)

pub orders_writable : (cipher : Make) (pair : Key) (xs : List Record) → AllByRecursion (Writable 256) xs → AllByRecursion (Writable 256) (orders cipher pair xs)
orders_writable cipher pair xs h = walked_writable cipher pair xs silent tt h
