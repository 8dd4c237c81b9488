-- A capture that was played: what is counted and written is what the definition gives, and it reads back.
use Rattle.std.proofs.Common.{◌≡◌, ℕ, ◌+◌, ◌<◌, ◌≤◌, cond, List, [], ◌∷◌, ◌++◌, map, length, take, Ok, Err, sym, refl, ap, ◌∙◌, subst, arith, lit<}
use Rattle.std.specs.List.{flat_map, AllByRecursion}
use Rattle.std.proofs.ByRecursion.{All-weaker}
use Rattle.std.proofs.lemmas.List.{length-append, take_at}
use Rattle.std.proofs.lemmas.Bool.{le-leb, lt-leb}
use Rattle.refusal.specs.declared.Refusal.TheVariants.{BufferTooShort}
use Rattle.cipher.specs.Blocks.{Make}
use Rattle.cipher.specs.Makes.{rc5_make}
use Rattle.cipher.specs.declared.key.Key.{Key}
use Rattle.packet.specs.Writing.{filled, Puts}
use Rattle.capture.specs.Format.{Record, header_bytes}
use Rattle.capture.specs.Reading.{Writable}
use Rattle.capture.proofs.CaptureLaws.{capture_header_back, capture_records_back}
use Rattle.capture.proofs.HeaderLaws.{length_header_bytes}
use Rattle.link.specs.Receiver.{Answer}
use Rattle.playback.specs.Parts.{Part, silent, next}
use Rattle.playback.specs.Steps.{Step, let_out, let_outs, order_of, orders, walked}
use Rattle.playback.specs.Counting.{counts_of, orders_bytes, read_in, Regular, StepsFit}
use Rattle.playback.specs.Playing.{counts, header_out, output, play, Playable, playable, rc5_playable, replayed, total}
use Rattle.playback.specs.Replays.{GivesBack, ReadsAs, ReplaysStand}
use Rattle.playback.proofs.Fitting.{orders_fit, orders_writable}
use Rattle.playback.proofs.Histories.{replay_stands}
use Rattle.playback.proofs.Orders.{ok_is}
use Rattle.playback.proofs.Openings.{SoundCapture}

-- the records that steps read are those walked
read_in_append : (xs ys : List Step) → read_in (xs ++ ys) ≡ read_in xs + read_in ys
read_in_append [] ys = omega arith
read_in_append (s ∷ xs) ys = omega (arith, read_in_append xs ys)

outs_read_nothing : (s m : ℕ) (told : List Answer) → read_in (map (let_out s m) told) ≡ 0
outs_read_nothing s m [] = refl
outs_read_nothing s m (a ∷ told) = omega (arith, outs_read_nothing s m told)

read_all : (cipher : Make) (pair : Key) (part : Part) (xs : List Record) → read_in (walked cipher pair part xs) ≡ total xs
unfolding walked
read_all cipher pair part [] = refl
read_all cipher pair part (x ∷ xs) =
    let split = read_in_append (map (let_out x.seconds x.micros) (let_outs cipher part x)) (walked cipher pair (next cipher pair part x) xs) in
    let nothing = outs_read_nothing x.seconds x.micros (let_outs cipher part x) in
    let rest = read_all cipher pair (next cipher pair part x) xs in
    omega arith

module _ (pair : Key) (capture : List ℕ) (xs : List Record) (out : List ℕ) (sound : SoundCapture capture (rc5_playable xs)) (room : length capture ≤ length out) (all : List Step) (is : all ≡ walked rc5_make pair silent xs) where
  orders_long : length (orders_bytes all) ≤ total xs
  orders_long = rw is (orders_fit rc5_make pair xs)

  reads : read_in all ≡ total xs
  reads = ap read_in is ∙ read_all rc5_make pair silent xs

  pub all_fit : (left : ℕ) → left ≡ length out → StepsFit all left
  all_fit left same = record {
    read = let a = reads in let b = sound.room in let c = sound.short in omega arith;
    written = let a = orders_long in let b = sound.room in omega arith;
    orders = subst (λ s. AllByRecursion Regular (flat_map order_of s)) (sym is) (All-weaker (Writable 256) Regular (λ r w. w.0) _ (orders_writable rc5_make pair xs sound.writable));
  }

  long : length (output pair (rc5_playable xs)) ≡ 24 + length (orders_bytes all)
  long =
      length-append (header_bytes (header_out 147)) _ ∙ (λ i. length_header_bytes (header_out 147) i + length (orders_bytes (sym is i)))

  pub counts_so : counts_of all ≡ counts pair (rc5_playable xs)
  counts_so = λ i. record { written = sym long i; read = 24 + reads i }

  pub filled_so : (start after : List ℕ) → start ≡ filled (header_bytes (header_out 147)) out → Puts 24 (orders_bytes all) start after → after ≡ filled (output pair (rc5_playable xs)) out
  filled_so start after e puts = puts (header_bytes (header_out 147)) out (length_header_bytes (header_out 147)) e ∙ ap (λ s. filled (header_bytes (header_out 147) ++ orders_bytes s) out) is

  pub fits_in : (counts_of all).written ≤ length capture
  fits_in = let a = orders_long in let b = sound.room in omega arith

  pub reads_back : (after : List ℕ) → after ≡ filled (output pair (rc5_playable xs)) out → ReadsAs (header_out 147) (orders rc5_make pair xs) (take (counts_of all).written after)
  unfolding filled
  reads_back after e =
      let whole : take (counts_of all).written after ≡ output pair (rc5_playable xs) = ap (take (counts_of all).written) e ∙ take_at (output pair (rc5_playable xs)) _ _ (long) in
      subst (ReadsAs (header_out 147) (orders rc5_make pair xs)) (sym whole)
      (record {
        header = capture_header_back (header_out 147) (orders rc5_make pair xs) (lit< tt) (lit< tt) (lit< tt) (lit< tt);
        records = capture_records_back (header_out 147) 256 (orders rc5_make pair xs) (orders_writable rc5_make pair xs sound.writable) (lit< tt);
        whole = refl;
      })

  module _ (opened : Ok (rc5_playable xs) ≡ playable capture) where
    pub replayed_so : (Ok (counts pair (rc5_playable xs)), filled (output pair (rc5_playable xs)) out) ≡ replayed pair capture out
    replayed_so =
        ap (λ b. cond b (Ok (counts pair (rc5_playable xs)), filled (output pair (rc5_playable xs)) out) (Err BufferTooShort, out)) (sym (le-leb _ _ room))
        ∙ ap (λ q. play pair capture q out) opened

    -- whatever the capture is played as, it is that
    pub gives_back : (after : List ℕ) → after ≡ filled (output pair (rc5_playable xs)) out → GivesBack pair capture (take (counts_of all).written after)
    gives_back after e q is_q =
        subst (λ q. ReadsAs (header_out q.link) (orders q.cipher pair q.records) (take (counts_of all).written after)) (ok_is (rc5_playable xs) q (opened ∙ is_q)) (reads_back after e)

pub too_short : (pair : Key) (capture : List ℕ) (p : Playable) (out : List ℕ) → Ok p ≡ playable capture → length out < length capture → (Err BufferTooShort, out) ≡ replayed pair capture out
too_short pair capture p out opened short =
    ap (λ b. cond b (Ok (counts pair p), filled (output pair p) out) (Err BufferTooShort, out)) (sym (lt-leb _ _ short)) ∙ ap (λ q. play pair capture q out) opened

pub stands : (pair : Key) (capture : List ℕ) → ReplaysStand pair capture
stands pair capture p e = replay_stands p.cipher pair p.records
