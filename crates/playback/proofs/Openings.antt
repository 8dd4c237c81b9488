-- A capture with an admitted header: what it is opened as, and what its records come to.
use Rattle.std.proofs.Common.{◌≡◌, ℕ, ◌+◌, ◌≤◌, Bool, true, false, cond, eqb, leb, List, length, take, drop, Some, None, Ok, Err, Result, sym, refl, ap, ◌∙◌, subst, arith, length-drop, length-take}
use Rattle.std.specs.List.{AllByRecursion}
use Rattle.std.proofs.lemmas.List.{length-append}
use Rattle.std.proofs.lemmas.Bool.{eqb-true, le-leb, leb-true}
use Rattle.std.proofs.ByRecursion.{All-drop}
use Rattle.refusal.specs.declared.Refusal.{Refusal}
use Rattle.refusal.specs.declared.Refusal.TheVariants.{NotACapture}
use Rattle.cipher.specs.Makes.{rc5_make}
use Rattle.cipher.proofs.ByteLaws.{Byte}
use Rattle.capture.specs.declared.forms.ByteOrder.{ByteOrder}
use Rattle.capture.specs.declared.forms.Header.{Header}
use Rattle.capture.specs.Format.{Record, header_bytes, records_bytes}
use Rattle.capture.specs.Reading.{HeaderForm, read_header, records, Writable}
use Rattle.capture.proofs.HeaderLaws.{header_form, length_header_bytes}
use Rattle.capture.proofs.RecordsLaws.{records_whole}
use Rattle.capture.proofs.WritableLaws.{records_writable}
use Rattle.playback.specs.Playing.{cipher_of, Playable, playable, rc5_playable, total, with_cipher, with_header}
use Rattle.playback.proofs.JoinedLists.{length_records}

pub opens : (capture : List ℕ) (h : Header) (xs : List Record) → length capture ≤ 65536 → Ok h ≡ read_header capture → h.link ≡ 147 → xs ≡ records h.order 256 (drop 24 capture) → Ok (rc5_playable xs) ≡ playable capture
opens capture h xs short read link is =
    (λ i. Ok (record { cipher = rc5_make; link = sym link i; records = is i }))
    ∙ ap (λ n. with_cipher capture h (cipher_of n)) (sym link)
    ∙ ap (with_header capture) read
    ∙ ap (λ b. cond b (with_header capture (read_header capture)) (Err NotACapture)) (sym (le-leb _ _ short))

-- what a capture that can be replayed has of itself
pub record SoundCapture (capture : List ℕ) (p : Playable) : Type 0 where
  pub short : length capture ≤ 65536
  pub room : 24 + total p.records ≤ length capture
  pub writable : AllByRecursion (Writable 256) p.records
  pub under_rc5 : p ≡ rc5_playable p.records

header_there : (capture : List ℕ) (h : Header) → AllByRecursion Byte capture → read_header capture ≡ Ok h → 24 ≤ length capture
header_there capture h all e =
    let front : take 24 capture ≡ header_bytes h = subst (HeaderForm capture) e (header_form capture all) in
    let long : length (take 24 capture) ≡ 24 = ap length front ∙ length_header_bytes h in
    let most = length-take 24 capture in
    omega arith

records_room : (o : ByteOrder) (bytes : List ℕ) → total (records o 256 bytes) ≤ length bytes
records_room o bytes =
    let whole = records_whole o 256 bytes in
    let long : length bytes ≡ total (records o 256 bytes) + length whole.rest =
    ap length whole.split ∙ length-append (records_bytes o (records o 256 bytes)) whole.rest ∙ ap (λ n. n + length whole.rest) (length_records o (records o 256 bytes)) in
    omega arith

-- where a capture is playable, this holds of it
abbrev SoundIf : List ℕ → Result Playable Refusal → Type 0
SoundIf capture (Err refusal) = Unit {0}
SoundIf capture (Ok p) = SoundCapture capture p

module _ (capture : List ℕ) (all : AllByRecursion Byte capture) (short : length capture ≤ 65536) where
  sound_header : (h : Header) → read_header capture ≡ Ok h → SoundIf capture (with_cipher capture h (cipher_of h.link))
  sound_header h e = go (eqb h.link 147) refl
    where
      go : (b : Bool) → eqb h.link 147 ≡ b → SoundIf capture (with_cipher capture h (cond b (Some rc5_make) None))
      go true is =
          let there = header_there capture h all e in
          let rest = records_room h.order (drop 24 capture) in
          let left = length-drop 24 capture in
          record {
            short = short;
            room = omega arith;
            writable = records_writable h.order 256 (drop 24 capture) (All-drop Byte 24 capture all);
            under_rc5 = λ i. record { cipher = rc5_make; link = eqb-true h.link 147 is i; records = records h.order 256 (drop 24 capture) };
          }
      go false is = tt

  sound_read : (x : Result Header Refusal) → read_header capture ≡ x → SoundIf capture (with_header capture x)
  sound_read (Ok h) e = sound_header h e
  sound_read (Err refusal) e = tt

pub sound_capture : (capture : List ℕ) (p : Playable) → AllByRecursion Byte capture → playable capture ≡ Ok p → SoundCapture capture p
sound_capture capture p all e = subst (SoundIf capture) e (go (leb (length capture) 65536) refl)
  where
    go : (b : Bool) → leb (length capture) 65536 ≡ b → SoundIf capture (cond b (with_header capture (read_header capture)) (Err NotACapture))
    go true is = sound_read capture all (leb-true _ _ is) (read_header capture) refl
    go false is = tt
