-- The tag over what a data packet's fields spell is the packet's tag.
use Rattle.std.proofs.Common.{◌≡◌, ℕ, ◌+◌, Bool, true, false, cond, leb, List, length, take, drop, Ok, Err, Result, refl, ap, ◌∙◌, arith}
use Rattle.std.proofs.lemmas.List.{take_at}
use Rattle.std.proofs.lemmas.Bool.{le-leb, leb-true, cond-true}
use Rattle.refusal.specs.declared.Refusal.{Refusal}
use Rattle.refusal.specs.declared.Refusal.TheVariants.{TooLong}
use Rattle.cipher.specs.Blocks.{Make}
use Rattle.cipher.specs.declared.key.Key.{Key}
use Rattle.chain.specs.Tag.{tagged}
use Rattle.chain.specs.Chain.{interval_tag_key}
use Rattle.packet.specs.Kinds.{Data}
use Rattle.packet.specs.Layouts.{data_covered}
use Rattle.packet.specs.Writing.{filled, write_covered}
use Rattle.packet.proofs.LayoutLaws.{length_data_covered}
use Rattle.link.specs.Receiver.{data_tag}

-- the covered part stands at the start of the buffer that it was written into
front : (p : Data) (n : ℕ) (before : List ℕ) → n ≡ 4 + length p.payload → take n (filled (data_covered p) before) ≡ data_covered p
unfolding filled
front p n before long = take_at (data_covered p) (drop (length (data_covered p)) before) n (omega (arith, length_data_covered p))

pub covered_tag : (make : Make) (key under : Key) (p : Data) (n : ℕ) (before after : List ℕ) (length_of : Result ℕ Refusal) (r : Result (List ℕ) Refusal)
    → length_of ≡ (write_covered p before).0 → after ≡ (write_covered p before).1 → length_of ≡ Ok n
    → under ≡ interval_tag_key make key → r ≡ tagged make under (take n after)
    → r ≡ cond (leb (length p.payload) 64) (Ok (data_tag make key p)) (Err TooLong)
covered_tag make key under p n before after length_of r long spelled is under_is made = go (leb (length p.payload) 64) refl long spelled
  where
    go : (b : Bool) → leb (length p.payload) 64 ≡ b
        → length_of ≡ (cond {A = Result ℕ Refusal × List ℕ} b (Ok (4 + length p.payload), filled (data_covered p) before) (Err TooLong, before)).0
        → after ≡ (cond {A = Result ℕ Refusal × List ℕ} b (Ok (4 + length p.payload), filled (data_covered p) before) (Err TooLong, before)).1
        → r ≡ cond b (Ok (data_tag make key p)) (Err TooLong)
    go false _ count whole = cc
    go true short count whole =
        let number : n ≡ 4 + length p.payload = cc in
        let message : take n after ≡ data_covered p = ap (take n) whole ∙ front p n before number in
        let few : leb (length (data_covered p)) 4096 ≡ true = le-leb _ 4096 (omega (arith, length_data_covered p, leb-true _ 64 short)) in
        made ∙ (λ i. tagged make (under_is i) (message i)) ∙ cond-true _ _ _ few
