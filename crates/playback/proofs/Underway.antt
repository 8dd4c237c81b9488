-- Part-way through the steps of a walk: what is counted and written so far, and what is left.
use Rattle.std.proofs.Common.{◌≡◌, ℕ, ◌+◌, ◌≤◌, List, [], ◌∷◌, ◌++◌, length, sym, refl, ap, ◌∙◌, subst, append_assoc, arith}
use Rattle.std.proofs.lemmas.List.Concat.{flat_map-append}
use Rattle.std.specs.List.{flat_map, AllByRecursion}
use Rattle.std.proofs.lemmas.List.{length-append}
use Rattle.packet.specs.Writing.{filled, Puts}
use Rattle.capture.specs.declared.forms.ByteOrder.TheVariants.{Little}
use Rattle.capture.specs.Format.{Record, record_bytes, records_bytes}
use Rattle.link.proofs.Asking.{all_behind}
use Rattle.playback.specs.declared.counts.Counts.{Counts}
use Rattle.playback.specs.Steps.{Step, order_of}
use Rattle.playback.specs.Counting.{Counted, order_bytes, orders_bytes, read_in, Regular, StepFits, StepsFit}
use Rattle.playback.proofs.JoinedLists.{all_in_front}
use Rattle.playback.proofs.Orders.{puts_nothing}

pub record UnderWay (all left : List Step) (c : Counts) (start buffer : List ℕ) : Type 0 where
  pub read : c.read + read_in left ≡ 24 + read_in all
  -- the orders written so far
  pub done : List Record
  pub orders : done ++ flat_map order_of left ≡ flat_map order_of all
  pub written : c.written ≡ 24 + length (records_bytes Little done)
  pub puts : Puts 24 (records_bytes Little done) start buffer

pub begins : (all : List Step) (start : List ℕ) → UnderWay all all (record { written = 24; read = 24 }) start start
begins all start = record { read = refl; done = []; orders = refl; written = omega arith; puts = puts_nothing 24 start }

-- one write behind another
puts_on : (at n : ℕ) (p q start middle after : List ℕ) → n ≡ at + length p → Puts at p start middle → Puts n q middle after → Puts at (p ++ q) start after
puts_on at n p q start middle after here first then done buffer long is =
    then (done ++ p) buffer (length-append done p ∙ ap (λ m. m + length p) long ∙ sym here) (first done buffer long is) ∙ ap (λ d. filled d buffer) (append_assoc done p q)

module _ (all left : List Step) (s : Step) (c : Counts) (start buffer : List ℕ) (on : UnderWay all (s ∷ left) c start buffer) where
  -- the orders of this step stand behind those written
  split : on.done ++ (order_of s ++ flat_map order_of left) ≡ flat_map order_of all
  split = on.orders

  long : length (records_bytes Little on.done) + length (order_bytes s) ≤ length (orders_bytes all)
  long =
      let bytes : records_bytes Little on.done ++ (order_bytes s ++ records_bytes Little (flat_map order_of left)) ≡ orders_bytes all =
      ap (λ b. records_bytes Little on.done ++ b) (sym (flat_map-append (record_bytes Little) (order_of s) _)) ∙ sym (flat_map-append (record_bytes Little) on.done _) ∙ ap (records_bytes Little) split in
      let whole : length (records_bytes Little on.done) + (length (order_bytes s) + length (records_bytes Little (flat_map order_of left))) ≡ length (orders_bytes all) =
      sym (length-append _ _ ∙ ap (λ n. length (records_bytes Little on.done) + n) (length-append _ _)) ∙ ap length bytes in
      omega arith

  pub step_fits : (room : ℕ) → StepsFit all room → StepFits c s room
  step_fits room fits = record {
    read = let r = on.read in let f = fits.read in omega arith;
    written = let w = on.written in let l = long in let f = fits.written in omega arith;
    order = all_in_front Regular (order_of s) _ (all_behind Regular on.done _ (subst (AllByRecursion Regular) (sym split) fits.orders));
  }

  pub goes_on : (r : Counts) (after : List ℕ) → Counted c s r buffer after → UnderWay all left r start after
  goes_on r after counted = record {
    read = let a = counted.read in let b = on.read in omega arith;
    done = on.done ++ order_of s;
    orders = append_assoc on.done (order_of s) _ ∙ split;
    written = counted.written ∙ ap (λ n. n + length (order_bytes s)) on.written ∙ (let l = sym (length-append (records_bytes Little on.done) (order_bytes s)) ∙ sym (ap length (flat_map-append (record_bytes Little) on.done (order_of s))) in omega arith);
    puts = subst (λ b. Puts 24 b start after) (sym (flat_map-append (record_bytes Little) on.done (order_of s))) (puts_on 24 c.written _ _ start buffer after on.written on.puts counted.puts);
  }
