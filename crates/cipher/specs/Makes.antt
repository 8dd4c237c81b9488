-- The makes of block cipher that there are, each with why its values are whole blocks.
use Rattle.std.specs.Prelude.{ℕ, zero, suc, ◌+◌, ◌/◌, ◌%◌, ◌<◌, List, ◌++◌, map, slice_index, refl}
use Rattle.std.proofs.Common.{ap, ◌∙◌, arith}
use Rattle.std.specs.List.{AllByRecursion, range_with_len}
use Rattle.std.proofs.lemmas.List.{length-append}
use Rattle.std.proofs.ByRecursion.{All-append}
use Rattle.std.proofs.lemmas.List.FromFn.{length-map-range_with_len}
use Rattle.cipher.specs.Bytes.{to_le}
use Rattle.cipher.specs.Blocks.{Bytes, Make}
use Rattle.cipher.specs.Rc5.{rc5, encrypted, halves_bytes}
use Rattle.cipher.specs.Adding.{adding}

-- the bytes of a number are bytes
pub bytes_to_le : (n x : ℕ) → Bytes n (to_le n x)
unfolding to_le
bytes_to_le zero x = (refl, tt)
bytes_to_le (suc n) x = let rest = bytes_to_le n (x / 256) in (ap suc rest.0, (omega arith, rest.1))

bytes_append : (m n : ℕ) (xs ys : List ℕ) → Bytes m xs → Bytes n ys → Bytes (m + n) (xs ++ ys)
bytes_append m n xs ys p q =
    (length-append xs ys ∙ (λ i. p.0 i + q.0 i), All-append (λ b. b < 256) xs ys p.1 q.1)

pub rc5_whole : (key block : List ℕ) → Bytes 16 key → Bytes 8 block → Bytes 8 (rc5 key block)
unfolding rc5 encrypted halves_bytes
rc5_whole key block k b = bytes_append 4 4 _ _ (bytes_to_le 4 _) (bytes_to_le 4 _)

all_sums : (f : ℕ → ℕ) (a n : ℕ) → AllByRecursion (λ b. b < 256) (map (λ m. f m % 256) (range_with_len a n))
all_sums f a zero = tt
all_sums f a (suc n) = (omega arith, all_sums f (a + 1) n)

pub adding_whole : (key block : List ℕ) → Bytes 16 key → Bytes 16 block → Bytes 16 (adding key block)
unfolding adding
adding_whole key block k b =
    let sum : ℕ → ℕ = λ m. slice_index block m + slice_index key m + 1 in
    (length-map-range_with_len (λ m. sum m % 256) 0 16, all_sums sum 0 16)

abbrev pub rc5_make : Make
rc5_make = record { width = 8; at_least = omega arith; at_most = omega arith; value = rc5; whole = rc5_whole }

abbrev pub adding_make : Make
adding_make = record { width = 16; at_least = omega arith; at_most = omega arith; value = adding; whole = adding_whole }
