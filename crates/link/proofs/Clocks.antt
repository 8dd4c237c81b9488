-- Laws of the clock: intervals grow with time, and a sender's answers tell the sender's own intervals.
use Rattle.std.proofs.Common.{◌≡◌, ℕ, zero, suc, ◌+◌, ◌-◌, ◌*◌, ◌/◌, ◌<◌, ◌≤◌, true, ℤ, pos, negsuc, ◌+ℤ◌, ◌-ℤ◌, ◌≤ℤ◌, sym, ap, ◌∙◌, inl, inr, suc-mul, le-div_iff_mul-le, zero-mul, div-mul-le_self, arith}
use native.Mathlib.Nat.{div-zero, add-div_right, div-eq_of_lt, div-eq-sub-div}
use Rattle.std.specs.Int.{int_div_euclid}
use Rattle.std.proofs.lemmas.Int.{ints}
use Rattle.std.proofs.lemmas.Bool.{cases_lt}
use Rattle.link.specs.Clock.{Schedule, Clock, intervals_since, interval_at, sender_time, early_at}

quotient_grows : (a b d : ℕ) → a ≤ b → a / d ≤ b / d
quotient_grows a b zero h = omega (arith, div-zero a, div-zero b)
quotient_grows a b (suc d) h =
    let low : a / suc d * suc d ≤ b = omega (arith, div-mul-le_self a (suc d)) in
    (le-div_iff_mul-le (omega arith)).1 low

-- a quotient rounded down grows with what is divided
pub floor_grows : (x y : ℤ) (d : ℕ) → x ≤ℤ y → int_div_euclid x (pos d) ≤ℤ int_div_euclid y (pos d)
floor_grows (pos a) (pos b) d h = let less : a / d ≤ b / d = quotient_grows a b d (omega (arith, ints)) in omega (arith, ints)
floor_grows (pos a) (negsuc b) d h = absurd (omega (arith, ints))
floor_grows (negsuc a) (pos b) d h = omega (arith, ints)
floor_grows (negsuc a) (negsuc b) d h = let less : b / d ≤ a / d = quotient_grows b a d (omega (arith, ints)) in omega (arith, ints)

pub since_grows : (start duration : ℕ) (u v : ℤ) → u ≤ℤ v → intervals_since start duration u ≤ℤ intervals_since start duration v
since_grows start duration u v h = floor_grows (u -ℤ pos start) (v -ℤ pos start) duration (omega (arith, ints))

pub interval_grows : (c : Schedule) (u v : ℤ) → u ≤ℤ v → interval_at c u ≤ℤ interval_at c v
interval_grows c u v h = let more = since_grows c.start c.duration u v h in omega (arith, ints)

-- one divisor more is one more
floor_next : (z : ℤ) (d : ℕ) → 0 < d → int_div_euclid (z +ℤ pos d) (pos d) ≡ int_div_euclid z (pos d) +ℤ pos 1
floor_next (pos a) d h = ap pos (add-div_right a h)
floor_next (negsuc a) d h = elim (cases_lt a d) [
  | inl l ↦
      let sum : negsuc a +ℤ pos d ≡ pos (d - suc a) = omega (arith, ints) in
      let none : (d - suc a) / d ≡ 0 = div-eq_of_lt (omega arith) in
      let first : a / d ≡ 0 = div-eq_of_lt l in
      ap (λ z. int_div_euclid z (pos d)) sum ∙ omega (arith, ints)
  | inr g ↦
      let sum : negsuc a +ℤ pos d ≡ negsuc (a - d) = omega (arith, ints) in
      let less : a / d ≡ (a - d) / d + 1 = div-eq-sub-div h g in
      ap (λ z. int_div_euclid z (pos d)) sum ∙ omega (arith, ints)
]

pub floor_shifts : (z : ℤ) (i d : ℕ) → 0 < d → int_div_euclid (z +ℤ pos (i * d)) (pos d) ≡ int_div_euclid z (pos d) +ℤ pos i
floor_shifts z zero d h =
    let none : z +ℤ pos (0 * d) ≡ z = omega (arith, ints, zero-mul d) in
    ap (λ y. int_div_euclid y (pos d)) none ∙ omega (arith, ints)
floor_shifts z (suc i) d h =
    let more : z +ℤ pos (suc i * d) ≡ (z +ℤ pos (i * d)) +ℤ pos d = omega (arith, ints, suc-mul i d) in
    ap (λ y. int_div_euclid y (pos d)) more ∙ floor_next (z +ℤ pos (i * d)) d h ∙ rw (floor_shifts z i d h) (omega (arith, ints))

-- where the schedule is the base's, the receiver's interval at a time is the base's
pub aligned : (start i duration delay : ℕ) (u : ℤ) → 0 < duration →
    interval_at (record { number = i; start = start + i * duration; duration = duration; delay = delay }) u ≡ intervals_since start duration u
aligned start i duration delay u h =
    let back : (u -ℤ pos (start + i * duration)) +ℤ pos (i * duration) ≡ u -ℤ pos start = omega (arith, ints) in
    let shifted = floor_shifts (u -ℤ pos (start + i * duration)) i duration h in
    let whole : int_div_euclid (u -ℤ pos start) (pos duration) ≡ int_div_euclid (u -ℤ pos (start + i * duration)) (pos duration) +ℤ pos i = ap (λ y. int_div_euclid y (pos duration)) (sym back) ∙ shifted in
    sym (whole ∙ omega (arith, ints))

pub early_before : (c : Clock) (t s m : ℕ) → s ≤ t → early_at c t m ≡ true → early_at c s m ≡ true
early_before c t s m h e =
    let more = interval_grows c.schedule (sender_time c s) (sender_time c t) (omega (arith, ints)) in sym (omega (arith, ints))

pub early_above : (c : Clock) (t m n : ℕ) → m ≤ n → early_at c t m ≡ true → early_at c t n ≡ true
early_above c t m n h e = sym (omega (arith, ints))
