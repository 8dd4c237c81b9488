-- A whole run from an unused source, call by call.
use Rattle.std.proofs.Common.{◌≡◌, ℕ, zero, suc, ◌+◌, ◌-◌, ◌^◌, ◌<◌, ◌≤◌, Ok, sym, ap, ◌∙◌, ap₂, add-one, arith}
use Rattle.cipher.specs.Blocks.{Make}
use Rattle.cipher.specs.declared.key.Key.{Key}
use Rattle.chain.specs.Chain.{down}
use Rattle.pebbles.specs.Draws.{same, steps_after}
use Rattle.pebbles.proofs.Runs as runs
use Rattle.pebbles.proofs.Draws.{steps_bounded}
use Rattle.pebbles.proofs.Strides.{exponent_le}
use Rattle.source.specs.Sources.{Answer, Source}
use Rattle.source.specs.Runs.{Calls, Run, Stepping, Unused}

-- two powers of two are the same only where their exponents are
same_power : (a b : ℕ) → 2 ^ a ≡ 2 ^ b → a ≡ b
same_power a b e = grind (arith, exponent_le)

pub stepping : (k : ℕ) → 1 ≤ k → k ≤ 12 → Stepping k
stepping k some most = record {
  counted = (runs.run same 0 k 12 some (omega arith) most).steps;
  bounded = λ g more. steps_bounded k 12 g some (omega arith) most more;
}

-- a source whose steps are those of the rule, over the number of keys that it has
module _ {S : Type 0} (meaning : S → Source) (bits : S → ℕ) (sized : (s : S) → (meaning s).count ≡ 2 ^ bits s)
    (rule : (s : S) → (meaning s).due ≡ steps_after (bits s) 12 (meaning s).drawn)
    (s : S) (make : Make) (last : Key) (k : ℕ) (unused : Unused meaning s make last k)
    (states : ℕ → S) (answers : ℕ → Answer) (begins : states 0 ≡ s) (calls : Calls meaning states answers) where
  -- after g calls
  record SoFar (g : ℕ) : Type 0 where
    count : (meaning (states g)).count ≡ 2 ^ k
    drawn : (meaning (states g)).drawn ≡ g
    keys : (m : ℕ) → g < m → m ≤ 2 ^ k → (meaning (states g)).key m ≡ down make last (2 ^ k - m)

  so_far : (g : ℕ) → g ≤ 2 ^ k → SoFar g
  so_far zero within = record {
    count = ap (λ t. (meaning t).count) begins ∙ unused.count;
    drawn = ap (λ t. (meaning t).drawn) begins ∙ unused.none;
    keys = λ m from to. ap (λ t. (meaning t).key m) begins ∙ unused.keys m (omega arith) to;
  }
  so_far (suc g) within =
      let before = so_far g (omega arith) in
      let call = calls g in
      let on : g + 1 ≡ suc g = add-one g in
      record {
        count = ap (λ i. (meaning (states i)).count) (sym on) ∙ call.same ∙ before.count;
        drawn = ap (λ i. (meaning (states i)).drawn) (sym on) ∙ call.grows (omega (arith, before.count, before.drawn)) ∙ omega (arith, before.drawn);
        keys = λ m from to.
            ap (λ i. (meaning (states i)).key m) (sym on)
            ∙ call.stay m (omega (arith, before.drawn)) (omega (arith, before.count)) ∙ before.keys m (omega arith) to;
      }

  given : (g : ℕ) → g < 2 ^ k → answers g ≡ Ok (down make last (2 ^ k - (g + 1)), steps_after k 12 g)
  given g more =
      let here = so_far g (omega arith) in
      let same_bits : bits (states g) ≡ k = same_power (bits (states g)) k (sym (sized (states g)) ∙ here.count) in
      (calls g).gives (omega (arith, here.count, here.drawn))
      ∙ ap₂ (λ x y. Ok (x, y)) (ap (λ i. (meaning (states g)).key (i + 1)) here.drawn ∙ here.keys (g + 1) (omega arith) (omega arith))
      (rule (states g) ∙ ap₂ (λ b i. steps_after b 12 i) same_bits here.drawn)

  at_end : (meaning (states (2 ^ k))).drawn ≡ (meaning (states (2 ^ k))).count
  at_end = grind (arith, so_far (2 ^ k))

pub whole_run : {S : Type 0} (meaning : S → Source) (bits : S → ℕ) → ((s : S) → (meaning s).count ≡ 2 ^ bits s)
    → ((s : S) → (meaning s).due ≡ steps_after (bits s) 12 (meaning s).drawn)
    → (s : S) (make : Make) (last : Key) (k : ℕ) → Unused meaning s make last k → Run meaning s make last k
whole_run meaning bits sized rule s make last k unused = record {
  gives = λ states answers begins calls. given meaning bits sized rule s make last k unused states answers begins calls;
  refuses = λ states answers begins calls. (calls (2 ^ k)).refuses (at_end meaning bits sized rule s make last k unused states answers begins calls);
  ends = λ states answers begins calls. (calls (2 ^ k)).ends (at_end meaning bits sized rule s make last k unused states answers begins calls);
}
