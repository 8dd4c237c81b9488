-- What holds of a pebbled source over a whole run from an unused one.
use Rattle.std.specs.Prelude.{◌≡◌, ℕ, ◌+◌, ◌-◌, ◌*◌, ◌%◌, ◌^◌, ◌<◌, ◌≤◌, Ok, Err, count_by}
use Rattle.cipher.specs.Blocks.{Make}
use Rattle.cipher.specs.declared.key.Key.{Key}
use Rattle.chain.specs.Chain.{down}
use Rattle.pebbles.specs.Draws.{same, steps_after}
use Rattle.pebbles.specs.Levels.{levels_after, moves}
use Rattle.refusal.specs.declared.Refusal.TheVariants.{NoKeyLeft}
use Rattle.source.specs.Sources.{Answer, Draw, Source}

-- call g leads from the state g to the next, and answers
abbrev pub Calls : {S : Type 0} → (S → Source) → (ℕ → S) → (ℕ → Answer) → Type 0
Calls meaning states answers = (g : ℕ) → Draw meaning (states g) (answers g) (states (g + 1))

-- s is an unused source of the chain of 2 ^ k keys whose last is `last`
pub record Unused {S : Type 0} (meaning : S → Source) (s : S) (make : Make) (last : Key) (k : ℕ) : Type 0 where
  pub least : 1 ≤ k
  pub most : k ≤ 12
  pub count : (meaning s).count ≡ 2 ^ k
  pub none : (meaning s).drawn ≡ 0
  pub keys : (m : ℕ) → 1 ≤ m → m ≤ 2 ^ k → (meaning s).key m ≡ down make last (2 ^ k - m)

-- the steps of the call after g: two for each level above its target, and one more where the place is odd; at most k
pub record Stepping (k : ℕ) : Type 0 where
  pub counted : (g : ℕ) → g < 2 ^ k → steps_after k 12 g ≡ 2 * count_by moves (levels_after {X = ℕ} same 0 k 12 g) + (g + 1) % 2
  pub bounded : (g : ℕ) → g < 2 ^ k → steps_after k 12 g ≤ k

-- every run from s: as many calls as there are keys answer them in their order, with their steps; the call after those refuses and changes nothing
pub record Run {S : Type 0} (meaning : S → Source) (s : S) (make : Make) (last : Key) (k : ℕ) : Type 0 where
  pub gives : (states : ℕ → S) (answers : ℕ → Answer) → states 0 ≡ s → Calls meaning states answers → (g : ℕ) → g < 2 ^ k
      → answers g ≡ Ok (down make last (2 ^ k - (g + 1)), steps_after k 12 g)
  pub refuses : (states : ℕ → S) (answers : ℕ → Answer) → states 0 ≡ s → Calls meaning states answers → answers (2 ^ k) ≡ Err NoKeyLeft
  pub ends : (states : ℕ → S) (answers : ℕ → Answer) → states 0 ≡ s → Calls meaning states answers → states (2 ^ k + 1) ≡ states (2 ^ k)
