-- What a key source means: its keys, how many of them were given, and what the next call does.
use Rattle.std.specs.Prelude.{◌≡◌, ℕ, ◌+◌, ◌-◌, ◌<◌, ◌≤◌, List, Ok, Err, Result, slice_index_or}
use Rattle.cipher.specs.declared.key.Key.{Key}
use Rattle.refusal.specs.declared.Refusal.{Refusal}
use Rattle.refusal.specs.declared.Refusal.TheVariants.{NoKeyLeft}

-- A source of K_1 to K_n that has given g of them. Those are gone, so K_m has a meaning for the m from g + 1 to n.
pub record Source : Type 0 where
  pub key : ℕ → Key
  pub count : ℕ
  pub drawn : ℕ
  -- the steps that the next call takes
  pub due : ℕ
  pub least : 2 ≤ count
  pub most : count ≤ 4096
  pub within : drawn ≤ count

abbrev pub Answer : Type 0
Answer = Result (Key × ℕ) Refusal

-- A call answers r and leads from s to s'. The keys to come stay as they are. While there is one, the call gives it, with the steps that were
-- due; then it refuses, and changes nothing.
pub record Draw {S : Type 0} (meaning : S → Source) (s : S) (r : Answer) (s' : S) : Type 0 where
  pub same : (meaning s').count ≡ (meaning s).count
  pub stay : (m : ℕ) → (meaning s).drawn + 1 < m → m ≤ (meaning s).count → (meaning s').key m ≡ (meaning s).key m
  pub gives : (meaning s).drawn < (meaning s).count → r ≡ Ok ((meaning s).key ((meaning s).drawn + 1), (meaning s).due)
  pub grows : (meaning s).drawn < (meaning s).count → (meaning s').drawn ≡ (meaning s).drawn + 1
  pub refuses : (meaning s).drawn ≡ (meaning s).count → r ≡ Err NoKeyLeft
  pub ends : (meaning s).drawn ≡ (meaning s).count → s' ≡ s

-- what a list of keys is read with beyond its end
abbrev pub no_key : Key
no_key = record { high = 0; low = 0 }

-- K_m of a list of keys, from K_1 on
abbrev pub kth : List Key → ℕ → Key
kth keys m = slice_index_or keys (m - 1) no_key
