-- The keys that a pebbled source gives from its levels on.
use Rattle.std.proofs.Common.{◌≡◌, ℕ, zero, suc, ◌+◌, ◌-◌, ◌^◌, ◌<◌, ◌≤◌, refl, ap, arith}
use Rattle.std.proofs.lemmas.List.FromFn.{get_or-map-range_with_len}
use Rattle.cipher.specs.Blocks.{Make}
use Rattle.cipher.specs.declared.key.Key.{Key}
use Rattle.chain.specs.Chain.{down, step}
use Rattle.pebbles.specs.Levels.{Gives, Levels, call, levels_after}
use Rattle.pebbles.specs.Levels.{down as stepped}
use Rattle.pebbles.proofs.Draws.{draws_chain, draws_next}
use Rattle.source.specs.Chains.{key_from}
use Rattle.source.specs.Sources.{no_key}

-- the rule's walk, over any step, is the chain's
pub same_down : (make : Make) (key : Key) (s : ℕ) → stepped (step make) key s ≡ down make key s
unfolding down
same_down make key zero = refl
same_down make key (suc s) = ap (step make) (same_down make key s)

-- a call gives the first key, and leaves the others
module _ (make : Make) (k g : ℕ) (ls after : Levels Key) (key : Key) (taken : ℕ) (gives : Gives (call (step make) (2 ^ k) (g + 1) ls) key taken after) (more : g < 2 ^ k) where
  pub key_first : key ≡ key_from make ls k g (g + 1)
  unfolding key_from
  key_first = grind (arith, draws_next (step make) no_key (2 ^ k) (2 ^ k - g) g ls after key taken gives)

  pub keys_stay : (m : ℕ) → g + 1 < m → key_from make after k (g + 1) m ≡ key_from make ls k g m
  unfolding key_from
  keys_stay m later = grind (arith, draws_next (step make) no_key (2 ^ k) (2 ^ k - g) g ls after key taken gives)

-- the keys of an unused source are the chain
pub keys_chain : (make : Make) (last : Key) (k : ℕ) (ls : Levels Key) → 1 ≤ k → k ≤ 12 → ls ≡ levels_after (step make) last k 12 0
    → (m : ℕ) → 1 ≤ m → m ≤ 2 ^ k → key_from make ls k 0 m ≡ down make last (2 ^ k - m)
unfolding key_from
keys_chain make last k ls some most unused m from to = grind (arith, draws_chain, get_or-map-range_with_len, same_down)
