-- A base over one chain is a sender of the link's theorem.
use Rattle.std.specs.Prelude.{◌≡◌, ℕ, ◌+◌, ◌^◌, ◌<◌, ◌≤◌}
use Rattle.cipher.specs.Blocks.{Make}
use Rattle.cipher.specs.declared.key.Key.{Key}
use Rattle.chain.specs.Chain.{down, step}
use Rattle.source.specs.Runs.{Unused}
use Rattle.source.specs.Sources.{Source}
use Rattle.source.specs.declared.key_source.KeySource.{Ghosts}
use Rattle.link.specs.Base.{Setup}
use Rattle.link.specs.Sender.{Sender}

-- two sources mean one chain that ends at the commitment
pub record OfOneChain (cipher : Make) (first second : Source) (commitment : Key) : Type 0 where
  -- K_0 to K_n, each a step below the next
  pub chain : ℕ → Key
  pub steps : (m : ℕ) → m < first.count → chain m ≡ step cipher (chain (m + 1))
  pub zeroth : commitment ≡ chain 0
  pub making : (m : ℕ) → 1 ≤ m → m ≤ first.count → first.key m ≡ chain m
  pub disclosing : (m : ℕ) → 1 ≤ m → m ≤ first.count → second.key m ≡ chain m

-- then a base made of them is a sender
abbrev pub Sends : Make → Source → Source → Setup → Type 0
Sends cipher first second setup = OfOneChain cipher first second setup.commitment → (x : Sender cipher) × (x.setup ≡ setup)

-- two unused pebbled sources of one chain are such sources
abbrev pub PebbledChain : {M D : Type 0} → Make → Ghosts M → Ghosts D → M → D → Key → Type 0
PebbledChain cipher m d first second commitment =
    (last : Key) (k : ℕ) → Unused m.meaning first cipher last k → Unused d.meaning second cipher last k → commitment ≡ down cipher last (2 ^ k)
    → OfOneChain cipher (m.meaning first) (d.meaning second) commitment
