-- A pebbled source with the levels of an unused one.
use Rattle.std.proofs.Common.{◌≡◌, ℕ, refl, ap, ◌∙◌, subst}
use Rattle.cipher.specs.Blocks.{Make}
use Rattle.cipher.specs.declared.block.Block.{Ghosts}
use Rattle.cipher.specs.declared.key.Key.{Key}
use Rattle.chain.specs.Chain.{step}
use Rattle.pebbles.specs.Levels.{levels_after}
use Rattle.source.specs.Chains.{key_from}
use Rattle.source.specs.declared.pebbled.Pebbled.{Pebbled}
use Rattle.source.specs.Meanings.{stepped}
use Rattle.source.specs.Runs.{Run, Stepping, Unused}
use Rattle.source.proofs.KeysFrom.{keys_chain}
use Rattle.source.proofs.WholeRuns.{stepping, whole_run}

module _ {B : Type 0} {b : Ghosts B} (make : Make) (last : Key) (p : Pebbled B b) (k : ℕ) (none : p.given ≡ 0) (bits : p.size.bits ≡ k)
    (levels : p.levels ≡ levels_after (step make) last p.size.bits 12 0) where
  pub unused_pebbled : Unused (stepped make) p make last k
  unused_pebbled = subst (Unused (stepped make) p make last) bits (record {
    least = p.size.least;
    most = p.size.most;
    count = refl;
    none = none;
    keys = λ m from to.
        ap (λ g. key_from make p.levels p.size.bits g m) none
        ∙ keys_chain make last p.size.bits p.levels p.size.least p.size.most levels m from to;
  })

  pub runs_pebbled : Run (stepped make) p make last k × Stepping k
  runs_pebbled = (
    whole_run (stepped make) (λ s. s.size.bits) (λ s. refl) (λ s. refl) p make last k unused_pebbled,
    stepping k unused_pebbled.least unused_pebbled.most,
  )
