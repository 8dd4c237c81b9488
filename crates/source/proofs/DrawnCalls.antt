-- A call of a pebbled source by the rule draws the next key.
use Rattle.std.proofs.Common.{◌≡◌, ℕ, ◌+◌, ◌^◌, ◌<◌, Ok, sym, ap, ◌∙◌, ap₂, arith}
use Rattle.cipher.specs.Blocks.{Make}
use Rattle.cipher.specs.declared.block.Block.{Ghosts}
use Rattle.cipher.specs.declared.key.Key.{Key}
use Rattle.chain.specs.Chain.{step}
use Rattle.pebbles.specs.Levels.{Gives, call}
use Rattle.pebbles.proofs.Draws.{steps_placed}
use Rattle.source.specs.declared.pebbled.Pebbled.{Pebbled}
use Rattle.source.specs.Chains.{key_from}
use Rattle.source.specs.Meanings.{stepped}
use Rattle.source.specs.Sources.{Draw, no_key}
use Rattle.source.proofs.KeysFrom.{key_first, keys_stay}

pub draw_given : {B : Type 0} {b : Ghosts B} (make : Make) (p p' : Pebbled B b) (r : Key × ℕ) → p.given < 2 ^ p.size.bits
    → Gives (call (step make) (2 ^ p.size.bits) (p.given + 1) p.levels) r.0 r.1 p'.levels → p'.given ≡ p.given + 1 → p'.size ≡ p.size
    → Draw (stepped make) p (Ok r) p'
draw_given make p p' r more gives given size = record {
  same = ap (λ s. 2 ^ s.bits) size;
  stay = λ m later within.
      ap₂ (λ s n. key_from make p'.levels s.bits n m) size given ∙ keys_stay make p.size.bits p.given p.levels _ _ _ gives more m later;
  gives = λ _.
      ap₂ (λ key steps. Ok (key, steps)) (key_first make p.size.bits p.given p.levels _ _ _ gives more)
      (sym gives.steps ∙ steps_placed no_key (step make) p.size.bits 12 p.given p.levels p.placed);
  grows = λ _. given;
  refuses = λ none. absurd (omega arith);
  ends = λ none. absurd (omega arith);
}
