-- Laws of tags, keys and steps that every layer above stands on.
use Rattle.std.proofs.Common.{◌≡◌, ℕ, zero, suc, ◌+◌, sym, ap, ◌∙◌, add-zero, add-suc, add-one}
use Rattle.cipher.specs.Blocks.{Make}
use Rattle.cipher.specs.declared.key.Key.{Key}
use Rattle.chain.specs.Chain.{step, down}

-- s steps and then t steps are s + t steps
pub down_add : (make : Make) (key : Key) (s t : ℕ) → down make (down make key s) t ≡ down make key (s + t)
unfolding down
down_add make key s zero = ap (down make key) (sym (add-zero s))
down_add make key s (suc t) = ap (step make) (down_add make key s t) ∙ ap (down make key) (sym (add-suc s t))

pub down_next : (make : Make) (key : Key) (s : ℕ) → step make (down make key s) ≡ down make key (s + 1)
unfolding down
down_next make key s = rw add-one
