-- What a source has to do with the keys of the rules.
use Rattle.std.specs.Prelude.{◌≡◌, ℕ, ◌<◌, ◌≤◌, cond, ◌==◌}
use Rattle.cipher.specs.declared.key.Key.{Key}
use Rattle.source.specs.Sources.{Source}
use Rattle.base.specs.declared.drawing.Drawing.{Drawing}

-- K_m, for m from 0
abbrev pub key_from : Key → (ℕ → Key) → ℕ → Key
key_from zeroth key m = cond (m == 0) zeroth (key m)

-- A source of n keys serves these keys. The last that it gave is held, K_0 at first; of those before it nothing is left.
pub record Serves {S : Type 0} (source : S → Source) (a : Drawing S) (zeroth : Key) (n : ℕ) (key : ℕ → Key) : Type 0 where
  pub count : (source a.source).count ≡ n
  pub last : a.last ≡ key_from zeroth key (source a.source).drawn
  pub to_come : (j : ℕ) → (source a.source).drawn < j → j ≤ n → (source a.source).key j ≡ key j
