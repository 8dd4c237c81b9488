-- What a key is read from: 16 bytes, and they are the key's own.
use Rattle.std.specs.Prelude.{◌≡◌, ℕ, List, length, Result, MatchResult, ◌≢◌}
use Rattle.cipher.specs.declared.key.Key.{Key}
use Rattle.cipher.specs.Keys.{key_bytes}
use Rattle.inputs.specs.declared.fault.Fault.{Fault}
use Rattle.inputs.specs.declared.fault.Fault.TheVariants.{KeyLength}

-- a refusal tells the length, which is another than a key's
abbrev pub KeyRead : List ℕ → Result Key Fault → Type 0
KeyRead bytes r = MatchResult r (λ key. (length bytes ≡ 16) × (key_bytes key ≡ bytes)) (λ fault. (length bytes ≢ 16) × (fault ≡ KeyLength (length bytes)))
