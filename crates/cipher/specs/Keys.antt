-- A key as 16 bytes.
use Rattle.std.specs.Prelude.{ℕ, List, ◌++◌, take, drop}
use Rattle.cipher.specs.Bytes.{from_be, to_be}
use Rattle.cipher.specs.declared.key.Key.{Key}

unfoldable pub key_bytes : Key → List ℕ
key_bytes k = to_be 8 k.high ++ to_be 8 k.low

unfoldable pub key_of : List ℕ → Key
key_of bytes = record { high = from_be (take 8 bytes); low = from_be (drop 8 bytes) }
