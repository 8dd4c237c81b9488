-- The adding block, for the bench: each byte is the sum of block, key and one.
use Rattle.std.specs.Prelude.{ℕ, ◌+◌, ◌%◌, List, map, slice_index}
use Rattle.std.specs.List.{range_with_len}

unfoldable pub adding : List ℕ → List ℕ → List ℕ
adding key block = map (λ m. (slice_index block m + slice_index key m + 1) % 256) (range_with_len 0 16)
