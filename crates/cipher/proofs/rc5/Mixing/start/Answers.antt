use Rattle.std.proofs.Common.{rules, ◌≡◌, ◌*◌, ◌+◌, [], length, get_or, take, drop, sym, ap, ◌∙◌, arith, length-drop}
use Rattle.std.proofs.lemmas.List.{length-take-le}
use Rattle.std.specs.Simd.{first_chunks}
use Rattle.cipher.specs.Bytes.{from_le}
use Rattle.cipher.specs.Keys.{key_bytes}
use Rattle.cipher.specs.Rc5.{key_words, unmixed}
use Rattle.cipher.proofs.Arrays.{chunk_at, filled_by}
use Rattle.cipher.proofs.ByteLaws.{spelled, from_le_4}
use Rattle.cipher.proofs.KeyLaws.{length_key_bytes}
use Rattle.cipher.proofs.rc5.Mixing.start.Goals as goal

pub returns : goal.returns
unfolding unmixed key_words
returns c =
    let bytes = c.to_bytes-bytes.result in
    let is : bytes ≡ key_bytes c.args.key = c.to_bytes-bytes.ensures.value in
    let long : length bytes ≡ 16 = ap length is ∙ length_key_bytes c.args.key in
    let words = c.as_chunks.result.0.now in
    let cut : words ≡ first_chunks 4 4 bytes = search rules in
    let each = filled_by (λ i. from_le (take 4 (drop (4 * i) bytes))) 4 c.from_fn.ensures.items (λ i r q below k.
    let word = get_or words i [] in
    let read : r ≡ get_or word 0 0 + get_or word 1 0 * 256 + get_or word 2 0 * 65536 + get_or word 3 0 * 16777216 = search rules in
    let chunk = ap (λ l. get_or l i []) cut ∙ chunk_at 4 4 i bytes below in
    let four = ap length chunk ∙ length-take-le 4 (drop (4 * i) bytes) (omega (arith, length-drop (4 * i) bytes)) in
    (search rules, read ∙ from_le_4 _ _ _ _ ∙ ap from_le (sym (spelled word 4 four) ∙ chunk))) in
    λ i. record { table = c.first_table.ensures i; key = (each ∙ ap key_words is) i; a = 0; b = 0 }
