use Rattle.std.proofs.Common.{◌≡◌, ℕ, List, ◌++◌, map, get_or, take, drop, sym, ap, ◌∙◌}
use Rattle.std.specs.List.{range_with_len}
use Rattle.cipher.specs.declared.rc5.Halves.{Halves}
use Rattle.cipher.specs.Bytes.{from_le}
use Rattle.cipher.specs.Rc5.{encrypted, halves_bytes, halves_of, rounds, whitened}
use Rattle.cipher.proofs.ByteLaws.{spelled, from_le_4, to_le_4}
use Rattle.cipher.proofs.rc5.Rc5Block.encrypt.Goals as goal

abbrev four : List ℕ → List ℕ
four l = map (λ i. get_or l i 0) (range_with_len 0 4)

pub returns : goal.returns
unfolding encrypted halves_of halves_bytes
returns c =
    let table = c.args.self.now.table in
    let block = c.args.block in
    let done = c.rounds-done.result in
    let each = sym (spelled block 16 c.well_formed.1.0.1.0.1) in
    let a = c.from_le_bytes.ensures ∙ from_le_4 _ _ _ _ ∙ ap (λ l. from_le (take 4 (take 8 l))) each in
    let b = c.from_le_bytes-2.ensures ∙ from_le_4 _ _ _ _ ∙ ap (λ l. from_le (drop 4 (take 8 l))) each in
    let plain : ◌≡◌ {A = Halves} (record { a = c.from_le_bytes.result; b = c.from_le_bytes-2.result }) (halves_of (take 8 block)) = λ i. record { a = a i; b = b i } in
    let rounded = c.rounds-done.ensures ∙ ap (rounds 12 table) (c.whitened.ensures ∙ ap (whitened table) plain) in
    let written : four c.to_le_bytes.result ++ four c.to_le_bytes-2.result ≡ halves_bytes done =
    (λ i. four (c.to_le_bytes.ensures i) ++ four (c.to_le_bytes-2.ensures i)) ∙ (λ i. to_le_4 done.a i ++ to_le_4 done.b i) in
    let front = written ∙ ap halves_bytes rounded in
    λ i. front i ++ drop 8 (each i)
