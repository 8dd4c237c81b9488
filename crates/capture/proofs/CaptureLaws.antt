-- A whole capture that was written reads back: its header, and then its records.
use Rattle.std.proofs.Common.{◌≡◌, ℕ, ◌^◌, ◌<◌, List, drop, Ok, ap, ◌∙◌}
use Rattle.std.specs.List.{AllByRecursion}
use Rattle.std.proofs.lemmas.List.{drop_at}
use Rattle.capture.specs.declared.forms.Header.{Header}
use Rattle.capture.specs.Format.{Record, header_bytes, records_bytes, capture_bytes}
use Rattle.capture.specs.Reading.{read_header, records, Writable}
use Rattle.capture.proofs.HeaderLaws.{length_header_bytes, read_header_back}
use Rattle.capture.proofs.RecordsLaws.{records_back}

pub capture_header_back : (h : Header) (rs : List Record) → h.zone < 2 ^ 32 → h.accuracy < 2 ^ 32 → h.longest < 2 ^ 32 → h.link < 2 ^ 32 → read_header (capture_bytes h rs) ≡ Ok h
capture_header_back h rs = read_header_back h (records_bytes h.order rs)

pub capture_records_back : (h : Header) (l : ℕ) (rs : List Record) → AllByRecursion (Writable l) rs → l < 2 ^ 32 → records h.order l (drop 24 (capture_bytes h rs)) ≡ rs
capture_records_back h l rs fit small =
    ap (records h.order l) (drop_at (header_bytes h) (records_bytes h.order rs) 24 (length_header_bytes h)) ∙ records_back h.order l rs fit small
