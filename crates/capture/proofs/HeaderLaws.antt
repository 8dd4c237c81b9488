-- The header: its bytes, and that reading and writing are inverse.
use Rattle.std.proofs.Common.{◌≡◌, ℕ, ◌+◌, ◌^◌, ◌<◌, ◌≤◌, Bool, true, false, List, ◌++◌, length, get_or, take, Ok, Err, Result, sym, refl, ap, ◌∙◌, subst, arith}
use Rattle.std.specs.List.{AllByRecursion}
use Rattle.std.proofs.lemmas.List.{append_assoc, length-append, take_at}
use Rattle.std.proofs.lemmas.Bool.{cond-true, cond-false, cond_both, false_from_ne_true, both_ways}
use Rattle.refusal.specs.declared.Refusal.{Refusal}
use Rattle.refusal.specs.declared.Refusal.TheVariants.{NotACapture}
use Rattle.cipher.specs.Bytes.{to_le, to_be}
use Rattle.cipher.proofs.ByteLaws.{Byte}
use Rattle.packet.specs.Writing.{filled}
use Rattle.capture.specs.declared.forms.ByteOrder.{ByteOrder}
use Rattle.capture.specs.declared.forms.ByteOrder.TheVariants.{Little, Big}
use Rattle.capture.specs.declared.forms.Header.{Header}
use Rattle.capture.specs.Format.{marks, header_bytes}
use Rattle.capture.specs.Reading.{begins_with, header_at, read_header, HeaderForm}
use Rattle.capture.proofs.FieldLaws.{length_number, words_read, words_again}
use Rattle.capture.proofs.FrontLaws.{begins_split, begins_take, begins_from}

pub length_marks : (o : ByteOrder) → length (marks o) ≡ 8
unfolding marks
length_marks o = grind (arith, length-append, length_number)

pub length_header_bytes : (h : Header) → length (header_bytes h) ≡ 24
unfolding header_bytes
length_header_bytes h = grind (arith, length-append, length_number, length_marks)

header_long : (h : Header) (bytes rest : List ℕ) → bytes ≡ header_bytes h ++ rest → length bytes ≡ 24 + length rest
header_long h bytes rest e = grind (arith, length-append, length_header_bytes)

-- the marks of a header come first
pub header_marks : (h : Header) (bytes rest : List ℕ) → bytes ≡ header_bytes h ++ rest → begins_with (marks h.order) bytes ≡ true
unfolding header_bytes
header_marks h bytes rest e = grind (arith, begins_from, append_assoc)

-- what begins with the marks of an order has them as its first 8 bytes
marks_first : (o : ByteOrder) (bytes : List ℕ) → begins_with (marks o) bytes ≡ true → take 8 bytes ≡ marks o
marks_first o bytes h = grind (arith, begins_split, take_at, length_marks)

-- bytes that begin with the marks, and are long enough, begin with a header
pub header_again : (o : ByteOrder) (bytes : List ℕ) → AllByRecursion Byte bytes → 24 ≤ length bytes → begins_with (marks o) bytes ≡ true → header_bytes (header_at o bytes) ≡ take 24 bytes
unfolding header_bytes
header_again o bytes all room h = words_again o (marks o) 8 bytes all (omega arith) (sym (marks_first o bytes h))

-- where the marks of the one order stand, those of the other do not
marks_apart : (bytes : List ℕ) → begins_with (marks Big) bytes ≡ true → begins_with (marks Little) bytes ≡ true → ⊥
unfolding marks to_le to_be
marks_apart bytes big little =
    let first : ◌≡◌ {A = ℕ} 0xd4 0xa1 = ap (λ l. get_or l 0 0) (sym (marks_first Little bytes little) ∙ marks_first Big bytes big) in
    omega arith

-- whether a header stands there, as reading asks it
abbrev Stands : ByteOrder → List ℕ → Bool
Stands o bytes = begins_with (header_bytes (header_at o bytes)) bytes

stands_from : (o : ByteOrder) (bytes : List ℕ) → AllByRecursion Byte bytes → 24 ≤ length bytes → begins_with (marks o) bytes ≡ true → Stands o bytes ≡ true
stands_from o bytes all room h = grind (arith, begins_take, length_header_bytes, header_again)

stands_marks : (o : ByteOrder) (bytes : List ℕ) → Stands o bytes ≡ true → (24 ≤ length bytes) × (begins_with (marks o) bytes ≡ true)
stands_marks o bytes h =
    let split = begins_split (header_bytes (header_at o bytes)) bytes h in
    let long = header_long (header_at o bytes) bytes _ split in
    (omega arith, header_marks (header_at o bytes) bytes _ split)

stands_not : (o : ByteOrder) (bytes : List ℕ) → (24 ≤ length bytes → begins_with (marks o) bytes ≡ true → ⊥) → Stands o bytes ≡ false
stands_not o bytes no_marks = false_from_ne_true (Stands o bytes) (λ t. let both = stands_marks o bytes t in no_marks both.0 both.1)

-- what a header's bytes hold
header_fields : (h : Header) (rest : List ℕ) → h.zone < 2 ^ 32 → h.accuracy < 2 ^ 32 → h.longest < 2 ^ 32 → h.link < 2 ^ 32 → header_at h.order (header_bytes h ++ rest) ≡ h
unfolding header_bytes
header_fields h rest zone accuracy longest link =
    let reads = words_read h.order (marks h.order) 8 h.zone h.accuracy h.longest h.link (length_marks h.order) (header_bytes h ++ rest) rest refl in
    λ i. record { order = h.order; zone = reads.first zone i; accuracy = reads.second accuracy i; longest = reads.third longest i; link = reads.fourth link i }

-- a header is read where its bytes stand
found_back : (o : ByteOrder) (bytes : List ℕ) → Stands o bytes ≡ true → read_header bytes ≡ Ok (header_at o bytes)
found_back Little bytes t = cond-true _ _ _ t
found_back Big bytes t =
    cond-false _ _ _ (stands_not Little bytes (λ room. marks_apart bytes (stands_marks Big bytes t).1)) ∙ cond-true _ _ _ t

pub read_header_back : (h : Header) (rest : List ℕ) → h.zone < 2 ^ 32 → h.accuracy < 2 ^ 32 → h.longest < 2 ^ 32 → h.link < 2 ^ 32 → read_header (header_bytes h ++ rest) ≡ Ok h
read_header_back h rest zone accuracy longest link =
    let same = header_fields h rest zone accuracy longest link in
    found_back h.order _ (begins_from _ _ rest (ap (λ x. header_bytes x ++ rest) (sym same))) ∙ ap Ok same

-- a header stands where some bytes of a header stand
stands_any : (h : Header) (bytes rest : List ℕ) → AllByRecursion Byte bytes → bytes ≡ header_bytes h ++ rest → (o : ByteOrder) → h.order ≡ o → Stands o bytes ≡ true
stands_any h bytes rest all e o same =
    let long = header_long h bytes rest e in
    ap (λ o. Stands o bytes) (sym same) ∙ stands_from h.order bytes all (omega arith) (header_marks h bytes rest e)

none_stands : (bytes : List ℕ) → AllByRecursion Byte bytes → Stands Little bytes ≡ false → Stands Big bytes ≡ false → (h : Header) (rest : List ℕ) (o : ByteOrder) → h.order ≡ o → bytes ≡ header_bytes h ++ rest → ⊥
none_stands bytes all little big h rest Little same e = both_ways _ little (stands_any h bytes rest all e Little same)
none_stands bytes all little big h rest Big same e = both_ways _ big (stands_any h bytes rest all e Big same)

pub header_form : (bytes : List ℕ) → AllByRecursion Byte bytes → HeaderForm bytes (read_header bytes)
header_form bytes all =
    let Good : Result Header Refusal → Type 0 = HeaderForm bytes in
    let first : (o : ByteOrder) → Stands o bytes ≡ true → take 24 bytes ≡ header_bytes (header_at o bytes) =
    λ o t. let both = stands_marks o bytes t in sym (header_again o bytes all both.0 both.1) in
    cond_both _ _ _ Good (first Little)
    (λ f. cond_both _ _ _ Good (first Big) (λ g. λ h rest e. none_stands bytes all f g h rest h.order refl e))

-- what is answered where the marks of an order stand, and where none do
pub reads_marked : (o : ByteOrder) (bytes : List ℕ) (h : Header) → AllByRecursion Byte bytes → 24 ≤ length bytes → begins_with (marks o) bytes ≡ true → h ≡ header_at o bytes → Ok h ≡ read_header bytes
reads_marked o bytes h all room t same = grind (arith, stands_from, found_back)

pub reads_unmarked : (bytes : List ℕ) → ((o : ByteOrder) → 24 ≤ length bytes → begins_with (marks o) bytes ≡ true → ⊥) → Err NotACapture ≡ read_header bytes
reads_unmarked bytes none =
    sym (cond-false _ _ _ (stands_not Little bytes (none Little)) ∙ cond-false _ _ _ (stands_not Big bytes (none Big)))

-- and then the form of the answer too
pub answered : (bytes : List ℕ) (r : Result Header Refusal) → AllByRecursion Byte bytes → r ≡ read_header bytes → HeaderForm bytes r
answered bytes r all e = subst (HeaderForm bytes) (sym e) (header_form bytes all)

-- what was written reads back
pub written_back : (h : Header) (out after : List ℕ) → h.zone < 2 ^ 32 → h.accuracy < 2 ^ 32 → h.longest < 2 ^ 32 → h.link < 2 ^ 32 → after ≡ filled (header_bytes h) out → read_header after ≡ Ok h
unfolding filled
written_back h out after zone accuracy longest link e = ap read_header e ∙ read_header_back h _ zone accuracy longest link
