-- What reading answers of byte strings that begin with their kind and have its length.
use Rattle.std.proofs.Common.{◌≡◌, ℕ, ◌<◌, ◌≤◌, true, List, length, get_or, Ok, arith}
use Rattle.std.proofs.lemmas.Bool.Decides.{nat_tests}
use Rattle.packet.specs.Kinds.{a_request, an_answer, a_data, a_key}
use Rattle.packet.specs.Reading.{is_kind, of_length, request_of, answer_of, data_of, disclosure_of, read_packet}

pub this_kind : (kind : ℕ) (bytes : List ℕ) → 0 < length bytes → get_or bytes 0 0 ≡ kind → is_kind kind bytes ≡ true
this_kind kind bytes some first = grind (arith, nat_tests)

pub of_length_yes : {P : Type 0} (low high : ℕ) (fields : List ℕ → P) (bytes : List ℕ) → low ≤ length bytes → length bytes ≤ high → of_length low high fields bytes ≡ Ok (fields bytes)
of_length_yes low high fields bytes l h = grind (arith, nat_tests)

pub reads_request : (bytes : List ℕ) → length bytes ≡ 9 → get_or bytes 0 0 ≡ 1 → read_packet bytes ≡ Ok (a_request (request_of bytes))
reads_request bytes long first = grind (arith, nat_tests)

pub reads_answer : (bytes : List ℕ) → length bytes ≡ 48 → get_or bytes 0 0 ≡ 2 → read_packet bytes ≡ Ok (an_answer (answer_of bytes))
reads_answer bytes long first = grind (arith, nat_tests)

pub reads_data : (bytes : List ℕ) → 12 ≤ length bytes → length bytes ≤ 76 → get_or bytes 0 0 ≡ 3 → read_packet bytes ≡ Ok (a_data (data_of bytes))
reads_data bytes low high first = grind (arith, nat_tests)

pub reads_key : (bytes : List ℕ) → length bytes ≡ 19 → get_or bytes 0 0 ≡ 4 → read_packet bytes ≡ Ok (a_key (disclosure_of bytes))
reads_key bytes long first = grind (arith, nat_tests)
