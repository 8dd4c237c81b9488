-- A source that serves keys still serves them after a draw.
use Rattle.std.proofs.Common.{◌≡◌, ℕ, ◌+◌, ◌<◌, ◌≤◌, false, eqb, Ok, Err, sym, ap, ◌∙◌, arith}
use Rattle.std.proofs.lemmas.Bool.{ne_eqb}
use Rattle.cipher.specs.declared.key.Key.{Key}
use Rattle.source.specs.Sources.{Answer, Draw, Source}
use Rattle.base.specs.declared.drawing.Drawing.{Drawing}
use Rattle.base.specs.Keys.{Serves, key_from}

-- a key behind K_0
pub key_behind : (zeroth : Key) (key : ℕ → Key) (j : ℕ) → 1 ≤ j → key_from zeroth key j ≡ key j
key_behind zeroth key j h = let some : eqb j 0 ≡ false = ne_eqb j 0 (λ e. omega arith) in rw some

-- the key that an answer gives
abbrev key_in : Key → Answer → Key
key_in other (Ok p) = p.0
key_in other (Err refusal) = other

pub serves_on : {S : Type 0} (source : S → Source) (a a' : Drawing S) (r : Answer) (given : Key) (steps : ℕ) → Draw source a.source r a'.source → (source a.source).drawn < (source a.source).count → r ≡ Ok (given, steps) → a'.last ≡ given →
    (zeroth : Key) (n : ℕ) (key : ℕ → Key) → Serves source a zeroth n key → Serves source a' zeroth n key
serves_on source a a' r given steps draw left is held zeroth n key s =
    let next = (source a.source).drawn + 1 in
    let grew : (source a'.source).drawn ≡ next = draw.grows left in
    let gave : given ≡ (source a.source).key next = ap (key_in given) (sym is ∙ draw.gives left) in
    let right : (source a.source).key next ≡ key next = s.to_come next (omega arith) (omega (arith, s.count)) in
    record {
      count = draw.same ∙ s.count;
      last = held ∙ gave ∙ right ∙ sym (key_behind zeroth key next (omega arith)) ∙ sym (ap (key_from zeroth key) grew);
      to_come = λ j later within. draw.stay j (omega (arith, grew)) (omega (arith, s.count)) ∙ s.to_come j (omega (arith, grew)) within;
    }
