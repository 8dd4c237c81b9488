-- One pair of digits more of a text that is read, and its end.
use Rattle.std.proofs.Common.{◌≡◌, ℕ, ◌<◌, ◌≤◌, Bool, true, false, List, [], ◌∷◌, ◌++◌, length, get_or, drop, nat_eq, Some, None, Option, refl, ap, append_assoc, append-nil, arith, take_all, length-drop}
use Rattle.std.specs.Bool.{then_some}
use Rattle.std.specs.Option.{option_map}
use Rattle.byte_text.specs.Text.{byte_of, with_byte, bytes_of}

-- bytes that were read, in front of what the rest says
abbrev pub after : List ℕ → Option (List ℕ) → Option (List ℕ)
after bs = option_map (λ more. bs ++ more)

pub after_more : (bs : List ℕ) (b : ℕ) (more : Option (List ℕ)) → after (bs ++ b ∷ []) more ≡ after bs (with_byte (Some b) more)
after_more bs b None = refl
after_more bs b (Some more) = ap Some (append_assoc bs (b ∷ []) more)

pub after_none : (bs : List ℕ) (more : Option (List ℕ)) → after bs (with_byte None more) ≡ None
after_none bs None = refl
after_none bs (Some more) = refl

pub bytes_next : (rest : List ℕ) → 2 ≤ length rest → bytes_of rest ≡ with_byte (byte_of (get_or rest 0 0) (get_or rest 1 0)) (bytes_of (drop 2 rest))
unfolding bytes_of
bytes_next [] h = absurd (omega arith)
bytes_next (x ∷ []) h = absurd (omega arith)
bytes_next (x ∷ y ∷ rest) h = refl

-- where no pair is left, the text is read if nothing is left
pub after_short : (bs rest : List ℕ) → length rest < 2 → after bs (bytes_of rest) ≡ then_some (nat_eq (length rest) 0) bs
unfolding bytes_of
after_short bs [] h = ap Some (append-nil bs)
after_short bs (x ∷ []) h = refl
after_short bs (x ∷ y ∷ rest) h = absurd (omega arith)

pub option_map-then_some : {A B : Type 0} (f : A → B) (b : Bool) (x : A) → option_map f (then_some b x) ≡ then_some b (f x)
option_map-then_some f true x = refl
option_map-then_some f false x = refl

pub ruleset reading = (after_more, after_none, bytes_next, after_short, option_map-then_some, take_all, length-drop)
