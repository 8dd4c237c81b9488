-- What a call answers where it passes a refusal on.
use Rattle.std.proofs.Common.{◌≡◌, Err, Result, ap, ◌∙◌}
use Rattle.std.specs.Result.{IsErrAnd}
use Rattle.std.proofs.lemmas.Result.{err_from_is_err_and}
use Rattle.refusal.specs.declared.Refusal.{Refusal}

-- the exit of a `?`, as a function reads it
pub passed_on : {A B : Type 0} (says : Result A Refusal → B) (r : Result A Refusal) (e : Refusal) → IsErrAnd r (λ y. y ≡ e) → says r ≡ says (Err e)
passed_on says r e exit = let found = err_from_is_err_and r exit in ap says (found.1 ∙ ap Err found.2)
