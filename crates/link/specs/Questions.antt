-- A call asks its questions in order, and the first no refuses it.
use Rattle.std.specs.Prelude.{Bool, cond, List, [], ◌∷◌, Some, None, Option}
use Rattle.refusal.specs.declared.Refusal.{Refusal}

-- a question: the refusal that a no gives, and the answer
abbrev pub Question : Type 0
Question = Refusal × Bool

-- the refusal of the first question answered no
abbrev pub first_no : List Question → Option Refusal
first_no [] = None
first_no (question ∷ rest) = cond question.1 (first_no rest) (Some question.0)

-- what a call comes to: refused by its first no, or granted
abbrev pub unless : {A : Type 0} → Option Refusal → (Refusal → A) → A → A
unless None refuse grant = grant
unless (Some refusal) refuse grant = refuse refusal
