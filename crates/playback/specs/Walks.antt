-- What is still to come of a walk, and what one step takes off it.
use Rattle.std.specs.Prelude.{◌≡◌, ℕ, List, [], ◌∷◌, ◌++◌, map, Some, None, Option}
use Rattle.cipher.specs.Blocks.{Make}
use Rattle.cipher.specs.declared.key.Key.{Key}
use Rattle.capture.specs.Ahead.{ahead}
use Rattle.capture.specs.Format.{Record, record_said}
use Rattle.link.specs.Receiver.{refused, holds, steps, none, out}
use Rattle.node.specs.Answers.{released_says, written}
use Rattle.playback.specs.declared.step as step
use Rattle.capture.specs.declared.forms.Time.{Time}
use Rattle.playback.specs.declared.walk as walk
use Rattle.playback.specs.Parts.{Part}
use Rattle.playback.specs.Steps.{Hearing, too_soon, repeated, asked, has_joined, answered, Step, heard, let_out, walked}
use Rattle.playback.specs.Releasing.{to_go_out, settled}
use Rattle.playback.specs.Stages.{part_of, outcome_said}

-- first what a granted key lets out, then the records
abbrev pub onwards : Make → Key → Part → Option Time → List Record → List Step
onwards cipher pair part None xs = walked cipher pair part xs
onwards cipher pair part (Some m) xs = map (let_out m.seconds m.micros) (to_go_out cipher part) ++ walked cipher pair (settled cipher part) xs

abbrev pub to_come : {B : Type 0} → Make → walk.Walk.Walk B → List Step
to_come cipher w = onwards cipher w.pair (part_of w.stage) w.releasing (ahead w.records)

-- what a step of the code says, with the buffer after it
abbrev pub step_said : step.Step.Step → List ℕ → Step
step_said (step.Step.TheVariants.Heard r outcome) buffer = heard (record_said r) (outcome_said outcome)
step_said (step.Step.TheVariants.Out m released) buffer = let_out m.seconds m.micros (released_says released buffer)

-- a step takes the first off what is to come
abbrev pub StepsOn : Option Step → List Step → List Step → Type 0
StepsOn None before after = (before ≡ []) × (after ≡ [])
StepsOn (Some s) before after = before ≡ s ∷ after

abbrev pub told_step : Option step.Step.Step → List ℕ → Option Step
told_step None buffer = None
told_step (Some s) buffer = Some (step_said s buffer)

-- what a step writes into the buffer
abbrev pub step_wrote : Option Step → List ℕ
step_wrote None = []
step_wrote (Some (heard x hearing)) = []
step_wrote (Some (let_out seconds micros answer)) = written answer

-- a granted key has its packets go out next
abbrev pub goes_out : Time → Hearing → Option Time
goes_out m too_soon = None
goes_out m repeated = None
goes_out m asked = None
goes_out m has_joined = None
goes_out m (answered (refused refusal)) = None
goes_out m (answered (holds count)) = None
goes_out m (answered (steps count)) = Some m
goes_out m (answered none) = None
goes_out m (answered (out interval number payload verdict)) = None

-- what a granted key lets out comes first; where it lets out no more, the records go on
abbrev pub LetsOn : Option Step → List Step → List Step → Option Time → Type 0
LetsOn None before after releasing = (before ≡ after) × (releasing ≡ None)
LetsOn (Some s) before after releasing = before ≡ s ∷ after

-- how much of the buffer a step has
abbrev pub payload_length : Option step.Step.Step → ℕ
payload_length None = 0
payload_length (Some (step.Step.TheVariants.Heard r outcome)) = 0
payload_length (Some (step.Step.TheVariants.Out m x)) = x.length
