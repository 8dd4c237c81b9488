-- What a reader of records has before it, and what taking one does.
use Rattle.std.specs.Prelude.{◌≡◌, ℕ, ◌+◌, true, List, [], ◌∷◌, ◌++◌, length, Some, None, Option}
use Rattle.std.specs.Option.{option_map}
use Rattle.capture.specs.declared.forms as forms
use Rattle.capture.specs.declared.records.Records.{Records}
use Rattle.capture.specs.Format.{Record, record_said, record_bytes, record_length, regular}
use Rattle.capture.specs.Reading.{records}

-- the bytes from the next record on
abbrev pub unread : Records → List ℕ
unread s = s.rest.now

-- the records that are still to come
abbrev pub ahead : Records → List Record
ahead s = records s.format.order s.format.limit (unread s)

-- the first record was taken off, and its bytes
pub record Takes (before after : Records) (r : Record) : Type 0 where
  pub first : ahead before ≡ r ∷ ahead after
  pub split : unread before ≡ record_bytes before.format.order r ++ unread after
  pub long : length (unread before) ≡ record_length r + length (unread after)
  pub fits : regular before.format.limit r ≡ true

-- none was ahead, none is, and what is unread stays
pub record Ends (before after : Records) : Type 0 where
  pub none : ahead before ≡ []
  pub still : ahead after ≡ []
  pub same : unread after ≡ unread before

abbrev pub Taken : Records → Records → Option Record → Type 0
Taken before after (Some r) = Takes before after r
Taken before after None = Ends before after

-- what `next` gives and leaves: the first record ahead is taken off, and the format stays
pub record GivesRecord (before : Records) (given : Option forms.Record.Record) (after : Records) : Type 0 where
  pub taken : Taken before after (option_map record_said given)
  pub format : after.format ≡ before.format
