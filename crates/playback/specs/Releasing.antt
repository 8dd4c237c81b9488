-- What is still to go out of a node, and what one release says of it.
use Rattle.std.specs.Prelude.{◌≡◌, ℕ, List, [], ◌∷◌, Some, None, Option}
use Rattle.cipher.specs.Blocks.{Make}
use Rattle.link.specs.Receiver.{Answer, after, released}
use Rattle.node.specs.Answers.{released_says, written}
use Rattle.node.specs.declared.released.Released.{Released}
use Rattle.playback.specs.Parts.{Part, silent, asking, receiving, until_none}

-- what releases until none let out, and the node after them
abbrev pub to_go_out : Make → Part → List Answer
to_go_out cipher silent = []
to_go_out cipher (asking node) = []
to_go_out cipher (receiving r) = released cipher r (until_none cipher r)

abbrev pub settled : Make → Part → Part
settled cipher silent = silent
settled cipher (asking node) = asking node
settled cipher (receiving r) = receiving (after cipher r (until_none cipher r))

-- what a release answered, with the buffer after it
abbrev pub told_out : Option Released → List ℕ → Option Answer
told_out None buffer = None
told_out (Some x) buffer = Some (released_says x buffer)

-- one release: the first of what is to go out, or none where nothing is
abbrev pub LetsOut : Make → Part → Part → Option Answer → Type 0
LetsOut cipher before after None = (to_go_out cipher before ≡ []) × (settled cipher before ≡ after)
LetsOut cipher before after (Some answer) = (to_go_out cipher before ≡ answer ∷ to_go_out cipher after) × (settled cipher before ≡ settled cipher after)

-- what it wrote
abbrev pub wrote : Option Answer → List ℕ
wrote None = []
wrote (Some answer) = written answer

-- how much of the buffer it has
abbrev pub out_length : Option Released → ℕ
out_length None = 0
out_length (Some x) = x.length
