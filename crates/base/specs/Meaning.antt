-- Which base of the link's rules a base stands for, and what its calls come to.
use Rattle.std.specs.Prelude.{◌≡◌, ℕ, ◌+◌, ◌*◌, ◌≤◌, List, Ok, Err, Result}
use Rattle.refusal.specs.declared.Refusal.{Refusal}
use Rattle.cipher.specs.declared.block.Block as block
use Rattle.cipher.specs.Blocks.{Make}
use Rattle.packet.specs.Kinds.{Packet}
use Rattle.packet.specs.Layouts.{packet_bytes, packet_length}
use Rattle.packet.specs.Writing.{filled}
use Rattle.source.specs.Sources.{Source}
use Rattle.source.specs.declared.key_source.KeySource.{Ghosts}
use Rattle.link.specs.Base as rules
use Rattle.base.specs.declared.state.Base.{Base}
use Rattle.base.specs.Asked.{Numbers, numbers}
use Rattle.base.specs.Keys.{Serves}

-- a key source, of whatever kind
abbrev pub supply : Source → rules.Supply
supply s = record { count = s.count; key = s.key; given = s.drawn }

-- the numbers of a base: its intervals are told by how many keys the sources have given
abbrev pub held : {B M D : Type 0} {c : block.Ghosts B} (m : Ghosts M) (d : Ghosts D) → Base B M D c m d → Numbers
held m d b = record {
  count = (m.meaning b.making.source).count;
  start = b.schedule.start;
  duration = b.schedule.duration;
  delay = b.schedule.delay;
  latest = b.latest;
  busy = (m.meaning b.making.source).drawn;
  made = b.made;
  last = (d.meaning b.disclosing.source).drawn;
}

-- The base stands for the base x of the rules: `new` makes it so, and each call keeps it so.
pub record Means {B M D : Type 0} {c : block.Ghosts B} (m : Ghosts M) (d : Ghosts D) (b : Base B M D c m d) (x : rules.Base) : Type 0 where
  pub same : held m d b ≡ numbers x
  -- each source serves its keys
  pub making : Serves m.meaning b.making x.setup.commitment x.setup.count x.setup.making
  pub disclosing : Serves d.meaning b.disclosing x.setup.commitment x.setup.count x.setup.disclosing
  -- the interval of the latest packet had begun at the latest reading
  pub reached : x.setup.start + x.busy * x.setup.duration ≤ x.latest

-- what a call answers, and leaves in the buffer that was lent to it
abbrev pub lent : Result Packet Refusal → List ℕ → Result ℕ Refusal × List ℕ
lent (Ok p) out = (Ok (packet_length p), filled (packet_bytes p) out)
lent (Err refusal) out = (Err refusal, out)

-- A call on a base that stands for x: it answers r, leads from the buffer out to out', and leaves the base b'.
pub record Called {B M D : Type 0} {c : block.Ghosts B} (cipher : Make) (m : Ghosts M) (d : Ghosts D) (x : rules.Base) (errand : rules.Errand) (r : Result ℕ Refusal) (out out' : List ℕ) (b' : Base B M D c m d) : Type 0 where
  pub answer : r ≡ (lent (rules.reply cipher x errand) out).0
  pub buffer : out' ≡ (lent (rules.reply cipher x errand) out).1
  pub after : Means m d b' (rules.base_then x errand)

-- a refusal leaves the whole base as it was, sources and all
abbrev pub Untouched : {S : Type 0} → Result ℕ Refusal → S → S → Type 0
Untouched (Ok n) s s' = Unit {0}
Untouched (Err refusal) s s' = s' ≡ s
