use Rattle.std.proofs.Common.{◌≡◌, ◌-◌, ◌++◌, length, take}
use Rattle.cipher.specs.Rc5.{progression}
use Rattle.cipher.proofs.rc5.first_table.Given as goal

abbrev pub invariant-loop-slot : goal.invariant-loop-slot
invariant-loop-slot l = (length l.slot-items ≡ 26) × (take l.slot-index l.slot-items ++ progression (26 - l.slot-index) l.word ≡ progression 26 0xb7e15163)
