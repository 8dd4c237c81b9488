-- What a receiver of the code means.
use Rattle.link.specs.Receiver.{Receiver}
use Rattle.node.specs.declared.receiver as receiver
use Rattle.node.specs.Clocks.{clock_of}
use Rattle.node.specs.Places.{held}

abbrev pub meaning : {B : Type 0} → receiver.Receiver.Receiver B → Receiver
meaning r = record {
  clock = clock_of r.clock;
  state = record { latest = r.latest.0; newest = r.newest; reached = r.reached; held = held r.table };
}
