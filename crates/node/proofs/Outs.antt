-- What a packet that goes out leaves in the buffer.
use Rattle.std.proofs.Common.{◌≡◌, ℕ, Bool, List, ◌++◌, length, drop}
use Rattle.packet.specs.Kinds.{Data}
use Rattle.packet.specs.Writing.{filled}
use Rattle.link.specs.Receiver.{out_of}
use Rattle.node.specs.Answers.{written}

pub let_out : (p : Data) (verdict : Bool) (n : ℕ) (before part : List ℕ) → n ≡ length (written (out_of p verdict)) → part ≡ written (out_of p verdict) → part ++ drop n before ≡ filled (written (out_of p verdict)) before
unfolding filled
let_out p verdict n before part long copied = λ i. copied i ++ drop (long i) before
