use Rattle.std.proofs.Common.{◌≡◌, length, take}
use Rattle.std.specs.Slice.Iter.{chunks_rest, chunks_size}
use Rattle.chain.specs.Tag.{blocks, chained}
use Rattle.chain.proofs.mac.mac.Given as goal

abbrev pub invariant-loop-part : goal.invariant-loop-part
invariant-loop-part g l =
    let m = g.B.Block in
    let w = m.make.width in
    let encrypt = m.under l.cipher in
    record {
      size : chunks_size l.part-iterator ≡ w;
      long : length l.state ≡ 16;
      ends : chained encrypt (take w l.state) (blocks w (chunks_rest l.part-iterator)) ≡ chained encrypt (take w l.initial.state) (blocks w (chunks_rest l.initial.part-iterator));
    }
