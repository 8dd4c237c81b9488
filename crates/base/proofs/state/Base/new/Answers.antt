use Rattle.std.proofs.Common.{sym, refl, arith}
use Rattle.base.specs.Meaning.{supply}
use Rattle.base.proofs.Founds.{founded, pair_of, turned_down}
use Rattle.base.proofs.OneChain.{pebbled_chain, sends}
use Rattle.base.proofs.state.Base.new.Goals as goal

pub returns-then-not-may_stand : goal.returns-then-not-may_stand
returns-then-not-may_stand g c = record {
  founds = (turned_down _ _ _ _ _ _ c.if-not-may_stand.ensures, refl, refl);
  sends = tt;
  pebbled = pebbled_chain g.B.Block.make g.M.KeySource g.D.KeySource c.args.first c.args.second c.args.commitment;
}

pub returns : goal.returns
returns g c =
    let first = g.M.KeySource.meaning c.args.first in
    let second = g.D.KeySource.meaning c.args.second in
    let start = c.args.schedule.start in
    let duration = c.args.schedule.duration in
    let delay = c.args.schedule.delay in
    let fits = c.if-not-may_stand.ensures in
    let pair = pair_of (supply first) (supply second) c.args.commitment start duration delay fits in
    record {
      founds = (
        founded (supply first) (supply second) c.args.commitment start duration delay fits,
        record {
          same = λ i. record { count = first.count; start = start; duration = duration; delay = delay; latest = start; busy = pair.0 i; made = 0; last = pair.1 i };
          making = record { count = refl; last = rw pair.0; to_come = λ j later within. refl };
          disclosing = record { count = sym pair.2; last = rw pair.1; to_come = λ j later within. refl };
          reached = omega arith;
        },
      );
      sends = sends g.B.Block.make first second c.args.commitment start duration delay fits;
      pebbled = pebbled_chain g.B.Block.make g.M.KeySource g.D.KeySource c.args.first c.args.second c.args.commitment;
    }
