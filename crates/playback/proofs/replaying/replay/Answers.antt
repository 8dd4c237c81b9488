use Rattle.std.proofs.Common.{◌≡◌, ◌≤◌, length, take, Ok, sym, ap, ◌∙◌, subst, arith}
use Rattle.std.proofs.ByRecursion.{All-from_get_or}
use Rattle.cipher.specs.Makes.{rc5_make}
use Rattle.cipher.proofs.ByteLaws.{Byte}
use Rattle.capture.specs.Ahead.{ahead}
use Rattle.playback.specs.Counting.{counts_of}
use Rattle.playback.specs.Playing.{rc5_playable}
use Rattle.playback.specs.Replays.{GivesBack}
use Rattle.playback.specs.Walks.{to_come}
use Rattle.playback.proofs.Openings.{SoundCapture, sound_capture}
use Rattle.playback.proofs.Played.{all_fit, counts_so, filled_so, fits_in, gives_back, replayed_so, stands}
use Rattle.playback.proofs.replaying.replay.Goals as goal

pub returns-then-out-capture-clause-history : goal.returns-then-out-capture-clause-history
returns-then-out-capture-clause-history c = stands _ _

pub put_header-requires : goal.put_header-requires
put_header-requires c =
    let sound : SoundCapture c.args.capture.now (rc5_playable (ahead c.in_ok-records.records)) = sound_capture _ _ (All-from_get_or Byte _ 0 (λ i below. (c.type_inv.capture i).fits)) (sym c.in_ok-records.ensures.value) in
    let room = sound.room in
    let left = c.if-out-capture.false in
    omega arith

pub write_orders-requires : goal.write_orders-requires
write_orders-requires c =
    let sound : SoundCapture c.args.capture.now (rc5_playable (ahead c.in_ok-records.records)) = sound_capture _ _ (All-from_get_or Byte _ 0 (λ i below. (c.type_inv.capture i).fits)) (sym c.in_ok-records.ensures.value) in
    all_fit c.args.pair c.args.capture.now (ahead c.in_ok-records.records) c.args.out.now sound c.if-out-capture.false _ (c.new.ensures rc5_make) _ c.put_header.auto.out

pub returns : goal.returns
returns c =
    let xs = ahead c.in_ok-records.records in
    let all = to_come rc5_make c.new.result in
    let sound : SoundCapture c.args.capture.now (rc5_playable xs) = sound_capture _ _ (All-from_get_or Byte _ 0 (λ i below. (c.type_inv.capture i).fits)) (sym c.in_ok-records.ensures.value) in
    let left = c.if-out-capture.false in
    let opened = c.in_ok-records.ensures.value in
    let counts : c.write_orders.result ≡ counts_of all = c.write_orders.ensures.counts in
    let filled = filled_so c.args.pair c.args.capture.now xs c.args.out.now sound left all (c.new.ensures rc5_make) _ _ c.put_header.ensures c.write_orders.ensures.after in
    let so = replayed_so c.args.pair c.args.capture.now xs c.args.out.now sound left all (c.new.ensures rc5_make) opened in
    record {
      value = ap (λ n. Ok n) (counts ∙ counts_so c.args.pair c.args.capture.now xs c.args.out.now sound left all (c.new.ensures rc5_make)) ∙ ap (λ x. x.0) so;
      after = filled ∙ ap (λ x. x.1) so;
      fits = subst (λ n. n.written ≤ length c.args.capture.now) (sym counts) (fits_in c.args.pair c.args.capture.now xs c.args.out.now sound left all (c.new.ensures rc5_make));
      back = subst (λ n. GivesBack c.args.pair c.args.capture.now (take n.written c.write_orders.new.out)) (sym counts)
          (gives_back c.args.pair c.args.capture.now xs c.args.out.now sound left all (c.new.ensures rc5_make) opened _ filled);
      history = stands _ _;
    }
