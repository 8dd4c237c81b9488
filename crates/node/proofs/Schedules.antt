-- What a schedule that fits is within.
use Rattle.std.proofs.Common.{◌≡◌, ◌^◌, ◌<◌, ◌≤◌, true, ltb, leb}
use Rattle.std.proofs.lemmas.Bool.{and_parts, leb-true, ltb-true}
use Rattle.packet.specs.Kinds.{Answer}
use Rattle.link.specs.Join.{schedule_fits}

pub record Within (a : Answer) : Type 0 where
  pub lasting : 1 ≤ a.duration
  pub shown : a.time < 2 ^ 52
  pub started : a.start ≤ a.time

pub schedule_within : (a : Answer) → schedule_fits a ≡ true → Within a
schedule_within a fits =
    let to_time = and_parts _ (leb a.start a.time) fits in
    let to_interval = and_parts _ (ltb a.time (2 ^ 52)) to_time.0 in
    let to_duration = and_parts _ (leb a.interval 4096) to_interval.0 in
    record {
      lasting = leb-true 1 a.duration (and_parts _ (leb 1 a.duration) to_duration.0).1;
      shown = ltb-true a.time (2 ^ 52) to_interval.1;
      started = leb-true a.start a.time to_time.1;
    }
