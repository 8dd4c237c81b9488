use Rattle.std.proofs.Common.{◌≡◌, ◌≤◌, length, ap, ◌∙◌, rules}
use Rattle.std.proofs.lemmas.List.{take_rest}
use Rattle.capture.specs.Reading.{records}
use Rattle.playback.proofs.opening.open.Goals as goal
use Rattle.playback.proofs.Openings.{opens}

pub returns : goal.returns
returns c =
    let short : length c.args.capture.now ≤ 65536 = search rules in
    let link : c.in_ok-header.header.link ≡ 147 = search rules in
    let rest = take_rest c.args.capture.now 24 in
    record {
      value = opens c.args.capture.now c.in_ok-header.header _ short c.in_ok-header.ensures.value link (c.new.ensures.records ∙ ap (records c.in_ok-header.header.order 256) rest);
      bytes = c.new.ensures.bytes ∙ rest;
    }
