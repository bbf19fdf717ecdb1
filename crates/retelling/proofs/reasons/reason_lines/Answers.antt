use Rattle.std.proofs.Common.{◌<◌, length, map, arith}
use Rattle.wiki_core.specs.Parts.{place_of}
use Rattle.retelling.proofs.ReasonLines.{line_more}
use Rattle.retelling.proofs.reasons.reason_lines.Goals as goal

pub loop-place-preserved : goal.loop-place-preserved
loop-place-preserved c =
    let within : c.loop-place.place-index < length c.args.kept.now = omega arith in
    line_more c.args.wiki.now.state.stored (map place_of c.args.sentences.now) c.args.kept.now c.loop-place.place-index c.loop-place.lines
    c.push_kept.new.lines c.loop-place.invariant within c.in_ok-push_kept.ensures
