use Rattle.std.proofs.Common.{arith}
use Rattle.branch_model.proofs.Closures.{leads_again, reached_again, has_again, all_led}
use Rattle.branch_model.proofs.closing.led_to.Goals as goal

pub loop-pair-preserved : goal.loop-pair-preserved
loop-pair-preserved c =
    let i = c.loop-pair.pair-index in
    let within = c.loop-pair-test.true in
    let old = c.loop-pair.made.items in
    let new = c.lead.new.made.items in
    let more = c.in_ok-lead.ensures.pairs in
    let leads = c.loop-pair.invariant.1 in (
      c.in_ok-lead.ensures.knows,
      leads_again c.args.pairs.now i _ within old new more leads,
      reached_again c.args.pairs.now i _ within old new more leads c.loop-pair.invariant.2,
      has_again c.args.pairs.now i _ within old new more leads c.loop-pair.invariant.3,
    )

pub returns : goal.returns
returns c =
    all_led c.args.pairs.now c.loop-pair.pair-index (omega arith) c.loop-pair.made.items c.loop-pair.invariant.1 c.loop-pair.invariant.2 c.loop-pair.invariant.3
