use Rattle.tableau.specs.Ways.{reached}
use Rattle.tableau.proofs.WayLemmas.{goes_on, goes_back}
use Rattle.tableau.proofs.turn.back.Goals as goal

pub returns-in-Some-kept : goal.returns-in-Some-kept
returns-in-Some-kept c k leads shut =
    goes_back k (reached k c.args.way.now).waiting c.loop-last.way c.pop.new.self c.in-Some.last c.loop-last.closed c.push.new.self c.in-Some.ensures
    c.in_ok-push.ensures.ok (c.loop-last.invariant k leads shut) c.in-Some-kept.before c.in-Some-kept.is

pub loop-last-preserved : goal.loop-last-preserved
loop-last-preserved c k leads shut =
    goes_on k (reached k c.args.way.now).waiting c.loop-last.way c.pop.new.self c.in-Some.last c.loop-last.closed c.push.new.self c.in-Some.ensures
    c.in_ok-push.ensures.ok (c.loop-last.invariant k leads shut) c.in-None.is
