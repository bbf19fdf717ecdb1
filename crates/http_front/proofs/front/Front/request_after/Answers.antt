use Rattle.http_front.proofs.HeadLemmas.{sees_same}
use Rattle.http_front.proofs.front.Front.request_after.Goals as goal

pub returns-clause-same : goal.returns-clause-same
returns-clause-same c before more begins is = sees_same before more c.args.bytes.now c.args.head.now c.in_ok-seen.seen begins is c.in_ok-seen.ensures
