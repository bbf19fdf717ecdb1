use Rattle.http_front.proofs.AskedLemmas.{sees_in_line}
use Rattle.http_front.proofs.CutLemmas.{cut_anywhere}
use Rattle.http_front.proofs.front.Front.request_of.Goals as goal

pub returns-clause-cut : goal.returns-clause-cut
returns-clause-cut c = cut_anywhere c.args.bytes.now c.in_ok-seen.seen c.in_ok-seen.ensures

pub returns-clause-in_line : goal.returns-clause-in_line
returns-clause-in_line c = sees_in_line c.args.bytes.now c.in_ok-seen.seen c.in_ok-seen.ensures
