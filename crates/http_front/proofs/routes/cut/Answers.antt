use Rattle.std.proofs.Common.{lit<}
use Rattle.std.proofs.lemmas.Str.Pattern.{split_once_first}
use Rattle.http_front.proofs.RouteLemmas.{cut_cases}
use Rattle.http_front.proofs.routes.cut.Goals as goal

pub returns : goal.returns
returns c =
    cut_cases c.args.target.now c.split_once.result (split_once_first 63 c.args.target.now c.split_once.result c.split_once.ensures.cases (lit< tt))
