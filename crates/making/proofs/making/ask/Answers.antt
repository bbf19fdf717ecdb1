use Rattle.std.proofs.Common.{rules}
use Rattle.making.proofs.MakingLemmas.{adds_up-one}
use Rattle.making.proofs.making.ask.Goals as goal

pub returns : goal.returns
returns g c = adds_up-one g.W.Machine.Steps _ _ _ _ _ _ c.in_ok-reply.ensures.step (search rules)
