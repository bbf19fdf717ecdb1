use Rattle.std.proofs.Common.{ap, ◌∙◌}
use Rattle.ace_to_owl.specs.Moves.{moved_by}
use Rattle.ace_to_owl.proofs.Labels.{moved_by-append}
use Rattle.ace_to_owl.proofs.components.move_label.Goals as goal

pub returns : goal.returns
returns c n = ap (λ ms. moved_by ms n) c.in_ok-push.ensures.ok ∙ moved_by-append c.args.moves.now c.args.from c.args.to n
