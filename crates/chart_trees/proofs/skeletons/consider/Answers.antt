use Rattle.std.proofs.Common.{length, subst, arith}
use Rattle.derivation_trees.specs.Trees.{node_of}
use Rattle.derivations.specs.Listed.{IsLesser}
use Rattle.derivations.proofs.LeastLemmas.{least_of_same, least_of_more}
use Rattle.chart_trees.proofs.LeastLemmas.{is_derivation, is_no_derivation, not_here}
use Rattle.chart_trees.proofs.skeletons.consider.Goals as goal

pub returns-then-outcome-token_count : goal.returns-then-outcome-token_count
returns-then-outcome-token_count c =
    λ trees old. least_of_same c.args.setting.now trees (node_of c.args.outcome.now.tree) c.args.least
    (is_no_derivation c.args.setting.now c.args.outcome.now c.requires
    (not_here c.args.outcome.now.place c.token_count.result (length c.args.setting.now.tokens) c.token_count.ensures c.if-outcome-token_count.true)) old

pub returns : goal.returns
returns c =
    λ trees old. least_of_more c.args.setting.now trees (node_of c.args.outcome.now.tree) c.args.least c.in_ok-chosen.chosen
    (is_derivation c.args.setting.now c.args.outcome.now c.requires (omega arith))
    (subst (λ k. IsLesser c.args.least k c.in_ok-chosen.chosen) c.in_ok-skeleton.ensures c.in_ok-chosen.ensures) old
