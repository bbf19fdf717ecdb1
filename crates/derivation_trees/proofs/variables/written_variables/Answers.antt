use Rattle.std.proofs.Common.{◌≡◌, ◌++◌, ◌∷◌, [], ap, ◌∙◌, sym, filter, arith}
use Rattle.std.specs.List.{range_with_len}
use Rattle.codeco_checked.specs.Numbering.{has}
use Rattle.codeco_checked.specs.Occurrences.{rule_variables}
use Rattle.derivation_trees.specs.Instances.{written_variables}
use Rattle.derivation_trees.proofs.InstanceLemmas.{range_push}
use Rattle.derivation_trees.proofs.variables.written_variables.Goals as goal

pub loop-variable-preserved : goal.loop-variable-preserved
loop-variable-preserved c =
    let p = has (rule_variables c.args.rule.now) in (
      omega arith,
      c.in_ok-push_if_written.ensures ∙ ap (λ xs. xs ++ filter p (c.loop-variable.variable ∷ [])) c.loop-variable.invariant.1
          ∙ sym (range_push p c.loop-variable.variable),
    )

pub returns : goal.returns
unfolding written_variables
returns c =
    let all : c.loop-variable.variable ≡ 16 = omega arith in
    c.loop-variable.invariant.1 ∙ ap (λ n. filter (has (rule_variables c.args.rule.now)) (range_with_len 0 n)) all
