use Rattle.std.proofs.Common.{◌≡◌, true, false, rules, sym, subst, ◌∙◌}
use Rattle.std.proofs.lemmas.Bool.{not-true, not-false}
use Rattle.derivation_trees.proofs.TruthLemmas.{true_is_false}
use Rattle.derivation_trees.specs.Trees.{node_of}
use Rattle.derivation_trees.specs.Derives.{IsDerivation}
use Rattle.derivations.specs.Listed.{IsLesser}
use Rattle.derivations.proofs.LeastLemmas.{least_of_same, least_of_more}
use Rattle.derivations.proofs.least.consider.Goals as goal

pub returns-then-not-branch : goal.returns-then-not-branch
returns-then-not-branch c =
    let no : c.in_ok-check_tree.field-0 ≡ false = search (rules, not-true) in
    λ trees old. least_of_same c.args.setting.now trees (node_of c.args.tree.now) c.args.least
    (λ d. true_is_false (sym (c.in_ok-check_tree.ensures.1 (subst (λ x. IsDerivation x (node_of c.args.tree.now)) c.requires.same d)) ∙ no)) old

pub returns : goal.returns
returns c =
    let yes : c.in_ok-check_tree.field-0 ≡ true = search (rules, not-false) in
    λ trees old. least_of_more c.args.setting.now trees (node_of c.args.tree.now) c.args.least c.in_ok-chosen.chosen
    (subst (λ x. IsDerivation x (node_of c.args.tree.now)) (sym c.requires.same) (c.in_ok-check_tree.ensures.0 yes))
    (subst (λ k. IsLesser c.args.least k c.in_ok-chosen.chosen) c.in_ok-skeleton.ensures c.in_ok-chosen.ensures) old
