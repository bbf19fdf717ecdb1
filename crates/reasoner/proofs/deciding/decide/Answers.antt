use Rattle.std.proofs.Common.{subst}
use Rattle.std.specs.Prelude.{IsTrue}
use Rattle.logic_terms.specs.Known.{theory_of}
use Rattle.tableau_rules.specs.Trees.{tree_of, is_closed}
use Rattle.closure_check.proofs.Soundness.{closed_excludes}
use Rattle.tableau.specs.Ends.{IfInconsistent}
use Rattle.reasoner.proofs.deciding.decide.Goals as goal

pub returns-in-Inconsistent-clause-no_model : goal.returns-in-Inconsistent-clause-no_model
returns-in-Inconsistent-clause-no_model c =
    let k = theory_of c.args.k.now in
    let closed : IsTrue (is_closed k (tree_of c.in-Inconsistent.tree)) =
    subst (λ v. IfInconsistent v (λ tree. IsTrue (is_closed k (tree_of tree)))) c.in-Inconsistent.is c.in_ok-b.ensures.closed in
    closed_excludes k (tree_of c.in-Inconsistent.tree) closed
