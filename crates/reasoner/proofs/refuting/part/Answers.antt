use Rattle.std.proofs.Common.{[], ◌∷◌, ◌++◌, IsTrue, ap, sym, subst, ◌∙◌}
use Rattle.logic_terms.specs.Shown.{claims_of, claim_of}
use Rattle.absorb.specs.Mentioned.{are_over}
use Rattle.reasoner.proofs.PartLemmas.{over_more}
use Rattle.reasoner.proofs.refuting.part.Goals as goal
use Rattle.reasoner.proofs.refuting.part.Goals.{then-speaks_of_all+in_ok-copy+in_ok-push, else-speaks_of_all+else-contains}

pub loop-place-preserved : goal.loop-place-preserved
loop-place-preserved c = elim c.if-speaks_of_all.branch [
  | then-speaks_of_all+in_ok-copy+in_ok-push w ↦
      over_more c.args.stated.now.names.now (claims_of c.args.stated.now.axioms.now) (claims_of c.loop-place.chosen) (claims_of c.if-speaks_of_all.chosen) _
      (claim_of c.get-axiom.result.now) c.requires c.get-axiom.ensures c.loop-place.invariant
      (ap claims_of w.chosen-is ∙ w.in_ok-push.ensures.ok ∙ ap (λ x. claims_of c.loop-place.chosen ++ x ∷ []) w.in_ok-copy.ensures)
  | else-speaks_of_all+else-contains w ↦
      subst (λ chosen. IsTrue (are_over c.args.stated.now.names.now (claims_of chosen))) (sym w.chosen-is) c.loop-place.invariant
]
