use Rattle.std.proofs.Common.{◌≡◌, true, List, map, sym, ap, subst, ◌∙◌}
use Rattle.std.specs.List.{remove_range}
use Rattle.logic_terms.specs.Concept.{Claim}
use Rattle.logic_terms.specs.Shown.{claim_of, claims_of}
use Rattle.logic_terms.specs.Meaning.{holds, all_hold}
use Rattle.logic_terms.specs.declared.statements.Axiom.{Axiom}
use Rattle.owl_eval.proofs.Growing.{map-remove_range, all-remove_range}
use Rattle.owl_eval.proofs.checked.CheckedModel.remove.Goals as goal
use Rattle.owl_eval.proofs.checked.CheckedModel.remove.Goals.{After-from_vec}

removed : (c : After-from_vec) → claims_of c.from_vec.result ≡ remove_range (claims_of c.args.self.now.axioms) c.args.from c.args.to
removed c =
    c.from_vec.ensures
    ∙ ap (λ (xs : List Axiom). map claim_of xs) c.take_out.ensures
    ∙ map-remove_range claim_of c.into_vec-items.result.items c.args.from c.args.to
    ∙ ap (λ (cs : List Claim). remove_range cs c.args.from c.args.to) (c.into_vec-items.ensures ∙ ap claims_of c.replace.ensures.value)

pub invariant_of-self : goal.invariant_of-self
invariant_of-self c =
    let checked = c.args.self.now in record {
      model =
          subst (λ (cs : List Claim). all_hold checked.interp cs ≡ true) (sym (removed (goal.at.invariant_of-self c).After-from_vec))
          (all-remove_range (holds checked.interp) (claims_of checked.axioms) c.args.from c.args.to checked.model);
    }

pub returns-clause-axioms : goal.returns-clause-axioms
returns-clause-axioms c = removed (goal.at.returns-clause-axioms c).After-from_vec
