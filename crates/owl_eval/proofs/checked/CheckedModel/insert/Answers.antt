use Rattle.std.proofs.Common.{◌≡◌, true, List, map, sym, ap, subst, ◌∙◌}
use Rattle.std.specs.List.{list_all, insert_slice}
use Rattle.logic_terms.specs.Concept.{Claim}
use Rattle.logic_terms.specs.Shown.{claim_of, claims_of}
use Rattle.logic_terms.specs.Meaning.{holds, all_hold}
use Rattle.logic_terms.specs.declared.statements.Axiom.{Axiom}
use Rattle.owl_eval.proofs.Growing.{map-insert_slice, grown-all}
use Rattle.owl_eval.proofs.checked.CheckedModel.insert.Goals as goal

pub invariant_of-self : goal.invariant_of-self
invariant_of-self c =
    let checked = c.args.self.now in
    let old : map claim_of c.into_vec-items.result.items ≡ claims_of checked.axioms = c.into_vec-items.ensures ∙ ap claims_of c.replace.ensures.value in
    record {
      model =
          subst (λ (cs : List Claim). all_hold checked.interp cs ≡ true) (sym c.from_vec.ensures)
          (grown-all claim_of (holds checked.interp) c.put_in-grown.result c.into_vec-items.result.items c.into_vec.result.items c.put_in-grown.new.items.items
          c.args.at c.put_in-grown.ensures.ok c.put_in-grown.ensures.err
          (subst (λ (cs : List Claim). list_all (holds checked.interp) cs ≡ true) (sym old) checked.model)
          (subst (λ (cs : List Claim). list_all (holds checked.interp) cs ≡ true) (sym c.into_vec.ensures)
          (sym c.is_model.ensures.exact ∙ c.if-not-is_model.false)));
    }

pub returns-clause-axioms : goal.returns-clause-axioms
returns-clause-axioms c =
    c.from_vec.ensures
    ∙ ap (λ (xs : List Axiom). map claim_of xs) c.in_ok-grown.ensures.ok
    ∙ map-insert_slice claim_of c.into_vec-items.result.items c.args.at c.into_vec.result.items
    ∙ ap (λ (cs : List Claim). insert_slice cs c.args.at (map claim_of c.into_vec.result.items))
    (c.into_vec-items.ensures ∙ ap claims_of c.replace.ensures.value)
    ∙ ap (λ (cs : List Claim). insert_slice (claims_of c.args.self.now.axioms) c.args.at cs) c.into_vec.ensures
