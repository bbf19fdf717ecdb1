use Rattle.std.proofs.Common.{◌==◌, sym, ap, ◌∙◌, subst}
use Rattle.logic_terms.specs.Shown.{claims_of, conditions_of}
use Rattle.ace_to_owl.specs.Answers.{Agrees}
use Rattle.ace_to_owl.specs.Moves.{moved_by}
use Rattle.ace_to_owl.specs.Mapping.{joined}
use Rattle.ace_to_owl.proofs.ClaimLemmas.{stated_groups}
use Rattle.ace_to_owl.proofs.statement.axioms_of.Goals as goal

pub axioms_by-requires : goal.axioms_by-requires
axioms_by-requires c = record {
  groups = c.as_slice-2.ensures ∙ c.in_ok-groups.ensures;
  joins = λ q p.
      ap (λ ms. moved_by ms q == moved_by ms p) c.as_slice-3.ensures
      ∙ c.in_ok-moves.ensures q p
      ∙ ap (λ gs. joined gs q p) (c.as_slice.ensures ∙ sym c.as_slice-2.ensures);
}

pub returns : goal.returns
returns c =
    subst (Agrees claims_of c.axioms_by.result)
    (stated_groups c.args.referents.now (conditions_of c.args.conditions.now) c.as_slice-2.result.now (c.as_slice-2.ensures ∙ c.in_ok-groups.ensures))
    c.axioms_by.ensures
