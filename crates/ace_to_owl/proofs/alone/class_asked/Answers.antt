use Rattle.std.proofs.Common.{◌≡◌, ◌==◌, Some, ap, ◌∙◌, subst, refl, ℕ}
use Rattle.std.specs.Prelude.{not}
use Rattle.std.specs.List.{filter}
use Rattle.logic_terms.specs.declared.structures.Thing.TheVariants.{Ref}
use Rattle.logic_terms.specs.Shown.{concept_of, structure_of, conditions_of}
use Rattle.logic_terms.specs.Structure.{Structure, structure, referents_in, conditions_in}
use Rattle.ace_to_owl.specs.Answers.{Agrees}
use Rattle.ace_to_owl.specs.Mapping.{without}
use Rattle.ace_to_owl.proofs.RollingLemmas.{roll_by}
use Rattle.ace_to_owl.proofs.alone.class_asked.Goals as goal

other_referents : (x : ℕ) (k : Structure) → filter (λ q. not (q == x)) (referents_in k) ≡ referents_in (without x k)
other_referents x (structure rs cs) = refl

same_conditions : (x : ℕ) (k : Structure) → conditions_in k ≡ conditions_in (without x k)
same_conditions x (structure rs cs) = refl

pub returns : goal.returns
returns c =
    let x = c.args.referent in
    let k : Structure = structure_of c.args.drs.now in
    subst (Agrees concept_of c.rolled.result)
    (roll_by (Some (Ref x)) (without x k) c.as_slice-2.result.now (conditions_of c.conditions.result.now)
    (c.as_slice-2.ensures ∙ c.in_ok-others.ensures ∙ ap (filter (λ q. not (q == x))) (c.as_slice.ensures ∙ c.referents.ensures) ∙ other_referents x k)
    (c.conditions.ensures.list ∙ same_conditions x k))
    c.rolled.ensures
