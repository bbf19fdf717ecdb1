use Rattle.std.proofs.Common.{sym, ◌∙◌}
use Rattle.logic_terms.specs.Shown.{concept_of, concepts_of}
use Rattle.logic_terms.specs.Complement.{complement}
use Rattle.logic_terms.specs.Same.{same_concept}
use Rattle.logic_terms.proofs.Places.{some_more, some_passes}
use Rattle.logic_terms.proofs.expressions.Classes.has_complement_of.Goals as goal

pub returns-then-is_complement_of : goal.returns-then-is_complement_of
returns-then-is_complement_of c =
    sym (some_passes (λ d. same_concept d (complement (concept_of c.args.class.now))) (concepts_of c.args.self.now) c.loop-place.place
    (concept_of c.get.result.now) c.get.ensures.item (sym c.is_complement_of.ensures ∙ c.if-is_complement_of.true))

pub loop-place-preserved : goal.loop-place-preserved
loop-place-preserved c =
    some_more (λ d. same_concept d (complement (concept_of c.args.class.now))) (concepts_of c.args.self.now) c.loop-place.place (concept_of c.get.result.now)
    c.get.ensures.item c.loop-place.invariant (sym c.is_complement_of.ensures ∙ c.if-is_complement_of.false)
