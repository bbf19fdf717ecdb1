use Rattle.std.proofs.Common.{sym, ◌∙◌}
use Rattle.logic_terms.specs.Shown.{concept_of, concepts_of}
use Rattle.logic_terms.specs.Same.{same_concept}
use Rattle.logic_terms.proofs.Places.{some_more, some_passes}
use Rattle.logic_terms.proofs.expressions.Classes.has.Goals as goal

pub returns-then-is_same : goal.returns-then-is_same
returns-then-is_same c =
    sym (some_passes (λ d. same_concept d (concept_of c.args.class.now)) (concepts_of c.args.self.now) c.loop-place.place (concept_of c.get.result.now)
    c.get.ensures.item (sym c.is_same.ensures ∙ c.if-is_same.true))

pub loop-place-preserved : goal.loop-place-preserved
loop-place-preserved c =
    some_more (λ d. same_concept d (concept_of c.args.class.now)) (concepts_of c.args.self.now) c.loop-place.place (concept_of c.get.result.now)
    c.get.ensures.item c.loop-place.invariant (sym c.is_same.ensures ∙ c.if-is_same.false)
