use Rattle.std.proofs.Common.{sym, ◌∙◌}
use Rattle.logic_terms.specs.Shown.{concept_of, concepts_of}
use Rattle.logic_terms.proofs.Places.{each_more, each_fails}
use Rattle.owl_eval.specs.Avoiding.{avoids}
use Rattle.owl_eval.proofs.Coincidence.{avoids_and, avoids_or}
use Rattle.owl_eval.proofs.avoiding.+avoiding.Goals as goal

pub class_avoids-returns-in-And : goal.class_avoids-returns-in-And
class_avoids-returns-in-And t c = avoids_and c.args.numbers.now c.args.class.now c.in-And.members _ c.each_avoids.ensures c.in-And.is

pub class_avoids-returns-in-Or : goal.class_avoids-returns-in-Or
class_avoids-returns-in-Or t c = avoids_or c.args.numbers.now c.args.class.now c.in-Or.members _ c.each_avoids-in-Or.ensures c.in-Or.is

pub each_avoids-returns-then-not-class_avoids : goal.each_avoids-returns-then-not-class_avoids
each_avoids-returns-then-not-class_avoids t c =
    sym (each_fails (avoids c.args.numbers.now) (concepts_of c.args.classes.now) c.loop-place.place (concept_of c.get.result.now) c.get.ensures.item
    (sym c.class_avoids.ensures ∙ c.if-not-class_avoids.true))

pub each_avoids-loop-place-preserved : goal.each_avoids-loop-place-preserved
each_avoids-loop-place-preserved t c =
    each_more (avoids c.args.numbers.now) (concepts_of c.args.classes.now) c.loop-place.place (concept_of c.get.result.now) c.get.ensures.item
    c.loop-place.invariant (sym c.class_avoids.ensures ∙ c.if-not-class_avoids.false)
