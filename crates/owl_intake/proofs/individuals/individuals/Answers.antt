use Rattle.std.proofs.Common.{◌<◌, length, sym, ◌∙◌}
use Rattle.std.proofs.lemmas.Option.{slice_get_within}
use Rattle.owl_intake.proofs.IndividualLemmas.{below_next, names_next, names_same}
use Rattle.owl_intake.proofs.individuals.individuals.Goals as goal
use Rattle.owl_intake.proofs.individuals.individuals.Goals.{then-is_individual+in_ok-word_at+in_ok-push, else-is_individual}

pub push-requires : goal.push-requires
push-requires c =
    let es = c.args.entities.now in
    let k = c.loop-place.place in
    below_next es k c.loop-place.names c.loop-place.invariant c.in_ok-word_at.field-0
    (slice_get_within es k c.get-entity.result.now c.get-entity.ensures) c.in_ok-word_at.ensures

pub loop-place-preserved : goal.loop-place-preserved
loop-place-preserved c =
    let es = c.args.entities.now in
    let k = c.loop-place.place in
    let e = c.get-entity.result.now in
    let within : k < length es = slice_get_within es k e c.get-entity.ensures in
    elim c.if-is_individual.branch [
      | then-is_individual+in_ok-word_at+in_ok-push w ↦
          names_next es k c.loop-place.names c.loop-place.invariant e within c.get-entity.ensures w.in_ok-word_at.field-0 _
          (sym c.is_individual.ensures ∙ w.if-is_individual.true) w.in_ok-word_at.ensures (w.names-is ∙ w.in_ok-push.ensures.ok)
      | else-is_individual w ↦
          w.names-is ∙ names_same es k c.loop-place.names c.loop-place.invariant e within c.get-entity.ensures
          (sym c.is_individual.ensures ∙ w.if-is_individual.false)
    ]
