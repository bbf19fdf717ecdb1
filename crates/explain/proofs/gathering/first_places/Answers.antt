use Rattle.std.proofs.Common.{[], ◌∷◌, ◌++◌, ap, ◌∙◌}
use Rattle.explain.proofs.ReasonLemmas.{first_more}
use Rattle.explain.proofs.gathering.first_places.Goals as goal

pub loop-place-preserved : goal.loop-place-preserved
loop-place-preserved c =
    c.in_ok-push.ensures.ok ∙ ap (λ l. l ++ c.loop-place.place ∷ []) c.loop-place.invariant ∙ first_more c.loop-place.place
