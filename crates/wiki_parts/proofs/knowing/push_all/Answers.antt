use Rattle.std.proofs.Common.{◌≡◌, ◌++◌, [], ◌∷◌, ap, ◌∙◌}
use Rattle.logic_terms.specs.Shown.{claims_of, claim_of}
use Rattle.wiki_parts.proofs.KnownLemmas.{taken_more}
use Rattle.wiki_parts.proofs.knowing.push_all.Goals as goal

pub loop-place-preserved : goal.loop-place-preserved
loop-place-preserved c =
    taken_more (claims_of c.args.known.now) (claims_of c.loop-place.known) (claims_of c.push.new.self) (claims_of c.args.more.now) c.loop-place.place
    (claim_of c.get.result.now) c.loop-place.invariant c.get.ensures
    (c.in_ok-push.ensures.ok ∙ ap (λ x. claims_of c.loop-place.known ++ x ∷ []) c.in_ok-copy.ensures)
