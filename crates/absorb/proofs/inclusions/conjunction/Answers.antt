use Rattle.std.proofs.Common.{◌≡◌, List, map, sym, ap, ◌∙◌}
use Rattle.std.specs.Prelude.{remove}
use Rattle.logic_terms.specs.Shown.{concept_of, concepts_of}
use Rattle.logic_terms.specs.Concept.{Concept, concepts_from}
use Rattle.absorb.specs.Pieces.{together}
use Rattle.absorb.proofs.PlaceLemmas.{map-remove}
use Rattle.absorb.proofs.inclusions.conjunction.Goals as goal

pub returns : goal.returns
returns c =
    let left : List Concept = remove (concepts_of c.args.members.now) c.args.left_out in
    let same : concepts_of c.from_vec.result ≡ left =
    c.from_vec.ensures ∙ ap (map concept_of) c.remove.ensures.items ∙ map-remove concept_of c.into_vec-others.result.items c.args.left_out
    ∙ ap (λ cs. remove cs c.args.left_out) (c.into_vec-others.ensures ∙ c.in_ok-copy.ensures) in
    c.joined.ensures ∙ ap (λ cs. together (concepts_from cs)) same
