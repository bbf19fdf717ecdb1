use Rattle.std.proofs.Common.{◌≡◌, Some, None, sym, ◌∙◌}
use Rattle.logic_terms.specs.Shown.{concept_of, concepts_of}
use Rattle.logic_terms.specs.Parts.{word_part}
use Rattle.absorb.proofs.PlaceLemmas.{first_none, first_found}
use Rattle.absorb.proofs.inclusions.first_named.Goals as goal

pub returns-in-Some : goal.returns-in-Some
returns-in-Some c =
    let named : word_part (concept_of c.get.result.now) ≡ Some c.in-Some.word = sym c.in-Some.ensures in
    first_found (concepts_of c.args.members.now) c.loop-place.place (concept_of c.get.result.now) c.in-Some.word c.get.ensures.item named c.loop-place.invariant

pub loop-place-preserved : goal.loop-place-preserved
loop-place-preserved c =
    let none : word_part (concept_of c.get.result.now) ≡ None = sym c.in-None.ensures in
    first_none (concepts_of c.args.members.now) c.loop-place.place (concept_of c.get.result.now) c.get.ensures.item none c.loop-place.invariant
