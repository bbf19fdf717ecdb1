use Rattle.std.proofs.Common.{◌≡◌, sym, subst, ◌∙◌}
use Rattle.logic_terms.specs.Concept.{Concept}
use Rattle.logic_terms.specs.Shown.{concept_of}
use Rattle.logic_terms.proofs.SameLemmas.{same_concept-equal}
use Rattle.wiki_store.specs.Remembered.{AreAnswers, IsRemembered}
use Rattle.wiki_store.proofs.RememberedLemmas.{all-there}
use Rattle.wiki_store.proofs.remembered.Remembered.find.Goals as goal

pub returns-then-is_same : goal.returns-then-is_same
returns-then-is_same c wiki all =
    let row = c.get-row.result.now in
    let same : concept_of row.class ≡ concept_of c.args.class.now =
    same_concept-equal (concept_of row.class) (concept_of c.args.class.now) (sym c.is_same.ensures ∙ c.if-is_same.true) in
    subst (λ (concept : Concept). AreAnswers wiki concept row.answers.yes row.answers.unknown) same
    (all-there (IsRemembered wiki) c.args.self.now.rows c.place_of-place.result row all c.get-row.ensures)
