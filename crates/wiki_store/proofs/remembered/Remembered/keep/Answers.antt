use Rattle.std.proofs.Common.{sym, subst}
use Rattle.logic_terms.specs.Concept.{Concept}
use Rattle.wiki_store.specs.Remembered.{AreAnswers}
use Rattle.wiki_store.proofs.remembered.Remembered.keep.Goals as goal

pub returns-in-Ok : goal.returns-in-Ok
returns-in-Ok c wiki all answers =
    c.put.ensures wiki all
    (subst (λ (concept : Concept). AreAnswers wiki concept c.args.answers.yes c.args.answers.unknown) (sym c.in-Ok.ensures) answers)
