use Rattle.std.proofs.Common.{◌≡◌, IfOk, sym, ap, subst, ◌∙◌}
use Rattle.logic_terms.specs.Concept.{Concept, ComplementOf}
use Rattle.logic_terms.specs.Shown.{concept_of}
use Rattle.logic_terms.proofs.ShownLemmas.{concept_of-Value}
use Rattle.verbalise.specs.Said.{basic_phrase}
use Rattle.verbalise.proofs.classes.not_phrase.Goals as goal

pub returns-in-Value : goal.returns-in-Value
returns-in-Value c =
    let P : Concept → Type 0 = λ class. IfOk c.not_related_to.result (λ said. said ≡ basic_phrase c.args.words.now.live (ComplementOf class)) in
    subst P (sym (concept_of-Value c.in-Value.role c.in-Value.a) ∙ ap concept_of (sym c.in-Value.is)) c.not_related_to.ensures
