use Rattle.std.proofs.Common.{sym, ap, ◌∙◌}
use Rattle.logic_terms.specs.Shown.{concept_of}
use Rattle.logic_terms.specs.Meaning.{implies, each_below, is_in}
use Rattle.logic_terms.proofs.ShownLemmas.{concept_of-Named}
use Rattle.owl_eval.proofs.axioms.is_subclass.Goals as goal

pub returns-in-Named : goal.returns-in-Named
returns-in-Named c =
    let i = c.args.interp.now in
    let above = is_in i (concept_of c.args.above.now) in
    c.all_in_class.ensures
    ∙ (c.elements.ensures above
    ∙ sym (ap (λ k. each_below i.size (λ x. implies (is_in i k x) (above x))) (ap concept_of c.in-Named.is ∙ concept_of-Named c.in-Named.word)))
