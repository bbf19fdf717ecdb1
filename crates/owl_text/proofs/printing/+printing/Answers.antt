use Rattle.std.proofs.Common.{◌≡◌, List, ◌++◌, OnOk, sym, ap, ◌∙◌, subst}
use Rattle.logic_terms.specs.Concept.{Concept, ComplementOf, SomeValuesFrom, AllValuesFrom, concepts_from}
use Rattle.logic_terms.specs.Shown.{concept_of, concepts_of}
use Rattle.logic_terms.proofs.ShownLemmas.{concept_of-Not, concept_of-And, concept_of-Or, concept_of-Some, concept_of-All}
use Rattle.owl_text.specs.Texts.{class_text, classes_text}
use Rattle.owl_text.proofs.TextLemmas.{written_on}
use Rattle.owl_text.proofs.printing.+printing.Goals as goal

pub put_class-returns-in-And : goal.put_class-returns-in-And
put_class-returns-in-And g t c =
    subst (λ text. OnOk c.put_members.result (c.put_members.new.out ≡ c.args.out.now ++ text))
    (sym (ap (class_text (g.L.Spelled.canonical_form c.args.lexicon.now)) (ap concept_of c.in-And.is ∙ concept_of-And c.in-And.members)))
    c.put_members.ensures

pub put_class-returns-in-Or : goal.put_class-returns-in-Or
put_class-returns-in-Or g t c =
    subst (λ text. OnOk c.put_members-in-Or.result (c.put_members-in-Or.new.out ≡ c.args.out.now ++ text))
    (sym (ap (class_text (g.L.Spelled.canonical_form c.args.lexicon.now)) (ap concept_of c.in-Or.is ∙ concept_of-Or c.in-Or.members)))
    c.put_members-in-Or.ensures

pub put_class-returns-in-Some : goal.put_class-returns-in-Some
put_class-returns-in-Some g t c =
    subst (λ text. OnOk c.put_filled.result (c.put_filled.new.out ≡ c.args.out.now ++ text))
    (sym (ap (class_text (g.L.Spelled.canonical_form c.args.lexicon.now))
    (ap concept_of c.in-Some.is ∙ concept_of-Some c.in-Some.role c.in-Some.inner
    ∙ ap (λ k. SomeValuesFrom c.in-Some.role (concept_of k)) (sym c.deref-in-Some.ensures))))
    c.put_filled.ensures

pub put_class-returns-in-All : goal.put_class-returns-in-All
put_class-returns-in-All g t c =
    subst (λ text. OnOk c.put_filled-in-All.result (c.put_filled-in-All.new.out ≡ c.args.out.now ++ text))
    (sym (ap (class_text (g.L.Spelled.canonical_form c.args.lexicon.now))
    (ap concept_of c.in-All.is ∙ concept_of-All c.in-All.role c.in-All.inner
    ∙ ap (λ k. AllValuesFrom c.in-All.role (concept_of k)) (sym c.deref-in-All.ensures))))
    c.put_filled-in-All.ensures

pub put_each-loop-place-preserved : goal.put_each-loop-place-preserved
put_each-loop-place-preserved g t c =
    let form = g.L.Spelled.canonical_form c.args.lexicon.now in
    let cs : List Concept = concepts_of c.args.members.now in
    written_on form cs c.loop-place.place (concept_of c.get.result.now) (c.args.out.now ++ classes_text form (concepts_from cs)) c.loop-place.out
    c.put_space.new.out c.put_class.new.out c.get.ensures.item c.in_ok-put_space.ensures c.in_ok-put_class.ensures c.loop-place.invariant

pub put_class-returns-in-Not : goal.put_class-returns-in-Not
put_class-returns-in-Not g t c =
    subst (λ text. OnOk c.put_complement.result (c.put_complement.new.out ≡ c.args.out.now ++ text))
    (sym (ap (class_text (g.L.Spelled.canonical_form c.args.lexicon.now))
    (ap concept_of c.in-Not.is ∙ concept_of-Not c.in-Not.inner ∙ ap (λ k. ComplementOf (concept_of k)) (sym c.deref.ensures))))
    c.put_complement.ensures
