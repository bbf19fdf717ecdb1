use Rattle.std.proofs.Common.{sym, ◌∙◌}
use Rattle.logic_terms.specs.Known.{theory_of}
use Rattle.logic_terms.specs.Shown.{concept_of, concepts_of}
use Rattle.logic_terms.proofs.Places.{each_more, each_fails, some_more, some_passes}
use Rattle.tableau_rules.specs.Shown.{graph_of}
use Rattle.consequences.specs.Shows.{shows}
use Rattle.consequences.proofs.ShowsLemmas.{shown_named, shown_not, shown_all, shown_and, shown_or, shown_some, shown_value}
use Rattle.consequences.proofs.showing.+showing.Goals as goal

pub is_shown-returns-in-Named : goal.is_shown-returns-in-Named
is_shown-returns-in-Named t c = shown_named (theory_of c.args.k.now) (graph_of c.args.b.now) c.args.node c.args.class.now _ _ c.has.ensures c.in-Named.is

pub is_shown-returns-in-Not : goal.is_shown-returns-in-Not
is_shown-returns-in-Not t c = shown_not (theory_of c.args.k.now) (graph_of c.args.b.now) c.args.node c.args.class.now _ _ c.has-in-Not.ensures c.in-Not.is

pub is_shown-returns-in-All : goal.is_shown-returns-in-All
is_shown-returns-in-All t c = shown_all (theory_of c.args.k.now) (graph_of c.args.b.now) c.args.node c.args.class.now _ _ _ c.has-in-All.ensures c.in-All.is

pub is_shown-returns-in-And : goal.is_shown-returns-in-And
is_shown-returns-in-And t c =
    shown_and (theory_of c.args.k.now) (graph_of c.args.b.now) c.args.node c.args.class.now c.in-And.members _ c.each_is_shown.ensures c.in-And.is

pub is_shown-returns-in-Or : goal.is_shown-returns-in-Or
is_shown-returns-in-Or t c =
    shown_or (theory_of c.args.k.now) (graph_of c.args.b.now) c.args.node c.args.class.now c.in-Or.members _ c.some_is_shown.ensures c.in-Or.is

pub is_shown-returns-in-Some : goal.is_shown-returns-in-Some
is_shown-returns-in-Some t c =
    shown_some (theory_of c.args.k.now) (graph_of c.args.b.now) c.args.node c.args.class.now c.in-Some.role c.in-Some.inner c.deref.result.now
    c.edges_at.result.now _ c.some_end_is_shown.ensures c.edges_at.ensures c.deref.ensures c.in-Some.is

pub is_shown-returns-in-Value : goal.is_shown-returns-in-Value
is_shown-returns-in-Value t c =
    shown_value (theory_of c.args.k.now) (graph_of c.args.b.now) c.args.node c.args.class.now c.in-Value.role c.in-Value.name _ c.has_value.ensures
    c.in-Value.is

pub each_is_shown-returns-then-not-is_shown : goal.each_is_shown-returns-then-not-is_shown
each_is_shown-returns-then-not-is_shown t c =
    sym (each_fails (λ d. shows (theory_of c.args.k.now) (graph_of c.args.b.now) d c.args.node) (concepts_of c.args.classes.now) c.loop-place.place
    (concept_of c.get.result.now) c.get.ensures.item (sym c.is_shown.ensures ∙ c.if-not-is_shown.true))

pub each_is_shown-loop-place-preserved : goal.each_is_shown-loop-place-preserved
each_is_shown-loop-place-preserved t c =
    each_more (λ d. shows (theory_of c.args.k.now) (graph_of c.args.b.now) d c.args.node) (concepts_of c.args.classes.now) c.loop-place.place
    (concept_of c.get.result.now) c.get.ensures.item c.loop-place.invariant (sym c.is_shown.ensures ∙ c.if-not-is_shown.false)

pub some_is_shown-returns-then-is_shown : goal.some_is_shown-returns-then-is_shown
some_is_shown-returns-then-is_shown t c =
    sym (some_passes (λ d. shows (theory_of c.args.k.now) (graph_of c.args.b.now) d c.args.node) (concepts_of c.args.classes.now) c.loop-place.place
    (concept_of c.get.result.now) c.get.ensures.item (sym c.is_shown.ensures ∙ c.if-is_shown.true))

pub some_is_shown-loop-place-preserved : goal.some_is_shown-loop-place-preserved
some_is_shown-loop-place-preserved t c =
    some_more (λ d. shows (theory_of c.args.k.now) (graph_of c.args.b.now) d c.args.node) (concepts_of c.args.classes.now) c.loop-place.place
    (concept_of c.get.result.now) c.get.ensures.item c.loop-place.invariant (sym c.is_shown.ensures ∙ c.if-is_shown.false)
