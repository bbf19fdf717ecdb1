use Rattle.std.proofs.Common.{◌≡◌, ◌+◌, ◌*◌, ◌++◌, drop, nat_lt}
use Rattle.logic_terms.specs.declared.expressions.Class.TheViews.{size-Class, size-Classes}
use Rattle.logic_terms.specs.Shown.{concepts_of}
use Rattle.logic_terms.specs.Concept.{concepts_from}
use Rattle.owl_text.specs.Texts.{classes_text}
use Rattle.owl_text.proofs.TextLemmas.{rest_text}
use Rattle.owl_text.proofs.printing.+printing.Given as goal

abbrev pub decreases-put_class : goal.decreases-put_class
decreases-put_class g l = size-Class l.class.now * 2

abbrev pub decreases-put_complement : goal.decreases-put_complement
decreases-put_complement g l = size-Class l.inner.now * 2 + 1

abbrev pub decreases-put_members : goal.decreases-put_members
decreases-put_members g l = size-Classes l.members.now * 2 + 1

abbrev pub decreases-put_each : goal.decreases-put_each
decreases-put_each g l = size-Classes l.members.now * 2

abbrev pub decreases-put_filled : goal.decreases-put_filled
decreases-put_filled g l = size-Class l.inner.now * 2 + 1

abbrev pub invariant-put_each-loop-place : goal.invariant-put_each-loop-place
invariant-put_each-loop-place g l =
    l.out ++ rest_text (g.L.Spelled.canonical_form l.lexicon) (nat_lt 0 l.place) (drop l.place (concepts_of l.members))
    ≡ l.initial.out ++ classes_text (g.L.Spelled.canonical_form l.lexicon) (concepts_from (concepts_of l.members))
