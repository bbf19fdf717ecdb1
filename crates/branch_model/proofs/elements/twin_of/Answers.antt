use Rattle.std.proofs.Common.{◌≡◌, ◌&&◌, true, false, sym, ◌∙◌, arith}
use Rattle.std.proofs.lemmas.Bool.{and_from, and_left, and_right}
use Rattle.logic_terms.specs.Known.{theory_of}
use Rattle.tableau_rules.specs.Blocking.{is_anonymous, same_classes}
use Rattle.tableau_rules.specs.Graph.{label_at, parent_of}
use Rattle.tableau_rules.specs.Shown.{graph_of}
use Rattle.branch_model.proofs.Climb.{anonymous_from, named_from, twin_here, twin_step}
use Rattle.branch_model.proofs.elements.twin_of.Goals as goal
use Rattle.branch_model.proofs.elements.twin_of.Goals.{else-parent-named-via-then-parent-named+else-same_set, else-parent-named-via-else-parent-named}

pub returns-then-same_set : goal.returns-then-same_set
returns-then-same_set c =
    let k = theory_of c.args.k.now in
    let g = graph_of c.args.b.now in
    let alike : same_classes (label_at g c.args.node) (label_at g c.in-Some.parent) ≡ true =
    (λ j. same_classes (sym c.label.ensures j) (sym c.label-then-parent-named.ensures j)) ∙ sym c.same_set.ensures ∙ c.if-same_set.true in
    twin_here k g c.requires.parents c.args.node c.loop-parent.at c.in-Some.parent c.loop-parent.invariant.low (sym c.parent.ensures ∙ c.in-Some.is)
    c.loop-parent.invariant.free
    (and_from (is_anonymous k c.in-Some.parent) (same_classes (label_at g c.args.node) (label_at g c.in-Some.parent))
    (anonymous_from k c.root_count-named.result c.in-Some.parent c.loop-parent.invariant.count c.if-parent-named.true) alike)

pub loop-parent-preserved : goal.loop-parent-preserved
loop-parent-preserved c =
    let k = theory_of c.args.k.now in
    let g = graph_of c.args.b.now in
    let up : parent_of g c.loop-parent.at ≡ _ = sym c.parent.ensures ∙ c.in-Some.is in
    let below = c.requires.parents c.loop-parent.at c.in-Some.parent up in
    let other : (is_anonymous k c.in-Some.parent && same_classes (label_at g c.args.node) (label_at g c.in-Some.parent)) ≡ false =
    elim c.else-parent-named.branch [
      | else-parent-named-via-then-parent-named+else-same_set w ↦
          and_right (is_anonymous k c.in-Some.parent) (same_classes (label_at g c.args.node) (label_at g c.in-Some.parent))
          ((λ j. same_classes (sym w.label.ensures j) (sym w.label-then-parent-named.ensures j)) ∙ sym w.same_set.ensures ∙ w.if-same_set.false)
      | else-parent-named-via-else-parent-named w ↦
          and_left (is_anonymous k c.in-Some.parent) (same_classes (label_at g c.args.node) (label_at g c.in-Some.parent))
          (named_from k c.root_count-named.result c.in-Some.parent c.loop-parent.invariant.count w.if-parent-named.false)
    ] in
    let on = twin_step k g c.requires.parents c.args.node c.loop-parent.at c.in-Some.parent up c.loop-parent.invariant.above c.loop-parent.invariant.free
    other in
    record { low = omega (arith, below, c.loop-parent.invariant.low); count = c.loop-parent.invariant.count; above = on.0; free = on.1 }
