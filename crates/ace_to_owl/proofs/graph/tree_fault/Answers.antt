use Rattle.logic_terms.specs.Shown.{concept_of}
use Rattle.std.proofs.Common.{◌≡◌, ℕ, ◌==◌, get_or, ◌+◌, ◌-◌, ◌<◌, ◌≤◌, true, false, List, ◌∷◌, map, drop, length, sym, ap, ◌∙◌, arith}
use Rattle.std.specs.List.{list_all}
use Rattle.logic_terms.specs.Concept.{Concept}
use Rattle.ace_to_owl.specs.declared.part.Part as rolled
use Rattle.ace_to_owl.specs.Answers.{part_shown}
use Rattle.ace_to_owl.specs.Moves.{moved_by}
use Rattle.ace_to_owl.specs.Parts.{Part, At, Edge, has_cycle}
use Rattle.ace_to_owl.proofs.Labels.{label, labels_on, labels_past, cycle_here, forest_on, has_cycle-drop, reached_by_labels, fault_cycle, fault_reached}
use Rattle.ace_to_owl.proofs.Passed.{drop_read}
use Rattle.ace_to_owl.proofs.graph.tree_fault.Goals as goal

-- the part before what is left
part_before : (ps : List rolled.Part) (left : ℕ) (p : rolled.Part) (q : Part) → 0 < left → left ≤ length ps → p ≡ get_or ps (left - 1) p → part_shown p ≡ q
    → drop (left - 1) (map part_shown ps) ≡ q ∷ drop left (map part_shown ps)
part_before ps left p q positive within is shows =
    let step : (left - 1) + 1 ≡ left = omega arith in
    drop_read part_shown ps (left - 1) p (omega arith) is
    ∙ ap (λ r. r ∷ drop ((left - 1) + 1) (map part_shown ps)) shows
    ∙ ap (λ n. q ∷ drop n (map part_shown ps)) step

pub returns-then-old-new : goal.returns-then-old-new
returns-then-old-new c =
    let ps : List Part = map part_shown c.args.parts.now in
    sym (fault_cycle c.args.referents.now ps
    (has_cycle-drop (c.loop-left.left - 1) ps
    (cycle_here c.in-Edge.field-0 c.in-Edge.from c.in-Edge.to (drop (c.loop-left.left - 1) ps) (drop c.loop-left.left ps) c.loop-left.moves
    (part_before c.args.parts.now c.loop-left.left c.index-parts-left.result _ c.loop-left-test.true c.loop-left.invariant.within c.index-parts-left.is
    (ap part_shown c.in-Edge.is))
    c.loop-left.invariant.labels c.label-old.result c.label-new.result
    (c.label-old.ensures ∙ ap (λ ms. moved_by ms c.in-Edge.from) c.as_slice.ensures)
    (c.label-new.ensures ∙ ap (λ ms. moved_by ms c.in-Edge.to) c.as_slice-in-Edge.ensures)
    c.if-old-new.true)))

pub loop-left-preserved-in-Continue-1 : goal.loop-left-preserved-in-Continue-1
loop-left-preserved-in-Continue-1 c =
    let ps : List Part = map part_shown c.args.parts.now in
    let here : drop (c.loop-left.left - 1) ps ≡ Edge c.in-Edge.field-0 c.in-Edge.from c.in-Edge.to ∷ drop c.loop-left.left ps =
    part_before c.args.parts.now c.loop-left.left c.index-parts-left.result _ c.loop-left-test.true c.loop-left.invariant.within c.index-parts-left.is
    (ap part_shown c.in-Edge.is) in
    let old : c.label-old.result ≡ moved_by c.loop-left.moves c.in-Edge.from = c.label-old.ensures ∙ ap (λ ms. moved_by ms c.in-Edge.from) c.as_slice.ensures in
    let new : c.label-new.result ≡ moved_by c.loop-left.moves c.in-Edge.to =
    c.label-new.ensures ∙ ap (λ ms. moved_by ms c.in-Edge.to) c.as_slice-in-Edge.ensures in
    record {
      labels = λ n. ap (λ ms. moved_by ms n) c.in_ok-push.ensures.ok
          ∙ labels_on c.in-Edge.field-0 c.in-Edge.from c.in-Edge.to (drop (c.loop-left.left - 1) ps) (drop c.loop-left.left ps) c.loop-left.moves here
          c.loop-left.invariant.labels c.label-old.result c.label-new.result old new n;
      forest = forest_on c.in-Edge.field-0 c.in-Edge.from c.in-Edge.to (drop (c.loop-left.left - 1) ps) (drop c.loop-left.left ps) c.loop-left.moves here
          c.loop-left.invariant.labels c.label-old.result c.label-new.result old new c.if-old-new.false c.loop-left.invariant.forest;
      within = omega (arith, c.loop-left.invariant.within);
    }

pub loop-left-preserved : goal.loop-left-preserved
loop-left-preserved c =
    let ps : List Part = map part_shown c.args.parts.now in
    let class : Concept = concept_of c.in_default.field-1 in
    let here : drop (c.loop-left.left - 1) ps ≡ At c.in_default.field-0 class ∷ drop c.loop-left.left ps =
    part_before c.args.parts.now c.loop-left.left c.index-parts-left.result _ c.loop-left-test.true c.loop-left.invariant.within c.index-parts-left.is
    (ap part_shown c.in_default.is) in
    record {
      labels = labels_past c.in_default.field-0 class (drop (c.loop-left.left - 1) ps) (drop c.loop-left.left ps) c.loop-left.moves here
          c.loop-left.invariant.labels;
      forest = ap has_cycle here ∙ c.loop-left.invariant.forest;
      within = omega (arith, c.loop-left.invariant.within);
    }

-- nothing is left: the labels are those of all parts
all_labels : (ps : List Part) (left : ℕ) (ms : List (ℕ × ℕ)) → left ≤ 0 → ((n : ℕ) → moved_by ms n ≡ label (drop left ps) n) → (n : ℕ)
    → moved_by ms n ≡ label ps n
all_labels ps left ms none labels n = let z : left ≡ 0 = omega arith in labels n ∙ ap (λ k. label (drop k ps) n) z

no_cycle : (ps : List Part) (left : ℕ) → left ≤ 0 → has_cycle (drop left ps) ≡ false → has_cycle ps ≡ false
no_cycle ps left none forest = let z : 0 ≡ left = omega arith in ap (λ k. has_cycle (drop k ps)) z ∙ forest

pub returns-then-each_reached : goal.returns-then-each_reached
returns-then-each_reached c =
    let ps : List Part = map part_shown c.args.parts.now in
    sym (fault_reached c.args.referents.now ps true (no_cycle ps c.loop-left.left c.loop-left-test.false c.loop-left.invariant.forest)
    (sym (reached_by_labels c.args.referents.now ps c.loop-left.moves
    (all_labels ps c.loop-left.left c.loop-left.moves c.loop-left-test.false c.loop-left.invariant.labels))
    ∙ sym (c.each_reached.ensures ∙ ap (λ ms. list_all (λ q. moved_by ms 0 == moved_by ms (q + 1)) c.args.referents.now) c.as_slice-2.ensures)
    ∙ c.if-each_reached.true))

pub returns : goal.returns
returns c =
    let ps : List Part = map part_shown c.args.parts.now in
    sym (fault_reached c.args.referents.now ps false (no_cycle ps c.loop-left.left c.loop-left-test.false c.loop-left.invariant.forest)
    (sym (reached_by_labels c.args.referents.now ps c.loop-left.moves
    (all_labels ps c.loop-left.left c.loop-left.moves c.loop-left-test.false c.loop-left.invariant.labels))
    ∙ sym (c.each_reached.ensures ∙ ap (λ ms. list_all (λ q. moved_by ms 0 == moved_by ms (q + 1)) c.args.referents.now) c.as_slice-2.ensures)
    ∙ c.if-each_reached.false))
