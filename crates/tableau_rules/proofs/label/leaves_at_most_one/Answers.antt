use Rattle.std.proofs.Common.{◌≡◌, ℕ, ◌+◌, ltb, map, length, sym, ap, ◌∙◌, arith, true, false}
use Rattle.std.specs.Prelude.{not}
use Rattle.logic_terms.specs.Complement.{complement}
use Rattle.logic_terms.specs.Same.{has_concept}
use Rattle.logic_terms.specs.Shown.{concept_of}
use Rattle.tableau_rules.specs.Rules.{open_members}
use Rattle.tableau_rules.proofs.MapWalks.{map_count_more, map_all}
use Rattle.tableau_rules.proofs.label.leaves_at_most_one.Goals as goal
use Rattle.tableau_rules.proofs.label.leaves_at_most_one.Goals.{then-not-has_complement, else-not-has_complement}

pub loop-class-preserved : goal.loop-class-preserved
loop-class-preserved c = elim c.if-not-has_complement.branch [
  | then-not-has_complement w ↦ record {
    low = omega arith;
    counted = w.open-is ∙ (ap (λ n. n + 1) c.loop-class.invariant.counted
        ∙ sym (map_count_more concept_of (λ d. not (has_concept (map concept_of c.args.label.now) (complement d))) c.args.members.now c.loop-class.class-index
        c.class-item.result c.loop-class-test.true c.class-item.is true (ap not (sym c.has_complement.ensures ∙ w.if-not-has_complement.true))));
  }
  | else-not-has_complement w ↦ record {
    low = omega arith;
    counted = w.open-is ∙ (c.loop-class.invariant.counted ∙ (sym (plus_none _)
        ∙ sym (map_count_more concept_of (λ d. not (has_concept (map concept_of c.args.label.now) (complement d))) c.args.members.now c.loop-class.class-index
        c.class-item.result c.loop-class-test.true c.class-item.is false (ap not (sym c.has_complement.ensures ∙ w.if-not-has_complement.false)))));
  }
]
  where
    plus_none : (n : ℕ) → n + 0 ≡ n
    plus_none n = omega arith

pub returns : goal.returns
returns c =
    ap (λ n. ltb n 2)
    (c.loop-class.invariant.counted ∙ ap (λ ms. length (open_members (map concept_of c.args.label.now) ms))
    (map_all concept_of c.args.members.now c.loop-class.class-index c.loop-class-test.false))
