use Rattle.std.proofs.Common.{◌≡◌, ◌+◌, length, drop, subst, sym, arith}
use Rattle.logic_terms.specs.Known.{theory_of}
use Rattle.tableau_rules.specs.Neighbours.{roots, roots_in}
use Rattle.tableau_rules.proofs.NameLaws.{count_on, count_passed}
use Rattle.tableau_rules.proofs.names.root_count.Goals as goal
use Rattle.tableau_rules.proofs.names.root_count.Goals.{then-entry, else-entry}

pub loop-entry-preserved : goal.loop-entry-preserved
loop-entry-preserved c = elim c.if-entry.branch [
  | then-entry w ↦ record {
    low = omega arith;
    left_decides = subst (λ m. length (roots (theory_of c.args.k.now))
        ≡ m + length (roots_in (drop (c.loop-entry.entry-index + 1) c.names-entry-items.result.now))) (sym w.count-is)
        (count_on c.names-entry-items.result.now c.loop-entry.entry-index _ c.loop-entry-test.true c.loop-entry.count _ c.loop-entry.invariant.left_decides
        w.if-entry.true);
  }
  | else-entry w ↦ record {
    low = omega arith;
    left_decides = subst (λ m. length (roots (theory_of c.args.k.now))
        ≡ m + length (roots_in (drop (c.loop-entry.entry-index + 1) c.names-entry-items.result.now))) (sym w.count-is)
        (count_passed c.names-entry-items.result.now c.loop-entry.entry-index _ c.loop-entry-test.true c.loop-entry.count _ c.loop-entry.invariant.left_decides
        w.if-entry.false);
  }
]
