use Rattle.std.proofs.Common.{◌≡◌, ◌+◌, drop, subst, sym, ap, ◌∙◌, arith}
use Rattle.logic_terms.specs.Known.{theory_of}
use Rattle.tableau_rules.specs.Neighbours.{roots, roots_in, place_in}
use Rattle.tableau_rules.proofs.NameLaws.{place_from, place_from-zero, place_here, place_on, place_passed}
use Rattle.tableau_rules.proofs.names.place_of.Goals as goal
use Rattle.tableau_rules.proofs.names.place_of.Goals.{then-entry+else-root-entry, else-entry}

pub loop-entry-init : goal.loop-entry-init
loop-entry-init c = record {
  low = omega arith;
  left_decides = ap (λ es. place_in (roots_in es) c.args.root) (sym c.names-entry-items.ensures)
      ∙ place_from-zero (roots_in c.names-entry-items.result.now) c.args.root;
}

pub returns-then-root-entry : goal.returns-then-root-entry
returns-then-root-entry c =
    place_here c.names-entry-items.result.now c.loop-entry.entry-index _ c.loop-entry-test.true c.args.root c.loop-entry.place _
    c.loop-entry.invariant.left_decides c.if-entry.true c.if-root-entry.true

pub loop-entry-preserved : goal.loop-entry-preserved
loop-entry-preserved c = elim c.if-entry.branch [
  | then-entry+else-root-entry w ↦ record {
    low = omega arith;
    left_decides = subst (λ m. place_in (roots (theory_of c.args.k.now)) c.args.root
        ≡ place_from m (roots_in (drop (c.loop-entry.entry-index + 1) c.names-entry-items.result.now)) c.args.root) (sym w.place-is)
        (place_on c.names-entry-items.result.now c.loop-entry.entry-index _ c.loop-entry-test.true c.args.root c.loop-entry.place _
        c.loop-entry.invariant.left_decides w.if-entry.true w.if-root-entry.false);
  }
  | else-entry w ↦ record {
    low = omega arith;
    left_decides = subst (λ m. place_in (roots (theory_of c.args.k.now)) c.args.root
        ≡ place_from m (roots_in (drop (c.loop-entry.entry-index + 1) c.names-entry-items.result.now)) c.args.root) (sym w.place-is)
        (place_passed c.names-entry-items.result.now c.loop-entry.entry-index _ c.loop-entry-test.true c.args.root c.loop-entry.place _
        c.loop-entry.invariant.left_decides w.if-entry.false);
  }
]
