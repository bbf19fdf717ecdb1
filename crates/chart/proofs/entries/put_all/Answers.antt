use Rattle.std.proofs.Common.{map, sym, subst}
use Rattle.derivations.specs.Entries.{shown, IsInOrder}
use Rattle.derivations.proofs.EntryLemmas.{with_entry_in_order}
use Rattle.chart.proofs.OfferLoops.{put_turn}
use Rattle.chart.proofs.entries.put_all.Goals as goal

pub loop-entry-preserved : goal.loop-entry-preserved
loop-entry-preserved c = record {
  ordered = subst IsInOrder (sym c.in_ok-put.ensures) (with_entry_in_order _ (map shown c.loop-entry.entries.items) c.loop-entry.invariant.ordered);
  gathered = put_turn c.args.found.now c.loop-entry.entry-index _ (map shown c.loop-entry.entries.items) (map shown c.put.new.entries.items) _
      c.loop-entry-test.true c.in_ok-put.ensures c.loop-entry.invariant.gathered;
}
