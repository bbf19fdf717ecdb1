use Rattle.std.proofs.Common.{◌≡◌, rules, sym, ◌∙◌}
use Rattle.std.specs.declared.cmp.Ordering.TheVariants.{Less}
use Rattle.derivations.specs.Entries.{shown}
use Rattle.derivations.proofs.EntryLemmas.{between_up}
use Rattle.chart.proofs.entries.place_for.Goals as goal

pub loop-low-preserved-then-eq : goal.loop-low-preserved-then-eq
loop-low-preserved-then-eq c =
    let less : c.order.result ≡ Less = search rules in
    between_up c.args.entries.now (shown c.args.entry.now) c.loop-low.low c.loop-low.high _ _ c.requires c.loop-low.invariant (search rules)
    (sym c.order.ensures ∙ less)
