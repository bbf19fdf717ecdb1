use Rattle.std.proofs.Common.{◌≡◌, ◌||◌, drop}
use Rattle.codeco_terms.specs.declared.values.Value.TheVariants.{Word as TheWord}
use Rattle.wiki_base.specs.declared.numbers.WordId.{WordId}
use Rattle.chart.specs.Offers.{has_id, has_in}
use Rattle.chart.proofs.used.add_readings.Given as goal

abbrev pub invariant-loop-reading : goal.invariant-loop-reading
invariant-loop-reading l =
    (id : WordId) → (has_id l.ids id || has_in (drop l.reading-index l.readings) (TheWord id)) ≡ (has_id l.initial.ids id || has_in l.readings (TheWord id))
