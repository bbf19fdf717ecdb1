use Rattle.std.proofs.Common.{◌≡◌, ◌||◌, drop}
use Rattle.wiki_base.specs.declared.numbers.WordId.{WordId}
use Rattle.chart.specs.Offers.{has_id, is_used}
use Rattle.chart.proofs.used.used_ids.Given as goal

abbrev pub invariant-loop-one : goal.invariant-loop-one
invariant-loop-one l = (id : WordId) → (has_id l.ids id || is_used (drop l.one-index l.readings) id) ≡ is_used l.readings id
