use Rattle.std.proofs.Common.{◌≡◌, ◌||◌, drop}
use Rattle.codeco_terms.specs.declared.values.Value.TheVariants.{Word as TheWord}
use Rattle.wiki_base.specs.declared.numbers.WordId.{WordId}
use Rattle.scopes.specs.Resolution.{has_value}
use Rattle.chart.specs.Offers.{has_id}
use Rattle.chart.proofs.used.add_values.Given as goal

abbrev pub invariant-loop-feature : goal.invariant-loop-feature
invariant-loop-feature l =
    (id : WordId) → (has_id l.ids id || has_value (drop l.feature-index l.vals) (3, TheWord id)) ≡ (has_id l.initial.ids id || has_value l.vals (3, TheWord id))
