use Rattle.std.proofs.Common.{◌≡◌, ℕ, ◌+◌, ◌≤◌, List, map, take, length, rules, sym, ap, ◌∙◌, subst}
use Rattle.lexicon.specs.Readings.{readings_of}
use Rattle.chart.specs.Charts.{IsChart}
use Rattle.chart.proofs.ChartLemmas.{setting, chart_unchanged}
use Rattle.chart.proofs.charts.Chart.unchanged.Goals as goal

pub invariant_of-result : goal.invariant_of-result
invariant_of-result c =
    let f = readings_of c.args.lexicon.now.live in
    let s = setting c.self.inside.grammar c.self.inside.tokens c.self.inside.readings in
    let n = c.same_count-count.result in
    let within : n ≤ length c.self.inside.tokens = subst (λ (t : List (List ℕ)). n ≤ length t) c.as_slice.ensures c.same_count-count.ensures.within in
    let same : take n c.self.inside.readings ≡ map f (take n c.self.inside.tokens) =
    sym (ap (take n) c.as_slice-2.ensures) ∙ c.same_count-count.ensures.same ∙ ap (λ t. map f (take n t)) c.as_slice.ensures in
    let tokens : c.in_ok-tokens.tokens ≡ take n c.self.inside.tokens = search rules in
    let derives : c.in_ok-derives.derives ≡ take (n + 1) c.self.inside.derives = search rules in
    let read : c.from_vec-readings.result ≡ map f c.in_ok-tokens.tokens =
    c.from_vec-readings.ensures ∙ c.in_ok-readings_of.ensures ∙ ap (map f) c.as_slice-4.ensures in
    let plans : c.in_ok-clone.field-0.value ≡ c.self.inside.plans.value = c.in_ok-clone.ensures.cases in
    subst (λ p. IsChart (setting c.in_ok-copy.field-0 c.in_ok-tokens.tokens c.from_vec-readings.result) p c.in_ok-derives.derives) (sym plans)
    (chart_unchanged s c.self.inside.plans.value c.self.inside.derives f n c.in_ok-copy.field-0 c.in_ok-tokens.tokens c.from_vec-readings.result
    c.in_ok-derives.derives
    c.in_ok-copy.ensures tokens read same derives within c.self.invariant)
