use Rattle.std.proofs.Common.{◌≡◌, map, ap, ◌∙◌, subst, sym}
use Rattle.std.proofs.lemmas.Result.{IfOk-weaker}
use Rattle.lexicon.specs.Readings.{readings_of}
use Rattle.codeco_checked.specs.Sound.{IsSound}
use Rattle.derivation_trees.specs.Settings.{Setting}
use Rattle.derivation_trees.specs.Sentences.{setting_of}
use Rattle.derivation_trees.proofs.LimitLemmas.{IsLimited-from_sound}
use Rattle.derivations.proofs.LeastLemmas.{none_told}
use Rattle.derivations.proofs.UniqueLemmas.{codes_tell, unique_told}
use Rattle.derivations.proofs.least.plain_least.Goals as goal

pub least_in-requires-clause-limited : goal.least_in-requires-clause-limited
least_in-requires-clause-limited c =
    IsLimited-from_sound c.grammar.result.now (subst IsSound (sym c.grammar.ensures.grammar) c.grammar.ensures.sound)

pub returns-clause-none : goal.returns-clause-none
returns-clause-none c =
    let g = c.args.grammar.now in
    let l = c.args.lexicon.now in
    let t = c.args.tokens.now in
    let read = c.as_slice-3.ensures.value ∙ c.in_ok-readings.ensures ∙ ap (map (readings_of l.live)) c.as_slice.ensures in
    let s : Setting = record { grammar = c.grammar.result.now; tokens = c.as_slice-2.result.now; readings = c.as_slice-3.result.now } in
    let e : record { grammar = c.grammar.result.now; tokens = c.as_slice-2.result.now; readings = c.as_slice-3.result.now } ≡ setting_of g l t =
    ap (λ x. record { grammar = x; tokens = c.as_slice-2.result.now; readings = c.as_slice-3.result.now }) c.grammar.ensures.grammar
    ∙ ap (λ x. record { grammar = g; tokens = x; readings = c.as_slice-3.result.now }) c.as_slice-2.ensures
    ∙ ap (λ x. record { grammar = g; tokens = t; readings = x }) read in
    IfOk-weaker c.least_in.result _ _ (λ least h. none_told least s (setting_of g l t) e h) c.least_in.ensures.none

pub returns-clause-unique : goal.returns-clause-unique
returns-clause-unique c =
    let g = c.args.grammar.now in
    let l = c.args.lexicon.now in
    let t = c.args.tokens.now in
    let read = c.as_slice-3.ensures.value ∙ c.in_ok-readings.ensures ∙ ap (map (readings_of l.live)) c.as_slice.ensures in
    let s : Setting = record { grammar = c.grammar.result.now; tokens = c.as_slice-2.result.now; readings = c.as_slice-3.result.now } in
    let e : record { grammar = c.grammar.result.now; tokens = c.as_slice-2.result.now; readings = c.as_slice-3.result.now } ≡ setting_of g l t =
    ap (λ x. record { grammar = x; tokens = c.as_slice-2.result.now; readings = c.as_slice-3.result.now }) c.grammar.ensures.grammar
    ∙ ap (λ x. record { grammar = g; tokens = x; readings = c.as_slice-3.result.now }) c.as_slice-2.ensures
    ∙ ap (λ x. record { grammar = g; tokens = t; readings = x }) read in
    IfOk-weaker c.least_in.result _ _ (λ least h. unique_told g l t least s e h) c.least_in.ensures.least

pub returns-in_err-readings-clause-codes : goal.returns-in_err-readings-clause-codes
returns-in_err-readings-clause-codes c = codes_tell c.args.grammar.now

pub returns-clause-codes : goal.returns-clause-codes
returns-clause-codes c = codes_tell c.args.grammar.now
