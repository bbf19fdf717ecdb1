use Rattle.std.proofs.Common.{◌≡◌, ℕ, List, take, length, sym, ap, ◌∙◌, subst}
use Rattle.derivation_trees.proofs.TruthLemmas.{true_is_false}
use Rattle.derivation_trees.specs.Settings.{Setting}
use Rattle.derivation_trees.specs.Partial.{IsTypeable}
use Rattle.derivation_trees.specs.Sentences.{setting_of}
use Rattle.editor.proofs.EditingLemmas.{longest_more, longest_stops, longest_unread, rebased_all, kept_on, undone}
use Rattle.editor.proofs.KnownLemmas.{IsKnown, beginning_known}
use Rattle.editor.proofs.editors.extended.Goals as goal

pub loop-place-init : goal.loop-place-init
loop-place-init c =
    let g = c.args.grammar.now in
    let l = c.args.lexicon.now in
    let tokens = c.args.tokens.now in
    let count : c.len-place.result ≡ length c.args.chart.tokens = c.len-place.ensures ∙ ap (length {A = List ℕ}) c.tokens.ensures.tokens in
    (c.requires.front ∙ ap (λ n. setting_of g l (take n tokens)) (sym count), subst (λ n. IsTypeable g l (take n tokens)) (sym count) c.requires.typeable)

pub returns-then-not-known-clause-kept : goal.returns-then-not-known-clause-kept
returns-then-not-known-clause-kept c =
    kept_on c.args.grammar.now c.args.lexicon.now c.loop-place.chart (take c.loop-place.place c.args.tokens.now) c.loop-place.invariant.0

pub returns-then-not-known-clause-tokens : goal.returns-then-not-known-clause-tokens
returns-then-not-known-clause-tokens c =
    longest_unread c.args.grammar.now c.args.lexicon.now c.args.tokens.now c.loop-place.place c.loop-place.chart c.index-tokens-place.result
    c.loop-place-test.true c.index-tokens-place.is c.loop-place.invariant.0 c.loop-place.invariant.1
    (λ h. true_is_false (sym (c.is_known-known.ensures.known.1 (subst (IsKnown c.args.grammar.now c.args.lexicon.now) (sym c.as_str.ensures.value)
    (beginning_known c.args.grammar.now c.args.lexicon.now c.loop-place.chart.tokens c.index-tokens-place.result h))) ∙ c.if-not-known.true))

pub returns-then-not-goes_on-clause-kept : goal.returns-then-not-goes_on-clause-kept
returns-then-not-goes_on-clause-kept c =
    let g = c.args.grammar.now in
    let l = c.args.lexicon.now in
    let first = take c.loop-place.place c.args.tokens.now in
    let old = c.loop-place.chart in
    let same : c.back.new.self ≡ old = undone g l old c.advance.new.self c.back.new.self c.index-tokens-place.result c.back.result
    (kept_on g l old first c.loop-place.invariant.0) c.in_ok-goes_on.ensures.added c.back.ensures.none c.back.ensures.last in
    kept_on g l c.back.new.self first (same ∙ c.loop-place.invariant.0)

pub loop-place-preserved : goal.loop-place-preserved
loop-place-preserved c =
    longest_more c.args.grammar.now c.args.lexicon.now c.args.tokens.now c.loop-place.place c.loop-place.chart c.advance.new.self c.index-tokens-place.result
    c.in_ok-goes_on.goes_on
    c.loop-place-test.true c.index-tokens-place.is c.loop-place.invariant.0 c.loop-place.invariant.1 c.in_ok-goes_on.ensures.added
    c.in_ok-goes_on.ensures.begins c.if-not-goes_on.false

pub returns-then-not-goes_on-clause-tokens : goal.returns-then-not-goes_on-clause-tokens
returns-then-not-goes_on-clause-tokens c =
    longest_stops c.args.grammar.now c.args.lexicon.now c.args.tokens.now c.loop-place.place c.loop-place.chart c.advance.new.self c.back.new.self
    c.index-tokens-place.result c.in_ok-goes_on.goes_on c.back.result
    c.loop-place-test.true c.index-tokens-place.is c.loop-place.invariant.0 c.loop-place.invariant.1 c.in_ok-goes_on.ensures.added
    c.in_ok-goes_on.ensures.begins c.if-not-goes_on.true c.back.ensures.none c.back.ensures.last

pub returns-clause-tokens : goal.returns-clause-tokens
returns-clause-tokens c =
    rebased_all c.args.grammar.now c.args.lexicon.now c.args.tokens.now c.loop-place.chart.tokens c.loop-place.place c.loop-place-test.false
    (ap (λ (s : Setting). s.tokens) c.loop-place.invariant.0) c.loop-place.invariant.1
