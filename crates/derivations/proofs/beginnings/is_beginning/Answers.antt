use Rattle.std.proofs.Common.{◌≡◌, ap, ◌∙◌, sym, subst}
use Rattle.std.proofs.lemmas.Result.{IfOk-weaker}
use Rattle.codeco_checked.specs.Sound.{IsSound}
use Rattle.derivation_trees.specs.Sentences.{setting_of}
use Rattle.derivation_trees.proofs.LimitLemmas.{IsLimited-from_sound}
use Rattle.derivations.specs.Beginnings.{has_partial}
use Rattle.derivations.proofs.TypingLemmas.{beginning_from_test, test_from_beginning}
use Rattle.derivations.proofs.beginnings.is_beginning.Goals as goal

pub has_partial-requires : goal.has_partial-requires
has_partial-requires c =
    IsLimited-from_sound c.grammar.result.now (subst IsSound (sym c.grammar.ensures.grammar) c.grammar.ensures.sound)

pub returns-clause-partial : goal.returns-clause-partial
returns-clause-partial c =
    let g = c.args.grammar.now in
    let l = c.args.lexicon.now in
    let t = c.args.tokens.now in
    let read = c.as_slice.ensures.value ∙ c.in_ok-readings.ensures in
    let e : record { grammar = c.grammar.result.now; tokens = t; readings = c.as_slice.result.now } ≡ setting_of g l t =
    ap (λ x. record { grammar = x; tokens = t; readings = c.as_slice.result.now }) c.grammar.ensures.grammar
    ∙ ap (λ x. record { grammar = g; tokens = t; readings = x }) read in
    IfOk-weaker c.has_partial.result _ _
    (λ yes h. (
      λ w. beginning_from_test g l t c.grammar.ensures.sound (sym (h ∙ ap has_partial e) ∙ w),
      λ b. h ∙ ap has_partial e ∙ test_from_beginning g l t c.grammar.ensures.sound b,
    )) c.has_partial.ensures
