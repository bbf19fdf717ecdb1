use Rattle.std.proofs.Common.{◌≡◌, ◌+◌, ◌<◌, map, drop, length, get_or, sym, ◌∙◌, ap, subst}
use Rattle.wiki_base.specs.Text.{IsText}
use Rattle.derivation_trees.specs.Menus.{group_of}
use Rattle.derivations.specs.Entries.{shown, goes_on, all_tried, tried, IsInOrder}
use Rattle.derivations.proofs.EntryLemmas.{tried_in_order}
use Rattle.derivations.proofs.TypingLemmas.{one_tried}
use Rattle.derivations.proofs.TokenLemmas.{text_token}
use Rattle.derivations.proofs.typing.try_word.Goals as goal

pub consider-requires-clause-token : goal.consider-requires-clause-token
consider-requires-clause-token c =
    text_token c.as_str.result.now c.as_str.utf8 (subst IsText (sym c.as_str.ensures.value) c.as_str.ensures.text)

pub loop-text-preserved : goal.loop-text-preserved
loop-text-preserved c =
    let test = goes_on c.args.grammar.now c.args.lexicon.now c.args.tokens.now in
    let group = group_of c.args.word.now.forms.kind in
    let texts = c.args.word.now.forms.texts in
    let old = map shown c.loop-text.entries.items in
    let step : map shown c.consider.new.entries.items ≡ tried test (group, c.text-item.result) old =
    c.in_ok-consider.ensures ∙ ap (λ g. tried test (g, c.as_str.result.now) old) c.of_kind-group.ensures
    ∙ ap (λ t. tried test (group, t) old) c.as_str.ensures.value in
    let is : c.text-item.result ≡ get_or texts c.loop-text.text-index c.text-item.result =
    c.text-item.is ∙ ap (λ ts. get_or ts c.loop-text.text-index c.text-item.result) c.as_slice-text-items.ensures in
    let lt : c.loop-text.text-index < length texts = subst (λ ts. c.loop-text.text-index < length ts) c.as_slice-text-items.ensures c.loop-text-test.true in (
      subst IsInOrder (sym step) (tried_in_order test (group, c.text-item.result) old c.loop-text.invariant.0),
      ap (all_tried test (map (λ text. (group, text)) (drop (c.loop-text.text-index + 1) texts))) step
          ∙ one_tried test group texts c.loop-text.text-index c.text-item.result old lt is ∙ c.loop-text.invariant.1,
    )
