use Rattle.std.proofs.Common.{◌≡◌, ◌+◌, map, drop, rules, sym, ◌∙◌, ap, subst}
use Rattle.derivations.specs.Entries.{shown, goes_on, all_tried, forms_in, forms_among, IsInOrder}
use Rattle.derivations.proofs.EntryLemmas.{all_tried_in_order}
use Rattle.derivations.proofs.TypingLemmas.{one_word_tried}
use Rattle.derivations.proofs.typing.try_words.Goals as goal

pub loop-place-preserved : goal.loop-place-preserved
loop-place-preserved c =
    let test = goes_on c.args.grammar.now c.args.lexicon.now c.args.tokens.now in
    let old = map shown c.loop-place.entries.items in (
      subst IsInOrder (sym c.in_ok-try_word.ensures) (all_tried_in_order test (forms_in c.get.result.now) old c.loop-place.invariant.0),
      ap (all_tried test (forms_among (drop (c.loop-place.place + 1) c.args.lexicon.now.live))) c.in_ok-try_word.ensures
          ∙ one_word_tried test c.args.lexicon.now.live c.loop-place.place c.get.result.now old (search rules) c.get.ensures ∙ c.loop-place.invariant.1,
    )
