use Rattle.std.proofs.Common.{◌≡◌, ℕ, ◌+◌, List, [], map, drop, length, rules, sym, ◌∙◌, ap, subst, Bor}
use Rattle.wiki_base.specs.Token.{IsToken}
use Rattle.derivations.specs.Entries.{shown, texts_of, goes_on, all_tried, functions_in, IsInOrder}
use Rattle.derivations.proofs.EntryLemmas.{tried_in_order}
use Rattle.derivations.proofs.TypingLemmas.{texts_get, texts_length, one_text_tried}
use Rattle.derivations.proofs.typing.try_terminals.Goals as goal

pub consider-requires-clause-token : goal.consider-requires-clause-token
consider-requires-clause-token c =
    let long : length (texts_of c.args.texts.now) ≡ length c.args.texts.now = texts_length c.args.texts.now in
    subst IsToken (texts_get c.args.texts.now c.loop-text.text-index [] _ (search rules)) (c.requires.tokens c.loop-text.text-index [] (search (rules, long)))

pub loop-text-preserved : goal.loop-text-preserved
loop-text-preserved c =
    let test = goes_on c.args.grammar.now c.args.lexicon.now c.args.tokens.now in
    let nothing : Bor (List ℕ) = record { ref_ptr = (0, 0); now = [] } in
    let old = map shown c.loop-text.entries.items in (
      subst IsInOrder (sym c.in_ok-consider.ensures) (tried_in_order test _ old c.loop-text.invariant.0),
      ap (all_tried test (functions_in (texts_of (drop (c.loop-text.text-index + 1) c.args.texts.now)))) c.in_ok-consider.ensures
          ∙ one_text_tried test c.args.texts.now c.loop-text.text-index nothing old (search rules) ∙ c.loop-text.invariant.1,
    )
