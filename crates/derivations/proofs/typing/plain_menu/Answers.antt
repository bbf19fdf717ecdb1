use Rattle.std.proofs.Common.{◌≡◌, map, sym, ◌∙◌, ap, subst, []}
use Rattle.std.proofs.lemmas.Result.{IfOk-weaker}
use Rattle.derivations.specs.Entries.{shown, texts_of, goes_on, all_tried, forms_among, functions_in, IsInOrder}
use Rattle.derivations.proofs.EntryLemmas.{all_tried_in_order}
use Rattle.derivations.proofs.TypingLemmas.{text_menu, whole_menu}
use Rattle.derivations.proofs.typing.plain_menu.Goals as goal

pub try_words-requires-clause-ordered : goal.try_words-requires-clause-ordered
try_words-requires-clause-ordered c =
    let test = goes_on c.args.grammar.now c.args.lexicon.now c.args.tokens.now in
    subst IsInOrder (sym (c.in_ok-try_terminals.ensures
    ∙ ap (λ es. all_tried test (functions_in (texts_of c.as_slice.result.now)) (map shown es)) c.new-entries.ensures.items))
    (all_tried_in_order test (functions_in (texts_of c.as_slice.result.now)) [] tt)

pub returns-clause-menu : goal.returns-clause-menu
returns-clause-menu c = λ utf8.
    let g = c.args.grammar.now in
    let l = c.args.lexicon.now in
    let t = c.args.tokens.now in
    let test = goes_on g l t in
    let texts = texts_of c.in_ok-texts.texts.items in
    let first = c.in_ok-try_terminals.ensures
    ∙ ap (λ es. all_tried test (functions_in (texts_of c.as_slice.result.now)) (map shown es)) c.new-entries.ensures.items
    ∙ ap (λ ts. all_tried test (functions_in (texts_of ts)) []) c.as_slice.ensures.value in
    let made = ap (map shown) c.as_slice-2.ensures.value ∙ c.in_ok-try_words.ensures ∙ ap (all_tried test (forms_among l.live)) first in
    IfOk-weaker c.menu_of.result _ _ (λ menu h. whole_menu g l t texts menu c.in_ok-texts.ensures.sound c.in_ok-texts.ensures.texts utf8 (h ∙ made))
    c.menu_of.ensures

pub returns-clause-texts : goal.returns-clause-texts
returns-clause-texts c =
    let g = c.args.grammar.now in
    let l = c.args.lexicon.now in
    let t = c.args.tokens.now in
    let test = goes_on g l t in
    let texts = texts_of c.in_ok-texts.texts.items in
    let first = c.in_ok-try_terminals.ensures
    ∙ ap (λ es. all_tried test (functions_in (texts_of c.as_slice.result.now)) (map shown es)) c.new-entries.ensures.items
    ∙ ap (λ ts. all_tried test (functions_in (texts_of ts)) []) c.as_slice.ensures.value in
    let made = ap (map shown) c.as_slice-2.ensures.value ∙ c.in_ok-try_words.ensures ∙ ap (all_tried test (forms_among l.live)) first in
    IfOk-weaker c.menu_of.result _ _ (λ menu h. text_menu g l t texts menu c.in_ok-texts.ensures.sound c.in_ok-texts.ensures.texts (h ∙ made)) c.menu_of.ensures
