use Rattle.std.proofs.Common.{map, ◌∙◌, ap, subst, []}
use Rattle.std.proofs.lemmas.Result.{IfOk-weaker}
use Rattle.derivations.specs.Entries.{shown, texts_of}
use Rattle.derivations.proofs.TypingLemmas.{text_menu, whole_menu}
use Rattle.chart.specs.Offers.{KnownFound}
use Rattle.chart.proofs.MenuLemmas.{asked_gathered}
use Rattle.chart.proofs.menus.menu_by_asking.Goals as goal

pub returns-clause-menu : goal.returns-clause-menu
returns-clause-menu c = λ utf8.
    let g = c.args.grammar.now in
    let l = c.args.lexicon.now in
    let t = c.args.tokens.now in
    let texts = texts_of c.in_ok-texts.texts.items in
    let middle = map shown c.add_known.new.found.items in
    let known = subst (λ xs. KnownFound g l.live t (texts_of xs) [] middle) c.as_slice.ensures.value
    (subst (λ b. KnownFound g l.live t (texts_of c.as_slice.result.now) (map shown b) middle) c.new-found.ensures.items c.in_ok-add_known.ensures) in
    let made = ap (map shown) c.as_slice-2.ensures.value
    ∙ asked_gathered g l t texts (map shown c.add_new.new.found.items) (map shown c.in_ok-entries.entries.items) c.in_ok-texts.ensures.sound
    c.in_ok-add_new.ensures.lexicon c.requires.same c.in_ok-texts.ensures.texts
    (record { middle = middle; known = known; new = c.in_ok-add_new.ensures.found }) c.in_ok-entries.ensures in
    IfOk-weaker c.menu_of.result _ _ (λ menu h. whole_menu g l t texts menu c.in_ok-texts.ensures.sound c.in_ok-texts.ensures.texts utf8 (h ∙ made))
    c.menu_of.ensures

pub returns-clause-texts : goal.returns-clause-texts
returns-clause-texts c =
    let g = c.args.grammar.now in
    let l = c.args.lexicon.now in
    let t = c.args.tokens.now in
    let texts = texts_of c.in_ok-texts.texts.items in
    let middle = map shown c.add_known.new.found.items in
    let known = subst (λ xs. KnownFound g l.live t (texts_of xs) [] middle) c.as_slice.ensures.value
    (subst (λ b. KnownFound g l.live t (texts_of c.as_slice.result.now) (map shown b) middle) c.new-found.ensures.items c.in_ok-add_known.ensures) in
    let made = ap (map shown) c.as_slice-2.ensures.value
    ∙ asked_gathered g l t texts (map shown c.add_new.new.found.items) (map shown c.in_ok-entries.entries.items) c.in_ok-texts.ensures.sound
    c.in_ok-add_new.ensures.lexicon c.requires.same c.in_ok-texts.ensures.texts
    (record { middle = middle; known = known; new = c.in_ok-add_new.ensures.found }) c.in_ok-entries.ensures in
    IfOk-weaker c.menu_of.result _ _ (λ menu h. text_menu g l t texts menu c.in_ok-texts.ensures.sound c.in_ok-texts.ensures.texts (h ∙ made)) c.menu_of.ensures
