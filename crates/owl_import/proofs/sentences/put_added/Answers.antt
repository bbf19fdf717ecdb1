use Rattle.std.proofs.Common.{◌≡◌, false, ℕ, List, ◌++◌, Option, Some, sym, ap, subst, ◌∙◌}
use Rattle.std.specs.Prelude.{is_some, option_copied}
use Rattle.std.specs.Borrow.{Bor}
use Rattle.std.proofs.lemmas.Bool.{false≢true}
use Rattle.std.proofs.lemmas.Result.{IfOk-weaker}
use Rattle.codeco_checked.specs.Sound.{IsSound}
use Rattle.codeco_terms.specs.GrammarParts.{GrammarParts}
use Rattle.derivation_trees.specs.Cutting.{shown, cut_of, AreWords}
use Rattle.ace_grammar.specs.Names.{terminal_texts}
use Rattle.owl_import.specs.Sentences.{first_word}
use Rattle.owl_import.specs.Steps.{AddsLine}
use Rattle.owl_import.proofs.AddLemmas.{adds_line}
use Rattle.owl_import.proofs.KnownLemmas.{told_first, told_words}
use Rattle.owl_import.proofs.SaidLemmas.{said_told}
use Rattle.owl_import.proofs.TerminalLemmas.{ace_terminals}
use Rattle.owl_import.proofs.sentences.put_added.Goals as goal

pub unreachable-requires : goal.unreachable-requires
unreachable-requires c =
    let words = c.args.words.now in
    let tokens = c.args.tokens.now in
    let terminals : words.terminals ≡ terminal_texts =
    c.requires.terminals ∙ ap (λ (g : GrammarParts). g.terminals) c.requires.grammar ∙ ace_terminals in
    let told = said_told words.live c.requires.sentence.claim tokens c.requires.sentence.sentence.is_said in
    let none : is_some (first_word words.live tokens) ≡ false =
    ap is_some (sym c.first_word.ensures ∙ ap (λ (o : Option (Bor (List ℕ))). option_copied o) c.in_default.is) in
    false≢true (sym none ∙ told_first words c.keeps_rules.ensures terminals tokens told)

pub returns : goal.returns
returns c =
    let g = c.args.grammar.now in
    let words = c.args.words.now in
    let tokens = c.args.tokens.now in
    let text = c.in_ok-show.field-0 in
    let its_terminals : g.terminals ≡ terminal_texts = ap (λ (h : GrammarParts). h.terminals) c.requires.grammar ∙ ace_terminals in
    let told = said_told words.live c.requires.sentence.claim tokens c.requires.sentence.sentence.is_said in
    let few = c.requires.sentence.sentence.few in
    let are : AreWords g.terminals tokens =
    subst (λ (terminals : List (List ℕ)). AreWords terminals tokens) (sym its_terminals)
    (told_words words c.keeps_rules.ensures (c.requires.terminals ∙ its_terminals) tokens few told) in
    let shows : text ≡ shown g.terminals tokens =
    subst (λ (h : GrammarParts). text ≡ shown h.terminals tokens) c.grammar.ensures.grammar c.in_ok-show.ensures.exact in
    let clause = subst (λ (h : GrammarParts). IsSound h → AreWords h.terminals tokens → cut_of h.terminals text ≡ tokens) c.grammar.ensures.grammar
    c.in_ok-show.ensures.words in
    let again : cut_of g.terminals (shown g.terminals tokens) ≡ tokens = ap (cut_of g.terminals) (sym shows) ∙ clause c.grammar.ensures.sound are in
    let names : first_word words.live tokens ≡ Some c.in-Some.article.now =
    sym c.first_word.ensures ∙ ap (λ (o : Option (Bor (List ℕ))). option_copied o) c.in-Some.is in
    IfOk-weaker c.push_str.result _ (λ _. AddsLine g words tokens c.args.out.now c.push_str.new.self)
    (λ _ written. adds_line g words tokens c.args.out.now c.push_str.new.self c.in_ok-line.line c.in-Some.article.now c.in_ok-from_str.field-0 text names again
    c.in_ok-from_str.ensures shows c.in_ok-line.ensures (written ∙ ap (λ (l : List ℕ). c.args.out.now ++ l) c.as_str.ensures.value))
    c.push_str.ensures.ok
