-- The text of a sound grammar.
use Rattle.std.proofs.Common.{◌≡◌, false, List, [], ◌∷◌, ◌++◌, map, sym, ap, subst, ◌∙◌}
use Rattle.std.specs.List.{list_all, flat_map}
use Rattle.std.proofs.Common.{ℕ, true}
use Rattle.std.proofs.lemmas.Bool.{and_parts}
use Rattle.std.proofs.lemmas.List.Concat.{flat_map-append}
use Rattle.codeco_terms.specs.GrammarParts.{GrammarParts}
use Rattle.codeco_text.specs.declared.written.WrittenItem.TheVariants as item
use Rattle.codeco_text.specs.Notation.{is_symbol, item_lexemes, lexemes, IsSpelling, Spells}
use Rattle.codeco_checked.specs.Sound.{IsSound}
use Rattle.codeco_printer.specs.Printing.{printed, NeedsSpaces}
use Rattle.codeco_printer.specs.Unnumbered.{written_rule, written_feature, written_of}
use Rattle.codeco_printer.specs.Writing.{Output, nothing, write}
use Rattle.codeco_printer.proofs.Led.{led_items}
use Rattle.codeco_printer.proofs.PrintLaws.{spells-printed, needs_space}
use Rattle.wiki_base.proofs.ListLaws.{all_split}
use Rattle.codeco_printer.proofs.Spelled.{items_symbols}
use Rattle.codeco_printer.proofs.Streamed.{write_is}
use Rattle.codeco_printer.proofs.WriteLaws.{write_append}
use Rattle.codeco_printer.proofs.WrittenSound.{written_spelled, written_fits}

symbols_of : (g : GrammarParts) → IsSound g → list_all is_symbol (lexemes (written_of g)) ≡ true
symbols_of g s = items_symbols (written_of g) (written_spelled g s)

pub grammar_printed : (g : GrammarParts) → IsSound g → (write nothing (lexemes (written_of g))).bytes ≡ printed (lexemes (written_of g))
grammar_printed g s = write_is [] false (lexemes (written_of g)) (led_items (written_of g)) (symbols_of g s)

-- the text spells the declarations and rules
pub printed_spells : (g : GrammarParts) → IsSound g → (text : List ℕ) → text ≡ printed (lexemes (written_of g)) → IsSpelling text (written_of g)
printed_spells g s text is = record {
  fits = written_fits g s;
  spells = subst (λ t. Spells t (lexemes (written_of g))) (sym is) (spells-printed (lexemes (written_of g)) (symbols_of g s));
}

-- each of its spaces is needed
pub spaces_needed : (g : GrammarParts) → IsSound g → NeedsSpaces (lexemes (written_of g))
spaces_needed g s front x back split long =
    let all : list_all is_symbol (front ++ x ∷ back) ≡ true = ap (list_all is_symbol) (sym split) ∙ symbols_of g s in
    let parts = and_parts (is_symbol x) (list_all is_symbol back) (all_split is_symbol front (x ∷ back) all).1 in
    needs_space x (printed back) back parts.0 long

-- the declarations and then the rules, written one behind the other
pub parts_written : (g : GrammarParts) (o declared ruled : Output) → declared ≡ write o (lexemes (flat_map (written_feature g) g.features))
    → ruled ≡ write declared (lexemes (map (λ r. item.Rule (written_rule g r)) g.rules)) → ruled ≡ write o (lexemes (written_of g))
parts_written g o declared ruled is_declared is_ruled =
    let front = lexemes (flat_map (written_feature g) g.features) in
    let back = lexemes (map (λ r. item.Rule (written_rule g r)) g.rules) in
    let joined : lexemes (written_of g) ≡ front ++ back =
    flat_map-append item_lexemes (flat_map (written_feature g) g.features) (map (λ r. item.Rule (written_rule g r)) g.rules) in
    is_ruled ∙ ap (λ m. write m back) is_declared ∙ sym (write_append o front back) ∙ ap (write o) (sym joined)
