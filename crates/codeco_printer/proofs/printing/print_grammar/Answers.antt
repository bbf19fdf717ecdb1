use Rattle.std.proofs.Common.{◌≡◌, ◌∙◌, ap}
use Rattle.codeco_terms.specs.GrammarParts.{GrammarParts}
use Rattle.codeco_text.specs.Notation.{lexemes}
use Rattle.codeco_printer.specs.Printing.{printed}
use Rattle.codeco_printer.specs.Unnumbered.{written_of}
use Rattle.codeco_printer.specs.Writing.{Output, nothing, write}
use Rattle.codeco_printer.proofs.GrammarPrinted.{grammar_printed, printed_spells, spaces_needed}
use Rattle.codeco_printer.proofs.OneReading.{read_back}
use Rattle.codeco_printer.proofs.printing.print_grammar.Goals as goal

pub returns : goal.returns
returns c =
    let g = c.args.grammar.now in
    let sound = c.grammar.ensures.sound in
    let parts : c.in_ok-print_parts.field-0 ≡ write nothing (lexemes (written_of g)) =
    c.in_ok-print_parts.ensures ∙ ap (λ (p : GrammarParts). write nothing (lexemes (written_of p))) c.grammar.ensures.grammar in
    let text : c.into_text.result ≡ printed (lexemes (written_of g)) = c.into_text.ensures ∙ ap (λ (o : Output). o.bytes) parts ∙ grammar_printed g sound in
    record {
      text = text;
      spelling = printed_spells g sound c.into_text.result text;
      read_back = read_back g c.into_text.result sound (printed_spells g sound c.into_text.result text);
      spaces = spaces_needed g sound;
    }
