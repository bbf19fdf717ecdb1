use Rattle.std.proofs.Common.{sym, subst}
use Rattle.codeco_terms.specs.GrammarParts.{GrammarParts}
use Rattle.codeco_text.specs.Notation.{IsSpelling}
use Rattle.codeco_printer.specs.Unnumbered.{written_of}
use Rattle.codeco_printer.proofs.GrammarPrinted.{printed_spells}
use Rattle.codeco_reader.specs.Texts.{Makes, IsFaultless, Gives}
use Rattle.codeco_reader.proofs.Answered.{IsOnly, grammar_given, printed_makes, memory_given}
use Rattle.codeco_reader.proofs.reading.read_grammar.Goals as goal

answered : (c : goal.After-drop-items-inside) (g : GrammarParts) → Makes c.args.text.now g → IsFaultless g → Gives g c.checked.result
answered c g m none =
    let text = c.args.text.now in
    let items = c.in_ok-items.items in
    let spells : IsSpelling text items = subst (λ t. IsSpelling t items) c.as_bytes.ensures.value c.in_ok-items.ensures.spelled in
    let only : IsOnly text items = λ others s. c.in_ok-items.ensures.only others (subst (λ t. IsSpelling t others) (sym c.as_bytes.ensures.value) s) in
    grammar_given text items c.checked.result only c.checked.ensures.grammar (c.checked.ensures.fault text spells) g m none

pub returns-clause-accepts : goal.returns-clause-accepts
returns-clause-accepts c g size m none = answered c g m none

pub returns-clause-printed : goal.returns-clause-printed
returns-clause-printed c g sound is size = answered c g (printed_makes c.args.text.now g sound is) sound.faultless

pub returns-in_err-items-clause-printed : goal.returns-in_err-items-clause-printed
returns-in_err-items-clause-printed c g sound is size =
    let spells = subst (λ t. IsSpelling t (written_of g)) (sym c.as_bytes.ensures.value) (printed_spells g sound c.args.text.now is) in
    let memory = c.in_err-items.ensures.only (written_of g) spells in
    memory_given g c.in_err-items.field-0.0 c.from_residual.result c.from_residual.ensures.0 c.from_residual.ensures.1 memory
