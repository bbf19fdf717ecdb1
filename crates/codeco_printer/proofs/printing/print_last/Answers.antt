use Rattle.std.proofs.Common.{sym, ◌∙◌, length}
use Rattle.codeco_printer.specs.Unnumbered.{taken_terms, with_names}
use Rattle.codeco_printer.proofs.WriteLaws.{last_closed, length_taken}
use Rattle.codeco_printer.proofs.printing.print_last.Goals as goal

pub returns-in_ok-sign : goal.returns-in_ok-sign
returns-in_ok-sign c =
    let g = c.args.grammar.now in
    let taken = c.args.taken.now in
    c.in_ok-sign.ensures ∙ last_closed c.args.out.now c.print_marked.new.out c.args.opened (with_names g (taken_terms taken)) (length taken)
    (c.in_ok-print_marked.ensures) (sym (length_taken g taken)) (sym c.is_opened.ensures ∙ c.if-is_opened.true)
