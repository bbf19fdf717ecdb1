use Rattle.std.proofs.Common.{◌+◌, sym, ap, arith}
use Rattle.std.specs.Prelude.{slice_index, slice_range}
use Rattle.std.proofs.lemmas.Bool.{ne_eqb}
use Rattle.codeco_text.specs.Scanning as scanning
use Rattle.codeco_text.proofs.Slices.{slice_more}
use Rattle.codeco_text.proofs.Steps.{terminal_steps}
use Rattle.codeco_text.proofs.scanner.step_terminal.Goals as goal

pub returns : goal.returns
returns c =
    let text = c.args.text.now in
    let byte = slice_index text c.args.at in
    terminal_steps c.args.builder.now text (slice_range text c.args.start c.args.at) byte c.args.start (c.args.at + 1) c.is_terminal_byte-goes_on.result
    c.if_it.result
    (ne_eqb byte 93 c.if-text-at-eq93.false) c.is_terminal_byte-goes_on.ensures c.if_it.ensures
    (ap scanning.terminal (sym (slice_more text c.args.start c.args.at c.requires.started c.requires.within))) (omega arith)
