use Rattle.std.proofs.Common.{◌≡◌, get_or}
use Rattle.codeco_printer.specs.Unnumbered.{name_at}
use Rattle.codeco_printer.specs.Writing.{put_word}
use Rattle.codeco_printer.proofs.WriteLaws.{atoms_written}
use Rattle.codeco_printer.proofs.printing.print_atoms.Goals as goal

pub returns-in_ok-print_others : goal.returns-in_ok-print_others
returns-in_ok-print_others c =
    let g = c.args.grammar.now in
    let word = c.in_ok-word.ensures in
    let first : c.word.new.self ≡ put_word c.args.out.now (name_at g.atoms (get_or c.args.atoms.now 0 0)) = cc in
    atoms_written g c.args.out.now c.word.new.self c.print_others.new.out c.args.atoms.now c.in-len1-up.len_at_least first c.in_ok-print_others.ensures
