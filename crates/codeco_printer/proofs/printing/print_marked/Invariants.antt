use Rattle.std.proofs.Common.{◌≡◌, drop}
use Rattle.codeco_printer.specs.Unnumbered.{taken_terms, with_names}
use Rattle.codeco_printer.specs.Writing.{write, opened_feats}
use Rattle.codeco_printer.proofs.printing.print_marked.Given as goal

abbrev pub invariant-loop-feature : goal.invariant-loop-feature
invariant-loop-feature l =
    write l.out (opened_feats l.opened (with_names l.grammar (taken_terms (drop l.feature-index l.taken))))
    ≡ write l.initial.out (opened_feats l.initial.opened (with_names l.grammar (taken_terms l.taken)))
