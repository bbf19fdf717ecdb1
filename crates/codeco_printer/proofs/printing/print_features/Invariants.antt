use Rattle.std.proofs.Common.{◌≡◌, ◌≤◌, false, drop, length}
use Rattle.codeco_printer.specs.Unnumbered.{plain_terms, taken_terms, merged, with_names}
use Rattle.codeco_printer.specs.Writing.{write, closed_feats}
use Rattle.codeco_printer.proofs.printing.print_features.Given as goal

abbrev pub invariant-loop-feature : goal.invariant-loop-feature
invariant-loop-feature l = record {
  bound : l.done ≤ length l.taken;
  left : write l.out (closed_feats l.opened
      (with_names l.grammar (merged (plain_terms l.grammar (drop l.feature-index l.feats)) (taken_terms (drop l.done l.taken)))))
      ≡ write l.initial.out (closed_feats false (with_names l.grammar (merged (plain_terms l.grammar l.feats) (taken_terms l.taken))));
}
