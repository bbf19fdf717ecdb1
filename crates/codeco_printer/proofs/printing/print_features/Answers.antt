use Rattle.std.proofs.Common.{false, arith}
use Rattle.std.proofs.lemmas.List.{length-drop, take_rest}
use Rattle.codeco_printer.specs.Unnumbered.{plain_terms, taken_terms, merged, with_names}
use Rattle.codeco_printer.specs.Writing.{closed_feats}
use Rattle.codeco_printer.proofs.WriteLaws.{feature_turn}
use Rattle.codeco_printer.proofs.printing.print_features.Goals as goal

pub loop-feature-preserved : goal.loop-feature-preserved
loop-feature-preserved c =
    let g = c.args.grammar.now in
    let done = c.in_ok-done.ensures in
    let left = take_rest c.args.taken.now c.loop-feature.done in
    let bound = simp left at done.bound in
    record {
      bound = omega (arith, bound, length-drop c.loop-feature.done c.args.taken.now);
      left = feature_turn g c.args.out.now _ _ (closed_feats false (with_names g (merged (plain_terms g c.args.feats.now) (taken_terms c.args.taken.now)))) _
          c.args.feats.now c.loop-feature.feature-index _ c.args.taken.now _ c.loop-feature.done c.in_ok-done.field-0 c.loop-feature-test.true left
          c.loop-feature.invariant.left done.written done.from;
    }
