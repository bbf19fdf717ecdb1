use Rattle.std.proofs.Common.{arith, rules}
use Rattle.codeco_checked.specs.Occurrences.{category_variables}
use Rattle.codeco_late_faults.proofs.MarkLemmas.{mark_step}
use Rattle.codeco_late_faults.proofs.references.mark_patterns.Goals as goal

pub loop-pattern-preserved : goal.loop-pattern-preserved
loop-pattern-preserved c =
    mark_step (λ p. category_variables p.cat) c.args.patterns.now c.loop-pattern.pattern-index c.pattern-item.result c.loop-pattern.plain
    c.mark_variables.new.plain _ (omega arith) c.pattern-item.is (search rules) c.loop-pattern.invariant
