use Rattle.std.proofs.Common.{◌∙◌, subst, rules}
use Rattle.codeco_late_faults.specs.Tables.{AreSets, AreClasses}
use Rattle.codeco_late_faults.proofs.TableLemmas.{sets_hold, classes_hold}
use Rattle.codeco_late_faults.proofs.feature_table.FeatureTable.of.Goals as goal

pub classes_of-requires-clause-sets : goal.classes_of-requires-clause-sets
classes_of-requires-clause-sets c =
    sets_hold c.args.grammar.now c.len.result c.as_slice-features.result.now c.as_slice.result.now c.requires (search rules) (search rules) (search rules)

pub class_of-undeclared-requires-clause-sets : goal.class_of-undeclared-requires-clause-sets
class_of-undeclared-requires-clause-sets c =
    sets_hold c.args.grammar.now c.len.result c.as_slice-features.result.now c.as_slice-2.result.now c.requires (search rules) (search rules) (search rules)

pub invariant_of-result : goal.invariant_of-result
invariant_of-result c =
    let same = c.as_slice-features.ensures ∙ c.features.ensures in
    record {
      held = subst (λ z. AreSets z c.in_ok-sets.sets.items) same
          (sets_hold c.args.grammar.now c.len.result c.as_slice-features.result.now c.in_ok-sets.sets.items c.requires (search rules) same
          c.in_ok-sets.ensures);
      classed = subst (λ z. AreClasses z c.in_ok-classes.classes.items c.class_of-undeclared.result) same
          (classes_hold c.as_slice-features.result.now c.in_ok-classes.classes.items c.class_of-undeclared.result c.in_ok-classes.ensures
          c.class_of-undeclared.ensures);
    }
