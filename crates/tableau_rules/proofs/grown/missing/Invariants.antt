use Rattle.std.proofs.Common.{◌≡◌, ◌++◌, drop, map}
use Rattle.logic_terms.specs.Shown.{concept_of, concepts_of}
use Rattle.tableau_rules.specs.Rules.{with_classes}
use Rattle.tableau_rules.proofs.grown.missing.Given as goal

abbrev pub invariant-loop-class : goal.invariant-loop-class
invariant-loop-class l = with_classes (map concept_of l.label) (map concept_of l.classes)
    ≡ with_classes (map concept_of l.label ++ concepts_of l.more) (map concept_of (drop l.class-index l.classes))
