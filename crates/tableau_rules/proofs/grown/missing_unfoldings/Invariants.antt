use Rattle.std.proofs.Common.{◌≡◌, ◌++◌, drop, map, filter}
use Rattle.logic_terms.specs.Interpretation.{is_word}
use Rattle.logic_terms.specs.Known.{theory_of, stated}
use Rattle.logic_terms.specs.Shown.{concept_of, concepts_of}
use Rattle.tableau_rules.specs.Rules.{unfoldings_of, with_classes}
use Rattle.tableau_rules.proofs.grown.missing_unfoldings.Given as goal

abbrev pub invariant-loop-entry : goal.invariant-loop-entry
invariant-loop-entry l = with_classes (map concept_of l.label) (unfoldings_of (theory_of l.k) l.word)
    ≡ with_classes (map concept_of l.label ++ concepts_of l.more)
    (map (λ e. e.1) (filter (λ e. is_word l.word e.0) (stated (drop l.entry-index l.entry-items))))
