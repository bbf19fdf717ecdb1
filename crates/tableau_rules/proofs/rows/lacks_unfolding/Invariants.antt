use Rattle.std.proofs.Common.{◌≡◌, ◌&&◌, false, take, map}
use Rattle.std.specs.Prelude.{not}
use Rattle.std.specs.List.{list_any}
use Rattle.logic_terms.specs.Interpretation.{is_word}
use Rattle.logic_terms.specs.Known.{stated}
use Rattle.logic_terms.specs.Same.{has_concept}
use Rattle.logic_terms.specs.Shown.{concept_of}
use Rattle.tableau_rules.proofs.rows.lacks_unfolding.Given as goal

abbrev pub invariant-loop-entry : goal.invariant-loop-entry
invariant-loop-entry l = list_any (λ e. is_word l.word e.0 && not (has_concept (map concept_of l.label) e.1)) (take l.entry-index (stated l.entry-items))
    ≡ false
