use Rattle.std.proofs.Common.{◌≡◌, true, take}
use Rattle.std.specs.List.{list_all}
use Rattle.logic_terms.specs.Shown.{concept_of}
use Rattle.logic_terms.specs.Meaning.{is_in}
use Rattle.owl_eval.proofs.axioms.all_in_class.Given as goal

abbrev pub invariant-loop-element : goal.invariant-loop-element
invariant-loop-element l = list_all (is_in l.interp (concept_of l.class)) (take l.element-index l.elements) ≡ true
