use Rattle.std.proofs.Common.{◌≡◌, length, map}
use Rattle.logic_terms.specs.declared.expressions.Class.TheViews.{size-Class, size-Classes}
use Rattle.logic_terms.specs.Shown.{concepts_of}
use Rattle.logic_terms.specs.Concept.{concepts_from}
use Rattle.logic_terms.specs.Complement.{complement, complements, normal_form, normal_forms}
use Rattle.logic_terms.specs.Same.{same_concepts}
use Rattle.logic_terms.proofs.SameLemmas.{rest_same}
use Rattle.logic_terms.proofs.expressions.+opposing.Given as goal

abbrev pub invariant-Classes::are_complements_of-loop-place : goal.invariant-Classes::are_complements_of-loop-place
invariant-Classes::are_complements_of-loop-place l = record {
  long : length (concepts_of l.self) ≡ length (concepts_of l.classes);
  left_decides : same_concepts (concepts_from (concepts_of l.self)) (complements (concepts_from (concepts_of l.classes)))
      ≡ rest_same (concepts_of l.self) (map complement (concepts_of l.classes)) l.place;
}

abbrev pub invariant-Classes::are_normal_forms_of-loop-place : goal.invariant-Classes::are_normal_forms_of-loop-place
invariant-Classes::are_normal_forms_of-loop-place l = record {
  long : length (concepts_of l.self) ≡ length (concepts_of l.classes);
  left_decides : same_concepts (concepts_from (concepts_of l.self)) (normal_forms (concepts_from (concepts_of l.classes)))
      ≡ rest_same (concepts_of l.self) (map normal_form (concepts_of l.classes)) l.place;
}

abbrev pub decreases-Class::is_complement_of : goal.decreases-Class::is_complement_of
decreases-Class::is_complement_of l = size-Class l.class.now

abbrev pub decreases-Class::is_normal_form_of : goal.decreases-Class::is_normal_form_of
decreases-Class::is_normal_form_of l = size-Class l.class.now

abbrev pub decreases-Classes::are_complements_of : goal.decreases-Classes::are_complements_of
decreases-Classes::are_complements_of l = size-Classes l.classes.now

abbrev pub decreases-Classes::are_normal_forms_of : goal.decreases-Classes::are_normal_forms_of
decreases-Classes::are_normal_forms_of l = size-Classes l.classes.now
