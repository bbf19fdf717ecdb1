use Rattle.std.proofs.Common.{◌≡◌, take, map}
use Rattle.logic_terms.specs.Shown.{concepts_of}
use Rattle.logic_terms.specs.Complement.{complement, normal_form}
use Rattle.logic_terms.proofs.complement.+negating.Given as goal

abbrev pub invariant-complements_of-loop-place : goal.invariant-complements_of-loop-place
invariant-complements_of-loop-place l = concepts_of l.negative ≡ map complement (take l.place (concepts_of l.members))

abbrev pub invariant-normal_forms_of-loop-place : goal.invariant-normal_forms_of-loop-place
invariant-normal_forms_of-loop-place l = concepts_of l.normal ≡ map normal_form (take l.place (concepts_of l.members))
