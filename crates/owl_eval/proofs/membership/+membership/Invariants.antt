use Rattle.std.proofs.Common.{◌≡◌, true, false, take}
use Rattle.std.specs.List.{list_any, list_all}
use Rattle.logic_terms.specs.Shown.{concept_of, concepts_of}
use Rattle.logic_terms.specs.Meaning.{is_in}
use Rattle.owl_eval.proofs.membership.+membership.Given as goal

abbrev pub invariant-each_end_is_member-loop-pair : goal.invariant-each_end_is_member-loop-pair
invariant-each_end_is_member-loop-pair l = list_all (λ p. is_in l.interp (concept_of l.class) p.1) (take l.pair-index l.pairs) ≡ true

abbrev pub invariant-is_member_of_each-loop-place : goal.invariant-is_member_of_each-loop-place
invariant-is_member_of_each-loop-place l = list_all (λ c. is_in l.interp c l.element) (take l.place (concepts_of l.classes)) ≡ true

abbrev pub invariant-is_member_of_some-loop-place : goal.invariant-is_member_of_some-loop-place
invariant-is_member_of_some-loop-place l = list_any (λ c. is_in l.interp c l.element) (take l.place (concepts_of l.classes)) ≡ false

abbrev pub invariant-some_end_is_member-loop-pair : goal.invariant-some_end_is_member-loop-pair
invariant-some_end_is_member-loop-pair l = list_any (λ p. is_in l.interp (concept_of l.class) p.1) (take l.pair-index l.pairs) ≡ false
