-- Knowledge of fewer kinds of classes, whose searches end sooner.
use Rattle.std.specs.Prelude.{Bool, true, false, not}
use Rattle.std.specs.List.{list_any}
use Rattle.logic_terms.specs.Concept.{Concept, UnionOf, SomeValuesFrom}
use Rattle.logic_terms.specs.Theory.{Theory}
use Rattle.tableau_bounds.specs.Enough.{own_occurrences}

abbrev pub is_union : Concept → Bool
is_union (UnionOf cs) = true
is_union _ = false

abbrev pub is_existential : Concept → Bool
is_existential (SomeValuesFrom role c) = true
is_existential _ = false

-- whether no class of the assertions, the unfoldings and the general classes is a union, nor any part of one
abbrev pub is_without_unions : Theory → Bool
is_without_unions k = not (list_any is_union (own_occurrences k))

-- whether none is an existential restriction
abbrev pub is_without_existentials : Theory → Bool
is_without_existentials k = not (list_any is_existential (own_occurrences k))
