-- What each kind of class, axiom, condition and structure shows.
use Rattle.std.proofs.Common.{◌≡◌, List, [], ◌∷◌, Some, refl, sym, ap, ◌∙◌}
use Rattle.std.specs.declared.alloc.Global.{Global}
use Rattle.std.specs.declared.boxed.Box.{Box}
use Rattle.wiki_base.specs.declared.numbers.WordId.{WordId}
use Rattle.logic_terms.specs.declared.expressions.Role.{Role}
use Rattle.logic_terms.specs.Structure.{Condition, Conditions, Structure, IsA, AreRelated, AreSame, Negation, Implication, Disjunction, structure, condition_list, conditions_from, conditions_in}
use Rattle.logic_terms.specs.Parts.{members_in, intersection_part, union_part}
use Rattle.logic_terms.specs.Shown.{concept_layer, members_layer, concept_of, concepts_of, condition_layer, conditions_layer, structure_layer, condition_of, conditions_of, structure_of}
use Rattle.logic_terms.specs.Concept.{Concept, Concepts, Everything, Atomic, ComplementOf, IntersectionOf, UnionOf, SomeValuesFrom, AllValuesFrom, HasValue, concepts_from}
use Rattle.logic_terms.specs.declared.expressions.Class.{Class}
use Rattle.logic_terms.specs.declared.expressions.Classes.{Classes}
use Rattle.logic_terms.specs.declared.expressions.Class.TheOpen as open_class
use Rattle.logic_terms.specs.declared.expressions.Class.TheVariants as class
use Rattle.logic_terms.specs.declared.expressions.Class.TheFolds.{fold-roll-Class, fold_out-Classes}
use Rattle.logic_terms.specs.declared.structures.Drs.{Drs}
use Rattle.logic_terms.specs.declared.structures.Thing.{Thing}
use Rattle.logic_terms.specs.declared.structures.Cond.TheOpen as open_cond
use Rattle.logic_terms.specs.declared.structures.Cond.TheVariants as cond
use Rattle.logic_terms.specs.declared.structures.Cond.TheFolds.{fold_out-Drs, fold_out-Conds, fold-roll-Cond}

pub condition_list-conditions_from : (cs : List Condition) → condition_list (conditions_from cs) ≡ cs
condition_list-conditions_from [] = refl
condition_list-conditions_from (c ∷ cs) = ap (λ rest. c ∷ rest) (condition_list-conditions_from cs)

-- a structure shows its referents and what its conditions show
pub structure_of_is : (d : Drs) → structure_of d ≡ structure d.referents (conditions_from (conditions_of d.conditions))
structure_of_is d =
    fold_out-Drs Condition Conditions Structure condition_layer conditions_layer structure_layer d
    ∙ ap (structure d.referents) (fold_out-Conds Condition Conditions Structure condition_layer conditions_layer structure_layer d.conditions)

pub conditions_in_is : (d : Drs) → conditions_in (structure_of d) ≡ conditions_of d.conditions
conditions_in_is d =
    ap conditions_in (structure_of_is d) ∙ condition_list-conditions_from (conditions_of d.conditions)

fold_members : (m : Classes) → Rattle.logic_terms.specs.declared.expressions.Class.TheFolds.fold-Classes Concept Concepts concept_layer members_layer m
    ≡ concepts_from (concepts_of m)
fold_members m = fold_out-Classes Concept Concepts concept_layer members_layer m

pub concept_of-Thing : concept_of class.Thing ≡ Everything
concept_of-Thing =
    ap concept_of (sym class.rolls-Thing)
    ∙ fold-roll-Class Concept Concepts concept_layer members_layer open_class.Thing

pub concept_of-Named : (word : WordId) → concept_of (class.Named word) ≡ Atomic word
concept_of-Named word =
    ap concept_of (sym (class.rolls-Named word))
    ∙ fold-roll-Class Concept Concepts concept_layer members_layer (open_class.Named word)

pub concept_of-Not : (inner : Box Class Global) → concept_of (class.Not inner) ≡ ComplementOf (concept_of inner.value)
concept_of-Not inner =
    ap concept_of (sym (class.rolls-Not inner))
    ∙ fold-roll-Class Concept Concepts concept_layer members_layer (open_class.Not inner)

pub concept_of-And : (m : Classes) → concept_of (class.And m) ≡ IntersectionOf (concepts_from (concepts_of m))
concept_of-And m =
    ap concept_of (sym (class.rolls-And m))
    ∙ (fold-roll-Class Concept Concepts concept_layer members_layer (open_class.And m) ∙ ap IntersectionOf (fold_members m))

pub concept_of-Or : (m : Classes) → concept_of (class.Or m) ≡ UnionOf (concepts_from (concepts_of m))
concept_of-Or m =
    ap concept_of (sym (class.rolls-Or m))
    ∙ (fold-roll-Class Concept Concepts concept_layer members_layer (open_class.Or m) ∙ ap UnionOf (fold_members m))

pub concept_of-Some : (role : Role) (inner : Box Class Global) → concept_of (class.Some role inner) ≡ SomeValuesFrom role (concept_of inner.value)
concept_of-Some role inner =
    ap concept_of (sym (class.rolls-Some role inner))
    ∙ fold-roll-Class Concept Concepts concept_layer members_layer (open_class.Some role inner)

pub concept_of-All : (role : Role) (inner : Box Class Global) → concept_of (class.All role inner) ≡ AllValuesFrom role (concept_of inner.value)
concept_of-All role inner =
    ap concept_of (sym (class.rolls-All role inner))
    ∙ fold-roll-Class Concept Concepts concept_layer members_layer (open_class.All role inner)

pub concept_of-Value : (role : Role) (name : WordId) → concept_of (class.Value role name) ≡ HasValue role name
concept_of-Value role name =
    ap concept_of (sym (class.rolls-Value role name))
    ∙ fold-roll-Class Concept Concepts concept_layer members_layer (open_class.Value role name)

pub condition_of-Class : (noun : WordId) (thing : Thing) → condition_of (cond.Class noun thing) ≡ IsA noun thing
condition_of-Class noun thing =
    ap condition_of (sym (cond.rolls-Class noun thing))
    ∙ fold-roll-Cond Condition Conditions Structure condition_layer conditions_layer structure_layer (open_cond.Class noun thing)

pub condition_of-Rel : (word : WordId) (from : Thing) (to : Thing) → condition_of (cond.Rel word from to) ≡ AreRelated word from to
condition_of-Rel word from to =
    ap condition_of (sym (cond.rolls-Rel word from to))
    ∙ fold-roll-Cond Condition Conditions Structure condition_layer conditions_layer structure_layer (open_cond.Rel word from to)

pub condition_of-Same : (one : Thing) (other : Thing) → condition_of (cond.Same one other) ≡ AreSame one other
condition_of-Same one other =
    ap condition_of (sym (cond.rolls-Same one other))
    ∙ fold-roll-Cond Condition Conditions Structure condition_layer conditions_layer structure_layer (open_cond.Same one other)

pub condition_of-Not : (k : Drs) → condition_of (cond.Not k) ≡ Negation (structure_of k)
condition_of-Not k =
    ap condition_of (sym (cond.rolls-Not k))
    ∙ fold-roll-Cond Condition Conditions Structure condition_layer conditions_layer structure_layer (open_cond.Not k)

pub condition_of-Implies : (k : Drs) (l : Drs) → condition_of (cond.Implies k l) ≡ Implication (structure_of k) (structure_of l)
condition_of-Implies k l =
    ap condition_of (sym (cond.rolls-Implies k l))
    ∙ fold-roll-Cond Condition Conditions Structure condition_layer conditions_layer structure_layer (open_cond.Implies k l)

pub condition_of-Or : (k : Drs) (l : Drs) → condition_of (cond.Or k l) ≡ Disjunction (structure_of k) (structure_of l)
condition_of-Or k l =
    ap condition_of (sym (cond.rolls-Or k l))
    ∙ fold-roll-Cond Condition Conditions Structure condition_layer conditions_layer structure_layer (open_cond.Or k l)

-- the members of a list of concepts are its concepts
pub members_in-concepts_from : (cs : List Concept) → members_in (concepts_from cs) ≡ cs
members_in-concepts_from [] = refl
members_in-concepts_from (c ∷ cs) = ap (λ rest. c ∷ rest) (members_in-concepts_from cs)

-- the members of an intersection and of a union, from what they are written as
pub intersection_part-And : (k : Class) (m : Classes) → k ≡ class.And m → intersection_part (concept_of k) ≡ Some (concepts_of m)
intersection_part-And k m e =
    ap (λ c. intersection_part (concept_of c)) e
    ∙ (ap intersection_part (concept_of-And m) ∙ ap Some (members_in-concepts_from (concepts_of m)))

pub union_part-Or : (k : Class) (m : Classes) → k ≡ class.Or m → union_part (concept_of k) ≡ Some (concepts_of m)
union_part-Or k m e =
    ap (λ c. union_part (concept_of c)) e
    ∙ (ap union_part (concept_of-Or m) ∙ ap Some (members_in-concepts_from (concepts_of m)))
