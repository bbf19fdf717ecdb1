-- What a contract sees of classes, axioms and structures.
use Rattle.std.specs.Prelude.{List, map}
use Rattle.logic_terms.specs.declared.expressions.Class.{Class}
use Rattle.logic_terms.specs.declared.expressions.Class.TheOpen.{Class-F, Classes-F, Thing, Named, Not, And, Or, Some, All, Value}
use Rattle.logic_terms.specs.declared.expressions.Class.TheFolds.{fold-Class}
use Rattle.logic_terms.specs.declared.expressions.Classes.{Classes}
use Rattle.logic_terms.specs.Concept.{Concept, Concepts, Everything, Atomic, ComplementOf, IntersectionOf, UnionOf, SomeValuesFrom, AllValuesFrom, HasValue, concepts_from, Claim, SubClassOf, SubPropertyOf, ClassAssertion, PropertyAssertion, NegativePropertyAssertion, SameIndividual, DifferentIndividuals, TransitiveProperty}
use Rattle.logic_terms.specs.declared.statements.Axiom.{Axiom}
use Rattle.logic_terms.specs.declared.statements.Axiom.TheVariants.{SubClass, SubRole, Member, Related, NotRelated, Equal, Differ, Transitive}
use Rattle.logic_terms.specs.declared.statements.Axioms.{Axioms}
use Rattle.logic_terms.specs.Structure.{Condition, Conditions, Structure, IsA, AreRelated, AreSame, Negation, Implication, Disjunction, structure, conditions_from}
use Rattle.logic_terms.specs.declared.structures.Cond.{Cond}
use Rattle.logic_terms.specs.declared.structures.Conds.{Conds}
use Rattle.logic_terms.specs.declared.structures.Drs.{Drs}
use Rattle.logic_terms.specs.declared.structures.Cond.TheOpen.{Cond-F, Conds-F, Drs-F, Class as ClassCond, Rel, Same, Not as NotCond, Implies, Or as OrCond}
use Rattle.logic_terms.specs.declared.structures.Cond.TheFolds.{fold-Cond, fold-Drs}

-- one layer of a class, with the concept of each part in its place
abbrev pub concept_layer : Class-F Concept Concepts → Concept
concept_layer Thing = Everything
concept_layer (Named word) = Atomic word
concept_layer (Not inner) = ComplementOf inner.value
concept_layer (And members) = IntersectionOf members
concept_layer (Or members) = UnionOf members
concept_layer (Some role inner) = SomeValuesFrom role inner.value
concept_layer (All role inner) = AllValuesFrom role inner.value
concept_layer (Value role name) = HasValue role name

abbrev pub members_layer : Classes-F Concept Concepts → Concepts
members_layer classes = concepts_from classes.items.items

-- the concept that a class stands for
abbrev pub concept_of : Class → Concept
concept_of = fold-Class Concept Concepts concept_layer members_layer

-- the concepts of a list of classes, in order
abbrev pub concepts_of : Classes → List Concept
concepts_of classes = map concept_of classes.items.items

-- the claim that an axiom makes
abbrev pub claim_of : Axiom → Claim
claim_of (SubClass below above) = SubClassOf (concept_of below) (concept_of above)
claim_of (SubRole below above) = SubPropertyOf below above
claim_of (Member class name) = ClassAssertion (concept_of class) name
claim_of (Related role from to) = PropertyAssertion role from to
claim_of (NotRelated role from to) = NegativePropertyAssertion role from to
claim_of (Equal one other) = SameIndividual one other
claim_of (Differ one other) = DifferentIndividuals one other
claim_of (Transitive word) = TransitiveProperty word

-- the claims of a list of axioms, in order
abbrev pub claims_of : Axioms → List Claim
claims_of axioms = map claim_of axioms.items.items

-- one layer of a condition, of a list of them or of a structure, with what each part shows in its place
abbrev pub condition_layer : Cond-F Condition Conditions Structure → Condition
condition_layer (ClassCond noun thing) = IsA noun thing
condition_layer (Rel word from to) = AreRelated word from to
condition_layer (Same one other) = AreSame one other
condition_layer (NotCond inner) = Negation inner
condition_layer (Implies left right) = Implication left right
condition_layer (OrCond left right) = Disjunction left right

abbrev pub conditions_layer : Conds-F Condition Conditions Structure → Conditions
conditions_layer conditions = conditions_from conditions.items.items

abbrev pub structure_layer : Drs-F Condition Conditions Structure → Structure
structure_layer drs = structure drs.referents drs.conditions

-- what a condition, the conditions of a list in order, and a structure show
abbrev pub condition_of : Cond → Condition
condition_of = fold-Cond Condition Conditions Structure condition_layer conditions_layer structure_layer

abbrev pub conditions_of : Conds → List Condition
conditions_of conditions = map condition_of conditions.items.items

abbrev pub structure_of : Drs → Structure
structure_of = fold-Drs Condition Conditions Structure condition_layer conditions_layer structure_layer
