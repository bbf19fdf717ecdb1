-- The sentence that an axiom is said as: a row for each pattern, the shape of the axiom on the left and its tokens on the
-- right. A sentence of Attempto Controlled English for each, after Kaljurand, Attempto Controlled English as a Semantic Web
-- Language, 2007; the choice of patterns is this wiki's own.
use Rattle.std.specs.Prelude.{ℕ, Bool, true, false, List, [], Some, None, if◌then◌else◌}
use Rattle.wiki_base.specs.declared.numbers.WordId.{WordId}
use Rattle.lexicon.specs.declared.words.Word.{Word}
use Rattle.logic_terms.specs.declared.expressions.Role.{Role}
use Rattle.logic_terms.specs.Concept.{Concept, Concepts, Everything, Atomic, ComplementOf, IntersectionOf, UnionOf, SomeValuesFrom, AllValuesFrom, HasValue, no_concept, also_concept, Claim, SubClassOf, SubPropertyOf, ClassAssertion, PropertyAssertion, NegativePropertyAssertion, SameIndividual, DifferentIndividuals, TransitiveProperty}
use Rattle.logic_terms.specs.Same.{inverse}
use Rattle.verbalise.specs.Phrases.{Phrase, ◌⋅◌, the}
use Rattle.verbalise.specs.Vocabulary.{name, singular, a_singular, plural, third, related, not_related, where_straight, where_inverted}

-- a verb that leads to elements of a noun alone
abbrev pub only : List Word → WordId → WordId → Phrase
only live verb noun = third live verb ⋅ the "only" ⋅ plural live noun

-- the phrase of a basic class
abbrev pub basic_phrase : List Word → Concept → Phrase
basic_phrase live (Atomic noun) = the "is" ⋅ a_singular live noun
basic_phrase live (ComplementOf (Atomic noun)) = the "is" ⋅ the "not" ⋅ a_singular live noun
basic_phrase live (SomeValuesFrom role (Atomic noun)) = related live role (a_singular live noun)
basic_phrase live (SomeValuesFrom role Everything) = related live role (the "something")
basic_phrase live (HasValue role a) = related live role (name live a)
basic_phrase live (ComplementOf (HasValue role a)) = not_related live role (name live a)
basic_phrase live (AllValuesFrom role (Atomic noun)) = where_straight role (only live role.id noun)
basic_phrase live _ = None

-- the phrases of basic classes, each behind `and`
abbrev pub also : List Word → Concepts → Phrase
also live no_concept = Some []
also live (also_concept c cs) = the "and" ⋅ basic_phrase live c ⋅ also live cs

-- the phrase of a basic class, or of an intersection of some
abbrev pub joint_phrase : List Word → Concept → Phrase
joint_phrase live (IntersectionOf (also_concept c cs)) = basic_phrase live c ⋅ also live cs
joint_phrase live c = basic_phrase live c

-- the phrase of a class: one of these, or the union of exactly two
abbrev pub phrase : List Word → Concept → Phrase
phrase live (UnionOf (also_concept c (also_concept d no_concept))) = joint_phrase live c ⋅ the "or" ⋅ joint_phrase live d
phrase live c = joint_phrase live c

-- whether a basic class may be said of a name in a sentence of its own
abbrev pub is_noun_or_thing : Concept → Bool
is_noun_or_thing (Atomic noun) = true
is_noun_or_thing Everything = true
is_noun_or_thing _ = false

abbrev pub is_attribute : Concept → Bool
is_attribute (Atomic noun) = true
is_attribute (ComplementOf (Atomic noun)) = true
is_attribute (SomeValuesFrom role c) = is_noun_or_thing c
is_attribute _ = false

abbrev pub attribute : List Word → Concept → Phrase
attribute live c = if is_attribute c then basic_phrase live c else None

-- the phrase of a class of which a name is: such a class, or the union of exactly two
abbrev pub membership : List Word → Concept → Phrase
membership live (UnionOf (also_concept c (also_concept d no_concept))) = attribute live c ⋅ the "or" ⋅ attribute live d
membership live c = attribute live c

-- one inclusion of roles: from X and Y to the same, or the other way round where the role above is inverted
abbrev pub inclusion : List Word → Role → Role → Phrase
inclusion live below above =
    the "if" ⋅ (the "X" ⋅ related live below (the "Y")) ⋅ the "then"
    ⋅ (if above.inverted then the "Y" ⋅ related live (inverse above) (the "X") else the "X" ⋅ related live above (the "Y")) ⋅ the "."

-- a word that leads on: from X to Y and from there to Z, and then from X to Z
abbrev pub chain : List Word → Role → Phrase
chain live role =
    the "if" ⋅ (the "X" ⋅ related live role (the "Y")) ⋅ the "and" ⋅ (the "Y" ⋅ related live role (the "Z")) ⋅ the "then"
    ⋅ (the "X" ⋅ related live role (the "Z")) ⋅ the "."

-- the sentence of an axiom
abbrev pub said : List Word → Claim → Phrase
said live (ClassAssertion c a) = name live a ⋅ membership live c ⋅ the "."
said live (PropertyAssertion role a b) = where_straight role (name live a ⋅ related live role (name live b) ⋅ the ".")
said live (NegativePropertyAssertion role a b) = where_straight role (name live a ⋅ not_related live role (name live b) ⋅ the ".")
said live (SameIndividual a b) = name live a ⋅ the "is" ⋅ name live b ⋅ the "."
said live (DifferentIndividuals a b) = name live a ⋅ the "is" ⋅ the "not" ⋅ name live b ⋅ the "."
said live (SubClassOf (Atomic noun) c) = the "every" ⋅ singular live noun ⋅ phrase live c ⋅ the "."
said live (SubClassOf Everything c) = the "everything" ⋅ phrase live c ⋅ the "."
said live (SubClassOf (HasValue role a) (Atomic noun)) = where_inverted role (name live a ⋅ only live role.id noun ⋅ the ".")
said live (SubClassOf _ _) = None
said live (SubPropertyOf below above) = where_straight below (inclusion live below above)
said live (TransitiveProperty word) = chain live (record { id = word; inverted = false })
