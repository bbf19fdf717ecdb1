-- What a file of words and axioms says when it is read: each word is an entity of its kind, and has its place among the live words
-- as its number.
use Rattle.std.specs.Prelude.{◌≡◌, ℕ, ◌+◌, ◌-◌, ◌==◌, ◌&&◌, nat_lt, if◌then◌else◌, Bool, true, false, List, [], ◌∷◌, ◌++◌, map, codes}
use Rattle.std.specs.Option.{option_map_or}
use Rattle.std.specs.List.{list_all, position_or_len}
use Rattle.wiki_base.specs.declared.numbers.WordId.{WordId}
use Rattle.lexicon.specs.declared.kinds.Kind.{Kind}
use Rattle.lexicon.specs.declared.words.Word.{Word}
use Rattle.lexicon.specs.Words.{Listed, has_number, forms_of}
use Rattle.logic_terms.specs.declared.expressions.Role.{Role}
use Rattle.logic_terms.specs.Concept.{Concept, Concepts, Everything, Atomic, ComplementOf, IntersectionOf, UnionOf, SomeValuesFrom, AllValuesFrom, HasValue, no_concept, also_concept, Claim, SubClassOf, SubPropertyOf, ClassAssertion, PropertyAssertion, NegativePropertyAssertion, SameIndividual, DifferentIndividuals, TransitiveProperty}
use Rattle.logic_terms.specs.Plain.{are_plain}
use Rattle.owl_reader.specs.declared.kinds.Entity.{Entity}
use Rattle.owl_reader.specs.declared.kinds.EntityKind.{EntityKind}
use Rattle.owl_reader.specs.declared.kinds.EntityKind.TheVariants.{Class, Property, Individual}
use Rattle.owl_reader.specs.Names.{same_kind}
use Rattle.owl_grammar.specs.Files.{IsOwlFile}
use Rattle.owl_file.specs.Written.{canonical_text}

-- what a word of the kind is
abbrev pub kind_of : Kind → EntityKind
kind_of Kind.Noun = Class
kind_of Kind.Name = Individual
kind_of _ = Property

-- a word as an entity
abbrev pub entity_of : Word → Entity
entity_of word = record { kind = kind_of word.forms.kind; iri = codes "urn:acewiki:" ++ canonical_text word }

-- the word with the number lives, and is an entity of the kind
abbrev pub is_live_as : List Word → EntityKind → WordId → Bool
is_live_as live k id = option_map_or (λ forms. same_kind (kind_of forms.kind) k) (forms_of live id) false

-- each word of a class is live and of a fitting kind: a noun for a class, a name for an individual, and another word for a property
abbrev mutual
  pub class_fits : List Word → Concept → Bool
  class_fits live Everything = true
  class_fits live (Atomic word) = is_live_as live Class word
  class_fits live (ComplementOf c) = class_fits live c
  class_fits live (IntersectionOf cs) = classes_fit live cs
  class_fits live (UnionOf cs) = classes_fit live cs
  class_fits live (SomeValuesFrom role c) = is_live_as live Property role.id && class_fits live c
  class_fits live (AllValuesFrom role c) = is_live_as live Property role.id && class_fits live c
  class_fits live (HasValue role name) = is_live_as live Property role.id && is_live_as live Individual name

  pub classes_fit : List Word → Concepts → Bool
  classes_fit live no_concept = true
  classes_fit live (also_concept c cs) = class_fits live c && classes_fit live cs

abbrev pub names_fit : List Word → WordId → WordId → Bool
names_fit live one other = is_live_as live Individual one && is_live_as live Individual other

-- so is each word of an axiom, and each of axioms
abbrev pub claim_fits : List Word → Claim → Bool
claim_fits live (SubClassOf c d) = class_fits live c && class_fits live d
claim_fits live (SubPropertyOf r s) = is_live_as live Property r.id && is_live_as live Property s.id
claim_fits live (ClassAssertion c name) = class_fits live c && is_live_as live Individual name
claim_fits live (PropertyAssertion r from to) = is_live_as live Property r.id && names_fit live from to
claim_fits live (NegativePropertyAssertion r from to) = is_live_as live Property r.id && names_fit live from to
claim_fits live (SameIndividual one other) = names_fit live one other
claim_fits live (DifferentIndividuals one other) = names_fit live one other
claim_fits live (TransitiveProperty word) = is_live_as live Property word

abbrev pub claims_fit : List Word → List Claim → Bool
claims_fit live claims = list_all (claim_fits live) claims

-- the place of a word among the live words, from 1
abbrev pub placed : List Word → WordId → WordId
placed live id = record { 0 = position_or_len (has_number id) live + 1 }

-- a class and an axiom with another word for each
abbrev pub role_with : (WordId → WordId) → Role → Role
role_with other role = record { id = other role.id; inverted = role.inverted }

abbrev mutual
  pub class_with : (WordId → WordId) → Concept → Concept
  class_with other Everything = Everything
  class_with other (Atomic word) = Atomic (other word)
  class_with other (ComplementOf c) = ComplementOf (class_with other c)
  class_with other (IntersectionOf cs) = IntersectionOf (classes_with other cs)
  class_with other (UnionOf cs) = UnionOf (classes_with other cs)
  class_with other (SomeValuesFrom role c) = SomeValuesFrom (role_with other role) (class_with other c)
  class_with other (AllValuesFrom role c) = AllValuesFrom (role_with other role) (class_with other c)
  class_with other (HasValue role name) = HasValue (role_with other role) (other name)

  pub classes_with : (WordId → WordId) → Concepts → Concepts
  classes_with other no_concept = no_concept
  classes_with other (also_concept c cs) = also_concept (class_with other c) (classes_with other cs)

abbrev pub claim_with : (WordId → WordId) → Claim → Claim
claim_with other (SubClassOf c d) = SubClassOf (class_with other c) (class_with other d)
claim_with other (SubPropertyOf r s) = SubPropertyOf (role_with other r) (role_with other s)
claim_with other (ClassAssertion c name) = ClassAssertion (class_with other c) (other name)
claim_with other (PropertyAssertion r from to) = PropertyAssertion (role_with other r) (other from) (other to)
claim_with other (NegativePropertyAssertion r from to) = NegativePropertyAssertion (role_with other r) (other from) (other to)
claim_with other (SameIndividual one another) = SameIndividual (other one) (other another)
claim_with other (DifferentIndividuals one another) = DifferentIndividuals (other one) (other another)
claim_with other (TransitiveProperty word) = TransitiveProperty (other word)

-- no parenthesis of a text is one too many, where so many are open
abbrev pub is_shallow_text : ℕ → ℕ → List ℕ → Bool
is_shallow_text most count [] = true
is_shallow_text most count (b ∷ bs) =
    if b == 40 then nat_lt count most && is_shallow_text most (count + 1) bs
    else (if b == 41 then is_shallow_text most (count - 1) bs else is_shallow_text most count bs)

-- A text is read as the live words, in order, and these axioms, each word by its place: where the words in them are live and of fitting
-- kinds, their classes are in negation normal form with two members or more in each intersection and union, and no parenthesis is one
-- too many.
abbrev pub ReadsBack : Listed → List Claim → List ℕ → Type 0
ReadsBack words claims text =
    claims_fit words.live claims ≡ true → are_plain claims ≡ true → is_shallow_text 200 0 text ≡ true
    → IsOwlFile text (map entity_of words.live) (map (claim_with (placed words.live)) claims)
