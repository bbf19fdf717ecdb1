-- Which axioms have none of some words in them.
use Rattle.std.specs.Prelude.{ℕ, ◌≡◌, ◌&&◌, Bool, true, not, List, All}
use Rattle.logic_terms.specs.Concept.{Concept, Concepts, Everything, Atomic, ComplementOf, IntersectionOf, UnionOf, SomeValuesFrom, AllValuesFrom, HasValue, no_concept, also_concept, Claim, SubClassOf, SubPropertyOf, ClassAssertion, PropertyAssertion, NegativePropertyAssertion, SameIndividual, DifferentIndividuals, TransitiveProperty}
use Rattle.wiki_base.specs.declared.numbers.WordId.{WordId}
use Rattle.logic_terms.specs.Interpretation.{Interpretation}
use Rattle.logic_terms.specs.Meaning.{holds}
use Rattle.owl_eval.specs.Changes.{is_listed}

-- whether a word is none of these
abbrev pub is_other : List ℕ → WordId → Bool
is_other numbers word = not (is_listed numbers word)

-- whether none of these words is in a class, or in the members of one
abbrev mutual
  pub avoids : List ℕ → Concept → Bool
  avoids numbers Everything = true
  avoids numbers (Atomic word) = is_other numbers word
  avoids numbers (ComplementOf c) = avoids numbers c
  avoids numbers (IntersectionOf cs) = each_avoids numbers cs
  avoids numbers (UnionOf cs) = each_avoids numbers cs
  avoids numbers (SomeValuesFrom role c) = is_other numbers role.id && avoids numbers c
  avoids numbers (AllValuesFrom role c) = is_other numbers role.id && avoids numbers c
  avoids numbers (HasValue role name) = is_other numbers role.id && is_other numbers name

  pub each_avoids : List ℕ → Concepts → Bool
  each_avoids numbers no_concept = true
  each_avoids numbers (also_concept c cs) = avoids numbers c && each_avoids numbers cs

-- whether none of these words is in an axiom
abbrev pub claim_avoids : List ℕ → Claim → Bool
claim_avoids numbers (SubClassOf c d) = avoids numbers c && avoids numbers d
claim_avoids numbers (SubPropertyOf r s) = is_other numbers r.id && is_other numbers s.id
claim_avoids numbers (ClassAssertion c name) = avoids numbers c && is_other numbers name
claim_avoids numbers (PropertyAssertion r from to) = is_other numbers r.id && (is_other numbers from && is_other numbers to)
claim_avoids numbers (NegativePropertyAssertion r from to) = is_other numbers r.id && (is_other numbers from && is_other numbers to)
claim_avoids numbers (SameIndividual one other) = is_other numbers one && is_other numbers other
claim_avoids numbers (DifferentIndividuals one other) = is_other numbers one && is_other numbers other
claim_avoids numbers (TransitiveProperty word) = is_other numbers word

-- each of these axioms is true if none of the words is in it
abbrev pub HoldBeside : List ℕ → Interpretation → List Claim → Type 0
HoldBeside numbers i claims = All (λ claim. claim_avoids numbers claim ≡ true → holds i claim ≡ true) claims
