-- The terms of a structure or a condition: what it speaks of and does not introduce itself.
use Rattle.std.specs.Prelude.{ℕ, ◌==◌, ◌++◌, Bool, true, false, List, [], ◌∷◌, Option, Some, None, if◌then◌else◌}
use Rattle.std.specs.List.{filter}
use Rattle.logic_terms.specs.declared.structures.Thing.{Thing}
use Rattle.logic_terms.specs.declared.structures.Thing.TheVariants.{Ref, Name}
use Rattle.wiki_base.specs.declared.numbers.WordId.{WordId}
use Rattle.logic_terms.specs.Structure.{Condition, Conditions, Structure, IsA, AreRelated, AreSame, Negation, Implication, Disjunction, no_condition, also_condition, structure, referents_in}
use Rattle.logic_terms.specs.Free.{is_bound}
use Rattle.logic_terms.specs.Interpretation.{is_word}

abbrev pub terms_of : List ℕ → Thing → List Thing
terms_of bound (Ref r) = if is_bound bound r then [] else Ref r ∷ []
terms_of bound (Name name) = Name name ∷ []

-- each occurrence of a name, and of a referent that is bound neither here nor inside, from left to right
abbrev mutual
  pub terms_in : List ℕ → Structure → List Thing
  terms_in bound (structure rs cs) = terms_in_all (bound ++ rs) cs

  pub terms_in_all : List ℕ → Conditions → List Thing
  terms_in_all bound no_condition = []
  terms_in_all bound (also_condition c cs) = terms_in_condition bound c ++ terms_in_all bound cs

  pub terms_in_condition : List ℕ → Condition → List Thing
  terms_in_condition bound (IsA noun thing) = terms_of bound thing
  terms_in_condition bound (AreRelated word from to) = terms_of bound from ++ terms_of bound to
  terms_in_condition bound (AreSame one other) = terms_of bound one ++ terms_of bound other
  terms_in_condition bound (Negation k) = terms_in bound k
  terms_in_condition bound (Implication k l) = terms_in bound k ++ terms_in (bound ++ referents_in k) l
  terms_in_condition bound (Disjunction k l) = terms_in bound k ++ terms_in bound l

abbrev pub same_thing : Thing → Thing → Bool
same_thing (Ref r) (Ref q) = r == q
same_thing (Ref r) (Name name) = false
same_thing (Name name) (Ref r) = false
same_thing (Name name) (Name other) = is_word name other

-- the root of a structure is a referent or a name, or it occurs nowhere
abbrev pub is_root : Option Thing → Thing → Bool
is_root None t = false
is_root (Some root) t = same_thing root t

-- a term that counts as open: a referent, or the root where that is a name
abbrev pub is_open : Option Thing → Thing → Bool
is_open root (Ref r) = true
is_open root (Name name) = is_root root (Name name)

-- the open terms of a condition at a root, from left to right, each as often as it occurs
abbrev pub open_terms : Option Thing → Condition → List Thing
open_terms root c = filter (is_open root) (terms_in_condition [] c)

-- the first name among terms
abbrev pub first_name : List Thing → Option WordId
first_name [] = None
first_name (Ref r ∷ ts) = first_name ts
first_name (Name name ∷ ts) = Some name

-- the referents of a list that are among terms, each as often as it occurs
abbrev pub referents_among : List ℕ → List Thing → List ℕ
referents_among rs [] = []
referents_among rs (Ref r ∷ ts) = if is_bound rs r then r ∷ referents_among rs ts else referents_among rs ts
referents_among rs (Name name ∷ ts) = referents_among rs ts
