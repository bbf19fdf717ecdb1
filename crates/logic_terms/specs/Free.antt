-- Free referents of a structure: those that are used where neither a structure around the place introduces them nor,
-- on the right of an implication, its left side does.
use Rattle.std.specs.Prelude.{ℕ, ◌≡◌, ◌==◌, Bool, List, [], ◌++◌, Option, Some, None, if◌then◌else◌}
use Rattle.std.specs.List.{list_any}
use Rattle.std.specs.Option.{option_or}
use Rattle.logic_terms.specs.declared.structures.Thing.{Thing}
use Rattle.logic_terms.specs.declared.structures.Thing.TheVariants.{Ref, Name}
use Rattle.logic_terms.specs.Structure.{Condition, Conditions, Structure, IsA, AreRelated, AreSame, Negation, Implication, Disjunction, no_condition, also_condition, structure, referents_in}

abbrev pub is_bound : List ℕ → ℕ → Bool
is_bound bound r = list_any (λ q. q == r) bound

abbrev pub free_thing : List ℕ → Thing → Option ℕ
free_thing bound (Ref r) = if is_bound bound r then None else Some r
free_thing bound (Name name) = None

-- the first free referent from left to right, where these are bound outside
abbrev mutual
  pub free_in : List ℕ → Structure → Option ℕ
  free_in bound (structure rs cs) = free_in_all (rs ++ bound) cs

  pub free_in_all : List ℕ → Conditions → Option ℕ
  free_in_all bound no_condition = None
  free_in_all bound (also_condition c cs) = option_or (free_in_condition bound c) (free_in_all bound cs)

  pub free_in_condition : List ℕ → Condition → Option ℕ
  free_in_condition bound (IsA noun thing) = free_thing bound thing
  free_in_condition bound (AreRelated word from to) = option_or (free_thing bound from) (free_thing bound to)
  free_in_condition bound (AreSame one other) = option_or (free_thing bound one) (free_thing bound other)
  free_in_condition bound (Negation k) = free_in bound k
  free_in_condition bound (Implication k l) = option_or (free_in bound k) (free_in (referents_in k ++ bound) l)
  free_in_condition bound (Disjunction k l) = option_or (free_in bound k) (free_in bound l)

-- no referent of the structure is free
abbrev pub IsClosed : Structure → Type 0
IsClosed k = free_in [] k ≡ None
