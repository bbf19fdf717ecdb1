-- The ways in which variables of a rule can be given values, as lists of partial assignments.
use Rattle.std.specs.Prelude.{◌≡◌, ℕ, ◌==◌, Bool, if◌then◌else◌, List, [], ◌∷◌, ◌++◌, Option, Some, None, option_map, ◌⊎◌, flat_map}
use Rattle.std.specs.List.{filter_map}
use Rattle.codeco_terms.specs.declared.values.Value.{Value}
use Rattle.codeco_terms.specs.declared.values.Term.{Term}
use Rattle.codeco_terms.specs.declared.values.Term.TheVariants.{Val, Var}
use Rattle.codeco_terms.specs.declared.categories.Category.{Category}
use Rattle.codeco_terms.specs.declared.categories.Pattern.{Pattern}
use Rattle.codeco_terms.specs.declared.categories.Ground.{Ground}
use Rattle.codeco_terms.specs.Values.{same_value}
use Rattle.derivation_trees.specs.Instances.{looked_up, value_under}

-- one of the values
abbrev pub OneOf : {X : Type 0} → List X → X → Type 0
OneOf [] x = ⊥
OneOf (y ∷ ys) x = (y ≡ x) ⊎ OneOf ys x

-- the instance gives each of these variables its value
abbrev pub Extends : List (ℕ × Value) → List (ℕ × Value) → Type 0
Extends values [] = Unit {0}
Extends values (p ∷ ps) = (value_under values p.0 ≡ p.1) × Extends values ps

-- the instance extends one of the assignments
abbrev pub AnyExtends : List (ℕ × Value) → List (List (ℕ × Value)) → Type 0
AnyExtends values [] = ⊥
AnyExtends values (b ∷ bs) = Extends values b ⊎ AnyExtends values bs

-- the assignment with a value for a variable, of which it has had this
abbrev pub bound_at : List (ℕ × Value) → ℕ → Value → Option Value → Option (List (ℕ × Value))
bound_at bound x value None = Some (bound ++ (x, value) ∷ [])
bound_at bound x value (Some known) = if same_value known value then Some bound else None

-- the assignment under which the term has the value
abbrev pub bound_term : List (ℕ × Value) → Term → Value → Option (List (ℕ × Value))
bound_term bound (Val known) value = if same_value known value then Some bound else None
bound_term bound (Var x) value = bound_at bound x value (looked_up bound x)

-- the assignments under which the term has one of the values
abbrev pub restricted : Term → List Value → List (List (ℕ × Value)) → List (List (ℕ × Value))
restricted term values bs = flat_map (λ b. filter_map (bound_term b term) values) bs

-- the value of a feature, where it is this one
abbrev pub value_where : ℕ → (ℕ × Value) → Option Value
value_where feature p = if p.0 == feature then Some p.1 else None

-- the values that are given for a feature
abbrev pub values_at : List (ℕ × Value) → ℕ → List Value
values_at vals feature = filter_map (value_where feature) vals

-- the assignments under which each feature has a value that is given for it
abbrev pub having : List (ℕ × Value) → List (ℕ × Term) → List (List (ℕ × Value)) → List (List (ℕ × Value))
having vals [] bs = bs
having vals (q ∷ feats) bs = having vals feats (restricted q.1 (values_at vals q.0) bs)

-- the assignments under which the category reads so
abbrev pub read_as : Category → List (ℕ × Value) → Ground → List (List (ℕ × Value))
read_as c bound reading = if reading.name == c.name then having reading.vals c.feats (bound ∷ []) else []

-- the assignments under which a feature, where it is written, has the value
abbrev pub meeting_one : (ℕ × Value) → List (ℕ × Term) → List (List (ℕ × Value)) → List (List (ℕ × Value))
meeting_one p [] bs = bs
meeting_one p (q ∷ feats) bs = meeting_one p feats (if p.0 == q.0 then restricted q.1 (p.1 ∷ []) bs else bs)

-- the assignments under which each feature that is written in both has the value that is given
abbrev pub meeting : List (ℕ × Value) → List (ℕ × Term) → List (List (ℕ × Value)) → List (List (ℕ × Value))
meeting [] feats bs = bs
meeting (p ∷ vals) feats bs = meeting vals feats (meeting_one p feats bs)

-- the assignment alone, or none
abbrev pub one_if : Bool → List (ℕ × Value) → List (List (ℕ × Value))
one_if there bound = if there then bound ∷ [] else []

-- the value of a term, where it is known
abbrev pub known_value : List (ℕ × Value) → Term → Option Value
known_value bound (Val v) = Some v
known_value bound (Var x) = looked_up bound x

-- the assignment alone where the term is known, else with each of the values for it
abbrev pub chosen_at : Term → List Value → List (ℕ × Value) → Option Value → List (List (ℕ × Value))
chosen_at term values bound (Some v) = bound ∷ []
chosen_at term values bound None = filter_map (bound_term bound term) values

abbrev pub chosen_for : Term → List Value → List (ℕ × Value) → List (List (ℕ × Value))
chosen_for term values bound = chosen_at term values bound (known_value bound term)

-- the assignments under which each term is known: those that aren't have one of their choices
abbrev pub closing : (Term → List Value) → List (ℕ × Term) → List (List (ℕ × Value)) → List (List (ℕ × Value))
closing choices [] bs = bs
closing choices (q ∷ feats) bs = closing choices feats (flat_map (chosen_for q.1 (choices q.1)) bs)

abbrev pub closing_patterns : (Term → List Value) → List Pattern → List (List (ℕ × Value)) → List (List (ℕ × Value))
closing_patterns choices [] bs = bs
closing_patterns choices (p ∷ ps) bs = closing_patterns choices ps (closing choices p.cat.feats bs)

-- a variable that is marked, as a feature with its term
abbrev pub marked : (ℕ × ℕ) → (ℕ × Term)
marked t = (t.0, Var t.1)

abbrev pub known_feature : List (ℕ × Value) → (ℕ × Term) → Option (ℕ × Value)
known_feature bound q = option_map (λ v. (q.0, v)) (known_value bound q.1)

-- the features of a category whose values are known
abbrev pub known_features : List (ℕ × Value) → List (ℕ × Term) → List (ℕ × Value)
known_features bound feats = filter_map (known_feature bound) feats
