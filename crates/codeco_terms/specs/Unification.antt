-- Maps from variables to values, and how a category is made equal to a other one.
use Rattle.std.specs.Prelude.{◌≡◌, ℕ, ◌<◌, List, Option, Some, None, All, slice_index_or}
use Rattle.codeco_terms.specs.declared.values.Value.{Value}
use Rattle.codeco_terms.specs.declared.values.Term.{Term}
use Rattle.codeco_terms.specs.declared.values.Term.TheVariants.{Val, Var}
use Rattle.codeco_terms.specs.declared.categories.Category.{Category}
use Rattle.codeco_terms.specs.declared.categories.Ground.{Ground}

-- a finite map from variables to values: the variable x has a value where place x has one
abbrev pub Bindings : Type 0
Bindings = List (Option Value)

-- what the map gives a variable
abbrev pub value_of : Bindings → ℕ → Option Value
value_of m x = slice_index_or m x None

-- what a term stands for: a value for itself, a variable for what the map gives it
abbrev pub meaning_of : Bindings → Term → Option Value
meaning_of m (Val v) = Some v
meaning_of m (Var x) = value_of m x

-- the new map gives each variable the value that the old one gives it
abbrev pub Extends : Bindings → Bindings → Type 0
Extends old new = (x : ℕ) (v : Value) → value_of old x ≡ Some v → value_of new x ≡ Some v

-- where the feature is that of the value, the term stands for it
abbrev pub Meets : Bindings → ℕ → Term → (ℕ × Value) → Type 0
Meets m feature term q = feature ≡ q.0 → meaning_of m term ≡ Some q.1

-- at each feature that both sides have, the term of the one stands for the value of the other
abbrev pub AgreeOnShared : Bindings → List (ℕ × Term) → List (ℕ × Value) → Type 0
AgreeOnShared m feats vals = All (λ p. All (Meets m p.0 p.1) vals) feats

-- under the map the category equals the ground one: in the name, and on each feature that both have
pub record Equates (cat : Category) (other : Ground) (m : Bindings) : Type 0 where
  pub same_name : cat.name ≡ other.name
  pub agree : AgreeOnShared m cat.feats other.vals

-- the new map is the least one that extends the old and has the property: it adds just what the property needs
pub record IsLeastExtension (P : Bindings → Type 0) (old new : Bindings) : Type 0 where
  pub extends : Extends old new
  pub holds : P new
  pub least : (m : Bindings) → Extends old m → P m → Extends new m

-- some extension of the map makes the category equal to the ground one
pub record CanEquate (cat : Category) (other : Ground) (old : Bindings) : Type 0 where
  pub map : Bindings
  pub extends : Extends old map
  pub equates : Equates cat other map

-- a term that is a variable has a number below sixteen
abbrev pub HasRoom : Term → Type 0
HasRoom (Val v) = Unit {0}
HasRoom (Var x) = x < 16
