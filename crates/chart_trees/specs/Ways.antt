-- The ways over the elements of a rule, and the paths that are no later than others. Only private calls speak of it.
use Rattle.std.specs.Prelude.{◌≡◌, ℕ, List, [], ◌∷◌, ◌++◌, ◌⊎◌}
use Rattle.std.specs.Option.{option_map_or}
use Rattle.std.specs.List.{flat_map}
use Rattle.codeco_terms.specs.declared.values.Value.{Value}
use Rattle.codeco_terms.specs.declared.elements.Element.{Element}
use Rattle.scopes.specs.declared.agreement.Test.{Test}
use Rattle.derivation_trees.specs.Trees.{Node}
use Rattle.derivation_trees.specs.Settings.{Setting}
use Rattle.derivation_trees.specs.Derives.{At, phrase_of}
use Rattle.derivations.specs.Among.{Among}
use Rattle.derivations.specs.Enumeration.{Path, Outcome, steps}
use Rattle.chart_trees.specs.Order.{Lower, AtMost, codes}

-- the tree with where it leads as a phrase for the category, if it leads anywhere
abbrev pub fitting : Setting → Test → At → Node → List Outcome
fitting s asked at n = option_map_or (λ after. record { tree = n; at = after } ∷ []) (phrase_of s n asked at) []

-- those of the trees that lead somewhere as phrases for the category
abbrev pub fitting_all : Setting → List Node → Test → At → List Outcome
fitting_all s ns asked at = flat_map (fitting s asked at) ns

-- the element leads from one path to the other, a category by one of some trees
abbrev pub StepTo : Setting → List (ℕ × Value) → Element → Path → Path → Type 0
StepTo s values e p q = (ns : List Node) × Among (steps s (fitting_all s ns) values e p) q

-- the elements lead from one path to the other
abbrev pub Steps : Setting → List (ℕ × Value) → List Element → Path → Path → Type 0
Steps s values [] p q = (p ≡ q)
Steps s values (e ∷ es) p q = (m : Path) × StepTo s values e p m × Steps s values es m q

-- The paths stand at the same place with the same list, and the code that comes of the first is no higher: its found
-- positions are lower where the two first differ, or they are the same and so are the codes of its children, or lower.
pub record IsNoLater (p q : Path) : Type 0 where
  pub at : p.at ≡ q.at
  pub own : p.own ≡ q.own
  pub order : Lower p.found q.found ⊎ ((p.found ≡ q.found) × AtMost (codes p.children) (codes q.children))

-- the paths after an element: each is led to, and each path that is led to has one that is no later
pub record IsStepOf (s : Setting) (values : List (ℕ × Value)) (e : Element) (p : Path) (news : List Path) : Type 0 where
  pub sound : (x : Path) → Among news x → StepTo s values e p x
  pub least : (q x : Path) → IsNoLater p q → StepTo s values e q x → (y : Path) × Among news y × IsNoLater y x

-- the later list has the paths of the first, and those after the element
abbrev pub HasSteps : Setting → List (ℕ × Value) → Element → Path → List Path → List Path → Type 0
HasSteps s values e p before after = (news : List Path) × (after ≡ before ++ news) × IsStepOf s values e p news

-- the paths after an element, from each of some paths
pub record AreStepsOf (s : Setting) (values : List (ℕ × Value)) (e : Element) (paths news : List Path) : Type 0 where
  pub sound : (x : Path) → Among news x → (p : Path) × Among paths p × StepTo s values e p x
  pub least : (p q x : Path) → Among paths p → IsNoLater p q → StepTo s values e q x → (y : Path) × Among news y × IsNoLater y x

-- the paths after elements, from a first one: each is led to, and each path that is led to has one that is no later
pub record AreReached (s : Setting) (values : List (ℕ × Value)) (es : List Element) (first : Path) (paths : List Path) : Type 0 where
  pub sound : (x : Path) → Among paths x → Steps s values es first x
  pub least : (x : Path) → Steps s values es first x → (y : Path) × Among paths y × IsNoLater y x
