-- When a structure is true, by Kamp and Reyle, From Discourse to Logic, 1993, in a finite interpretation.
use Rattle.std.specs.Prelude.{ℕ, ◌==◌, ◌&&◌, ◌||◌, Bool, true, not, List, [], ◌∷◌, if◌then◌else◌}
use Rattle.logic_terms.specs.declared.structures.Thing.{Thing}
use Rattle.logic_terms.specs.declared.structures.Thing.TheVariants.{Ref, Name}
use Rattle.logic_terms.specs.Structure.{Condition, Conditions, Structure, IsA, AreRelated, AreSame, Negation, Implication, Disjunction, no_condition, also_condition, structure}
use Rattle.logic_terms.specs.Interpretation.{Interpretation, element_of, has_element, has_pair}
use Rattle.logic_terms.specs.Meaning.{some_below, each_below, implies}

-- an assignment gives each referent an element: this one gives x to r, and else what f gives
abbrev pub giving : (ℕ → ℕ) → ℕ → ℕ → ℕ → ℕ
giving f r x q = if q == r then x else f q

-- whether some extension of an assignment to these referents, with elements below a size, passes a test
abbrev pub some_extension : ℕ → List ℕ → ((ℕ → ℕ) → Bool) → (ℕ → ℕ) → Bool
some_extension size [] test f = test f
some_extension size (r ∷ rs) test f = some_below size (λ x. some_extension size rs test (giving f r x))

-- whether each does
abbrev pub each_extension : ℕ → List ℕ → ((ℕ → ℕ) → Bool) → (ℕ → ℕ) → Bool
each_extension size [] test f = test f
each_extension size (r ∷ rs) test f = each_below size (λ x. each_extension size rs test (giving f r x))

abbrev pub thing_in : Interpretation → (ℕ → ℕ) → Thing → ℕ
thing_in i f (Ref r) = f r
thing_in i f (Name name) = element_of i name

-- whether a structure or a condition is true under an assignment
abbrev mutual
  pub is_true : Interpretation → Structure → (ℕ → ℕ) → Bool
  is_true i (structure rs cs) f = some_extension i.size rs (λ g. all_true i cs g) f

  -- whether each extension that makes this structure true passes a test
  pub implies_test : Interpretation → Structure → ((ℕ → ℕ) → Bool) → (ℕ → ℕ) → Bool
  implies_test i (structure rs cs) test f = each_extension i.size rs (λ g. implies (all_true i cs g) (test g)) f

  pub all_true : Interpretation → Conditions → (ℕ → ℕ) → Bool
  all_true i no_condition f = true
  all_true i (also_condition c cs) f = condition_true i c f && all_true i cs f

  pub condition_true : Interpretation → Condition → (ℕ → ℕ) → Bool
  condition_true i (IsA noun thing) f = has_element i noun (thing_in i f thing)
  condition_true i (AreRelated word from to) f = has_pair i word (thing_in i f from) (thing_in i f to)
  condition_true i (AreSame one other) f = thing_in i f one == thing_in i f other
  condition_true i (Negation k) f = not (is_true i k f)
  condition_true i (Implication k l) f = implies_test i k (is_true i l) f
  condition_true i (Disjunction k l) f = is_true i k f || is_true i l f
