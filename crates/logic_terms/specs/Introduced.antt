-- Which referents a structure introduces, anywhere in it.
use Rattle.std.specs.Prelude.{ℕ, ◌≡◌, ◌==◌, ◌&&◌, Bool, true, not, List, [], ◌∷◌, ◌++◌}
use Rattle.std.specs.List.{list_any}
use Rattle.logic_terms.specs.Structure.{Condition, Conditions, Structure, IsA, AreRelated, AreSame, Negation, Implication, Disjunction, no_condition, also_condition, structure}

-- the referents that a structure and those inside it introduce, from left to right
abbrev mutual
  pub introduced_in : Structure → List ℕ
  introduced_in (structure rs cs) = rs ++ introduced_in_all cs

  pub introduced_in_all : Conditions → List ℕ
  introduced_in_all no_condition = []
  introduced_in_all (also_condition c cs) = introduced_in_condition c ++ introduced_in_all cs

  pub introduced_in_condition : Condition → List ℕ
  introduced_in_condition (IsA noun thing) = []
  introduced_in_condition (AreRelated word from to) = []
  introduced_in_condition (AreSame one other) = []
  introduced_in_condition (Negation k) = introduced_in k
  introduced_in_condition (Implication k l) = introduced_in k ++ introduced_in l
  introduced_in_condition (Disjunction k l) = introduced_in k ++ introduced_in l

-- whether no number stands twice in a list
abbrev pub all_distinct : List ℕ → Bool
all_distinct [] = true
all_distinct (r ∷ rs) = not (list_any (λ q. q == r) rs) && all_distinct rs

-- each referent is introduced once
abbrev pub IntroducesOnce : Structure → Type 0
IntroducesOnce k = all_distinct (introduced_in k) ≡ true
