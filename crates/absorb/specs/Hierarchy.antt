-- Pairs of roles, the one below first. Only private calls speak of it.
use Rattle.std.specs.Prelude.{◌≡◌, ◌&&◌, ◌⊎◌, false, List, All, AllPairs, Contains}
use Rattle.logic_terms.specs.declared.expressions.Role.{Role}
use Rattle.logic_terms.specs.Same.{same_role}

-- a role is another, or is below it by a pair
abbrev pub IsAtOrBelow : List (Role × Role) → Role → Role → Type 0
IsAtOrBelow pairs r s = (r ≡ s) ⊎ Contains pairs (r, s)

-- the pairs are of different roles, and each stands once
pub record AreDistinct (pairs : List (Role × Role)) : Type 0 where
  pub different : All (λ p. same_role p.0 p.1 ≡ false) pairs
  pub once : AllPairs (λ p q. (same_role p.0 q.0 && same_role p.1 q.1) ≡ false) pairs
