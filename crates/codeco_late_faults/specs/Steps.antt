-- Steps from one number to another, and what they reach. Only private calls speak of it.
use Rattle.std.specs.Prelude.{◌≡◌, ℕ, ◌+◌, ◌==◌, Bool, false, not, if◌then◌else◌, List, [], ◌∷◌, length, slice_index_or, IsTrue, ◌⊎◌, count_by, flat_map}
use Rattle.std.specs.Option.{option_to_list}
use Rattle.codeco_terms.specs.declared.rules.Rule.{Rule}
use Rattle.codeco_checked.specs.Numbering.{has}
use Rattle.codeco_checked.specs.Faults.{first_category}

-- the second number is among the followers of the first
abbrev pub leads : List (List ℕ) → ℕ → ℕ → Bool
leads table from to = has (slice_index_or table from []) to

-- steps lead from the one number to the other, over those between
abbrev pub IsPath : (ℕ → ℕ → Bool) → ℕ → List ℕ → ℕ → Type 0
IsPath is_step from [] to = IsTrue (is_step from to)
IsPath is_step from (c ∷ cs) to = IsTrue (is_step from c) × IsPath is_step c cs to

-- one step or more lead from the one number to the other
abbrev pub Reaches : (ℕ → ℕ → Bool) → ℕ → ℕ → Type 0
Reaches is_step from to = (between : List ℕ) × IsPath is_step from between to

-- the category that stands first in the rule, where it is one of the head
abbrev pub rule_followers : ℕ → Rule → List ℕ
rule_followers name r = if r.head.name == name then option_to_list (first_category r.body) else []

-- the categories that stand first in the rules of a category
abbrev pub followers_in : List Rule → ℕ → List ℕ
followers_in rules name = flat_map (rule_followers name) rules

-- the table has the followers of each category
abbrev pub HasFollowers : List Rule → List (List ℕ) → Type 0
HasFollowers rules table = (name : ℕ) → slice_index_or table name [] ≡ followers_in rules name

-- the set has the number
abbrev pub IsIn : List Bool → ℕ → Type 0
IsIn set c = IsTrue (slice_index_or set c false)

-- how many numbers the set has room for and doesn't have
abbrev pub count_out : List Bool → ℕ
count_out set = count_by not set

-- What is reached and what is waiting are extended by what one step leads to: each such number is reached, and waiting too
-- where it wasn't reached before.
pub record IsFollowed (leads : ℕ → Bool) (old new : List Bool) (waiting_old waiting_new : List ℕ) : Type 0 where
  pub kept : (c : ℕ) → IsIn old c → IsIn new c
  pub every : (c : ℕ) → IsTrue (leads c) → IsIn new c
  pub only : (c : ℕ) → IsIn new c → IsIn old c ⊎ (IsTrue (leads c) × IsTrue (has waiting_new c))
  pub still_waiting : (c : ℕ) → IsTrue (has waiting_old c) → IsTrue (has waiting_new c)
  pub listed : (c : ℕ) → IsTrue (has waiting_new c) → IsTrue (has waiting_old c) ⊎ IsIn new c
  pub count : count_out new + length waiting_new ≡ count_out old + length waiting_old
  pub room : length new ≡ length old
