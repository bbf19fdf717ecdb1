-- Numbers that are given by first occurrence.
use Rattle.std.specs.Prelude.{ℕ, ◌+◌, ◌==◌, nat_lt, if◌then◌else◌, Bool, true, false, not, ◌&&◌, List, [], ◌∷◌, length, map, flat_map, codes, drop, IsTrue}
use Rattle.std.specs.List.{list_all, list_any}
use Rattle.codeco_terms.specs.declared.declarations.Declared.{Declared}
use Rattle.codeco_terms.specs.declared.declarations.Declared.TheVariants.{Undeclared, Atoms}
use Rattle.codeco_terms.specs.declared.rules.Rule.{Rule}
use Rattle.codeco_terms.specs.GrammarParts.{GrammarParts}
use Rattle.codeco_text.specs.Names.{same_bytes, is_among}
use Rattle.codeco_checked.specs.declared.numbers.TheConstants.{FIRST_PLAIN}
use Rattle.codeco_checked.specs.Occurrences.{rule_mentions, rule_variables, rule_terminals}

-- a number in a list
abbrev pub has : List ℕ → ℕ → Bool
has xs x = list_any (λ y. x == y) xs

-- Whether numbers are given by first occurrence: below next a number was given before, and the one that is new is next.
-- At the end all numbers below total are given.
abbrev pub counts_up : ℕ → ℕ → List ℕ → Bool
counts_up next total [] = next == total
counts_up next total (x ∷ xs) = if nat_lt x next then counts_up next total xs else (x == next) && counts_up (next + 1) total xs

-- how many numbers there are, each counted once
abbrev pub count_different : List ℕ → ℕ
count_different [] = 0
count_different (x ∷ xs) = count_different xs + (if has xs x then 0 else 1)

-- no text stands twice
abbrev pub differ : List (List ℕ) → Bool
differ [] = true
differ (x ∷ xs) = not (is_among xs x) && differ xs

-- the names of the first numbers
abbrev pub first_categories : List (List ℕ)
first_categories = codes "name" ∷ codes "noun" ∷ codes "of" ∷ codes "verb" ∷ codes "adj" ∷ codes "text" ∷ []

abbrev pub first_features : List (List ℕ)
first_features = codes "num" ∷ codes "vow" ∷ codes "form" ∷ codes "w" ∷ []

abbrev pub first_atoms : List (List ℕ)
first_atoms = codes "sg" ∷ codes "pl" ∷ codes "yes" ∷ codes "no" ∷ codes "third" ∷ codes "inf" ∷ codes "part" ∷ []

abbrev pub declared_atoms : Declared → List ℕ
declared_atoms (Atoms xs) = xs
declared_atoms _ = []

-- the atoms of all declarations, in the order of the features' numbers and of their places
abbrev pub grammar_atoms : GrammarParts → List ℕ
grammar_atoms g = flat_map (λ f. declared_atoms f.declared) g.features

-- the names of categories that the rules write, in order
abbrev pub grammar_names : GrammarParts → List ℕ
grammar_names g = flat_map (λ r. map (λ c. c.name) (rule_mentions r)) g.rules

abbrev pub grammar_terminals : GrammarParts → List ℕ
grammar_terminals g = flat_map rule_terminals g.rules

abbrev pub is_declared : Declared → Bool
is_declared Undeclared = false
is_declared _ = true

abbrev pub begins_with : List (List ℕ) → List (List ℕ) → Bool
begins_with [] names = true
begins_with (x ∷ xs) [] = false
begins_with (x ∷ xs) (y ∷ ys) = same_bytes x y && begins_with xs ys

-- The variables of a rule are numbered from 0 in the order of their first occurrence.
abbrev pub variables_count_up : Rule → Bool
variables_count_up r = counts_up 0 (count_different (rule_variables r)) (rule_variables r)

-- Categories, features, atoms, terminals and variables have the numbers that the notation gives. A category that is no
-- preterminal may have a preterminal's name, since the preterminals are written with a sign.
pub record IsNumbered (g : GrammarParts) : Type 0 where
  pub first_features : IsTrue (begins_with first_features (map (λ f. f.name) g.features))
  pub first_atoms : IsTrue (begins_with first_atoms g.atoms)
  pub first_categories : IsTrue (begins_with first_categories g.categories)
  pub features : IsTrue (list_all (λ f. is_declared f.declared) (drop 4 g.features))
  pub atoms : IsTrue (counts_up 7 (length g.atoms) (grammar_atoms g))
  pub categories : IsTrue (counts_up (FIRST_PLAIN + 1) (length g.categories) (grammar_names g))
  pub terminals : IsTrue (counts_up 0 (length g.terminals) (grammar_terminals g))
  pub variables : IsTrue (list_all variables_count_up g.rules)
  pub different_atoms : IsTrue (differ g.atoms)
  pub different_categories : IsTrue (differ (drop FIRST_PLAIN g.categories))
  pub different_terminals : IsTrue (differ g.terminals)
