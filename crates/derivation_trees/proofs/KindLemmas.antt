-- A token that matches a category has a reading of the category's kind.
use Rattle.std.proofs.Common.{◌≡◌, ℕ, List, [], ◌∷◌, true, false, ◌||◌, Option, Some, None, inl, inr, ap}
use Rattle.std.specs.Prelude.{◌==◌, slice_get}
use Rattle.std.specs.Option.{option_map_or}
use Rattle.std.specs.List.{list_any, list_all}
use Rattle.std.proofs.lemmas.Bool.{or_right, or_cases}
use Rattle.wiki_base.proofs.BoolLaws.{and_first}
use Rattle.codeco_terms.specs.declared.categories.Ground.{Ground}
use Rattle.scopes.specs.declared.agreement.Test.{Test}
use Rattle.scopes.specs.Resolution.{agrees, has_value}
use Rattle.derivation_trees.specs.Settings.{Setting, matches_preterminal}
use Rattle.derivation_trees.specs.Starts.{has_kind}

some_named : (readings : List Ground) (asked : Test) → list_any (λ reading. agrees reading asked) readings ≡ true
    → list_any (λ reading. reading.name == asked.name) readings ≡ true
some_named [] asked h = h
some_named (r ∷ rs) asked h = elim (or_cases (agrees r asked) (list_any (λ reading. agrees reading asked) rs) h) [
  | inl k ↦ ap (λ b. b || list_any (λ reading. reading.name == asked.name) rs) (and_first (r.name == asked.name) (list_all (has_value r.vals) asked.values) k)
  | inr k ↦ or_right (r.name == asked.name) _ (some_named rs asked k)
]

pub kind_there : (s : Setting) (asked : Test) (place : ℕ) → matches_preterminal s asked place ≡ true → has_kind s asked.name place ≡ true
kind_there s asked place h = by (slice_get s.readings place) h
  where
    by : (o : Option (List Ground)) → option_map_or (λ readings. list_any (λ reading. agrees reading asked) readings) o false ≡ true
        → option_map_or (λ readings. list_any (λ reading. reading.name == asked.name) readings) o false ≡ true
    by None k = cc
    by (Some readings) k = some_named readings asked k
