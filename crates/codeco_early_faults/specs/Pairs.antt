-- Different pairs of names, in the order of their first occurrence. Only private calls speak of it.
use Rattle.std.specs.Prelude.{ℕ, ◌&&◌, if◌then◌else◌, Bool, List, [], ◌∷◌, ◌++◌}
use Rattle.std.specs.List.{list_any}
use Rattle.codeco_text.specs.Names.{same_bytes}

-- both names are the same
abbrev pub same_pair : List ℕ × List ℕ → List ℕ × List ℕ → Bool
same_pair p q = same_bytes p.0 q.0 && same_bytes p.1 q.1

abbrev pub has_pair : List (List ℕ × List ℕ) → List ℕ × List ℕ → Bool
has_pair ps p = list_any (same_pair p) ps

-- the pairs, and behind them the new ones, each once
abbrev pub gathered_pairs : List (List ℕ × List ℕ) → List (List ℕ × List ℕ) → List (List ℕ × List ℕ)
gathered_pairs ps [] = ps
gathered_pairs ps (q ∷ qs) = gathered_pairs (if has_pair ps q then ps else ps ++ q ∷ []) qs

-- the second names of the pairs whose first name is this one
abbrev pub names_with : List ℕ → List (List ℕ × List ℕ) → List (List ℕ)
names_with name [] = []
names_with name (p ∷ ps) = if same_bytes name p.0 then p.1 ∷ names_with name ps else names_with name ps
