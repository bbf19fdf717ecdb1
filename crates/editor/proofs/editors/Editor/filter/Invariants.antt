use Rattle.std.proofs.Common.{◌≡◌, ℕ, List, filter, take, nat_eq}
use Rattle.std.specs.List.{starts_with}
use Rattle.derivation_trees.specs.declared.menus.Group.{Group}
use Rattle.editor.proofs.editors.Editor.filter.Given as goal

-- the entries so far that begin with the prefix
abbrev pub invariant-loop-place : goal.invariant-loop-place
invariant-loop-place l = l.kept ≡ filter (λ (entry : Group × List ℕ). starts_with nat_eq entry.1 l.prefix) (take l.place l.menu)
