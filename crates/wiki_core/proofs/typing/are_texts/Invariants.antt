use Rattle.std.proofs.Common.{ℕ, ◌<◌, List, get_or}
use Rattle.std.specs.Str.{IsUtf8}
use Rattle.derivation_trees.specs.declared.menus.Group.{Group}
use Rattle.wiki_core.proofs.typing.are_texts.Given as goal

-- the texts so far are in UTF-8
abbrev pub invariant-loop-place : goal.invariant-loop-place
invariant-loop-place l = (k : ℕ) (d : Group × List ℕ) → k < l.place → IsUtf8 (get_or l.menu k d).1
