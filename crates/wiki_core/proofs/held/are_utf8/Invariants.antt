use Rattle.std.proofs.Common.{ℕ, ◌<◌, List, get_or}
use Rattle.std.specs.Str.{IsUtf8}
use Rattle.wiki_core.proofs.held.are_utf8.Given as goal

-- the texts so far are in UTF-8
abbrev pub invariant-loop-place : goal.invariant-loop-place
invariant-loop-place l = (k : ℕ) (d : List ℕ) → k < l.place → IsUtf8 (get_or l.texts k d)
