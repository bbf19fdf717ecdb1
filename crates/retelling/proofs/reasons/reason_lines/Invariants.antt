use Rattle.std.proofs.Common.{◌≡◌, map, take}
use Rattle.wiki_core.specs.Parts.{place_of}
use Rattle.retelling.specs.Why.{reason_lines}
use Rattle.retelling.proofs.reasons.reason_lines.Given as goal

-- the lines of those so far
abbrev pub invariant-loop-place : goal.invariant-loop-place
invariant-loop-place l = l.lines ≡ reason_lines l.wiki.state.stored (map place_of l.sentences) (take l.place-index l.kept)
