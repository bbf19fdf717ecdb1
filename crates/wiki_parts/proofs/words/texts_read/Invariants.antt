use Rattle.std.proofs.Common.{◌≡◌, take, drop, is_some}
use Rattle.std.specs.List.{position_from}
use Rattle.wiki_base.specs.Text.{fault_of}
use Rattle.wiki_parts.proofs.words.texts_read.Given as goal

-- the texts so far were read, and the first bad text is the first of those that are left
abbrev pub invariant-loop-place : goal.invariant-loop-place
invariant-loop-place l =
    (l.texts.items ≡ take l.place l.given)
    × (position_from (λ text. is_some (fault_of text)) l.place (drop l.place l.given) ≡ position_from (λ text. is_some (fault_of text)) 0 l.given)
