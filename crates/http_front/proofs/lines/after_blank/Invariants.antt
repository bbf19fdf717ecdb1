use Rattle.std.proofs.Common.{◌≡◌, length}
use Rattle.http_front.specs.Front.{after_blank}
use Rattle.http_front.proofs.lines.after_blank.Given as goal

-- what is left decides
abbrev pub invariant-blank : goal.invariant-blank
invariant-blank l = after_blank l.rest ≡ after_blank l.bytes

abbrev pub decreases-blank : goal.decreases-blank
decreases-blank l = length l.rest
