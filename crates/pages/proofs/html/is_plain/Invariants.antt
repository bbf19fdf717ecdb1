use Rattle.std.proofs.Common.{◌≡◌, drop}
use Rattle.pages.proofs.HtmlLemmas.{are_plain}
use Rattle.pages.proofs.html.is_plain.Given as goal

abbrev pub invariant-loop-byte : goal.invariant-loop-byte
invariant-loop-byte l = are_plain (drop l.byte-index l.text) ≡ are_plain l.text
