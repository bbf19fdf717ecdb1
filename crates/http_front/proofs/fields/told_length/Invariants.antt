use Rattle.std.proofs.Common.{◌≡◌, drop, map, None}
use Rattle.httparse.specs.Spans.{header_bytes}
use Rattle.http_front.specs.Fields.{told_after}
use Rattle.http_front.proofs.fields.told_length.Given as goal

-- what the fields that are left tell, behind what was told so far, is what all tell
abbrev pub invariant-loop-field : goal.invariant-loop-field
invariant-loop-field l = told_after l.found (map (header_bytes l.bytes) (drop l.field-index l.fields)) ≡ told_after None (map (header_bytes l.bytes) l.fields)
