use Rattle.std.proofs.Common.{◌≡◌, drop, map}
use Rattle.httparse.specs.Spans.{header_bytes}
use Rattle.http_front.specs.Fields.{value_named}
use Rattle.http_front.proofs.fields.value_named.Given as goal

-- the first of the fields that are left has the value
abbrev pub invariant-loop-field : goal.invariant-loop-field
invariant-loop-field l = value_named l.name (map (header_bytes l.bytes) (drop l.field-index l.fields))
    ≡ value_named l.name (map (header_bytes l.bytes) l.fields)
