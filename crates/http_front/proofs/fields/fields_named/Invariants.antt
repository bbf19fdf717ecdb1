use Rattle.std.proofs.Common.{◌≡◌, ◌+◌, ◌≤◌, drop, map, count_by}
use Rattle.httparse.specs.Spans.{header_bytes}
use Rattle.http_front.specs.Fields.{is_named, fields_named}
use Rattle.http_front.proofs.fields.fields_named.Given as goal

-- those found so far, with those that are left, are all
abbrev pub invariant-loop-field : goal.invariant-loop-field
invariant-loop-field l = record {
  counted : l.count + count_by (is_named l.name) (map (header_bytes l.bytes) (drop l.field-index l.fields))
      ≡ fields_named l.name (map (header_bytes l.bytes) l.fields);
  few : l.count ≤ l.field-index;
}
