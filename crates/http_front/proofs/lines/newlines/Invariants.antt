use Rattle.std.proofs.Common.{◌≡◌, ◌+◌, ◌≤◌, drop}
use Rattle.http_front.specs.Front.{newlines}
use Rattle.http_front.proofs.lines.newlines.Given as goal

-- those found so far, with those that are left, are all
abbrev pub invariant-loop-byte : goal.invariant-loop-byte
invariant-loop-byte l = record {
  counted : l.count + newlines (drop l.byte-index l.bytes) ≡ newlines l.bytes;
  few : l.count ≤ l.byte-index;
}
