use Rattle.std.proofs.Common.{◌≡◌, ◌≢◌, ◌≤◌, ◌+◌, ◌-◌, [], length}
use Rattle.wiki_io.specs.Lines.{whole_lines}
use Rattle.wiki_io.specs.Reading.{bytes_to_come, KeepsBytes}
use Rattle.wiki_io.specs.declared.limits.TheConstants.{MAX_INPUT, MAX_LINE}
use Rattle.wiki_io.proofs.StepLemmas.{HasRead}
use Rattle.wiki_io.proofs.reader.LineReader.next_line.Given as goal

abbrev pub invariant-loop-line : goal.invariant-loop-line
invariant-loop-line g l = record {
  read : HasRead (g.S.Source.left l.initial.source) l.initial.self l.self (g.S.Source.left l.source);
  small : l.self.count ≤ MAX_INPUT;
  faults : g.S.Source.faults l.initial.source ≤ g.S.Source.faults l.source;
  keeps : length l.self.pending + l.initial.self.count ≤ length l.initial.self.pending + l.self.count;
  at_once_too_long : MAX_LINE ≤ length (bytes_to_come l.initial.self []) → (l.source ≡ l.initial.source) × KeepsBytes l.initial.self l.self;
  at_once : whole_lines (bytes_to_come l.initial.self []) ≢ [] → (l.source ≡ l.initial.source) × KeepsBytes l.initial.self l.self;
}

abbrev pub decreases-loop-line : goal.decreases-loop-line
decreases-loop-line g l = MAX_INPUT + 1 - l.self.count
