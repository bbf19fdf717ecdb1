-- What the fields of a reader stand for.
use Rattle.std.specs.Prelude.{◌≡◌, ◌+◌, ◌≤◌, IsTrue, take, drop, vec_len}
use Rattle.std.specs.List.{slice_range}
use Rattle.wiki_io.specs.Lines.{HasNoNewline}
use Rattle.wiki_io.specs.Reading.{Reading}
use Rattle.wiki_io.specs.declared.reader.LineReader.TheInside.{Inside}
use Rattle.wiki_io.specs.declared.limits.TheConstants.{MAX_LINE}
use Rattle.wiki_io.specs.declared.reader.TheConstants.{ROOM}

abbrev pub reading_of : Inside → Reading
reading_of r = record {
  pending = slice_range r.buffer.items r.start r.end;
  skips = r.skips;
  ended = r.ended;
  count = r.count;
  line = take r.line_length (drop r.line_start r.buffer.items);
}

pub record IsSound (r : Inside) : Type 0 where
  pub room : vec_len r.buffer ≡ ROOM
  pub order : r.start ≤ r.end
  pub end : r.end ≤ ROOM
  pub line : r.line_start + r.line_length ≤ ROOM
  pub searched : r.start + r.searched ≤ r.end
  pub window : r.searched ≤ MAX_LINE
  pub no_newline : HasNoNewline (slice_range r.buffer.items r.start (r.start + r.searched))
  pub nothing_pending : IsTrue r.ended → r.start ≡ r.end
