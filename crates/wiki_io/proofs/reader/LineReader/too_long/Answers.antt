use Rattle.std.proofs.Common.{arith, ◌≤◌, ◌+◌, List, ℕ, [], true, drop, sym, ap, ◌∙◌, length, refl}
use Rattle.std.specs.List.{slice_range}
use Rattle.wiki_io.specs.Reading.{Reading}
use Rattle.wiki_io.proofs.PartLemmas.{drop-part, length-part}
use Rattle.wiki_io.proofs.StepLemmas.{GivesLine-too_long}
use Rattle.wiki_io.proofs.reader.LineReader.too_long.Goals as goal

pub returns-clause-line : goal.returns-clause-line
returns-clause-line c =
    let r = c.args.self.now in
    let f = c.self.inside in
    let pending = ap (λ (r : Reading). r.pending) c.self.view_is in
    let size = length-part f.buffer.items f.start f.end (omega (arith, f.buffer.ok.0)) in
    let fits : f.start + 65536 ≤ f.end = omega (arith, ap length pending) in
    let new : Reading = record {
      pending = slice_range f.buffer.items (f.start + 65536) f.end;
      skips = true;
      ended = f.ended;
      count = f.count;
      line = [];
    } in
    GivesLine-too_long r new 65536 c.requires.skips (omega arith) (omega arith) c.requires.long c.requires.no_newline refl
    (sym (drop-part f.buffer.items f.start f.end 65536 fits) ∙ ap (λ (l : List ℕ). drop 65536 l) pending)
