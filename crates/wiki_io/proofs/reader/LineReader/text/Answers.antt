use Rattle.std.proofs.Common.{arith, ◌≤◌, ◌+◌, List, ℕ, take, drop, sym, ap, ◌∙◌, length}
use Rattle.std.specs.List.{slice_range}
use Rattle.std.proofs.lemmas.Option.{slice_get_within}
use Rattle.wiki_io.specs.Reading.{Reading}
use Rattle.wiki_io.proofs.PartLemmas.{take-part, drop-part, length-part}
use Rattle.wiki_io.proofs.StepLemmas.{GivesLine-text}
use Rattle.wiki_io.proofs.reader.LineReader.text.Goals as goal

pub returns-clause-line : goal.returns-clause-line
returns-clause-line c =
    let r = c.args.self.now in
    let f = c.self.inside in
    let n = c.args.size in
    let pending = ap (λ (r : Reading). r.pending) c.self.view_is in
    let within = slice_get_within r.pending n _ c.requires.newline in
    let size = length-part f.buffer.items f.start f.end (omega (arith, f.buffer.ok.0)) in
    let fits : f.start + (n + 1) ≤ f.end = omega (arith, ap length pending) in
    let new : Reading = record {
      pending = slice_range f.buffer.items (f.start + (n + 1)) f.end;
      skips = f.skips;
      ended = f.ended;
      count = f.count;
      line = take n (drop f.start f.buffer.items);
    } in
    GivesLine-text r new n c.requires.skips c.requires.short c.requires.no_newline c.requires.newline
    (ap (λ (r : Reading). r.skips) c.self.view_is ∙ c.requires.skips)
    (sym (drop-part f.buffer.items f.start f.end (n + 1) fits) ∙ ap (λ (l : List ℕ). drop (n + 1) l) pending)
    (sym (take-part f.buffer.items f.start f.end n (omega arith)) ∙ ap (λ (l : List ℕ). take n l) pending)
