use Rattle.std.proofs.Common.{arith, ◌≡◌, ◌+◌, ◌-◌, ◌++◌, List, ℕ, take, drop, sym, ap, ◌∙◌, length, refl}
use Rattle.std.specs.List.{slice_range}
use Rattle.std.proofs.Math.Seq.{take-add}
use Rattle.std.proofs.lemmas.List.{length-take, length-drop}
use Rattle.std.proofs.lemmas.Slice.{between_from_start}
use Rattle.wiki_io.specs.Reading.{Reading}
use Rattle.wiki_io.proofs.reader.LineReader.fill.Goals as goal

pub returns-in-Bytes-clause-bytes : goal.returns-in-Bytes-clause-bytes
returns-in-Bytes-clause-bytes g c =
    let f = c.self.inside in
    let n = c.in-Bytes.size in
    let e = f.end - f.start in
    let moved = c.to_front.new.buffer in
    let filled = c.read_behind-got.new.buffer in
    let got = take n (drop e filled.items) in
    let fits = c.in-Bytes.ensures.fits in
    let front : take e moved.items ≡ slice_range f.buffer.items f.start f.end = sym (between_from_start moved.items e) ∙ c.to_front.ensures.moved in
    let size : length got ≡ n = omega (arith, length-take n (drop e filled.items), length-drop e filled.items, filled.ok.0, fits) in
    record {
      got = got;
      source = c.in-Bytes.ensures.bytes;
      count = ap (λ (k : ℕ). f.count + k) (sym size) ∙ ap (λ (r : Reading). r.count + length got) c.self.view_is;
      pending = between_from_start filled.items (e + n) ∙ take-add e n filled.items
          ∙ ap (λ (l : List ℕ). l ++ got) (c.in-Bytes.ensures.front ∙ front ∙ ap (λ (r : Reading). r.pending) c.self.view_is);
      skips = ap (λ (r : Reading). r.skips) c.self.view_is;
      ended = ap (λ (r : Reading). r.ended) c.self.view_is;
      line = refl;
      some = omega (arith, size, fits);
    }
