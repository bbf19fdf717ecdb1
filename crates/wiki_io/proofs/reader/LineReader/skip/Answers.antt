use Rattle.std.proofs.Common.{arith, ◌≡◌, ◌≤◌, ◌+◌, List, ℕ, [], Some, false, take, drop, sym, ap, ◌∙◌, length, subst, refl}
use Rattle.std.specs.List.{slice_range, slice_get}
use Rattle.std.proofs.lemmas.List.Edits.{between_none}
use Rattle.std.proofs.lemmas.Option.{slice_get_within}
use Rattle.wiki_io.specs.Lines.{HasNoNewline}
use Rattle.wiki_io.specs.Reading.{Reading}
use Rattle.wiki_io.specs.declared.limits.TheConstants.{NEWLINE}
use Rattle.wiki_io.proofs.PartLemmas.{length-part, drop-part}
use Rattle.wiki_io.proofs.StepLemmas.{KeepsBytes-newline, KeepsBytes-skipped}
use Rattle.wiki_io.proofs.reader.LineReader.skip.Goals as goal

pub returns-in-Some-clause-kept : goal.returns-in-Some-clause-kept
returns-in-Some-clause-kept c =
    let r = c.args.self.now in
    let f = c.self.inside in
    let at = c.in-Some.at in
    let pending : slice_range f.buffer.items f.start f.end ≡ r.pending = ap (λ (r : Reading). r.pending) c.self.view_is in
    let searched : slice_range c.deref.result.now f.start f.end ≡ r.pending =
    ap (λ (b : List ℕ). slice_range b f.start f.end) c.deref.ensures.value ∙ pending in
    let newline = subst (λ (l : List ℕ). slice_get l at ≡ Some NEWLINE) searched c.in-Some.ensures.some.1 in
    let within = slice_get_within r.pending at NEWLINE newline in
    let size = length-part f.buffer.items f.start f.end (omega (arith, f.buffer.ok.0)) in
    let fits : f.start + (at + 1) ≤ f.end = omega (arith, ap length pending) in
    let new : Reading = record {
      pending = slice_range f.buffer.items (f.start + (at + 1)) f.end;
      skips = false;
      ended = f.ended;
      count = f.count;
      line = [];
    } in
    KeepsBytes-newline r new at (sym (ap (λ (r : Reading). r.skips) c.self.view_is) ∙ c.if-not-self.false)
    (subst (λ (l : List ℕ). HasNoNewline (take at l)) searched c.in-Some.ensures.some.0) newline refl
    (sym (drop-part f.buffer.items f.start f.end (at + 1) fits) ∙ ap (λ (l : List ℕ). drop (at + 1) l) pending)

pub returns-in-None-clause-kept : goal.returns-in-None-clause-kept
returns-in-None-clause-kept c =
    let r = c.args.self.now in
    let f = c.self.inside in
    let searched : slice_range c.deref.result.now f.start f.end ≡ r.pending =
    ap (λ (b : List ℕ). slice_range b f.start f.end) c.deref.ensures.value ∙ ap (λ (r : Reading). r.pending) c.self.view_is in
    let new : Reading = record { pending = slice_range f.buffer.items f.end f.end; skips = f.skips; ended = f.ended; count = f.count; line = [] } in
    KeepsBytes-skipped r new (sym (ap (λ (r : Reading). r.skips) c.self.view_is) ∙ c.if-not-self.false)
    (subst HasNoNewline searched c.in-None.ensures.none) c.if-not-self.false (between_none f.buffer.items f.end)
