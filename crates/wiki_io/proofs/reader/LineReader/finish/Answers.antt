use Rattle.std.proofs.Common.{arith, ◌≡◌, ◌<◌, ◌∷◌, List, ℕ, [], sym, ap, ◌∙◌, length}
use Rattle.std.specs.List.{slice_range}
use Rattle.std.proofs.lemmas.List.{nil_from_length}
use Rattle.wiki_io.specs.Lines.{text}
use Rattle.wiki_io.specs.Reading.{Reading, answered}
use Rattle.wiki_io.specs.declared.reader.Line.{Line}
use Rattle.wiki_io.proofs.PartLemmas.{length-part}
use Rattle.wiki_io.proofs.StepLemmas.{lines_to_come-last, lines_to_come-none}
use Rattle.wiki_io.proofs.reader.LineReader.finish.Goals as goal
use Rattle.wiki_io.proofs.reader.LineReader.finish.Goals.{then-self-eq0, else-self-eq0}

pub returns-clause-lines : goal.returns-clause-lines
returns-clause-lines c =
    let r = c.args.self.now in
    let f = c.self.inside in
    let part = slice_range f.buffer.items f.start f.end in
    let pending : part ≡ r.pending = ap (λ (r : Reading). r.pending) c.self.view_is in
    let size = length-part f.buffer.items f.start f.end (omega (arith, f.buffer.ok.0)) in
    elim c.if-self-eq0.branch [
      | then-self-eq0 w ↦
          let none : length r.pending ≡ 0 = omega (arith, ap length pending) in
          lines_to_come-none r (nil_from_length r.pending none) ∙ ap (λ (a : Line). answered a part) (sym w.result-is)
      | else-self-eq0 w ↦
          let some : 0 < length r.pending = omega (arith, ap length pending) in
          lines_to_come-last r c.requires some ∙ ap (λ (l : List ℕ). text l ∷ []) (sym pending) ∙ ap (λ (a : Line). answered a part) (sym w.result-is)
    ]
