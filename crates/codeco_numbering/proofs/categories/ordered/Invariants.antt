use Rattle.std.proofs.Common.{◌≡◌, ℕ, take, map}
use Rattle.codeco_text.specs.declared.written.WrittenTerm.{WrittenTerm}
use Rattle.codeco_numbering.specs.Numbered.{number_of}
use Rattle.codeco_numbering.proofs.categories.ordered.Given as goal

abbrev pub invariant-loop-feat : goal.invariant-loop-feat
invariant-loop-feat l = map {B = ℕ × WrittenTerm} (λ f. (f.0, f.1.now)) l.list.items
    ≡ map {B = ℕ × WrittenTerm} (λ f. (number_of l.features f.name, f.term)) (take l.feat-index l.feat-items)
