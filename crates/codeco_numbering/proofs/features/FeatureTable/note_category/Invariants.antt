use Rattle.std.proofs.Common.{◌≡◌, drop, map}
use Rattle.codeco_numbering.specs.Numbered.{with_undeclared}
use Rattle.codeco_numbering.proofs.features.FeatureTable.note_category.Given as goal

abbrev pub invariant-loop-feat : goal.invariant-loop-feat
invariant-loop-feat l = with_undeclared l.table (map (λ f. f.name) (drop l.feat-index l.feat-items))
    ≡ with_undeclared l.initial.table (map (λ f. f.name) l.feat-items)
