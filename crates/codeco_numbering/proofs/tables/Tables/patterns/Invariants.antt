use Rattle.std.proofs.Common.{◌≡◌, take, map}
use Rattle.codeco_numbering.specs.Numbered.{numbered_pattern}
use Rattle.codeco_numbering.proofs.tables.Tables.patterns.Given as goal

abbrev pub invariant-loop-category : goal.invariant-loop-category
invariant-loop-category l = l.patterns ≡ map (numbered_pattern l.self) (take l.category-index l.category-items)
