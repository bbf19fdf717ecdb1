use Rattle.std.proofs.Common.{◌≡◌, drop}
use Rattle.codeco_numbering.specs.Numbered.{label_among}
use Rattle.codeco_numbering.proofs.labels.label_among.Given as goal

abbrev pub invariant-loop-label : goal.invariant-loop-label
invariant-loop-label l = label_among (drop l.label-index l.labels) l.name ≡ label_among l.labels l.name
