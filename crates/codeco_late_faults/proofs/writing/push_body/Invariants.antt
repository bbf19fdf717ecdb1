use Rattle.std.proofs.Common.{◌≡◌, ◌++◌, drop}
use Rattle.std.specs.List.{flat_map}
use Rattle.codeco_late_faults.specs.Writing.{element_feats}
use Rattle.codeco_late_faults.proofs.writing.push_body.Given as goal

abbrev pub invariant-loop-element : goal.invariant-loop-element
invariant-loop-element l = l.feats.items ++ flat_map element_feats (drop l.element-index l.body) ≡ l.initial.feats.items ++ flat_map element_feats l.body
