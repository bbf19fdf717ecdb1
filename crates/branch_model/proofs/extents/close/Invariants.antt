use Rattle.std.proofs.Common.{take}
use Rattle.logic_terms.specs.Known.{theory_of}
use Rattle.owl_eval.specs.Given.{lists_in}
use Rattle.branch_model.proofs.EntriesLemmas.{Adds}
use Rattle.branch_model.proofs.Led.{IsLedBy, StillFit}
use Rattle.branch_model.proofs.extents.close.Given as goal

abbrev pub invariant-loop-word : goal.invariant-loop-word
invariant-loop-word l =
    Adds (lists_in l.edges) (lists_in l.made.items) (IsLedBy (theory_of l.k) (lists_in l.edges) (take l.word-index l.word-items))
    × StillFit (lists_in l.edges) (lists_in l.made.items)
