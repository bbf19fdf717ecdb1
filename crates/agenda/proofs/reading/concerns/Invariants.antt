use Rattle.std.proofs.Common.{◌≡◌, false, take, map}
use Rattle.std.specs.List.{list_any}
use Rattle.logic_terms.specs.Shown.{concept_of}
use Rattle.agenda.specs.Resting.{reads}
use Rattle.agenda.proofs.reading.concerns.Given as goal

abbrev pub invariant-loop-class : goal.invariant-loop-class
invariant-loop-class l = list_any (reads l.rule) (take l.class-index (map concept_of l.label)) ≡ false
