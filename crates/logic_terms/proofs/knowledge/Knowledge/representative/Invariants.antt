use Rattle.std.proofs.Common.{◌≡◌, drop}
use Rattle.std.specs.Map.{lookup}
use Rattle.logic_terms.specs.Interpretation.{is_word}
use Rattle.logic_terms.specs.Known.{theory_of}
use Rattle.logic_terms.specs.Theory.{representative}
use Rattle.logic_terms.proofs.knowledge.Knowledge.representative.Given as goal

abbrev pub invariant-loop-entry : goal.invariant-loop-entry
invariant-loop-entry l = representative (theory_of l.self) l.name ≡ lookup (is_word l.name) (drop l.entry-index l.self.names.items)
