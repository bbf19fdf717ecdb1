use Rattle.std.proofs.Common.{◌≡◌, drop}
use Rattle.std.specs.Map.{lookup}
use Rattle.logic_terms.specs.Interpretation.{is_word}
use Rattle.absorb.proofs.representatives.representative_in.Given as goal

abbrev pub invariant-loop-entry : goal.invariant-loop-entry
invariant-loop-entry l = lookup (is_word l.name) (drop l.entry-index l.entries) ≡ lookup (is_word l.name) l.entries
