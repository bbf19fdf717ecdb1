use Rattle.std.proofs.Common.{◌≡◌, drop}
use Rattle.std.specs.Prelude.{flat_map}
use Rattle.codeco_numbering.specs.Numbered.{gathered, term_names}
use Rattle.codeco_numbering.proofs.variables.add_terms.Given as goal

abbrev pub invariant-loop-term : goal.invariant-loop-term
invariant-loop-term l = gathered l.names (flat_map (λ f. term_names f.1.now) (drop l.term-index l.list))
    ≡ gathered l.initial.names (flat_map (λ f. term_names f.1.now) l.list)
