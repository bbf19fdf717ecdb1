use Rattle.std.proofs.Common.{◌≡◌, ◌++◌, drop, map, filter}
use Rattle.logic_terms.specs.Interpretation.{is_word}
use Rattle.logic_terms.specs.Known.{theory_of, stated}
use Rattle.logic_terms.specs.Shown.{concepts_of}
use Rattle.logic_terms.specs.Theory.{representative}
use Rattle.tableau_rules.specs.Branches.{asserted}
use Rattle.tableau_rules.specs.Clashes.{passes}
use Rattle.tableau_rules.proofs.starting.asserted.Given as goal

abbrev pub invariant-loop-place : goal.invariant-loop-place
invariant-loop-place l = asserted (theory_of l.k) l.root
    ≡ concepts_of l.classes ++ map (λ e. e.1) (filter (λ e. passes (representative (theory_of l.k) e.0) (is_word l.root)) (stated (drop l.place l.entries)))
