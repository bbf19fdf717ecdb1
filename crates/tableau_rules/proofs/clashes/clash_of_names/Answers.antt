use Rattle.std.proofs.Common.{sym, ap, ◌∙◌}
use Rattle.std.specs.List.{list_any}
use Rattle.std.proofs.lemmas.List.Folds.{list_any_at}
use Rattle.logic_terms.specs.Known.{theory_of}
use Rattle.tableau_rules.specs.Clashes.{are_joined}
use Rattle.tableau_rules.proofs.clashes.clash_of_names.Goals as goal

pub returns-then-are_joined-clause-exact : goal.returns-then-are_joined-clause-exact
returns-then-are_joined-clause-exact c =
    sym (ap (list_any (λ d. are_joined (theory_of c.args.k.now) d.0 d.1)) (sym c.differences-pair-items.ensures)
    ∙ list_any_at (λ d. are_joined (theory_of c.args.k.now) d.0 d.1) c.differences-pair-items.result.now c.loop-pair.pair-index _ c.loop-pair-test.true
    (sym c.are_joined.ensures ∙ c.if-are_joined.true))
