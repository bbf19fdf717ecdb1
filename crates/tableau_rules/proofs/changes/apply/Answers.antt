use Rattle.std.proofs.Common.{subst, sym, ◌∙◌}
use Rattle.std.proofs.lemmas.Result.{on_ok_weaker}
use Rattle.logic_terms.specs.Known.{theory_of}
use Rattle.tableau_rules.specs.Branches.{IsBranch, stepped}
use Rattle.tableau_rules.specs.Shown.{graph_of}
use Rattle.tableau_rules.proofs.changes.apply.Goals as goal

pub returns-clause-branch : goal.returns-clause-branch
returns-clause-branch c =
    on_ok_weaker c.carry_out.result (λ e old may few. subst (IsBranch (theory_of c.args.k.now)) (sym (e ∙ c.in_ok-change.ensures))
    (stepped (graph_of c.args.b.now) c.args.step.now c.args.choice old may few)) c.carry_out.ensures.ok
