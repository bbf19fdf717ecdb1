use Rattle.std.proofs.Common.{sym, ◌∙◌}
use Rattle.std.proofs.lemmas.Result.{on_ok_weaker}
use Rattle.logic_terms.specs.Known.{theory_of}
use Rattle.tableau_rules.specs.Shown.{graph_of}
use Rattle.consequences.proofs.ForcedLemmas.{forced_after}
use Rattle.consequences.proofs.forcing.take.Goals as goal

pub returns : goal.returns
returns c =
    on_ok_weaker c.apply.result
    (λ made. forced_after (theory_of c.args.k.now) (graph_of c.args.b.now) c.args.step.now (graph_of c.apply.new.b) c.requires
    (sym c.applies.ensures ∙ c.if-not-applies.false) (sym c.choices.ensures ∙ c.if-choices-ne1.false) made)
    c.apply.ensures.ok
