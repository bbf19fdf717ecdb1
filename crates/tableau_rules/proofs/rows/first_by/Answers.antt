use Rattle.std.proofs.Common.{◌&&◌, length, sym, ap, ◌∙◌}
use Rattle.logic_terms.specs.Known.{theory_of}
use Rattle.logic_terms.specs.Shown.{concept_of}
use Rattle.tableau_rules.specs.Carrying.{along}
use Rattle.tableau_rules.specs.First.{first_below, where_true}
use Rattle.tableau_rules.specs.Rules.{needs}
use Rattle.tableau_rules.specs.Shown.{graph_of}
use Rattle.tableau_rules.proofs.Firsts.{first_none}
use Rattle.tableau_rules.proofs.rows.first_by.Goals as goal

pub returns-then-is_below : goal.returns-then-is_below
returns-then-is_below c =
    c.first_to_get_by.ensures
    ∙ ap (λ b. first_below (length (graph_of c.args.b.now).nodes) (λ y. where_true (b
    && needs (theory_of c.args.k.now) (graph_of c.args.b.now) c.args.carrier (along c.args.carrier (concept_of c.args.class.now)) c.args.node y) y))
    (sym (sym c.is_below.ensures ∙ c.if-is_below.true))

pub returns-else-is_below : goal.returns-else-is_below
returns-else-is_below c =
    sym (first_none (length (graph_of c.args.b.now).nodes) _
    (λ y lt. ap (λ b. where_true (b
    && needs (theory_of c.args.k.now) (graph_of c.args.b.now) c.args.carrier (along c.args.carrier (concept_of c.args.class.now)) c.args.node y) y)
    (sym c.is_below.ensures ∙ c.if-is_below.false)))
