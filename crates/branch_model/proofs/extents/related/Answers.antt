use Rattle.std.proofs.Common.{[], refl, subst, ap, ◌∙◌}
use Rattle.logic_terms.specs.Interpretation.{words_rise}
use Rattle.logic_terms.specs.Known.{theory_of}
use Rattle.owl_eval.specs.Given.{lists_in}
use Rattle.tableau_rules.specs.Shown.{graph_of}
use Rattle.branch_model.specs.Related.{Closes}
use Rattle.branch_model.proofs.ExtentsLemmas.{adds_links}
use Rattle.branch_model.proofs.extents.related.Goals as goal

pub close-requires-clause-rise : goal.close-requires-clause-rise
close-requires-clause-rise c =
    ap words_rise (ap lists_in c.as_slice.ensures.value ∙ c.in_ok-edges.ensures)
    ∙ (adds_links (theory_of c.args.k.now) c.args.stands.now (graph_of c.args.b.now).edges [] refl).rises

pub returns : goal.returns
returns c =
    subst (λ old. Closes (theory_of c.args.k.now) old (lists_in c.close.new.made.items)) (ap lists_in c.as_slice.ensures.value ∙ c.in_ok-edges.ensures)
    c.in_ok-close.ensures
