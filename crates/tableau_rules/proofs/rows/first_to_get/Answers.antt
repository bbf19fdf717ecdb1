use Rattle.std.proofs.Common.{length, ap, ◌∙◌}
use Rattle.logic_terms.specs.Known.{theory_of}
use Rattle.logic_terms.specs.Shown.{concept_of}
use Rattle.tableau_rules.specs.Least.{lesser_of}
use Rattle.tableau_rules.specs.Shown.{graph_of}
use Rattle.tableau_rules.proofs.Carriers.{first, needs_by, first_begun, first_more, first_all}
use Rattle.tableau_rules.proofs.rows.first_to_get.Goals as goal

pub loop-word-init : goal.loop-word-init
loop-word-init c =
    first_begun (theory_of c.args.k.now) (graph_of c.args.b.now) c.args.role (concept_of c.args.class.now) c.args.node (length (graph_of c.args.b.now).nodes)
    c.transitive-word-items.result.now

pub loop-word-preserved : goal.loop-word-preserved
loop-word-preserved c =
    c.lesser_of-least.ensures ∙ ap (λ o. lesser_of o c.first_by-back.result) c.lesser_of.ensures
    ∙ first_more (theory_of c.args.k.now) (graph_of c.args.b.now) c.args.role (concept_of c.args.class.now) c.args.node (length (graph_of c.args.b.now).nodes)
    c.transitive-word-items.result.now c.loop-word.word-index _ c.loop-word-test.true c.loop-word.least c.first_by-there.result c.first_by-back.result
    c.loop-word.invariant c.first_by-there.ensures
    (c.first_by-back.ensures
    ∙ ap (λ t. first (length (graph_of c.args.b.now).nodes)
    (needs_by (theory_of c.args.k.now) (graph_of c.args.b.now) c.args.role (concept_of c.args.class.now) c.args.node t)) c.inverse.ensures)

pub returns : goal.returns
returns c =
    first_all (theory_of c.args.k.now) (graph_of c.args.b.now) c.args.role (concept_of c.args.class.now) c.args.node (length (graph_of c.args.b.now).nodes)
    c.transitive-word-items.result.now c.loop-word.word-index c.transitive-word-items.ensures c.loop-word-test.false c.loop-word.least c.loop-word.invariant
