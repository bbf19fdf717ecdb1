use Rattle.std.proofs.Common.{◌++◌, ap, ◌∙◌}
use Rattle.logic_terms.specs.Concept.{Concept}
use Rattle.logic_terms.specs.Known.{theory_of}
use Rattle.logic_terms.specs.Shown.{concept_of, concepts_of}
use Rattle.logic_terms.specs.Theory.{Theory}
use Rattle.tableau_rules.specs.Graph.{Graph}
use Rattle.tableau_rules.specs.Shown.{graph_of}
use Rattle.tableau_rules.proofs.Carriers.{one_carried, carried_on, carried_more, carried_all}
use Rattle.tableau_rules.proofs.carrying.carried.Goals as goal

pub loop-word-preserved : goal.loop-word-preserved
loop-word-preserved c =
    let k : Theory = theory_of c.args.k.now in
    let g : Graph = graph_of c.args.b.now in
    let class : Concept = concept_of c.args.class.now in
    carried_more k g c.args.role class c.args.node c.args.other c.transitive-word-items.result.now c.loop-word.word-index _ c.loop-word-test.true
    (concepts_of c.loop-word.made) (concepts_of c.carry.new.made) (concepts_of c.carry-in-loop-word.new.made) c.loop-word.invariant
    (carried_on k g c.args.role class c.args.node c.args.other (concepts_of c.loop-word.made) (concepts_of c.carry.new.made) _ c.carries.result
    c.in_ok-carry.ensures c.carries.ensures)
    (carried_on k g c.args.role class c.args.node c.args.other (concepts_of c.carry.new.made) (concepts_of c.carry-in-loop-word.new.made)
    c.inverse-inverse.result c.carries-in-loop-word.result c.in_ok-carry-2.ensures c.carries-in-loop-word.ensures
    ∙ ap (λ t. concepts_of c.carry.new.made ++ one_carried k g c.args.role class c.args.node c.args.other t) c.inverse-inverse.ensures)

pub returns : goal.returns
returns c =
    carried_all (theory_of c.args.k.now) (graph_of c.args.b.now) c.args.role (concept_of c.args.class.now) c.args.node c.args.other
    c.transitive-word-items.result.now c.loop-word.word-index c.transitive-word-items.ensures c.loop-word-test.false (concepts_of c.loop-word.made)
    c.loop-word.invariant
