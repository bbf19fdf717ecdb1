use Rattle.std.proofs.Common.{◌≡◌, [], length, ap, subst, ◌∙◌, arith}
use Rattle.logic_terms.specs.Known.{theory_of}
use Rattle.tableau_rules.specs.Shown.{graph_of}
use Rattle.owl_eval.specs.Given.{lists_in}
use Rattle.branch_model.specs.Extents.{extents, links}
use Rattle.branch_model.specs.Related.{Closes}
use Rattle.branch_model.specs.Named.{named_elements}
use Rattle.branch_model.proofs.ModelOf.{branch_sound}
use Rattle.branch_model.proofs.Made.{lists_fit, lists_model}
use Rattle.branch_model.proofs.making.model.Goals as goal

pub find_elements-requires : goal.find_elements-requires
find_elements-requires c = (branch_sound (theory_of c.args.k.now) c.requires.lawful c.requires.plain c.requires.branch).parents

pub new-requires : goal.new-requires
new-requires c =
    let k = theory_of c.args.k.now in
    let g = graph_of c.args.b.now in
    let owners = c.in_ok-placed.placed.owners.items in
    let stands = c.in_ok-placed.placed.stands.items in
    let size_is : c.len.result ≡ length owners = omega (arith, c.len.ensures) in
    lists_fit k c.requires.lawful c.requires.plain g c.requires.branch owners stands c.in_ok-placed.ensures
    c.len.result c.in_ok-names.names.items (lists_in c.in_ok-classes.classes.items) (lists_in c.in_ok-relations.relations.items)
    size_is
    (c.in_ok-names.ensures ∙ ap (λ s. named_elements k s k.names) c.as_slice.ensures.value)
    (c.in_ok-classes.ensures ∙ ap (λ o. extents g 0 o []) c.as_slice-2.ensures.value)
    (subst (λ s. Closes k (links k s g.edges []) (lists_in c.in_ok-relations.relations.items)) c.as_slice-3.ensures.value c.in_ok-relations.ensures)

pub returns-clause-model : goal.returns-clause-model
returns-clause-model c =
    let k = theory_of c.args.k.now in
    let g = graph_of c.args.b.now in
    let owners = c.in_ok-placed.placed.owners.items in
    let stands = c.in_ok-placed.placed.stands.items in
    let size_is : c.len.result ≡ length owners = omega (arith, c.len.ensures) in
    lists_model k c.requires.lawful c.requires.plain g c.requires.branch owners stands c.in_ok-placed.ensures
    c.len.result c.in_ok-names.names.items (lists_in c.in_ok-classes.classes.items) (lists_in c.in_ok-relations.relations.items)
    size_is
    (c.in_ok-names.ensures ∙ ap (λ s. named_elements k s k.names) c.as_slice.ensures.value)
    (c.in_ok-classes.ensures ∙ ap (λ o. extents g 0 o []) c.as_slice-2.ensures.value)
    (subst (λ s. Closes k (links k s g.edges []) (lists_in c.in_ok-relations.relations.items)) c.as_slice-3.ensures.value c.in_ok-relations.ensures)
    c.new.result c.requires.finished c.new.ensures.size c.new.ensures.names c.new.ensures.classes c.new.ensures.relations
