use Rattle.std.proofs.Common.{map, ◌∙◌}
use Rattle.logic_terms.specs.Known.{theory_of}
use Rattle.logic_terms.specs.Shown.{concept_of, concepts_of}
use Rattle.tableau_rules.proofs.Growing.{labels_join}
use Rattle.tableau_rules.proofs.starting.label_of.Goals as goal

pub returns : goal.returns
returns c =
    let longer = c.in_ok-append.ensures {u = tt} in
    longer.ok
    ∙ labels_join (concepts_of c.in_ok-label.label) (concepts_of c.in_ok-more.more) (map concept_of c.as_slice.result.now)
    (map concept_of c.as_slice-2.result.now) (map concept_of c.args.classes.now) (theory_of c.args.k.now).general c.as_slice.ensures
    (c.in_ok-more.ensures {u = tt}) (c.as_slice-2.ensures ∙ c.general.ensures) (c.in_ok-label.ensures {u = tt})
