use Rattle.logic_terms.specs.Known.{theory_of}
use Rattle.tableau.proofs.Bounded.{spent_result}
use Rattle.tableau_bounds.proofs.Laws.{search_bounded}
use Rattle.tableau_bounds.proofs.Straight.{longer_without_choices, longer_without_new_nodes}
use Rattle.tableau.proofs.searching.search.Goals as goal

pub returns-in-None-clause-enough : goal.returns-in-None-clause-enough
returns-in-None-clause-enough c =
    let k = theory_of c.args.k.now in
    spent_result k c.args.budget c.systematic.result (λ longer plain. search_bounded k plain c.args.budget longer) c.systematic.ensures.spent

pub returns-in-None-clause-straight : goal.returns-in-None-clause-straight
returns-in-None-clause-straight c =
    let k = theory_of c.args.k.now in
    spent_result k c.args.budget c.systematic.result (λ longer unions. longer_without_choices k unions c.args.budget longer) c.systematic.ensures.spent

pub returns-in-None-clause-short : goal.returns-in-None-clause-short
returns-in-None-clause-short c =
    let k = theory_of c.args.k.now in
    spent_result k c.args.budget c.systematic.result
    (λ longer unions existentials. longer_without_new_nodes k unions existentials c.args.budget longer) c.systematic.ensures.spent
