use Rattle.std.proofs.Common.{sym, ◌∙◌}
use Rattle.logic_terms.specs.Known.{theory_of}
use Rattle.logic_terms.specs.Shown.{concept_of}
use Rattle.tableau_rules.specs.Shown.{graph_of}
use Rattle.consequences.proofs.ForcedLemmas.{shown_in_each}
use Rattle.consequences.proofs.known.includes.Goals as goal

pub returns-in-Some : goal.returns-in-Some
returns-in-Some c t =
    shown_in_each (theory_of c.args.k.now) (graph_of c.args.b.now) c.requires (concept_of c.args.class.now) c.args.name c.in-Some.node
    (sym c.node_of.ensures ∙ c.in-Some.is) (sym c.shows.ensures ∙ t)
