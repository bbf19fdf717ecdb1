use Rattle.std.proofs.Common.{◌≡◌, ℕ, ◌&&◌, Bool, false, length, nat_lt, sym, ap, ◌∙◌}
use Rattle.std.specs.Prelude.{not}
use Rattle.logic_terms.specs.Known.{theory_of}
use Rattle.logic_terms.specs.Same.{has_concept}
use Rattle.logic_terms.specs.Shown.{concept_of}
use Rattle.tableau_rules.specs.Blocking.{is_indirectly_blocked}
use Rattle.tableau_rules.specs.Graph.{label_at}
use Rattle.tableau_rules.specs.Neighbours.{makes_neighbour}
use Rattle.tableau_rules.specs.Shown.{graph_of}
use Rattle.tableau_rules.specs.Touching.{far_end}
use Rattle.tableau_rules.proofs.Reaching.{first_fails, last_fails}
use Rattle.agenda.proofs.edging.is_witness.Goals as goal
use Rattle.agenda.proofs.edging.is_witness.Goals.{then-leads_on, else-leads_on}

pub returns-else-has : goal.returns-else-has
returns-else-has c =
    let other : ℕ = far_end c.args.node c.args.edge in
    let leads : Bool = makes_neighbour (theory_of c.args.k.now) c.args.role c.args.node other c.args.edge in
    let within : Bool = nat_lt other (length (graph_of c.args.b.now).nodes) in
    let free : Bool = not (is_indirectly_blocked (theory_of c.args.k.now) (graph_of c.args.b.now) other) in
    let has_it : Bool = has_concept (label_at (graph_of c.args.b.now) other) (concept_of c.args.class.now) in
    c.if-has.false ∙ elim c.if-leads_on.branch [
      | then-leads_on w ↦
          let lacks : has_it ≡ false =
          sym (w.has.ensures ∙ ap (λ cs. has_concept cs (concept_of c.args.class.now))
          (w.label.ensures ∙ ap (label_at (graph_of c.args.b.now)) c.far_end-other.ensures))
          ∙ (sym w.value-is ∙ c.if-has.false) in
          last_fails leads within free has_it lacks
      | else-leads_on w ↦ first_fails leads within (free && has_it) (sym c.leads_on.ensures ∙ w.if-leads_on.false)
    ]
