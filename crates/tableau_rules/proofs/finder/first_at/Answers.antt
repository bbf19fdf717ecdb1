use Rattle.std.proofs.Common.{ℕ, ◌<◌, length, sym, ap, arith}
use Rattle.std.specs.Option.{option_map}
use Rattle.logic_terms.specs.Known.{theory_of}
use Rattle.tableau_rules.specs.Graph.{label_at}
use Rattle.tableau_rules.specs.Rules.{site_at}
use Rattle.tableau_rules.specs.Shown.{graph_of}
use Rattle.tableau_rules.specs.declared.step.Step.{Step}
use Rattle.tableau_rules.proofs.Firsts.{first_found}
use Rattle.tableau_rules.proofs.finder.first_at.Goals as goal

pub returns-in-Some : goal.returns-in-Some
returns-in-Some c =
    let step_at : ℕ → ℕ → Step = λ place y. record { rule = c.args.rule; node = c.args.node; class = place; other = y } in
    let lt : c.loop-class.class < length (label_at (graph_of c.args.b.now) c.args.node) =
    omega (arith, c.label_len-class-end.ensures, c.loop-class-test.true) in
    sym (first_found (λ place. option_map (step_at place) (site_at (theory_of c.args.k.now) (graph_of c.args.b.now) c.args.rule c.args.node place))
    c.loop-class.class c.loop-class.invariant (length (label_at (graph_of c.args.b.now) c.args.node)) (step_at c.loop-class.class c.in-Some.other) lt
    (ap (option_map (step_at c.loop-class.class)) (sym c.in-Some.ensures)))
