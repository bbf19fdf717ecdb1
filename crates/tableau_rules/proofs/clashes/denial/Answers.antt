use Rattle.std.proofs.Common.{◌<◌, length, sym, ◌∙◌, arith}
use Rattle.logic_terms.specs.Concept.{Atomic, ComplementOf}
use Rattle.logic_terms.specs.Same.{same_concept}
use Rattle.tableau_rules.specs.Graph.{label_at}
use Rattle.tableau_rules.specs.Shown.{graph_of}
use Rattle.tableau_rules.proofs.Passing.{passes_any, passes_more}
use Rattle.tableau_rules.proofs.clashes.denial.Goals as goal

pub returns-then-is_denied_at-clause-exact : goal.returns-then-is_denied_at-clause-exact
returns-then-is_denied_at-clause-exact c =
    sym (passes_any (λ d. same_concept d (ComplementOf (Atomic c.args.word))) (label_at (graph_of c.args.b.now) c.args.node) c.loop-place.place
    (sym c.is_denied_at.ensures ∙ c.if-is_denied_at.true))

pub loop-place-preserved : goal.loop-place-preserved
loop-place-preserved c =
    let lt : c.loop-place.place < length (label_at (graph_of c.args.b.now) c.args.node) =
    omega (arith, c.label_len-place-end.ensures, c.loop-place-test.true) in
    passes_more (λ d. same_concept d (ComplementOf (Atomic c.args.word))) (label_at (graph_of c.args.b.now) c.args.node) c.loop-place.place lt
    c.loop-place.invariant (sym c.is_denied_at.ensures ∙ c.if-is_denied_at.false)
