use Rattle.std.proofs.Common.{◌≡◌, sym, ap, ◌∙◌}
use Rattle.std.proofs.lemmas.Result.{IfOk-weaker}
use Rattle.logic_terms.specs.Known.{theory_of}
use Rattle.tableau_rules.specs.Shown.{graph_of}
use Rattle.tableau_rules.specs.Trees.{tree_of, closes}
use Rattle.closure_check.proofs.Soundness.{closed_excludes}
use Rattle.closure_check.proofs.accepting.accepts.Goals as goal

pub returns-clause-exact : goal.returns-clause-exact
returns-clause-exact c =
    let first = c.in_ok-first.ensures {u = tt} in
    IfOk-weaker c.closes.result (λ yes. yes ≡ closes (theory_of c.args.k.now) (graph_of c.in_ok-first.first) (tree_of c.args.closed.now)) _
    (λ yes e. e ∙ ap (λ g. closes (theory_of c.args.k.now) g (tree_of c.args.closed.now)) first.exact) c.closes.ensures

pub returns-clause-sound : goal.returns-clause-sound
returns-clause-sound c =
    let first = c.in_ok-first.ensures {u = tt} in
    IfOk-weaker c.closes.result (λ yes. yes ≡ closes (theory_of c.args.k.now) (graph_of c.in_ok-first.first) (tree_of c.args.closed.now)) _
    (λ yes e is. closed_excludes (theory_of c.args.k.now) (tree_of c.args.closed.now)
    (sym (e ∙ ap (λ g. closes (theory_of c.args.k.now) g (tree_of c.args.closed.now)) first.exact) ∙ is)) c.closes.ensures
