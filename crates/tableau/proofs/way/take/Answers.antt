use Rattle.std.proofs.Common.{length, sym, ap, ◌∙◌}
use Rattle.logic_terms.specs.Known.{theory_of}
use Rattle.tableau_rules.specs.Rules.{after}
use Rattle.tableau_rules.specs.Shown.{graph_of}
use Rattle.tableau.specs.Ways.{reached}
use Rattle.tableau.proofs.WayLemmas.{kept_at, leads_push, reached_push}
use Rattle.tableau.proofs.way.take.Goals as goal

pub returns-clause-leads : goal.returns-clause-leads
returns-clause-leads c =
    let k = theory_of c.args.k.now in
    let kept = kept_at (graph_of c.args.before) (reached k c.args.way.now).graph c.args.step c.len-choice.result (length c.args.trees) c.in_ok-kept.kept
    c.requires.before c.len-choice.ensures (c.in_ok-kept.ensures {u = tt}) in
    leads_push k c.args.way.now c.push.new.self _ c.in_ok-push.ensures.ok c.requires.leads c.requires.choice kept

pub returns-clause-reached : goal.returns-clause-reached
returns-clause-reached c = reached_push (theory_of c.args.k.now) c.args.way.now c.push.new.self _ c.in_ok-push.ensures.ok

pub returns-clause-branch : goal.returns-clause-branch
returns-clause-branch c =
    let k = theory_of c.args.k.now in
    c.in_ok-apply.ensures.ok
    ∙ (ap (λ g. after k g c.args.step c.len-choice.result) c.requires.before
    ∙ (ap (λ n. after k (reached k c.args.way.now).graph c.args.step n) c.len-choice.ensures
    ∙ sym (ap (λ s. s.graph) (reached_push k c.args.way.now c.push.new.self _ c.in_ok-push.ensures.ok))))
