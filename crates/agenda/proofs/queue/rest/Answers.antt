use Rattle.std.proofs.Common.{sym, ◌∙◌}
use Rattle.logic_terms.specs.Known.{theory_of}
use Rattle.tableau_rules.specs.Shown.{graph_of}
use Rattle.agenda.specs.Resting.{way_up}
use Rattle.agenda.specs.Views.{is_listed}
use Rattle.agenda.proofs.Nexts.{rests_all, rests_some, rests_other}
use Rattle.agenda.proofs.Shapes.{branch_shaped, shaped_neighbours}
use Rattle.agenda.proofs.Waits.{on_both, waits_more}
use Rattle.agenda.proofs.queue.rest.Goals as goal

pub returns-then-reaches_out-clause-there : goal.returns-then-reaches_out-clause-there
returns-then-reaches_out-clause-there c =
    let k = theory_of c.args.k.now in
    let g = graph_of c.args.b.now in
    on_both c.wait_for_blocked.result
    (λ awaited more. rests_all k g (shaped_neighbours k g (branch_shaped k g c.requires.branch)) (is_listed c.wait_for_blocked.new.waiting.items) c.args.node
    c.args.rule (sym c.reaches_out.ensures ∙ c.if-reaches_out.true) c.requires.none
    (waits_more (is_listed c.wait.new.waiting.items) (is_listed c.wait_for_blocked.new.waiting.items) c.args.node more (way_up g c.args.node)
    c.in_ok-wait.ensures.there) awaited)
    c.wait_for_blocked.ensures.there c.wait_for_blocked.ensures.more

pub returns-then-sprouts-clause-there : goal.returns-then-sprouts-clause-there
returns-then-sprouts-clause-there c =
    let k = theory_of c.args.k.now in
    let g = graph_of c.args.b.now in
    on_both c.wait_for_servers.result
    (λ awaited more. rests_some k g (shaped_neighbours k g (branch_shaped k g c.requires.branch)) (is_listed c.wait_for_servers.new.waiting.items) c.args.node
    c.args.rule (sym c.sprouts.ensures ∙ c.if-sprouts.true) c.requires.none
    (waits_more (is_listed c.wait.new.waiting.items) (is_listed c.wait_for_servers.new.waiting.items) c.args.node more (way_up g c.args.node)
    c.in_ok-wait.ensures.there) awaited)
    c.wait_for_servers.ensures.there c.wait_for_servers.ensures.more

pub returns-else-sprouts-clause-there : goal.returns-else-sprouts-clause-there
returns-else-sprouts-clause-there c =
    let k = theory_of c.args.k.now in
    let g = graph_of c.args.b.now in
    rests_other k g (shaped_neighbours k g (branch_shaped k g c.requires.branch)) (is_listed c.wait.new.waiting.items) c.args.node c.args.rule
    (sym c.reaches_out.ensures ∙ c.if-reaches_out.false) (sym c.sprouts.ensures ∙ c.if-sprouts.false) c.requires.none c.in_ok-wait.ensures.there
