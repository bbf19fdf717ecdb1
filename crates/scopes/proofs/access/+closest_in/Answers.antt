use Rattle.std.proofs.Common.{ap, ◌∙◌, sym}
use Rattle.scopes.specs.Links.{entries}
use Rattle.scopes.specs.Findings.{shown}
use Rattle.scopes.specs.Resolution.{closest_finding, finding}
use Rattle.scopes.proofs.ClosestLemmas.{found_newest, passed_newest, found_newer, passed_newer}
use Rattle.scopes.proofs.access.+closest_in.Goals as goal

pub returns-in-Some : goal.returns-in-Some
returns-in-Some t c =
    let node = c.in-Cons.node.value in
    found_newest c.args.tests.now (entries node.older) (entries c.args.links.now) node.entry (shown c.in-Some.found)
    (c.in-Some.ensures ∙ ap (λ n. finding c.args.tests.now n.entry) c.deref.ensures)
    (sym (ap (λ l. closest_finding c.args.tests.now (entries l)) c.in-Cons.is))

pub returns-in-None : goal.returns-in-None
returns-in-None t c =
    let node = c.in-Cons.node.value in
    c.closest_in.ensures ∙ ap (λ n. closest_finding c.args.tests.now (entries n.older)) c.deref-in-None.ensures
    ∙ passed_newest c.args.tests.now (entries node.older) (entries c.args.links.now) node.entry
    (c.in-None.ensures ∙ ap (λ n. finding c.args.tests.now n.entry) c.deref.ensures)
    (sym (ap (λ l. closest_finding c.args.tests.now (entries l)) c.in-Cons.is))

pub returns-in-Some-closest_in : goal.returns-in-Some-closest_in
returns-in-Some-closest_in t c =
    let pair = c.in-Join.pair.value in
    found_newer c.args.tests.now (entries pair.older) (entries pair.newer) (entries c.args.links.now) (shown c.in-Some-closest_in.found)
    (c.in-Some-closest_in.ensures ∙ ap (λ n. closest_finding c.args.tests.now (entries n.newer)) c.deref-in-Join.ensures)
    (sym (ap (λ l. closest_finding c.args.tests.now (entries l)) c.in-Join.is))

pub returns-in-None-closest_in : goal.returns-in-None-closest_in
returns-in-None-closest_in t c =
    let pair = c.in-Join.pair.value in
    c.closest_in-in-None-closest_in.ensures
    ∙ ap (λ n. closest_finding c.args.tests.now (entries n.older)) c.deref-in-None-closest_in.ensures
    ∙ passed_newer c.args.tests.now (entries pair.older) (entries pair.newer) (entries c.args.links.now)
    (c.in-None-closest_in.ensures ∙ ap (λ n. closest_finding c.args.tests.now (entries n.newer)) c.deref-in-Join.ensures)
    (sym (ap (λ l. closest_finding c.args.tests.now (entries l)) c.in-Join.is))
