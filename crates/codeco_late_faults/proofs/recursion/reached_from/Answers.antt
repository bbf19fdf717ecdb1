use Rattle.std.proofs.Common.{◌≡◌, [], subst, refl, arith, rules}
use Rattle.codeco_checked.specs.declared.numbers.TheConstants.{NUMBERS}
use Rattle.codeco_late_faults.specs.Steps.{leads}
use Rattle.codeco_late_faults.proofs.SearchLemmas.{Searches, searches_begun, searches_step, searched, no_length, followed_at}
use Rattle.codeco_late_faults.proofs.recursion.reached_from.Goals as goal

pub loop-next-init : goal.loop-next-init
loop-next-init c =
    let all = c.in_ok-reached.ensures.items_if_clones_equal (λ b h. h) in
    searches_begun (leads c.args.table.now) c.args.from NUMBERS c.in_ok-reached.reached.items c.follow.new.reached.items c.new-waiting.result.items
    c.follow.new.waiting.items refl all c.new-waiting.ensures.items
    (followed_at c.args.table.now c.args.from c.index-table-from.result c.in_ok-reached.reached.items c.follow.new.reached.items c.new-waiting.result.items
    c.follow.new.waiting.items (omega arith) c.index-table-from.is c.in_ok-follow.ensures)

pub loop-next-preserved : goal.loop-next-preserved
loop-next-preserved c =
    searches_step (leads c.args.table.now) c.args.from c.in-Some.next c.loop-next.reached.items c.follow-in-Some.new.reached.items c.loop-next.waiting.items
    c.pop.new.self.items c.follow-in-Some.new.waiting.items c.in-Some.ensures.items c.loop-next.invariant
    (followed_at c.args.table.now c.in-Some.next c.index-table-next.result c.loop-next.reached.items c.follow-in-Some.new.reached.items c.pop.new.self.items
    c.follow-in-Some.new.waiting.items (search rules) c.index-table-next.is c.in_ok-follow-2.ensures)

pub returns-clause-reached : goal.returns-clause-reached
returns-clause-reached c =
    let none : c.loop-next.waiting.items ≡ [] = no_length c.loop-next.waiting.items (search rules) in
    searched (leads c.args.table.now) c.args.from c.loop-next.reached.items
    (subst (λ o. Searches (leads c.args.table.now) c.args.from c.loop-next.reached.items o) none c.loop-next.invariant)
