use Rattle.std.proofs.Common.{true, map, ◌∙◌, ap, subst}
use Rattle.derivations.specs.Entries.{shown, all_tried, IsInOrder}
use Rattle.chart.proofs.MenuLemmas.{put_ordered, sorted_ordered}
use Rattle.chart.proofs.entries.in_order.Goals as goal

pub returns-then-are_rising : goal.returns-then-are_rising
returns-then-are_rising c =
    let sorted = c.sort_unstable_by.new.self.items in
    sorted_ordered c.args.found.items sorted c.sort_unstable_by.ensures.permutation
    (subst (λ xs. IsInOrder (map shown xs)) c.as_slice.ensures.value (c.are_rising.ensures c.if-are_rising.true))

pub returns : goal.returns
returns c =
    let sorted = c.sort_unstable_by.new.self.items in
    put_ordered c.args.found.items sorted c.put_all.new.entries.items c.sort_unstable_by.ensures.permutation
    (c.in_ok-put_all.ensures ∙ ap (λ xs. all_tried (λ e. true) (map shown xs) (map shown c.in_ok-entries.entries.items)) c.as_slice-2.ensures.value
    ∙ ap (λ xs. all_tried (λ e. true) (map shown sorted) (map shown xs)) c.in_ok-entries.ensures.items)
