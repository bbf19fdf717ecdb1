use Rattle.std.proofs.Common.{◌≡◌, Some, drop, nat_le, ap, ◌∙◌, sym, rules}
use Rattle.std.proofs.lemmas.List.{length-map}
use Rattle.std.specs.Prelude.{option_map}
use Rattle.std.proofs.lemmas.Result.{IfOk-weaker}
use Rattle.derivation_trees.specs.declared.trees.Tree.{out-Tree}
use Rattle.derivation_trees.specs.Trees.{node_of, nodes_of}
use Rattle.derivation_trees.specs.Derives as derives
use Rattle.derivation_trees.specs.Stands.{at_of, children_of, stand_of, standing, values_in}
use Rattle.derivation_trees.proofs.StandLemmas.{led_none, led_some, none_left_at, step_none, step_some}
use Rattle.derivation_trees.proofs.derive.+leads.Goals as goal

pub leads-returns-in-None-clause-is : goal.leads-returns-in-None-clause-is
leads-returns-in-None-clause-is t c =
    let s = c.args.setting.now in
    let tree = c.args.tree.now in
    let kids = children_of s tree in
    let has : Some c.in-Some.rule.now ≡ derives.rule_with s.grammar (out-Tree tree).rule = search rules in
    led_none s tree c.args.asked.now (at_of (c.args.place, c.args.list.now)) c.in-Some.rule.now (stand_of kids c.in-Some-2.stand) has
    (sym (ap (option_map (stand_of kids)) c.in-Some-2.is) ∙ c.in_ok-stand.ensures.is kids)
    (sym (ap (option_map (standing kids)) c.in-None.is) ∙ c.in_ok-run.ensures.is
    ∙ ap (λ b. derives.run s (values_in tree) b (stand_of kids c.in-Some-2.stand)) c.as_slice.ensures)

pub leads-returns-in-Some-3-clause-is : goal.leads-returns-in-Some-3-clause-is
leads-returns-in-Some-3-clause-is t c =
    let s = c.args.setting.now in
    let tree = c.args.tree.now in
    let kids = children_of s tree in
    let has : Some c.in-Some.rule.now ≡ derives.rule_with s.grammar (out-Tree tree).rule = search rules in
    let led = led_some s tree c.args.asked.now (at_of (c.args.place, c.args.list.now)) c.in-Some.rule.now (stand_of kids c.in-Some-2.stand)
    (standing kids (c.in-Some-3.stand, c.in-Some-3.used)) has (sym (ap (option_map (stand_of kids)) c.in-Some-2.is) ∙ c.in_ok-stand.ensures.is kids)
    (sym (ap (option_map (standing kids)) c.in-Some-3.is) ∙ c.in_ok-run.ensures.is
    ∙ ap (λ b. derives.run s (values_in tree) b (stand_of kids c.in-Some-2.stand)) c.as_slice.ensures) in
    IfOk-weaker c.end.result _ _ (λ o h. h (drop c.in-Some-3.used kids)
    (none_left_at kids c.in-Some-3.used
    ∙ ap (λ n. nat_le n c.in-Some-3.used) (length-map (nodes_of (out-Tree tree).children) (derives.phrase_of s) ∙ sym c.len.ensures)) ∙ led)
    c.end.ensures.is

pub step-returns-in-None-clause-is : goal.step-returns-in-None-clause-is
step-returns-in-None-clause-is t c =
    let s = c.args.setting.now in
    let tree = c.args.tree.now in
    let name = c.in_ok-asked-in-Sub.ensures in
    step_none s (values_in tree) c.args.element.now c.in-Sub.category (nodes_of (out-Tree tree).children) (node_of c.get-child.result.now) c.args.used
    (at_of (c.args.stand.place, c.args.stand.list)) c.args.stand.found.now c.args.stand.own.now c.in_ok-asked-in-Sub.asked c.in-Sub.is (search rules)
    c.get-child.ensures.item (sym (ap (option_map at_of) c.in-None.is) ∙ c.in_ok-leads-in-Sub.ensures.is)

pub step-returns-in-Sub-clause-is : goal.step-returns-in-Sub-clause-is
step-returns-in-Sub-clause-is t c =
    let s = c.args.setting.now in
    let tree = c.args.tree.now in
    step_some s (values_in tree) c.args.element.now c.in-Sub.category (nodes_of (out-Tree tree).children) (node_of c.get-child.result.now) c.args.used
    (at_of (c.args.stand.place, c.args.stand.list)) (at_of (c.in-Some.place, c.in-Some.list)) c.args.stand.found.now c.args.stand.own.now
    c.in_ok-asked-in-Sub.asked c.in-Sub.is (search rules) c.get-child.ensures.item
    (sym (ap (option_map at_of) c.in-Some.is) ∙ c.in_ok-leads-in-Sub.ensures.is)
