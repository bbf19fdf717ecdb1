use Rattle.std.proofs.Common.{◌≡◌, ◌∷◌, [], ◌++◌, ◌<◌, map, rules, ap, ◌∙◌}
use Rattle.std.specs.List.{flat_map}
use Rattle.derivations.specs.Enumeration as enumeration
use Rattle.derivations.specs.Paths.{path_of, outcome_of, start_of}
use Rattle.derivations.proofs.LoopLemmas.{flat_more, rules_more, steps_more, paths_begin}
use Rattle.derivations.proofs.listing.+listing.Goals as goal

pub push_all_instances-loop-values-preserved : goal.push_all_instances-loop-values-preserved
push_all_instances-loop-values-preserved t c =
    let s = c.args.setting.now in
    let F = enumeration.instance_trees s (enumeration.trees_of s c.args.depth) c.args.sought.now.wanted.now (start_of c.args.sought.now)
    c.args.numbered.now.number
    c.args.numbered.now.rule.now in
    flat_more F c.args.made.now c.loop-values.values-index c.values-item.result (map outcome_of c.args.out.now) (map outcome_of c.loop-values.out)
    (map outcome_of c.push_instance_trees.new.out) (search rules) c.values-item.is c.loop-values.invariant
    (c.in_ok-push_instance_trees.ensures ∙ ap (λ v. map outcome_of c.loop-values.out ++ F v) c.as_slice.ensures)

pub push_instance_trees-push_instance_ends-requires : goal.push_instance_trees-push_instance_ends-requires
push_instance_trees-push_instance_ends-requires t c =
    let s = c.args.setting.now in
    paths_begin s c.args.depth c.args.values.now c.args.numbered.now.rule.now.body c.args.sought.now.list.now c.in_ok-start.start c.as_slice-2.result.now
    (ap (λ p. p.at.list) c.in_ok-start.ensures)
    (ap (map path_of) c.as_slice-2.ensures ∙ c.in_ok-paths.ensures
    ∙ ap (λ body. enumeration.all_steps s (enumeration.trees_of s c.args.depth) c.args.values.now body (path_of c.in_ok-start.start ∷ []))
    c.as_slice.ensures)

pub push_rules-loop-rule-preserved : goal.push_rules-loop-rule-preserved
push_rules-loop-rule-preserved t c =
    let s = c.args.setting.now in
    rules_more s (enumeration.trees_of s c.args.depth) c.args.sought.now.wanted.now (start_of c.args.sought.now) c.args.rules.now c.loop-rule.rule-index
    c.loop-rule.number c.in_ok-number.number c.rule-item.result (map outcome_of c.loop-rule.out) (map outcome_of c.push_rule_trees.new.out) _ (search rules)
    c.rule-item.is c.in_ok-number.ensures c.in_ok-push_rule_trees.ensures c.loop-rule.invariant

pub run_all-loop-element-preserved : goal.run_all-loop-element-preserved
run_all-loop-element-preserved t c =
    let s = c.args.setting.now in
    steps_more s (enumeration.trees_of s c.args.depth) c.args.values.now c.args.body.now c.loop-element.element-index c.element-item.result
    (map path_of c.loop-element.paths) (map path_of c.in_ok-paths.paths) _ (search rules) c.element-item.is
    (c.in_ok-paths.ensures ∙ ap (λ paths. flat_map (enumeration.steps s (enumeration.trees_of s c.args.depth) c.args.values.now c.element-item.result)
    (map path_of paths)) c.as_slice.ensures) c.loop-element.invariant
