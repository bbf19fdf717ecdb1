use Rattle.std.proofs.Common.{◌≡◌, ◌+◌, ◌*◌, [], ◌∷◌, ◌++◌, take, drop, map}
use Rattle.derivations.specs.Enumeration as enumeration
use Rattle.derivations.specs.Paths.{path_of, outcome_of, start_of}
use Rattle.std.specs.List.{flat_map}
use Rattle.derivations.proofs.listing.+listing.Given as goal

abbrev pub invariant-step_all-loop-path : goal.invariant-step_all-loop-path
invariant-step_all-loop-path l =
    map path_of l.out ≡ flat_map (enumeration.steps l.setting (enumeration.trees_of l.setting l.depth) l.values l.element)
    (map path_of (take l.path-index l.paths))

abbrev pub invariant-run_all-loop-element : goal.invariant-run_all-loop-element
invariant-run_all-loop-element l =
    enumeration.all_steps l.setting (enumeration.trees_of l.setting l.depth) l.values (drop l.element-index l.body) (map path_of l.paths)
    ≡ enumeration.all_steps l.setting (enumeration.trees_of l.setting l.depth) l.values l.body (path_of l.fn.start ∷ [])

abbrev pub invariant-push_all_instances-loop-values : goal.invariant-push_all_instances-loop-values
invariant-push_all_instances-loop-values l =
    map outcome_of l.out ≡ map outcome_of l.initial.out
    ++ flat_map (enumeration.instance_trees l.setting (enumeration.trees_of l.setting l.depth) l.sought.wanted.now (start_of l.sought) l.numbered.number
    l.numbered.rule.now)
    (take l.values-index l.made)

abbrev pub invariant-push_rules-loop-rule : goal.invariant-push_rules-loop-rule
invariant-push_rules-loop-rule l =
    map outcome_of l.out ++ enumeration.rules_trees l.setting (enumeration.trees_of l.setting l.depth) l.sought.wanted.now (start_of l.sought) l.number
    (drop l.rule-index l.rules) ≡ map outcome_of l.initial.out
    ++ enumeration.rules_trees l.setting (enumeration.trees_of l.setting l.depth) l.sought.wanted.now (start_of l.sought) 1 l.rules

abbrev pub decreases-trees_of : goal.decreases-trees_of
decreases-trees_of l = 8 * l.depth + 0

abbrev pub decreases-push_steps : goal.decreases-push_steps
decreases-push_steps l = 8 * l.depth + 1

abbrev pub decreases-step_all : goal.decreases-step_all
decreases-step_all l = 8 * l.depth + 2

abbrev pub decreases-run_all : goal.decreases-run_all
decreases-run_all l = 8 * l.depth + 3

abbrev pub decreases-push_instance_trees : goal.decreases-push_instance_trees
decreases-push_instance_trees l = 8 * l.depth + 4

abbrev pub decreases-push_all_instances : goal.decreases-push_all_instances
decreases-push_all_instances l = 8 * l.depth + 5

abbrev pub decreases-push_rule_trees : goal.decreases-push_rule_trees
decreases-push_rule_trees l = 8 * l.depth + 6

abbrev pub decreases-push_rules : goal.decreases-push_rules
decreases-push_rules l = 8 * l.depth + 7
