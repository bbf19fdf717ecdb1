use Rattle.std.proofs.Common.{◌≡◌, ◌+◌, ◌*◌, [], ◌∷◌, drop, map}
use Rattle.std.specs.List.{list_any}
use Rattle.derivations.specs.Beginnings as beginnings
use Rattle.derivations.specs.Enumeration as enumeration
use Rattle.derivations.specs.Paths.{path_of, start_of}
use Rattle.derivations.proofs.beginnings.+cut.Given as goal

abbrev pub invariant-any_enters-loop-path : goal.invariant-any_enters-loop-path
invariant-any_enters-loop-path l =
    list_any (beginnings.enters (beginnings.cut_of l.setting l.depth) l.values l.element) (map path_of (drop l.path-index l.paths))
    ≡ list_any (beginnings.enters (beginnings.cut_of l.setting l.depth) l.values l.element) (map path_of l.paths)

abbrev pub invariant-goes_from-loop-element : goal.invariant-goes_from-loop-element
invariant-goes_from-loop-element l =
    beginnings.goes_from l.setting (enumeration.trees_of l.setting l.depth) (beginnings.cut_of l.setting l.depth) l.values (drop l.element-index l.body)
    (map path_of l.paths) ≡ beginnings.goes_from l.setting (enumeration.trees_of l.setting l.depth) (beginnings.cut_of l.setting l.depth) l.values l.body
    (path_of l.fn.start ∷ [])

abbrev pub invariant-any_instance-loop-values : goal.invariant-any_instance-loop-values
invariant-any_instance-loop-values l =
    list_any (beginnings.instance_cut l.setting (enumeration.trees_of l.setting l.depth) (beginnings.cut_of l.setting l.depth) l.sought.wanted.now
    (start_of l.sought) l.rule) (drop l.values-index l.made)
    ≡ list_any (beginnings.instance_cut l.setting (enumeration.trees_of l.setting l.depth) (beginnings.cut_of l.setting l.depth) l.sought.wanted.now
    (start_of l.sought) l.rule) l.made

abbrev pub invariant-any_rule-loop-rule : goal.invariant-any_rule-loop-rule
invariant-any_rule-loop-rule l =
    list_any (beginnings.rule_cut l.setting (enumeration.trees_of l.setting l.depth) (beginnings.cut_of l.setting l.depth) l.sought.wanted.now
    (start_of l.sought))
    (drop l.rule-index l.rules) ≡ list_any
    (beginnings.rule_cut l.setting (enumeration.trees_of l.setting l.depth) (beginnings.cut_of l.setting l.depth) l.sought.wanted.now (start_of l.sought))
    l.rules

abbrev pub decreases-cut_of : goal.decreases-cut_of
decreases-cut_of l = 8 * l.depth + 0

abbrev pub decreases-enters : goal.decreases-enters
decreases-enters l = 8 * l.depth + 1

abbrev pub decreases-any_enters : goal.decreases-any_enters
decreases-any_enters l = 8 * l.depth + 2

abbrev pub decreases-goes_from : goal.decreases-goes_from
decreases-goes_from l = 8 * l.depth + 3

abbrev pub decreases-instance_cut : goal.decreases-instance_cut
decreases-instance_cut l = 8 * l.depth + 4

abbrev pub decreases-any_instance : goal.decreases-any_instance
decreases-any_instance l = 8 * l.depth + 5

abbrev pub decreases-rule_cut : goal.decreases-rule_cut
decreases-rule_cut l = 8 * l.depth + 6

abbrev pub decreases-any_rule : goal.decreases-any_rule
decreases-any_rule l = 8 * l.depth + 7
