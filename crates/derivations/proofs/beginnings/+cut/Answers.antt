use Rattle.std.proofs.Common.{◌≡◌, ◌<◌, ◌-◌, true, false, map, rules, ap, sym, ◌∙◌}
use Rattle.std.specs.List.{flat_map, list_any}
use Rattle.std.proofs.lemmas.Result.{IfOk-weaker}
use Rattle.derivations.specs.Beginnings as beginnings
use Rattle.derivations.specs.Enumeration as enumeration
use Rattle.derivations.specs.Paths.{path_of, start_of}
use Rattle.derivations.proofs.LoopLemmas.{any_hit, any_miss, goes_entered, goes_further, cut_deeper}
use Rattle.derivations.proofs.beginnings.+cut.Goals as goal

pub any_instance-returns-then-branch : goal.any_instance-returns-then-branch
any_instance-returns-then-branch t c =
    let s = c.args.setting.now in
    let p = beginnings.instance_cut s (enumeration.trees_of s c.args.depth) (beginnings.cut_of s c.args.depth) c.args.sought.now.wanted.now
    (start_of c.args.sought.now) c.args.rule.now in
    let yes : c.in_ok-instance_cut.field-0 ≡ true = search rules in
    any_hit p c.args.made.now c.loop-values.values-index c.values-item.result (search rules) c.values-item.is
    (ap p (sym c.as_slice.ensures) ∙ sym c.in_ok-instance_cut.ensures ∙ yes) ∙ c.loop-values.invariant

pub any_instance-loop-values-preserved : goal.any_instance-loop-values-preserved
any_instance-loop-values-preserved t c =
    let s = c.args.setting.now in
    let p = beginnings.instance_cut s (enumeration.trees_of s c.args.depth) (beginnings.cut_of s c.args.depth) c.args.sought.now.wanted.now
    (start_of c.args.sought.now) c.args.rule.now in
    let no : c.in_ok-instance_cut.field-0 ≡ false = search rules in
    any_miss p c.args.made.now c.loop-values.values-index c.values-item.result (search rules) c.values-item.is
    (ap p (sym c.as_slice.ensures) ∙ sym c.in_ok-instance_cut.ensures ∙ no) ∙ c.loop-values.invariant

pub cut_of-returns : goal.cut_of-returns
cut_of-returns t c =
    let s = c.args.setting.now in
    IfOk-weaker c.any_rule.result _ _ (λ yes h. h
    ∙ ap (list_any (beginnings.rule_cut s (enumeration.trees_of s (c.args.depth - 1)) (beginnings.cut_of s (c.args.depth - 1)) c.args.sought.now.wanted.now
    (start_of c.args.sought.now))) (c.as_slice-rules.ensures ∙ c.rules.ensures ∙ ap (λ x. x.grammar.rules) c.setting.view_is)
    ∙ cut_deeper s c.args.depth c.args.sought.now.wanted.now (start_of c.args.sought.now) c.if-depth-eq0.false) c.any_rule.ensures

pub goes_from-returns-then-branch : goal.goes_from-returns-then-branch
goes_from-returns-then-branch t c =
    let s = c.args.setting.now in
    let yes : c.in_ok-any_enters.field-0 ≡ true = search rules in
    let entered = ap (λ ps. list_any (beginnings.enters (beginnings.cut_of s c.args.depth) c.args.values.now c.element-item.result) (map path_of ps))
    (sym c.as_slice-in-loop-element.ensures) ∙ sym c.in_ok-any_enters.ensures ∙ yes in
    goes_entered s (enumeration.trees_of s c.args.depth) (beginnings.cut_of s c.args.depth) c.args.values.now c.args.body.now c.loop-element.element-index
    c.element-item.result (map path_of c.loop-element.paths) (search rules) c.element-item.is entered ∙ c.loop-element.invariant

pub goes_from-loop-element-preserved : goal.goes_from-loop-element-preserved
goes_from-loop-element-preserved t c =
    let s = c.args.setting.now in
    let no : c.in_ok-any_enters.field-0 ≡ false = search rules in
    let not_end : c.any_at_end.result ≡ false = search rules in
    let at_end = ap (λ ps. list_any (beginnings.is_at_end s) (map path_of ps)) (sym c.as_slice.ensures) ∙ sym c.any_at_end.ensures ∙ not_end in
    let entered = ap (λ ps. list_any (beginnings.enters (beginnings.cut_of s c.args.depth) c.args.values.now c.element-item.result) (map path_of ps))
    (sym c.as_slice-in-loop-element.ensures) ∙ sym c.in_ok-any_enters.ensures ∙ no in
    let step = c.in_ok-paths.ensures ∙ ap
    (λ ps. flat_map (enumeration.steps s (enumeration.trees_of s c.args.depth) c.args.values.now c.element-item.result) (map path_of ps))
    c.as_slice-in-loop-element-2.ensures in
    goes_further s (enumeration.trees_of s c.args.depth) (beginnings.cut_of s c.args.depth) c.args.values.now c.args.body.now c.loop-element.element-index
    c.element-item.result (map path_of c.loop-element.paths) (map path_of c.in_ok-paths.paths) (search rules) c.element-item.is at_end entered step
    ∙ c.loop-element.invariant
