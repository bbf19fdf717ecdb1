use Rattle.std.proofs.Common.{[], ◌+◌, ◌≤◌, not, length, drop, Some, None, sym, ap, subst, ◌∙◌}
use Rattle.codeco_numbering.specs.Numbered.{rules_of, gathered, written_features}
use Rattle.codeco_early_faults.specs.Early.{declared_names, is_undeclared_place, FindsFirst}
use Rattle.codeco_early_faults.proofs.Places.{first_rule, undeclared_at, none_left, rule_passes, rule_fails, fewer, feature_passed, as_few, finds_undeclared, undeclared_told}
use Rattle.codeco_early_faults.proofs.rules.first_undeclared_rule.Goals.{in-Feature, in-Rule+else-not-has_rule_features}
use Rattle.codeco_early_faults.proofs.rules.first_undeclared_rule.Goals as goal

pub returns-then-not-has_rule_features : goal.returns-then-not-has_rule_features
returns-then-not-has_rule_features c =
    let items = c.as_slice-item-items.result.now in
    let names = declared_names items in
    let told = undeclared_told c.in_ok-names.names names (written_features c.in-Rule.rule) c.has_rule_features.result
    (c.in_ok-names.ensures ∙ ap (λ is. gathered [] (declared_names is)) (sym c.as_slice-item-items.ensures)) c.has_rule_features.ensures
    ∙ ap not c.if-not-has_rule_features.true in
    subst (λ is. FindsFirst (is_undeclared_place is) (Some (c.loop-item.number + 1))) c.as_slice-item-items.ensures
    (finds_undeclared names (rules_of items) (Some (c.loop-item.number + 1))
    (rule_passes (undeclared_at names) items c.loop-item.item-index c.loop-item.number c.loop-item.invariant.left c.item-item.result c.loop-item-test.true
    c.item-item.is c.in-Rule.rule c.in-Rule.is told))

pub loop-item-preserved : goal.loop-item-preserved
loop-item-preserved c =
    let items = c.as_slice-item-items.result.now in
    let i = c.loop-item.item-index in
    let n = c.loop-item.number in
    let names = declared_names items in
    let x = c.item-item.result in
    elim c.match-item.branch [
      | in-Feature w ↦ record {
        few = subst (λ k. k + length (rules_of (drop (i + 1) items)) ≤ 500) (sym w.number-is)
            (as_few (undeclared_at names) items i n c.loop-item.invariant.left x c.loop-item-test.true c.item-item.is w.in-Feature.field-0 w.in-Feature.field-1
            w.in-Feature.is c.loop-item.invariant.few);
        left = ap (λ k. first_rule (undeclared_at names) k (rules_of (drop (i + 1) items))) w.number-is
            ∙ feature_passed (undeclared_at names) items i n c.loop-item.invariant.left x c.loop-item-test.true c.item-item.is w.in-Feature.field-0
            w.in-Feature.field-1 w.in-Feature.is;
      }
      | in-Rule+else-not-has_rule_features w ↦
          let told = undeclared_told c.in_ok-names.names names (written_features w.in-Rule.rule) w.has_rule_features.result
          (c.in_ok-names.ensures ∙ ap (λ is. gathered [] (declared_names is)) (sym c.as_slice-item-items.ensures)) w.has_rule_features.ensures
          ∙ ap not w.if-not-has_rule_features.false in
          record {
            few = subst (λ k. k + length (rules_of (drop (i + 1) items)) ≤ 500) (sym w.number-is)
                (fewer (undeclared_at names) items i n c.loop-item.invariant.left x c.loop-item-test.true c.item-item.is w.in-Rule.rule w.in-Rule.is
                c.loop-item.invariant.few);
            left = ap (λ k. first_rule (undeclared_at names) k (rules_of (drop (i + 1) items))) w.number-is
                ∙ rule_fails (undeclared_at names) items i n c.loop-item.invariant.left x c.loop-item-test.true c.item-item.is w.in-Rule.rule w.in-Rule.is told;
          }
    ]

pub returns : goal.returns
returns c =
    let items = c.as_slice-item-items.result.now in
    let names = declared_names items in
    subst (λ is. FindsFirst (is_undeclared_place is) None) c.as_slice-item-items.ensures
    (finds_undeclared names (rules_of items) None
    (none_left (undeclared_at names) items c.loop-item.item-index c.loop-item.number c.loop-item.invariant.left c.loop-item-test.false))
