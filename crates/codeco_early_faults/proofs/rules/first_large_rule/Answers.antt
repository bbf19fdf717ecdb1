use Rattle.std.proofs.Common.{◌≡◌, ◌+◌, true, eqb, Some, None, sym, ap, ◌∙◌}
use Rattle.std.proofs.lemmas.Bool.{or_left, or_right, eq-eqb}
use Rattle.codeco_numbering.specs.Numbered.{rules_of}
use Rattle.codeco_early_faults.specs.Early.{is_large_written_rule}
use Rattle.codeco_early_faults.proofs.Places.{first_rule, large_at, none_left, rule_passes, finds_large}
use Rattle.codeco_early_faults.proofs.rules.first_large_rule.Goals.{then-number-eq-ONE_TOO_MANY-via-then-number-eq-ONE_TOO_MANY, then-number-eq-ONE_TOO_MANY-via-else-number-eq-ONE_TOO_MANY+in_ok-is_large_rule+then-branch}
use Rattle.codeco_early_faults.proofs.rules.first_large_rule.Goals as goal

pub returns-then-number-eq-ONE_TOO_MANY : goal.returns-then-number-eq-ONE_TOO_MANY
returns-then-number-eq-ONE_TOO_MANY c =
    let n = c.loop-item.number in
    let passes : large_at (n + 1) c.in-Rule.rule ≡ true = elim c.then-number-eq-ONE_TOO_MANY.branch [
      | then-number-eq-ONE_TOO_MANY-via-then-number-eq-ONE_TOO_MANY w ↦
          or_left (eqb (n + 1) 501) (is_large_written_rule c.in-Rule.rule) (eq-eqb (n + 1) 501 w.if-number-eq-ONE_TOO_MANY.true)
      | then-number-eq-ONE_TOO_MANY-via-else-number-eq-ONE_TOO_MANY+in_ok-is_large_rule+then-branch w ↦
          or_right (eqb (n + 1) 501) (is_large_written_rule c.in-Rule.rule) (sym w.in_ok-is_large_rule.ensures ∙ w.if-branch.true)
    ] in
    finds_large (rules_of c.args.items.now) (Some (n + 1))
    (ap (λ items. first_rule large_at 0 (rules_of items)) (sym c.as_slice-item-items.ensures)
    ∙ rule_passes large_at c.as_slice-item-items.result.now c.loop-item.item-index n c.loop-item.invariant.left c.item-item.result c.loop-item-test.true
    c.item-item.is c.in-Rule.rule c.in-Rule.is passes)

pub returns : goal.returns
returns c =
    finds_large (rules_of c.args.items.now) None
    (ap (λ items. first_rule large_at 0 (rules_of items)) (sym c.as_slice-item-items.ensures)
    ∙ none_left large_at c.as_slice-item-items.result.now c.loop-item.item-index c.loop-item.number c.loop-item.invariant.left c.loop-item-test.false)
