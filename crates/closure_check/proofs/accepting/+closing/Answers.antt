use Rattle.std.proofs.Common.{◌≡◌, ◌-◌, ◌&&◌, length, take, zero-add, refl, sym, ap, ◌∙◌, arith}
use Rattle.std.proofs.lemmas.Result.{IfOk-weaker}
use Rattle.logic_terms.specs.Known.{theory_of}
use Rattle.tableau_rules.specs.Shown.{graph_of}
use Rattle.tableau_rules.specs.Rules.{after}
use Rattle.tableau_rules.specs.Trees.{tree_of, closes}
use Rattle.closure_check.proofs.TreeLaws.{step_begins, step_fails, wrong_count, none_needed, last_left}
use Rattle.closure_check.proofs.accepting.+closing.Goals as goal
use Rattle.closure_check.proofs.accepting.+closing.Goals.{closes-then-not-applies-via-then-not-applies, closes-then-not-applies-via-else-not-applies+then-choices-len}

pub closes-returns-then-not-applies : goal.closes-returns-then-not-applies
closes-returns-then-not-applies t c = let found = rw c.in-Some.is at c.in_ok-tree.ensures in sym (sym found.0 ∙ elim c.then-not-applies.branch [
  | closes-then-not-applies-via-then-not-applies w ↦
      step_fails (theory_of c.args.k.now) (graph_of c.follow.new.b) c.in-Some.tree.now c.in-Step.step c.in-Step.subtrees c.in-Step.is
      (sym c.applies.ensures ∙ w.if-not-applies.true)
  | closes-then-not-applies-via-else-not-applies+then-choices-len w ↦
      step_begins (theory_of c.args.k.now) (graph_of c.follow.new.b) c.in-Some.tree.now c.in-Step.step c.in-Step.subtrees c.in-Step.subtrees c.in-Step.is refl
      (sym c.applies.ensures ∙ w.if-not-applies.false)
      ∙ wrong_count (theory_of c.args.k.now) (graph_of c.follow.new.b) c.in-Step.step 0 c.in-Step.subtrees
      (λ same. w.if-choices-len.true (w.choices.ensures ∙ (sym same ∙ (zero-add (length c.in-Step.subtrees) ∙ sym w.len.ensures))))
])

pub closes-returns-in-empty : goal.closes-returns-in-empty
closes-returns-in-empty t c =
    let found = rw c.in-Some.is at c.in_ok-tree.ensures in
    let none : length c.in-Step.subtrees ≡ 0 = omega (arith, c.in-empty.len_below, ap length c.as_slice.ensures) in
    sym (sym found.0
    ∙ (step_begins (theory_of c.args.k.now) (graph_of c.follow.new.b) c.in-Some.tree.now c.in-Step.step c.in-Step.subtrees c.in-Step.subtrees c.in-Step.is refl
    (sym c.applies.ensures ∙ c.if-not-applies.false)
    ∙ none_needed (theory_of c.args.k.now) (graph_of c.follow.new.b) c.in-Step.step c.in-Step.subtrees none
    (sym (sym c.choices.ensures ∙ (c.if-choices-len.false ∙ (c.len.ensures ∙ none))))))

pub closes-returns-then-not-branch : goal.closes-returns-then-not-branch
closes-returns-then-not-branch t c =
    let found = rw c.in-Some.is at c.in_ok-tree.ensures in
    let firsts = c.in_ok-close_firsts-in-len1-up.ensures in
    sym (sym found.0
    ∙ (last_left (theory_of c.args.k.now) (graph_of c.follow.new.b) c.in-Step.step c.in-Step.subtrees c.as_slice.result.now c.last-item.result
    c.as_slice.ensures c.in-len1-up.len_at_least c.last-item.is
    c.in-Some.tree.now c.in-Step.is (sym c.applies.ensures ∙ c.if-not-applies.false) (sym c.choices.ensures ∙ (c.if-choices-len.false ∙ c.len.ensures))
    ∙ ap (λ b. b && closes (theory_of c.args.k.now)
    (after (theory_of c.args.k.now) (graph_of c.follow.new.b) c.in-Step.step (length (take (length c.as_slice.result.now - 1) c.as_slice.result.now)))
    (tree_of c.last-item.result)) (sym firsts ∙ c.if-not-branch.true)))

pub closes-returns-in_ok-apply-in-len1-up : goal.closes-returns-in_ok-apply-in-len1-up
closes-returns-in_ok-apply-in-len1-up t c =
    let found = rw c.in-Some.is at c.in_ok-tree.ensures in
    let firsts = c.in_ok-close_firsts-in-len1-up.ensures {u = tt} in
    let made = (c.in_ok-apply-in-len1-up.ensures {u = tt}).ok in
    let all = last_left (theory_of c.args.k.now) (graph_of c.follow.new.b) c.in-Step.step c.in-Step.subtrees c.as_slice.result.now c.last-item.result
    c.as_slice.ensures c.in-len1-up.len_at_least c.last-item.is
    c.in-Some.tree.now c.in-Step.is (sym c.applies.ensures ∙ c.if-not-applies.false) (sym c.choices.ensures ∙ (c.if-choices-len.false ∙ c.len.ensures)) in
    IfOk-weaker c.closes.result (λ yes. yes ≡ closes (theory_of c.args.k.now) (graph_of c.apply.new.b) (tree_of c.last-item.result)) _
    (λ yes e. e ∙ sym (sym found.0 ∙ (all
    ∙ (ap (λ b. b && closes (theory_of c.args.k.now)
    (after (theory_of c.args.k.now) (graph_of c.follow.new.b) c.in-Step.step (length (take (length c.as_slice.result.now - 1) c.as_slice.result.now)))
    (tree_of c.last-item.result)) (sym firsts ∙ c.if-not-branch.false)
    ∙ ap (λ h. closes (theory_of c.args.k.now) h (tree_of c.last-item.result)) (sym made)))))
    c.closes.ensures
