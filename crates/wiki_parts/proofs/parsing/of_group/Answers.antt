use Rattle.std.proofs.Common.{sym, ◌∙◌}
use Rattle.wiki_parts.proofs.MenuLemmas.{of_group-kept, of_group-left}
use Rattle.wiki_parts.proofs.parsing.of_group.Goals as goal
use Rattle.wiki_parts.proofs.parsing.of_group.Goals.{then-number+in_ok-from_str+in_ok-push, else-number}

pub loop-place-preserved : goal.loop-place-preserved
loop-place-preserved c = elim c.if-number.branch [
  | then-number+in_ok-from_str+in_ok-push w ↦
      let same = sym c.number.ensures ∙ w.if-number.true ∙ c.number-in-loop-place.ensures in
      w.texts-is ∙ w.in_ok-push.ensures.ok ∙ rw (c.loop-place.invariant, w.in_ok-from_str.ensures)
      (sym (of_group-kept c.args.group c.args.menu.now c.loop-place.place c.get-entry.result.0 c.get-entry.result.1.now c.get-entry.ensures same))
  | else-number w ↦
      w.texts-is ∙ c.loop-place.invariant
      ∙ sym (of_group-left c.args.group c.args.menu.now c.loop-place.place c.get-entry.result.0 c.get-entry.result.1.now c.get-entry.ensures
      (λ same. w.if-number.false (c.number.ensures ∙ same ∙ sym c.number-in-loop-place.ensures)))
]
