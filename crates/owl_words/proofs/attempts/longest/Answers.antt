use Rattle.std.proofs.Common.{sym, ◌∙◌, arith}
use Rattle.owl_words.proofs.AttemptLemmas.{longest_found, longest_next}
use Rattle.owl_words.proofs.attempts.longest.Goals as goal

pub returns-in-Some : goal.returns-in-Some
returns-in-Some c =
    sym (c.loop-count.invariant.left_decides
    ∙ longest_found c.args.kind c.args.base.now c.args.ending.now c.loop-count.count c.in-Some.forms c.loop-count-test.true
    (sym c.in_ok-forms.ensures ∙ c.in-Some.is))

pub loop-count-preserved : goal.loop-count-preserved
loop-count-preserved c = record {
  within = omega arith;
  left_decides = c.loop-count.invariant.left_decides
      ∙ longest_next c.args.kind c.args.base.now c.args.ending.now c.loop-count.count c.loop-count-test.true (sym c.in_ok-forms.ensures ∙ c.in-None.is);
}
