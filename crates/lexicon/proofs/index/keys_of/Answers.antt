use Rattle.std.proofs.Common.{subst, arith}
use Rattle.std.proofs.lemmas.Grind.{common_steps}
use Rattle.std.proofs.lemmas.List.Elements.{All-more}
use Rattle.wiki_base.specs.Text.{IsText}
use Rattle.lexicon.proofs.index.keys_of.Goals as goal

-- one more text is a key, and is a text
pub loop-text-preserved : goal.loop-text-preserved
loop-text-preserved c = (
  grind (arith, common_steps),
  All-more IsText c.as_slice-text-items.result.now c.loop-text.text-index c.text-item.result c.loop-text-test.true c.loop-text.invariant.1
      (subst (λ t. IsText t) c.text-item.is c.as_str.ensures.text),
)
