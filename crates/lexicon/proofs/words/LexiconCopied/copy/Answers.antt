use Rattle.std.proofs.Common.{◌∙◌}
use Rattle.lexicon.proofs.Keys.{cloned_texts}
use Rattle.lexicon.proofs.words.LexiconCopied.copy.Goals as goal

-- the copied table has the bytes of each key and its number
pub invariant_of-result : goal.invariant_of-result
invariant_of-result c = rw (c.into_vec.ensures, c.in_ok-copied.ensures, c.deref.ensures.value, c.in_ok-copy.ensures) (
  c.self.invariant.0,
  λ text. cloned_texts c.self.inside.index.entries c.in_ok-clone.field-0.entries c.in_ok-clone.ensures.cases text ∙ c.self.invariant.1 text,
)
