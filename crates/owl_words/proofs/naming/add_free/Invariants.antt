use Rattle.std.proofs.Common.{◌≡◌}
use Rattle.owl_words.specs.Chosen.{AreRefused}
use Rattle.owl_words.proofs.naming.add_free.Given as goal

-- no word was added, and each attempt so far is refused
abbrev pub invariant-loop-attempt : goal.invariant-loop-attempt
invariant-loop-attempt l = record {
  same : l.words ≡ l.initial.words;
  refused : AreRefused l.initial.words l.kind l.base l.attempt;
}
