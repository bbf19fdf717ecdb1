use Rattle.std.proofs.Common.{◌≡◌, ◌-◌}
use Rattle.derivations.proofs.TypingLemmas.{AreBeginnings}
use Rattle.wiki_parts.proofs.typing.typeable_count.Given as goal

abbrev pub invariant-loop-longer : goal.invariant-loop-longer
invariant-loop-longer l = AreBeginnings l.fn.grammar l.fn.lexicon l.fn.tokens l.longer × (l.count ≡ l.longer - 1)
