use Rattle.std.proofs.Common.{◌≡◌, take, length}
use Rattle.derivation_trees.specs.Sentences.{setting_of}
use Rattle.wiki_parts.proofs.typing.menu.Given as goal

-- what the chart holds are the tokens that it has taken
abbrev pub invariant-loop-token : goal.invariant-loop-token
invariant-loop-token l =
    (l.chart ≡ setting_of l.fn.grammar l.fn.lexicon (take l.token-index l.fn.tokens))
    × (l.grammar ≡ l.fn.grammar) × (l.lexicon ≡ l.fn.lexicon) × (l.tokens ≡ l.fn.tokens) × (l.token-items ≡ l.fn.tokens)
