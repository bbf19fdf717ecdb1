use Rattle.std.proofs.Common.{◌≡◌, length}
use Rattle.command_line.specs.Command.{given_by, options_after, no_options}
use Rattle.command_line.proofs.options.Options.from_words.Given as goal

-- what is left decides
abbrev pub invariant-words : goal.invariant-words
invariant-words l = options_after (given_by l.given) l.rest ≡ options_after no_options l.fn.words

abbrev pub decreases-words : goal.decreases-words
decreases-words l = length l.rest
