use Rattle.std.proofs.Common.{◌+◌, ◌*◌}
use Rattle.shared_search.proofs.rules.Rules.+within.Given as goal

abbrev pub decreases-is_within : goal.decreases-is_within
decreases-is_within l = 2 * l.depth

abbrev pub decreases-has_part : goal.decreases-has_part
decreases-has_part l = 2 * l.depth + 1

abbrev pub decreases-has_successor : goal.decreases-has_successor
decreases-has_successor l = 2 * l.depth + 1
