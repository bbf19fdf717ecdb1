use Rattle.std.proofs.Common.{◌≡◌, [], take, map}
use Rattle.logic_terms.specs.Shown.{concept_of}
use Rattle.tableau_rules.specs.Rules.{open_members}
use Rattle.tableau_rules.proofs.grown.unit_member.Given as goal

abbrev pub invariant-loop-member : goal.invariant-loop-member
invariant-loop-member l = open_members (map concept_of l.label) (map concept_of (take l.member-index l.members)) ≡ []
