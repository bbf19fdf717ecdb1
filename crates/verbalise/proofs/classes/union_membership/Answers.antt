use Rattle.std.proofs.Common.{sym, arith}
use Rattle.logic_terms.specs.Shown.{concept_of}
use Rattle.verbalise.proofs.PhraseLemmas.{membership-other}
use Rattle.verbalise.proofs.classes.union_membership.Goals as goal

pub returns-then-members-ne2 : goal.returns-then-members-ne2
returns-then-members-ne2 c = sym (membership-other c.args.words.now.live concept_of c.args.members.now (λ two. omega arith))
