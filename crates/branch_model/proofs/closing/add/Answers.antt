use Rattle.std.specs.BTreeSet.{contains}
use Rattle.std.proofs.Common.{sym, ◌∙◌}
use Rattle.owl_eval.specs.Pairs.{pair_cmp}
use Rattle.branch_model.proofs.Closures.{was_there, nothing_added}
use Rattle.branch_model.proofs.closing.add.Goals as goal

pub returns-else-branch-clause-pairs : goal.returns-else-branch-clause-pairs
returns-else-branch-clause-pairs c a b =
    nothing_added c.args.made.now.items c.args.from c.args.to a b
    (sym (c.requires.knows (c.args.from, c.args.to))
    ∙ was_there (contains pair_cmp c.args.known.now (c.args.from, c.args.to)) c.in_ok-insert.field-0 c.in_ok-insert.ensures.added c.if-branch.false)
