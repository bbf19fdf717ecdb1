use Rattle.owl_eval.proofs.Changed.{differ_at}
use Rattle.owl_eval.proofs.changes.changed_words.Goals as goal

pub returns-clause-differ : goal.returns-clause-differ
returns-clause-differ c =
    differ_at c.lent-one.result.now c.lent-other.result.now c.note_changes.new.changed.items c.note_changes-2.new.changed.items
    c.note_changes-3.new.changed.items c.sort_unstable.new.self.items c.args.one.now c.args.other.now c.lent-one.ensures.same c.lent-other.ensures.same
    c.requires c.in_ok-note_changes.ensures.noted c.in_ok-note_changes-2.ensures.kept c.in_ok-note_changes-2.ensures.noted
    c.in_ok-note_changes-3.ensures.kept c.in_ok-note_changes-3.ensures.noted c.sort_unstable.ensures.permutation
