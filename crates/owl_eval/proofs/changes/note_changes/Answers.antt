use Rattle.owl_eval.specs.Changes.{words_of, GiveSame}
use Rattle.owl_eval.proofs.Changed.{noted_kept, noted_all}
use Rattle.owl_eval.proofs.changes.note_changes.Goals as goal

pub returns-clause-noted : goal.returns-clause-noted
returns-clause-noted c =
    let kind = c.args.kind in
    let i = c.args.one.now in
    let j = c.args.other.now in
    let before = c.note_missed.new.changed.items in
    let after = c.note_missed-2.new.changed.items in
    noted_all kind i j after
    (noted_kept before after (GiveSame kind i j) (words_of kind i) c.in_ok-note_missed-2.ensures.kept c.in_ok-note_missed.ensures.noted)
    c.in_ok-note_missed-2.ensures.noted
