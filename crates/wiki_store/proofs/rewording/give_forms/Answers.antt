use Rattle.wiki_store.proofs.RewordLemmas.{taken_lives, reword_names_none, reword_has_room}
use Rattle.wiki_store.proofs.rewording.give_forms.Goals as goal

pub taken_by-requires : goal.taken_by-requires
taken_by-requires c =
    rw c.in-Err-Taken.ensures.unchanged
    (taken_lives c.args.lexicon.now c.args.word c.args.forms.now c.in-Err-Taken.text c.in-Err-Taken.owner c.requires.lives
    (rw c.in-Err-Taken.field-0-is at c.in-Err-Taken.ensures.refused))

pub unreachable-requires : goal.unreachable-requires
unreachable-requires c = reword_names_none c.args.lexicon.now c.args.word c.args.forms.now c.requires.lives c.in-Err-NoWord.field-0-0
    (rw c.in-Err-NoWord.field-0-is at c.in-Err-NoWord.ensures.refused)

pub unreachable-requires-in-Err-Full : goal.unreachable-requires-in-Err-Full
unreachable-requires-in-Err-Full c = reword_has_room c.args.lexicon.now c.args.word c.args.forms.now c.requires.lives c.in-Err-Full.field-0-0
    (rw c.in-Err-Full.field-0-is at c.in-Err-Full.ensures.refused)
