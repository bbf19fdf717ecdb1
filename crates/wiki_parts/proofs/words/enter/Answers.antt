use Rattle.std.proofs.Common.{◌∙◌}
use Rattle.lexicon.proofs.Owners.{owner-add_refusal, add_refusal_names_none}
use Rattle.wiki_parts.proofs.words.enter.Goals as goal

pub taken_refusal-requires : goal.taken_refusal-requires
taken_refusal-requires c = rw c.in-Err-Taken.ensures.unchanged
    (owner-add_refusal c.args.lexicon.now c.args.forms.now _ _ (rw c.in-Err-Taken.field-0-is at c.in-Err-Taken.ensures.refused))

pub unreachable-requires : goal.unreachable-requires
unreachable-requires c = add_refusal_names_none c.args.lexicon.now c.args.forms.now _ (rw c.in-Err-NoWord.field-0-is at c.in-Err-NoWord.ensures.refused)
