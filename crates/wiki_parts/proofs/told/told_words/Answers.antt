use Rattle.std.proofs.Common.{◌≡◌, ◌+◌, [], ◌∷◌, ◌++◌, sym, ◌∙◌}
use Rattle.wiki_base.proofs.ListLaws.{map_take}
use Rattle.wiki_parts.proofs.told.told_words.Goals as goal

pub loop-place-preserved : goal.loop-place-preserved
loop-place-preserved c =
    c.in_ok-push.ensures.items ∙ rw (c.loop-place.invariant, c.in_ok-told_word.ensures)
    (sym (map_take _ c.args.lexicon.now.live c.loop-place.place c.get.result.now c.get.ensures))
