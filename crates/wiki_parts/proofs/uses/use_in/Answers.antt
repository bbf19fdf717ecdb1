use Rattle.std.proofs.Common.{sym, ap, ◌∙◌, option_map}
use Rattle.plain_wiki.specs.Places.{Placed}
use Rattle.plain_wiki.specs.Causes.{uses_word}
use Rattle.wiki_parts.proofs.UseLemmas.{find-here, find-past}
use Rattle.wiki_parts.proofs.uses.use_in.Goals as goal

pub returns-then-needs : goal.returns-then-needs
returns-then-needs c =
    sym (ap (option_map (λ (placed : Placed). placed.place)) (c.loop-place.invariant
    ∙ find-here (uses_word c.args.word c.args.forms.now) c.args.article.now.word c.args.article.now.sentences c.loop-place.place c.get.result.now c.get.ensures
    (sym c.needs.ensures ∙ c.if-needs.true)))

pub loop-place-preserved : goal.loop-place-preserved
loop-place-preserved c =
    c.loop-place.invariant
    ∙ find-past (uses_word c.args.word c.args.forms.now) c.args.article.now.word c.args.article.now.sentences c.loop-place.place c.get.result.now c.get.ensures
    (sym c.needs.ensures ∙ c.if-needs.false)
