use Rattle.std.proofs.Common.{ap, ◌∙◌, is_some}
use Rattle.std.proofs.lemmas.Bool.{false≢true}
use Rattle.lexicon.proofs.Owners.{owner_lives}
use Rattle.wiki_parts.proofs.words.taken_refusal.Goals as goal

pub unreachable-requires : goal.unreachable-requires
unreachable-requires c =
    let lives = owner_lives c.args.lexicon.now.live c.args.text.now c.args.word c.requires in
    absurd (false≢true (ap is_some c.in-None.ensures.forms ∙ lives))
