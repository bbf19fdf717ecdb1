-- What a step leaves as it was.
use Rattle.std.specs.Prelude.{◌≡◌}
use Rattle.wiki_talk.specs.declared.replies.Reply.{Reply}
use Rattle.wiki_talk.specs.declared.replies.Reply.TheVariants as replies
use Rattle.wiki_core.specs.Holding.{Holding}

-- the kept interpretation stays, unless the reply is that of a done `add`, `edit`, `reassert` or `commit`
abbrev pub KeepsInterpretation : Holding → Reply → Holding → Type 0
KeepsInterpretation old (replies.Add status text) new = Unit {0}
KeepsInterpretation old (replies.Edit status text) new = Unit {0}
KeepsInterpretation old (replies.Reassert status) new = Unit {0}
KeepsInterpretation old (replies.Commit article status text) new = Unit {0}
KeepsInterpretation old reply new = new.interpretation ≡ old.interpretation
