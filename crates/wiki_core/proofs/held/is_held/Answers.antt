use Rattle.std.proofs.Common.{All, IsUtf8, ℕ, List}
use Rattle.lexicon.specs.declared.kinds.Kind.{Kind}
use Rattle.wiki_talk.specs.declared.requests.Request.TheVariants as requests
use Rattle.wiki_talk.specs.declared.requests.WikiRequest.TheVariants as of_wiki
use Rattle.wiki_core.specs.Journaled.{IsHeld}
use Rattle.wiki_core.proofs.held.is_held.Goals as goal

held_word : (kind : Kind) (forms : List (List ℕ)) → All IsUtf8 forms → IsHeld (requests.OnWiki (of_wiki.Word kind forms))
held_word kind forms utf8 = record { utf8 = utf8; place = tt }

pub returns-in-OnWiki-Word-clause-held : goal.returns-in-OnWiki-Word-clause-held
returns-in-OnWiki-Word-clause-held c =
    let same = rw c.in-OnWiki-Word.is at c.in-OnWiki-Word.field-0-is in
    rw (c.in-OnWiki-Word.is, same) (held_word _ _ c.are_utf8.ensures.utf8)
