-- What is true of all that is stored.
use Rattle.std.specs.Prelude.{◌≡◌, ◌≤◌, length, map, All, IsTrue}
use Rattle.codeco_checked.specs.Sound.{is_labelled}
use Rattle.wiki_talk.specs.declared.limits.TheConstants.{MOST_SENTENCES}
use Rattle.plain_wiki.specs.State.{Stored}

-- Each rule has a label, the words stand beside the grammar's own terminals, each live word has an article, and no article has
-- more sentences than there may be in all.
pub record IsSound (stored : Stored) : Type 0 where
  pub labelled : IsTrue (is_labelled stored.grammar)
  pub terminals : stored.words.terminals ≡ stored.grammar.terminals
  pub articles : map (λ article. article.word) stored.articles ≡ map (λ word. word.id) stored.words.live
  pub few : All (λ article. length article.sentences ≤ MOST_SENTENCES) stored.articles
