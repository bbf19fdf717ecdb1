use Rattle.std.proofs.Common.{◌≡◌, ◌+◌, length, drop}
use Rattle.plain_wiki.specs.Knowledge.{sentences_in}
use Rattle.wiki_store.proofs.lending.sentence_count.Given as goal

-- the sentences so far, and those of the articles that are left
abbrev pub invariant-loop-article : goal.invariant-loop-article
invariant-loop-article l = l.count + length (sentences_in (drop l.article-index l.articles)) ≡ length (sentences_in l.articles)
