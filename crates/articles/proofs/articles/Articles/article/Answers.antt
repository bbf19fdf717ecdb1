use Rattle.std.proofs.Common.{sym}
use Rattle.articles.proofs.PlaceLemmas.{found_is}
use Rattle.articles.proofs.articles.Articles.article.Goals as goal

pub returns-in-Some : goal.returns-in-Some
returns-in-Some c = sym (found_is _ _ c.self.view_is c.self.invariant _ _ c.in-Some.ensures _ c.index.ensures)
