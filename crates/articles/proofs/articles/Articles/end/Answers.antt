use Rattle.std.proofs.Common.{◌∙◌}
use Rattle.articles.proofs.PlaceLemmas.{removed_is}
use Rattle.articles.proofs.articles.Articles.end.Goals as goal

pub returns : goal.returns
returns c = c.remove.ensures.items ∙ removed_is _ _ c.self.view_is c.self.invariant _ _ c.place_there-place.ensures
