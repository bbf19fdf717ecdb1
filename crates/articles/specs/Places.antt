-- Where an article stands in the list.
use Rattle.std.specs.Prelude.{◌≡◌, ◌<◌, ℕ, List, length}
use Rattle.std.specs.List.{HoldsAt}
use Rattle.wiki_base.specs.declared.numbers.WordId.{WordId}
use Rattle.articles.specs.declared.article.Article.{Article}

-- the word's article stands at the place
pub record IsPlaceOf (articles : List Article) (word : WordId) (place : ℕ) : Type 0 where
  pub in_range : place < length articles
  pub numbered : HoldsAt (λ article. article.word.0 ≡ word.0) articles place
