-- What becomes of words and of the articles that sessions are on, by a step on words and sentences.
use Rattle.std.proofs.Common.{◌≡◌, ℕ, ◌≤◌, ◌==◌, Bool, true, false, not, cond, List, [], ◌∷◌, ◌++◌, find, Option, option_map, refl, sym, ap, subst, ◌∙◌, arith}
use Rattle.std.specs.Option.{option_or}
use Rattle.std.proofs.lemmas.Bool.{eqb-true}
use Rattle.std.proofs.lemmas.List.Folds.{find-append}
use Rattle.wiki_base.specs.declared.numbers.WordId.{WordId}
use Rattle.articles.specs.declared.sentences.Sentence.{Sentence}
use Rattle.articles.specs.declared.article.Article.{Article}
use Rattle.articles.specs.Articles.{is_of, changed, with_change, without_article}
use Rattle.plain_wiki.specs.Sessions.{PlainSession}
use Rattle.plain_wiki.specs.State.{Stored}
use Rattle.wiki_core.specs.Holding.{IsOnArticle}
use Rattle.wiki_core.proofs.KeyLaws.{changed_at, find_changed, find_filter}

-- a session that was on an article is on it still
abbrev pub GoOn : List Article → List Article → Type 0
GoOn old new = (session : PlainSession) → IsOnArticle old session → IsOnArticle new session

pub go_on_same : (old new : List Article) → new ≡ old → GoOn old new
go_on_same old new same session on = subst (λ (articles : List Article). IsOnArticle articles session) (sym same) on

-- where a word's article changes
pub go_on_changed : (old : List Article) (word : WordId) (change : List Sentence → List Sentence) → GoOn old (with_change old word change)
go_on_changed old word change session on = record {
  article = changed_at (λ (a : Article). a.word.0) word.0 (changed change) on.article;
  there =
      find_changed (λ (a : Article). a.word.0) word.0 session.article.0 (changed change) (λ _. refl) old
      ∙ ap (option_map (changed_at (λ (a : Article). a.word.0) word.0 (changed change))) on.there;
  seen = by_test (on.article.word.0 == word.0) on.seen;
}
  where
    by_test : (b : Bool) → session.revision.0 ≤ on.article.revision.0 → session.revision.0 ≤ (cond b (changed change on.article) on.article).revision.0
    by_test true seen = omega (arith, seen)
    by_test false seen = seen

-- where an article comes
pub go_on_begun : (old : List Article) (new : Article) → GoOn old (old ++ new ∷ [])
go_on_begun old new session on = record {
  article = on.article;
  there = find-append (is_of session.article) old (new ∷ []) ∙ ap (λ (o : Option Article). option_or o (find (is_of session.article) (new ∷ []))) on.there;
  seen = on.seen;
}

-- where the article of another word goes
pub go_on_ended : (old : List Article) (word : WordId) (session : PlainSession) → (session.article.0 == word.0) ≡ false → IsOnArticle old session
    → IsOnArticle (without_article old word) session
go_on_ended old word session other on = record {
  article = on.article;
  there = find_filter (is_of session.article) (λ (a : Article). not (is_of word a)) stays old ∙ on.there;
  seen = on.seen;
}
  where
    stays : (a : Article) → is_of session.article a ≡ true → not (is_of word a) ≡ true
    stays a is = ap (λ (n : ℕ). not (n == word.0)) (eqb-true a.word.0 session.article.0 is) ∙ ap not other

-- what a step that changes no words leaves of words, and of the articles that sessions are on
pub record KeepsWords (old new : Stored) : Type 0 where
  pub grammar : new.grammar ≡ old.grammar
  pub words : new.words ≡ old.words
  pub on : GoOn old.articles new.articles

pub keeps_same : (old new : Stored) → new ≡ old → KeepsWords old new
keeps_same old new same = record {
  grammar = ap (λ (s : Stored). s.grammar) same;
  words = ap (λ (s : Stored). s.words) same;
  on = go_on_same old.articles new.articles (ap (λ (s : Stored). s.articles) same);
}

pub keeps_changed : (old new : Stored) (word : WordId) (change : List Sentence → List Sentence)
    → new ≡ record old { articles = with_change old.articles word change } → KeepsWords old new
keeps_changed old new word change after =
    subst (KeepsWords old) (sym after) (record { grammar = refl; words = refl; on = go_on_changed old.articles word change })
