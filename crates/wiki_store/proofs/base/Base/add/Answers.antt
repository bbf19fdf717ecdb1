use Rattle.std.proofs.Common.{◌≡◌, ℕ, ◌+◌, List, [], ◌∷◌, ◌++◌, sym, ap, subst, ◌∙◌}
use Rattle.wiki_base.specs.declared.numbers.WordId.{WordId}
use Rattle.lexicon.specs.Words.{Listed, with_word}
use Rattle.articles.specs.declared.article.Article.{Article}
use Rattle.wiki_parts.specs.declared.meanings.Sense.{Sense}
use Rattle.wiki_parts.specs.Holding.{Holding}
use Rattle.wiki_parts.specs.Kept.{IsKeeping}
use Rattle.plain_wiki.specs.State.{Stored}
use Rattle.plain_wiki.specs.Words.{forms_given}
use Rattle.wiki_store.proofs.WordKeeping.{keeps_added}
use Rattle.wiki_store.proofs.base.Base.add.Goals as goal

pub invariant_of-self-in-Ok : goal.invariant_of-self-in-Ok
invariant_of-self-in-Ok c =
    let inside : Stored = record {
      grammar = c.self.inside.grammar;
      words = c.self.inside.lexicon;
      articles = c.self.inside.articles;
    } in
    let kept = c.self.inside.kept in
    let forms = forms_given c.args.kind c.args.forms.now in
    let id : WordId = record { 0 = c.in-Some.number } in
    let next : c.in-Some.number ≡ inside.words.last + 1 = c.in-Some.ensures.next.0 ∙ ap (λ (h : Holding). h.state.words.last + 1) (sym c.self.view_is) in
    let named = ap (λ (n : ℕ). let w : WordId = record { 0 = n } in w) next in
    let base = keeps_added inside c.self.inside.senses.items kept forms id c.self.invariant.0 c.in-Ok.ensures.free named in
    let articles = subst (λ (xs : List Article). IsKeeping (record inside { words = with_word inside.words forms; articles = xs })
    (c.self.inside.senses.items ++ [] ∷ []) kept) (sym c.in-Ok.ensures.article) base in
    let words = subst (λ (ws : Listed). IsKeeping (record inside { words = ws; articles = c.enter_word.new.articles }) (c.self.inside.senses.items ++ [] ∷ [])
    kept) (sym c.in-Ok.ensures.added) articles in
    let items : c.push.new.self.items ≡ c.self.inside.senses.items ++ [] ∷ [] =
    c.in_ok-push.ensures.items ∙ ap (λ (own : List Sense). c.self.inside.senses.items ++ own ∷ []) c.new.ensures in (
      subst (λ (ms : List (List Sense)). IsKeeping (record inside { words = c.enter_word.new.lexicon; articles = c.enter_word.new.articles }) ms kept)
          (sym items) words,
      next ∙ sym (ap (λ (ws : Listed). ws.last) c.in-Ok.ensures.added),
    )
