-- What stands against each request: its causes, in their order.
use Rattle.std.specs.Prelude.{ℕ, List, [], ◌∷◌, length}
use Rattle.lexicon.specs.declared.words.Word.{Word}
use Rattle.wiki_talk.specs.declared.limits.Limit.TheVariants as limits
use Rattle.wiki_talk.specs.declared.refusals.Refusal.{Refusal}
use Rattle.wiki_talk.specs.declared.refusals.Refusal.TheVariants.{NoWord, NoSession}
use Rattle.wiki_talk.specs.declared.requests.Request.{Request}
use Rattle.wiki_talk.specs.declared.requests.Request.TheVariants as requests
use Rattle.wiki_talk.specs.declared.requests.WikiRequest.{WikiRequest}
use Rattle.wiki_talk.specs.declared.requests.WikiRequest.TheVariants as of_wiki
use Rattle.wiki_talk.specs.declared.requests.WordRequest.{WordRequest}
use Rattle.wiki_talk.specs.declared.requests.WordRequest.TheVariants as of_word
use Rattle.wiki_talk.specs.declared.requests.ArticleRequest.{ArticleRequest}
use Rattle.wiki_talk.specs.declared.requests.ArticleRequest.TheVariants as of_article
use Rattle.wiki_talk.specs.declared.requests.SessionRequest.{SessionRequest}
use Rattle.wiki_talk.specs.declared.requests.SessionRequest.TheVariants as of_session
use Rattle.articles.specs.declared.article.Article.{Article}
use Rattle.plain_wiki.specs.Sessions.{PlainSession}
use Rattle.plain_wiki.specs.State.{Stored, State}
use Rattle.plain_wiki.specs.Places.{word_with, article_named, session_numbered}
use Rattle.plain_wiki.specs.Causes.{FirstOf, NoneOf, of_named, is_full, has_no_room, is_at_last_revision, has_too_many_tokens, is_bad_word, is_bad_reword, breaks_by_forms, is_in_use, is_no_grammar, is_bare, has_a_form, breaks_by_grammar, has_no_place, is_past_end, has_no_derivation, may_retract, may_reassert, has_bad_status, is_not_offered, has_no_token, on_its_article, is_stale, is_unfinished}

-- a list of causes
abbrev pub Causes : Type 1
Causes = List (Refusal → Type 0)

-- a request on the wiki as a whole
abbrev pub against_wiki : Stored → WikiRequest → Causes
against_wiki stored (of_wiki.Word kind texts) = is_bad_word stored kind texts ∷ []
against_wiki stored of_wiki.Words = []
against_wiki stored (of_wiki.Parse text) = has_too_many_tokens stored text ∷ has_no_derivation stored text ∷ []
against_wiki stored (of_wiki.Grammar text) = is_no_grammar text ∷ is_bare text ∷ has_a_form stored text ∷ breaks_by_grammar stored text ∷ []

-- a request on a word
abbrev pub against_word : Stored → WordRequest → Word → Causes
against_word stored of_word.Find word = []
against_word stored (of_word.Reword texts) word = is_bad_reword stored word texts ∷ breaks_by_forms stored word texts ∷ []
against_word stored of_word.Unword word = is_in_use stored word ∷ []

-- a request on the sentences of an article; nothing of them stands against a session on it
abbrev pub against_sentences : Stored → ArticleRequest → Article → Causes
against_sentences stored of_article.Read article = []
against_sentences stored (of_article.Add given text) article =
    is_past_end article given ∷ has_no_room stored ∷ has_too_many_tokens stored text ∷ is_at_last_revision article ∷ has_no_derivation stored text ∷ []
against_sentences stored (of_article.Edit place text) article =
    has_no_place article place ∷ has_too_many_tokens stored text ∷ is_at_last_revision article ∷ has_no_derivation stored text ∷ []
against_sentences stored (of_article.Remove place) article = has_no_place article place ∷ is_at_last_revision article ∷ []
against_sentences stored (of_article.Retract place) article =
    has_no_place article place ∷ is_at_last_revision article ∷ has_bad_status may_retract article place ∷ []
against_sentences stored (of_article.Reassert place) article =
    has_no_place article place ∷ is_at_last_revision article ∷ has_bad_status may_reassert article place ∷ []
against_sentences stored (of_article.Axioms place) article = has_no_place article place ∷ []
against_sentences stored of_article.Open article = []

-- a request on an article
abbrev pub against_article : State → ArticleRequest → Article → Causes
against_article state of_article.Open article = is_full limits.Sessions (length state.sessions) ∷ is_full limits.Numbers state.last ∷ []
against_article state asked article = against_sentences state.stored asked article

-- a request on a session
abbrev pub against_session : State → SessionRequest → PlainSession → Causes
against_session state (of_session.Type text) session = is_full limits.Tokens (length session.tokens) ∷ is_not_offered state.stored session text ∷ []
against_session state of_session.Back session = has_no_token session ∷ []
against_session state of_session.Commit session =
    has_no_room state.stored ∷ on_its_article state.stored session is_at_last_revision ∷ on_its_article state.stored session (is_stale session)
    ∷ is_unfinished state.stored session ∷ []
against_session state asked session = []

-- The first cause of a request on a word or an article is that no live word has the form, and of one on a session that no open session has
-- the number.
abbrev pub against_form : Stored → List ℕ → (Word → Causes) → Causes
against_form stored form causes = of_named (word_with stored form) (NoWord form) causes

abbrev pub against_its_article : Stored → List ℕ → (Article → Causes) → Causes
against_its_article stored form causes = of_named (article_named stored form) (NoWord form) causes

abbrev pub against_number : State → ℕ → (PlainSession → Causes) → Causes
against_number state number causes = of_named (session_numbered state number) (NoSession number) causes

-- what stands against a request
abbrev pub causes_against : State → Request → Causes
causes_against state (requests.OnWiki asked) = against_wiki state.stored asked
causes_against state (requests.OnWord form asked) = against_form state.stored form (against_word state.stored asked)
causes_against state (requests.OnArticle form asked) = against_its_article state.stored form (against_article state asked)
causes_against state (requests.OnSession number asked) = against_number state number (against_session state asked)

-- the refusal tells the first cause that stands against the request; and nothing stands against it
abbrev pub Refuses : State → Request → Refusal → Type 0
Refuses state request refusal = FirstOf (causes_against state request) refusal

abbrev pub IsFree : State → Request → Type 0
IsFree state request = NoneOf (causes_against state request)
