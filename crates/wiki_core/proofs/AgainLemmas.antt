-- A change is made again by the request that tells it.
use Rattle.std.proofs.Common.{◌≡◌, ℕ, ◌<◌, ◌≤◌, Bool, true, false, cond, List, [], ◌∷◌, length, find, ◌⊎◌, inl, inr, Option, Some, None, refl, sym, ap, subst, ◌∙◌, arith}
use Rattle.std.specs.Option.{option_and_then, option_map_or}
use Rattle.std.proofs.lemmas.Option.{none-some, same_Some}
use Rattle.wiki_base.specs.declared.numbers.WordId.{WordId}
use Rattle.wiki_base.specs.declared.numbers.SessionId.{SessionId}
use Rattle.lexicon.specs.declared.words.Word.{Word}
use Rattle.derivation_trees.specs.Cutting.{shown}
use Rattle.derivation_trees.specs.Sentences.{IsSentence}
use Rattle.derivations.proofs.GrowLemmas.{Each}
use Rattle.wiki_talk.specs.declared.statuses.Status.{Status}
use Rattle.wiki_talk.specs.declared.statuses.Status.TheVariants.{Asserted, Retracted}
use Rattle.wiki_talk.specs.declared.refusals.Refusal.{Refusal}
use Rattle.wiki_talk.specs.declared.refusals.Refusal.TheVariants.{NoWord, NoSession}
use Rattle.wiki_talk.specs.declared.replies.Reply.{Reply}
use Rattle.wiki_talk.specs.declared.replies.Reply.TheVariants as replies
use Rattle.wiki_talk.specs.declared.requests.Request.{Request}
use Rattle.wiki_talk.specs.declared.requests.Request.TheVariants as requests
use Rattle.wiki_talk.specs.declared.requests.WikiRequest.{WikiRequest}
use Rattle.wiki_talk.specs.declared.requests.WikiRequest.TheVariants as of_wiki
use Rattle.wiki_talk.specs.declared.requests.WordRequest.{WordRequest}
use Rattle.wiki_talk.specs.declared.requests.WordRequest.TheVariants as of_word
use Rattle.wiki_talk.specs.declared.requests.ArticleRequest.{ArticleRequest}
use Rattle.wiki_talk.specs.declared.requests.ArticleRequest.TheVariants as of_article
use Rattle.wiki_talk.specs.declared.requests.SessionRequest.{SessionRequest}
use Rattle.wiki_talk.specs.declared.requests.SessionRequest.TheVariants as of_session
use Rattle.wiki_talk.specs.declared.limits.Limit.TheVariants as limits
use Rattle.wiki_talk.specs.Limits.{amount_of}
use Rattle.articles.specs.declared.sentences.Sentence.{Sentence}
use Rattle.articles.specs.declared.article.Article.{Article}
use Rattle.articles.specs.Articles.{article_of}
use Rattle.plain_wiki.specs.Sessions.{PlainSession, session_of, has_number}
use Rattle.plain_wiki.specs.State.{Stored, State}
use Rattle.plain_wiki.specs.Words.{full_at}
use Rattle.plain_wiki.specs.Places.{word_with, word_named, article_named, session_numbered}
use Rattle.plain_wiki.specs.Parsing.{tokens_of, IsNoSentence}
use Rattle.plain_wiki.specs.Knowledge.{Spending, GetStatus}
use Rattle.plain_wiki.specs.Causes.{FirstOf, NoneOf, of_named, when, has_no_place, is_past_end, has_no_room, is_at_last_revision, on_its_article, is_stale, is_unfinished}
use Rattle.plain_wiki.specs.Against.{Causes, against_article, against_session, causes_against, IsFree}
use Rattle.plain_wiki.specs.Doing.{with_inserted, with_replaced, with_appended, end_of, place_for, CommitsSession}
use Rattle.plain_wiki.specs.Step.{ChangesStored, ChangesWords, EndsOnArticle, DoesOnWiki, DoesOnWord, DoesOnArticle, DoesOnSession, Does, Step}
use Rattle.wiki_parts.specs.Faults.{IsAbsent}
use Rattle.wiki_parts.proofs.FirstLemmas.{none_stands, nothing_stands}
use Rattle.wiki_core.specs.Journaled.{own_change, changes_by, tells_spent}
use Rattle.wiki_core.proofs.NamedLemmas.{some_and, and_so, some_is, free_named, word_is}
use Rattle.wiki_core.proofs.ReadableLemmas.{canonical_owner}
use Rattle.wiki_core.proofs.ReadyLemmas.{AreReady, shown_again}
use Rattle.wiki_core.proofs.StepLemmas.{IsRefused, IsDone, outcome, does_step}

-- ---- absent causes

pub free_head : (a : Refusal → Type 0) (causes : List (Refusal → Type 0)) → NoneOf (a ∷ causes) → IsAbsent a
free_head a causes free refusal here = free refusal (inl here)

pub free_rest : (a : Refusal → Type 0) (causes : List (Refusal → Type 0)) → NoneOf (a ∷ causes) → NoneOf causes
free_rest a causes free refusal later = free refusal (inr (λ other h. free other (inl h), later))

-- the second or the third of the causes
pub free_second : (a b : Refusal → Type 0) (causes : List (Refusal → Type 0)) → NoneOf (a ∷ b ∷ causes) → IsAbsent b
free_second a b causes free = free_head b causes (free_rest a (b ∷ causes) free)

pub free_third : (a b c : Refusal → Type 0) (causes : List (Refusal → Type 0)) → NoneOf (a ∷ b ∷ c ∷ causes) → IsAbsent c
free_third a b c causes free = free_second b c causes (free_rest a (b ∷ c ∷ causes) free)

-- where nothing stands against a request on what is named, nothing stands against what it is
pub free_of_it : {T : Type 0} (o : Option T) (unknown : Refusal) (causes : T → List (Refusal → Type 0)) (t : T) → o ≡ Some t
    → NoneOf (of_named o unknown causes) → NoneOf (causes t)
free_of_it {T} o unknown causes t named free = subst (λ (p : Option T). NoneOf (of_named p unknown causes)) named free

-- ---- what is stored alone

-- what is stored, as a wiki without sessions
abbrev pub alone : Stored → State
alone stored = record { stored = stored; sessions = []; last = 0 }

module _ (old : State) where
  -- what stands against a change stands against it without sessions
  causes_alone : (change : Request) → own_change change ≡ change ∷ [] → causes_against (alone old.stored) change ≡ causes_against old change
  causes_alone (requests.OnArticle form of_article.Open) is = absurd (cc)
  causes_alone (requests.OnSession number asked) is = absurd (cc)
  causes_alone (requests.OnWiki asked) is = refl
  causes_alone (requests.OnWord form asked) is = refl
  causes_alone (requests.OnArticle form asked) is = refl

module _ (IsSpent : Spending) (old : State) (reply : Reply) (new : State) where
  same_alone : new ≡ old → alone new.stored ≡ alone old.stored
  same_alone same = ap (λ (s : State). alone s.stored) same

  stored_alone : (changes : Stored → Reply → Stored → Type 0) → ChangesStored changes old reply new
      → ChangesStored changes (alone old.stored) reply (alone new.stored)
  stored_alone changes x = record { stored = x.stored; sessions = refl; last = refl }

  words_alone : (changes : Stored → Reply → Stored → Type 0) → ChangesWords changes old reply new
      → ChangesWords changes (alone old.stored) reply (alone new.stored)
  words_alone changes x = record { stored = x.stored; sessions = tt; last = refl }

  end_alone : (word : WordId) (changes : Stored → Reply → Stored → Type 0) → EndsOnArticle word changes old reply new
      → EndsOnArticle word changes (alone old.stored) reply (alone new.stored)
  end_alone word changes x = record { stored = x.stored; rebased = []; rebases = tt; sessions = refl; last = refl }

  wiki_alone : (asked : WikiRequest) → DoesOnWiki asked old reply new → DoesOnWiki asked (alone old.stored) reply (alone new.stored)
  wiki_alone (of_wiki.Word kind texts) x = words_alone _ x
  wiki_alone of_wiki.Words x = (x.0, same_alone x.1)
  wiki_alone (of_wiki.Parse text) x = (x.0, same_alone x.1)
  wiki_alone (of_wiki.Grammar text) x = words_alone _ x

  word_alone : (asked : WordRequest) (word : Word) → DoesOnWord asked word old reply new → DoesOnWord asked word (alone old.stored) reply (alone new.stored)
  word_alone of_word.Find word x = (x.0, same_alone x.1)
  word_alone (of_word.Reword texts) word x = words_alone _ x
  word_alone of_word.Unword word x = end_alone word.id _ x

  article_alone : (asked : ArticleRequest) (form : List ℕ) → own_change (requests.OnArticle form asked) ≡ requests.OnArticle form asked ∷ []
      → (article : Article) → DoesOnArticle IsSpent asked article old reply new
      → DoesOnArticle IsSpent asked article (alone old.stored) reply (alone new.stored)
  article_alone of_article.Read form is article x = (x.0, same_alone x.1)
  article_alone (of_article.Add given text) form is article x = stored_alone _ x
  article_alone (of_article.Edit place text) form is article x = stored_alone _ x
  article_alone (of_article.Remove place) form is article x = stored_alone _ x
  article_alone (of_article.Retract place) form is article x = stored_alone _ x
  article_alone (of_article.Reassert place) form is article x = stored_alone _ x
  article_alone (of_article.Axioms place) form is article x = (x.0, same_alone x.1)
  article_alone of_article.Open form is article x = absurd (cc)

  does_alone : (change : Request) → own_change change ≡ change ∷ [] → Does IsSpent old change reply new
      → Does IsSpent (alone old.stored) change reply (alone new.stored)
  does_alone (requests.OnWiki asked) is x = wiki_alone asked x
  does_alone (requests.OnWord form asked) is x =
      and_so (word_with old.stored form) (λ word. DoesOnWord asked word old reply new)
      (λ word. DoesOnWord asked word (alone old.stored) reply (alone new.stored)) (word_alone asked) x
  does_alone (requests.OnArticle form asked) is x =
      and_so (article_named old.stored form) (λ article. DoesOnArticle IsSpent asked article old reply new)
      (λ article. DoesOnArticle IsSpent asked article (alone old.stored) reply (alone new.stored)) (article_alone asked form is) x
  does_alone (requests.OnSession number asked) is x = absurd (cc)

  -- a step that is a change is one of what is stored alone
  pub step_alone : (change : Request) → own_change change ≡ change ∷ [] → Step IsSpent old change reply new
      → Step IsSpent (alone old.stored) change reply (alone new.stored)
  step_alone change is step = by (outcome IsSpent old change reply new step)
    where
      by : IsRefused old change reply new ⊎ IsDone IsSpent old change reply new → Step IsSpent (alone old.stored) change reply (alone new.stored)
      by (inl refused) =
          subst (λ (r : Reply). Step IsSpent (alone old.stored) change r (alone new.stored)) (sym refused.1) (
            subst (λ (causes : Causes). FirstOf causes refused.0) (sym (causes_alone old change is)) refused.2,
            ap (λ (s : State). alone s.stored) refused.3,
          )
      by (inr done) =
          does_step IsSpent (alone old.stored) change reply (alone new.stored)
          (subst NoneOf (sym (causes_alone old change is)) done.0) (does_alone change is done.1)

-- ---- changes

-- what is replied to the request that makes a change again
abbrev pub reply_again : Reply → Reply
reply_again (replies.Commit article status text) = replies.Add status text
reply_again reply = reply

pub spent_again : (reply : Reply) → tells_spent (reply_again reply) ≡ tells_spent reply
spent_again (replies.Commit article status text) = refl
spent_again reply = refl

-- A step has no change and leaves what is stored, or it has one, which leads to the same, with the same reply, without sessions too.
abbrev pub IsMade : Spending → Stored → Request → Reply → Stored → Type 0
IsMade IsSpent old request reply new =
    ((changes_by request reply ≡ []) × (new ≡ old))
    ⊎ ((change : Request) × (changes_by request reply ≡ change ∷ []) × (own_change change ≡ change ∷ [])
    × Step IsSpent (alone old) change (reply_again reply) (alone new))

-- the sessions have at most 40 tokens
abbrev pub AreShortSessions : List PlainSession → Type 0
AreShortSessions sessions = Each (λ session. length session.tokens ≤ 40) sessions

-- the session is one of them
pub session_short : (sessions : List PlainSession) (number : SessionId) (session : PlainSession) → AreShortSessions sessions
    → session_of sessions number ≡ Some session → length session.tokens ≤ 40
session_short [] number session short found = absurd (none-some session found)
session_short (first ∷ sessions) number session short found =
    by (has_number number first) found (session_short sessions number session short.1)
  where
    by : (b : Bool) → cond b (Some first) (find (has_number number) sessions) ≡ Some session
        → (session_of sessions number ≡ Some session → length session.tokens ≤ 40) → length session.tokens ≤ 40
    by true is rest = subst (λ (s : PlainSession). length s.tokens ≤ 40) (same_Some first session is) short.0
    by false is rest = rest is

-- tokens that get a status are a sentence
pub status_sentence : (IsSpent : Spending) (stored : Stored) (tokens : List (List ℕ)) (status : Status) → GetStatus IsSpent stored tokens status
    → IsSentence stored.grammar stored.words tokens
status_sentence IsSpent stored tokens status gets = (gets.means.is_least.tree, gets.means.is_least.derives)

-- ---- sentences by what shows them

-- tokens as a sentence with a status
abbrev pub sentence_of : List (List ℕ) → Status → Sentence
sentence_of tokens status = record { tokens = tokens; status = status }

-- what shows tokens
abbrev pub showing : Stored → List (List ℕ) → List ℕ
showing stored tokens = shown stored.grammar.terminals tokens

-- what stands against tokens that are too many, or no sentence
abbrev pub has_too_many : List (List ℕ) → Refusal → Type 0
has_too_many tokens = when (amount_of limits.Tokens < length tokens) (full_at limits.Tokens)

abbrev pub is_no_sentence : Stored → List (List ℕ) → Refusal → Type 0
is_no_sentence stored tokens = IsNoSentence stored.grammar stored.words tokens

-- what stands against tokens that are added, and against ones that are put in place of others
abbrev pub add_causes : Stored → Option ℕ → Article → List (List ℕ) → List (Refusal → Type 0)
add_causes stored given article tokens =
    is_past_end article given ∷ has_no_room stored ∷ has_too_many tokens ∷ is_at_last_revision article ∷ is_no_sentence stored tokens ∷ []

abbrev pub edit_causes : Stored → ℕ → Article → List (List ℕ) → List (Refusal → Type 0)
edit_causes stored place article tokens =
    has_no_place article place ∷ has_too_many tokens ∷ is_at_last_revision article ∷ is_no_sentence stored tokens ∷ []

module _ (IsSpent : Spending) (old new : Stored) (ready : AreReady old.grammar old.words) (form : List ℕ) (article : Article)
    (named : article_named old form ≡ Some article) (tokens : List (List ℕ)) (status : Status) where
  answer_is : (answer : List ℕ → Reply) → tokens_of old (showing old tokens) ≡ tokens
      → answer (showing old tokens) ≡ answer (showing old (tokens_of old (showing old tokens)))
  answer_is answer same = ap (λ (ts : List (List ℕ)). answer (showing old ts)) (sym same)

  step_on : (asked : ArticleRequest) (reply : Reply) → NoneOf (against_article (alone old) asked article)
      → DoesOnArticle IsSpent asked article (alone old) reply (alone new) → Step IsSpent (alone old) (requests.OnArticle form asked) reply (alone new)
  step_on asked reply free does =
      does_step IsSpent (alone old) (requests.OnArticle form asked) reply (alone new)
      (free_named (article_named old form) (NoWord form) (against_article (alone old) asked) article named free)
      (some_and (article_named old form) (λ a. DoesOnArticle IsSpent asked a (alone old) reply (alone new)) article named does)

  -- tokens that are added are added by what shows them
  pub added_again : (given : Option ℕ) → NoneOf (add_causes old given article tokens)
      → GetStatus IsSpent (with_inserted old article.word (place_for article given) (sentence_of tokens Asserted)) tokens status
      → new ≡ with_inserted old article.word (place_for article given) (sentence_of tokens status)
      → Step IsSpent (alone old) (requests.OnArticle form (of_article.Add given (showing old tokens))) (replies.Add status (showing old tokens)) (alone new)
  added_again given free gets after =
      let put = λ (ts : List (List ℕ)) (s : Status). with_inserted old article.word (place_for article given) (sentence_of ts s) in
      let same : tokens_of old (showing old tokens) ≡ tokens =
      shown_again old.grammar old.words ready tokens (status_sentence IsSpent (put tokens Asserted) tokens status gets) in
      step_on (of_article.Add given (showing old tokens)) (replies.Add status (showing old tokens))
      (subst (λ (ts : List (List ℕ)). NoneOf (add_causes old given article ts)) (sym same) free) (record {
        stored = record {
          status = status;
          gets = subst (λ (ts : List (List ℕ)). GetStatus IsSpent (put ts Asserted) ts status) (sym same) gets;
          answer = answer_is (replies.Add status) same;
          after = after ∙ ap (λ (ts : List (List ℕ)). put ts status) (sym same);
        };
        sessions = refl;
        last = refl;
      })

  -- so are those that are put in place of others
  pub edited_again : (place : ℕ) → NoneOf (edit_causes old place article tokens)
      → GetStatus IsSpent (with_replaced old article.word place (sentence_of tokens Asserted)) tokens status
      → new ≡ with_replaced old article.word place (sentence_of tokens status)
      → Step IsSpent (alone old) (requests.OnArticle form (of_article.Edit place (showing old tokens))) (replies.Edit status (showing old tokens)) (alone new)
  edited_again place free gets after =
      let put = λ (ts : List (List ℕ)) (s : Status). with_replaced old article.word place (sentence_of ts s) in
      let same : tokens_of old (showing old tokens) ≡ tokens =
      shown_again old.grammar old.words ready tokens (status_sentence IsSpent (put tokens Asserted) tokens status gets) in
      step_on (of_article.Edit place (showing old tokens)) (replies.Edit status (showing old tokens))
      (subst (λ (ts : List (List ℕ)). NoneOf (edit_causes old place article ts)) (sym same) free) (record {
        stored = record {
          status = status;
          gets = subst (λ (ts : List (List ℕ)). GetStatus IsSpent (put ts Asserted) ts status) (sym same) gets;
          answer = answer_is (replies.Edit status) same;
          after = after ∙ ap (λ (ts : List (List ℕ)). put ts status) (sym same);
        };
        sessions = refl;
        last = refl;
      })

-- ---- a session's sentence

none_of_five : (a b c d e : Refusal → Type 0) → IsAbsent a → IsAbsent b → IsAbsent c → IsAbsent d → IsAbsent e → NoneOf (a ∷ b ∷ c ∷ d ∷ e ∷ [])
none_of_five a b c d e no_a no_b no_c no_d no_e =
    none_stands a (b ∷ c ∷ d ∷ e ∷ []) no_a
    (none_stands b (c ∷ d ∷ e ∷ []) no_b
    (none_stands c (d ∷ e ∷ []) no_c (none_stands d (e ∷ []) no_d (none_stands e [] no_e nothing_stands))))

module _ (IsSpent : Spending) (old : State) (number : ℕ) (session : PlainSession) (reply : Reply) (new : State)
    (ready : AreReady old.stored.grammar old.stored.words) (few : length session.tokens ≤ 40)
    (free : NoneOf (against_session old of_session.Commit session)) (x : CommitsSession IsSpent session old reply new) where
  form_named : word_named old.stored x.form ≡ Some session.article
  form_named = canonical_owner old.stored.words.terminals old.stored.words.live ready.readable session.article x.form x.spelled

  article_is : article_named old.stored x.form ≡ Some x.article
  article_is = ap (option_and_then (article_of old.stored.articles)) form_named ∙ x.on

  end_is : end_of old.stored.articles session.article ≡ length x.article.sentences
  end_is = ap (λ (o : Option Article). option_map_or (λ (a : Article). length a.sentences) o 0) x.on

  appended_is : (status : Status) → with_appended old.stored session.article session.tokens status
      ≡ with_inserted old.stored x.article.word (place_for x.article None) (sentence_of session.tokens status)
  appended_is status =
      ap (λ (place : ℕ). with_inserted old.stored session.article place (sentence_of session.tokens status)) end_is
      ∙ ap (λ (word : WordId). with_inserted old.stored word (length x.article.sentences) (sentence_of session.tokens status))
      (sym (word_is old.stored.articles session.article x.article x.on))

  free_add : NoneOf (add_causes old.stored None x.article session.tokens)
  free_add = none_of_five (is_past_end x.article None) (has_no_room old.stored) (has_too_many session.tokens) (is_at_last_revision x.article)
      (is_no_sentence old.stored session.tokens) (λ refusal h. h.0) room many last derived
    where
      room : IsAbsent (has_no_room old.stored)
      room = free_head (has_no_room old.stored)
          (on_its_article old.stored session is_at_last_revision ∷ on_its_article old.stored session (is_stale session)
          ∷ is_unfinished old.stored session ∷ []) free

      many : IsAbsent (has_too_many session.tokens)
      many refusal h = let over = h.0 in omega (arith, few, over)

      last : IsAbsent (is_at_last_revision x.article)
      last refusal h =
          free_second (has_no_room old.stored) (on_its_article old.stored session is_at_last_revision)
          (on_its_article old.stored session (is_stale session) ∷ is_unfinished old.stored session ∷ []) free refusal (x.article, x.on, h)

      derived : IsAbsent (is_no_sentence old.stored session.tokens)
      derived refusal h =
          h.none (status_sentence IsSpent (with_appended old.stored session.article session.tokens Asserted) session.tokens x.status x.gets)

  commit_made : IsMade IsSpent old.stored (requests.OnSession number of_session.Commit) reply new.stored
  commit_made =
      let change = requests.OnArticle x.form (of_article.Add None (showing old.stored session.tokens)) in
      inr (
        change,
        ap (changes_by (requests.OnSession number of_session.Commit)) x.answer,
        refl,
        subst (λ (r : Reply). Step IsSpent (alone old.stored) change r (alone new.stored)) (sym (ap reply_again x.answer))
            (added_again IsSpent old.stored new.stored ready x.form x.article article_is session.tokens x.status None free_add
            (subst (λ (p : Stored). GetStatus IsSpent p session.tokens x.status) (appended_is Asserted) x.gets)
            (ap (λ (s : State). s.stored) x.after ∙ appended_is x.status)),
      )

-- ---- one step

module _ (IsSpent : Spending) (old : State) (reply : Reply) (new : State) (ready : AreReady old.stored.grammar old.stored.words) where
  -- a request that changes nothing that is stored
  nothing_made : (request : Request) (fixed : Reply) → reply ≡ fixed → changes_by request fixed ≡ [] → new.stored ≡ old.stored
      → IsMade IsSpent old.stored request reply new.stored
  nothing_made request fixed is none same = inl (ap (changes_by request) is ∙ none, same)

  told_made : (request : Request) (fixed : Reply) → reply ≡ fixed → changes_by request fixed ≡ [] → new ≡ old
      → IsMade IsSpent old.stored request reply new.stored
  told_made request fixed is none same = nothing_made request fixed is none (ap (λ (s : State). s.stored) same)

  -- a request that is a change as it stands
  own_made : (request : Request) (fixed : Reply) → reply ≡ fixed → changes_by request fixed ≡ request ∷ [] → own_change request ≡ request ∷ []
      → reply_again fixed ≡ fixed → Step IsSpent old request reply new → IsMade IsSpent old.stored request reply new.stored
  own_made request fixed is itself own again step =
      inr (
        request,
        ap (changes_by request) is ∙ itself,
        own,
        subst (λ (r : Reply). Step IsSpent (alone old.stored) request r (alone new.stored)) (is ∙ sym again ∙ sym (ap reply_again is))
            (step_alone IsSpent old reply new request own step),
      )

  wiki_made : (asked : WikiRequest) → DoesOnWiki asked old reply new → Step IsSpent old (requests.OnWiki asked) reply new
      → IsMade IsSpent old.stored (requests.OnWiki asked) reply new.stored
  wiki_made (of_wiki.Word kind texts) x step = own_made (requests.OnWiki (of_wiki.Word kind texts)) replies.Word x.stored.answer refl refl refl step
  wiki_made of_wiki.Words x step = told_made (requests.OnWiki of_wiki.Words) _ x.0 refl x.1
  wiki_made (of_wiki.Parse text) x step = told_made (requests.OnWiki (of_wiki.Parse text)) _ x.0.answer refl x.1
  wiki_made (of_wiki.Grammar text) x step = own_made (requests.OnWiki (of_wiki.Grammar text)) replies.Grammar x.stored.answer refl refl refl step

  word_made : (form : List ℕ) (asked : WordRequest) (word : Word) → DoesOnWord asked word old reply new
      → Step IsSpent old (requests.OnWord form asked) reply new → IsMade IsSpent old.stored (requests.OnWord form asked) reply new.stored
  word_made form of_word.Find word x step = told_made (requests.OnWord form of_word.Find) _ x.0 refl x.1
  word_made form (of_word.Reword texts) word x step =
      own_made (requests.OnWord form (of_word.Reword texts)) replies.Reword x.stored.answer refl refl refl step
  word_made form of_word.Unword word x step = own_made (requests.OnWord form of_word.Unword) replies.Unword x.stored.answer refl refl refl step

  article_made : (form : List ℕ) (asked : ArticleRequest) (article : Article) → article_named old.stored form ≡ Some article
      → NoneOf (against_article old asked article) → DoesOnArticle IsSpent asked article old reply new
      → Step IsSpent old (requests.OnArticle form asked) reply new → IsMade IsSpent old.stored (requests.OnArticle form asked) reply new.stored
  article_made form of_article.Read article named free x step = told_made (requests.OnArticle form of_article.Read) _ x.0.answer refl x.1
  article_made form (of_article.Add given text) article named free x step =
      let change = requests.OnArticle form (of_article.Add given (showing old.stored (tokens_of old.stored text))) in
      inr (
        change,
        ap (changes_by (requests.OnArticle form (of_article.Add given text))) x.stored.answer,
        refl,
        subst (λ (r : Reply). Step IsSpent (alone old.stored) change r (alone new.stored)) (sym (ap reply_again x.stored.answer))
            (added_again IsSpent old.stored new.stored ready form article named (tokens_of old.stored text) x.stored.status given free x.stored.gets
            x.stored.after),
      )
  article_made form (of_article.Edit place text) article named free x step =
      let change = requests.OnArticle form (of_article.Edit place (showing old.stored (tokens_of old.stored text))) in
      inr (
        change,
        ap (changes_by (requests.OnArticle form (of_article.Edit place text))) x.stored.answer,
        refl,
        subst (λ (r : Reply). Step IsSpent (alone old.stored) change r (alone new.stored)) (sym (ap reply_again x.stored.answer))
            (edited_again IsSpent old.stored new.stored ready form article named (tokens_of old.stored text) x.stored.status place free x.stored.gets
            x.stored.after),
      )
  article_made form (of_article.Remove place) article named free x step =
      own_made (requests.OnArticle form (of_article.Remove place)) replies.Remove x.stored.answer refl refl refl step
  article_made form (of_article.Retract place) article named free x step =
      own_made (requests.OnArticle form (of_article.Retract place)) (replies.Retract Retracted) x.stored.answer refl refl refl step
  article_made form (of_article.Reassert place) article named free x step =
      own_made (requests.OnArticle form (of_article.Reassert place)) (replies.Reassert x.stored.status) x.stored.answer refl refl refl step
  article_made form (of_article.Axioms place) article named free x step =
      told_made (requests.OnArticle form (of_article.Axioms place)) _ x.0.answer refl x.1
  article_made form of_article.Open article named free x step =
      nothing_made (requests.OnArticle form of_article.Open) _ x.answer refl (ap (λ (s : State). s.stored) x.after)

  session_made : (number : ℕ) (asked : SessionRequest) (session : PlainSession) → length session.tokens ≤ 40
      → NoneOf (against_session old asked session) → DoesOnSession IsSpent asked session old reply new
      → IsMade IsSpent old.stored (requests.OnSession number asked) reply new.stored
  session_made number (of_session.Type text) session few free x =
      nothing_made (requests.OnSession number (of_session.Type text)) _ x.answer refl (ap (λ (s : State). s.stored) x.after)
  session_made number of_session.Back session few free x =
      nothing_made (requests.OnSession number of_session.Back) _ x.answer refl (ap (λ (s : State). s.stored) x.after)
  session_made number of_session.Menu session few free x = told_made (requests.OnSession number of_session.Menu) _ x.0.answer refl x.1
  session_made number of_session.Commit session few free x = commit_made IsSpent old number session reply new ready few free x
  session_made number of_session.Refresh session few free x =
      nothing_made (requests.OnSession number of_session.Refresh) _ x.answer refl (ap (λ (s : State). s.stored) x.after)
  session_made number of_session.Drop session few free x =
      nothing_made (requests.OnSession number of_session.Drop) _ x.answer refl (ap (λ (s : State). s.stored) x.after)

  does_made : (request : Request) → AreShortSessions old.sessions → IsFree old request → Does IsSpent old request reply new
      → Step IsSpent old request reply new → IsMade IsSpent old.stored request reply new.stored
  does_made (requests.OnWiki asked) short free x step = wiki_made asked x step
  does_made (requests.OnWord form asked) short free x step =
      let found = some_is (word_with old.stored form) (λ word. DoesOnWord asked word old reply new) x in word_made form asked found.it found.is step
  does_made (requests.OnArticle form asked) short free x step =
      let found = some_is (article_named old.stored form) (λ article. DoesOnArticle IsSpent asked article old reply new) x in
      article_made form asked found.it found.named
      (free_of_it (article_named old.stored form) (NoWord form) (against_article old asked) found.it found.named free) found.is step
  does_made (requests.OnSession number asked) short free x step =
      let found = some_is (session_numbered old number) (λ session. DoesOnSession IsSpent asked session old reply new) x in
      session_made number asked found.it (session_short old.sessions _ found.it short found.named)
      (free_of_it (session_numbered old number) (NoSession number) (against_session old asked) found.it found.named free) found.is

  -- A step that is no change leaves what is stored. A change is made again by the request that tells it, from what is stored to the same,
  -- with the same status and the same text.
  pub step_made : (request : Request) → AreShortSessions old.sessions → Step IsSpent old request reply new
      → IsMade IsSpent old.stored request reply new.stored
  step_made request short step = by (outcome IsSpent old request reply new step)
    where
      by : IsRefused old request reply new ⊎ IsDone IsSpent old request reply new → IsMade IsSpent old.stored request reply new.stored
      by (inl refused) = inl (ap (changes_by request) refused.1, ap (λ (s : State). s.stored) refused.3)
      by (inr done) = does_made request short done.0 done.1 step
