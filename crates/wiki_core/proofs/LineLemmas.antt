-- Changes fit short lines, however long the texts were that were sent.
use Rattle.std.proofs.Common.{◌≡◌, ℕ, ◌+◌, ◌<◌, ◌≤◌, ◌==◌, Bool, true, false, cond, List, [], ◌∷◌, length, ◌⊎◌, inl, inr, Option, Some, None, is_some, option_map, All, refl, sym, ap, subst, ◌∙◌, arith}
use Rattle.std.specs.Prelude.{if◌then◌else◌}
use Rattle.std.specs.Option.{option_or}
use Rattle.std.specs.List.{position_from}
use Rattle.std.specs.Str.{IsUtf8}
use Rattle.std.proofs.lemmas.Bool.{eqb-true, cases_lt}
use Rattle.std.proofs.lemmas.List.Elements.{All-nil, All-cons, All-head, All-tail, All-append}
use Rattle.std.proofs.lemmas.Option.{none-some}
use Rattle.wiki_base.specs.declared.text.BadText.{BadText}
use Rattle.wiki_base.specs.Text.{fault_of}
use Rattle.wiki_base.proofs.OptionLaws.{option_map-none, option_or-none}
use Rattle.codeco_terms.specs.GrammarParts.{GrammarParts}
use Rattle.codeco_checked.specs.Sound.{IsSound}
use Rattle.lexicon.specs.declared.kinds.Kind.{Kind}
use Rattle.lexicon.specs.declared.kinds.Kind.TheVariants.{Noun, Verb}
use Rattle.lexicon.specs.declared.suggest.FormFault.TheVariants as form_faults
use Rattle.lexicon.specs.declared.words.Word.{Word}
use Rattle.lexicon.specs.Kinds.{form_count}
use Rattle.lexicon.specs.Suggest.{form_fault, told}
use Rattle.lexicon.specs.Words.{Listed, add_refusal, reword_refusal, owner}
use Rattle.lexicon.proofs.Reading.{form_count_le}
use Rattle.derivation_trees.specs.Cutting.{shown}
use Rattle.derivation_trees.specs.Sentences.{IsSentence}
use Rattle.derivations.proofs.GrowLemmas.{Each}
use Rattle.wiki_talk.specs.declared.refusals.Refusal.{Refusal}
use Rattle.wiki_talk.specs.declared.refusals.Refusal.TheVariants.{BadForm, NoWord}
use Rattle.wiki_talk.specs.declared.statuses.Status.TheVariants.{Asserted, Retracted}
use Rattle.wiki_talk.specs.declared.replies.Reply.{Reply}
use Rattle.wiki_talk.specs.declared.replies.Reply.TheVariants as replies
use Rattle.wiki_talk.specs.declared.requests.Request.{Request}
use Rattle.wiki_talk.specs.declared.requests.Request.TheVariants as requests
use Rattle.wiki_talk.specs.declared.requests.WikiRequest.{WikiRequest}
use Rattle.wiki_talk.specs.declared.requests.WikiRequest.TheVariants as of_wiki
use Rattle.wiki_talk.specs.declared.requests.WordRequest.{WordRequest}
use Rattle.wiki_talk.specs.declared.requests.WordRequest.TheVariants as of_word
use Rattle.wiki_talk.specs.declared.requests.ArticleRequest.{ArticleRequest}
use Rattle.wiki_talk.specs.declared.requests.ArticleRequest.TheVariants as of_article
use Rattle.wiki_talk.specs.declared.requests.SessionRequest.{SessionRequest}
use Rattle.wiki_talk.specs.declared.requests.SessionRequest.TheVariants as of_session
use Rattle.wiki_talk.specs.declared.limits.Limit.TheVariants as limits
use Rattle.wiki_talk.specs.Turns.{Exchange, answered, no_request, Turns}
use Rattle.articles.specs.declared.article.Article.{Article}
use Rattle.plain_wiki.specs.Sessions.{PlainSession}
use Rattle.plain_wiki.specs.State.{Stored, State, first_state}
use Rattle.plain_wiki.specs.Words.{bad_text, bad_count, number_of, full_at, lexicon_refusal, forms_given, word_refusal}
use Rattle.plain_wiki.specs.Places.{word_with, article_named, session_numbered}
use Rattle.plain_wiki.specs.Parsing.{tokens_of}
use Rattle.plain_wiki.specs.Knowledge.{Spending}
use Rattle.plain_wiki.specs.Causes.{NoneOf, has_no_place, is_past_end, has_no_room, is_at_last_revision}
use Rattle.plain_wiki.specs.Against.{against_wiki, against_word, against_article, IsFree}
use Rattle.plain_wiki.specs.Doing.{with_inserted, with_replaced, with_appended, place_for}
use Rattle.plain_wiki.specs.Step.{DoesOnWiki, DoesOnWord, DoesOnArticle, DoesOnSession, Does, Step}
use Rattle.wiki_parts.specs.Faults.{IsAbsent}
use Rattle.wiki_parts.specs.Spending.{IsCutOff}
use Rattle.wiki_core.specs.Journaled.{changes_by, changes_of, asked_of, GivesUtf8, GivesUnraised, NoneIsRaised, AreUtf8, HasShortPlace, IsPlainForm, ArePlainForms, IsPlainSentence, HasPlainTexts, FitsLine, ChangesFitLines}
use Rattle.wiki_core.proofs.NamedLemmas.{some_is, named_word}
use Rattle.wiki_core.proofs.StepLemmas.{IsRefused, IsDone, outcome}
use Rattle.wiki_core.proofs.FormLemmas.{short_text}
use Rattle.wiki_core.proofs.GrammarLemmas.{stays_utf8}
use Rattle.wiki_core.proofs.ReadableLemmas.{canonical_owner}
use Rattle.wiki_core.proofs.ReadyLemmas.{AreReady, form_there, shown_short, shown_utf8}
use Rattle.wiki_core.proofs.AgainLemmas.{session_short, status_sentence, showing, sentence_of, has_too_many, is_no_sentence, free_second, free_third, free_of_it}
use Rattle.wiki_core.proofs.StandsLemmas.{IsReady, stays_ready, first_ready, none_told, rewordable}

-- ---- forms that are given

plain_each : (i : ℕ) (texts : List (List ℕ)) → position_from (λ text. is_some (fault_of text)) i texts ≡ None → All IsUtf8 texts → All IsPlainForm texts
plain_each i [] none utf8 = All-nil IsPlainForm
plain_each i (text ∷ texts) none utf8 = by (fault_of text) refl none (λ later. plain_each (i + 1) texts later (All-tail IsUtf8 text texts utf8))
  where
    by : (o : Option BadText) → fault_of text ≡ o
        → cond (is_some o) (Some i) (position_from (λ t. is_some (fault_of t)) (i + 1) texts) ≡ None
        → (position_from (λ t. is_some (fault_of t)) (i + 1) texts ≡ None → All IsPlainForm texts) → All IsPlainForm (text ∷ texts)
    by None is none rest = All-cons IsPlainForm text texts (All-head IsUtf8 text texts utf8, short_text text is) (rest none)
    by (Some fault) is none rest = absurd (none-some i (sym none))

counted : (kind : Kind) (texts : List (List ℕ)) → (if length texts == form_count kind then None else Some (form_faults.Count (told (length texts)))) ≡ None
    → length texts ≤ 3
counted kind texts none = by (length texts == form_count kind) refl none
  where
    by : (b : Bool) → (length texts == form_count kind) ≡ b → cond b None (Some (form_faults.Count (told (length texts)))) ≡ None → length texts ≤ 3
    by true is none = let same = eqb-true (length texts) (form_count kind) is in let few = form_count_le kind in omega (arith, same, few)
    by false is none = absurd (none-some (form_faults.Count (told (length texts))) (sym none))

few_forms : (kind : Kind) (texts : List (List ℕ)) → form_fault kind texts ≡ None → length texts ≤ 3
few_forms Noun (text ∷ []) none = omega arith
few_forms Verb (text ∷ []) none = omega arith
few_forms kind texts none = counted kind texts none

given_plain : (kind : Kind) (texts : List (List ℕ)) (rest : Option Refusal) → option_or (bad_text texts) (option_or (bad_count kind texts) rest) ≡ None
    → All IsUtf8 texts → ArePlainForms texts
given_plain kind texts rest none utf8 =
    let outer = option_or-none (bad_text texts) (option_or (bad_count kind texts) rest) none in
    let inner = option_or-none (bad_count kind texts) rest outer.1 in (
      plain_each 0 texts (option_map-none (λ place. BadForm (told place)) (position_from (λ text. is_some (fault_of text)) 0 texts) outer.0) utf8,
      few_forms kind texts (option_map-none (λ fault. BadForm (number_of fault)) (form_fault kind texts) inner.0),
    )

word_given : (words : Listed) (kind : Kind) (texts : List (List ℕ)) → word_refusal words kind texts ≡ None → All IsUtf8 texts → ArePlainForms texts
unfolding word_refusal
word_given words kind texts none utf8 = given_plain kind texts (lexicon_refusal words (add_refusal words (forms_given kind texts))) none utf8

-- ---- one step

-- a form of a live word
form_plain : (old : Stored) (form : List ℕ) (word : Word) → AreReady old.grammar old.words → word_with old form ≡ Some word → IsPlainForm form
form_plain old form word ready named =
    let is = form_there old.grammar old.words ready form word.id (ap (option_map (λ (w : Word). w.id)) named) in (is.utf8, is.short)

article_plain : (old : Stored) (form : List ℕ) (article : Article) → AreReady old.grammar old.words → article_named old form ≡ Some article → IsPlainForm form
article_plain old form article ready named = let word = named_word old form article named in form_plain old form word.it ready word.named

few_tokens : (tokens : List (List ℕ)) → IsAbsent (has_too_many tokens) → length tokens ≤ 40
few_tokens tokens free = by (cases_lt 40 (length tokens))
  where
    by : (40 < length tokens) ⊎ (length tokens ≤ 40) → length tokens ≤ 40
    by (inl many) = absurd (free (full_at limits.Tokens) (many, refl))
    by (inr few) = few

sentence_plain : (old : Stored) → AreReady old.grammar old.words → AreUtf8 old.grammar.terminals → (tokens : List (List ℕ)) → length tokens ≤ 40
    → IsSentence old.grammar old.words tokens → IsPlainSentence (shown old.grammar.terminals tokens)
sentence_plain old ready terminals tokens few sentence =
    let long = shown_short old.grammar old.words ready tokens sentence in
    (shown_utf8 old.grammar old.words ready terminals tokens sentence, omega (arith, long, few))

-- the place doesn't hang on the text
same_place : (article : List ℕ) (given : Option ℕ) (text other : List ℕ) → HasShortPlace (requests.OnArticle article (of_article.Add given text))
    → HasShortPlace (requests.OnArticle article (of_article.Add given other))
same_place article None text other place = tt
same_place article (Some at) text other place = place

module _ (IsSpent : Spending) (old : State) (ready : IsReady old) (terminals : AreUtf8 old.stored.grammar.terminals) (reply : Reply) (new : State) where
  -- what is told of a step that has no change
  no_change : (request : Request) (fixed : Reply) → reply ≡ fixed → changes_by request fixed ≡ [] → Each FitsLine (changes_by request reply)
  no_change request fixed is none = subst (Each FitsLine) (sym (ap (changes_by request) is ∙ none)) tt

  -- and of one that has one
  one_change : (request change : Request) (fixed : Reply) → reply ≡ fixed → changes_by request fixed ≡ change ∷ [] → HasPlainTexts change
      → HasShortPlace change → Each FitsLine (changes_by request reply)
  one_change request change fixed is one texts place =
      subst (Each FitsLine) (sym (ap (changes_by request) is ∙ one)) ((texts, place), tt)

  wiki_fits : (asked : WikiRequest) → GivesUtf8 (requests.OnWiki asked) → NoneOf (against_wiki old.stored asked) → DoesOnWiki asked old reply new
      → Each FitsLine (changes_by (requests.OnWiki asked) reply)
  wiki_fits (of_wiki.Word kind texts) utf8 free x =
      let asked = requests.OnWiki (of_wiki.Word kind texts) in
      one_change asked asked replies.Word x.stored.answer refl
      (word_given old.stored.words kind texts (none_told (word_refusal old.stored.words kind texts) (λ refusal told. free refusal (inl told))) utf8) tt
  wiki_fits of_wiki.Words utf8 free x = no_change (requests.OnWiki of_wiki.Words) _ x.0 refl
  wiki_fits (of_wiki.Parse text) utf8 free x = no_change (requests.OnWiki (of_wiki.Parse text)) _ x.0.answer refl
  wiki_fits (of_wiki.Grammar text) utf8 free x =
      let asked = requests.OnWiki (of_wiki.Grammar text) in one_change asked asked replies.Grammar x.stored.answer refl utf8 tt

  word_fits : (form : List ℕ) (asked : WordRequest) (word : Word) → word_with old.stored form ≡ Some word → GivesUtf8 (requests.OnWord form asked)
      → NoneOf (against_word old.stored asked word) → DoesOnWord asked word old reply new → Each FitsLine (changes_by (requests.OnWord form asked) reply)
  word_fits form of_word.Find word named utf8 free x = no_change (requests.OnWord form of_word.Find) _ x.0 refl
  word_fits form (of_word.Reword texts) word named utf8 free x =
      let asked = requests.OnWord form (of_word.Reword texts) in
      one_change asked asked replies.Reword x.stored.answer refl (
        form_plain old.stored form word ready.stored named,
        given_plain word.forms.kind texts (lexicon_refusal old.stored.words (reword_refusal old.stored.words word.id (forms_given word.forms.kind texts)))
            (rewordable old.stored word texts free) utf8,
      ) tt
  word_fits form of_word.Unword word named utf8 free x =
      let asked = requests.OnWord form of_word.Unword in
      one_change asked asked replies.Unword x.stored.answer refl (form_plain old.stored form word ready.stored named) tt

  article_fits : (form : List ℕ) (asked : ArticleRequest) (article : Article) → IsPlainForm form → HasShortPlace (requests.OnArticle form asked)
      → NoneOf (against_article old asked article) → DoesOnArticle IsSpent asked article old reply new
      → Each FitsLine (changes_by (requests.OnArticle form asked) reply)
  article_fits form of_article.Read article plain place free x = no_change (requests.OnArticle form of_article.Read) _ x.0.answer refl
  article_fits form (of_article.Add given text) article plain place free x =
      let tokens = tokens_of old.stored text in
      one_change (requests.OnArticle form (of_article.Add given text)) (requests.OnArticle form (of_article.Add given (showing old.stored tokens)))
      (replies.Add x.stored.status (showing old.stored tokens)) x.stored.answer refl (
        plain,
        sentence_plain old.stored ready.stored terminals tokens
            (few_tokens tokens (free_third (is_past_end article given) (has_no_room old.stored) (has_too_many tokens)
            (is_at_last_revision article ∷ is_no_sentence old.stored tokens ∷ []) free))
            (status_sentence IsSpent (with_inserted old.stored article.word (place_for article given) (sentence_of tokens Asserted)) tokens x.stored.status
            x.stored.gets),
      ) (same_place form given text (showing old.stored tokens) place)
  article_fits form (of_article.Edit at text) article plain place free x =
      let tokens = tokens_of old.stored text in
      one_change (requests.OnArticle form (of_article.Edit at text)) (requests.OnArticle form (of_article.Edit at (showing old.stored tokens)))
      (replies.Edit x.stored.status (showing old.stored tokens)) x.stored.answer refl (
        plain,
        sentence_plain old.stored ready.stored terminals tokens
            (few_tokens tokens (free_second (has_no_place article at) (has_too_many tokens)
            (is_at_last_revision article ∷ is_no_sentence old.stored tokens ∷ []) free))
            (status_sentence IsSpent (with_replaced old.stored article.word at (sentence_of tokens Asserted)) tokens x.stored.status x.stored.gets),
      ) place
  article_fits form (of_article.Remove at) article plain place free x =
      let asked = requests.OnArticle form (of_article.Remove at) in one_change asked asked replies.Remove x.stored.answer refl plain place
  article_fits form (of_article.Retract at) article plain place free x =
      let asked = requests.OnArticle form (of_article.Retract at) in one_change asked asked (replies.Retract Retracted) x.stored.answer refl plain place
  article_fits form (of_article.Reassert at) article plain place free x =
      let asked = requests.OnArticle form (of_article.Reassert at) in
      one_change asked asked (replies.Reassert x.stored.status) x.stored.answer refl plain place
  article_fits form (of_article.Axioms at) article plain place free x = no_change (requests.OnArticle form (of_article.Axioms at)) _ x.0.answer refl
  article_fits form of_article.Open article plain place free x = no_change (requests.OnArticle form of_article.Open) _ x.answer refl

  session_fits : (number : ℕ) (asked : SessionRequest) (session : PlainSession) → length session.tokens ≤ 40 → DoesOnSession IsSpent asked session old reply new
      → Each FitsLine (changes_by (requests.OnSession number asked) reply)
  session_fits number (of_session.Type text) session few x = no_change (requests.OnSession number (of_session.Type text)) _ x.answer refl
  session_fits number of_session.Back session few x = no_change (requests.OnSession number of_session.Back) _ x.answer refl
  session_fits number of_session.Menu session few x = no_change (requests.OnSession number of_session.Menu) _ x.0.answer refl
  session_fits number of_session.Commit session few x =
      one_change (requests.OnSession number of_session.Commit) (requests.OnArticle x.form (of_article.Add None (showing old.stored session.tokens)))
      (replies.Commit x.form x.status (showing old.stored session.tokens)) x.answer refl (
        owner_plain (canonical_owner old.stored.words.terminals old.stored.words.live ready.stored.readable session.article x.form x.spelled),
        sentence_plain old.stored ready.stored terminals session.tokens few
            (status_sentence IsSpent (with_appended old.stored session.article session.tokens Asserted) session.tokens x.status x.gets),
      ) tt
    where
      owner_plain : owner old.stored.words.live x.form ≡ Some session.article → IsPlainForm x.form
      owner_plain owned =
          let is = form_there old.stored.grammar old.stored.words ready.stored x.form session.article owned in (is.utf8, is.short)
  session_fits number of_session.Refresh session few x = no_change (requests.OnSession number of_session.Refresh) _ x.answer refl
  session_fits number of_session.Drop session few x = no_change (requests.OnSession number of_session.Drop) _ x.answer refl

  does_fit : (request : Request) → GivesUtf8 request → HasShortPlace request → IsFree old request → Does IsSpent old request reply new
      → Each FitsLine (changes_by request reply)
  does_fit (requests.OnWiki asked) utf8 place free x = wiki_fits asked utf8 free x
  does_fit (requests.OnWord form asked) utf8 place free x =
      let found = some_is (word_with old.stored form) (λ word. DoesOnWord asked word old reply new) x in
      word_fits form asked found.it found.named utf8
      (free_of_it (word_with old.stored form) (NoWord form) (against_word old.stored asked) found.it found.named free) found.is
  does_fit (requests.OnArticle form asked) utf8 place free x =
      let found = some_is (article_named old.stored form) (λ article. DoesOnArticle IsSpent asked article old reply new) x in
      article_fits form asked found.it (article_plain old.stored form found.it ready.stored found.named) place
      (free_of_it (article_named old.stored form) (NoWord form) (against_article old asked) found.it found.named free) found.is
  does_fit (requests.OnSession number asked) utf8 place free x =
      let found = some_is (session_numbered old number) (λ session. DoesOnSession IsSpent asked session old reply new) x in
      session_fits number asked found.it (session_short old.sessions _ found.it ready.short found.named) found.is

  -- the change of a step fits a line
  pub step_fits : (request : Request) → GivesUtf8 request → HasShortPlace request → Step IsSpent old request reply new
      → Each FitsLine (changes_by request reply)
  step_fits request utf8 place step = by (outcome IsSpent old request reply new step)
    where
      by : IsRefused old request reply new ⊎ IsDone IsSpent old request reply new → Each FitsLine (changes_by request reply)
      by (inl refused) = no_change request (replies.Refused refused.0) refused.1 refl
      by (inr done) = does_fit request utf8 place done.0 done.1

-- ---- runs

pub all_from_each : (requests : List Request) → Each FitsLine requests → All FitsLine requests
all_from_each [] each = All-nil FitsLine
all_from_each (request ∷ requests) each = All-cons FitsLine request requests each.0 (all_from_each requests each.1)

run_fits : (IsSpent : Spending) (exchanges : List (Exchange Request Reply)) (first last : State) → IsReady first → AreUtf8 first.stored.grammar.terminals
    → Turns (Step IsSpent) first exchanges last → All GivesUtf8 (asked_of exchanges) → All GivesUnraised (asked_of exchanges)
    → All HasShortPlace (asked_of exchanges) → All FitsLine (changes_of exchanges)
run_fits IsSpent [] first last ready terminals turns utf8 unraised places = All-nil FitsLine
run_fits IsSpent (no_request ∷ exchanges) first last ready terminals (next, is, turns) utf8 unraised places =
    run_fits IsSpent exchanges next last (subst IsReady (sym is) ready) (subst (λ (s : State). AreUtf8 s.stored.grammar.terminals) (sym is) terminals) turns
    utf8 unraised places
run_fits IsSpent (answered request reply ∷ exchanges) first last ready terminals (next, step, turns) utf8 unraised places =
    let own_utf8 = All-head GivesUtf8 request (asked_of exchanges) utf8 in
    let own_place = All-head HasShortPlace request (asked_of exchanges) places in
    All-append FitsLine (changes_by request reply) (changes_of exchanges)
    (all_from_each (changes_by request reply) (step_fits IsSpent first ready terminals reply next request own_utf8 own_place step))
    (run_fits IsSpent exchanges next last
    (stays_ready IsSpent first reply next ready request own_utf8 (All-head GivesUnraised request (asked_of exchanges) unraised) step)
    (stays_utf8 IsSpent first reply next request own_utf8 terminals step) turns
    (All-tail GivesUtf8 request (asked_of exchanges) utf8) (All-tail GivesUnraised request (asked_of exchanges) unraised)
    (All-tail HasShortPlace request (asked_of exchanges) places))

-- Each change of a run fits a short line, however long the text was that was sent.
pub changes_fit : (g : GrammarParts) → IsSound g → NoneIsRaised g.terminals → AreUtf8 g.terminals → ChangesFitLines g
changes_fit g sound apart utf8 budget exchanges last turns given unraised places =
    run_fits (IsCutOff budget) exchanges (first_state g) last (first_ready g sound apart) utf8 turns given unraised places
