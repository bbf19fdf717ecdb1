-- What a session sees is a function of what it hears, over whole runs.
use Rattle.std.proofs.Common.{◌≡◌, ℕ, ◌+◌, ◌-◌, ◌≤◌, ◌==◌, ◌⊎◌, Bool, true, false, cond, List, [], ◌∷◌, ◌++◌, Option, Some, None, option_map, refl, sym, ap, subst, ◌∙◌, arith, inl, inr}
use Rattle.std.specs.List.{flat_map}
use Rattle.std.specs.Option.{option_map_or}
use Rattle.std.proofs.lemmas.Bool.{false≢true, eqb-true, ne_eqb}
use Rattle.std.proofs.lemmas.Option.{none-some, same_Some}
use Rattle.codeco_terms.specs.GrammarParts.{GrammarParts}
use Rattle.lexicon.specs.Words.{Listed}
use Rattle.plain_wiki.specs.Sessions.{PlainSession}
use Rattle.wiki_talk.specs.declared.replies.Reply.{Reply}
use Rattle.wiki_talk.specs.declared.replies.Reply.TheVariants as replies
use Rattle.wiki_talk.specs.declared.requests.Request.{Request}
use Rattle.wiki_talk.specs.declared.requests.Request.TheVariants as requests
use Rattle.wiki_talk.specs.declared.requests.WikiRequest.TheVariants as of_wiki
use Rattle.wiki_talk.specs.declared.requests.WordRequest.TheVariants as of_word
use Rattle.wiki_talk.specs.declared.requests.ArticleRequest.TheVariants as of_article
use Rattle.wiki_talk.specs.declared.requests.SessionRequest.{SessionRequest}
use Rattle.wiki_talk.specs.declared.requests.SessionRequest.TheVariants as of_session
use Rattle.wiki_talk.specs.Turns.{Exchange, answered, no_request, Turns}
use Rattle.plain_wiki.specs.State.{State, first_state}
use Rattle.plain_wiki.specs.Places.{article_named, session_numbered}
use Rattle.plain_wiki.specs.Step.{Does, DoesOnSession, Step}
use Rattle.plain_wiki.specs.Doing.{OpensSession}
use Rattle.plain_wiki.specs.Knowledge.{Spending}
use Rattle.wiki_parts.specs.Spending.{IsCutOff}
use Rattle.wiki_core.proofs.NamedLemmas.{SomeIs, some_is}
use Rattle.wiki_core.proofs.StepLemmas.{IsRefused, IsDone, outcome}
use Rattle.wiki_core.specs.Apart as apart
use Rattle.wiki_core.proofs.SeenLemmas.{Own, own, RebasesOwn, ended}
use Rattle.wiki_core.proofs.HearLemmas.{Seen, Follows, follows_one, follows_append}
use Rattle.wiki_core.proofs.RunLemmas.{seen, IsApt, Shows, shows_same, session_told, tells_begin, word_shows, reword_shows, unword_shows, grammar_shows, other_shows, put_shows, back_shows, drop_shows, commit_shows, put_other, back_other, drop_other, commit_other, commit_refused, menu_shows, refresh_shows, begin_other, begin_shows}

module _ (IsSpent : Spending) (old new : State) (number : ℕ) (apt : IsApt old) where
  -- a step while the session is open
  pub open_step : number ≤ old.last → (request : Request) (reply : Reply) → Step IsSpent old request reply new
      → Shows old new number (apart.heard_open number (answered request reply))
  open_step below (requests.OnWiki (of_wiki.Word kind forms)) reply step = word_shows IsSpent old new number apt kind forms reply step
  open_step below (requests.OnWord word of_word.Find) reply step =
      other_shows IsSpent old new number apt (requests.OnWord word of_word.Find) reply refl step
  open_step below (requests.OnWiki of_wiki.Words) reply step =
      other_shows IsSpent old new number apt (requests.OnWiki of_wiki.Words) reply refl step
  open_step below (requests.OnWiki (of_wiki.Parse text)) reply step =
      other_shows IsSpent old new number apt (requests.OnWiki (of_wiki.Parse text)) reply refl step
  open_step below (requests.OnWord form (of_word.Reword forms)) reply step = reword_shows IsSpent old new number apt form forms reply step
  open_step below (requests.OnWord form of_word.Unword) reply step = unword_shows IsSpent old new number apt form reply step
  open_step below (requests.OnWiki (of_wiki.Grammar text)) reply step = grammar_shows IsSpent old new number apt text reply step
  open_step below (requests.OnArticle article (of_article.Add given text)) reply step =
      other_shows IsSpent old new number apt (requests.OnArticle article (of_article.Add given text)) reply refl step
  open_step below (requests.OnArticle article (of_article.Edit place text)) reply step =
      other_shows IsSpent old new number apt (requests.OnArticle article (of_article.Edit place text)) reply refl step
  open_step below (requests.OnArticle article (of_article.Remove place)) reply step =
      other_shows IsSpent old new number apt (requests.OnArticle article (of_article.Remove place)) reply refl step
  open_step below (requests.OnArticle article (of_article.Retract place)) reply step =
      other_shows IsSpent old new number apt (requests.OnArticle article (of_article.Retract place)) reply refl step
  open_step below (requests.OnArticle article (of_article.Reassert place)) reply step =
      other_shows IsSpent old new number apt (requests.OnArticle article (of_article.Reassert place)) reply refl step
  open_step below (requests.OnArticle article of_article.Read) reply step =
      other_shows IsSpent old new number apt (requests.OnArticle article of_article.Read) reply refl step
  open_step below (requests.OnArticle article (of_article.Axioms place)) reply step =
      other_shows IsSpent old new number apt (requests.OnArticle article (of_article.Axioms place)) reply refl step
  open_step below (requests.OnArticle form of_article.Open) reply step =
      begin_other IsSpent old new number apt form reply (ne_eqb (old.last + 1) number (λ same. omega (arith, same, below))) step
  open_step below (requests.OnSession n (of_session.Type text)) reply step = by_test (n == number) refl
    where
      by_test : (b : Bool) → (n == number) ≡ b → Shows old new number (cond b (apart.typed text ∷ []) [])
      by_test true is = put_shows IsSpent old new number apt text reply
          (subst (λ (k : ℕ). Step IsSpent old (requests.OnSession k (of_session.Type text)) reply new) (eqb-true n number is) step)
      by_test false is = put_other IsSpent old new number apt n text reply is step
  open_step below (requests.OnSession n of_session.Back) reply step = by_test (n == number) refl
    where
      by_test : (b : Bool) → (n == number) ≡ b → Shows old new number (cond b (apart.stepped_back ∷ []) [])
      by_test true is = back_shows IsSpent old new number apt reply
          (subst (λ (k : ℕ). Step IsSpent old (requests.OnSession k of_session.Back) reply new) (eqb-true n number is) step)
      by_test false is = back_other IsSpent old new number apt n reply is step
  open_step below (requests.OnSession n of_session.Menu) reply step = menu_shows IsSpent old new number apt n reply step
  open_step below (requests.OnSession n of_session.Commit) (replies.Commit form status text) step = by_test (n == number) refl
    where
      by_test : (b : Bool) → (n == number) ≡ b → Shows old new number (cond b (apart.committed ∷ []) [])
      by_test true is = commit_shows IsSpent old new number apt form status text
          (subst (λ (k : ℕ). Step IsSpent old (requests.OnSession k of_session.Commit) (replies.Commit form status text) new) (eqb-true n number is) step)
      by_test false is = commit_other IsSpent old new number apt n form status text is step
  open_step below (requests.OnSession n of_session.Commit) reply step = commit_refused IsSpent old new number apt n reply refl step
  open_step below (requests.OnSession n of_session.Refresh) reply step = refresh_shows IsSpent old new number apt n reply step
  open_step below (requests.OnSession n of_session.Drop) reply step = by_test (n == number) refl
    where
      by_test : (b : Bool) → (n == number) ≡ b → Shows old new number (cond b (apart.dropped ∷ []) [])
      by_test true is = drop_shows IsSpent old new number apt reply
          (subst (λ (k : ℕ). Step IsSpent old (requests.OnSession k of_session.Drop) reply new) (eqb-true n number is) step)
      by_test false is = drop_other IsSpent old new number apt n reply is step

  -- ---- before the session is open

  module _ (none : session_numbered old number ≡ None) where
    none_there : (n : ℕ) (asked : SessionRequest) (reply : Reply) → (n == number) ≡ true → Does IsSpent old (requests.OnSession n asked) reply new → ⊥
    none_there n asked reply is does =
        let done = some_is (session_numbered old n) (λ session. DoesOnSession IsSpent asked session old reply new) does in
        none-some done.it (sym none ∙ ap (session_numbered old) (sym (eqb-true n number is)) ∙ done.named)

    session_none : (n : ℕ) (asked : SessionRequest) (reply : Reply) → (n == number) ≡ true → Step IsSpent old (requests.OnSession n asked) reply new
        → Shows old new number []
    session_none n asked reply is step = by (outcome IsSpent old (requests.OnSession n asked) reply new step)
      where
        by : IsRefused old (requests.OnSession n asked) reply new ⊎ IsDone IsSpent old (requests.OnSession n asked) reply new → Shows old new number []
        by (inl refused) = shows_same old new number apt refused.3
        by (inr done) = absurd (none_there n asked reply is done.1)

    opens : (form : List ℕ) (reply : Reply) → Does IsSpent old (requests.OnArticle form of_article.Open) reply new
        → SomeIs (article_named old.stored form) (λ article. OpensSession article old reply new)
    opens form reply = some_is (article_named old.stored form) (λ article. OpensSession article old reply new)

    begin_none : (form : List ℕ) (reply : Reply) → apart.opened_by number (answered (requests.OnArticle form of_article.Open) reply) ≡ None
        → Step IsSpent old (requests.OnArticle form of_article.Open) reply new → Shows old new number []
    begin_none form (replies.Refused refusal) not_this step = shows_same old new number apt step.1
    begin_none form (replies.Open session) not_this step =
        begin_other IsSpent old new number apt form (replies.Open session)
        (ap (λ (n : ℕ). n == number) (sym (ap session_told (opens form (replies.Open session) step.1).is.answer)) ∙ not_opened (session == number) not_this)
        step
      where
        not_opened : (b : Bool) → cond b (Some form) None ≡ None → b ≡ false
        not_opened true is = absurd (none-some form (sym is))
        not_opened false is = refl
    begin_none form reply not_this step = absurd (false≢true (ap tells_begin (opens form reply step.1).is.answer))

    -- a step before the session is open, which doesn't open it
    pub before_step : (request : Request) (reply : Reply) → apart.opened_by number (answered request reply) ≡ None → Step IsSpent old request reply new
        → Shows old new number (apart.heard_of_words (answered request reply))
    before_step (requests.OnWiki (of_wiki.Word kind forms)) reply not_this step = word_shows IsSpent old new number apt kind forms reply step
    before_step (requests.OnWord word of_word.Find) reply not_this step =
        other_shows IsSpent old new number apt (requests.OnWord word of_word.Find) reply refl step
    before_step (requests.OnWiki of_wiki.Words) reply not_this step =
        other_shows IsSpent old new number apt (requests.OnWiki of_wiki.Words) reply refl step
    before_step (requests.OnWiki (of_wiki.Parse text)) reply not_this step =
        other_shows IsSpent old new number apt (requests.OnWiki (of_wiki.Parse text)) reply refl step
    before_step (requests.OnWord form (of_word.Reword forms)) reply not_this step = reword_shows IsSpent old new number apt form forms reply step
    before_step (requests.OnWord form of_word.Unword) reply not_this step = unword_shows IsSpent old new number apt form reply step
    before_step (requests.OnWiki (of_wiki.Grammar text)) reply not_this step = grammar_shows IsSpent old new number apt text reply step
    before_step (requests.OnArticle article (of_article.Add given text)) reply not_this step =
        other_shows IsSpent old new number apt (requests.OnArticle article (of_article.Add given text)) reply refl step
    before_step (requests.OnArticle article (of_article.Edit place text)) reply not_this step =
        other_shows IsSpent old new number apt (requests.OnArticle article (of_article.Edit place text)) reply refl step
    before_step (requests.OnArticle article (of_article.Remove place)) reply not_this step =
        other_shows IsSpent old new number apt (requests.OnArticle article (of_article.Remove place)) reply refl step
    before_step (requests.OnArticle article (of_article.Retract place)) reply not_this step =
        other_shows IsSpent old new number apt (requests.OnArticle article (of_article.Retract place)) reply refl step
    before_step (requests.OnArticle article (of_article.Reassert place)) reply not_this step =
        other_shows IsSpent old new number apt (requests.OnArticle article (of_article.Reassert place)) reply refl step
    before_step (requests.OnArticle article of_article.Read) reply not_this step =
        other_shows IsSpent old new number apt (requests.OnArticle article of_article.Read) reply refl step
    before_step (requests.OnArticle article (of_article.Axioms place)) reply not_this step =
        other_shows IsSpent old new number apt (requests.OnArticle article (of_article.Axioms place)) reply refl step
    before_step (requests.OnArticle form of_article.Open) reply not_this step = begin_none form reply not_this step
    before_step (requests.OnSession n (of_session.Type text)) reply not_this step = by_test (n == number) refl
      where
        by_test : (b : Bool) → (n == number) ≡ b → Shows old new number []
        by_test true is = session_none n (of_session.Type text) reply is step
        by_test false is = put_other IsSpent old new number apt n text reply is step
    before_step (requests.OnSession n of_session.Back) reply not_this step = by_test (n == number) refl
      where
        by_test : (b : Bool) → (n == number) ≡ b → Shows old new number []
        by_test true is = session_none n of_session.Back reply is step
        by_test false is = back_other IsSpent old new number apt n reply is step
    before_step (requests.OnSession n of_session.Menu) reply not_this step = menu_shows IsSpent old new number apt n reply step
    before_step (requests.OnSession n of_session.Commit) (replies.Commit form status text) not_this step = by_test (n == number) refl
      where
        by_test : (b : Bool) → (n == number) ≡ b → Shows old new number []
        by_test true is = session_none n of_session.Commit (replies.Commit form status text) is step
        by_test false is = commit_other IsSpent old new number apt n form status text is step
    before_step (requests.OnSession n of_session.Commit) reply not_this step = commit_refused IsSpent old new number apt n reply refl step
    before_step (requests.OnSession n of_session.Refresh) reply not_this step = refresh_shows IsSpent old new number apt n reply step
    before_step (requests.OnSession n of_session.Drop) reply not_this step = by_test (n == number) refl
      where
        by_test : (b : Bool) → (n == number) ≡ b → Shows old new number []
        by_test true is = session_none n of_session.Drop reply is step
        by_test false is = drop_other IsSpent old new number apt n reply is step

-- what isn't seen of a session isn't there
pub none_seen : (o : Option PlainSession) → option_map own o ≡ None → o ≡ None
none_seen None none = refl
none_seen (Some s) none = absurd (none-some (own s) (sym none))

-- what is rebased of no session is none
rebases_none : (g : GrammarParts) (words : Listed) (was is : Option Own) → was ≡ None → RebasesOwn g words was is → is ≡ None
rebases_none g words None is none rebased = rebased
rebases_none g words (Some own) is none rebased = absurd (none-some own (sym none))

rebased_none : (old new mid : Seen) → new ≡ mid → old.own ≡ None → RebasesOwn mid.shared.grammar mid.shared.words old.own mid.own → new.own ≡ None
rebased_none old new mid is none rebases =
    ap (λ (s : Seen). s.own) is ∙ rebases_none mid.shared.grammar mid.shared.words old.own mid.own none rebases

-- changes of words and of the grammar open no session
pub none_follows : (old new : Seen) (request : Request) (reply : Reply) → Follows old (apart.heard_of_words (answered request reply)) new
    → old.own ≡ None → new.own ≡ None
none_follows old new (requests.OnWiki (of_wiki.Word kind forms)) replies.Word follows none = rebased_none old new follows.0 follows.2 none follows.1.1
none_follows old new (requests.OnWord form (of_word.Reword forms)) replies.Reword follows none = rebased_none old new follows.0 follows.2 none follows.1.1
none_follows old new (requests.OnWiki (of_wiki.Grammar text)) replies.Grammar follows none = rebased_none old new follows.0 follows.2 none follows.1.1
none_follows old new (requests.OnWord form of_word.Unword) replies.Unword follows none =
    let changes = follows.1.1 in
    ap (λ (s : Seen). s.own) follows.2 ∙ changes.4
    ∙ ap (ended changes.0.id) (rebases_none follows.0.shared.grammar follows.0.shared.words old.own changes.1 none changes.3)
none_follows old new request reply follows none = ap (λ (s : Seen). s.own) follows ∙ none

-- an exchange that opens the session is a request for one, which is told its number
pub record Opens (number : ℕ) (request : Request) (reply : Reply) (form : List ℕ) : Type 0 where
  pub asked : request ≡ requests.OnArticle form of_article.Open
  pub told : reply ≡ replies.Open number

pub opens_by : (number : ℕ) (request : Request) (reply : Reply) (form : List ℕ) → apart.opened_by number (answered request reply) ≡ Some form
    → Opens number request reply form
opens_by number (requests.OnArticle article of_article.Open) (replies.Open session) form is = by_test (session == number) (eqb-true session number) is
  where
    by_test : (b : Bool) → (b ≡ true → session ≡ number) → cond b (Some article) None ≡ Some form
        → Opens number (requests.OnArticle article of_article.Open) (replies.Open session) form
    by_test true same is = record {
      asked = ap (λ (f : List ℕ). requests.OnArticle f of_article.Open) (same_Some article form is);
      told =
          ap replies.Open (same refl);
    }
    by_test false same is = absurd (none-some form is)
opens_by number request reply form is = absurd (none-some form is)

-- ---- runs

-- all turns while the session is open
run_open : (IsSpent : Spending) (number : ℕ) (exchanges : List (Exchange Request Reply)) (old last : State) → IsApt old
    → number ≤ old.last → Turns (Step IsSpent) old exchanges last
    → Follows (seen old number) (flat_map (apart.heard_open number) exchanges) (seen last number)
run_open IsSpent number [] old last apt below turns = ap (λ (s : State). seen s number) turns
run_open IsSpent number (no_request ∷ exchanges) old last apt below (next, same, rest) =
    subst (λ (s : State). Follows (seen s number) (flat_map (apart.heard_open number) exchanges) (seen last number)) same
    (run_open IsSpent number exchanges next last (subst IsApt (sym same) apt)
    (subst (λ (s : State). number ≤ s.last) (sym same) below) rest)
run_open IsSpent number (answered request reply ∷ exchanges) old last apt below (next, step, rest) =
    let shows = open_step IsSpent old next number apt below request reply step in
    let later = shows.later in
    follows_append (seen old number) (apart.heard_open number (answered request reply)) (seen next number) (flat_map (apart.heard_open number) exchanges)
    (seen last number) shows.follows
    (run_open IsSpent number exchanges next last shows.apt (omega (arith, below, later)) rest)

-- all turns from before the session is open
run_before : (IsSpent : Spending) (number : ℕ) (exchanges : List (Exchange Request Reply)) (old last : State) → IsApt old
    → session_numbered old number ≡ None
    → Turns (Step IsSpent) old exchanges last → Follows (seen old number) (apart.heard_by number exchanges) (seen last number)
run_before IsSpent number [] old last apt none turns = ap (λ (s : State). seen s number) turns
run_before IsSpent number (no_request ∷ exchanges) old last apt none (next, same, rest) =
    subst (λ (s : State). Follows (seen s number) (apart.heard_by number exchanges) (seen last number)) same
    (run_before IsSpent number exchanges next last (subst IsApt (sym same) apt)
    (subst (λ (s : State). session_numbered s number ≡ None) (sym same) none) rest)
run_before IsSpent number (answered request reply ∷ exchanges) old last apt none (next, step, rest) =
    by_case (apart.opened_by number (answered request reply)) refl (run_before IsSpent number exchanges next last)
  where
    by_case : (o : Option (List ℕ)) → apart.opened_by number (answered request reply) ≡ o
        → (IsApt next → session_numbered next number ≡ None → Turns (Step IsSpent) next exchanges last
        → Follows (seen next number) (apart.heard_by number exchanges) (seen last number))
        → Follows (seen old number)
        (option_map_or (λ form. apart.opened form ∷ flat_map (apart.heard_open number) exchanges) o
        (apart.heard_of_words (answered request reply) ++ apart.heard_by number exchanges)) (seen last number)
    by_case None is going_on =
        let shows = before_step IsSpent old next number apt none request reply is step in
        let still = none_seen (session_numbered next number)
        (none_follows (seen old number) (seen next number) request reply shows.follows (ap (option_map own) none)) in
        follows_append (seen old number) (apart.heard_of_words (answered request reply)) (seen next number) (apart.heard_by number exchanges)
        (seen last number) shows.follows
        (going_on shows.apt still rest)
    by_case (Some form) is going_on =
        let opens = opens_by number request reply form is in
        let step_on : Step IsSpent old (requests.OnArticle form of_article.Open) (replies.Open number) next =
        subst (λ (r : Reply). Step IsSpent old (requests.OnArticle form of_article.Open) r next) opens.told
        (subst (λ (q : Request). Step IsSpent old q reply next) opens.asked step) in
        let shows = begin_shows IsSpent old next number apt form none step_on in
        follows_append (seen old number) (apart.opened form ∷ []) (seen next number) (flat_map (apart.heard_open number) exchanges) (seen last number)
        shows.0.follows
        (run_open IsSpent number exchanges next last shows.0.apt shows.1 rest)

-- the tokens are seen
pub tokens_seen : (state : State) (number : ℕ) → apart.tokens_in state number ≡ option_map (λ (o : Own). o.tokens) (seen state number).own
tokens_seen state number = by_case (session_numbered state number)
  where
    by_case : (o : Option PlainSession) → option_map (λ (s : PlainSession). s.tokens) o ≡ option_map (λ (o : Own). o.tokens) (option_map own o)
    by_case None = refl
    by_case (Some s) = refl

-- a session's tokens are a function of the first grammar and of what the session heard
pub tokens_own : (g : GrammarParts) → apart.TokensAreOwn g
tokens_own g budget its_budget one other end its_end number its_number turns its_turns same =
    let follows = run_before (IsCutOff budget) number one (first_state g) end (omega arith) refl turns in
    let its_follows = run_before (IsCutOff its_budget) its_number other (first_state g) its_end (omega arith) refl its_turns in
    let seen_same = follows_one (seen (first_state g) number) (apart.heard_by number one) (seen end number) (seen its_end its_number) follows
    (subst (λ (heard : List apart.Heard). Follows (seen (first_state g) number) heard (seen its_end its_number)) (sym same) its_follows) in
    tokens_seen end number ∙ ap (λ (s : Seen). option_map (λ (o : Own). o.tokens) s.own) (sym seen_same) ∙ sym (tokens_seen its_end its_number)
