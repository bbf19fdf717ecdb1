-- What is kept of sessions, over each change of them.
use Rattle.std.proofs.Common.{◌≡◌, ℕ, ◌+◌, ◌<◌, ◌≤◌, ◌==◌, Bool, true, false, not, cond, List, [], ◌∷◌, ◌++◌, length, map, find, All, AllPairs, Option, Some, None, option_map, is_some, Result, Ok, Err, OnOk, OnErr, refl, sym, ap, subst, ◌∙◌, arith}
use Rattle.std.proofs.lemmas.List.{length-map}
use Rattle.std.proofs.lemmas.List.Kept.{AllPairs-cons}
use Rattle.std.specs.Option.{IsSomeAnd}
use Rattle.std.proofs.lemmas.List.Elements.{All-nil, All-cons, All-head, All-tail, All-weaker, All-append, All-map}
use Rattle.std.proofs.lemmas.Bool.{not-true}
use Rattle.wiki_base.specs.declared.numbers.WordId.{WordId}
use Rattle.wiki_base.specs.declared.numbers.Rev.{Rev}
use Rattle.wiki_base.specs.declared.numbers.SessionId.{SessionId}
use Rattle.wiki_base.specs.declared.tokens.TheConstants.{MOST_TOKENS}
use Rattle.wiki_base.proofs.ListLaws.{AllPairs-tail}
use Rattle.codeco_terms.specs.GrammarParts.{GrammarParts}
use Rattle.lexicon.specs.declared.words.Word.{Word}
use Rattle.lexicon.specs.Words.{Listed, forms_of}
use Rattle.editor.specs.declared.faults.TypeFault.{TypeFault}
use Rattle.articles.specs.declared.article.Article.{Article}
use Rattle.articles.specs.Articles.{article_of, without_article as without}
use Rattle.sessions.specs.declared.session.Session.{Session}
use Rattle.plain_wiki.specs.Sessions.{PlainSession, session_of, new_session, with_change, with_tokens, without_session, without_article, is_on, has_number, HasSession, AreRebased, IsRebasedSession}
use Rattle.sessions.specs.Sessions.{plain, all_plain, AreSessions, AreKept}
use Rattle.plain_wiki.specs.State.{Stored}
use Rattle.logic_terms.specs.Interpretation.{Interpretation}
use Rattle.derivation_trees.specs.Partial.{IsTypeable}
use Rattle.sessions.proofs.KeepingLaws.{kept_typeable}
use Rattle.wiki_parts.specs.Holding as holding
use Rattle.history.specs.declared.kept.Kept.{Kept}
use Rattle.wiki_store.specs.PuttingBack.{put_back}
use Rattle.plain_wiki.specs.State.{State}
use Rattle.wiki_core.specs.Holding.{IsOnArticle, AreInOrder, IsKeptSession, IsKept as IsKeptWiki}
use Rattle.wiki_core.specs.Keeping.{AreHeld}
use Rattle.wiki_core.proofs.KeyLaws.{changed_at, find_changed, found_has, only_one, all_changed, all_filtered, pairs_head}
use Rattle.wiki_core.proofs.PagesLemmas.{GoOn, KeepsWords, keeps_changed, go_on_ended}

-- the first of some numbers, and the numbers behind it
abbrev first_number : List WordId → ℕ
first_number [] = 0
first_number (id ∷ ids) = id.0

abbrev behind_first : List WordId → List WordId
behind_first [] = []
behind_first (id ∷ ids) = ids

-- a session is on an article that is there, and has a number that was given
pub record Fits (articles : List Article) (last : ℕ) (session : PlainSession) : Type 0 where
  pub on : IsOnArticle articles session
  pub numbered : session.number.0 ≤ last

-- what is held is that the editors keep the readings, and that each session fits
pub fits_each : (pages : Stored) (sessions : List Session) (last : ℕ) → AreHeld pages sessions last → All (Fits pages.articles last) (all_plain sessions)
fits_each pages sessions last held = together (all_plain sessions) held.on held.numbered
  where
    together : (list : List PlainSession) → All (IsOnArticle pages.articles) list
        → All (λ session. session.number.0 ≤ last) list → All (Fits pages.articles last) list
    together [] on numbered = All-nil (Fits pages.articles last)
    together (s ∷ list) on numbered = All-cons (Fits pages.articles last) s list
        (record { on = All-head (IsOnArticle pages.articles) s list on; numbered = All-head (λ (t : PlainSession). t.number.0 ≤ last) s list numbered })
        (together list (All-tail (IsOnArticle pages.articles) s list on) (All-tail (λ (t : PlainSession). t.number.0 ≤ last) s list numbered))

pub held_by : (pages : Stored) (sessions : List Session) (last : ℕ) → AreKept pages.grammar pages.words sessions
    → All (Fits pages.articles last) (all_plain sessions) → AreHeld pages sessions last
held_by pages sessions last kept fit = record {
  kept = kept;
  on = All-weaker (Fits pages.articles last) (IsOnArticle pages.articles) (λ s f. f.on) (all_plain sessions) fit;
  numbered = All-weaker (Fits pages.articles last) (λ s. s.number.0 ≤ last) (λ s f. f.numbered) (all_plain sessions) fit;
}

-- where no words change, and each article goes on
pub held_over : (old new : Stored) (sessions : List Session) (last : ℕ) → AreHeld old sessions last → KeepsWords old new → AreHeld new sessions last
held_over old new sessions last held keeps = held_by new sessions last
    (let to_grammar = subst (λ (g : GrammarParts). AreKept g old.words sessions) (sym keeps.grammar) held.kept in
    subst (λ (words : Listed). AreKept new.grammar words sessions) (sym keeps.words) to_grammar)
    (All-weaker (Fits old.articles last) (Fits new.articles last) (λ s f. record { on = keeps.on s f.on; numbered = f.numbered }) (all_plain sessions)
    (fits_each old sessions last held))

-- where it was put back what an article had, or not
pub held_put_back : (old new : holding.Holding) (kept : Kept) (sessions : List Session) (last : ℕ) (result : Bool) → AreHeld old.state sessions last
    → (result ≡ true → new ≡ put_back old kept) → (result ≡ false → new ≡ old) → AreHeld new.state sessions last
held_put_back old new kept sessions last true held done refused =
    held_over old.state new.state sessions last held
    (keeps_changed old.state new.state kept.article (λ _. kept.sentences) (ap (λ (h : holding.Holding). h.state) (done refl)))
held_put_back old new kept sessions last false held done refused =
    subst (λ (h : holding.Holding). AreHeld h.state sessions last) (sym (refused refl)) held

-- where a session is opened
pub held_opened : (pages : Stored) (old new : List Session) (last : ℕ) (number : SessionId) (word : WordId) (revision : Rev) (article : Article)
    → AreHeld pages old last → number.0 ≡ last + 1 → article_of pages.articles word ≡ Some article → article.revision ≡ revision
    → all_plain new ≡ all_plain old ++ new_session number word revision ∷ [] → AreKept pages.grammar pages.words new → AreHeld pages new number.0
held_opened pages old new last number word revision article held is_next there at opened kept = held_by pages new number.0 kept
    (subst (All (Fits pages.articles number.0)) (sym opened)
    (All-append (Fits pages.articles number.0) (all_plain old) (new_session number word revision ∷ [])
    (All-weaker (Fits pages.articles last) (Fits pages.articles number.0)
    (λ s f. record { on = f.on; numbered = (let below = f.numbered in omega (arith, below, is_next)) }) (all_plain old) (fits_each pages old last held))
    (All-cons (Fits pages.articles number.0) (new_session number word revision) [] fresh (All-nil (Fits pages.articles number.0)))))
  where
    same : revision.0 ≡ article.revision.0
    same = ap (λ (r : Rev). r.0) (sym at)

    fresh : Fits pages.articles number.0 (new_session number word revision)
    fresh = record { on = record { article = article; there = there; seen = omega (arith, same) }; numbered = omega arith }

-- where one session changes, and each article goes on
pub held_changed : (pages after : Stored) (old new : List Session) (last : ℕ) (number : SessionId) (change : PlainSession → PlainSession)
    (found : PlainSession)
    → AreHeld pages old last → AreInOrder (all_plain old) → session_of (all_plain old) number ≡ Some found → GoOn pages.articles after.articles
    → AreKept after.grammar after.words new → all_plain new ≡ with_change (all_plain old) number change → Fits after.articles last (change found)
    → AreHeld after new last
held_changed pages after old new last number change found held in_order is_found goes_on kept is_changed fits = held_by after new last kept
    (subst (All (Fits after.articles last)) (sym is_changed)
    (all_changed (Fits pages.articles last) (Fits after.articles last) (λ (s : PlainSession). s.number.0) number.0 change found
    (λ s f. record { on = goes_on s f.on; numbered = f.numbered }) fits (all_plain old) (fits_each pages old last held)
    (only_one (λ (s : PlainSession). s.number.0) number.0 (all_plain old) in_order found is_found)))

-- where a session ends
pub held_without : (pages : Stored) (old new : List Session) (last : ℕ) (number : SessionId) → AreHeld pages old last
    → AreKept pages.grammar pages.words new → all_plain new ≡ without_session (all_plain old) number → AreHeld pages new last
held_without pages old new last number held kept ended = held_by pages new last kept
    (subst (All (Fits pages.articles last)) (sym ended)
    (all_filtered (Fits pages.articles last) (Fits pages.articles last) (λ (s : PlainSession). not (s.number.0 == number.0)) (λ s passes f. f)
    (all_plain old) (fits_each pages old last held)))

-- rebased sessions fit as they did
pub fits_rebased : (g : GrammarParts) (words : Listed) (articles : List Article) (last : ℕ) (old new : List PlainSession) → AreRebased g words old new
    → All (Fits articles last) old → All (Fits articles last) new
fits_rebased g words articles last [] [] rebased fit = fit
fits_rebased g words articles last [] (n ∷ new) rebased fit = absurd rebased
fits_rebased g words articles last (o ∷ old) [] rebased fit = absurd rebased
fits_rebased g words articles last (o ∷ old) (n ∷ new) rebased fit =
    All-cons (Fits articles last) n new (fits rebased.0 (All-head (Fits articles last) o old fit))
    (fits_rebased g words articles last old new rebased.1 (All-tail (Fits articles last) o old fit))
  where
    fits : IsRebasedSession g words o n → Fits articles last o → Fits articles last n
    fits is f =
        let seen : n.revision.0 ≤ f.on.article.revision.0 = subst (λ (r : Rev). r.0 ≤ f.on.article.revision.0) (sym is.revision) f.on.seen in
        record {
          on = record { article = f.on.article; there = ap (article_of articles) is.article ∙ f.on.there; seen = seen };
          numbered = subst (λ (i : SessionId). i.0 ≤ last) (sym is.number) f.numbered;
        }

-- where the wiki gets another grammar and other words
pub held_regrounded : (pages : Stored) (g : GrammarParts) (words : Listed) (old new : List Session) (last : ℕ) → AreHeld pages old last
    → AreKept g words new → AreRebased g words (all_plain old) (all_plain new) → AreHeld (record pages { grammar = g; words = words }) new last
held_regrounded pages g words old new last held kept rebased =
    held_by (record pages { grammar = g; words = words }) new last kept
    (fits_rebased g words pages.articles last (all_plain old) (all_plain new) rebased (fits_each pages old last held))

-- where words get other forms
pub held_rebased : (pages : Stored) (words : Listed) (old new : List Session) (last : ℕ) → AreHeld pages old last → AreKept pages.grammar words new
    → AreRebased pages.grammar words (all_plain old) (all_plain new) → AreHeld (record pages { words = words }) new last
held_rebased pages words = held_regrounded pages pages.grammar words

-- where a word goes with its article, and the sessions on it end
pub held_ended : (pages : Stored) (words : Listed) (word : WordId) (old new : List Session) (rebased : List PlainSession) (last : ℕ)
    → AreHeld pages old last
    → AreKept pages.grammar words new → AreRebased pages.grammar words (all_plain old) rebased → all_plain new ≡ without_article rebased word
    → AreHeld (record pages { words = words; articles = without pages.articles word }) new last
held_ended pages words word old new rebased last held kept is_rebased ended =
    held_by (record pages { words = words; articles = without pages.articles word }) new last kept
    (subst (All (Fits (without pages.articles word) last)) (sym ended)
    (all_filtered (Fits pages.articles last) (Fits (without pages.articles word) last) (λ (s : PlainSession). not (is_on word s)) stays rebased
    (fits_rebased pages.grammar words pages.articles last (all_plain old) rebased is_rebased (fits_each pages old last held))))
  where
    stays : (s : PlainSession) → not (is_on word s) ≡ true → Fits pages.articles last s → Fits (without pages.articles word) last s
    stays s passes f = record { on = go_on_ended pages.articles word s (not-true (is_on word s) passes) f.on; numbered = f.numbered }

-- sessions in order are so without their editors
pub plain_in_order : (sessions : List Session) → AllPairs (λ session later. session.number.0 < later.number.0) sessions → AreInOrder (all_plain sessions)
plain_in_order [] in_order = λ i j d before in_range. absurd (omega (arith, in_range))
plain_in_order (s ∷ sessions) in_order =
    AllPairs-cons (λ session later. session.number.0 < later.number.0) (plain s) (all_plain sessions)
    (All-map (λ (later : PlainSession). s.number.0 < later.number.0) plain sessions
    (pairs_head (λ (session later : Session). session.number.0 < later.number.0) s sessions in_order))
    (plain_in_order sessions (AllPairs-tail (λ (session later : Session). session.number.0 < later.number.0) s sessions in_order))

-- what the program keeps of each session is what the wiki promises of it
kept_each : (state : State) (list : List PlainSession) → All (λ session. IsTypeable state.stored.grammar state.stored.words session.tokens) list
    → All (λ session. length session.tokens ≤ MOST_TOKENS) list → All (IsOnArticle state.stored.articles) list → All (IsKeptSession state) list
kept_each state [] typeable short on = All-nil (IsKeptSession state)
kept_each state (s ∷ list) typeable short on =
    All-cons (IsKeptSession state) s list
    (record {
      typeable = All-head (λ (t : PlainSession). IsTypeable state.stored.grammar state.stored.words t.tokens) s list typeable;
      short = All-head (λ (t : PlainSession). length t.tokens ≤ MOST_TOKENS) s list short;
      on = All-head (IsOnArticle state.stored.articles) s list on;
    })
    (kept_each state list (All-tail (λ (t : PlainSession). IsTypeable state.stored.grammar state.stored.words t.tokens) s list typeable)
    (All-tail (λ (t : PlainSession). length t.tokens ≤ MOST_TOKENS) s list short) (All-tail (IsOnArticle state.stored.articles) s list on))

-- what the program keeps is what the wiki promises
pub is_kept : (pages : Stored) (budget : ℕ) (interpretation : Interpretation) (sessions : List Session) (last : ℕ)
    → holding.IsKept (record { state = pages; budget = budget; interpretation = interpretation }) → AreSessions sessions → AreHeld pages sessions last
    → IsKeptWiki (record { state = record { stored = pages; sessions = all_plain sessions; last = last }; budget = budget; interpretation = interpretation })
is_kept pages budget interpretation sessions last pages_kept are held = record {
  stored = pages_kept;
  sessions =
      kept_each (record { stored = pages; sessions = all_plain sessions; last = last }) (all_plain sessions)
      (kept_typeable pages.grammar pages.words sessions are held.kept)
      (All-map (λ (t : PlainSession). length t.tokens ≤ MOST_TOKENS) plain sessions (λ k d bound. (are.edited k d bound).few)) held.on;
  in_order = plain_in_order sessions are.in_order;
  numbered = held.numbered;
  few = (let few = are.few in let same : length (all_plain sessions) ≡ length sessions = length-map sessions plain in omega (arith, few, same));
}

-- where one session's tokens change, whichever they are
pub held_tokens : (pages : Stored) (old new : List Session) (last : ℕ) (number : SessionId) (change : List (List ℕ) → List (List ℕ))
    → AreHeld pages old last
    → AreKept pages.grammar pages.words new → all_plain new ≡ with_change (all_plain old) number (with_tokens change) → AreHeld pages new last
held_tokens pages old new last number change held kept is_changed = held_by pages new last kept
    (subst (All (Fits pages.articles last)) (sym is_changed) (each (all_plain old) (fits_each pages old last held)))
  where
    by_test : (s : PlainSession) (b : Bool) → Fits pages.articles last s → Fits pages.articles last (cond b (with_tokens change s) s)
    by_test s true f = record { on = record { article = f.on.article; there = f.on.there; seen = f.on.seen }; numbered = f.numbered }
    by_test s false f = f

    each : (list : List PlainSession) → All (Fits pages.articles last) list → All (Fits pages.articles last) (with_change list number (with_tokens change))
    each [] fit = All-nil (Fits pages.articles last)
    each (s ∷ list) fit =
        All-cons (Fits pages.articles last) (cond (s.number.0 == number.0) (with_tokens change s) s) (with_change list number (with_tokens change))
        (by_test s (s.number.0 == number.0) (All-head (Fits pages.articles last) s list fit)) (each list (All-tail (Fits pages.articles last) s list fit))

-- where a text is typed or not
pub held_typed : (pages : Stored) (old new : List Session) (last : ℕ) (number : SessionId) (change : List (List ℕ) → List (List ℕ))
    (result : Result (Unit {0}) TypeFault) → AreHeld pages old last
    → AreKept pages.grammar pages.words new → OnOk result (all_plain new ≡ with_change (all_plain old) number (with_tokens change)) → OnErr result (new ≡ old)
    → AreHeld pages new last
held_typed pages old new last number change (Ok done) held kept is_changed same = held_tokens pages old new last number change held kept is_changed
held_typed pages old new last number change (Err fault) held kept is_changed same = subst (λ (list : List Session). AreHeld pages list last) (sym same) held

-- where a token is dropped or there was none
pub held_back : {P : Type 0} (pages : Stored) (old new : List Session) (last : ℕ) (number : SessionId) (change : List (List ℕ) → List (List ℕ))
    (result : Bool) → AreHeld pages old last
    → AreKept pages.grammar pages.words new → (result ≡ true → all_plain new ≡ with_change (all_plain old) number (with_tokens change))
    → (result ≡ false → P × (new ≡ old)) → AreHeld pages new last
held_back pages old new last number change true held kept is_changed same = held_tokens pages old new last number change held kept (is_changed refl)
held_back pages old new last number change false held kept is_changed same = subst (λ (list : List Session). AreHeld pages list last) (sym (same refl).1) held

-- the article that a session is on is there
pub on_there : (pages : Stored) (sessions : List Session) (last : ℕ) (number : SessionId) (session : PlainSession) → AreHeld pages sessions last
    → session_of (all_plain sessions) number ≡ Some session
    → Fits pages.articles last session
on_there pages sessions last number session held found =
    found_has (Fits pages.articles last) (has_number number) (all_plain sessions) session (fits_each pages sessions last held) found

-- the word of an article lives
pub lives_with_article : (articles : List Article) (live : List Word) (word : WordId) → map (λ article. article.word) articles ≡ map (λ w. w.id) live
    → is_some (article_of articles word) ≡ is_some (forms_of live word)
lives_with_article [] [] word same = refl
lives_with_article [] (w ∷ live) word same = let short = ap (λ (ids : List WordId). length ids) same in absurd (omega (arith, short))
lives_with_article (a ∷ articles) [] word same = let short = ap (λ (ids : List WordId). length ids) same in absurd (omega (arith, short))
lives_with_article (a ∷ articles) (w ∷ live) word same =
    ap (λ (n : ℕ). is_some (cond (n == word.0) (Some a) (article_of articles word))) (ap (λ (ids : List WordId). first_number ids) same)
    ∙ by_test (w.id.0 == word.0) (lives_with_article articles live word (ap behind_first same))
  where
    by_test : (b : Bool) → is_some (article_of articles word) ≡ is_some (forms_of live word)
        → is_some (cond b (Some a) (article_of articles word))
        ≡ is_some (option_map (λ (v : Word). v.forms) (cond b (Some w) (find (λ (v : Word). v.id.0 == word.0) live)))
    by_test true rest = refl
    by_test false rest = rest

-- a session is there after a change of it
pub has_changed : (sessions : List PlainSession) (number : SessionId) (change : PlainSession → PlainSession)
    → ((s : PlainSession) → (change s).number.0 ≡ s.number.0) → HasSession sessions number
    → HasSession (with_change sessions number change) number
has_changed sessions number change keeps there =
    subst (λ (o : Option PlainSession). IsSomeAnd o (λ _. Unit {0}))
    (sym (find_changed (λ (s : PlainSession). s.number.0) number.0 number.0 change keeps sessions)) (by_case (session_of sessions number) there)
  where
    by_case : (o : Option PlainSession) → IsSomeAnd o (λ _. Unit {0})
        → IsSomeAnd (option_map (changed_at (λ (s : PlainSession). s.number.0) number.0 change) o) (λ _. Unit {0})
    by_case None there = there
    by_case (Some s) there = tt

pub has_found : (sessions : List PlainSession) (number : SessionId) (session : PlainSession) → session_of sessions number ≡ Some session
    → HasSession sessions number
has_found sessions number session found = subst (λ (o : Option PlainSession). IsSomeAnd o (λ _. Unit {0})) (sym found) tt
