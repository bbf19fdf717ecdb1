-- What one session sees of a wiki, and how each change of sessions shows there.
use Rattle.std.proofs.Common.{◌≡◌, ℕ, ◌+◌, ◌-◌, ◌<◌, ◌≤◌, ◌==◌, ◌⊎◌, Bool, true, false, not, cond, List, [], ◌∷◌, ◌++◌, map, filter, find, Option, Some, None, option_map, refl, sym, ap, subst, ◌∙◌, arith}
use Rattle.std.specs.Option.{option_or}
use Rattle.std.proofs.lemmas.Bool.{eqb-true, eqb-false, not-true}
use Rattle.std.proofs.lemmas.List.Folds.{find-append}
use Rattle.wiki_base.specs.declared.numbers.WordId.{WordId}
use Rattle.wiki_base.specs.declared.numbers.SessionId.{SessionId}
use Rattle.codeco_terms.specs.GrammarParts.{GrammarParts}
use Rattle.lexicon.specs.Words.{Listed}
use Rattle.editor.specs.Rebasing.{IsRebased}
use Rattle.plain_wiki.specs.Sessions.{PlainSession, has_number, session_of, with_change, without_session, without_article, is_on, AreRebased}
use Rattle.wiki_core.proofs.KeyLaws.{changed_at, key_stays, find_changed, find_filter, find_filtered, found_passes}

-- a session as it is seen from outside of its article: the word of that, and the tokens
pub record Own : Type 0 where
  pub article : WordId
  pub tokens : List (List ℕ)

abbrev pub own : PlainSession → Own
own session = record { article = session.article; tokens = session.tokens }

-- the session with the number as it is seen
abbrev pub own_of : List PlainSession → ℕ → Option Own
own_of sessions number = option_map own (session_of sessions (record { 0 = number }))

-- ---- numbers that rise

-- the sessions' numbers rise from above a number up to another
abbrev pub RiseTo : ℕ → ℕ → List PlainSession → Type 0
RiseTo low last [] = low ≤ last
RiseTo low last (session ∷ sessions) = (low < session.number.0) × RiseTo session.number.0 last sessions

pub rise_lower : (lower low last : ℕ) (sessions : List PlainSession) → lower ≤ low → RiseTo low last sessions → RiseTo lower last sessions
rise_lower lower low last [] below rise = omega (arith, below, rise)
rise_lower lower low last (s ∷ sessions) below rise = let first = rise.0 in (omega (arith, below, first), rise.1)

pub rise_filter : (p : PlainSession → Bool) (low last : ℕ) (sessions : List PlainSession) → RiseTo low last sessions → RiseTo low last (filter p sessions)
rise_filter p low last [] rise = rise
rise_filter p low last (s ∷ sessions) rise = by_test (p s) (rise_filter p s.number.0 last sessions rise.1)
  where
    by_test : (b : Bool) → RiseTo s.number.0 last (filter p sessions) → RiseTo low last (cond b (s ∷ filter p sessions) (filter p sessions))
    by_test true rest = (rise.0, rest)
    by_test false rest = let first = rise.0 in rise_lower low s.number.0 last (filter p sessions) (omega (arith, first)) rest

pub rise_append : (low last : ℕ) (sessions : List PlainSession) (session : PlainSession) → session.number.0 ≡ last + 1 → RiseTo low last sessions
    → RiseTo low (last + 1) (sessions ++ session ∷ [])
rise_append low last [] session next rise = (omega (arith, next, rise), omega (arith, next))
rise_append low last (s ∷ sessions) session next rise = (rise.0, rise_append s.number.0 last sessions session next rise.1)

pub rise_changed : (n : ℕ) (change : PlainSession → PlainSession) → ((s : PlainSession) → (change s).number.0 ≡ s.number.0)
    → (low last : ℕ) (sessions : List PlainSession)
    → RiseTo low last sessions → RiseTo low last (map (changed_at (λ (s : PlainSession). s.number.0) n change) sessions)
rise_changed n change keeps low last [] rise = rise
rise_changed n change keeps low last (s ∷ sessions) rise =
    let same = key_stays (λ (t : PlainSession). t.number.0) n change keeps s in
    let rest = rise_changed n change keeps s.number.0 last sessions rise.1 in (
      subst (λ (k : ℕ). low < k) (sym same) rise.0,
      subst (λ (k : ℕ). RiseTo k last (map (changed_at (λ (t : PlainSession). t.number.0) n change) sessions)) (sym same) rest,
    )

pub rise_rebased : (g : GrammarParts) (words : Listed) (low last : ℕ) (old new : List PlainSession) → AreRebased g words old new → RiseTo low last old
    → RiseTo low last new
rise_rebased g words low last [] [] rebased rise = rise
rise_rebased g words low last [] (n ∷ new) rebased rise = absurd rebased
rise_rebased g words low last (o ∷ old) [] rebased rise = absurd rebased
rise_rebased g words low last (o ∷ old) (n ∷ new) rebased rise =
    let same : o.number.0 ≡ n.number.0 = ap (λ (i : SessionId). i.0) (sym rebased.0.number) in
    (subst (λ (k : ℕ). low < k) same rise.0, subst (λ (k : ℕ). RiseTo k last new) same (rise_rebased g words o.number.0 last old new rebased.1 rise.1))

-- above a number there is no session with it, nor in any part
pub none_above : (p : PlainSession → Bool) (m low last : ℕ) (sessions : List PlainSession) → m ≤ low → RiseTo low last sessions
    → session_of (filter p sessions) (record { 0 = m }) ≡ None
none_above p m low last [] below rise = refl
none_above p m low last (s ∷ sessions) below rise = by_tests (p s) (s.number.0 == m) refl (none_above p m s.number.0 last sessions above rise.1)
  where
    above : m ≤ s.number.0
    above = let first = rise.0 in omega (arith, below, first)

    apart : (s.number.0 == m) ≡ true → ⊥
    apart same = let is = eqb-true s.number.0 m same in let first = rise.0 in omega (arith, below, first, is)

    by_tests : (b c : Bool) → (s.number.0 == m) ≡ c → find (has_number (record { 0 = m })) (filter p sessions) ≡ None
        → find (has_number (record { 0 = m })) (cond b (s ∷ filter p sessions) (filter p sessions)) ≡ None
    by_tests false c is rest = rest
    by_tests true true is rest = absurd (apart is)
    by_tests true false is rest = ap (λ (t : Bool). cond t (Some s) (find (has_number (record { 0 = m })) (filter p sessions))) is ∙ rest

-- ---- what is seen of each change

-- a change of the session itself
pub changed_own : (sessions : List PlainSession) (n : ℕ) (change : PlainSession → PlainSession) → ((s : PlainSession) → (change s).number.0 ≡ s.number.0)
    → session_of (with_change sessions (record { 0 = n }) change) (record { 0 = n }) ≡ option_map change (session_of sessions (record { 0 = n }))
changed_own sessions n change keeps =
    find_changed (λ (s : PlainSession). s.number.0) n n change keeps sessions
    ∙ by_case (session_of sessions (record { 0 = n })) (found_passes (has_number (record { 0 = n })) sessions)
  where
    by_case : (o : Option PlainSession) → ((s : PlainSession) → o ≡ Some s → (s.number.0 == n) ≡ true)
        → option_map (changed_at (λ (s : PlainSession). s.number.0) n change) o ≡ option_map change o
    by_case None passes = refl
    by_case (Some s) passes = ap (λ (b : Bool). Some (cond b (change s) s)) (passes s refl)

-- a change of another session
pub changed_other : (sessions : List PlainSession) (n m : ℕ) (change : PlainSession → PlainSession) → ((s : PlainSession) → (change s).number.0 ≡ s.number.0)
    → (n == m) ≡ false
    → session_of (with_change sessions (record { 0 = n }) change) (record { 0 = m }) ≡ session_of sessions (record { 0 = m })
changed_other sessions n m change keeps apart =
    find_changed (λ (s : PlainSession). s.number.0) n m change keeps sessions
    ∙ by_case (session_of sessions (record { 0 = m })) (found_passes (has_number (record { 0 = m })) sessions)
  where
    not_same : (k : ℕ) → (k == m) ≡ true → (b : Bool) → (k == n) ≡ b → b ≡ false
    not_same k is false other = refl
    not_same k is true same = absurd (eqb-false n m apart (sym (eqb-true k n same) ∙ eqb-true k m is))

    by_case : (o : Option PlainSession) → ((s : PlainSession) → o ≡ Some s → (s.number.0 == m) ≡ true)
        → option_map (changed_at (λ (s : PlainSession). s.number.0) n change) o ≡ o
    by_case None passes = refl
    by_case (Some s) passes = ap (λ (b : Bool). Some (cond b (change s) s)) (not_same s.number.0 (passes s refl) (s.number.0 == n) refl)

-- the end of the session itself
pub without_own : (sessions : List PlainSession) (n : ℕ) → session_of (without_session sessions (record { 0 = n })) (record { 0 = n }) ≡ None
without_own sessions n = find_filtered (has_number (record { 0 = n })) (λ (s : PlainSession). not (s.number.0 == n))
    (λ s passes. not-true (s.number.0 == n) passes) sessions

-- the end of another session
pub without_other : (sessions : List PlainSession) (n m : ℕ) → (n == m) ≡ false
    → session_of (without_session sessions (record { 0 = n })) (record { 0 = m }) ≡ session_of sessions (record { 0 = m })
without_other sessions n m apart = find_filter (has_number (record { 0 = m })) (λ (s : PlainSession). not (s.number.0 == n)) stays sessions
  where
    not_same : (k : ℕ) → (k == m) ≡ true → (b : Bool) → (k == n) ≡ b → b ≡ false
    not_same k is false other = refl
    not_same k is true same = absurd (eqb-false n m apart (sym (eqb-true k n same) ∙ eqb-true k m is))

    stays : (s : PlainSession) → (s.number.0 == m) ≡ true → not (s.number.0 == n) ≡ true
    stays s is = ap not (not_same s.number.0 is (s.number.0 == n) refl)

-- a session that is opened
pub opened_own : (sessions : List PlainSession) (session : PlainSession) (m : ℕ) → session_of sessions (record { 0 = m }) ≡ None
    → (session.number.0 == m) ≡ true
    → session_of (sessions ++ session ∷ []) (record { 0 = m }) ≡ Some session
opened_own sessions session m none is =
    find-append (has_number (record { 0 = m })) sessions (session ∷ [])
    ∙ ap (λ (o : Option PlainSession). option_or o (find (has_number (record { 0 = m })) (session ∷ []))) none
    ∙ ap (λ (b : Bool). cond b (Some session) None) is

pub opened_other : (sessions : List PlainSession) (session : PlainSession) (m : ℕ) → (session.number.0 == m) ≡ false
    → session_of (sessions ++ session ∷ []) (record { 0 = m }) ≡ session_of sessions (record { 0 = m })
opened_other sessions session m apart =
    find-append (has_number (record { 0 = m })) sessions (session ∷ [])
    ∙ ap (λ (b : Bool). option_or (session_of sessions (record { 0 = m })) (cond b (Some session) None)) apart
    ∙ by_case (session_of sessions (record { 0 = m }))
  where
    by_case : (o : Option PlainSession) → option_or o None ≡ o
    by_case None = refl
    by_case (Some s) = refl

-- what a session sees of rebasing
abbrev pub RebasesOwn : GrammarParts → Listed → Option Own → Option Own → Type 0
RebasesOwn g words None new = new ≡ None
RebasesOwn g words (Some old) new = (tokens : List (List ℕ)) × IsRebased g words old.tokens tokens
    × (new ≡ Some (record { article = old.article; tokens = tokens }))

pub rebased_own : (g : GrammarParts) (words : Listed) (old new : List PlainSession) (m : ℕ) → AreRebased g words old new
    → RebasesOwn g words (own_of old m) (own_of new m)
rebased_own g words [] [] m rebased = refl
rebased_own g words [] (n ∷ new) m rebased = absurd rebased
rebased_own g words (o ∷ old) [] m rebased = absurd rebased
rebased_own g words (o ∷ old) (n ∷ new) m rebased =
    subst (λ (k : ℕ). RebasesOwn g words (option_map own (cond (o.number.0 == m) (Some o) (session_of old (record { 0 = m }))))
    (option_map own (cond (k == m) (Some n) (session_of new (record { 0 = m })))))
    same (by_test (o.number.0 == m) (rebased_own g words old new m rebased.1))
  where
    same : o.number.0 ≡ n.number.0
    same = ap (λ (i : SessionId). i.0) (sym rebased.0.number)

    by_test : (b : Bool) → RebasesOwn g words (own_of old m) (own_of new m)
        → RebasesOwn g words (option_map own (cond b (Some o) (session_of old (record { 0 = m }))))
        (option_map own (cond b (Some n) (session_of new (record { 0 = m }))))
    by_test true rest = (n.tokens, rebased.0.tokens, ap (λ (article : WordId). Some (record { article = article; tokens = n.tokens })) rebased.0.article)
    by_test false rest = rest

-- what a session sees of the end of all sessions on an article
abbrev pub ended : WordId → Option Own → Option Own
ended word None = None
ended word (Some old) = cond (old.article.0 == word.0) None (Some old)

pub ended_own : (word : WordId) (m low last : ℕ) (sessions : List PlainSession) → RiseTo low last sessions
    → own_of (without_article sessions word) m ≡ ended word (own_of sessions m)
ended_own word m low last [] rise = refl
ended_own word m low last (s ∷ sessions) rise = by_tests (s.number.0 == m) (is_on word s) refl refl (ended_own word m s.number.0 last sessions rise.1)
  where
    none_later : (s.number.0 == m) ≡ true → own_of (without_article sessions word) m ≡ None
    none_later is = let same = eqb-true s.number.0 m is in
        ap (option_map own) (none_above (λ (t : PlainSession). not (is_on word t)) m s.number.0 last sessions (omega (arith, same)) rise.1)

    by_tests : (b c : Bool) → (s.number.0 == m) ≡ b → is_on word s ≡ c → own_of (without_article sessions word) m ≡ ended word (own_of sessions m)
        → own_of (cond (not c) (s ∷ without_article sessions word) (without_article sessions word)) m
        ≡ ended word (option_map own (cond b (Some s) (session_of sessions (record { 0 = m }))))
    by_tests true true is on rest = none_later is ∙ ap (λ (t : Bool). cond t None (Some (own s))) (sym on)
    by_tests true false is off rest =
        ap (λ (t : Bool). option_map own (cond t (Some s) (session_of (without_article sessions word) (record { 0 = m })))) is
        ∙ ap (λ (t : Bool). cond t None (Some (own s))) (sym off)
    by_tests false true is on rest = rest
    by_tests false false is off rest = ap (λ (t : Bool). option_map own (cond t (Some s) (session_of (without_article sessions word) (record { 0 = m })))) is
        ∙ rest
