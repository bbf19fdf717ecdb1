-- What a change of one session leaves of the list, and what is known of the sessions after it.
use Rattle.std.proofs.Common.{◌≡◌, ℕ, zero, suc, ◌<◌, ◌≤◌, eqb, List, [], ◌∷◌, ◌++◌, length, length-append, filter, take, All, AllPairs, get_or, set, Option, Some, IsSomeAnd, Bool, true, false, not, cond, refl, sym, ap, subst, ◌∙◌, arith}
use Rattle.std.specs.List.{remove}
use Rattle.std.proofs.lemmas.List.Elements.{All-append, All-set, All-filter}
use Rattle.std.proofs.lemmas.List.Kept.{AllPairs-filter}
use Rattle.std.proofs.lemmas.List.Quantifiers.{all_pairs_remove}
use Rattle.std.proofs.lemmas.List.Edits.{length-remove}
use Rattle.std.proofs.lemmas.List.{length-map, length-set, set-get_or, map-append}
use Rattle.wiki_base.specs.declared.numbers.SessionId.{SessionId}
use Rattle.wiki_base.specs.declared.numbers.WordId.{WordId}
use Rattle.wiki_base.proofs.ListLaws.{AllPairs-tail, AllPairs-head}
use Rattle.codeco_terms.specs.GrammarParts.{GrammarParts}
use Rattle.lexicon.specs.Words.{Listed}
use Rattle.derivation_trees.specs.Settings.{Setting}
use Rattle.editor.specs.Editing.{IsEdited}
use Rattle.sessions.proofs.PlaceLemmas.{session_at, with_change-set, without_session-remove}
use Rattle.sessions.specs.declared.session.Session.{Session}
use Rattle.wiki_talk.specs.declared.limits.TheConstants.{MOST_SESSIONS}
use Rattle.plain_wiki.specs.Sessions.{PlainSession, session_of, with_tokens, with_change, without_session, without_article, IsRebasedSession, AreRebased}
use Rattle.sessions.specs.Sessions.{plain, all_plain, AreInOrder, IsKept, AreKept, AreKeptOn, AreSessions}
use Rattle.sessions.specs.Places.{IsPlaceOf}

abbrev Rising : Session → Session → Type 0
Rising a b = a.number.0 < b.number.0

-- Numbers

-- lists with the same numbers stand in the same order
in_order_same : (old new : List Session) → length new ≤ length old → ((k : ℕ) (d : Session) → (get_or new k d).number ≡ (get_or old k d).number)
    → AreInOrder old → AreInOrder new
in_order_same old new short same h i j d lt in_range =
    let one = ap (λ (n : SessionId). n.0) (same i d) in
    let other = ap (λ (n : SessionId). n.0) (same j d) in
    let before = h i j d lt (omega (arith, in_range, short)) in
    omega (arith, one, other, before)

-- a session with the same number in place of another
number_set : (xs : List Session) (i : ℕ) (y : Session) → i < length xs → y.number ≡ (get_or xs i y).number → (k : ℕ) (d : Session)
    → (get_or (set xs i y) k d).number ≡ (get_or xs k d).number
number_set [] i y lt same k d = absurd (omega arith)
number_set (x ∷ xs) zero y lt same zero d = same
number_set (x ∷ xs) zero y lt same (suc k) d = refl
number_set (x ∷ xs) (suc i) y lt same zero d = refl
number_set (x ∷ xs) (suc i) y lt same (suc k) d = number_set xs i y (omega arith) same k d

one_holds : {X : Type 0} (P : X → Type 0) (x : X) → P x → All P (x ∷ [])
one_holds P x h zero d bound = h
one_holds P x h (suc k) d bound = absurd (omega (arith, bound))

pairs_push : {X : Type 0} (R : X → X → Type 0) (xs : List X) (y : X) → AllPairs R xs → All (λ x. R x y) xs → AllPairs R (xs ++ y ∷ [])
pairs_push R [] y pairs below i j d lt in_range = absurd (omega (arith, lt, in_range))
pairs_push R (x ∷ xs) y pairs below zero zero d lt in_range = absurd (omega arith)
pairs_push R (x ∷ xs) y pairs below zero (suc j) d lt in_range =
    All-append (R x) xs (y ∷ []) (AllPairs-head R x xs pairs) (one_holds (R x) y (below zero x (omega arith))) j d (omega (arith, in_range))
pairs_push R (x ∷ xs) y pairs below (suc i) zero d lt in_range = absurd (omega arith)
pairs_push R (x ∷ xs) y pairs below (suc i) (suc j) d lt in_range =
    pairs_push R xs y (AllPairs-tail R x xs pairs) (λ k e bound. below (suc k) e (omega (arith, bound))) i j d (omega (arith, lt)) (omega (arith, in_range))

all_remove : {X : Type 0} (P : X → Type 0) (xs : List X) (place : ℕ) → All P xs → All P (remove xs place)
all_remove P [] zero h = h
all_remove P [] (suc place) h = h
all_remove P (x ∷ xs) zero h = λ k d bound. h (suc k) d (omega (arith, bound))
all_remove P (x ∷ xs) (suc place) h = by (all_remove P xs place (λ k d bound. h (suc k) d (omega (arith, bound))))
  where
    by : All P (remove xs place) → All P (x ∷ remove xs place)
    by rest zero d bound = h zero d (omega arith)
    by rest (suc k) d bound = rest k d (omega (arith, bound))

-- The session with another editor

pub plain_edited : (found : Session) (edited : Setting) (change : List (List ℕ) → List (List ℕ)) → edited.tokens ≡ change found.editor.tokens
    → plain (record found { editor = edited }) ≡ with_tokens change (plain found)
plain_edited found edited change e = ap (λ (t : List (List ℕ)). with_tokens (λ _. t) (plain found)) e

-- The list as it is kept, and the session that stands at the place of the one with the number

module _ (kept sessions : List Session) (same : kept ≡ sessions) (are : AreSessions kept) (number : SessionId) (place : ℕ)
    (is : IsPlaceOf sessions number place) (found : Session) (at : found ≡ get_or kept place found) where
  ordered : AreInOrder sessions
  ordered = subst AreInOrder same are.in_order

  there : place < length kept
  there = subst (λ (xs : List Session). place < length xs) (sym same) is.in_range

  -- it is the one with the number
  pub found_is : session_of (all_plain sessions) number ≡ Some (plain found)
  found_is = session_at sessions ordered number place found is
      ∙ ap (λ (s : Session). Some (plain s)) (sym (at ∙ ap (λ (xs : List Session). get_or xs place found) same))

  -- what is known of the one with the number holds of it, and the other way round
  pub fact_at : (P : PlainSession → Type 0) → IsSomeAnd (session_of (all_plain sessions) number) P → P (plain found)
  fact_at P holds = subst (λ (o : Option PlainSession). IsSomeAnd o P) found_is holds

  pub holds_at : (P : PlainSession → Type 0) → P (plain found) → IsSomeAnd (session_of (all_plain sessions) number) P
  holds_at P holds = subst (λ (o : Option PlainSession). IsSomeAnd o P) (sym found_is) holds

  -- what holds of all holds of it
  pub all_at : (P : Session → Type 0) → All P kept → P found
  all_at P all = subst P (sym at) (all place found there)

  pub kept_at : (g : GrammarParts) (l : Listed) → AreKept g l sessions → IsKept g l found
  kept_at g l h = all_at (IsKept g l) (subst (AreKept g l) (sym same) h)

  pub edited_at : IsEdited found.editor
  edited_at = all_at (λ session. IsEdited session.editor) are.edited

  -- with it changed at its place, the one with the number is changed
  pub change_is : (change : PlainSession → PlainSession) (after : Session) → plain after ≡ change (plain found)
      → all_plain (set kept place after) ≡ with_change (all_plain sessions) number change
  change_is change after changed =
      ap (λ (xs : List Session). all_plain (set xs place after)) same
      ∙ with_change-set sessions ordered number place is change after found
      (changed ∙ ap (λ (s : Session). change (plain s)) (at ∙ ap (λ (xs : List Session). get_or xs place found) same))

  pub kept_after : (g : GrammarParts) (l : Listed) (after : Session) → AreKept g l sessions → IsKept g l after → AreKept g l (set kept place after)
  kept_after g l after h k = All-set (IsKept g l) kept place after k (subst (AreKept g l) (sym same) h)

  -- and where nothing of it is changed, nothing is
  pub same_after : (edited : Setting) → edited ≡ found.editor → set kept place (record found { editor = edited }) ≡ sessions
  same_after edited e =
      ap (λ (x : Setting). set kept place (record found { editor = x })) e ∙ ap (set kept place) at ∙ set-get_or kept place found ∙ same

  pub still_sessions : (after : Session) → after.number ≡ found.number → IsEdited after.editor → AreSessions (set kept place after)
  still_sessions after numbered edited = record {
    in_order = in_order_same kept (set kept place after) (let long = length-set kept place after in omega (arith, long))
        (number_set kept place after there (numbered ∙ ap (λ (s : Session). s.number) at ∙ default_alike)) are.in_order;
    few = let long = length-set kept place after in let few = are.few in omega (arith, long, few);
    edited = All-set (λ session. IsEdited session.editor) kept place after edited are.edited;
  }
    where
      alike : (xs : List Session) (i : ℕ) (d e : Session) → i < length xs → get_or xs i d ≡ get_or xs i e
      alike [] i d e lt = absurd (omega arith)
      alike (x ∷ xs) zero d e lt = refl
      alike (x ∷ xs) (suc i) d e lt = alike xs i d e (omega arith)

      default_alike : (get_or kept place found).number ≡ (get_or kept place after).number
      default_alike = ap (λ (s : Session). s.number) (alike kept place found after there)

-- A session taken out

pub removed_is : (kept sessions : List Session) → kept ≡ sessions → AreSessions kept → (number : SessionId) (place : ℕ) → IsPlaceOf sessions number place
    → all_plain (remove kept place) ≡ without_session (all_plain sessions) number
removed_is kept sessions same are number place is =
    ap (λ (xs : List Session). all_plain (remove xs place)) same ∙ without_session-remove sessions (subst AreInOrder same are.in_order) number place is

pub kept_removed : (kept sessions : List Session) → kept ≡ sessions → (place : ℕ) → AreKeptOn sessions (remove kept place)
kept_removed kept sessions same place g l h = all_remove (IsKept g l) kept place (subst (AreKept g l) (sym same) h)

pub removed_sessions : (kept sessions : List Session) → kept ≡ sessions → AreSessions kept → (number : SessionId) (place : ℕ) → IsPlaceOf sessions number place
    → AreSessions (remove kept place)
removed_sessions kept sessions same are number place is =
    let there : place < length kept = subst (λ (xs : List Session). place < length xs) (sym same) is.in_range in
    record {
      in_order = all_pairs_remove Rising kept place there are.in_order;
      few = let long = length-remove kept place there in let few = are.few in omega (arith, long, few);
      edited = all_remove (λ (session : Session). IsEdited session.editor) kept place are.edited;
    }

-- Sessions on an article taken out

filter_short : {X : Type 0} (p : X → Bool) (xs : List X) → length (filter p xs) ≤ length xs
filter_short p [] = omega arith
filter_short p (x ∷ xs) = by (p x) (filter_short p xs)
  where
    by : (b : Bool) → length (filter p xs) ≤ length xs → length (cond b (x ∷ filter p xs) (filter p xs)) ≤ length (x ∷ xs)
    by true rest = omega (arith, rest)
    by false rest = omega (arith, rest)

pub filtered_sessions : (p : Session → Bool) (sessions : List Session) → AreSessions sessions → AreSessions (filter p sessions)
filtered_sessions p sessions are = record {
  in_order = AllPairs-filter Rising p sessions are.in_order;
  few = let short = filter_short p sessions in let few = are.few in omega (arith, short, few);
  edited = All-filter p (λ (session : Session). IsEdited session.editor) sessions are.edited;
}

pub filtered_is : (sessions : List Session) (article : WordId)
    → all_plain (filter (λ session. not (eqb session.article.0 article.0)) sessions) ≡ without_article (all_plain sessions) article
filtered_is [] article = refl
filtered_is (s ∷ ss) article = by (eqb s.article.0 article.0) (filtered_is ss article)
  where
    by : (b : Bool) → all_plain (filter (λ session. not (eqb session.article.0 article.0)) ss) ≡ without_article (all_plain ss) article
        → all_plain (cond (not b) (s ∷ filter (λ session. not (eqb session.article.0 article.0)) ss)
        (filter (λ session. not (eqb session.article.0 article.0)) ss))
        ≡ cond (not b) (plain s ∷ without_article (all_plain ss) article) (without_article (all_plain ss) article)
    by true rest = rest
    by false rest = ap (λ (others : List PlainSession). plain s ∷ others) rest

pub kept_filtered : (p : Session → Bool) (sessions : List Session) → AreKeptOn sessions (filter p sessions)
kept_filtered p sessions g l h = All-filter p (IsKept g l) sessions h

-- A session added

pub opened_sessions : (sessions : List Session) (s : Session) → AreSessions sessions → length (all_plain sessions) < MOST_SESSIONS
    → All (λ other. other.number.0 < s.number.0) (all_plain sessions) → IsEdited s.editor → AreSessions (sessions ++ s ∷ [])
opened_sessions sessions s are room below edited = record {
  in_order = pairs_push Rising sessions s are.in_order
      (λ k d bound. subst (λ (x : PlainSession). x.number.0 < s.number.0) (mapped sessions k d)
      (below k (plain d) (let long = length-map sessions plain in omega (arith, long, bound))));
  few = let long = length-append sessions (s ∷ []) in let shown = length-map sessions plain in omega (arith, long, room, shown);
  edited = All-append (λ session. IsEdited session.editor) sessions (s ∷ []) are.edited (one_holds (λ (session : Session). IsEdited session.editor) s edited);
}
  where
    mapped : (xs : List Session) (k : ℕ) (d : Session) → get_or (all_plain xs) k (plain d) ≡ plain (get_or xs k d)
    mapped [] k d = refl
    mapped (x ∷ xs) zero d = refl
    mapped (x ∷ xs) (suc k) d = mapped xs k d

pub opened_kept : (g : GrammarParts) (l : Listed) (sessions : List Session) (s : Session) → AreKept g l sessions → IsKept g l s
    → AreKept g l (sessions ++ s ∷ [])
opened_kept g l sessions s h k = All-append (IsKept g l) sessions (s ∷ []) h (one_holds (IsKept g l) s k)

pub opened_edited : (sessions : List Session) (s : Session) → All (λ session. IsEdited session.editor) sessions → IsEdited s.editor
    → All (λ session. IsEdited session.editor) (sessions ++ s ∷ [])
opened_edited sessions s h k = All-append (λ (session : Session). IsEdited session.editor) sessions (s ∷ []) h
    (one_holds (λ (session : Session). IsEdited session.editor) s k)

pub opened_plain : (sessions : List Session) (s : Session) → all_plain (sessions ++ s ∷ []) ≡ all_plain sessions ++ plain s ∷ []
opened_plain sessions s = map-append plain sessions (s ∷ [])

-- Sessions rebased

rebased_push : (g : GrammarParts) (l : Listed) (xs ys : List PlainSession) (x y : PlainSession) → AreRebased g l xs ys → IsRebasedSession g l x y
    → AreRebased g l (xs ++ x ∷ []) (ys ++ y ∷ [])
rebased_push g l [] [] x y h one = (one, tt)
rebased_push g l [] (z ∷ ys) x y h one = absurd h
rebased_push g l (z ∷ xs) [] x y h one = absurd h
rebased_push g l (z ∷ xs) (w ∷ ys) x y h one = (h.0, rebased_push g l xs ys x y h.1 one)

-- one session more is rebased
pub rebased_more : (g : GrammarParts) (l : Listed) (old new : List Session) (s : Session) (front : List Session) → front ≡ old ++ s ∷ [] → (r : Session)
    → AreRebased g l (all_plain old) (all_plain new) → IsRebasedSession g l (plain s) (plain r) → AreRebased g l (all_plain front) (all_plain (new ++ r ∷ []))
rebased_more g l old new s front e r h one =
    subst (λ (xs : List PlainSession). AreRebased g l xs (all_plain (new ++ r ∷ []))) (sym (ap all_plain e ∙ opened_plain old s))
    (subst (AreRebased g l (all_plain old ++ plain s ∷ [])) (sym (opened_plain new r))
    (rebased_push g l (all_plain old) (all_plain new) (plain s) (plain r) h one))

-- when all are rebased
pub rebased_whole : (g : GrammarParts) (l : Listed) (items old new : List Session) (i : ℕ) → length items ≤ i → items ≡ old
    → AreRebased g l (all_plain (take i items)) (all_plain new) → AreRebased g l (all_plain old) (all_plain new)
rebased_whole g l items old new i all same h = subst (λ (xs : List Session). AreRebased g l (all_plain xs) (all_plain new)) (take_whole items i all ∙ same) h
  where
    take_whole : (xs : List Session) (n : ℕ) → length xs ≤ n → take n xs ≡ xs
    take_whole [] zero le = refl
    take_whole [] (suc n) le = refl
    take_whole (x ∷ xs) zero le = absurd (omega (arith, le))
    take_whole (x ∷ xs) (suc n) le = ap (λ (ys : List Session). x ∷ ys) (take_whole xs n (omega (arith, le)))

rebased_long : (g : GrammarParts) (l : Listed) (old new : List Session) → AreRebased g l (all_plain old) (all_plain new) → length new ≡ length old
rebased_long g l [] [] h = refl
rebased_long g l [] (y ∷ new) h = absurd h
rebased_long g l (x ∷ old) [] h = absurd h
rebased_long g l (x ∷ old) (y ∷ new) h = let rest = rebased_long g l old new h.1 in omega (arith, rest)

rebased_numbers : (g : GrammarParts) (l : Listed) (old new : List Session) → AreRebased g l (all_plain old) (all_plain new) → (k : ℕ) (d : Session)
    → (get_or new k d).number ≡ (get_or old k d).number
rebased_numbers g l [] [] h k d = refl
rebased_numbers g l [] (y ∷ new) h k d = absurd h
rebased_numbers g l (x ∷ old) [] h k d = absurd h
rebased_numbers g l (x ∷ old) (y ∷ new) h zero d = h.0.number
rebased_numbers g l (x ∷ old) (y ∷ new) h (suc k) d = rebased_numbers g l old new h.1 k d

pub rebased_sessions : (g : GrammarParts) (l : Listed) (old new : List Session) → AreSessions old → AreRebased g l (all_plain old) (all_plain new)
    → All (λ session. IsEdited session.editor) new → AreSessions new
rebased_sessions g l old new are h edited = record {
  in_order = in_order_same old new (let long = rebased_long g l old new h in omega (arith, long)) (rebased_numbers g l old new h) are.in_order;
  few = let long = rebased_long g l old new h in let few = are.few in omega (arith, long, few);
  edited = edited;
}
