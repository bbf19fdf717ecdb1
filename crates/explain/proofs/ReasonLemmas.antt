-- Lists of parts above and below one another, and the way to a reason.
use Rattle.std.proofs.Common.{◌≡◌, ◌==◌, ℕ, zero, suc, ◌+◌, ◌<◌, ◌≤◌, Bool, true, false, if◌then◌else◌, not, cond, List, [], ◌∷◌, ◌++◌, length, get_or, remove, drop, All, refl, sym, ap, ◌∙◌, subst, inl, inr, eq-eqb, append-nil, ◌-◌, arith, add-zero, add-suc, suc-add, zero-add, add-one, append_assoc, drop-cons, drop-drop, get_or-drop, le_refl}
use Rattle.std.specs.List.{AllZip, list_all}
use Rattle.std.proofs.lemmas.Bool.{and_from}
use Rattle.std.proofs.lemmas.List.{drop_all}
use Rattle.std.proofs.lemmas.List.Folds.{list_all-append}
use Rattle.std.proofs.lemmas.List.Elements.{All-nil, All-cons, All-head, All-tail, All-append, All-drop, All-filter, All-get_or, filter-append}
use Rattle.wiki_base.specs.declared.numbers.WordId.{WordId}
use Rattle.logic_terms.specs.Concept.{Claim}
use Rattle.logic_terms.specs.Interpretation.{Interpretation}
use Rattle.logic_terms.specs.Reading.{IsModel, Holds}
use Rattle.reasoner.specs.Verdicts.{IsFiniteModel, HaveNoModel}
use Rattle.explain.specs.Reasons.{places_from, places_of, stated_at, without, IsLeft, IsTried, IsReason, IsAsked}
use Rattle.explain.specs.declared.narrowing.Core.{Core}
use Rattle.explain.specs.Narrow.{AreBetween, AreShown, IsCore, IsShut}

-- each kept part is needed beside the rest, and what is left of both lists is left of all parts
pub record IsOnTheWay (parts : List (List Claim)) (kept rest : List ℕ) (shown : List Interpretation) : Type 0 where
  pub shown_each : AreShown parts kept rest shown
  pub leads : (left : List ℕ) → IsLeft parts kept rest left → IsReason parts left
  pub asks : (asked : List ℕ) → IsTried parts kept rest asked → IsAsked parts asked

all_parts : {X : Type 0} (P : X → Type 0) (xs ys : List X) → All P (xs ++ ys) → All P xs × All P ys
all_parts P [] ys h = (All-nil P, h)
all_parts P (x ∷ xs) ys h =
    let two = all_parts P xs ys (All-tail P x (xs ++ ys) h) in
    (All-cons P x xs (All-head P x (xs ++ ys) h) two.0, two.1)

-- one place more
places_more : (first n : ℕ) → places_from first n ++ (first + n) ∷ [] ≡ places_from first (suc n)
places_more first zero = ap (λ m. m ∷ []) (add-zero first)
places_more first (suc n) =
    ap (λ m. first ∷ (places_from (suc first) n ++ m ∷ [])) (add-suc first n ∙ sym (suc-add first n)) ∙ ap (λ l. first ∷ l) (places_more (suc first) n)

pub first_more : (n : ℕ) → places_from 0 n ++ n ∷ [] ≡ places_from 0 (n + 1)
first_more n = ap (λ m. places_from 0 n ++ m ∷ []) (sym (zero-add n)) ∙ places_more 0 n ∙ ap (places_from 0) (sym (add-one n))

-- what holds of each claim of each part holds of the claims that are gathered
pub each_or : (P : List Claim → Type 0) (parts : List (List Claim)) (place : ℕ) → All P parts → P [] → P (get_or parts place [])
each_or P [] place all none = none
each_or P (p ∷ ps) zero all none = All-head P p ps all
each_or P (p ∷ ps) (suc place) all none = each_or P ps place (All-tail P p ps all) none

pub gathered_fit : (test : Claim → Bool) (parts : List (List Claim)) (places : List ℕ) → All (λ claims. list_all test claims ≡ true) parts
    → list_all test (stated_at parts places) ≡ true
gathered_fit test parts [] all = refl
gathered_fit test parts (p ∷ ps) all =
    list_all-append test (get_or parts p []) (stated_at parts ps)
    ∙ and_from (list_all test (get_or parts p [])) (list_all test (stated_at parts ps))
    (each_or (λ claims. list_all test claims ≡ true) parts p all refl) (gathered_fit test parts ps all)

pub places_long : (first n : ℕ) → length (places_from first n) ≡ n
places_long first zero = refl
places_long first (suc n) = ap suc (places_long (suc first) n)

pub all_long : (parts : List (List Claim)) (all : List ℕ) → all ≡ places_of parts → length all ≡ length parts
all_long parts all whole = ap length whole ∙ places_long 0 (length parts)

-- behind the first ones stand the places from there on
places_behind : (first from n : ℕ) → drop from (places_from first n) ≡ places_from (first + from) (n - from)
places_behind first zero n =
    let e : first ≡ first + 0 = omega arith in
    let f : n ≡ n - 0 = omega arith in
    ap (λ m. places_from m n) e ∙ ap (places_from (first + 0)) f
places_behind first (suc from) zero = let e : 0 ≡ 0 - suc from = omega arith in ap (places_from (first + suc from)) e
places_behind first (suc from) (suc n) =
    let e : suc first + from ≡ first + suc from = omega arith in
    let f : n - from ≡ suc n - suc from = omega arith in
    places_behind (suc first) from n ∙ ap (λ m. places_from m (n - from)) e ∙ ap (places_from (first + suc from)) f

places_rest : (from n : ℕ) → drop from (places_from 0 n) ≡ places_from from (n - from)
places_rest from n = places_behind 0 from n ∙ ap (λ m. places_from m (n - from)) (zero-add from)

-- at a place stands its own number
place_at : (first n m d : ℕ) → m < n → get_or (places_from first n) m d ≡ first + m
place_at first zero m d lt = absurd (omega (arith, lt))
place_at first (suc n) zero d lt = sym (add-zero first)
place_at first (suc n) (suc m) d lt = let e : suc first + m ≡ first + suc m = omega arith in place_at (suc first) n m d (omega (arith, lt)) ∙ e

each_at : (P : ℕ → Type 0) (first n m : ℕ) → All P (places_from first n) → m < n → P (first + m)
each_at P first n m all lt =
    subst P (place_at first n m 0 lt) (All-get_or P (places_from first n) m 0 (subst (λ l. m < l) (sym (places_long first n)) lt) all)

-- all places from one on rise
all_between : (first to n : ℕ) → first + n ≡ to → AreBetween first to (places_from first n)
all_between first to zero e = tt
all_between first to (suc n) e = (
  le_refl first,
  (
    omega (arith, e),
    subst (λ m. AreBetween m to (places_from (suc first) n)) (sym (add-one first)) (all_between (suc first) to n (omega (arith, e))),
  ),
)

pub rest_between : (from n : ℕ) → from ≤ n → AreBetween from n (drop from (places_from 0 n))
rest_between from n le = subst (AreBetween from n) (sym (places_rest from n)) (all_between from n (n - from) (omega (arith, le)))

-- rising places with one more in front of them, or not
pub between_front : (used : Bool) (from to : ℕ) (places : List ℕ) → from < to → AreBetween (from + 1) to places
    → AreBetween from to (if used then from ∷ places else places)
between_front true from to places lt h = (le_refl from, (lt, h))
between_front false from to [] lt h = tt
between_front false from to (p ∷ ps) lt h = (omega (arith, h.0), h.1)

-- lists of which each place of one belongs to a place of the other
pub zip_long : {A B : Type 0} (R : A → B → Type 0) (xs : List A) (ys : List B) → AllZip R xs ys → length xs ≡ length ys
zip_long R [] [] h = refl
zip_long R [] (y ∷ ys) h = absurd h
zip_long R (x ∷ xs) [] h = absurd h
zip_long R (x ∷ xs) (y ∷ ys) h = ap suc (zip_long R xs ys h.1)

pub zip_push : {A B : Type 0} (R : A → B → Type 0) (xs : List A) (ys : List B) (x : A) (y : B) → AllZip R xs ys → R x y → AllZip R (xs ++ x ∷ []) (ys ++ y ∷ [])
zip_push R [] [] x y h r = (r, tt)
zip_push R [] (b ∷ ys) x y h r = absurd h
zip_push R (a ∷ xs) [] x y h r = absurd h
zip_push R (a ∷ xs) (b ∷ ys) x y h r = (h.0, zip_push R xs ys x y h.1 r)

pub zip_at : {A B : Type 0} (R : A → B → Type 0) (xs : List A) (ys : List B) (i : ℕ) (d : A) (e : B) → AllZip R xs ys → i < length xs
    → R (get_or xs i d) (get_or ys i e)
zip_at R [] ys i d e h lt = absurd (omega arith)
zip_at R (x ∷ xs) [] i d e h lt = absurd h
zip_at R (x ∷ xs) (y ∷ ys) zero d e h lt = h.0
zip_at R (x ∷ xs) (y ∷ ys) (suc i) d e h lt = zip_at R xs ys i d e h.1 (omega arith)

module _ (parts : List (List Claim)) where
  -- an interpretation is a model of one part
  abbrev IsOfPart : Interpretation → ℕ → Type 0
  IsOfPart i place = IsModel i (get_or parts place [])

  of_each : (i : Interpretation) (places : List ℕ) → IsModel i (stated_at parts places) → All (IsOfPart i) places
  of_each i [] h = All-nil (IsOfPart i)
  of_each i (p ∷ ps) h =
      let two = all_parts (Holds i) (get_or parts p []) (stated_at parts ps) h in
      All-cons (IsOfPart i) p ps two.0 (of_each i ps two.1)

  of_all : (i : Interpretation) (places : List ℕ) → All (IsOfPart i) places → IsModel i (stated_at parts places)
  of_all i [] h = All-nil (Holds i)
  of_all i (p ∷ ps) h =
      All-append (Holds i) (get_or parts p []) (stated_at parts ps) (All-head (IsOfPart i) p ps h) (of_all i ps (All-tail (IsOfPart i) p ps h))

  -- what has no model with a later part of a list has none with the list
  none_above : (kept rest : List ℕ) (low : ℕ) → HaveNoModel (stated_at parts (kept ++ drop low rest)) → HaveNoModel (stated_at parts (kept ++ rest))
  none_above kept rest low none i m =
      let two = all_parts (IsOfPart i) kept rest (of_each i (kept ++ rest) m.1) in
      none i (m.0, of_all i (kept ++ drop low rest) (All-append (IsOfPart i) kept (drop low rest) two.0 (All-drop (IsOfPart i) low rest two.1)))

  -- places in front of those with which the kept ones contradict each other are left out
  pub skips : (kept rest : List ℕ) (low : ℕ) (left : List ℕ) → HaveNoModel (stated_at parts (kept ++ drop low rest)) → IsLeft parts kept (drop low rest) left
      → IsLeft parts kept rest left
  skips kept rest zero left none h = h
  skips kept [] (suc low) left none h = h
  skips kept (p ∷ ps) (suc low) left none h = inl (none_above kept ps low none, skips kept ps low left none h)

  pub asks_on : (kept rest : List ℕ) (low : ℕ) (asked : List ℕ) → HaveNoModel (stated_at parts (kept ++ drop low rest))
      → IsTried parts kept (drop low rest) asked
      → IsTried parts kept rest asked
  asks_on kept rest zero asked none h = h
  asks_on kept [] (suc low) asked none h = h
  asks_on kept (p ∷ ps) (suc low) asked none h = inr (inl (none_above kept ps low none, asks_on kept ps low asked none h))

  -- a model of the others with a rest is one of the others with an end of the rest
  fewer : (kept rest : List ℕ) (low : ℕ) (shown : List Interpretation) → AreShown parts kept rest shown → AreShown parts kept (drop low rest) shown
  fewer kept rest low shown h = each kept shown h
    where
      each : (ks : List ℕ) (is : List Interpretation) → AllZip (λ p i. IsFiniteModel i (stated_at parts (without p kept ++ rest))) ks is
          → AllZip (λ p i. IsFiniteModel i (stated_at parts (without p kept ++ drop low rest))) ks is
      each [] [] h = tt
      each [] (i ∷ is) h = absurd h
      each (k ∷ ks) [] h = absurd h
      each (k ∷ ks) (i ∷ is) h =
          let two = all_parts (IsOfPart i) (without k kept) rest (of_each i (without k kept ++ rest) h.0.1) in (
            (
              h.0.0,
              of_all i (without k kept ++ drop low rest)
                  (All-append (IsOfPart i) (without k kept) (drop low rest) two.0 (All-drop (IsOfPart i) low rest two.1)),
            ),
            each ks is h.1,
          )

  -- what contradicts the kept parts does so with all places from the first of it on
  each_between : (i : Interpretation) (from to : ℕ) (places : List ℕ) → ((m : ℕ) → from ≤ m → m < to → IsOfPart i m) → AreBetween from to places
      → All (IsOfPart i) places
  each_between i from to [] each h = All-nil (IsOfPart i)
  each_between i from to (p ∷ ps) each h =
      All-cons (IsOfPart i) p ps (each p h.0 h.1.0) (each_between i (p + 1) to ps (λ m le lt. each m (omega (arith, h.0, le)) lt) h.1.1)

  of_rest : (i : Interpretation) (from n m : ℕ) → All (IsOfPart i) (drop from (places_from 0 n)) → from ≤ m → m < n → IsOfPart i m
  of_rest i from n m all le lt =
      let e : from + (m - from) ≡ m = omega (arith, le) in
      subst (IsOfPart i) e (each_at (IsOfPart i) from (n - from) (m - from) (subst (All (IsOfPart i)) (places_rest from n) all) (omega (arith, le, lt)))

  none_with : (kept chosen : List ℕ) (from n : ℕ) → AreBetween from n chosen → HaveNoModel (stated_at parts (kept ++ chosen))
      → HaveNoModel (stated_at parts (kept ++ drop from (places_from 0 n)))
  none_with kept chosen from n between none i m =
      let rest = drop from (places_from 0 n) in
      let two = all_parts (IsOfPart i) kept rest (of_each i (kept ++ rest) m.1) in
      none i (
        m.0,
        of_all i (kept ++ chosen)
            (All-append (IsOfPart i) kept chosen two.0 (each_between i from n chosen (λ p le lt. of_rest i from n p two.1 le lt) between)),
      )

  module _ (kept rest : List ℕ) (low place : ℕ) (here : drop low rest ≡ place ∷ drop (suc low) rest)
      (none : HaveNoModel (stated_at parts (kept ++ drop low rest))) where
    -- the place stays without which there is a model
    pub needs : (left : List ℕ) → ¬ HaveNoModel (stated_at parts (kept ++ drop (suc low) rest))
        → IsLeft parts (kept ++ place ∷ []) (drop (suc low) rest) left → IsLeft parts kept rest left
    needs left some h = skips kept rest low left none (subst (λ l. IsLeft parts kept l left) (sym here) (inr (some, h)))

    pub needs_asked : (asked : List ℕ) → ¬ HaveNoModel (stated_at parts (kept ++ drop (suc low) rest))
        → IsTried parts (kept ++ place ∷ []) (drop (suc low) rest) asked → IsTried parts kept rest asked
    needs_asked asked some h = asks_on kept rest low asked none (subst (λ l. IsTried parts kept l asked) (sym here) (inr (inr (some, h))))

    -- of the list without it is asked
    pub asks_here : IsTried parts kept rest (kept ++ drop (suc low) rest)
    asks_here =
        asks_on kept rest low (kept ++ drop (suc low) rest) none
        (subst (λ l. IsTried parts kept l (kept ++ drop (suc low) rest)) (sym here) (inl refl))

    -- a model of the others with a rest is one of the others with a place of the rest and what stands behind it
    still_shows : (p : ℕ) (i : Interpretation) → IsFiniteModel i (stated_at parts (without p kept ++ rest))
        → IsFiniteModel i (stated_at parts (without p (kept ++ place ∷ []) ++ drop (suc low) rest))
    still_shows p i m =
        let P : ℕ → Type 0 = IsOfPart i in
        let keep : ℕ → Bool = λ other. not (other == p) in
        let two = all_parts P (without p kept) rest (of_each i (without p kept ++ rest) m.1) in
        let behind = subst (All P) here (All-drop P low rest two.1) in
        let tail = All-tail P place (drop (suc low) rest) behind in
        let one = All-filter keep P (place ∷ []) (All-cons P place [] (All-head P place (drop (suc low) rest) behind) (All-nil P)) in
        let front = subst (All P) (sym (filter-append keep kept (place ∷ []))) (All-append P (without p kept) (without p (place ∷ [])) two.0 one) in
        (m.0, of_all i (without p (kept ++ place ∷ []) ++ drop (suc low) rest) (All-append P (without p (kept ++ place ∷ [])) (drop (suc low) rest) front tail))

    -- a model of the kept ones with a rest is one of the others than the place that joins them
    shows : (i : Interpretation) → IsFiniteModel i (stated_at parts (kept ++ drop (suc low) rest))
        → IsFiniteModel i (stated_at parts (without place (kept ++ place ∷ []) ++ drop (suc low) rest))
    shows i m =
        let P : ℕ → Type 0 = IsOfPart i in
        let keep : ℕ → Bool = λ other. not (other == place) in
        let two = all_parts P kept (drop (suc low) rest) (of_each i (kept ++ drop (suc low) rest) m.1) in
        let gone : without place (place ∷ []) ≡ [] = ap (λ b. cond (not b) (place ∷ []) []) (eq-eqb place place refl) in
        let one = subst (All P) (sym gone) (All-nil P) in
        let front = subst (All P) (sym (filter-append keep kept (place ∷ [])))
        (All-append P (without place kept) (without place (place ∷ [])) (All-filter keep P kept two.0) one) in (
          m.0,
          of_all i (without place (kept ++ place ∷ []) ++ drop (suc low) rest)
              (All-append P (without place (kept ++ place ∷ [])) (drop (suc low) rest) front two.1),
        )

    pub shown_on : (shown : List Interpretation) (i : Interpretation) → AreShown parts kept rest shown
        → IsFiniteModel i (stated_at parts (kept ++ drop (suc low) rest))
        → AreShown parts (kept ++ place ∷ []) (drop (suc low) rest) (shown ++ i ∷ [])
    shown_on shown i all m = pushed kept shown all
      where
        pushed : (ks : List ℕ) (is : List Interpretation) → AllZip (λ p j. IsFiniteModel j (stated_at parts (without p kept ++ rest))) ks is
            → AllZip (λ p j. IsFiniteModel j (stated_at parts (without p (kept ++ place ∷ []) ++ drop (suc low) rest))) (ks ++ place ∷ []) (is ++ i ∷ [])
        pushed [] [] h = (shows i m, tt)
        pushed [] (j ∷ is) h = absurd h
        pushed (k ∷ ks) [] h = absurd h
        pushed (k ∷ ks) (j ∷ is) h = (still_shows k j h.0, pushed ks is h.1)

-- the way to a reason goes on behind a place that is needed
more : (parts : List (List Claim)) (kept all : List ℕ) (shown : List Interpretation) (from low d : ℕ) (i : Interpretation)
    → IsOnTheWay parts kept (drop from all) shown → low < length (drop from all) → HaveNoModel (stated_at parts (kept ++ drop low (drop from all)))
    → IsFiniteModel i (stated_at parts (kept ++ drop (low + 1) (drop from all)))
    → IsOnTheWay parts (kept ++ get_or all (from + low) d ∷ []) (drop (from + (low + 1)) all) (shown ++ i ∷ [])
more parts kept all shown from low d i way less none model =
    let rest = drop from all in
    let place = get_or all (from + low) d in
    let behind : drop (from + (low + 1)) all ≡ drop (suc low) rest =
    sym (ap (λ n. drop n rest) (sym (add-one low)) ∙ drop-drop (low + 1) from all) in
    let here : drop low rest ≡ place ∷ drop (suc low) rest =
    drop-cons rest low d less ∙ ap (λ x. x ∷ drop (suc low) rest) (get_or-drop from all low d) in
    let found : IsFiniteModel i (stated_at parts (kept ++ drop (suc low) rest)) =
    subst (λ n. IsFiniteModel i (stated_at parts (kept ++ drop n rest))) (add-one low) model in
    let some : ¬ HaveNoModel (stated_at parts (kept ++ drop (suc low) rest)) = λ none. none i found in
    subst (λ l. IsOnTheWay parts (kept ++ place ∷ []) l (shown ++ i ∷ [])) (sym behind) record {
      shown_each = shown_on parts kept rest low place here none shown i way.shown_each found;
      leads = λ left h. way.leads left (needs parts kept rest low place here none left some h);
      asks = λ asked h. way.asks asked (needs_asked parts kept rest low place here none asked some h);
    }

-- a list of which it is asked
asked_at : (parts : List (List Claim)) (kept all : List ℕ) (shown : List Interpretation) (from low : ℕ)
    → IsOnTheWay parts kept (drop from all) shown → low < length (drop from all)
    → HaveNoModel (stated_at parts (kept ++ drop low (drop from all))) → IsAsked parts (kept ++ drop (low + 1) (drop from all))
asked_at parts kept all shown from low way less none =
    let rest = drop from all in
    let here = drop-cons rest low 0 less in
    subst (λ n. IsAsked parts (kept ++ drop n rest)) (sym (add-one low))
    (way.asks (kept ++ drop (suc low) rest) (asks_here parts kept rest low (get_or rest low 0) here none))

module _ (parts : List (List Claim)) (kept : List ℕ) (shown : List Interpretation) (from place n : ℕ) (le : from ≤ place)
    (way : IsOnTheWay parts kept (drop from (places_from 0 n)) shown) where
  lands : (m : ℕ) → drop (place - from + m) (drop from (places_from 0 n)) ≡ drop (place + m) (places_from 0 n)
  lands m = let e : from + (place - from + m) ≡ place + m = omega (arith, le) in
      drop-drop (place - from + m) from (places_from 0 n) ∙ ap (λ k. drop k (places_from 0 n)) e

  lands_here : drop (place - from) (drop from (places_from 0 n)) ≡ drop place (places_from 0 n)
  lands_here = let e : from + (place - from) ≡ place = omega (arith, le) in
      drop-drop (place - from) from (places_from 0 n) ∙ ap (λ k. drop k (places_from 0 n)) e

  short : place < n → place - from < length (drop from (places_from 0 n))
  short lt =
      let e : length (drop from (places_from 0 n)) ≡ n - from = ap length (places_rest from n) ∙ places_long from (n - from) in
      subst (λ l. place - from < l) (sym e) (omega (arith, le, lt))

  -- the place that a core begins with is needed where there is a model without it
  pub keeps : (i : Interpretation) → place < n → HaveNoModel (stated_at parts (kept ++ drop place (places_from 0 n)))
      → IsFiniteModel i (stated_at parts (kept ++ drop (place + 1) (places_from 0 n)))
      → IsOnTheWay parts (kept ++ place ∷ []) (drop (place + 1) (places_from 0 n)) (shown ++ i ∷ [])
  keeps i lt none model =
      let e : from + (place - from) ≡ place = omega (arith, le) in
      let f : from + (place - from + 1) ≡ place + 1 = omega (arith, le) in
      let own : get_or (places_from 0 n) (from + (place - from)) 0 ≡ place =
      ap (λ m. get_or (places_from 0 n) m 0) e ∙ place_at 0 n place 0 lt ∙ zero-add place in
      let made = more parts kept (places_from 0 n) shown from (place - from) 0 i way (short lt)
      (subst (λ l. HaveNoModel (stated_at parts (kept ++ l))) (sym lands_here) none)
      (subst (λ l. IsFiniteModel i (stated_at parts (kept ++ l))) (sym (lands 1)) model) in
      subst (λ m. IsOnTheWay parts (kept ++ place ∷ []) (drop m (places_from 0 n)) (shown ++ i ∷ [])) f
      (subst (λ p. IsOnTheWay parts (kept ++ p ∷ []) (drop (from + (place - from + 1)) (places_from 0 n)) (shown ++ i ∷ [])) own made)

  pub asks_behind : place < n → HaveNoModel (stated_at parts (kept ++ drop place (places_from 0 n)))
      → IsAsked parts (kept ++ drop (place + 1) (places_from 0 n))
  asks_behind lt none =
      subst (λ l. IsAsked parts (kept ++ l)) (lands 1)
      (asked_at parts kept (places_from 0 n) shown from (place - from) way (short lt)
      (subst (λ l. HaveNoModel (stated_at parts (kept ++ l))) (sym lands_here) none))

  -- what stands before a place goes where the kept parts contradict each other with all from there on
  pub leaves : HaveNoModel (stated_at parts (kept ++ drop place (places_from 0 n))) → IsOnTheWay parts kept (drop place (places_from 0 n)) shown
  leaves none =
      let rest = drop from (places_from 0 n) in
      let gone = subst (λ l. HaveNoModel (stated_at parts (kept ++ l))) (sym lands_here) none in
      subst (λ l. IsOnTheWay parts kept l shown) lands_here record {
        shown_each = fewer parts kept rest (place - from) shown way.shown_each;
        leads = λ left h. way.leads left (skips parts kept rest (place - from) left gone h);
        asks = λ asked h. way.asks asked (asks_on parts kept rest (place - from) asked gone h);
      }

-- a core begins with a place that contradicts the kept parts with all behind it
pub core_first : (parts : List (List Claim)) (names : List WordId) (kept : List ℕ) (from place : ℕ) (places : List ℕ) (core : Core)
    → core.chosen ≡ place ∷ places → IsCore parts names kept from core
    → (from ≤ place) × ((place < length parts) × HaveNoModel (stated_at parts (kept ++ drop place (places_of parts))))
core_first parts names kept from place places core first is =
    let between = subst (AreBetween from (length parts)) first is.between in (
      between.0,
      (
        between.1.0,
        none_with parts kept (place ∷ places) place (length parts) (le_refl place, (between.1.0, between.1.1))
            (subst (λ l. HaveNoModel (stated_at parts (kept ++ l))) first is.shut.none),
      ),
    )

-- a core whose first place is kept
pub core_rest : (parts : List (List Claim)) (names : List WordId) (kept : List ℕ) (from place : ℕ) (places : List ℕ) (core left : Core)
    → core.chosen ≡ place ∷ places → left.chosen ≡ remove core.chosen 0 → left.closed ≡ core.closed → IsCore parts names kept from core
    → IsCore parts names (kept ++ place ∷ []) (place + 1) left
core_rest parts names kept from place places core left first rest same is =
    let behind : left.chosen ≡ places = rest ∙ ap (λ l. remove l 0) first in
    let between = subst (AreBetween from (length parts)) first is.between in
    let whole : kept ++ core.chosen ≡ (kept ++ place ∷ []) ++ left.chosen =
    ap (λ l. kept ++ l) first ∙ sym (append_assoc kept (place ∷ []) places) ∙ ap (λ l. (kept ++ place ∷ []) ++ l) (sym behind) in
    record {
      shut = subst (λ t. IsShut (stated_at parts ((kept ++ place ∷ []) ++ left.chosen)) names t) (sym same)
          (subst (λ l. IsShut (stated_at parts l) names core.closed) whole is.shut);
      between = subst (AreBetween (place + 1) (length parts)) (sym behind) between.1.1;
    }

-- where the core is used up, the kept parts are the reason
pub at_the_end : (parts : List (List Claim)) (kept : List ℕ) (shown : List Interpretation) (from : ℕ) → from ≤ length parts
    → IsOnTheWay parts kept (drop from (places_of parts)) shown → HaveNoModel (stated_at parts kept)
    → IsReason parts kept × AreShown parts kept [] shown
at_the_end parts kept shown from le way none =
    let gone : drop (length parts) (places_of parts) ≡ [] =
    drop_all (length parts) (places_of parts) (subst (λ l. l ≤ length parts) (sym (places_long 0 (length parts))) (le_refl (length parts))) in
    let end = subst (λ l. IsOnTheWay parts kept l shown) gone (leaves parts kept shown from (length parts) (length parts) le way
    (subst (λ l. HaveNoModel (stated_at parts l)) (sym (ap (λ l. kept ++ l) gone ∙ append-nil kept)) none)) in
    (end.leads kept refl, end.shown_each)

pub way_long : (parts : List (List Claim)) (kept rest : List ℕ) (shown : List Interpretation) → IsOnTheWay parts kept rest shown
    → length shown ≡ length kept
way_long parts kept rest shown way =
    sym (zip_long (λ place i. IsFiniteModel i (stated_at parts (without place kept ++ rest))) kept shown way.shown_each)
