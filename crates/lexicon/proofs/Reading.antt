-- The readings of a token: those of the one word that has it as a form.
use Rattle.std.proofs.Common.{◌≡◌, ℕ, zero, suc, ◌+◌, ◌<◌, ◌≤◌, Bool, true, false, cond, ◌||◌, List, [], ◌∷◌, ◌++◌, length, get_or, drop, Some, None, AllPairs, find, option_map, is_some, refl, sym, ap, ◌∙◌, arith, drop-cons, add-one, append_assoc, append-nil}
use Rattle.std.specs.Str.{bytes_eq}
use Rattle.std.proofs.lemmas.Bool.{false≢true}
use Rattle.std.proofs.lemmas.Bool.Decides.{nat_tests}
use Rattle.wiki_base.specs.declared.numbers.WordId.{WordId}
use Rattle.wiki_base.proofs.ListLaws.{AllPairs-tail, AllPairs-head, find_none}
use Rattle.codeco_terms.specs.declared.categories.Ground.{Ground}
use Rattle.lexicon.specs.declared.kinds.Kind.{Kind}
use Rattle.lexicon.specs.declared.kinds.Kind.TheVariants.{Name}
use Rattle.lexicon.specs.declared.words.Word.{Word}
use Rattle.lexicon.specs.Kinds.{form_count}
use Rattle.lexicon.specs.Words.{is_among, has_form, has_number, owner, forms_of, SharesNoForm, IsPlaceOf}
use Rattle.lexicon.specs.Readings.{reading, readings_from, readings_of_word, readings_of}
use Rattle.lexicon.proofs.Owners.{owner_lives}

-- a word has at most three forms
pub form_count_le : (kind : Kind) → form_count kind ≤ 3
form_count_le Name = omega arith
form_count_le kind = omega arith

-- the readings at the forms from a place on: at that form, and at those after it
pub readings_from-drop : (kind : Kind) (id : WordId) (token : List ℕ) (forms : List (List ℕ)) (i : ℕ) (form : List ℕ) → i < length forms
    → form ≡ get_or forms i form → readings_from kind id token i (drop i forms)
    ≡ cond (bytes_eq token form) (reading kind id i form ∷ readings_from kind id token (i + 1) (drop (i + 1) forms))
    (readings_from kind id token (i + 1) (drop (i + 1) forms))
readings_from-drop kind id token forms i form in_range at =
    let left : drop i forms ≡ form ∷ drop (i + 1) forms = rw (add-one, drop-cons forms i form) (ap (λ f. f ∷ drop (suc i) forms) (sym at)) in
    ap (readings_from kind id token i) left

-- a token that is none of the forms has no readings
pub readings_from_none : (kind : Kind) (id : WordId) (token : List ℕ) (place : ℕ) (forms : List (List ℕ)) → is_among forms token ≡ false
    → readings_from kind id token place forms ≡ []
readings_from_none kind id token place [] lacks = refl
readings_from_none kind id token place (form ∷ forms) lacks = by_test (bytes_eq token form) lacks (readings_from_none kind id token (place + 1) forms)
  where
    by_test : (b : Bool) → (b || is_among forms token) ≡ false → (is_among forms token ≡ false → readings_from kind id token (place + 1) forms ≡ [])
        → cond b (reading kind id place form ∷ readings_from kind id token (place + 1) forms) (readings_from kind id token (place + 1) forms) ≡ []
    by_test true lacks rest = absurd (false≢true (sym lacks))
    by_test false lacks rest = rest lacks

-- a token that no word has has no readings
pub readings_none : (live : List Word) (token : List ℕ) → ((k : ℕ) (d : Word) → k < length live → has_form token (get_or live k d) ≡ false)
    → readings_of live token ≡ []
readings_none [] token lacks = refl
readings_none (word ∷ live) token lacks =
    rw (readings_from_none word.forms.kind word.id token 0 word.forms.texts (lacks zero word (omega arith)))
    (readings_none live token (λ k d in_range. lacks (suc k) d (omega arith)))

-- the readings of a token are those of the one word that has it
pub readings_at : (live : List Word) → AllPairs SharesNoForm live → (token : List ℕ) (place : ℕ) (d : Word) → place < length live
    → has_form token (get_or live place d) ≡ true → readings_of live token ≡ readings_of_word token (get_or live place d)
readings_at [] apart token place d in_range has = absurd (omega arith)
readings_at (word ∷ live) apart token zero d in_range has =
    rw (readings_none live token (λ k e bound. AllPairs-head SharesNoForm word live apart k e bound token has)) (append-nil (readings_of_word token word))
readings_at (word ∷ live) apart token (suc place) d in_range has =
    rw (readings_from_none word.forms.kind word.id token 0 word.forms.texts lacks)
    (readings_at live (AllPairs-tail SharesNoForm word live apart) token place d (omega arith) has)
  where
    lacks : has_form token word ≡ false
    lacks = by_test (has_form token word) (λ first. false≢true (sym (AllPairs-head SharesNoForm word live apart place d (omega arith) token first) ∙ has))
      where
        by_test : (b : Bool) → (b ≡ true → ⊥) → b ≡ false
        by_test true not = absurd (not refl)
        by_test false not = refl

-- the word with the owner's number has the form
pub owner_has_form : (live : List Word) → AllPairs (λ word later. word.id.0 < later.id.0) live → (token : List ℕ) (id : WordId) (place : ℕ) (d : Word)
    → owner live token ≡ Some id → IsPlaceOf live id place → has_form token (get_or live place d) ≡ true
owner_has_form [] in_order token id place d owned is = absurd (omega (arith, is.in_range))
owner_has_form (word ∷ live) in_order token id zero d owned is = by_test (has_form token word) owned
  where
    absent : forms_of live id ≡ None
    absent = ap (option_map (λ (w : Word). w.forms))
        (find_none (has_number id) live (λ k e bound. let above : word.id.0 < (get_or live k e).id.0 =
        AllPairs-head (λ (w v : Word). w.id.0 < v.id.0) word live in_order k e bound in let same : word.id.0 ≡ id.0 = is.numbered word in
        grind (arith, nat_tests)))

    by_test : (b : Bool) → option_map (λ (w : Word). w.id) (cond b (Some word) (find (has_form token) live)) ≡ Some id → b ≡ true
    by_test true owned = refl
    by_test false owned = absurd (false≢true (ap is_some (sym absent) ∙ owner_lives live token id owned))
owner_has_form (word ∷ live) in_order token id (suc place) d owned is =
    owner_has_form live (AllPairs-tail (λ (w v : Word). w.id.0 < v.id.0) word live in_order) token id place d (by_test (has_form token word) owned)
    (record { in_range = omega (arith, is.in_range); numbered = is.numbered })
  where
    below : word.id.0 < id.0
    below =
        let before : word.id.0 < (get_or live place word).id.0 =
        AllPairs-head (λ (w v : Word). w.id.0 < v.id.0) word live in_order place word (omega (arith, is.in_range)) in
        let same : (get_or live place word).id.0 ≡ id.0 = is.numbered word in
        omega arith

    by_test : (b : Bool) → option_map (λ (w : Word). w.id) (cond b (Some word) (find (has_form token) live)) ≡ Some id → owner live token ≡ Some id
    by_test true owned = absurd (let same : word.id ≡ id = cc in omega (arith, below, ap (λ (i : WordId). i.0) same))
    by_test false owned = owned

-- one more reading at the end of those so far, and one fewer that is left
pub reading_taken : (so_far rest left total : List Ground) (r : Ground) → left ≡ r ∷ rest → so_far ++ left ≡ total → (so_far ++ r ∷ []) ++ rest ≡ total
reading_taken so_far rest left total r is all = append_assoc so_far (r ∷ []) rest ∙ ap (λ gs. so_far ++ gs) (sym is) ∙ all
