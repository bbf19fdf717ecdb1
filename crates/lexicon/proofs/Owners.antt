-- The word that has a form lives, and so does the one that a refusal names.
use Rattle.std.proofs.Common.{◌≡◌, ℕ, eqb, Bool, true, false, cond, List, [], ◌∷◌, length, Option, Some, None, IsSome, option_map, find, refl, ap, subst, ◌∙◌, arith}
use Rattle.std.specs.Option.{option_or}
use Rattle.std.proofs.lemmas.Bool.{false≢true}
use Rattle.std.proofs.lemmas.Bool.Decides.{nat_tests}
use Rattle.wiki_base.specs.declared.numbers.WordId.{WordId}
use Rattle.lexicon.specs.declared.kinds.Forms.{Forms}
use Rattle.lexicon.specs.declared.words.Word.{Word}
use Rattle.lexicon.specs.declared.words.LexFault.TheVariants.{Taken, Reserved, Full, NoWord}
use Rattle.lexicon.specs.declared.words.LexLimit.TheVariants.{Words, Numbers}
use Rattle.lexicon.specs.declared.words.TheConstants.{MOST_WORDS, LAST_NUMBER}
use Rattle.lexicon.specs.Words.{Listed, has_form, owner, forms_of, first_taken, first_reserved, fullness, forms_refusal, add_refusal}
use Rattle.lexicon.specs.Terminals.{is_reserved}

-- a word that has the form lives
pub owner_lives : (live : List Word) (text : List ℕ) (id : WordId) → owner live text ≡ Some id → IsSome (forms_of live id)
owner_lives [] text id is = cc
owner_lives (word ∷ live) text id is = by_test (has_form text word) is (owner_lives live text id)
  where
    here : (b : Bool) → b ≡ true → IsSome (option_map (λ (w : Word). w.forms) (cond b (Some word) (find (λ (w : Word). eqb w.id.0 id.0) live)))
    here true same = refl
    here false same = absurd (false≢true same)

    later : (b : Bool) → IsSome (forms_of live id)
        → IsSome (option_map (λ (w : Word). w.forms) (cond b (Some word) (find (λ (w : Word). eqb w.id.0 id.0) live)))
    later true lives = refl
    later false lives = lives

    by_test : (b : Bool) → option_map (λ (w : Word). w.id) (cond b (Some word) (find (has_form text) live)) ≡ Some id
        → (owner live text ≡ Some id → IsSome (forms_of live id)) → IsSome (forms_of (word ∷ live) id)
    by_test true is rest = here (eqb word.id.0 id.0) (let same : word.id ≡ id = cc in grind (arith, nat_tests, ap (λ (i : WordId). i.0) same))
    by_test false is rest = later (eqb word.id.0 id.0) (rest is)

-- a text that is said to be taken is a form of the word that is named
pub owner-taken : (live : List Word) (texts : List (List ℕ)) (text : List ℕ) (id : WordId) → first_taken live texts ≡ Some (Taken text id)
    → owner live text ≡ Some id
owner-taken live [] text id is = cc
owner-taken live (first ∷ texts) text id is = by_owner (owner live first) refl is (owner-taken live texts text id)
  where
    by_owner : (o : Option WordId) → owner live first ≡ o → option_or (option_map (Taken first) o) (first_taken live texts) ≡ Some (Taken text id)
        → (first_taken live texts ≡ Some (Taken text id) → owner live text ≡ Some id) → owner live text ≡ Some id
    by_owner (Some word) found is rest =
        let same_text : first ≡ text = cc in
        let same_word : word ≡ id = cc in
        subst (λ t. owner live t ≡ Some id) same_text (found ∙ ap Some same_word)
    by_owner None found is rest = rest is

-- a cause that is a reserved text, a number or a limit names no owner
reserved_not_taken : (terminals texts : List (List ℕ)) (text : List ℕ) (id : WordId) → first_reserved terminals texts ≡ Some (Taken text id) → ⊥
reserved_not_taken terminals [] text id is = cc
reserved_not_taken terminals (first ∷ texts) text id is = by_test (is_reserved terminals first) is (reserved_not_taken terminals texts text id)
  where
    by_test : (b : Bool) → cond b (Some (Reserved first)) (first_reserved terminals texts) ≡ Some (Taken text id)
        → (first_reserved terminals texts ≡ Some (Taken text id) → ⊥) → ⊥
    by_test true is rest = cc
    by_test false is rest = rest is

full_not_taken : (listed : Listed) (text : List ℕ) (id : WordId) → fullness listed ≡ Some (Taken text id) → ⊥
full_not_taken listed text id is = by_tests (eqb (length listed.live) MOST_WORDS) (eqb listed.last LAST_NUMBER) is
  where
    by_tests : (b c : Bool) → cond b (Some (Full Words)) (cond c (Some (Full Numbers)) None) ≡ Some (Taken text id) → ⊥
    by_tests true c is = cc
    by_tests false true is = cc
    by_tests false false is = cc

-- of two causes the second names no owner, so the first does
first_names : {X : Type 0} (a b : Option X) (x : X) → (b ≡ Some x → ⊥) → option_or a b ≡ Some x → a ≡ Some x
first_names (Some y) b x not is = is
first_names None b x not is = absurd (not is)

-- so it is where forms are refused for it
pub owner-forms_refusal : (live : List Word) (terminals : List (List ℕ)) (forms : Forms) (text : List ℕ) (id : WordId)
    → forms_refusal live terminals forms ≡ Some (Taken text id) → owner live text ≡ Some id
owner-forms_refusal live terminals forms text id is =
    owner-taken live forms.texts text id
    (first_names (first_taken live forms.texts) (first_reserved terminals forms.texts) (Taken text id) (reserved_not_taken terminals forms.texts text id)
    is)

-- so it is where an added word is refused for it
pub owner-add_refusal : (listed : Listed) (forms : Forms) (text : List ℕ) (id : WordId) → add_refusal listed forms ≡ Some (Taken text id)
    → owner listed.live text ≡ Some id
owner-add_refusal listed forms text id is =
    owner-forms_refusal listed.live listed.terminals forms text id
    (first_names (forms_refusal listed.live listed.terminals forms) (fullness listed) (Taken text id) (full_not_taken listed text id) is)

-- neither of two causes is this one
neither : {X : Type 0} (a b : Option X) (x : X) → (a ≡ Some x → ⊥) → (b ≡ Some x → ⊥) → option_or a b ≡ Some x → ⊥
neither (Some y) b x not_a not_b is = not_a is
neither None b x not_a not_b is = not_b is

taken_not_absent : (live : List Word) (texts : List (List ℕ)) (id : WordId) → first_taken live texts ≡ Some (NoWord id) → ⊥
taken_not_absent live [] id is = cc
taken_not_absent live (text ∷ texts) id is = by_owner (owner live text) is (taken_not_absent live texts id)
  where
    by_owner : (o : Option WordId) → option_or (option_map (Taken text) o) (first_taken live texts) ≡ Some (NoWord id)
        → (first_taken live texts ≡ Some (NoWord id) → ⊥) → ⊥
    by_owner None is rest = rest is
    by_owner (Some word) is rest = cc

reserved_not_absent : (terminals texts : List (List ℕ)) (id : WordId) → first_reserved terminals texts ≡ Some (NoWord id) → ⊥
reserved_not_absent terminals [] id is = cc
reserved_not_absent terminals (text ∷ texts) id is = by_test (is_reserved terminals text) is (reserved_not_absent terminals texts id)
  where
    by_test : (b : Bool) → cond b (Some (Reserved text)) (first_reserved terminals texts) ≡ Some (NoWord id)
        → (first_reserved terminals texts ≡ Some (NoWord id) → ⊥) → ⊥
    by_test true is rest = cc
    by_test false is rest = rest is

full_not_absent : (listed : Listed) (id : WordId) → fullness listed ≡ Some (NoWord id) → ⊥
full_not_absent listed id is = by_tests (eqb (length listed.live) MOST_WORDS) (eqb listed.last LAST_NUMBER) is
  where
    by_tests : (b c : Bool) → cond b (Some (Full Words)) (cond c (Some (Full Numbers)) None) ≡ Some (NoWord id) → ⊥
    by_tests true c is = cc
    by_tests false true is = cc
    by_tests false false is = cc

-- a new word is refused for no word that isn't there
pub add_refusal_names_none : (listed : Listed) (forms : Forms) (id : WordId) → add_refusal listed forms ≡ Some (NoWord id) → ⊥
add_refusal_names_none listed forms id is =
    neither (forms_refusal listed.live listed.terminals forms) (fullness listed) (NoWord id)
    (neither (first_taken listed.live forms.texts) (first_reserved listed.terminals forms.texts) (NoWord id) (taken_not_absent listed.live forms.texts id)
    (reserved_not_absent listed.terminals forms.texts id))
    (full_not_absent listed id) is
