-- A word of new forms at the end of a lexicon.
use Rattle.std.proofs.Common.{◌≡◌, ℕ, zero, suc, ◌+◌, ◌<◌, ◌≤◌, ◌^◌, Bool, true, false, cond, ◌||◌, List, [], ◌∷◌, ◌++◌, length, get_or, Option, Some, None, find, option_map, refl, sym, ap, subst, ◌∙◌, arith, length-append, All}
use Rattle.std.specs.Option.{option_or}
use Rattle.std.specs.Str.{bytes_eq}
use Rattle.std.proofs.lemmas.Bool.{false≢true}
use Rattle.std.proofs.lemmas.Bool.Decides.{nat_tests}
use Rattle.std.proofs.lemmas.List.Elements.{All-push}
use Rattle.std.proofs.lemmas.List.Quantifiers.{all_pairs_push}
use Rattle.std.proofs.lemmas.Slice.Eq.{bytes_eq-Decides}
use Rattle.std.proofs.lemmas.List.Folds.{find-append}
use Rattle.wiki_base.specs.declared.numbers.WordId.{WordId}
use Rattle.wiki_base.specs.Text.{IsText}
use Rattle.wiki_base.proofs.OptionLaws.{option_or-none}
use Rattle.lexicon.specs.declared.kinds.Forms.{Forms}
use Rattle.lexicon.specs.declared.words.Word.{Word}
use Rattle.lexicon.specs.declared.words.LexFault.TheVariants.{Taken, Reserved}
use Rattle.lexicon.specs.declared.words.TheConstants.{MOST_WORDS}
use Rattle.lexicon.specs.Kinds.{IsComplete}
use Rattle.lexicon.specs.declared.words.TheConstants.{MOST_WORDS}
use Rattle.lexicon.specs.Words.{Listed, is_among, has_form, owner, SharesNoForm, HasNoTerminal, IsLexicon, next_word, with_word, first_taken, first_reserved, fullness, forms_refusal}
use Rattle.lexicon.specs.Terminals.{is_reserved}

-- where none is found, each element fails
pub fails_from_find : {X : Type 0} (p : X → Bool) (xs : List X) → find p xs ≡ None → (k : ℕ) (d : X) → k < length xs → p (get_or xs k d) ≡ false
fails_from_find p [] none k d in_range = absurd (omega arith)
fails_from_find p (x ∷ xs) none zero d in_range = by_test (p x) none
  where
    by_test : (b : Bool) → cond b (Some x) (find p xs) ≡ None → b ≡ false
    by_test true none = cc
    by_test false none = refl
fails_from_find p (x ∷ xs) none (suc k) d in_range = fails_from_find p xs (by_test (p x) none) k d (omega arith)
  where
    by_test : (b : Bool) → cond b (Some x) (find p xs) ≡ None → find p xs ≡ None
    by_test true none = cc
    by_test false none = none

-- a text that no word has
pub no_word_has : (live : List Word) (text : List ℕ) → owner live text ≡ None → (k : ℕ) (d : Word) → k < length live → has_form text (get_or live k d) ≡ false
no_word_has live text none = fails_from_find (has_form text) live (unmapped (find (has_form text) live) none)
  where
    unmapped : (o : Option Word) → option_map (λ word. word.id) o ≡ None → o ≡ None
    unmapped None none = refl
    unmapped (Some word) none = cc

-- where none of the texts is taken, no word has any of them
pub free_texts : (live : List Word) (texts : List (List ℕ)) → first_taken live texts ≡ None → (text : List ℕ) → is_among texts text ≡ true
    → owner live text ≡ None
free_texts live [] free text among = absurd (false≢true among)
free_texts live (first ∷ texts) free text among =
    let both = option_or-none (option_map (Taken first) (owner live first)) (first_taken live texts) free in
    by_test (bytes_eq text first) (bytes_eq-Decides text first).0 among (unmapped (owner live first) both.0) (free_texts live texts both.1 text)
  where
    unmapped : (o : Option WordId) → option_map (Taken first) o ≡ None → o ≡ None
    unmapped None none = refl
    unmapped (Some id) none = cc

    by_test : (b : Bool) → (b ≡ true → text ≡ first) → (b || is_among texts text) ≡ true → owner live first ≡ None
        → (is_among texts text ≡ true → owner live text ≡ None) → owner live text ≡ None
    by_test true same among head tail = subst (λ t. owner live t ≡ None) (sym (same refl)) head
    by_test false same among head tail = tail among

-- a word at the end is found at its forms, where no other word has them
pub owner-push : (live : List Word) (word : Word) → ((text : List ℕ) → has_form text word ≡ true → owner live text ≡ None) → (text : List ℕ)
    → owner (live ++ word ∷ []) text ≡ cond (has_form text word) (Some word.id) (owner live text)
owner-push live word new text = ap (option_map (λ (w : Word). w.id)) (find-append (has_form text) live (word ∷ []))
    ∙ by_test (has_form text word) (find (has_form text) live) (new text)
  where
    by_test : (b : Bool) (o : Option Word) → (b ≡ true → option_map (λ (w : Word). w.id) o ≡ None)
        → option_map (λ (w : Word). w.id) (option_or o (cond b (Some word) None)) ≡ cond b (Some word.id) (option_map (λ (w : Word). w.id) o)
    by_test true None free = refl
    by_test true (Some w) free = absurd (let no : Some w.id ≡ None = free refl in cc)
    by_test false None free = refl
    by_test false (Some w) free = refl

-- where no text is reserved, none of them is
pub unreserved_texts : (terminals texts : List (List ℕ)) → first_reserved terminals texts ≡ None → (text : List ℕ) → is_among texts text ≡ true
    → is_reserved terminals text ≡ false
unreserved_texts terminals [] free text among = absurd (false≢true among)
unreserved_texts terminals (first ∷ texts) free text among =
    by_test (bytes_eq text first) (is_reserved terminals first) refl (bytes_eq-Decides text first).0 among free (unreserved_texts terminals texts)
  where
    by_test : (b r : Bool) → is_reserved terminals first ≡ r → (b ≡ true → text ≡ first) → (b || is_among texts text) ≡ true
        → cond r (Some (Reserved first)) (first_reserved terminals texts) ≡ None
        → (first_reserved terminals texts ≡ None → (t : List ℕ) → is_among texts t ≡ true → is_reserved terminals t ≡ false)
        → is_reserved terminals text ≡ false
    by_test b true is same among free rest = cc
    by_test true false is same among free rest = subst (λ t. is_reserved terminals t ≡ false) (sym (same refl)) is
    by_test false false is same among free rest = rest free text among

module _ (listed : Listed) (forms : Forms) (lexicon : IsLexicon listed) (complete : IsComplete forms) (texts : All IsText forms.texts)
    (free : forms_refusal listed.live listed.terminals forms ≡ None) (room : fullness listed ≡ None) where
  -- no form is taken, and none is reserved
  free_and_unreserved : (first_taken listed.live forms.texts ≡ None) × (first_reserved listed.terminals forms.texts ≡ None)
  free_and_unreserved = option_or-none (first_taken listed.live forms.texts) (first_reserved listed.terminals forms.texts) free

  -- the forms of the new word are no other word's
  pub new_forms : (text : List ℕ) → is_among forms.texts text ≡ true → owner listed.live text ≡ None
  new_forms = free_texts listed.live forms.texts free_and_unreserved.0

  -- the new word shares no form with another
  new_is_apart : (k : ℕ) (d : Word) → k < length listed.live → SharesNoForm (get_or listed.live k d) (next_word listed forms)
  new_is_apart k d in_range text has = by_test (is_among forms.texts text) (new_forms text)
    where
      by_test : (b : Bool) → (b ≡ true → owner listed.live text ≡ None) → b ≡ false
      by_test true free = absurd (false≢true (sym (no_word_has listed.live text (free refl) k d in_range) ∙ has))
      by_test false free = refl

  -- there is room for one more word, and one more number
  room_left : (length listed.live < MOST_WORDS) × (listed.last + 1 < 2 ^ 32)
  room_left = grind (arith, nat_tests, lexicon.few, lexicon.last_fits)

  -- the list with the new word is a lexicon
  pub lexicon_with_word : IsLexicon (with_word listed forms)
  lexicon_with_word = record {
    in_order = all_pairs_push (λ (word later : Word). word.id.0 < later.id.0) listed.live (next_word listed forms) lexicon.in_order
        (λ k d in_range. omega (arith, (lexicon.given k d in_range).1));
    given = All-push (λ (word : Word). (0 < word.id.0) × (word.id.0 ≤ listed.last + 1)) listed.live (next_word listed forms)
        (λ k d in_range. let was = lexicon.given k d in_range in (was.0, omega (arith, was.1))) (omega arith, omega arith);
    complete = All-push (λ (word : Word). IsComplete word.forms) listed.live (next_word listed forms) lexicon.complete complete;
    spelled = All-push (λ (word : Word). All IsText word.forms.texts) listed.live (next_word listed forms) lexicon.spelled texts;
    apart = all_pairs_push SharesNoForm listed.live (next_word listed forms) lexicon.apart new_is_apart;
    unreserved = All-push (HasNoTerminal listed.terminals) listed.live (next_word listed forms) lexicon.unreserved
        (unreserved_texts listed.terminals forms.texts free_and_unreserved.1);
    few = omega (arith, length-append listed.live (next_word listed forms ∷ []), room_left.0);
    last_fits = room_left.1;
  }
