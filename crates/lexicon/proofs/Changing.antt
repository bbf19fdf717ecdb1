-- A lexicon whose word at a place is taken out, or gets other forms.
use Rattle.std.proofs.Common.{◌≡◌, ℕ, zero, suc, ◌+◌, ◌-◌, ◌<◌, ◌≤◌, eqb, Bool, true, false, not, cond, List, [], ◌∷◌, length, get_or, set, map, Option, is_some, Some, None, All, AllPairs, refl, sym, ap, subst, ◌∙◌, ◌⊎◌, inl, inr, ◌≢◌, arith, length-set}
use Rattle.std.specs.List.{remove}
use Rattle.std.proofs.lemmas.Bool.{false≢true, cases_lt}
use Rattle.std.proofs.lemmas.Bool.Decides.{nat_tests}
use Rattle.std.proofs.lemmas.List.{get_or-set_same, get_or-set_other}
use Rattle.std.proofs.lemmas.List.Edits.{length-remove, get_or-remove_below, get_or-remove_above}
use Rattle.std.proofs.lemmas.List.Elements.{All-filter, All-set}
use Rattle.std.proofs.lemmas.List.Quantifiers.{all_pairs_remove}
use Rattle.wiki_base.specs.declared.numbers.WordId.{WordId}
use Rattle.wiki_base.specs.Text.{IsText}
use Rattle.lexicon.specs.declared.kinds.Forms.{Forms}
use Rattle.lexicon.specs.declared.words.Word.{Word}
use Rattle.lexicon.specs.Kinds.{IsComplete}
use Rattle.lexicon.specs.Words.{Listed, is_among, has_form, has_number, owner, others, SharesNoForm, HasNoTerminal, IsLexicon, IsPlaceOf, forms_of, forms_refusal, reword_refusal, first_taken, first_reserved, with_forms, without_word}
use Rattle.lexicon.specs.declared.words.LexFault.TheVariants.{NoWord}
use Rattle.std.specs.Option.{option_map_or}
use Rattle.wiki_base.proofs.ListLaws.{map_same, AllPairs-tail, AllPairs-head}
use Rattle.wiki_base.proofs.OptionLaws.{option_or-none}
use Rattle.lexicon.proofs.Adding.{free_texts, unreserved_texts, no_word_has}
use Rattle.lexicon.proofs.Others.{others-remove, owner-place, owner-removed}

-- what holds of each two elements in turn holds with one replaced, where it holds of that one and the others
pairs_set : {X : Type 0} (R : X → X → Type 0) (xs : List X) (place : ℕ) (y : X) → place < length xs → AllPairs R xs
    → ((k : ℕ) (d : X) → k < place → R (get_or xs k d) y) → ((k : ℕ) (d : X) → place < k → k < length xs → R y (get_or xs k d)) → AllPairs R (set xs place y)
pairs_set {X} R xs place y here pairs before after i j d lt in_range =
    by_cases (cases_lt i place) (cases_lt place i) (cases_lt j place) (cases_lt place j)
  where
    bound : j < length xs
    bound = omega (arith, length-set xs place y)

    by_cases : (i < place) ⊎ (place ≤ i) → (place < i) ⊎ (i ≤ place) → (j < place) ⊎ (place ≤ j) → (place < j) ⊎ (j ≤ place)
        → R (get_or (set xs place y) i d) (get_or (set xs place y) j d)
    by_cases (inl i_below) q (inl j_below) r = let ni : i ≢ place = omega arith in let nj : j ≢ place = omega arith in
        rw (get_or-set_other xs place i y d ni, get_or-set_other xs place j y d nj) (pairs i j d lt bound)
    by_cases (inl i_below) q (inr j_from) (inl j_above) = let ni : i ≢ place = omega arith in let nj : j ≢ place = omega arith in
        rw (get_or-set_other xs place i y d ni, get_or-set_other xs place j y d nj) (pairs i j d lt bound)
    by_cases (inl i_below) q (inr j_from) (inr j_to) = let ni : i ≢ place = omega arith in let same : place ≡ j = omega arith in
        rw (get_or-set_other xs place i y d ni)
        (subst (λ k. R (get_or xs i d) (get_or (set xs place y) k d)) same (rw (get_or-set_same xs place y d here) (before i d i_below)))
    by_cases (inr i_from) (inl i_above) p r = let ni : i ≢ place = omega arith in let nj : j ≢ place = omega arith in
        rw (get_or-set_other xs place i y d ni, get_or-set_other xs place j y d nj) (pairs i j d lt bound)
    by_cases (inr i_from) (inr i_to) p r = let same : place ≡ i = omega arith in let nj : j ≢ place = omega arith in
        rw (get_or-set_other xs place j y d nj)
        (subst (λ k. R (get_or (set xs place y) k d) (get_or xs j d)) same (rw (get_or-set_same xs place y d here) (after j d (omega arith) bound)))

-- the list without the place is the same, whatever stood there
remove-set : {X : Type 0} (xs : List X) (place : ℕ) (y : X) → place < length xs → remove (set xs place y) place ≡ remove xs place
remove-set [] place y here = absurd (omega arith)
remove-set (x ∷ xs) zero y here = refl
remove-set (x ∷ xs) (suc place) y here = ap (λ ys. x ∷ ys) (remove-set xs place y (omega arith))

-- giving the word with the number its forms writes at its place
with_forms-set : (live : List Word) → AllPairs (λ word later. word.id.0 < later.id.0) live → (id : WordId) (place : ℕ) → IsPlaceOf live id place
    → (forms : Forms) (word : Word) → word ≡ get_or live place word
    → map (λ w. cond (has_number id w) (record w { forms = forms }) w) live ≡ set live place (record { id = word.id; forms = forms })
with_forms-set [] in_order id place is forms word at = absurd (omega (arith, is.in_range))
with_forms-set (first ∷ live) in_order id zero is forms word at =
    by_test (has_number id first) (let same = is.numbered first in grind (arith, nat_tests))
    (map_same (λ w. cond (has_number id w) (record w { forms = forms }) w) live unchanged)
  where
    unchanged : (k : ℕ) (d : Word) → k < length live
        → cond (has_number id (get_or live k d)) (record (get_or live k d) { forms = forms }) (get_or live k d) ≡ get_or live k d
    unchanged k d in_range =
        let above : first.id.0 < (get_or live k d).id.0 = AllPairs-head (λ (w v : Word). w.id.0 < v.id.0) first live in_order k d in_range in
        let same : first.id.0 ≡ id.0 = is.numbered first in
        let no : eqb (get_or live k d).id.0 id.0 ≡ false = grind (arith, nat_tests) in
        rw no refl

    by_test : (b : Bool) → b ≡ true → map (λ w. cond (has_number id w) (record w { forms = forms }) w) live ≡ live
        → cond b (record first { forms = forms }) first ∷ map (λ w. cond (has_number id w) (record w { forms = forms }) w) live
        ≡ record { id = word.id; forms = forms } ∷ live
    by_test true here rest = rw rest (subst (λ (w : Word). record { id = first.id; forms = forms } ∷ live ≡ record { id = w.id; forms = forms } ∷ live) (sym at)
        refl)
    by_test false here rest = absurd (false≢true here)
with_forms-set (first ∷ live) in_order id (suc place) is forms word at =
    by_test (has_number id first) earlier
    (with_forms-set live (AllPairs-tail (λ (w v : Word). w.id.0 < v.id.0) first live in_order) id place
    (record { in_range = omega (arith, is.in_range); numbered = is.numbered }) forms word at)
  where
    earlier : has_number id first ≡ false
    earlier =
        let below : first.id.0 < (get_or live place first).id.0 =
        AllPairs-head (λ (w v : Word). w.id.0 < v.id.0) first live in_order place first (omega (arith, is.in_range)) in
        let same : (get_or live place first).id.0 ≡ id.0 = is.numbered first in
        grind (arith, nat_tests)

    by_test : (b : Bool) → b ≡ false → map (λ w. cond (has_number id w) (record w { forms = forms }) w) live
        ≡ set live place (record { id = word.id; forms = forms })
        → cond b (record first { forms = forms }) first ∷ map (λ w. cond (has_number id w) (record w { forms = forms }) w) live
        ≡ first ∷ set live place (record { id = word.id; forms = forms })
    by_test true failed rest = absurd (false≢true (sym failed))
    by_test false failed rest = ap (λ ws. first ∷ ws) rest

module _ (listed : Listed) (lexicon : IsLexicon listed) (id : WordId) (place : ℕ) (is : IsPlaceOf listed.live id place) where
  -- the others are the list without the place
  others_are : others listed.live id ≡ remove listed.live place
  others_are = others-remove listed.live lexicon.in_order id place is

  -- without the place the list is that without the word
  pub without_place : record listed { live = remove listed.live place } ≡ without_word listed id
  without_place = ap (λ (live : List Word). record listed { live = live }) (sym others_are)

  -- a lexicon without one of its words is a lexicon
  pub lexicon_without : IsLexicon (record listed { live = remove listed.live place })
  lexicon_without = record {
    in_order = all_pairs_remove (λ (word later : Word). word.id.0 < later.id.0) listed.live place is.in_range lexicon.in_order;
    given = subst (λ (live : List Word). All (λ word. (0 < word.id.0) × (word.id.0 ≤ listed.last)) live) others_are
        (All-filter (λ w. not (has_number id w)) (λ (word : Word). (0 < word.id.0) × (word.id.0 ≤ listed.last)) listed.live lexicon.given);
    complete = subst (λ (live : List Word). All (λ word. IsComplete word.forms) live) others_are
        (All-filter (λ w. not (has_number id w)) (λ (word : Word). IsComplete word.forms) listed.live lexicon.complete);
    spelled = subst (λ (live : List Word). All (λ word. All IsText word.forms.texts) live) others_are
        (All-filter (λ w. not (has_number id w)) (λ (word : Word). All IsText word.forms.texts) listed.live lexicon.spelled);
    apart = all_pairs_remove SharesNoForm listed.live place is.in_range lexicon.apart;
    unreserved = subst (λ (live : List Word). All (HasNoTerminal listed.terminals) live) others_are
        (All-filter (λ w. not (has_number id w)) (HasNoTerminal listed.terminals) listed.live lexicon.unreserved);
    few = omega (arith, length-remove listed.live place is.in_range, lexicon.few);
    last_fits = lexicon.last_fits;
  }

  module _ (forms : Forms) (word : Word) (at : word ≡ get_or listed.live place word) (complete : IsComplete forms) (texts : All IsText forms.texts)
      (free : forms_refusal (others listed.live id) listed.terminals forms ≡ None) where
    -- the word with its new forms
    abbrev reworded : Word
    reworded = record { id = word.id; forms = forms }

    -- with the word of new forms at the place, the list is that with these forms
    pub with_forms_at_place : record listed { live = set listed.live place reworded } ≡ with_forms listed id forms
    with_forms_at_place = ap (λ (live : List Word). record listed { live = live }) (sym (with_forms-set listed.live lexicon.in_order id place is forms word at))

    -- no form is another word's, and none is reserved
    free_and_unreserved : (first_taken (others listed.live id) forms.texts ≡ None) × (first_reserved listed.terminals forms.texts ≡ None)
    free_and_unreserved = option_or-none (first_taken (others listed.live id) forms.texts) (first_reserved listed.terminals forms.texts) free

    new_forms : (text : List ℕ) → is_among forms.texts text ≡ true → owner (remove listed.live place) text ≡ None
    new_forms text has = subst (λ (live : List Word). owner live text ≡ None) others_are
        (free_texts (others listed.live id) forms.texts free_and_unreserved.0 text has)

    -- a word at another place has none of the new forms
    other_lacks : (k : ℕ) (d : Word) → k < length listed.live → (k < place) ⊎ (place < k) → (text : List ℕ) → is_among forms.texts text ≡ true
        → has_form text (get_or listed.live k d) ≡ false
    other_lacks k d in_range (inl before) text has =
        subst (λ (w : Word). has_form text w ≡ false) (get_or-remove_below listed.live place d k before is.in_range)
        (no_word_has (remove listed.live place) text (new_forms text has) k d (omega (arith, length-remove listed.live place is.in_range, is.in_range)))
    other_lacks k d in_range (inr after) text has =
        let back : k - 1 + 1 ≡ k = omega arith in
        let there = get_or-remove_above listed.live place d (k - 1) (omega arith) is.in_range in
        subst (λ (w : Word). has_form text w ≡ false) (there ∙ ap (λ n. get_or listed.live n d) back)
        (no_word_has (remove listed.live place) text (new_forms text has) (k - 1) d (omega (arith, length-remove listed.live place is.in_range)))

    -- a test that fails where another one holds fails there too
    apart_from : (b : Bool) (P : Type 0) → P → (b ≡ true → P → ⊥) → b ≡ false
    apart_from true P p not = absurd (not refl p)
    apart_from false P p not = refl

    new_after : (k : ℕ) (d : Word) → k < place → SharesNoForm (get_or listed.live k d) reworded
    new_after k d before text has = apart_from (is_among forms.texts text) (has_form text (get_or listed.live k d) ≡ true) has
        (λ new had. false≢true (sym (other_lacks k d (omega (arith, is.in_range)) (inl before) text new) ∙ had))

    new_before : (k : ℕ) (d : Word) → place < k → k < length listed.live → SharesNoForm reworded (get_or listed.live k d)
    new_before k d after in_range text has = other_lacks k d in_range (inr after) text has

    pub apart_with_forms : AllPairs SharesNoForm (set listed.live place reworded)
    apart_with_forms = pairs_set SharesNoForm listed.live place reworded is.in_range lexicon.apart new_after new_before

    -- the number of the word at the place, as an element of the list has it
    numbered : (d : Word) → word.id.0 ≡ (get_or listed.live place d).id.0
    numbered d = ap (λ (w : Word). w.id.0) at ∙ is.numbered word ∙ sym (is.numbered d)

    -- a lexicon with other forms of a word is a lexicon
    pub lexicon_with_forms : IsLexicon (record listed { live = set listed.live place reworded })
    lexicon_with_forms = record {
      in_order = pairs_set (λ (w later : Word). w.id.0 < later.id.0) listed.live place reworded is.in_range lexicon.in_order
          (λ k d before. omega (arith, numbered d, lexicon.in_order k place d before is.in_range))
          (λ k d after in_range. omega (arith, numbered d, lexicon.in_order place k d after in_range));
      given = All-set (λ (w : Word). (0 < w.id.0) × (w.id.0 ≤ listed.last)) listed.live place reworded
          (let was = lexicon.given place word is.in_range in (omega (arith, numbered word, was.0), omega (arith, numbered word, was.1))) lexicon.given;
      complete = All-set (λ (w : Word). IsComplete w.forms) listed.live place reworded complete lexicon.complete;
      spelled = All-set (λ (w : Word). All IsText w.forms.texts) listed.live place reworded texts lexicon.spelled;
      apart = apart_with_forms;
      unreserved = All-set (HasNoTerminal listed.terminals) listed.live place reworded (unreserved_texts listed.terminals forms.texts free_and_unreserved.1)
          lexicon.unreserved;
      few = omega (arith, length-set listed.live place reworded, lexicon.few);
      last_fits = lexicon.last_fits;
    }

    -- what a table finds where the old forms are taken out and the new ones entered
    pub owner-with_forms : (text : List ℕ)
        → cond (is_among forms.texts text) (Some word.id) (cond (has_form text (get_or listed.live place word)) None (owner listed.live text))
        ≡ owner (set listed.live place reworded) text
    owner-with_forms text =
        let in_new : place < length (set listed.live place reworded) = omega (arith, is.in_range, length-set listed.live place reworded) in
        let there = owner-place (set listed.live place reworded) apart_with_forms place word in_new text in
        rw (owner-removed listed.live lexicon.apart place word is.in_range text)
        (sym (rw (get_or-set_same listed.live place reworded word is.in_range, remove-set listed.live place reworded is.in_range) at there))

-- what stands against new forms of a word that lives
pub reword_refusal-lives : (listed : Listed) (id : WordId) (forms : Forms) → true ≡ is_some (forms_of listed.live id)
    → reword_refusal listed id forms ≡ forms_refusal (others listed.live id) listed.terminals forms
reword_refusal-lives listed id forms lives = by_word (forms_of listed.live id) lives
  where
    by_word : (o : Option Forms) → true ≡ is_some o
        → option_map_or (λ _. forms_refusal (others listed.live id) listed.terminals forms) o (Some (NoWord id))
        ≡ forms_refusal (others listed.live id) listed.terminals forms
    by_word None lives = absurd (false≢true (sym lives))
    by_word (Some old) lives = refl
