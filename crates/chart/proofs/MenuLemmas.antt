-- What is found, put in order, is the menu.
use Rattle.std.proofs.Common.{◌≡◌, ℕ, suc, zero, ◌+◌, ◌-◌, ◌<◌, List, [], ◌∷◌, ◌++◌, Bool, true, false, ◌||◌, map, filter, length, take, get_or, Some, ◌⊎◌, inl, inr, refl, sym, ap, ◌∙◌, subst, arith}
use Rattle.std.specs.Prelude.{if◌then◌else◌, slice_get, slice_index_or}
use Rattle.std.specs.Str.{bytes_eq}
use Rattle.std.specs.declared.cmp.Ordering.TheVariants.{Less, Greater}
use Rattle.std.specs.Ordering.{ordering_reverse}
use Rattle.std.specs.List.Sorted.{IsPermutation}
use Rattle.std.specs.Borrow.{Bor}
use Rattle.std.proofs.lemmas.Option.{same_Some}
use Rattle.std.proofs.lemmas.List.Sorted.{Contains-permutation, IsPermutation-map, IsPermutation-sym}
use Rattle.std.proofs.lemmas.Slice.Eq.{bytes_eq-Decides}
use Rattle.codeco_terms.specs.GrammarParts.{GrammarParts}
use Rattle.codeco_terms.specs.declared.categories.Ground.{Ground}
use Rattle.codeco_checked.specs.Sound.{IsSound}
use Rattle.wiki_base.specs.declared.numbers.WordId.{WordId}
use Rattle.lexicon.specs.declared.kinds.Kind.{Kind}
use Rattle.lexicon.specs.declared.words.Word.{Word}
use Rattle.lexicon.specs.Words.{Listed, IsLexicon, has_form}
use Rattle.lexicon.specs.Readings.{reading, readings_of}
use Rattle.derivation_trees.specs.declared.menus.Group.{Group}
use Rattle.derivation_trees.specs.declared.menus.Group.TheVariants.{Function}
use Rattle.derivation_trees.specs.Settings.{Setting}
use Rattle.derivation_trees.specs.Cutting.{is_terminal}
use Rattle.derivation_trees.specs.Partial.{IsBeginning}
use Rattle.derivation_trees.specs.Menus.{group_of, entry_cmp}
use Rattle.derivations.specs.Among.{Among}
use Rattle.derivations.specs.Entries.{shown, AllBefore, IsInOrder, goes_on, all_tried, forms_in, forms_among, functions_in, AreTexts}
use Rattle.derivations.proofs.Members.{among_left, among_right, among_map, among_flat_map}
use Rattle.derivations.proofs.SoundLemmas.{Mapped, from_map, Flattened, from_flat_map, either_among}
use Rattle.derivations.proofs.EntryLemmas.{entry_total, entry_trans, all_tried_in_order, all_tried_keeps, all_tried_has, all_tried_from, contains_among, among_contains}
use Rattle.derivations.proofs.TypingLemmas.{beginning_from_test, test_from_beginning, gathered}
use Rattle.chart_table.specs.declared.asks.Ask.{Ask}
use Rattle.chart_table.specs.declared.asks.Ask.TheVariants as ask
use Rattle.chart_table.proofs.BranchLemmas.{either}
use Rattle.chart.specs.Offers.{with_last, Told, some_follows, is_used, form_asks, used_asks, used_forms, chosen, class_of, told_forms, new_forms, KnownFound, NewFound, NoneNew, IsOrdered}
use Rattle.chart.proofs.ReadingLemmas.{at_slice, form_among}
use Rattle.chart.proofs.OfferLemmas.{reads, AsksAt, IsFirst, terminal_law, class_told, used_form_follows, used_form_asked, new_form_follows, new_form_asked}

-- the entries have this one
abbrev Has : List (Group × List ℕ) → Group × List ℕ → Type 0
Has entries e = Among entries e

-- an entry is a form of one of the words, at a place among its forms
pub record FormAt (live : List Word) (e : Group × List ℕ) : Type 0 where
  pub place : ℕ
  pub word : Word
  pub lives : slice_get live place ≡ Some word
  pub at : ℕ
  pub is : slice_get word.forms.texts at ≡ Some e.1
  pub group : group_of word.forms.kind ≡ e.0

slice_among : {X : Type 0} (xs : List X) (i : ℕ) (x : X) → slice_get xs i ≡ Some x → Among xs x
slice_among [] i x h = absurd (cc)
slice_among (y ∷ ys) zero x h = inl (sym (same_Some y x h))
slice_among (y ∷ ys) (suc i) x h = inr (slice_among ys i x h)

among_slice : {X : Type 0} (xs : List X) (x : X) → Among xs x → (i : ℕ) × (slice_get xs i ≡ Some x)
among_slice [] x h = absurd h
among_slice (y ∷ ys) x (inl e) = (0, ap Some (sym e))
among_slice (y ∷ ys) x (inr h) = let r = among_slice ys x h in (suc r.0, r.1)

form_at : (live : List Word) (e : Group × List ℕ) → Has (forms_among live) e → FormAt live e
form_at live e h =
    let w : Flattened forms_in live e = from_flat_map forms_in live e h in
    let t : Mapped (λ t. (group_of w.from.forms.kind, t)) w.from.forms.texts e = from_map (λ t. (group_of w.from.forms.kind, t)) w.from.forms.texts e w.is in
    let place = among_slice live w.from w.among in
    let at = among_slice w.from.forms.texts t.from t.among in
    record {
      place = place.0;
      word = w.from;
      lives = place.1;
      at = at.0;
      is = at.1 ∙ ap (λ (x : Group × List ℕ). Some x.1) (sym t.is);
      group = ap (λ (x : Group × List ℕ). x.0) (sym t.is);
    }

at_form : (live : List Word) (e : Group × List ℕ) → FormAt live e → Has (forms_among live) e
at_form live e f =
    subst (λ g. Has (forms_among live) (g, e.1)) f.group
    (among_flat_map forms_in live f.word (group_of f.word.forms.kind, e.1) (slice_among live f.place f.word f.lives)
    (among_map (λ t. (group_of f.word.forms.kind, t)) f.word.forms.texts e.1 (slice_among f.word.forms.texts f.at e.1 f.is)))

-- what is told of a list of asks, in two parts

told_split : (s : Setting) (n : ℕ) (xs ys : List Ask) (bs : List Bool) → Told s n (xs ++ ys) bs
    → (one : List Bool) × ((two : List Bool) × (bs ≡ one ++ two) × Told s n xs one × Told s n ys two)
told_split s n [] ys bs told = ([], (bs, refl, tt, told))
told_split s n (x ∷ xs) ys [] told = absurd told
told_split s n (x ∷ xs) ys (b ∷ bs) told =
    let r = told_split s n xs ys bs told.1 in
    (b ∷ r.0, (r.1.0, ap (λ l. b ∷ l) r.1.1, (told.0, r.1.2), r.1.3))

told_long : (s : Setting) (n : ℕ) (xs : List Ask) (bs : List Bool) → Told s n xs bs → length bs ≡ length xs
told_long s n [] [] told = refl
told_long s n [] (b ∷ bs) told = absurd told
told_long s n (x ∷ xs) [] told = absurd told
told_long s n (x ∷ xs) (b ∷ bs) told = let rest = told_long s n xs bs told.1 in omega arith

chosen_append : {X : Type 0} (xs ys : List X) (one two : List Bool) → length one ≡ length xs → chosen (xs ++ ys) (one ++ two) ≡ chosen xs one ++ chosen ys two
chosen_append [] ys [] two h = refl
chosen_append [] ys (b ∷ one) two h = absurd (omega arith)
chosen_append (x ∷ xs) ys [] two h = absurd (omega arith)
chosen_append (x ∷ xs) ys (true ∷ one) two h = ap (λ l. x ∷ l) (chosen_append xs ys one two (omega arith))
chosen_append (x ∷ xs) ys (false ∷ one) two h = chosen_append xs ys one two (omega arith)

-- the forms of one word

record FormFound (s : Setting) (n : ℕ) (k : Kind) (id : WordId) (group : Group) (place : ℕ) (forms : List (List ℕ)) (e : Group × List ℕ) : Type 0 where
  at : ℕ
  is : slice_get forms at ≡ Some e.1
  group_is : group ≡ e.0
  asked : AsksAt s n (ask.Reading (reading k id (place + at) e.1))

form_found : (s : Setting) (n : ℕ) (k : Kind) (id : WordId) (group : Group) (place : ℕ) (forms : List (List ℕ)) (bs : List Bool) (e : Group × List ℕ)
    → Told s n (form_asks k id place forms) bs → Has (chosen (map (λ t. (group, t)) forms) bs) e → FormFound s n k id group place forms e
form_found s n k id group place [] bs e told h = absurd h
form_found s n k id group place (form ∷ forms) [] e told h = absurd told
form_found s n k id group place (form ∷ forms) (false ∷ bs) e told h =
    let r = form_found s n k id group (place + 1) forms bs e told.1 h in
    let next : place + 1 + r.at ≡ place + suc r.at = omega arith in
    record { at = suc r.at; is = r.is; group_is = r.group_is; asked = subst (λ p. AsksAt s n (ask.Reading (reading k id p e.1))) next r.asked }
form_found s n k id group place (form ∷ forms) (true ∷ bs) e told (inr h) =
    let r = form_found s n k id group (place + 1) forms bs e told.1 h in
    let next : place + 1 + r.at ≡ place + suc r.at = omega arith in
    record { at = suc r.at; is = r.is; group_is = r.group_is; asked = subst (λ p. AsksAt s n (ask.Reading (reading k id p e.1))) next r.asked }
form_found s n k id group place (form ∷ forms) (true ∷ bs) e told (inl h) =
    let none_more : place ≡ place + 0 = omega arith in
    let text : form ≡ e.1 = ap (λ (x : Group × List ℕ). x.1) (sym h) in
    record {
      at = 0;
      is = ap Some text;
      group_is = ap (λ (x : Group × List ℕ). x.0) (sym h);
      asked = subst (λ p. AsksAt s n (ask.Reading (reading k id p e.1))) none_more
          (subst (λ t. AsksAt s n (ask.Reading (reading k id place t))) text (told.0.0 refl));
    }

found_form : (s : Setting) (n : ℕ) (k : Kind) (id : WordId) (group : Group) (place : ℕ) (forms : List (List ℕ)) (bs : List Bool) (at : ℕ) (text : List ℕ)
    → Told s n (form_asks k id place forms) bs → slice_get forms at ≡ Some text → AsksAt s n (ask.Reading (reading k id (place + at) text))
    → Has (chosen (map (λ t. (group, t)) forms) bs) (group, text)
found_form s n k id group place [] bs at text told is asked = absurd (cc)
found_form s n k id group place (form ∷ forms) [] at text told is asked = absurd told
found_form s n k id group place (form ∷ forms) (true ∷ bs) zero text told is asked = inl (ap (λ t. (group, t)) (sym (same_Some form text is)))
found_form s n k id group place (form ∷ forms) (false ∷ bs) zero text told is asked =
    let none_less : place + 0 ≡ place = omega arith in
    let no : false ≡ true = told.0.1 (subst (λ t. AsksAt s n (ask.Reading (reading k id place t))) (sym (same_Some form text is))
    (subst (λ p. AsksAt s n (ask.Reading (reading k id p text))) none_less asked)) in
    absurd (cc)
found_form s n k id group place (form ∷ forms) (b ∷ bs) (suc at) text told is asked =
    let next : place + suc at ≡ place + 1 + at = omega arith in
    by b (found_form s n k id group (place + 1) forms bs at text told.1 is (subst (λ p. AsksAt s n (ask.Reading (reading k id p text))) next asked))
  where
    by : (c : Bool) → Has (chosen (map (λ t. (group, t)) forms) bs) (group, text)
        → Has (if c then (group, form) ∷ chosen (map (λ t. (group, t)) forms) bs else chosen (map (λ t. (group, t)) forms) bs) (group, text)
    by true h = inr h
    by false h = h

asks_long : (k : Kind) (id : WordId) (place : ℕ) (forms : List (List ℕ)) (group : Group)
    → length (form_asks k id place forms) ≡ length {A = Group × List ℕ} (map (λ t. (group, t)) forms)
asks_long k id place [] group = refl
asks_long k id place (form ∷ forms) group = let rest = asks_long k id (place + 1) forms group in omega arith

-- the forms of words with a form among the tokens

record UsedFound (s : Setting) (n : ℕ) (rs : List (List Ground)) (ws : List Word) (e : Group × List ℕ) : Type 0 where
  form : FormAt ws e
  used : is_used rs form.word.id ≡ true
  asked : AsksAt s n (ask.Reading (reading form.word.forms.kind form.word.id form.at e.1))

abbrev further : (w : Word) (ws : List Word) (e : Group × List ℕ) → FormAt ws e → FormAt (w ∷ ws) e
further w ws e f = record { place = suc f.place; word = f.word; lives = f.lives; at = f.at; is = f.is; group = f.group }

used_found : (s : Setting) (n : ℕ) (rs : List (List Ground)) (ws : List Word) (bs : List Bool) (e : Group × List ℕ) → Told s n (used_asks rs ws) bs
    → Has (chosen (used_forms rs ws) bs) e → UsedFound s n rs ws e
used_found s n rs [] bs e told h = absurd h
used_found s n rs (w ∷ ws) bs e told h = by (is_used rs w.id) refl (λ cs t m. later (used_found s n rs ws cs e t m)) told h
  where
    later : UsedFound s n rs ws e → UsedFound s n rs (w ∷ ws) e
    later r = record { form = further w ws e r.form; used = r.used; asked = r.asked }

    by : (b : Bool) → is_used rs w.id ≡ b
        → ((cs : List Bool) → Told s n (used_asks rs ws) cs → Has (chosen (used_forms rs ws) cs) e → UsedFound s n rs (w ∷ ws) e)
        → Told s n (if b then form_asks w.forms.kind w.id 0 w.forms.texts ++ used_asks rs ws else used_asks rs ws) bs
        → Has (chosen (if b then forms_in w ++ used_forms rs ws else used_forms rs ws) bs) e → UsedFound s n rs (w ∷ ws) e
    by false is rest t m = rest bs t m
    by true is rest t m =
        let r = told_split s n (form_asks w.forms.kind w.id 0 w.forms.texts) (used_asks rs ws) bs t in
        let long : length r.0 ≡ length (forms_in w) =
        told_long s n (form_asks w.forms.kind w.id 0 w.forms.texts) r.0 r.1.2 ∙ asks_long w.forms.kind w.id 0 w.forms.texts (group_of w.forms.kind) in
        let parts : Has (chosen (forms_in w) r.0 ++ chosen (used_forms rs ws) r.1.0) e =
        subst (λ l. Has l e) (ap (chosen (forms_in w ++ used_forms rs ws)) r.1.1 ∙ chosen_append (forms_in w) (used_forms rs ws) r.0 r.1.0 long) m in
        either (λ here. first (form_found s n w.forms.kind w.id (group_of w.forms.kind) 0 w.forms.texts r.0 e r.1.2 here)) (λ there. rest r.1.0 r.1.3 there)
        (either_among (chosen (forms_in w) r.0) (chosen (used_forms rs ws) r.1.0) e parts)
      where
        first : FormFound s n w.forms.kind w.id (group_of w.forms.kind) 0 w.forms.texts e → UsedFound s n rs (w ∷ ws) e
        first f =
            let none_less : 0 + f.at ≡ f.at = omega arith in
            record {
              form = record { place = 0; word = w; lives = refl; at = f.at; is = f.is; group = f.group_is };
              used = is;
              asked = subst (λ p. AsksAt s n (ask.Reading (reading w.forms.kind w.id p e.1))) none_less f.asked;
            }

found_used : (s : Setting) (n : ℕ) (rs : List (List Ground)) (ws : List Word) (bs : List Bool) (place : ℕ) (word : Word) (at : ℕ) (text : List ℕ)
    → Told s n (used_asks rs ws) bs → slice_get ws place ≡ Some word → slice_get word.forms.texts at ≡ Some text → is_used rs word.id ≡ true
    → AsksAt s n (ask.Reading (reading word.forms.kind word.id at text)) → Has (chosen (used_forms rs ws) bs) (group_of word.forms.kind, text)
found_used s n rs [] bs place word at text told lives is used asked = absurd (cc)
found_used s n rs (w ∷ ws) bs zero word at text told lives is used asked =
    let same : w ≡ word = same_Some w word lives in
    subst (λ (x : Word). Has (chosen (used_forms rs (w ∷ ws)) bs) (group_of x.forms.kind, text)) same
    (here (ap (λ (x : Word). is_used rs x.id) same ∙ used) (ap (λ (x : Word). slice_get x.forms.texts at) same ∙ is)
    (subst (λ (x : Word). AsksAt s n (ask.Reading (reading x.forms.kind x.id at text))) (sym same) asked))
  where
    here : is_used rs w.id ≡ true → slice_get w.forms.texts at ≡ Some text → AsksAt s n (ask.Reading (reading w.forms.kind w.id at text))
        → Has (chosen (used_forms rs (w ∷ ws)) bs) (group_of w.forms.kind, text)
    here u i a =
        let t : Told s n (form_asks w.forms.kind w.id 0 w.forms.texts ++ used_asks rs ws) bs =
        subst (λ b. Told s n (if b then form_asks w.forms.kind w.id 0 w.forms.texts ++ used_asks rs ws else used_asks rs ws) bs) u told in
        let r = told_split s n (form_asks w.forms.kind w.id 0 w.forms.texts) (used_asks rs ws) bs t in
        let long : length r.0 ≡ length (forms_in w) =
        told_long s n (form_asks w.forms.kind w.id 0 w.forms.texts) r.0 r.1.2 ∙ asks_long w.forms.kind w.id 0 w.forms.texts (group_of w.forms.kind) in
        let none_more : at ≡ 0 + at = omega arith in
        let m = found_form s n w.forms.kind w.id (group_of w.forms.kind) 0 w.forms.texts r.0 at text r.1.2 i
        (subst (λ p. AsksAt s n (ask.Reading (reading w.forms.kind w.id p text))) none_more a) in
        subst (λ b. Has (chosen (if b then forms_in w ++ used_forms rs ws else used_forms rs ws) bs) (group_of w.forms.kind, text)) (sym u)
        (subst (λ l. Has l (group_of w.forms.kind, text))
        (sym (ap (chosen (forms_in w ++ used_forms rs ws)) r.1.1 ∙ chosen_append (forms_in w) (used_forms rs ws) r.0 r.1.0 long))
        (among_left (chosen (forms_in w) r.0) (chosen (used_forms rs ws) r.1.0) (group_of w.forms.kind, text) m))
found_used s n rs (w ∷ ws) bs (suc place) word at text told lives is used asked =
    by (is_used rs w.id) (λ cs t. found_used s n rs ws cs place word at text t lives is used asked) told
  where
    by : (b : Bool) → ((cs : List Bool) → Told s n (used_asks rs ws) cs → Has (chosen (used_forms rs ws) cs) (group_of word.forms.kind, text))
        → Told s n (if b then form_asks w.forms.kind w.id 0 w.forms.texts ++ used_asks rs ws else used_asks rs ws) bs
        → Has (chosen (if b then forms_in w ++ used_forms rs ws else used_forms rs ws) bs) (group_of word.forms.kind, text)
    by false rest t = rest bs t
    by true rest t =
        let r = told_split s n (form_asks w.forms.kind w.id 0 w.forms.texts) (used_asks rs ws) bs t in
        let long : length r.0 ≡ length (forms_in w) =
        told_long s n (form_asks w.forms.kind w.id 0 w.forms.texts) r.0 r.1.2 ∙ asks_long w.forms.kind w.id 0 w.forms.texts (group_of w.forms.kind) in
        subst (λ l. Has l (group_of word.forms.kind, text))
        (sym (ap (chosen (forms_in w ++ used_forms rs ws)) r.1.1 ∙ chosen_append (forms_in w) (used_forms rs ws) r.0 r.1.0 long))
        (among_right (chosen (forms_in w) r.0) (chosen (used_forms rs ws) r.1.0) (group_of word.forms.kind, text) (rest r.1.0 r.1.3))

-- the forms of other words

record ToldForm (told : List Bool) (k : Kind) (place : ℕ) (forms : List (List ℕ)) (e : Group × List ℕ) : Type 0 where
  at : ℕ
  is : slice_get forms at ≡ Some e.1
  group : group_of k ≡ e.0
  yes : slice_index_or told (class_of k (place + at) e.1) false ≡ true

told_form : (told : List Bool) (k : Kind) (place : ℕ) (forms : List (List ℕ)) (e : Group × List ℕ) → Has (told_forms told k place forms) e
    → ToldForm told k place forms e
told_form told k place [] e h = absurd h
told_form told k place (form ∷ forms) e h = by (slice_index_or told (class_of k place form) false) refl (λ m. later (told_form told k (place + 1) forms e m)) h
  where
    later : ToldForm told k (place + 1) forms e → ToldForm told k place (form ∷ forms) e
    later r =
        let next : place + 1 + r.at ≡ place + suc r.at = omega arith in
        record { at = suc r.at; is = r.is; group = r.group; yes = subst (λ p. slice_index_or told (class_of k p e.1) false ≡ true) next r.yes }

    by : (b : Bool) → slice_index_or told (class_of k place form) false ≡ b
        → (Has (told_forms told k (place + 1) forms) e → ToldForm told k place (form ∷ forms) e)
        → Has (if b then (group_of k, form) ∷ told_forms told k (place + 1) forms else told_forms told k (place + 1) forms) e
        → ToldForm told k place (form ∷ forms) e
    by false y rest m = rest m
    by true y rest (inr m) = rest m
    by true y rest (inl m) =
        let none_more : place ≡ place + 0 = omega arith in
        let text : form ≡ e.1 = ap (λ (x : Group × List ℕ). x.1) (sym m) in
        record {
          at = 0;
          is = ap Some text;
          group = ap (λ (x : Group × List ℕ). x.0) (sym m);
          yes = subst (λ p. slice_index_or told (class_of k p e.1) false ≡ true) none_more
              (subst (λ t. slice_index_or told (class_of k place t) false ≡ true) text y);
        }

form_told : (told : List Bool) (k : Kind) (place : ℕ) (forms : List (List ℕ)) (at : ℕ) (text : List ℕ) → slice_get forms at ≡ Some text
    → slice_index_or told (class_of k (place + at) text) false ≡ true → Has (told_forms told k place forms) (group_of k, text)
form_told told k place [] at text is tells = absurd (cc)
form_told told k place (form ∷ forms) zero text is tells =
    let none_less : place + 0 ≡ place = omega arith in
    let same : form ≡ text = same_Some form text is in
    let y : slice_index_or told (class_of k place form) false ≡ true =
    ap (λ t. slice_index_or told (class_of k place t) false) same ∙ ap (λ p. slice_index_or told (class_of k p text) false) (sym none_less) ∙ tells in
    subst (λ b. Has (if b then (group_of k, form) ∷ told_forms told k (place + 1) forms else told_forms told k (place + 1) forms) (group_of k, text)) (sym y)
    (inl (ap (λ t. (group_of k, t)) (sym same)))
form_told told k place (form ∷ forms) (suc at) text is tells =
    let next : place + suc at ≡ place + 1 + at = omega arith in
    by (slice_index_or told (class_of k place form) false)
    (form_told told k (place + 1) forms at text is (subst (λ p. slice_index_or told (class_of k p text) false ≡ true) next tells))
  where
    by : (b : Bool) → Has (told_forms told k (place + 1) forms) (group_of k, text)
        → Has (if b then (group_of k, form) ∷ told_forms told k (place + 1) forms else told_forms told k (place + 1) forms) (group_of k, text)
    by true h = inr h
    by false h = h

record NewForm (rs : List (List Ground)) (told : List Bool) (ws : List Word) (e : Group × List ℕ) : Type 0 where
  form : FormAt ws e
  new : is_used rs form.word.id ≡ false
  yes : slice_index_or told (class_of form.word.forms.kind form.at e.1) false ≡ true

new_form : (rs : List (List Ground)) (told : List Bool) (ws : List Word) (e : Group × List ℕ) → Has (new_forms rs told ws) e → NewForm rs told ws e
new_form rs told [] e h = absurd h
new_form rs told (w ∷ ws) e h = by (is_used rs w.id) refl (λ m. later (new_form rs told ws e m)) h
  where
    later : NewForm rs told ws e → NewForm rs told (w ∷ ws) e
    later r = record { form = further w ws e r.form; new = r.new; yes = r.yes }

    by : (b : Bool) → is_used rs w.id ≡ b → (Has (new_forms rs told ws) e → NewForm rs told (w ∷ ws) e)
        → Has (if b then new_forms rs told ws else told_forms told w.forms.kind 0 w.forms.texts ++ new_forms rs told ws) e → NewForm rs told (w ∷ ws) e
    by true is rest m = rest m
    by false is rest m = either (λ here. first (told_form told w.forms.kind 0 w.forms.texts e here)) rest
        (either_among (told_forms told w.forms.kind 0 w.forms.texts) (new_forms rs told ws) e m)
      where
        first : ToldForm told w.forms.kind 0 w.forms.texts e → NewForm rs told (w ∷ ws) e
        first f =
            let none_less : 0 + f.at ≡ f.at = omega arith in
            record {
              form = record { place = 0; word = w; lives = refl; at = f.at; is = f.is; group = f.group };
              new = is;
              yes = subst (λ p. slice_index_or told (class_of w.forms.kind p e.1) false ≡ true) none_less f.yes;
            }

form_new : (rs : List (List Ground)) (told : List Bool) (ws : List Word) (place : ℕ) (word : Word) (at : ℕ) (text : List ℕ) → slice_get ws place ≡ Some word
    → slice_get word.forms.texts at ≡ Some text → is_used rs word.id ≡ false → slice_index_or told (class_of word.forms.kind at text) false ≡ true
    → Has (new_forms rs told ws) (group_of word.forms.kind, text)
form_new rs told [] place word at text lives is new tells = absurd (cc)
form_new rs told (w ∷ ws) zero word at text lives is new tells =
    let same : w ≡ word = same_Some w word lives in
    subst (λ (x : Word). Has (new_forms rs told (w ∷ ws)) (group_of x.forms.kind, text)) same
    (here (ap (λ (x : Word). is_used rs x.id) same ∙ new) (ap (λ (x : Word). slice_get x.forms.texts at) same ∙ is)
    (ap (λ (x : Word). slice_index_or told (class_of x.forms.kind at text) false) same ∙ tells))
  where
    here : is_used rs w.id ≡ false → slice_get w.forms.texts at ≡ Some text → slice_index_or told (class_of w.forms.kind at text) false ≡ true
        → Has (new_forms rs told (w ∷ ws)) (group_of w.forms.kind, text)
    here u i y =
        let none_more : at ≡ 0 + at = omega arith in
        let m = form_told told w.forms.kind 0 w.forms.texts at text i
        (subst (λ p. slice_index_or told (class_of w.forms.kind p text) false ≡ true) none_more y) in
        subst (λ b. Has (if b then new_forms rs told ws else told_forms told w.forms.kind 0 w.forms.texts ++ new_forms rs told ws)
        (group_of w.forms.kind, text)) (sym u)
        (among_left (told_forms told w.forms.kind 0 w.forms.texts) (new_forms rs told ws) (group_of w.forms.kind, text) m)
form_new rs told (w ∷ ws) (suc place) word at text lives is new tells = by (is_used rs w.id) (form_new rs told ws place word at text lives is new tells)
  where
    by : (b : Bool) → Has (new_forms rs told ws) (group_of word.forms.kind, text)
        → Has (if b then new_forms rs told ws else told_forms told w.forms.kind 0 w.forms.texts ++ new_forms rs told ws) (group_of word.forms.kind, text)
    by true h = h
    by false h = among_right (told_forms told w.forms.kind 0 w.forms.texts) (new_forms rs told ws) (group_of word.forms.kind, text) h

-- terminals

record FunctionAt (p : List ℕ → Bool) (texts : List (List ℕ)) (e : Group × List ℕ) : Type 0 where
  text : List ℕ
  among : Among texts text
  is : e ≡ (Function, text)
  yes : p text ≡ true

function_at : (p : List ℕ → Bool) (texts : List (List ℕ)) (e : Group × List ℕ) → Has (functions_in (filter p texts)) e → FunctionAt p texts e
function_at p [] e h = absurd h
function_at p (t ∷ ts) e h = by (p t) refl (λ m. later (function_at p ts e m)) h
  where
    later : FunctionAt p ts e → FunctionAt p (t ∷ ts) e
    later r = record { text = r.text; among = inr r.among; is = r.is; yes = r.yes }

    by : (b : Bool) → p t ≡ b → (Has (functions_in (filter p ts)) e → FunctionAt p (t ∷ ts) e)
        → Has (functions_in (if b then t ∷ filter p ts else filter p ts)) e → FunctionAt p (t ∷ ts) e
    by true y rest (inl m) = record { text = t; among = inl refl; is = m; yes = y }
    by true y rest (inr m) = rest m
    by false y rest m = rest m

at_function : (p : List ℕ → Bool) (texts : List (List ℕ)) (text : List ℕ) → Among texts text → p text ≡ true
    → Has (functions_in (filter p texts)) (Function, text)
at_function p [] text h tells = absurd h
at_function p (t ∷ ts) text (inl e) tells =
    subst (λ b. Has (functions_in (if b then t ∷ filter p ts else filter p ts)) (Function, text)) (sym (ap p (sym e) ∙ tells)) (inl (ap (λ x. (Function, x)) e))
at_function p (t ∷ ts) text (inr h) tells = by (p t) (at_function p ts text h tells)
  where
    by : (b : Bool) → Has (functions_in (filter p ts)) (Function, text) → Has (functions_in (if b then t ∷ filter p ts else filter p ts)) (Function, text)
    by true m = inr m
    by false m = m

one_of_terminals : (terminals : List (List ℕ)) (text : List ℕ) → Among terminals text → is_terminal terminals text ≡ true
one_of_terminals [] text h = absurd h
one_of_terminals (t ∷ ts) text (inl e) = ap (λ b. b || is_terminal ts text) ((bytes_eq-Decides text t).1 e)
one_of_terminals (t ∷ ts) text (inr h) = by (bytes_eq text t) (one_of_terminals ts text h)
  where
    by : (b : Bool) → is_terminal ts text ≡ true → (b || is_terminal ts text) ≡ true
    by true m = refl
    by false m = m

-- all that is found

number_above : (l : Listed) → IsLexicon l → (place : ℕ) (word : Word) → slice_get l.live place ≡ Some word → 0 < word.id.0
number_above l lexicon place word lives =
    let r = at_slice l.live place word lives in
    subst (λ (x : Word). 0 < x.id.0) r.1 (lexicon.given place word r.0).0

-- what is found, by the two tables
pub record AllFound (g : GrammarParts) (l : Listed) (tokens texts : List (List ℕ)) (found : List (Group × List ℕ)) : Type 0 where
  pub middle : List (Group × List ℕ)
  pub known : KnownFound g l.live tokens texts [] middle
  pub new : NoneNew l.live tokens middle found ⊎ NewFound g l.live tokens middle found

-- an entry may follow, and is one of those that are considered
IsCandidate : GrammarParts → Listed → List (List ℕ) → List (List ℕ) → Group × List ℕ → Type 0
IsCandidate g l tokens texts e = (Has (functions_in texts) e ⊎ Has (forms_among l.live) e) × IsBeginning g l (tokens ++ e.1 ∷ [])

known_candidate : (g : GrammarParts) (l : Listed) (tokens texts : List (List ℕ)) (middle : List (Group × List ℕ)) (e : Group × List ℕ) → IsSound g → IsLexicon l
    → g.terminals ≡ l.terminals → AreTexts texts g.terminals → KnownFound g l.live tokens texts [] middle → Among middle e → IsCandidate g l tokens texts e
unfolding IsCandidate
known_candidate g l tokens texts middle e sound lexicon same are k h =
    either (λ m. function (function_at (λ text. some_follows text g.terminals k.terminals) texts e m))
    (λ m. form (used_found (with_last g tokens (reads l tokens) k.token []) (length tokens) (reads l tokens) l.live k.forms e k.told_forms m))
    (either_among (functions_in (filter (λ text. some_follows text g.terminals k.terminals) texts)) (chosen (used_forms (reads l tokens) l.live) k.forms) e
    (subst (λ es. Has es e) k.found h))
  where
    function : FunctionAt (λ text. some_follows text g.terminals k.terminals) texts e
        → (Has (functions_in texts) e ⊎ Has (forms_among l.live) e) × IsBeginning g l (tokens ++ e.1 ∷ [])
    function f =
        let spelled : is_terminal l.terminals f.text ≡ true =
        ap (λ ts. is_terminal ts f.text) (sym same) ∙ one_of_terminals g.terminals f.text (are.of f.text f.among) in (
          inl (subst (λ x. Has (functions_in texts) x) (sym f.is) (among_map (λ t. (Function, t)) texts f.text f.among)),
          subst (λ (x : Group × List ℕ). IsBeginning g l (tokens ++ x.1 ∷ [])) (sym f.is)
              ((terminal_law g l tokens f.text k.token k.terminals sound lexicon spelled k.told_terminals).0 f.yes),
        )

    form : UsedFound (with_last g tokens (reads l tokens) k.token []) (length tokens) (reads l tokens) l.live e
        → (Has (functions_in texts) e ⊎ Has (forms_among l.live) e) × IsBeginning g l (tokens ++ e.1 ∷ [])
    form u =
        let f = u.form in
        (inr (at_form l.live e f), used_form_follows g l tokens f.place f.word f.at e.1 k.token sound lexicon f.lives f.is u.used u.asked)

is_first : (g : GrammarParts) (l : Listed) (tokens : List (List ℕ)) (middle found : List (Group × List ℕ)) → IsLexicon l
    → (n : NewFound g l.live tokens middle found) → IsFirst l tokens n.form n.word
is_first g l tokens middle found lexicon n =
    record { place = n.place; lives = n.lives; form_is = n.form_is; new = n.new; above = number_above l lexicon n.place n.word n.lives }

found_candidate : (g : GrammarParts) (l : Listed) (tokens texts : List (List ℕ)) (found : List (Group × List ℕ)) (e : Group × List ℕ) → IsSound g → IsLexicon l
    → g.terminals ≡ l.terminals → AreTexts texts g.terminals → AllFound g l tokens texts found → Among found e → IsCandidate g l tokens texts e
unfolding IsCandidate
found_candidate g l tokens texts found e sound lexicon same are all h = by all.new
  where
    before : Among all.middle e → (Has (functions_in texts) e ⊎ Has (forms_among l.live) e) × IsBeginning g l (tokens ++ e.1 ∷ [])
    before m = known_candidate g l tokens texts all.middle e sound lexicon same are all.known m

    by : NoneNew l.live tokens all.middle found ⊎ NewFound g l.live tokens all.middle found
        → (Has (functions_in texts) e ⊎ Has (forms_among l.live) e) × IsBeginning g l (tokens ++ e.1 ∷ [])
    by (inl n) = before (subst (λ es. Has es e) n.found h)
    by (inr n) = either before (λ m. form (new_form (reads l tokens) n.told l.live e m))
        (either_among all.middle (new_forms (reads l tokens) n.told l.live) e (subst (λ es. Has es e) n.found h))
      where
        form : NewForm (reads l tokens) n.told l.live e → (Has (functions_in texts) e ⊎ Has (forms_among l.live) e) × IsBeginning g l (tokens ++ e.1 ∷ [])
        form u =
            let f = u.form in
            let asked = (class_told (with_last g tokens (reads l tokens) n.token (readings_of l.live n.form)) (length tokens) n.told f.word.forms.kind n.word.id
            f.at e.1 n.told_classes).0 u.yes in (
              inr (at_form l.live e f),
              new_form_follows g l tokens f.place f.word n.word f.at e.1 n.form n.token sound lexicon
                  (is_first g l tokens all.middle found lexicon n) f.lives f.is u.new (number_above l lexicon f.place f.word f.lives) asked,
            )

candidate_found : (g : GrammarParts) (l : Listed) (tokens texts : List (List ℕ)) (found : List (Group × List ℕ)) (e : Group × List ℕ) → IsSound g → IsLexicon l
    → g.terminals ≡ l.terminals → AreTexts texts g.terminals → AllFound g l tokens texts found → IsCandidate g l tokens texts e → Among found e
unfolding IsCandidate
candidate_found g l tokens texts found e sound lexicon same are all c = either function (λ m. form (form_at l.live e m)) c.0
  where
    k : KnownFound g l.live tokens texts [] all.middle
    k = all.known

    kept : Among all.middle e → Among found e
    kept m = by all.new
      where
        by : NoneNew l.live tokens all.middle found ⊎ NewFound g l.live tokens all.middle found → Among found e
        by (inl n) = subst (λ es. Has es e) (sym n.found) m
        by (inr n) = subst (λ es. Has es e) (sym n.found) (among_left all.middle (new_forms (reads l tokens) n.told l.live) e m)

    function : Has (functions_in texts) e → Among found e
    function m =
        let t : Mapped (λ t. (Function, t)) texts e = from_map (λ t. (Function, t)) texts e m in
        let spelled : is_terminal l.terminals t.from ≡ true =
        ap (λ ts. is_terminal ts t.from) (sym same) ∙ one_of_terminals g.terminals t.from (are.of t.from t.among) in
        let goes : IsBeginning g l (tokens ++ t.from ∷ []) = subst (λ (x : Group × List ℕ). IsBeginning g l (tokens ++ x.1 ∷ [])) t.is c.1 in
        let tells = (terminal_law g l tokens t.from k.token k.terminals sound lexicon spelled k.told_terminals).1 goes in
        let at = at_function (λ text. some_follows text g.terminals k.terminals) texts t.from t.among tells in
        kept (subst (λ es. Has es e) (sym k.found)
        (among_left (functions_in (filter (λ text. some_follows text g.terminals k.terminals) texts)) (chosen (used_forms (reads l tokens) l.live) k.forms)
        e (subst (λ x. Has (functions_in (filter (λ text. some_follows text g.terminals k.terminals) texts)) x) (sym t.is) at)))

    form : FormAt l.live e → Among found e
    form f = by (is_used (reads l tokens) f.word.id) refl
      where
        has : has_form e.1 f.word ≡ true
        has = form_among f.word.forms.texts f.at e.1 f.is

        new_one : is_used (reads l tokens) f.word.id ≡ false → NoneNew l.live tokens all.middle found ⊎ NewFound g l.live tokens all.middle found
            → Among found e
        new_one is (inl n) = let z : true ≡ false = sym (n.used f.place f.word f.lives) ∙ is in absurd (cc)
        new_one is (inr n) =
            let r = new_form_asked g l tokens f.place f.word n.word e.1 n.form n.token sound lexicon same (is_first g l tokens all.middle found lexicon n)
            f.lives has is (number_above l lexicon f.place f.word f.lives) c.1 in
            let tells = (class_told (with_last g tokens (reads l tokens) n.token (readings_of l.live n.form)) (length tokens) n.told f.word.forms.kind n.word.id
            r.0 e.1 n.told_classes).1 r.2 in
            let m = form_new (reads l tokens) n.told l.live f.place f.word r.0 e.1 f.lives r.1 is tells in
            subst (λ es. Has es e) (sym n.found)
            (among_right all.middle (new_forms (reads l tokens) n.told l.live) e
            (subst (λ group. Has (new_forms (reads l tokens) n.told l.live) (group, e.1)) f.group m))

        by : (b : Bool) → is_used (reads l tokens) f.word.id ≡ b → Among found e
        by true is =
            let r = used_form_asked g l tokens f.place f.word e.1 k.token sound lexicon same f.lives has is c.1 in
            let m = found_used (with_last g tokens (reads l tokens) k.token []) (length tokens) (reads l tokens) l.live k.forms f.place f.word r.0 e.1
            k.told_forms f.lives r.1 is r.2 in
            kept (subst (λ es. Has es e) (sym k.found)
            (among_right (functions_in (filter (λ text. some_follows text g.terminals k.terminals) texts))
            (chosen (used_forms (reads l tokens) l.live) k.forms) e
            (subst (λ group. Has (chosen (used_forms (reads l tokens) l.live) k.forms) (group, e.1)) f.group m)))
        by false is = new_one is all.new

-- lists in order with the same entries are the same

before_among : (x y : Group × List ℕ) (ys : List (Group × List ℕ)) → AllBefore x ys → Among ys y → entry_cmp x y ≡ Less
before_among x y [] b h = absurd h
before_among x y (z ∷ zs) b (inl e) = ap (entry_cmp x) e ∙ b.0
before_among x y (z ∷ zs) b (inr h) = before_among x y zs b.1 h

not_both : (x y : Group × List ℕ) → entry_cmp x y ≡ Less → entry_cmp y x ≡ Less → ⊥
not_both x y h k =
    let turned : Less ≡ Greater = sym h ∙ entry_total.antisymm x y ∙ ap ordering_reverse k in absurd (cc)

not_itself : (x y : Group × List ℕ) → entry_cmp x y ≡ Less → x ≡ y → ⊥
not_itself x y h e = not_both x y h (ap (λ z. entry_cmp z x) (sym e) ∙ ap (entry_cmp x) e ∙ h)

same_in_order : (xs ys : List (Group × List ℕ)) → IsInOrder xs → IsInOrder ys → ((e : Group × List ℕ) → Among xs e → Among ys e)
    → ((e : Group × List ℕ) → Among ys e → Among xs e) → xs ≡ ys
same_in_order [] [] a b forth back = refl
same_in_order [] (y ∷ ys) a b forth back = absurd (back y (inl refl))
same_in_order (x ∷ xs) [] a b forth back = absurd (forth x (inl refl))
same_in_order (x ∷ xs) (y ∷ ys) a b forth back =
    ap (λ l. x ∷ l) (same_in_order xs ys a.1 b.1 (λ e h. later x y xs ys head a.0 e h (forth e (inr h)))
    (λ e h. later y x ys xs (sym head) b.0 e h (back e (inr h)))) ∙ ap (λ z. z ∷ ys) head
  where
    by : (x ≡ y) ⊎ Among ys x → (y ≡ x) ⊎ Among xs y → x ≡ y
    by (inl e) k = e
    by (inr h) (inl e) = sym e
    by (inr h) (inr k) = absurd (not_both x y (before_among x y xs a.0 k) (before_among y x ys b.0 h))

    head : x ≡ y
    head = by (forth x (inl refl)) (back y (inl refl))

    later : (u v : Group × List ℕ) (us vs : List (Group × List ℕ)) → u ≡ v → AllBefore u us → (e : Group × List ℕ) → Among us e → (e ≡ v) ⊎ Among vs e
        → Among vs e
    later u v us vs same before e h (inl is) = absurd (not_itself u e (before_among u e us before h) (same ∙ sym is))
    later u v us vs same before e h (inr k) = k

-- the entries in order are what is gathered by trying each
pub asked_gathered : (g : GrammarParts) (l : Listed) (tokens texts : List (List ℕ)) (found entries : List (Group × List ℕ)) → IsSound g → IsLexicon l
    → g.terminals ≡ l.terminals → AreTexts texts g.terminals → AllFound g l tokens texts found → IsOrdered found entries → entries ≡ gathered g l tokens texts
unfolding IsCandidate
asked_gathered g l tokens texts found entries sound lexicon same are all ordered =
    same_in_order entries (gathered g l tokens texts) ordered.ordered in_order forth back
  where
    in_order : IsInOrder (gathered g l tokens texts)
    in_order = all_tried_in_order (goes_on g l tokens) (forms_among l.live) (all_tried (goes_on g l tokens) (functions_in texts) [])
        (all_tried_in_order (goes_on g l tokens) (functions_in texts) [] tt)

    forth : (e : Group × List ℕ) → Among entries e → Among (gathered g l tokens texts) e
    forth e h =
        let c = found_candidate g l tokens texts found e sound lexicon same are all (ordered.only e h) in
        let goes = test_from_beginning g l (tokens ++ e.1 ∷ []) sound c.1 in
        either (λ m. all_tried_keeps (goes_on g l tokens) (forms_among l.live) (all_tried (goes_on g l tokens) (functions_in texts) []) e
        (all_tried_has (goes_on g l tokens) (functions_in texts) [] e m goes))
        (λ m. all_tried_has (goes_on g l tokens) (forms_among l.live) (all_tried (goes_on g l tokens) (functions_in texts) []) e m goes) c.0

    back : (e : Group × List ℕ) → Among (gathered g l tokens texts) e → Among entries e
    back e h = ordered.kept e (either (λ m. candidate_found g l tokens texts found e sound lexicon same are all
        (inr m.0, beginning_from_test g l (tokens ++ e.1 ∷ []) sound m.1))
        (λ m. either (λ k. candidate_found g l tokens texts found e sound lexicon same are all
        (inl k.0, beginning_from_test g l (tokens ++ e.1 ∷ []) sound k.1)) (λ k. absurd k) (all_tried_from (goes_on g l tokens) (functions_in texts) [] e m))
        (all_tried_from (goes_on g l tokens) (forms_among l.live) (all_tried (goes_on g l tokens) (functions_in texts) []) e h))

-- the entries of what is sorted and put in order

all_among : (cs xs : List (Group × List ℕ)) (e : Group × List ℕ) → Among (all_tried (λ x. true) cs xs) e → Among cs e ⊎ Among xs e
all_among cs xs e h = either (λ m. inl m.0) inr (all_tried_from (λ x. true) cs xs e h)

before_more : (x last next : Group × List ℕ) (ys : List (Group × List ℕ)) (k : ℕ) → slice_get ys k ≡ Some last → slice_get ys (suc k) ≡ Some next
    → entry_cmp last next ≡ Less → AllBefore x (take (suc k) ys) → AllBefore x (take (suc (suc k)) ys)
before_more x last next [] k a b h before = absurd (cc)
before_more x last next (y ∷ []) zero a b h before = absurd (cc)
before_more x last next (y ∷ z ∷ zs) zero a b h before =
    (before.0, (entry_trans x y z before.0 (ap (λ e. entry_cmp e z) (same_Some y last a) ∙ ap (entry_cmp last) (same_Some z next b) ∙ h), tt))
before_more x last next (y ∷ ys) (suc k) a b h before = (before.0, before_more x last next ys k a b h before.1)

-- so many of the first entries stand in order, and the last of them is before the next one
rising_more : (last next : Group × List ℕ) (ys : List (Group × List ℕ)) (k : ℕ) → slice_get ys k ≡ Some last → slice_get ys (suc k) ≡ Some next
    → entry_cmp last next ≡ Less → IsInOrder (take (suc k) ys) → IsInOrder (take (suc (suc k)) ys)
rising_more last next [] k a b h before = absurd (cc)
rising_more last next (y ∷ []) zero a b h before = absurd (cc)
rising_more last next (y ∷ z ∷ zs) zero a b h before =
    (((ap (λ e. entry_cmp e z) (same_Some y last a) ∙ ap (entry_cmp last) (same_Some z next b) ∙ h), tt), (tt, tt))
rising_more last next (y ∷ ys) (suc k) a b h before =
    (before_more y last next ys k a b h before.0, rising_more last next ys k a b h before.1)

one_rises : (ys : List (Group × List ℕ)) → IsInOrder (take 1 ys)
one_rises [] = tt
one_rises (y ∷ ys) = (tt, tt)

entry_at : (xs : List (Group × Bor (List ℕ))) (i : ℕ) (d : Group × Bor (List ℕ)) → i < length xs → slice_get (map shown xs) i ≡ Some (shown (get_or xs i d))
entry_at [] i d lt = absurd (omega arith)
entry_at (x ∷ xs) zero d lt = refl
entry_at (x ∷ xs) (suc i) d lt = entry_at xs i d (omega arith)

-- one turn of the test whether entries stand in order
pub rising_turn : (xs : List (Group × Bor (List ℕ))) (i : ℕ) (d e : Group × Bor (List ℕ)) → i < length xs
    → entry_cmp (shown (get_or xs (i - 1) d)) (shown (get_or xs i e)) ≡ Less → IsInOrder (take i (map shown xs)) → IsInOrder (take (i + 1) (map shown xs))
rising_turn xs zero d e lt h before = one_rises (map shown xs)
rising_turn xs (suc k) d e lt h before =
    let same : suc k - 1 ≡ k = omega arith in
    let next : suc (suc k) ≡ suc k + 1 = omega arith in
    subst (λ n. IsInOrder (take n (map shown xs))) next
    (rising_more (shown (get_or xs k d)) (shown (get_or xs (suc k) e)) (map shown xs) k (entry_at xs k d (omega arith)) (entry_at xs (suc k) e lt)
    (ap (λ n. entry_cmp (shown (get_or xs n d)) (shown (get_or xs (suc k) e))) (sym same) ∙ h) before)

pub sorted_ordered : (found sorted : List (Group × Bor (List ℕ))) → IsPermutation found sorted → IsInOrder (map shown sorted)
    → IsOrdered (map shown found) (map shown sorted)
sorted_ordered found sorted moved rises =
    let p = IsPermutation-map shown found sorted moved in
    record {
      ordered = rises;
      kept = λ e h.
          contains_among (map shown sorted) e (Contains-permutation (map shown found) (map shown sorted) e p (among_contains (map shown found) e h));
      only = λ e h. contains_among (map shown found) e
          (Contains-permutation (map shown sorted) (map shown found) e (IsPermutation-sym (map shown found) (map shown sorted) p)
          (among_contains (map shown sorted) e h));
    }

pub put_ordered : (found sorted entries : List (Group × Bor (List ℕ))) → IsPermutation found sorted
    → map shown entries ≡ all_tried (λ e. true) (map shown sorted) [] → IsOrdered (map shown found) (map shown entries)
put_ordered found sorted entries moved is =
    let p = IsPermutation-map shown found sorted moved in
    record {
      ordered = subst IsInOrder (sym is) (all_tried_in_order (λ e. true) (map shown sorted) [] tt);
      kept = λ e h. subst (λ es. Has es e) (sym is)
          (all_tried_has (λ x. true) (map shown sorted) [] e
          (contains_among (map shown sorted) e (Contains-permutation (map shown found) (map shown sorted) e p (among_contains (map shown found) e h))) refl);
      only = λ e h. contains_among (map shown found) e
          (Contains-permutation (map shown sorted) (map shown found) e (IsPermutation-sym (map shown found) (map shown sorted) p)
          (among_contains (map shown sorted) e (either (λ m. m) (λ m. absurd m) (all_among (map shown sorted) [] e (subst (λ es. Has es e) is h)))));
    }
