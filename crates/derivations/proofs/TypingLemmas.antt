-- What is gathered is the menu, and what is counted is the number of typeable tokens.
use Rattle.std.proofs.Common.{◌≡◌, ℕ, zero, suc, ◌+◌, ◌-◌, ◌<◌, ◌≤◌, List, [], ◌∷◌, ◌++◌, map, length, take, drop, get_or, Some, ◌&&◌, Bool, true, ◌⊎◌, inl, inr, refl, sym, ap, subst, ◌∙◌, arith, All, take-take, length-take-le}
use Rattle.std.specs.Prelude.{IsUtf8, slice_index_or, slice_get}
use Rattle.std.specs.Borrow.{Bor}
use Rattle.std.proofs.lemmas.List.{length-map, take_more, drop_more, map-append}
use Rattle.wiki_base.specs.Token.{IsToken}
use Rattle.codeco_text.specs.Names.{is_terminal as is_terminal_text}
use Rattle.std.specs.List.{list_all}
use Rattle.std.specs.Str.{bytes_eq}
use Rattle.std.proofs.lemmas.Slice.Eq.{bytes_eq-Decides}
use Rattle.std.proofs.lemmas.Bool.{cases_lt}
use Rattle.std.proofs.lemmas.Option.{same_Some}
use Rattle.wiki_base.proofs.ListLaws.{drop_get_or}
use Rattle.wiki_base.proofs.BoolLaws.{and_first, and_second}
use Rattle.codeco_terms.specs.GrammarParts.{GrammarParts}
use Rattle.codeco_checked.specs.Sound.{IsSound}
use Rattle.lexicon.specs.Words.{Listed}
use Rattle.lexicon.specs.declared.kinds.Kind.{Kind}
use Rattle.lexicon.specs.declared.kinds.Kind.TheVariants as kind
use Rattle.lexicon.specs.declared.words.Word.{Word}
use Rattle.derivation_trees.specs.declared.menus.Group.{Group}
use Rattle.derivation_trees.specs.declared.menus.Group.TheVariants.{Function, Name, Noun, Of, Verb, Adjective}
use Rattle.derivation_trees.specs.Cutting.{is_terminal}
use Rattle.derivation_trees.specs.Partial.{IsBeginning, IsTypeable}
use Rattle.derivation_trees.specs.Menus.{group_of, IsFormIn, IsOfGroup, IsOffered, IsMenu}
use Rattle.derivation_trees.specs.Sentences.{setting_of}
use Rattle.derivations.specs.Beginnings.{has_partial}
use Rattle.derivations.specs.Entries.{IsInOrder, goes_on, tried, all_tried, forms_in, forms_among, functions_in, texts_of, AreTexts}
use Rattle.derivations.specs.Typing.{IsTextMenu, IsTypeableCount}
use Rattle.derivations.proofs.Members.{Among, among_left, among_right, among_map, among_flat_map}
use Rattle.derivations.proofs.SoundLemmas.{Mapped, from_map, Flattened, from_flat_map, either_among}
use Rattle.derivations.proofs.CutLemmas.{Passing, any_passes, passes_any}
use Rattle.derivations.proofs.CutDepthLemmas.{partial_test}
use Rattle.derivations.proofs.DepthLemmas.{ordered_from_sound}
use Rattle.derivations.proofs.EntryLemmas.{all_tried-append, all_tried_in_order, all_tried_keeps, all_tried_has, all_tried_from, all_pairs_in_order, contains_among, among_contains}

-- the test of tokens

pub beginning_from_test : (g : GrammarParts) (lexicon : Listed) (tokens : List (List ℕ)) → IsSound g → has_partial (setting_of g lexicon tokens) ≡ true
    → IsBeginning g lexicon tokens
beginning_from_test g lexicon tokens sound h = (partial_test (setting_of g lexicon tokens) (ordered_from_sound g sound)).0 h

pub test_from_beginning : (g : GrammarParts) (lexicon : Listed) (tokens : List (List ℕ)) → IsSound g → IsBeginning g lexicon tokens
    → has_partial (setting_of g lexicon tokens) ≡ true
test_from_beginning g lexicon tokens sound h = (partial_test (setting_of g lexicon tokens) (ordered_from_sound g sound)).1 h

-- groups

terminal_among : (terminals : List (List ℕ)) (token : List ℕ) → is_terminal terminals token ≡ true → Among terminals token
terminal_among terminals token h =
    let one : Passing (bytes_eq token) terminals = any_passes (bytes_eq token) terminals h in
    subst (Among terminals) (sym ((bytes_eq-Decides token one.one).0 one.passes)) one.among

among_terminal : (terminals : List (List ℕ)) (token : List ℕ) → Among terminals token → is_terminal terminals token ≡ true
among_terminal terminals token h = passes_any (bytes_eq token) terminals token h ((bytes_eq-Decides token token).1 refl)

pub form_of_group : (g : GrammarParts) (lexicon : Listed) (k : Kind) (token : List ℕ) → IsFormIn lexicon.live (group_of k) token
    → IsOfGroup g lexicon (group_of k) token
form_of_group g lexicon kind.Name token h = h
form_of_group g lexicon k token h = h

word_form : (g : GrammarParts) (lexicon : Listed) (word : Word) (token : List ℕ) → Among lexicon.live word → Among word.forms.texts token
    → IsOfGroup g lexicon (group_of word.forms.kind) token
word_form g lexicon word token m n =
    form_of_group g lexicon word.forms.kind token
    (word, among_contains lexicon.live word m, refl, passes_any (bytes_eq token) word.forms.texts token n ((bytes_eq-Decides token token).1 refl))

form_group : (g : GrammarParts) (lexicon : Listed) (e : Group × List ℕ) → Among (forms_among lexicon.live) e → IsOfGroup g lexicon e.0 e.1
form_group g lexicon e h =
    let word : Flattened forms_in lexicon.live e = from_flat_map forms_in lexicon.live e h in
    let text : Mapped (λ t. (group_of word.from.forms.kind, t)) word.from.forms.texts e =
    from_map (λ t. (group_of word.from.forms.kind, t)) word.from.forms.texts e word.is in
    subst (λ (x : Group × List ℕ). IsOfGroup g lexicon x.0 x.1) (sym text.is) (word_form g lexicon word.from text.from word.among text.among)

function_group : (g : GrammarParts) (lexicon : Listed) (texts : List (List ℕ)) (e : Group × List ℕ)
    → ((text : List ℕ) → Among texts text → Among g.terminals text) → Among (functions_in texts) e → IsOfGroup g lexicon e.0 e.1
function_group g lexicon texts e of h =
    let text : Mapped (λ t. (Function, t)) texts e = from_map (λ t. (Function, t)) texts e h in
    subst (λ (x : Group × List ℕ). IsOfGroup g lexicon x.0 x.1) (sym text.is) (among_terminal g.terminals text.from (of text.from text.among))

form_candidate : (live : List Word) (group : Group) (token : List ℕ) → IsFormIn live group token → Among (forms_among live) (group, token)
form_candidate live group token h =
    let word : Word = h.0 in
    let one : Passing (bytes_eq token) word.forms.texts = any_passes (bytes_eq token) word.forms.texts h.3 in
    let text : Among word.forms.texts token = subst (Among word.forms.texts) (sym ((bytes_eq-Decides token one.one).0 one.passes)) one.among in
    subst (λ x. Among (forms_among live) (x, token)) h.2
    (among_flat_map forms_in live word (group_of word.forms.kind, token) (contains_among live word h.1)
    (among_map (λ t. (group_of word.forms.kind, t)) word.forms.texts token text))

candidate : (g : GrammarParts) (lexicon : Listed) (texts : List (List ℕ)) (group : Group) (token : List ℕ) → (Among g.terminals token → Among texts token)
    → IsOfGroup g lexicon group token → Among (functions_in texts) (group, token) ⊎ Among (forms_among lexicon.live) (group, token)
candidate g lexicon texts Function token whole h = inl (among_map (λ t. (Function, t)) texts token (whole (terminal_among g.terminals token h)))
candidate g lexicon texts Name token whole h = inr (form_candidate lexicon.live Name token h)
candidate g lexicon texts Noun token whole h = inr (form_candidate lexicon.live Noun token h)
candidate g lexicon texts Of token whole h = inr (form_candidate lexicon.live Of token h)
candidate g lexicon texts Verb token whole h = inr (form_candidate lexicon.live Verb token h)
candidate g lexicon texts Adjective token whole h = inr (form_candidate lexicon.live Adjective token h)

-- the menu

-- what is gathered
abbrev pub gathered : GrammarParts → Listed → List (List ℕ) → List (List ℕ) → List (Group × List ℕ)
gathered g lexicon tokens texts =
    all_tried (goes_on g lexicon tokens) (forms_among lexicon.live) (all_tried (goes_on g lexicon tokens) (functions_in texts) [])

gathered_in_order : (g : GrammarParts) (lexicon : Listed) (tokens texts : List (List ℕ)) → IsInOrder (gathered g lexicon tokens texts)
gathered_in_order g lexicon tokens texts =
    all_tried_in_order (goes_on g lexicon tokens) (forms_among lexicon.live) _ (all_tried_in_order (goes_on g lexicon tokens) (functions_in texts) [] tt)

gathered_offered : (g : GrammarParts) (lexicon : Listed) (tokens texts : List (List ℕ)) → IsSound g → AreTexts texts g.terminals → (e : Group × List ℕ)
    → Among (gathered g lexicon tokens texts) e → IsOffered g lexicon tokens e
gathered_offered g lexicon tokens texts sound are e h =
    by (all_tried_from (goes_on g lexicon tokens) (forms_among lexicon.live) (all_tried (goes_on g lexicon tokens) (functions_in texts) []) e h)
  where
    function : (Among (functions_in texts) e × (goes_on g lexicon tokens e ≡ true)) ⊎ ⊥ → IsOffered g lexicon tokens e
    function (inl k) = record { of_group = function_group g lexicon texts e are.of k.0; goes_on = beginning_from_test g lexicon (tokens ++ e.1 ∷ []) sound k.1 }
    function (inr k) = absurd k

    by : (Among (forms_among lexicon.live) e × (goes_on g lexicon tokens e ≡ true)) ⊎ Among (all_tried (goes_on g lexicon tokens) (functions_in texts) []) e
        → IsOffered g lexicon tokens e
    by (inl k) = record { of_group = form_group g lexicon e k.0; goes_on = beginning_from_test g lexicon (tokens ++ e.1 ∷ []) sound k.1 }
    by (inr k) = function (all_tried_from (goes_on g lexicon tokens) (functions_in texts) [] e k)

gathered_whole : (g : GrammarParts) (lexicon : Listed) (tokens texts : List (List ℕ)) → IsSound g → (e : Group × List ℕ)
    → (Among g.terminals e.1 → Among texts e.1) → IsOffered g lexicon tokens e → Among (gathered g lexicon tokens texts) e
gathered_whole g lexicon tokens texts sound e whole h =
    let goes : goes_on g lexicon tokens e ≡ true = test_from_beginning g lexicon (tokens ++ e.1 ∷ []) sound h.goes_on in
    elim (candidate g lexicon texts e.0 e.1 whole h.of_group) [
      | inl k ↦ all_tried_keeps (goes_on g lexicon tokens) (forms_among lexicon.live) (all_tried (goes_on g lexicon tokens) (functions_in texts) []) e
          (all_tried_has (goes_on g lexicon tokens) (functions_in texts) [] e k goes)
      | inr k ↦ all_tried_has (goes_on g lexicon tokens) (forms_among lexicon.live) (all_tried (goes_on g lexicon tokens) (functions_in texts) []) e k goes
    ]

pub text_menu : (g : GrammarParts) (lexicon : Listed) (tokens texts : List (List ℕ)) (menu : List (Group × List ℕ)) → IsSound g → AreTexts texts g.terminals
    → menu ≡ gathered g lexicon tokens texts → IsTextMenu g lexicon tokens menu
text_menu g lexicon tokens texts menu sound are h = subst (IsTextMenu g lexicon tokens) (sym h) (record {
  in_order = all_pairs_in_order (gathered g lexicon tokens texts) (gathered_in_order g lexicon tokens texts);
  offered = λ e c. gathered_offered g lexicon tokens texts sound are e (contains_among (gathered g lexicon tokens texts) e c);
  whole = λ e utf8 o. among_contains (gathered g lexicon tokens texts) e (gathered_whole g lexicon tokens texts sound e (are.whole e.1 utf8) o);
})

utf8_among : (terminals : List (List ℕ)) → All IsUtf8 terminals → (text : List ℕ) → Among terminals text → IsUtf8 text
utf8_among [] all text h = absurd h
utf8_among (x ∷ xs) all text (inl e) = subst IsUtf8 (sym e) (all 0 x (omega arith))
utf8_among (x ∷ xs) all text (inr h) = utf8_among xs (λ k d lt. all (suc k) d (omega (arith, lt))) text h

pub whole_menu : (g : GrammarParts) (lexicon : Listed) (tokens texts : List (List ℕ)) (menu : List (Group × List ℕ)) → IsSound g → AreTexts texts g.terminals
    → All IsUtf8 g.terminals → menu ≡ gathered g lexicon tokens texts → IsMenu g lexicon tokens menu
whole_menu g lexicon tokens texts menu sound are utf8 h = subst (IsMenu g lexicon tokens) (sym h) (record {
  in_order = all_pairs_in_order (gathered g lexicon tokens texts) (gathered_in_order g lexicon tokens texts);
  offered = λ e. (
    λ c. gathered_offered g lexicon tokens texts sound are e (contains_among (gathered g lexicon tokens texts) e c),
    λ o. among_contains (gathered g lexicon tokens texts) e
        (gathered_whole g lexicon tokens texts sound e (λ m. are.whole e.1 (utf8_among g.terminals utf8 e.1 m) m) o),
  );
})

-- counting

-- so many of the tokens, and each fewer, have a partial derivation
abbrev pub AreBeginnings : GrammarParts → Listed → List (List ℕ) → ℕ → Type 0
AreBeginnings g lexicon tokens longer = (j : ℕ) → j < longer → IsBeginning g lexicon (take j tokens)

pub one_beginning_more : (g : GrammarParts) (lexicon : Listed) (tokens : List (List ℕ)) (longer : ℕ) → AreBeginnings g lexicon tokens longer
    → IsBeginning g lexicon (take longer tokens) → AreBeginnings g lexicon tokens (longer + 1)
one_beginning_more g lexicon tokens longer are one j lt = elim (cases_lt j longer) [
  | inl below ↦ are j below
  | inr above ↦ let same : longer ≡ j = omega (arith, lt, above) in subst (λ n. IsBeginning g lexicon (take n tokens)) same one
]

all_typeable : (g : GrammarParts) (lexicon : Listed) (tokens : List (List ℕ)) (count : ℕ) → count ≤ length tokens → AreBeginnings g lexicon tokens (count + 1)
    → IsTypeable g lexicon (take count tokens)
all_typeable g lexicon tokens count le are j within =
    let long : length (take count tokens) ≡ count = length-take-le count tokens le in
    let few : j ≤ count = omega (arith, within, long) in
    subst (IsBeginning g lexicon) (sym (take-take j count tokens few)) (are j (omega (arith, few)))

-- where so many have none, fewer alone are typeable
pub count_stops : (g : GrammarParts) (lexicon : Listed) (tokens : List (List ℕ)) (longer count : ℕ) → longer ≤ length tokens → count ≡ longer - 1
    → AreBeginnings g lexicon tokens longer → (IsBeginning g lexicon (take longer tokens) → ⊥) → IsTypeableCount g lexicon tokens count
count_stops g lexicon tokens longer count le is are stops = record {
  within = omega (arith, le, is);
  typeable = λ some. all_typeable g lexicon tokens count (omega (arith, le, is)) (λ j lt. are j (omega (arith, lt, is, some)));
  greatest = λ m within typeable. by m within typeable (cases_lt m longer);
}
  where
    by : (m : ℕ) → m ≤ length tokens → IsTypeable g lexicon (take m tokens) → (m < longer) ⊎ (longer ≤ m) → m ≤ count
    by m within typeable (inl lt) = omega (arith, lt, is)
    by m within typeable (inr ge) =
        let same : length (take m tokens) ≡ m = length-take-le m tokens within in
        absurd (stops (subst (IsBeginning g lexicon) (take-take longer m tokens ge) (typeable longer (omega (arith, ge, same)))))

-- where all have one, all are typeable
pub count_all : (g : GrammarParts) (lexicon : Listed) (tokens : List (List ℕ)) (count : ℕ) → count ≡ length tokens
    → AreBeginnings g lexicon tokens (length tokens + 1) → IsTypeableCount g lexicon tokens count
count_all g lexicon tokens count is are = record {
  within = omega (arith, is);
  typeable = λ some. all_typeable g lexicon tokens count (omega (arith, is)) (λ j lt. are j (omega (arith, lt, is)));
  greatest = λ m within typeable. omega (arith, within, is);
}

-- the terminals that are in UTF-8

in_taken : (all : List (List ℕ)) (i : ℕ) (t text : List ℕ) → i < length all → t ≡ get_or all i t → Among (take (i + 1) all) text
    → Among (take i all) text ⊎ (text ≡ t)
in_taken all i t text lt is h =
    elim (either_among (take i all) (t ∷ []) text (subst (λ xs. Among xs text) (take_more all i t lt ∙ ap (λ y. take i all ++ y ∷ []) (sym is)) h)) [
      | inl k ↦ inl k
      | inr k ↦ elim k [ inl e ↦ inr e | inr n ↦ absurd n ]
    ]

taken_in : (all : List (List ℕ)) (i : ℕ) (t text : List ℕ) → i < length all → t ≡ get_or all i t → Among (take i all) text ⊎ (text ≡ t)
    → Among (take (i + 1) all) text
taken_in all i t text lt is h =
    subst (λ xs. Among xs text) (sym (take_more all i t lt ∙ ap (λ y. take i all ++ y ∷ []) (sym is)))
    (elim h [ inl k ↦ among_left (take i all) (t ∷ []) text k | inr e ↦ among_right (take i all) (t ∷ []) text (inl e) ])

texts_push : (ts : List (Bor (List ℕ))) (x : Bor (List ℕ)) → texts_of (ts ++ x ∷ []) ≡ texts_of ts ++ x.now ∷ []
texts_push ts x = map-append (λ t. t.now) ts (x ∷ [])

pub are_more : (ts : List (Bor (List ℕ))) (x : Bor (List ℕ)) (all : List (List ℕ)) (i : ℕ) (t : List ℕ) → i < length all → t ≡ get_or all i t → x.now ≡ t
    → AreTexts (texts_of ts) (take i all) → AreTexts (texts_of (ts ++ x ∷ [])) (take (i + 1) all)
are_more ts x all i t lt is same old = subst (λ us. AreTexts us (take (i + 1) all)) (sym (texts_push ts x)) (record {
  of = λ text m. elim (either_among (texts_of ts) (x.now ∷ []) text m) [
    | inl k ↦ taken_in all i t text lt is (inl (old.of text k))
    | inr k ↦ elim k [ inl e ↦ taken_in all i t text lt is (inr (e ∙ same)) | inr n ↦ absurd n ]
  ];
  whole = λ text utf8 m. elim (in_taken all i t text lt is m) [
    | inl k ↦ among_left (texts_of ts) (x.now ∷ []) text (old.whole text utf8 k)
    | inr e ↦ among_right (texts_of ts) (x.now ∷ []) text (inl (e ∙ sym same))
  ];
})

pub are_skipped : (ts all : List (List ℕ)) (i : ℕ) (t : List ℕ) → i < length all → t ≡ get_or all i t → (IsUtf8 t → ⊥) → AreTexts ts (take i all)
    → AreTexts ts (take (i + 1) all)
are_skipped ts all i t lt is not old = record {
  of = λ text m. taken_in all i t text lt is (inl (old.of text m));
  whole = λ text utf8 m. elim (in_taken all i t text lt is m) [
    | inl k ↦ old.whole text utf8 k
    | inr e ↦ absurd (not (subst IsUtf8 e utf8))
  ];
}

pub tokens_more : (ts : List (Bor (List ℕ))) (x : Bor (List ℕ)) → All IsToken (texts_of ts) → IsToken x.now → All IsToken (texts_of (ts ++ x ∷ []))
tokens_more ts x all one = subst (All IsToken) (sym (texts_push ts x)) (by (texts_of ts) all)
  where
    by : (us : List (List ℕ)) → All IsToken us → All IsToken (us ++ x.now ∷ [])
    by [] h zero d lt = one
    by [] h (suc k) d lt = absurd (omega (arith, lt))
    by (u ∷ us) h zero d lt = h zero d (omega arith)
    by (u ∷ us) h (suc k) d lt = by us (λ j e l. h (suc j) e (omega (arith, l))) k d (omega (arith, lt))

pub spelled_at : (all : List (List ℕ)) (i : ℕ) (t : List ℕ) → list_all is_terminal_text all ≡ true → i < length all → t ≡ get_or all i t
    → is_terminal_text t ≡ true
spelled_at [] i t h lt is = absurd (omega (arith, lt))
spelled_at (x ∷ xs) zero t h lt is = ap is_terminal_text is ∙ and_first (is_terminal_text x) (list_all is_terminal_text xs) h
spelled_at (x ∷ xs) (suc i) t h lt is = spelled_at xs i t (and_second (is_terminal_text x) (list_all is_terminal_text xs) h) (omega (arith, lt)) is

-- candidates, one by one

pub texts_get : (xs : List (Bor (List ℕ))) (k : ℕ) (d : List ℕ) (e : Bor (List ℕ)) → k < length xs → slice_index_or (texts_of xs) k d ≡ (get_or xs k e).now
texts_get [] k d e lt = absurd (omega (arith, lt))
texts_get (x ∷ xs) zero d e lt = refl
texts_get (x ∷ xs) (suc k) d e lt = texts_get xs k d e (omega (arith, lt))

pub texts_length : (xs : List (Bor (List ℕ))) → length (texts_of xs) ≡ length xs
texts_length xs = length-map xs (λ t. t.now)

pub one_tried : (test : Group × List ℕ → Bool) (group : Group) (xs : List (List ℕ)) (i : ℕ) (x : List ℕ) (es : List (Group × List ℕ)) → i < length xs
    → x ≡ get_or xs i x → all_tried test (map (λ t. (group, t)) (drop (i + 1) xs)) (tried test (group, x) es)
    ≡ all_tried test (map (λ t. (group, t)) (drop i xs)) es
one_tried test group xs i x es lt is = sym (ap (λ ys. all_tried test (map (λ t. (group, t)) ys) es) (drop_get_or xs i x lt is))

texts_drop : (n : ℕ) (xs : List (Bor (List ℕ))) → texts_of (drop n xs) ≡ drop n (texts_of xs)
texts_drop zero [] = refl
texts_drop zero (x ∷ xs) = refl
texts_drop (suc n) [] = refl
texts_drop (suc n) (x ∷ xs) = texts_drop n xs

pub one_text_tried : (test : Group × List ℕ → Bool) (xs : List (Bor (List ℕ))) (i : ℕ) (d : Bor (List ℕ)) (es : List (Group × List ℕ)) → i < length xs
    → all_tried test (functions_in (texts_of (drop (i + 1) xs))) (tried test (Function, (get_or xs i d).now) es)
    ≡ all_tried test (functions_in (texts_of (drop i xs))) es
one_text_tried test xs i d es lt =
    let long : length (texts_of xs) ≡ length xs = texts_length xs in
    ap (λ ys. all_tried test (functions_in ys) (tried test (Function, (get_or xs i d).now) es)) (texts_drop (i + 1) xs)
    ∙ one_tried test Function (texts_of xs) i (get_or xs i d).now es (omega (arith, lt, long)) (sym (texts_get xs i (get_or xs i d).now d lt))
    ∙ ap (λ ys. all_tried test (functions_in ys) es) (sym (texts_drop i xs))

pub one_word_tried : (test : Group × List ℕ → Bool) (live : List Word) (i : ℕ) (word : Word) (es : List (Group × List ℕ)) → i < length live
    → slice_get live i ≡ Some word → all_tried test (forms_among (drop (i + 1) live)) (all_tried test (forms_in word) es)
    ≡ all_tried test (forms_among (drop i live)) es
one_word_tried test live i word es lt got =
    sym (all_tried-append test (forms_in word) (forms_among (drop (i + 1) live)) es)
    ∙ ap (λ ws. all_tried test (forms_among ws) es) (sym (drop_more live i word lt ∙ ap (λ y. y ∷ drop (i + 1) live) (got_here live i word got)))
  where
    got_here : (ws : List Word) (i : ℕ) (w : Word) → slice_get ws i ≡ Some w → get_or ws i w ≡ w
    got_here [] i w h = refl
    got_here (x ∷ xs) zero w h = same_Some x w h
    got_here (x ∷ xs) (suc i) w h = got_here xs i w h
