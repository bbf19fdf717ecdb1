-- A rule fits a row exactly where its head, its children and what its body has do.
use Rattle.std.proofs.Common.{◌≡◌, ℕ, Bool, true, false, eqb, ltb, not, ◌&&◌, ◌||◌, cond, List, [], ◌∷◌, map, refl, sym, ap, ◌∙◌}
use Rattle.std.specs.Prelude.{filter, count_by}
use Rattle.std.specs.List.{list_all}
use Rattle.std.specs.Option.{option_map_or}
use Rattle.std.proofs.lemmas.Bool.{and_parts, and_from}
use Rattle.std.proofs.Math.Bool.{and-true, and-false}
use Rattle.codeco_terms.specs.declared.elements.Element.{Element}
use Rattle.codeco_terms.specs.declared.rules.Rule.{Rule}
use Rattle.codeco_text.specs.Names.{same_bytes}
use Rattle.codeco_checked.specs.declared.labels.Kind.{Kind}
use Rattle.codeco_checked.specs.declared.labels.Children.{Children}
use Rattle.codeco_checked.specs.declared.labels.Children.TheVariants as child
use Rattle.codeco_checked.specs.declared.labels.Words.{Words}
use Rattle.codeco_checked.specs.declared.labels.Words.TheVariants as word
use Rattle.codeco_checked.specs.declared.labels.LabelRow.{LabelRow}
use Rattle.codeco_checked.specs.Labels.{is_mark, same_kind, same_kinds, subs, child_kinds, word_names, behind_word, is_introduction, is_reference, introduces_behind_tokens, one_if, head_fits, children_fit, words_fit, fits_row}
use Rattle.codeco_labels.specs.declared.found.Found.TheVariants.{No, More}
use Rattle.codeco_labels.specs.Shapes.{is_no, one_of, two_of, is_one, are_two, is_times, empty_shape, shape_of, has_words, children_have, row_holds, element_below, found_below}
use Rattle.codeco_labels.specs.Misfits.{FitMarks}
use Rattle.codeco_labels.proofs.ShapeLemmas.{has_meaning, meant, and_all, some, words_run, children_run, behind_run, introduced_is, referred_is, late_is, meant_below}

all_more : (xs : List ℕ) → and_all More xs ≡ More
all_more [] = refl
all_more (x ∷ xs) = all_more xs

-- Words

no_words : (ws : List ℕ) → same_bytes ws [] ≡ is_no (and_all No ws)
no_words [] = refl
no_words (x ∷ []) = refl
no_words (x ∷ y ∷ []) = refl
no_words (x ∷ y ∷ z ∷ zs) = sym (ap is_no (all_more zs))

one_word : (ws : List ℕ) (k : ℕ) → same_bytes ws (k ∷ []) ≡ is_one (and_all No ws) k
one_word [] k = refl
one_word (x ∷ []) k = and-true (eqb x k)
one_word (x ∷ y ∷ []) k = and-false (eqb x k)
one_word (x ∷ y ∷ z ∷ zs) k = and-false (eqb x k) ∙ sym (ap (λ f. is_one f k) (all_more zs))

two_words : (ws : List ℕ) (k l : ℕ) → same_bytes ws (k ∷ l ∷ []) ≡ are_two (and_all No ws) k l
two_words [] k l = refl
two_words (x ∷ []) k l = and-false (eqb x k)
two_words (x ∷ y ∷ []) k l = ap (λ b. eqb x k && b) (and-true (eqb y l))
two_words (x ∷ y ∷ z ∷ zs) k l = ap (λ b. eqb x k && b) (and-false (eqb y l)) ∙ and-false (eqb x k) ∙ sym (ap (λ f. are_two f k l) (all_more zs))

-- Children

no_kinds : (kinds : ℕ → Kind) (xs : List ℕ) → same_kinds (map kinds xs) [] ≡ is_no (and_all No xs)
no_kinds kinds [] = refl
no_kinds kinds (x ∷ []) = refl
no_kinds kinds (x ∷ y ∷ []) = refl
no_kinds kinds (x ∷ y ∷ z ∷ zs) = sym (ap is_no (all_more zs))

one_kind : (kinds : ℕ → Kind) (xs : List ℕ) (k : Kind)
    → same_kinds (map kinds xs) (k ∷ []) ≡ option_map_or (λ c. same_kind (kinds c) k) (one_of (and_all No xs)) false
one_kind kinds [] k = refl
one_kind kinds (x ∷ []) k = and-true (same_kind (kinds x) k)
one_kind kinds (x ∷ y ∷ []) k = and-false (same_kind (kinds x) k)
one_kind kinds (x ∷ y ∷ z ∷ zs) k = and-false (same_kind (kinds x) k)
    ∙ sym (ap (λ f. option_map_or (λ c. same_kind (kinds c) k) (one_of f) false) (all_more zs))

two_kinds : (kinds : ℕ → Kind) (xs : List ℕ) (k l : Kind)
    → same_kinds (map kinds xs) (k ∷ l ∷ []) ≡ option_map_or (λ p. same_kind (kinds p.0) k && same_kind (kinds p.1) l) (two_of (and_all No xs)) false
two_kinds kinds [] k l = refl
two_kinds kinds (x ∷ []) k l = and-false (same_kind (kinds x) k)
two_kinds kinds (x ∷ y ∷ []) k l = ap (λ b. same_kind (kinds x) k && b) (and-true (same_kind (kinds y) l))
two_kinds kinds (x ∷ y ∷ z ∷ zs) k l = ap (λ b. same_kind (kinds x) k && b) (and-false (same_kind (kinds y) l)) ∙ and-false (same_kind (kinds x) k)
    ∙ sym (ap (λ f. option_map_or (λ p. same_kind (kinds p.0) k && same_kind (kinds p.1) l) (two_of f) false) (all_more zs))

children_same : (children : Children) (head : ℕ) (kinds : ℕ → Kind) (xs : List ℕ)
    → children_fit children (kinds head) (map kinds xs) ≡ children_have children head kinds (and_all No xs)
children_same child.No head kinds xs = no_kinds kinds xs
children_same (child.One k) head kinds xs = one_kind kinds xs k
children_same (child.Maybe k) head kinds xs =
    ap (λ b. b || same_kinds (map kinds xs) (k ∷ [])) (no_kinds kinds xs) ∙ ap (λ b. is_no (and_all No xs) || b) (one_kind kinds xs k)
children_same (child.Two k l) head kinds xs = two_kinds kinds xs k l
children_same child.Alike head kinds xs = one_kind kinds xs (kinds head)
children_same child.TwoAlike head kinds xs = two_kinds kinds xs (kinds head) (kinds head)

meant_kinds : (marks : List Bool) (kinds : ℕ → Kind) → FitMarks marks kinds → (xs : List ℕ)
    → filter (λ k. not (is_mark k)) (map kinds xs) ≡ map kinds (filter (has_meaning marks) xs)
meant_kinds marks kinds fit [] = refl
meant_kinds marks kinds fit (x ∷ xs) =
    ap (λ b. cond (not b) (kinds x ∷ filter (λ k. not (is_mark k)) (map kinds xs)) (filter (λ k. not (is_mark k)) (map kinds xs))) (fit x)
    ∙ ap (λ ys. cond (has_meaning marks x) (kinds x ∷ ys) ys) (meant_kinds marks kinds fit xs) ∙ out (has_meaning marks x)
  where
    out : (b : Bool) → cond b (kinds x ∷ map kinds (filter (has_meaning marks) xs)) (map kinds (filter (has_meaning marks) xs))
        ≡ map kinds (cond b (x ∷ filter (has_meaning marks) xs) (filter (has_meaning marks) xs))
    out true = refl
    out false = refl

child_kinds_are : (marks : List Bool) (kinds : ℕ → Kind) → FitMarks marks kinds → (body : List Element) → child_kinds kinds body ≡ map kinds (meant marks body)
child_kinds_are marks kinds fit body = meant_kinds marks kinds fit (subs body)

none_some : (kinds : ℕ → Kind) (xs : List ℕ) → same_kinds (map kinds xs) [] ≡ not (some xs)
none_some kinds [] = refl
none_some kinds (x ∷ xs) = refl

words_same : (words : Words) (marks : List Bool) (kinds : ℕ → Kind) → FitMarks marks kinds → (body : List Element)
    → words_fit words kinds body ≡ has_words words (shape_of marks body)
words_same words marks kinds fit body = by words
  where
    found : and_all No (word_names body) ≡ (shape_of marks body).words
    found = sym (words_run marks empty_shape body)

    no : same_bytes (word_names body) [] ≡ is_no (shape_of marks body).words
    no = no_words (word_names body) ∙ ap is_no found

    one : (k : ℕ) → same_bytes (word_names body) (k ∷ []) ≡ is_one (shape_of marks body).words k
    one k = one_word (word_names body) k ∙ ap (λ f. is_one f k) found

    late : same_kinds (child_kinds kinds (behind_word body)) [] ≡ not (shape_of marks body).child_behind_word
    late = ap (λ ks. same_kinds ks []) (child_kinds_are marks kinds fit (behind_word body)) ∙ none_some kinds (meant marks (behind_word body))
        ∙ ap not (sym (late_is marks empty_shape body refl refl))

    by : (words : Words) → words_fit words kinds body ≡ has_words words (shape_of marks body)
    by word.No = no
    by word.Name = one 0
    by word.Noun = one 1
    by word.Of = one 2
    by word.Verb = one 3
    by word.Relation = ap (λ b. (b || same_bytes (word_names body) (4 ∷ [])) || same_bytes (word_names body) (2 ∷ [])) (one 3)
        ∙ ap (λ b. (is_one (shape_of marks body).words 3 || b) || same_bytes (word_names body) (2 ∷ [])) (one 4)
        ∙ ap (λ b. (is_one (shape_of marks body).words 3 || is_one (shape_of marks body).words 4) || b) (one 2)
    by word.VerbThenNoun = two_words (word_names body) 3 1 ∙ ap (λ f. are_two f 3 1) found
    by word.VerbBehind = ap (λ b. b && same_kinds (child_kinds kinds (behind_word body)) []) (one 3) ∙ ap (λ b. is_one (shape_of marks body).words 3 && b) late
    by word.Any = refl

turned : (h c w i r b : Bool) → (((((h && c) && w) && i) && r) && b) ≡ ((((w && i) && r) && b) && (h && c))
turned h c w i r b = at (h && c)
  where
    at : (x : Bool) → ((((x && w) && i) && r) && b) ≡ ((((w && i) && r) && b) && x)
    at true = sym (and-true (((w && i) && r) && b))
    at false = sym (and-false (((w && i) && r) && b))

pub row_same : (marks : List Bool) (kinds : ℕ → Kind) → FitMarks marks kinds → (row : LabelRow) (r : Rule)
    → fits_row kinds row r ≡ row_holds row r.head.name (shape_of marks r.body) kinds
row_same marks kinds fit row r =
    let children : children_fit row.children (kinds r.head.name) (child_kinds kinds r.body)
    ≡ children_have row.children r.head.name kinds (shape_of marks r.body).children =
    ap (children_fit row.children (kinds r.head.name)) (child_kinds_are marks kinds fit r.body)
    ∙ children_same row.children r.head.name kinds (meant marks r.body)
    ∙ ap (children_have row.children r.head.name kinds) (sym (children_run marks empty_shape r.body)) in
    let words = words_same row.words marks kinds fit r.body in
    let introduced : eqb (count_by is_introduction r.body) (one_if row.introduces) ≡ is_times row.introduces (shape_of marks r.body).introduced =
    sym (introduced_is marks empty_shape r.body row.introduces refl) in
    let referred : eqb (count_by is_reference r.body) (one_if row.refers) ≡ is_times row.refers (shape_of marks r.body).referred =
    sym (referred_is marks empty_shape r.body row.refers refl) in
    let behind : introduces_behind_tokens false r.body ≡ (shape_of marks r.body).behind_tokens = sym (behind_run marks empty_shape r.body) in
    turned (head_fits row.heads (kinds r.head.name)) (children_fit row.children (kinds r.head.name) (child_kinds kinds r.body))
    (words_fit row.words kinds r.body) (eqb (count_by is_introduction r.body) (one_if row.introduces))
    (eqb (count_by is_reference r.body) (one_if row.refers)) (introduces_behind_tokens false r.body) ∙ cc

-- Names below a number

below_found : (n : ℕ) (xs : List ℕ) → list_all (λ c. ltb c n) xs ≡ true → found_below n (and_all No xs) ≡ true
below_found n [] h = refl
below_found n (x ∷ []) h = (and_parts (ltb x n) true h).0
below_found n (x ∷ y ∷ []) h =
    let parts = and_parts (ltb x n) (ltb y n && true) h in
    and_from (ltb x n) (ltb y n) parts.0 (and_parts (ltb y n) true parts.1).0
below_found n (x ∷ y ∷ z ∷ zs) h = ap (found_below n) (all_more zs)

pub children_below : (marks : List Bool) (n : ℕ) (body : List Element) → list_all (element_below n) body ≡ true
    → found_below n (shape_of marks body).children ≡ true
children_below marks n body h = ap (found_below n) (children_run marks empty_shape body) ∙ below_found n (meant marks body) (meant_below marks n body h)
