-- What holds of the numbers of a rule's features holds of the features that it writes.
use Rattle.std.proofs.Common.{◌≡◌, ℕ, Bool, true, ltb, List, [], ◌∷◌, map, refl, sym, ap, ◌∙◌, inl, inr}
use Rattle.std.specs.List.{list_all, flat_map}
use Rattle.std.proofs.lemmas.Bool.{and_parts, and_from, cases_Bool, cond-true, cond-false}
use Rattle.std.proofs.lemmas.List.Folds.{list_all-map as all-map}
use Rattle.codeco_terms.specs.declared.values.Term.{Term}
use Rattle.codeco_terms.specs.declared.values.Term.TheVariants.{Var}
use Rattle.codeco_terms.specs.declared.categories.Category.{Category}
use Rattle.codeco_text.specs.declared.written.WrittenTerm.{WrittenTerm}
use Rattle.codeco_text.specs.declared.written.WrittenTerm.TheVariants as term
use Rattle.codeco_text.specs.declared.written.WrittenCategory.{WrittenCategory}
use Rattle.codeco_text.specs.declared.written.WrittenElement.{WrittenElement}
use Rattle.codeco_text.specs.declared.written.WrittenElement.TheVariants as element
use Rattle.codeco_text.specs.declared.written.WrittenRule.{WrittenRule}
use Rattle.codeco_text.specs.declared.written.WrittenItem.TheVariants as item
use Rattle.codeco_text.specs.Notation.{is_plain, element_fits, item_fits}
use Rattle.codeco_checked.specs.Occurrences.{put_feature, with_taken, whole, mentions, rule_mentions, rule_features}
use Rattle.codeco_numbering.specs.Numbered.{number_of, put_in_order, in_order, ordered, Tables, numbered_term, plain_feats, taken_feats, numbered_category, numbered_pattern, numbered_element, numbered_rule, element_categories, category_features, written_features}
use Rattle.wiki_base.proofs.ListLaws.{all_append, all_split, all_flat, flat_all}
use Rattle.codeco_numbering.proofs.Sound.Order.{ordered_plain, plain_every}

-- Marked features among the others

put_all : (p : ℕ × Term → Bool) (x : ℕ × Term) (ys : List (ℕ × Term)) → list_all p (put_feature x ys) ≡ true → (p x ≡ true) × (list_all p ys ≡ true)
put_all p x [] h = ((and_parts (p x) true h).0, refl)
put_all p x (y ∷ ys) h =
    elim (cases_Bool (ltb x.0 y.0)) [
      | inl low ↦ and_parts (p x) (list_all p (y ∷ ys)) (ap (list_all p) (sym (cond-true (ltb x.0 y.0) (x ∷ y ∷ ys) (y ∷ put_feature x ys) low)) ∙ h)
      | inr high ↦
          let parts = and_parts (p y) (list_all p (put_feature x ys))
          (ap (list_all p) (sym (cond-false (ltb x.0 y.0) (x ∷ y ∷ ys) (y ∷ put_feature x ys) high)) ∙ h) in
          let rest = put_all p x ys parts.1 in
          (rest.0, and_from (p y) (list_all p ys) parts.0 rest.1)
    ]

pub with_taken_all : (p : ℕ × Term → Bool) (feats : List (ℕ × Term)) (ts : List (ℕ × ℕ)) → list_all p (with_taken feats ts) ≡ true
    → (list_all p feats ≡ true) × (list_all (λ t. p (t.0, Var t.1)) ts ≡ true)
with_taken_all p feats [] h = (h, refl)
with_taken_all p feats (t ∷ ts) h =
    let rest = with_taken_all p (put_feature (t.0, Var t.1) feats) ts h in
    let here = put_all p (t.0, Var t.1) feats rest.0 in
    (here.1, and_from (p (t.0, Var t.1)) (list_all (λ u. p (u.0, Var u.1)) ts) here.0 rest.1)

-- Features in order

put_gives : (p : ℕ × WrittenTerm → Bool) (x : ℕ × WrittenTerm) (ys : List (ℕ × WrittenTerm)) → list_all p (put_in_order x ys) ≡ true
    → (p x ≡ true) × (list_all p ys ≡ true)
put_gives p x [] h = ((and_parts (p x) true h).0, refl)
put_gives p x (y ∷ ys) h =
    elim (cases_Bool (ltb y.0 x.0)) [
      | inl low ↦
          let parts = and_parts (p y) (list_all p (put_in_order x ys))
          (ap (list_all p) (sym (cond-true (ltb y.0 x.0) (y ∷ put_in_order x ys) (x ∷ y ∷ ys) low)) ∙ h) in
          let rest = put_gives p x ys parts.1 in
          (rest.0, and_from (p y) (list_all p ys) parts.0 rest.1)
      | inr high ↦ and_parts (p x) (list_all p (y ∷ ys)) (ap (list_all p) (sym (cond-false (ltb y.0 x.0) (y ∷ put_in_order x ys) (x ∷ y ∷ ys) high)) ∙ h)
    ]

order_gives : (p : ℕ × WrittenTerm → Bool) (xs : List (ℕ × WrittenTerm)) → list_all p (in_order xs) ≡ true → list_all p xs ≡ true
order_gives p [] h = refl
order_gives p (x ∷ xs) h =
    let parts = put_gives p x (in_order xs) h in
    and_from (p x) (list_all p xs) parts.0 (order_gives p xs parts.1)

-- the marked and the other features are all
parts_all : (q : ℕ → Bool) (t : Tables) (fs : List (ℕ × WrittenTerm)) → list_all (λ f. q f.0) (plain_feats t fs) ≡ true
    → list_all (λ u. q u.0) (taken_feats t fs) ≡ true → list_all (λ f. q f.0) fs ≡ true
parts_all q t [] h k = refl
parts_all q t ((n, term.Atom w) ∷ fs) h k =
    let parts = and_parts (q n) (list_all (λ f. q f.0) (plain_feats t fs)) h in
    and_from (q n) (list_all (λ f. q f.0) fs) parts.0 (parts_all q t fs parts.1 k)
parts_all q t ((n, term.Variable w) ∷ fs) h k =
    let parts = and_parts (q n) (list_all (λ f. q f.0) (plain_feats t fs)) h in
    and_from (q n) (list_all (λ f. q f.0) fs) parts.0 (parts_all q t fs parts.1 k)
parts_all q t ((n, term.Taken w) ∷ fs) h k =
    let parts = and_parts (q n) (list_all (λ u. q u.0) (taken_feats t fs)) k in
    and_from (q n) (list_all (λ f. q f.0) fs) parts.0 (parts_all q t fs h parts.1)

-- Rules

-- the test of the numbers of a category's features, and of the features that one writes
abbrev numbers_pass : (ℕ → Bool) → Category → Bool
numbers_pass q c = list_all (λ f. q f.0) c.feats

abbrev writes_pass : (ℕ → Bool) → Tables → WrittenCategory → Bool
writes_pass q t c = list_all (λ w. q (number_of t.features w)) (category_features c)

ordered_pass : (q : ℕ → Bool) (t : Tables) (c : WrittenCategory) → list_all (λ f. q f.0) (ordered t.features c) ≡ true → writes_pass q t c ≡ true
ordered_pass q t c h =
    let numbered = order_gives (λ f. q f.0) (map (λ f. (number_of t.features f.name, f.term)) c.feats) h in
    all-map (λ w. q (number_of t.features w)) (λ f. f.name) c.feats ∙ sym (all-map (λ f. q f.0) (λ f. (number_of t.features f.name, f.term)) c.feats) ∙ numbered

category_passes : (q : ℕ → Bool) (t : Tables) (c : WrittenCategory) → is_plain c ≡ true → list_all (λ f. q f.0) (plain_feats t (ordered t.features c)) ≡ true
    → writes_pass q t c ≡ true
category_passes q t c p h =
    let fs = ordered t.features c in
    let every = ap (list_all (λ f. q f.0)) (sym (plain_every t fs (ordered_plain t.features c p))) ∙ h in
    ordered_pass q t c (sym (all-map (λ f. q f.0) (λ (f : ℕ × WrittenTerm). (f.0, numbered_term t f.1)) fs) ∙ every)

pattern_passes : (q : ℕ → Bool) (t : Tables) (c : WrittenCategory) → numbers_pass q (whole (numbered_pattern t c)) ≡ true → writes_pass q t c ≡ true
pattern_passes q t c h =
    let fs = ordered t.features c in
    let parts = with_taken_all (λ f. q f.0) (plain_feats t fs) (taken_feats t fs) h in
    ordered_pass q t c (parts_all q t fs parts.0 parts.1)

patterns_pass : (q : ℕ → Bool) (t : Tables) (cs : List WrittenCategory) → list_all (numbers_pass q) (map whole (map (numbered_pattern t) cs)) ≡ true
    → list_all (writes_pass q t) cs ≡ true
patterns_pass q t [] h = refl
patterns_pass q t (c ∷ cs) h =
    let parts = and_parts (numbers_pass q (whole (numbered_pattern t c))) (list_all (numbers_pass q) (map whole (map (numbered_pattern t) cs))) h in
    and_from (writes_pass q t c) (list_all (writes_pass q t) cs) (pattern_passes q t c parts.0) (patterns_pass q t cs parts.1)

one_passes : (q : ℕ → Bool) (t : Tables) (c : WrittenCategory) → is_plain c ≡ true → list_all (numbers_pass q) (numbered_category t c ∷ []) ≡ true
    → list_all (writes_pass q t) (c ∷ []) ≡ true
one_passes q t c p h = and_from (writes_pass q t c) true (category_passes q t c p (and_parts (numbers_pass q (numbered_category t c)) true h).0) refl

element_passes : (q : ℕ → Bool) (t : Tables) (e : WrittenElement) → element_fits e ≡ true → list_all (numbers_pass q) (mentions (numbered_element t e)) ≡ true
    → list_all (writes_pass q t) (element_categories e) ≡ true
element_passes q t (element.Terminal w) p h = refl
element_passes q t (element.Preterminal c) p h = one_passes q t c p h
element_passes q t (element.Sub c) p h = one_passes q t c p h
element_passes q t (element.Position w) p h = refl
element_passes q t element.Opener p h = refl
element_passes q t (element.Forward c) p h = one_passes q t c p h
element_passes q t (element.Strong c) p h = one_passes q t c p h
element_passes q t (element.Back ps ns) p h =
    let parts = all_split (numbers_pass q) (map whole (map (numbered_pattern t) ps)) (map whole (map (numbered_pattern t) ns)) h in
    all_append (writes_pass q t) ps ns (patterns_pass q t ps parts.0) (patterns_pass q t ns parts.1)
element_passes q t (element.NoBack ps) p h = patterns_pass q t ps h

body_passes : (q : ℕ → Bool) (t : Tables) (es : List WrittenElement) → list_all element_fits es ≡ true
    → list_all (numbers_pass q) (flat_map mentions (map (numbered_element t) es)) ≡ true → list_all (writes_pass q t) (flat_map element_categories es) ≡ true
body_passes q t [] p h = refl
body_passes q t (e ∷ es) p h =
    let fits = and_parts (element_fits e) (list_all element_fits es) p in
    let parts = all_split (numbers_pass q) (mentions (numbered_element t e)) (flat_map mentions (map (numbered_element t) es)) h in
    all_append (writes_pass q t) (element_categories e) (flat_map element_categories es) (element_passes q t e fits.0 parts.0)
    (body_passes q t es fits.1 parts.1)

-- a test of numbers that the features of a rule pass is passed by the numbers of those that it writes
pub rule_passes : (q : ℕ → Bool) (t : Tables) (r : WrittenRule) → item_fits (item.Rule r) ≡ true
    → list_all (λ f. q f.0) (rule_features (numbered_rule t r)) ≡ true → list_all (λ w. q (number_of t.features w)) (written_features r) ≡ true
rule_passes q t r p h =
    let fits = and_parts (is_plain r.head) (list_all element_fits r.body) p in
    let each = all_flat (λ f. q f.0) (λ c. c.feats) (rule_mentions (numbered_rule t r)) h in
    let parts = and_parts (numbers_pass q (numbered_category t r.head)) (list_all (numbers_pass q) (flat_map mentions (map (numbered_element t) r.body)))
    each in
    flat_all (λ w. q (number_of t.features w)) category_features (r.head ∷ flat_map element_categories r.body)
    (and_from (writes_pass q t r.head) (list_all (writes_pass q t) (flat_map element_categories r.body)) (category_passes q t r.head fits.0 parts.0)
    (body_passes q t r.body fits.1 parts.1))
