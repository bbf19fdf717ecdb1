-- The categories of a numbered rule write the features that are written, each with its term, in another order.
use Rattle.std.proofs.Common.{◌≡◌, ℕ, ◌+◌, Bool, true, not, ◌&&◌, ltb, List, [], ◌∷◌, ◌++◌, map, refl, sym, ap, ◌∙◌, append-nil, inl, inr}
use Rattle.std.specs.List.{list_all, flat_map}
use Rattle.std.proofs.lemmas.List.{map-append}
use Rattle.std.proofs.lemmas.List.Concat.{flat_map-append}
use Rattle.std.proofs.lemmas.List.Folds.{flat_map-map}
use Rattle.std.proofs.lemmas.Bool.{cases_Bool, and_parts, cond-true, cond-false}
use Rattle.codeco_terms.specs.declared.values.Term.{Term}
use Rattle.codeco_terms.specs.declared.values.Term.TheVariants.{Var}
use Rattle.codeco_terms.specs.declared.categories.Category.{Category}
use Rattle.codeco_text.specs.declared.written.WrittenTerm.{WrittenTerm}
use Rattle.codeco_text.specs.declared.written.WrittenTerm.TheVariants as term
use Rattle.codeco_text.specs.declared.written.WrittenFeat.{WrittenFeat}
use Rattle.codeco_text.specs.declared.written.WrittenCategory.{WrittenCategory}
use Rattle.codeco_text.specs.declared.written.WrittenElement.{WrittenElement}
use Rattle.codeco_text.specs.declared.written.WrittenElement.TheVariants as element
use Rattle.codeco_text.specs.declared.written.WrittenRule.{WrittenRule}
use Rattle.codeco_text.specs.Notation.{is_marked, is_plain, element_fits, kinds}
use Rattle.codeco_checked.specs.Occurrences.{put_feature, with_taken, whole, mentions, rule_mentions}
use Rattle.codeco_numbering.specs.Numbered.{put_in_order, in_order, ordered, Tables, number_of, numbered_term, plain_feats, taken_feats, numbered_category, numbered_pattern, numbered_element, numbered_rule, element_categories}
use Rattle.codeco_early_faults.proofs.Moves.{Same, same_refl, same_trans, same_sym, same_append, same_put, same_from, same_cons, same_map, same_test, all_move}

put_same : (x : ℕ × WrittenTerm) (ys : List (ℕ × WrittenTerm)) → Same (put_in_order x ys) (x ∷ ys)
put_same x [] = same_refl (x ∷ [])
put_same x (y ∷ ys) = elim (cases_Bool (ltb y.0 x.0)) [
  | inl e ↦
      same_trans (same_from (cond-true (ltb y.0 x.0) (y ∷ put_in_order x ys) (x ∷ y ∷ ys) e))
      (same_trans (same_cons y (put_same x ys)) (same_put (y ∷ []) ys x))
  | inr e ↦ same_from (cond-false (ltb y.0 x.0) (y ∷ put_in_order x ys) (x ∷ y ∷ ys) e)
]

-- in order of number
pub order_same : (xs : List (ℕ × WrittenTerm)) → Same (in_order xs) xs
order_same [] = same_refl []
order_same (x ∷ xs) = same_trans (put_same x (in_order xs)) (same_cons x (order_same xs))

put_feature_same : (x : ℕ × Term) (ys : List (ℕ × Term)) → Same (put_feature x ys) (x ∷ ys)
put_feature_same x [] = same_refl (x ∷ [])
put_feature_same x (y ∷ ys) = elim (cases_Bool (ltb x.0 y.0)) [
  | inl e ↦ same_from (cond-true (ltb x.0 y.0) (x ∷ y ∷ ys) (y ∷ put_feature x ys) e)
  | inr e ↦
      same_trans (same_from (cond-false (ltb x.0 y.0) (x ∷ y ∷ ys) (y ∷ put_feature x ys) e))
      (same_trans (same_cons y (put_feature_same x ys)) (same_put (y ∷ []) ys x))
]

abbrev unmarked : ℕ × ℕ → ℕ × Term
unmarked t = (t.0, Var t.1)

taken_same : (feats : List (ℕ × Term)) (ts : List (ℕ × ℕ)) → Same (with_taken feats ts) (feats ++ map unmarked ts)
taken_same feats [] = same_from (sym (append-nil feats))
taken_same feats (t ∷ ts) =
    same_trans (taken_same (put_feature (unmarked t) feats) ts)
    (same_trans (same_append (put_feature_same (unmarked t) feats) (same_refl (map unmarked ts)))
    (same_sym (same_put feats (map unmarked ts) (unmarked t))))

-- features with numbers for their terms, marked ones as others
abbrev pub with_terms : Tables → List (ℕ × WrittenTerm) → List (ℕ × Term)
with_terms t fs = map (λ f. (f.0, numbered_term t f.1)) fs

plain_taken : (t : Tables) (fs : List (ℕ × WrittenTerm)) → Same (plain_feats t fs ++ map unmarked (taken_feats t fs)) (with_terms t fs)
plain_taken t [] = same_refl []
plain_taken t ((n, term.Atom w) ∷ fs) = same_cons (n, numbered_term t (term.Atom w)) (plain_taken t fs)
plain_taken t ((n, term.Variable w) ∷ fs) = same_cons (n, numbered_term t (term.Variable w)) (plain_taken t fs)
plain_taken t ((n, term.Taken w) ∷ fs) =
    same_trans (same_put (plain_feats t fs) (map unmarked (taken_feats t fs)) (n, numbered_term t (term.Taken w)))
    (same_cons (n, numbered_term t (term.Taken w)) (plain_taken t fs))

abbrev is_unmarked : ℕ × WrittenTerm → Bool
is_unmarked f = not (is_marked f.1)

plain_all : (t : Tables) (fs : List (ℕ × WrittenTerm)) → list_all is_unmarked fs ≡ true → plain_feats t fs ≡ with_terms t fs
plain_all t [] h = refl
plain_all t ((n, term.Atom w) ∷ fs) h = ap (λ (l : List (ℕ × Term)). (n, numbered_term t (term.Atom w)) ∷ l) (plain_all t fs h)
plain_all t ((n, term.Variable w) ∷ fs) h = ap (λ (l : List (ℕ × Term)). (n, numbered_term t (term.Variable w)) ∷ l) (plain_all t fs h)
plain_all t ((n, term.Taken w) ∷ fs) h = absurd cc

-- a feature as it is written, with its number
abbrev pub numbered_feat : List (List ℕ) → WrittenFeat → ℕ × WrittenTerm
numbered_feat features f = (number_of features f.name, f.term)

-- the features of a category as they are written, with numbers for names and terms
abbrev pub written_feats : Tables → WrittenCategory → List (ℕ × Term)
written_feats t c = with_terms t (map (numbered_feat t.features) c.feats)

unmarked_feats : (features : List (List ℕ)) (fs : List WrittenFeat)
    → list_all is_unmarked (map (numbered_feat features) fs) ≡ list_all (λ f. not (is_marked f.term)) fs
unmarked_feats features [] = refl
unmarked_feats features (f ∷ fs) = ap (λ b. not (is_marked f.term) && b) (unmarked_feats features fs)

terms_same : (t : Tables) (c : WrittenCategory) → Same (with_terms t (ordered t.features c)) (written_feats t c)
terms_same t c = same_map (λ f. (f.0, numbered_term t f.1)) (order_same (map (numbered_feat t.features) c.feats))

pub category_feats : (t : Tables) (c : WrittenCategory) → is_plain c ≡ true → Same (numbered_category t c).feats (written_feats t c)
category_feats t c h =
    let moved : list_all is_unmarked (ordered t.features c) ≡ true =
    same_test (order_same (map (numbered_feat t.features) c.feats)) (list_all is_unmarked) (all_move is_unmarked) ∙ unmarked_feats t.features c.feats ∙ h in
    same_trans (same_from (plain_all t (ordered t.features c) moved)) (terms_same t c)

pub pattern_feats : (t : Tables) (c : WrittenCategory) → Same (whole (numbered_pattern t c)).feats (written_feats t c)
pattern_feats t c =
    let fs = ordered t.features c in
    same_trans (taken_same (plain_feats t fs) (taken_feats t fs)) (same_trans (plain_taken t fs) (terms_same t c))

-- the categories that an element writes, each with its number
abbrev pub numbered_plain : Tables → WrittenCategory → ℕ × WrittenCategory
numbered_plain t c = (5 + number_of t.categories c.name, c)

abbrev pub numbered_mentions : Tables → WrittenElement → List (ℕ × WrittenCategory)
numbered_mentions t (element.Preterminal c) = (number_of kinds c.name, c) ∷ []
numbered_mentions t (element.Sub c) = numbered_plain t c ∷ []
numbered_mentions t (element.Forward c) = numbered_plain t c ∷ []
numbered_mentions t (element.Strong c) = numbered_plain t c ∷ []
numbered_mentions t (element.Back ps ns) = map (numbered_plain t) (ps ++ ns)
numbered_mentions t (element.NoBack ps) = map (numbered_plain t) ps
numbered_mentions _ _ = []

-- without the numbers
pub mentioned : {Y : Type 0} (h : WrittenCategory → List Y) (t : Tables) (e : WrittenElement)
    → flat_map (λ m. h m.1) (numbered_mentions t e) ≡ flat_map h (element_categories e)
mentioned h t (element.Back ps ns) = flat_map-map (λ m. h m.1) (numbered_plain t) (ps ++ ns)
mentioned h t (element.NoBack ps) = flat_map-map (λ m. h m.1) (numbered_plain t) ps
mentioned h t e = refl

-- what a rule's categories give, each by its number and its features, where the order of the features doesn't count
module _ {Y : Type 0} (g : ℕ → List (ℕ × Term) → List Y) (kept : (n : ℕ) (xs ys : List (ℕ × Term)) → Same xs ys → Same (g n xs) (g n ys)) (t : Tables) where
  abbrev pub given : Category → List Y
  given c = g c.name c.feats

  abbrev pub written : ℕ × WrittenCategory → List Y
  written m = g m.0 (written_feats t m.1)

  plain_given : (c : WrittenCategory) → is_plain c ≡ true → Same (flat_map given (numbered_category t c ∷ [])) (flat_map written (numbered_plain t c ∷ []))
  plain_given c h = same_append (kept (5 + number_of t.categories c.name) _ _ (category_feats t c h)) (same_refl [])

  patterns_given : (cs : List WrittenCategory) → Same (flat_map given (map whole (map (numbered_pattern t) cs))) (flat_map written (map (numbered_plain t) cs))
  patterns_given [] = same_refl []
  patterns_given (c ∷ cs) = same_append (kept (5 + number_of t.categories c.name) _ _ (pattern_feats t c)) (patterns_given cs)

  pub element_given : (e : WrittenElement) → element_fits e ≡ true
      → Same (flat_map given (mentions (numbered_element t e))) (flat_map written (numbered_mentions t e))
  element_given (element.Terminal w) h = same_refl []
  element_given (element.Preterminal c) h = same_append (kept (number_of kinds c.name) _ _ (category_feats t c h)) (same_refl [])
  element_given (element.Sub c) h = plain_given c h
  element_given (element.Position w) h = same_refl []
  element_given element.Opener h = same_refl []
  element_given (element.Forward c) h = plain_given c h
  element_given (element.Strong c) h = plain_given c h
  element_given (element.Back ps ns) h =
      same_trans (same_from (flat_map-append given (map whole (map (numbered_pattern t) ps)) (map whole (map (numbered_pattern t) ns))))
      (same_trans (same_append (patterns_given ps) (patterns_given ns))
      (same_trans (same_from (sym (flat_map-append written (map (numbered_plain t) ps) (map (numbered_plain t) ns))))
      (same_from (ap (flat_map written) (sym (map-append (numbered_plain t) ps ns))))))
  element_given (element.NoBack ps) h = patterns_given ps

  body_given : (es : List WrittenElement) → list_all element_fits es ≡ true
      → Same (flat_map given (flat_map mentions (map (numbered_element t) es))) (flat_map written (flat_map (numbered_mentions t) es))
  body_given [] h = same_refl []
  body_given (e ∷ es) h =
      let parts = and_parts (element_fits e) (list_all element_fits es) h in
      same_trans (same_from (flat_map-append given (mentions (numbered_element t e)) (flat_map mentions (map (numbered_element t) es))))
      (same_trans (same_append (element_given e parts.0) (body_given es parts.1))
      (same_from (sym (flat_map-append written (numbered_mentions t e) (flat_map (numbered_mentions t) es)))))

  pub rule_given : (r : WrittenRule) → (is_plain r.head && list_all element_fits r.body) ≡ true
      → Same (flat_map given (rule_mentions (numbered_rule t r))) (flat_map written (numbered_plain t r.head ∷ flat_map (numbered_mentions t) r.body))
  rule_given r h =
      let parts = and_parts (is_plain r.head) (list_all element_fits r.body) h in
      same_append (kept (5 + number_of t.categories r.head.name) _ _ (category_feats t r.head parts.0)) (body_given r.body parts.1)
