-- A category's name, or a preterminal's, has too many features as numbered where it has them as written.
use Rattle.std.proofs.Common.{◌≡◌, ℕ, ◌+◌, ◌<◌, Bool, true, false, cond, eqb, List, [], ◌∷◌, ◌++◌, map, codes, refl, sym, ap, subst, ◌∙◌, append-nil, arith, inl, inr}
use Rattle.std.specs.List.{list_all, flat_map}
use Rattle.std.proofs.lemmas.List.{map-append}
use Rattle.std.proofs.lemmas.List.Concat.{flat_map-append}
use Rattle.std.proofs.lemmas.Bool.{cases_Bool, both_ways, and_parts, eqb-true, eq-eqb, ne_eqb}
use Rattle.codeco_terms.specs.declared.values.Term.{Term}
use Rattle.codeco_text.specs.declared.written.WrittenFeat.{WrittenFeat}
use Rattle.codeco_text.specs.declared.written.WrittenCategory.{WrittenCategory}
use Rattle.codeco_text.specs.declared.written.WrittenElement.{WrittenElement}
use Rattle.codeco_text.specs.declared.written.WrittenElement.TheVariants as element
use Rattle.codeco_text.specs.declared.written.WrittenRule.{WrittenRule}
use Rattle.codeco_text.specs.Names.{same_bytes, is_among}
use Rattle.codeco_text.proofs.Growth.{same_is, same_bytes_refl}
use Rattle.codeco_text.specs.Notation.{kinds}
use Rattle.codeco_numbering.specs.Numbered.{Tables, number_of, plain_categories}
use Rattle.codeco_numbering.proofs.Sound.Tables.{number_below, number_past}
use Rattle.wiki_base.proofs.ListLaws.{all_split}
use Rattle.codeco_early_faults.specs.Pairs.{names_with}
use Rattle.codeco_early_faults.specs.Early.{named_pairs, category_pairs, plain_pairs, kind_pairs, rule_plain_pairs, rule_kind_pairs}
use Rattle.codeco_early_faults.proofs.Moves.{Same, same_refl, same_map}
use Rattle.codeco_early_faults.proofs.Counting.{texts_decide, differs_comm}
use Rattle.codeco_early_faults.proofs.Numbers.{same_numbers}
use Rattle.codeco_early_faults.proofs.Mentions.{with_terms, numbered_feat, written_feats, numbered_plain, numbered_mentions}
use Rattle.codeco_early_faults.proofs.Wide.{names_with-append}

-- the features that a category gives to the name of number n
abbrev pub given_at : ℕ → ℕ → List (ℕ × Term) → List ℕ
given_at n m feats = cond (eqb m n) (map (λ f. f.0) feats) []

pub given_kept : (n m : ℕ) (xs ys : List (ℕ × Term)) → Same xs ys → Same (given_at n m xs) (given_at n m ys)
given_kept n m xs ys s = by (eqb m n)
  where
    by : (b : Bool) → Same (cond b (map (λ f. f.0) xs) []) (cond b (map (λ f. f.0) ys) [])
    by true = same_map (λ f. f.0) s
    by false = same_refl []

feat_numbers : (t : Tables) (fs : List WrittenFeat)
    → map (λ f. f.0) (with_terms t (map (numbered_feat t.features) fs)) ≡ map (number_of t.features) (map (λ f. f.name) fs)
feat_numbers t [] = refl
feat_numbers t (f ∷ fs) = ap (λ (l : List ℕ). number_of t.features f.name ∷ l) (feat_numbers t fs)

none : (b : Bool) → let empty : List (List ℕ) = [] in empty ≡ cond b empty empty
none true = refl
none false = refl

with_name : (w name : List ℕ) (fs : List WrittenFeat) → names_with w (map (λ f. (name, f.name)) fs) ≡ cond (same_bytes w name) (map (λ f. f.name) fs) []
with_name w name [] = none (same_bytes w name)
with_name w name (f ∷ fs) = by (same_bytes w name) (with_name w name fs)
  where
    by : (b : Bool) → names_with w (map (λ x. (name, x.name)) fs) ≡ cond b (map (λ x. x.name) fs) []
        → cond b (f.name ∷ names_with w (map (λ x. (name, x.name)) fs)) (names_with w (map (λ x. (name, x.name)) fs))
        ≡ cond b (f.name ∷ map (λ x. x.name) fs) []
    by true rest = ap (λ (l : List (List ℕ)). f.name ∷ l) rest
    by false rest = rest

mapped : (num : List ℕ → ℕ) (b : Bool) (l : List (List ℕ)) → cond b (map num l) [] ≡ map num (cond b l [])
mapped num true l = refl
mapped num false l = refl

-- the features of one category, where its number is n exactly if its name is w
one_given : (t : Tables) (n m : ℕ) (w name : List ℕ) (c : WrittenCategory) → eqb m n ≡ same_bytes w name
    → given_at n m (written_feats t c) ≡ map (number_of t.features) (names_with w (named_pairs name c))
one_given t n m w name c same =
    ap (λ b. cond b (map (λ f. f.0) (written_feats t c)) []) same
    ∙ ap (λ (l : List ℕ). cond (same_bytes w name) l []) (feat_numbers t c.feats)
    ∙ mapped (number_of t.features) (same_bytes w name) (map (λ f. f.name) c.feats)
    ∙ ap (map (number_of t.features)) (sym (with_name w name c.feats))

-- and where its number isn't n
none_given : (t : Tables) (n m : ℕ) (c : WrittenCategory) → eqb m n ≡ false → given_at n m (written_feats t c) ≡ []
none_given t n m c other = ap (λ b. cond b (map (λ f. f.0) (written_feats t c)) []) other

pub joined : (num : List ℕ → ℕ) (w : List ℕ) (ps qs : List (List ℕ × List ℕ)) (ns ms : List ℕ) → ns ≡ map num (names_with w ps) → ms ≡ map num (names_with w qs)
    → ns ++ ms ≡ map num (names_with w (ps ++ qs))
joined num w ps qs ns ms is js =
    ap (λ (l : List ℕ). l ++ ms) is ∙ ap (λ (l : List ℕ). map num (names_with w ps) ++ l) js
    ∙ sym (map-append num (names_with w ps) (names_with w qs)) ∙ ap (map num) (sym (names_with-append w ps qs))

same_comm : (v w : List ℕ) → same_bytes v w ≡ same_bytes w v
same_comm v w = by (same_bytes v w) refl
  where
    by : (b : Bool) → same_bytes v w ≡ b → b ≡ same_bytes w v
    by true e = sym (subst (λ x. same_bytes x v ≡ true) (same_is v w e) (same_bytes_refl v))
    by false e = sym (differs_comm same_bytes texts_decide v w e)

-- what is written for a preterminal
module _ (t : Tables) (w : List ℕ) (here : is_among kinds w ≡ true) where
  abbrev pub kind_given : ℕ × WrittenCategory → List ℕ
  kind_given m = given_at (number_of kinds w) m.0 (written_feats t m.1)

  kind_one : (c : WrittenCategory) (b : Bool) → is_among kinds c.name ≡ b
      → kind_given (number_of kinds c.name, c) ++ [] ≡ map (number_of t.features) (names_with w (cond b (category_pairs c) []))
  kind_one c true e = append-nil (kind_given (number_of kinds c.name, c))
      ∙ one_given t (number_of kinds w) (number_of kinds c.name) w c.name c (same_numbers kinds c.name w e here ∙ same_comm c.name w)
  kind_one c false e =
      let past : number_of kinds c.name ≡ 5 = number_past kinds c.name e in
      let low : number_of kinds w < 5 = number_below kinds w here in
      append-nil (kind_given (number_of kinds c.name, c))
      ∙ none_given t (number_of kinds w) (number_of kinds c.name) c (ne_eqb (number_of kinds c.name) (number_of kinds w) (λ k. absurd (omega arith)))

  kind_plain : (c : WrittenCategory) → kind_given (numbered_plain t c) ≡ []
  kind_plain c =
      let low : number_of kinds w < 5 = number_below kinds w here in
      none_given t (number_of kinds w) (5 + number_of t.categories c.name) c
      (ne_eqb (5 + number_of t.categories c.name) (number_of kinds w) (λ k. absurd (omega arith)))

  kind_plains : (cs : List WrittenCategory) → flat_map kind_given (map (numbered_plain t) cs) ≡ []
  kind_plains [] = refl
  kind_plains (c ∷ cs) = ap (λ (l : List ℕ). l ++ flat_map kind_given (map (numbered_plain t) cs)) (kind_plain c) ∙ kind_plains cs

  kind_element : (e : WrittenElement) → flat_map kind_given (numbered_mentions t e) ≡ map (number_of t.features) (names_with w (kind_pairs e))
  kind_element (element.Terminal x) = refl
  kind_element (element.Preterminal c) = kind_one c (is_among kinds c.name) refl
  kind_element (element.Sub c) = kind_plains (c ∷ [])
  kind_element (element.Position x) = refl
  kind_element element.Opener = refl
  kind_element (element.Forward c) = kind_plains (c ∷ [])
  kind_element (element.Strong c) = kind_plains (c ∷ [])
  kind_element (element.Back ps ns) = kind_plains (ps ++ ns)
  kind_element (element.NoBack ps) = kind_plains ps

  kind_body : (es : List WrittenElement)
      → flat_map kind_given (flat_map (numbered_mentions t) es) ≡ map (number_of t.features) (names_with w (flat_map kind_pairs es))
  kind_body [] = refl
  kind_body (e ∷ es) =
      flat_map-append kind_given (numbered_mentions t e) (flat_map (numbered_mentions t) es)
      ∙ joined (number_of t.features) w (kind_pairs e) (flat_map kind_pairs es) (flat_map kind_given (numbered_mentions t e))
      (flat_map kind_given (flat_map (numbered_mentions t) es)) (kind_element e) (kind_body es)

  pub kind_rule : (r : WrittenRule) → flat_map kind_given (numbered_plain t r.head ∷ flat_map (numbered_mentions t) r.body)
      ≡ map (number_of t.features) (names_with w (rule_kind_pairs r))
  kind_rule r = ap (λ (l : List ℕ). l ++ flat_map kind_given (flat_map (numbered_mentions t) r.body)) (kind_plain r.head) ∙ kind_body r.body

-- what is written for a category that is no preterminal
module _ (t : Tables) (w : List ℕ) (here : is_among t.categories w ≡ true) (first : number_of t.categories (codes "text") ≡ 0)
    (text : is_among t.categories (codes "text") ≡ true) where
  abbrev pub plain_given : ℕ × WrittenCategory → List ℕ
  plain_given m = given_at (5 + number_of t.categories w) m.0 (written_feats t m.1)

  five : (a b : ℕ) → eqb (5 + a) (5 + b) ≡ eqb a b
  five a b = elim (cases_Bool (eqb a b)) [
    | inl h ↦ let e = eqb-true a b h in eq-eqb (5 + a) (5 + b) (omega arith) ∙ sym h
    | inr h ↦ ne_eqb (5 + a) (5 + b) (λ e. both_ways (eqb a b) h (eq-eqb a b (omega arith))) ∙ sym h
  ]

  plain_named : (v : List ℕ) → is_among t.categories v ≡ true → eqb (5 + number_of t.categories v) (5 + number_of t.categories w) ≡ same_bytes w v
  plain_named v e = five (number_of t.categories v) (number_of t.categories w) ∙ same_numbers t.categories v w e here ∙ same_comm v w

  plain_one : (c : WrittenCategory) → is_among t.categories c.name ≡ true
      → plain_given (numbered_plain t c) ≡ map (number_of t.features) (names_with w (category_pairs c))
  plain_one c e = one_given t (5 + number_of t.categories w) (5 + number_of t.categories c.name) w c.name c (plain_named c.name e)

  plain_kind : (c : WrittenCategory) (b : Bool) → is_among kinds c.name ≡ b
      → plain_given (number_of kinds c.name, c) ++ [] ≡ map (number_of t.features) (names_with w (cond b [] (named_pairs (codes "text") c)))
  plain_kind c true e =
      let low : number_of kinds c.name < 5 = number_below kinds c.name e in
      append-nil (plain_given (number_of kinds c.name, c))
      ∙ none_given t (5 + number_of t.categories w) (number_of kinds c.name) c
      (ne_eqb (number_of kinds c.name) (5 + number_of t.categories w) (λ k. absurd (omega arith)))
  plain_kind c false e =
      let past : number_of kinds c.name ≡ 5 = number_past kinds c.name e in
      let same : number_of kinds c.name ≡ 5 + number_of t.categories (codes "text") = omega arith in
      append-nil (plain_given (number_of kinds c.name, c))
      ∙ one_given t (5 + number_of t.categories w) (number_of kinds c.name) w (codes "text") c
      (ap (λ m. eqb m (5 + number_of t.categories w)) same ∙ plain_named (codes "text") text)

  plain_all : (cs : List WrittenCategory) → list_all (λ c. is_among t.categories c.name) cs ≡ true
      → flat_map plain_given (map (numbered_plain t) cs) ≡ map (number_of t.features) (names_with w (flat_map category_pairs cs))
  plain_all [] h = refl
  plain_all (c ∷ cs) h =
      let parts = and_parts (is_among t.categories c.name) (list_all (λ x. is_among t.categories x.name) cs) h in
      joined (number_of t.features) w (category_pairs c) (flat_map category_pairs cs) (plain_given (numbered_plain t c))
      (flat_map plain_given (map (numbered_plain t) cs)) (plain_one c parts.0) (plain_all cs parts.1)

  plain_single : (c : WrittenCategory) → list_all (λ x. is_among t.categories x.name) (c ∷ []) ≡ true
      → flat_map plain_given (map (numbered_plain t) (c ∷ [])) ≡ map (number_of t.features) (names_with w (category_pairs c))
  plain_single c h = plain_all (c ∷ []) h ∙ ap (λ ps. map (number_of t.features) (names_with w ps)) (append-nil (category_pairs c))

  plain_element : (e : WrittenElement) → list_all (λ c. is_among t.categories c.name) (plain_categories e) ≡ true
      → flat_map plain_given (numbered_mentions t e) ≡ map (number_of t.features) (names_with w (plain_pairs e))
  plain_element (element.Terminal x) h = refl
  plain_element (element.Preterminal c) h = plain_kind c (is_among kinds c.name) refl
  plain_element (element.Sub c) h = plain_single c h
  plain_element (element.Position x) h = refl
  plain_element element.Opener h = refl
  plain_element (element.Forward c) h = plain_single c h
  plain_element (element.Strong c) h = plain_single c h
  plain_element (element.Back ps ns) h = plain_all (ps ++ ns) h
  plain_element (element.NoBack ps) h = plain_all ps h

  plain_body : (es : List WrittenElement) → list_all (λ c. is_among t.categories c.name) (flat_map plain_categories es) ≡ true
      → flat_map plain_given (flat_map (numbered_mentions t) es) ≡ map (number_of t.features) (names_with w (flat_map plain_pairs es))
  plain_body [] h = refl
  plain_body (e ∷ es) h =
      let parts = all_split (λ (c : WrittenCategory). is_among t.categories c.name) (plain_categories e) (flat_map plain_categories es) h in
      flat_map-append plain_given (numbered_mentions t e) (flat_map (numbered_mentions t) es)
      ∙ joined (number_of t.features) w (plain_pairs e) (flat_map plain_pairs es) (flat_map plain_given (numbered_mentions t e))
      (flat_map plain_given (flat_map (numbered_mentions t) es)) (plain_element e parts.0) (plain_body es parts.1)

  pub plain_rule : (r : WrittenRule) → list_all (λ c. is_among t.categories c.name) (r.head ∷ flat_map plain_categories r.body) ≡ true
      → flat_map plain_given (numbered_plain t r.head ∷ flat_map (numbered_mentions t) r.body) ≡ map (number_of t.features) (names_with w (rule_plain_pairs r))
  plain_rule r h =
      let parts = and_parts (is_among t.categories r.head.name) (list_all (λ c. is_among t.categories c.name) (flat_map plain_categories r.body)) h in
      joined (number_of t.features) w (category_pairs r.head) (flat_map plain_pairs r.body) (plain_given (numbered_plain t r.head))
      (flat_map plain_given (flat_map (numbered_mentions t) r.body)) (plain_one r.head parts.0) (plain_body r.body parts.1)
