-- The names in the pairs of a text's rules are in the tables of the numbered grammar.
use Rattle.std.proofs.Common.{◌≡◌, ℕ, Bool, true, false, cond, ◌&&◌, ◌||◌, List, [], ◌∷◌, ◌++◌, map, codes, refl, sym, ap, subst, ◌∙◌, inl, inr}
use Rattle.std.specs.List.{list_all, flat_map}
use Rattle.std.proofs.lemmas.List.{map-append}
use Rattle.std.proofs.lemmas.List.Concat.{flat_map-append}
use Rattle.std.proofs.lemmas.Bool.{cases_Bool, both_ways, and_parts, and_from, cond-true, cond-false, or_right}
use Rattle.std.proofs.lemmas.List.Folds.{list_all-map as all-map}
use Rattle.codeco_text.specs.declared.written.WrittenFeat.{WrittenFeat}
use Rattle.codeco_text.specs.declared.written.WrittenCategory.{WrittenCategory}
use Rattle.codeco_text.specs.declared.written.WrittenElement.{WrittenElement}
use Rattle.codeco_text.specs.declared.written.WrittenElement.TheVariants as element
use Rattle.codeco_text.specs.declared.written.WrittenRule.{WrittenRule}
use Rattle.codeco_text.specs.declared.written.WrittenItem.{WrittenItem}
use Rattle.codeco_text.specs.Names.{same_bytes, is_among}
use Rattle.codeco_text.proofs.Growth.{same_is}
use Rattle.codeco_text.specs.Notation.{kinds}
use Rattle.codeco_checked.specs.Numbering.{first_features}
use Rattle.codeco_numbering.specs.Numbered.{NamedFeature, undeclared, with_items, with_undeclared, all_features, rules_of, written_features, category_features, element_categories, plain_categories, rule_names}
use Rattle.wiki_base.proofs.ListLaws.{all_append, all_split, all_flat}
use Rattle.codeco_numbering.proofs.Sound.Tables.{among_append}
use Rattle.codeco_numbering.proofs.Sound.Contents.{categories_of}
use Rattle.codeco_early_faults.specs.Pairs.{names_with}
use Rattle.codeco_early_faults.specs.Early.{named_pairs, category_pairs, plain_pairs, kind_pairs, rule_plain_pairs, rule_kind_pairs, written_plain_pairs, written_kind_pairs}
use Rattle.codeco_early_faults.proofs.Numbers.{all_among, all_in, all_gathered}

abbrev pub feature_table : List WrittenItem → List (List ℕ)
feature_table items = map (λ f. f.name) (all_features items)

or_move : (a b c : Bool) → ((a || (b || false)) || c) ≡ (a || (b || c))
or_move true b c = refl
or_move false true c = refl
or_move false false c = refl

or_old : (a b c : Bool) → (b ≡ true → a ≡ true) → (a || c) ≡ (a || (b || c))
or_old true b c h = refl
or_old false true c h = absurd (both_ways false refl (h refl))
or_old false false c h = refl

-- the undeclared names are added
added : (fs : List NamedFeature) (ws : List (List ℕ)) (w : List ℕ)
    → is_among (map (λ f. f.name) (with_undeclared fs ws)) w ≡ (is_among (map (λ f. f.name) fs) w || is_among ws w)
added fs [] w = none (is_among (map (λ f. f.name) fs) w)
  where
    none : (a : Bool) → a ≡ (a || false)
    none true = refl
    none false = refl
added fs (v ∷ vs) w =
    let there = is_among (map (λ f. f.name) fs) v in
    let more : List NamedFeature = fs ++ undeclared v ∷ [] in
    added (cond there fs more) vs w ∙ elim (cases_Bool there) [
      | inl e ↦
          ap (λ (l : List NamedFeature). is_among (map (λ f. f.name) l) w || is_among vs w) (cond-true there fs more e)
          ∙ or_old (is_among (map (λ f. f.name) fs) w) (same_bytes w v) (is_among vs w)
          (λ s. subst (λ (x : List ℕ). is_among (map (λ f. f.name) fs) x ≡ true) (sym (same_is w v s)) e)
      | inr e ↦
          ap (λ (l : List NamedFeature). is_among (map (λ f. f.name) l) w || is_among vs w) (cond-false there fs more e)
          ∙ ap (λ (l : List (List ℕ)). is_among l w || is_among vs w) (map-append (λ f. f.name) fs (undeclared v ∷ []))
          ∙ ap (λ b. b || is_among vs w) (among_append (map (λ f. f.name) fs) (v ∷ []) w)
          ∙ or_move (is_among (map (λ f. f.name) fs) w) (same_bytes w v) (is_among vs w)
    ]

features_there : (items : List WrittenItem) → list_all (λ r. all_among (feature_table items) (written_features r)) (rules_of items) ≡ true
features_there items =
    let ws = flat_map written_features (rules_of items) in
    let fs = with_items (map undeclared first_features) items in
    all_flat (is_among (feature_table items)) written_features (rules_of items)
    (all_in (feature_table items) ws (λ w e. added fs ws w ∙ or_right (is_among (map (λ f. f.name) fs) w) (is_among ws w) e))

categories_there : (items : List WrittenItem) → list_all (λ r. all_among (categories_of items) (rule_names r)) (rules_of items) ≡ true
categories_there items = all_flat (is_among (categories_of items)) rule_names (rules_of items)
    (all_gathered (codes "text" ∷ []) (flat_map rule_names (rules_of items)))

pub rule_categories_there : (items : List WrittenItem)
    → list_all (λ r. list_all (λ c. is_among (categories_of items) c.name) (r.head ∷ flat_map plain_categories r.body)) (rules_of items) ≡ true
rule_categories_there items = each (rules_of items) (categories_there items)
  where
    each : (rs : List WrittenRule) → list_all (λ r. all_among (categories_of items) (rule_names r)) rs ≡ true
        → list_all (λ r. list_all (λ c. is_among (categories_of items) c.name) (r.head ∷ flat_map plain_categories r.body)) rs ≡ true
    each [] h = refl
    each (r ∷ rs) h =
        let parts = and_parts (all_among (categories_of items) (rule_names r)) (list_all (λ x. all_among (categories_of items) (rule_names x)) rs) h in
        and_from (list_all (λ c. is_among (categories_of items) c.name) (r.head ∷ flat_map plain_categories r.body))
        (list_all (λ x. list_all (λ c. is_among (categories_of items) c.name) (x.head ∷ flat_map plain_categories x.body)) rs)
        (sym (all-map (is_among (categories_of items)) (λ c. c.name) (r.head ∷ flat_map plain_categories r.body)) ∙ parts.0) (each rs parts.1)

-- Second names

named_second : (q : List ℕ → Bool) (name : List ℕ) (fs : List WrittenFeat)
    → list_all (λ (p : List ℕ × List ℕ). q p.1) (map (λ f. (name, f.name)) fs) ≡ list_all q (map (λ f. f.name) fs)
named_second q name [] = refl
named_second q name (f ∷ fs) = ap (λ b. q f.name && b) (named_second q name fs)

categories_second : (q : List ℕ → Bool) (cs : List WrittenCategory) → list_all q (flat_map category_features cs) ≡ true
    → list_all (λ (p : List ℕ × List ℕ). q p.1) (flat_map category_pairs cs) ≡ true
categories_second q [] h = refl
categories_second q (c ∷ cs) h =
    let parts = all_split q (category_features c) (flat_map category_features cs) h in
    all_append (λ (p : List ℕ × List ℕ). q p.1) (category_pairs c) (flat_map category_pairs cs) (named_second q c.name c.feats ∙ parts.0)
    (categories_second q cs parts.1)

one_second : (q : List ℕ → Bool) (c : WrittenCategory) → list_all q (flat_map category_features (c ∷ [])) ≡ true → (name : List ℕ)
    → list_all (λ (p : List ℕ × List ℕ). q p.1) (named_pairs name c) ≡ true
one_second q c h name = named_second q name c.feats ∙ (all_split q (category_features c) [] h).0

pick : (q : List ℕ × List ℕ → Bool) (b : Bool) (ps qs : List (List ℕ × List ℕ)) → list_all q ps ≡ true → list_all q qs ≡ true → list_all q (cond b ps qs) ≡ true
pick q true ps qs h k = h
pick q false ps qs h k = k

plain_second : (q : List ℕ → Bool) (e : WrittenElement) → list_all q (flat_map category_features (element_categories e)) ≡ true
    → list_all (λ (p : List ℕ × List ℕ). q p.1) (plain_pairs e) ≡ true
plain_second q (element.Terminal w) h = refl
plain_second q (element.Preterminal c) h =
    pick (λ (p : List ℕ × List ℕ). q p.1) (is_among kinds c.name) [] (named_pairs (codes "text") c) refl (one_second q c h (codes "text"))
plain_second q (element.Sub c) h = one_second q c h c.name
plain_second q (element.Position w) h = refl
plain_second q element.Opener h = refl
plain_second q (element.Forward c) h = one_second q c h c.name
plain_second q (element.Strong c) h = one_second q c h c.name
plain_second q (element.Back ps ns) h = categories_second q (ps ++ ns) h
plain_second q (element.NoBack ps) h = categories_second q ps h

kind_second : (q : List ℕ → Bool) (e : WrittenElement) → list_all q (flat_map category_features (element_categories e)) ≡ true
    → list_all (λ (p : List ℕ × List ℕ). q p.1) (kind_pairs e) ≡ true
kind_second q (element.Preterminal c) h = pick (λ (p : List ℕ × List ℕ). q p.1) (is_among kinds c.name) (category_pairs c) [] (one_second q c h c.name) refl
kind_second q e h = refl

body_second : (q : List ℕ → Bool) (f : WrittenElement → List (List ℕ × List ℕ))
    → ((e : WrittenElement) → list_all q (flat_map category_features (element_categories e)) ≡ true → list_all (λ (p : List ℕ × List ℕ). q p.1) (f e) ≡ true)
    → (es : List WrittenElement) → list_all q (flat_map category_features (flat_map element_categories es)) ≡ true
    → list_all (λ (p : List ℕ × List ℕ). q p.1) (flat_map f es) ≡ true
body_second q f each [] h = refl
body_second q f each (e ∷ es) h =
    let split = ap (list_all q) (flat_map-append category_features (element_categories e) (flat_map element_categories es)) in
    let parts = all_split q (flat_map category_features (element_categories e)) (flat_map category_features (flat_map element_categories es)) (sym split ∙ h) in
    all_append (λ (p : List ℕ × List ℕ). q p.1) (f e) (flat_map f es) (each e parts.0) (body_second q f each es parts.1)

rules_second : (q : List ℕ → Bool) (f : WrittenRule → List (List ℕ × List ℕ))
    → ((r : WrittenRule) → list_all q (written_features r) ≡ true → list_all (λ (p : List ℕ × List ℕ). q p.1) (f r) ≡ true) → (rs : List WrittenRule)
    → list_all (λ r. list_all q (written_features r)) rs ≡ true → list_all (λ (p : List ℕ × List ℕ). q p.1) (flat_map f rs) ≡ true
rules_second q f each [] h = refl
rules_second q f each (r ∷ rs) h =
    let parts = and_parts (list_all q (written_features r)) (list_all (λ x. list_all q (written_features x)) rs) h in
    all_append (λ (p : List ℕ × List ℕ). q p.1) (f r) (flat_map f rs) (each r parts.0) (rules_second q f each rs parts.1)

rule_plain_second : (q : List ℕ → Bool) (r : WrittenRule) → list_all q (written_features r) ≡ true
    → list_all (λ (p : List ℕ × List ℕ). q p.1) (rule_plain_pairs r) ≡ true
rule_plain_second q r h =
    let parts = all_split q (category_features r.head) (flat_map category_features (flat_map element_categories r.body)) h in
    all_append (λ (p : List ℕ × List ℕ). q p.1) (category_pairs r.head) (flat_map plain_pairs r.body) (named_second q r.head.name r.head.feats ∙ parts.0)
    (body_second q plain_pairs (plain_second q) r.body parts.1)

rule_kind_second : (q : List ℕ → Bool) (r : WrittenRule) → list_all q (written_features r) ≡ true
    → list_all (λ (p : List ℕ × List ℕ). q p.1) (rule_kind_pairs r) ≡ true
rule_kind_second q r h = body_second q kind_pairs (kind_second q) r.body
    (all_split q (category_features r.head) (flat_map category_features (flat_map element_categories r.body)) h).1

with_there : (names : List (List ℕ)) (w : List ℕ) (ps : List (List ℕ × List ℕ)) → list_all (λ (p : List ℕ × List ℕ). is_among names p.1) ps ≡ true
    → all_among names (names_with w ps) ≡ true
with_there names w [] h = refl
with_there names w (p ∷ ps) h =
    let parts = and_parts (is_among names p.1) (list_all (λ (x : List ℕ × List ℕ). is_among names x.1) ps) h in
    by (same_bytes w p.0) parts.0 (with_there names w ps parts.1)
  where
    by : (b : Bool) → is_among names p.1 ≡ true → all_among names (names_with w ps) ≡ true
        → all_among names (cond b (p.1 ∷ names_with w ps) (names_with w ps)) ≡ true
    by true e rest = and_from (is_among names p.1) (all_among names (names_with w ps)) e rest
    by false e rest = rest

pub plain_features : (items : List WrittenItem) (w : List ℕ) → all_among (feature_table items) (names_with w (written_plain_pairs items)) ≡ true
plain_features items w =
    let q = is_among (feature_table items) in
    with_there (feature_table items) w (written_plain_pairs items)
    (rules_second q rule_plain_pairs (rule_plain_second q) (rules_of items) (features_there items))

pub kind_features : (items : List WrittenItem) (w : List ℕ) → all_among (feature_table items) (names_with w (written_kind_pairs items)) ≡ true
kind_features items w =
    let q = is_among (feature_table items) in
    with_there (feature_table items) w (written_kind_pairs items) (rules_second q rule_kind_pairs (rule_kind_second q) (rules_of items) (features_there items))

-- First names

named_first : (q : List ℕ → Bool) (name : List ℕ) (fs : List WrittenFeat) → q name ≡ true
    → list_all (λ (p : List ℕ × List ℕ). q p.0) (map (λ f. (name, f.name)) fs) ≡ true
named_first q name [] h = refl
named_first q name (f ∷ fs) h = and_from (q name) (list_all (λ (p : List ℕ × List ℕ). q p.0) (map (λ x. (name, x.name)) fs)) h (named_first q name fs h)

kind_first : (e : WrittenElement) → list_all (λ (p : List ℕ × List ℕ). is_among kinds p.0) (kind_pairs e) ≡ true
kind_first (element.Preterminal c) = by (is_among kinds c.name) refl
  where
    by : (b : Bool) → is_among kinds c.name ≡ b → list_all (λ (p : List ℕ × List ℕ). is_among kinds p.0) (cond b (category_pairs c) []) ≡ true
    by true e = named_first (is_among kinds) c.name c.feats e
    by false e = refl
kind_first e = refl

kind_body_first : (es : List WrittenElement) → list_all (λ (p : List ℕ × List ℕ). is_among kinds p.0) (flat_map kind_pairs es) ≡ true
kind_body_first [] = refl
kind_body_first (e ∷ es) = all_append (λ (p : List ℕ × List ℕ). is_among kinds p.0) (kind_pairs e) (flat_map kind_pairs es) (kind_first e) (kind_body_first es)

kind_rules_first : (rs : List WrittenRule) → list_all (λ (p : List ℕ × List ℕ). is_among kinds p.0) (flat_map rule_kind_pairs rs) ≡ true
kind_rules_first [] = refl
kind_rules_first (r ∷ rs) = all_append (λ (p : List ℕ × List ℕ). is_among kinds p.0) (rule_kind_pairs r) (flat_map rule_kind_pairs rs) (kind_body_first r.body)
    (kind_rules_first rs)

pub kind_names : (items : List WrittenItem) → list_all (λ (p : List ℕ × List ℕ). is_among kinds p.0) (written_kind_pairs items) ≡ true
kind_names items = kind_rules_first (rules_of items)

module _ (cats : List (List ℕ)) (text : is_among cats (codes "text") ≡ true) where
  plain_categories_first : (cs : List WrittenCategory) → list_all (λ c. is_among cats c.name) cs ≡ true
      → list_all (λ (p : List ℕ × List ℕ). is_among cats p.0) (flat_map category_pairs cs) ≡ true
  plain_categories_first [] h = refl
  plain_categories_first (c ∷ cs) h =
      let parts = and_parts (is_among cats c.name) (list_all (λ x. is_among cats x.name) cs) h in
      all_append (λ (p : List ℕ × List ℕ). is_among cats p.0) (category_pairs c) (flat_map category_pairs cs)
      (named_first (is_among cats) c.name c.feats parts.0) (plain_categories_first cs parts.1)

  one_first : (c : WrittenCategory) → list_all (λ x. is_among cats x.name) (c ∷ []) ≡ true
      → list_all (λ (p : List ℕ × List ℕ). is_among cats p.0) (category_pairs c) ≡ true
  one_first c h = named_first (is_among cats) c.name c.feats (and_parts (is_among cats c.name) true h).0

  plain_first : (e : WrittenElement) → list_all (λ c. is_among cats c.name) (plain_categories e) ≡ true
      → list_all (λ (p : List ℕ × List ℕ). is_among cats p.0) (plain_pairs e) ≡ true
  plain_first (element.Terminal w) h = refl
  plain_first (element.Preterminal c) h =
      pick (λ (p : List ℕ × List ℕ). is_among cats p.0) (is_among kinds c.name) [] (named_pairs (codes "text") c) refl
      (named_first (is_among cats) (codes "text") c.feats text)
  plain_first (element.Sub c) h = one_first c h
  plain_first (element.Position w) h = refl
  plain_first element.Opener h = refl
  plain_first (element.Forward c) h = one_first c h
  plain_first (element.Strong c) h = one_first c h
  plain_first (element.Back ps ns) h = plain_categories_first (ps ++ ns) h
  plain_first (element.NoBack ps) h = plain_categories_first ps h

  plain_body_first : (es : List WrittenElement) → list_all (λ c. is_among cats c.name) (flat_map plain_categories es) ≡ true
      → list_all (λ (p : List ℕ × List ℕ). is_among cats p.0) (flat_map plain_pairs es) ≡ true
  plain_body_first [] h = refl
  plain_body_first (e ∷ es) h =
      let parts = all_split (λ (c : WrittenCategory). is_among cats c.name) (plain_categories e) (flat_map plain_categories es) h in
      all_append (λ (p : List ℕ × List ℕ). is_among cats p.0) (plain_pairs e) (flat_map plain_pairs es) (plain_first e parts.0) (plain_body_first es parts.1)

  pub plain_rules_first : (rs : List WrittenRule) → list_all (λ r. list_all (λ c. is_among cats c.name) (r.head ∷ flat_map plain_categories r.body)) rs ≡ true
      → list_all (λ (p : List ℕ × List ℕ). is_among cats p.0) (flat_map rule_plain_pairs rs) ≡ true
  plain_rules_first [] h = refl
  plain_rules_first (r ∷ rs) h =
      let parts = and_parts (list_all (λ c. is_among cats c.name) (r.head ∷ flat_map plain_categories r.body))
      (list_all (λ x. list_all (λ c. is_among cats c.name) (x.head ∷ flat_map plain_categories x.body)) rs) h in
      let here = and_parts (is_among cats r.head.name) (list_all (λ c. is_among cats c.name) (flat_map plain_categories r.body)) parts.0 in
      all_append (λ (p : List ℕ × List ℕ). is_among cats p.0) (rule_plain_pairs r) (flat_map rule_plain_pairs rs)
      (all_append (λ (p : List ℕ × List ℕ). is_among cats p.0) (category_pairs r.head) (flat_map plain_pairs r.body)
      (named_first (is_among cats) r.head.name r.head.feats here.0) (plain_body_first r.body here.1))
      (plain_rules_first rs parts.1)
