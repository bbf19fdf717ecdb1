-- The names, variables and terminals that are written for a sound grammar are those of the notation.
use Rattle.std.proofs.Common.{◌≡◌, ℕ, zero, suc, ◌<◌, Bool, true, false, ◌&&◌, ◌||◌, eqb, ltb, leb, List, [], ◌∷◌, map, length, refl, sym, ap, ◌∙◌, arith}
use Rattle.std.specs.Prelude.{slice_get}
use Rattle.std.specs.Option.{option_map_or}
use Rattle.std.specs.List.{list_all, list_any}
use Rattle.std.proofs.lemmas.Bool.{and_parts, and_from, or_parts, ltb-true, le-leb, or_right}
use Rattle.std.proofs.lemmas.List.Folds.{list_all-map as all-map}
use Rattle.codeco_terms.specs.declared.values.Value.TheVariants.{Atom, Word, Pos}
use Rattle.codeco_terms.specs.declared.values.Term.{Term}
use Rattle.codeco_terms.specs.declared.values.Term.TheVariants.{Val, Var}
use Rattle.codeco_terms.specs.declared.categories.Category.{Category}
use Rattle.codeco_terms.specs.declared.declarations.Declared.TheVariants as declared
use Rattle.codeco_terms.specs.declared.declarations.Feature.{Feature}
use Rattle.codeco_terms.specs.declared.rules.Label.{Label}
use Rattle.codeco_terms.specs.declared.rules.Label.TheVariants as label
use Rattle.codeco_terms.specs.declared.rules.Rule.{Rule}
use Rattle.codeco_terms.specs.GrammarParts.{GrammarParts}
use Rattle.codeco_text.specs.Names.{same_bytes, is_identifier, is_variable, is_terminal, is_among}
use Rattle.codeco_text.specs.Notation.{labels, kinds}
use Rattle.codeco_text.proofs.Growth.{same_is}
use Rattle.codeco_checked.specs.declared.fault.GrammarFault.TheVariants as fault
use Rattle.codeco_checked.specs.Occurrences.{rule_mentions, rule_features, rule_terminals}
use Rattle.codeco_checked.specs.Numbering.{has, begins_with, first_categories, declared_atoms, grammar_atoms, grammar_names, grammar_terminals, is_declared}
use Rattle.codeco_checked.specs.Faults.{at_rule, values_of, fits_declared, is_undeclared_rule, is_bad_rule, has_wrong_atom, has_mixed_variable, has_wrong_position, has_double_feature, has_wrong_preterminal, has_double_declaration}
use Rattle.codeco_checked.specs.Sound.{IsSound}
use Rattle.codeco_printer.specs.Unnumbered.{name_at, feature_name, letter, letter_byte, value_name}
use Rattle.codeco_numbering.specs.Labels.{label_name}
use Rattle.codeco_numbering.proofs.Sound.Faults.{at_no_rule}
use Rattle.wiki_base.proofs.ListLaws.{all_flat, all_weaken, all_both, all_from_none, none_each, all_at}
use Rattle.codeco_checked.proofs.NumberingLemmas.{all_has, counted}

pub letter_variable : (x : ℕ) → is_variable (letter x) ≡ true
letter_variable x =
    and_from (leb 65 (letter_byte x) && leb (letter_byte x) 90) true
    (and_from (leb 65 (letter_byte x)) (leb (letter_byte x) 90) (le-leb 65 (letter_byte x) (omega arith)) (le-leb (letter_byte x) 90 (omega arith))) refl

pub label_named : (l : Label) → is_among labels (label_name l) ≡ true
label_named label.Statement = refl
label_named l = refl

begins_at : (xs names : List (List ℕ)) (n : ℕ) → begins_with xs names ≡ true → n < length xs → name_at names n ≡ name_at xs n
begins_at [] names n h lt = absurd (omega arith)
begins_at (x ∷ xs) [] n h lt = absurd cc
begins_at (x ∷ xs) (y ∷ ys) zero h lt = sym (same_is x y (and_parts (same_bytes x y) (begins_with xs ys) h).0)
begins_at (x ∷ xs) (y ∷ ys) (suc n) h lt = begins_at xs ys n (and_parts (same_bytes x y) (begins_with xs ys) h).1 (omega arith)

first_kind : (n : ℕ) → n < 5 → is_among kinds (name_at first_categories n) ≡ true
first_kind (suc (suc (suc (suc (suc n))))) h = absurd (omega arith)
first_kind n h = refl

-- the preterminals have their names
pub kind_named : (names : List (List ℕ)) (n : ℕ) → begins_with first_categories names ≡ true → ltb n 5 ≡ true → is_among kinds (name_at names n) ≡ true
kind_named names n h low =
    let lt = ltb-true n 5 low in
    ap (is_among kinds) (begins_at first_categories names n h (omega arith)) ∙ first_kind n lt

-- a feature that is declared has a name
declared_named : (features : List Feature) (f : ℕ) → list_all (λ x. is_identifier x.name) features ≡ true
    → is_declared (option_map_or (λ x. x.declared) (slice_get features f) declared.Undeclared) ≡ true → is_identifier (feature_name features f) ≡ true
declared_named [] f all h = absurd cc
declared_named (x ∷ xs) zero all h = (and_parts (is_identifier x.name) (list_all (λ y. is_identifier y.name) xs) all).0
declared_named (x ∷ xs) (suc f) all h = declared_named xs f (and_parts (is_identifier x.name) (list_all (λ y. is_identifier y.name) xs) all).1 h

-- the atoms of a feature's values
pub values_at : (p : ℕ → Bool) (features : List Feature) (f a : ℕ) → list_all (λ x. list_all p (declared_atoms x.declared)) features ≡ true
    → has (declared_atoms (option_map_or (λ x. x.declared) (slice_get features f) declared.Undeclared)) a ≡ true → p a ≡ true
values_at p [] f a all h = absurd cc
values_at p (x ∷ xs) zero a all h = all_has p (declared_atoms x.declared) a
    (and_parts (list_all p (declared_atoms x.declared)) (list_all (λ y. list_all p (declared_atoms y.declared)) xs) all).0 h
values_at p (x ∷ xs) (suc f) a all h = values_at p xs f a
    (and_parts (list_all p (declared_atoms x.declared)) (list_all (λ y. list_all p (declared_atoms y.declared)) xs) all).1 h

abbrev pub term_named : GrammarParts → Term → Bool
term_named g (Val v) = is_identifier (value_name g v)
term_named g (Var x) = true

abbrev pub feat_named : GrammarParts → ℕ × Term → Bool
feat_named g f = is_identifier (feature_name g.features f.0) && term_named g f.1

-- the name of a category and its features have names
abbrev pub category_named : GrammarParts → Category → Bool
category_named g c = is_identifier (name_at g.categories c.name) && list_all (feat_named g) c.feats

-- the atoms of declarations have names
pub atoms_named : (g : GrammarParts) → IsSound g
    → list_all (λ x. list_all (λ a. is_identifier (name_at g.atoms a)) (declared_atoms x.declared)) g.features ≡ true
atoms_named g s =
    all_flat (λ a. is_identifier (name_at g.atoms a)) (λ x. declared_atoms x.declared) g.features
    (all_weaken (λ x. ltb x (length g.atoms)) (λ a. is_identifier (name_at g.atoms a))
    (λ a lt. all_at is_identifier g.atoms a [] s.written.atoms (ltb-true a (length g.atoms) lt)) (grammar_atoms g)
    (counted 7 (length g.atoms) (grammar_atoms g) s.numbered.atoms).1)

fits_declared_named : (g : GrammarParts) (f : ℕ) (t : Term) → IsSound g → fits_declared (values_of g f) t ≡ true → term_named g t ≡ true
fits_declared_named g f (Val (Atom a)) s h = values_at (λ x. is_identifier (name_at g.atoms x)) g.features f a (atoms_named g s) h
fits_declared_named g f (Val (Word w)) s h = absurd cc
fits_declared_named g f (Val (Pos p)) s h = absurd cc
fits_declared_named g f (Var x) s h = refl

pub no_undeclared : (g : GrammarParts) → IsSound g → list_any (is_undeclared_rule g) g.rules ≡ false
no_undeclared g s = at_no_rule (is_undeclared_rule g) g.rules (λ n h. s.faultless (fault.Undeclared n) h)

pub no_bad : (g : GrammarParts) → IsSound g → list_any (is_bad_rule g) g.rules ≡ false
no_bad g s = at_no_rule (is_bad_rule g) g.rules
    (λ n h. s.faultless (fault.BadValue n) (or_right (eqb n 0 && has_double_declaration g) (at_rule (is_bad_rule g) g.rules n) h))

pub not_wrong : (g : GrammarParts) (r : Rule) → is_bad_rule g r ≡ false → list_all (λ f. fits_declared (values_of g f.0) f.1) (rule_features r) ≡ true
not_wrong g r h =
    let a = or_parts (has_wrong_atom g r || has_mixed_variable g r || has_wrong_position g r || has_double_feature r) (has_wrong_preterminal g r) h in
    let b = or_parts (has_wrong_atom g r || has_mixed_variable g r || has_wrong_position g r) (has_double_feature r) a.0 in
    let c = or_parts (has_wrong_atom g r || has_mixed_variable g r) (has_wrong_position g r) b.0 in
    let d = or_parts (has_wrong_atom g r) (has_mixed_variable g r) c.0 in
    all_from_none (λ f. fits_declared (values_of g f.0) f.1) (rule_features r) d.0

-- the features that rules write have names
features_named : (g : GrammarParts) → IsSound g → list_all (λ r. list_all (feat_named g) (rule_features r)) g.rules ≡ true
features_named g s =
    let named = none_each (is_undeclared_rule g) (λ r. list_all (λ f. is_declared (values_of g f.0)) (rule_features r))
    (λ r h. all_from_none (λ f. is_declared (values_of g f.0)) (rule_features r) h) g.rules (no_undeclared g s) in
    let fits = none_each (is_bad_rule g) (λ r. list_all (λ f. fits_declared (values_of g f.0) f.1) (rule_features r)) (not_wrong g) g.rules (no_bad g s) in
    let P : Rule → Bool = λ r. list_all (λ f. is_declared (values_of g f.0)) (rule_features r) in
    let Q : Rule → Bool = λ r. list_all (λ f. fits_declared (values_of g f.0) f.1) (rule_features r) in
    all_weaken (λ r. P r && Q r) (λ r. list_all (feat_named g) (rule_features r))
    (λ r h.
    let parts = and_parts (P r) (Q r) h in
    all_weaken (λ f. is_declared (values_of g f.0) && fits_declared (values_of g f.0) f.1) (feat_named g)
    (λ f k.
    let both = and_parts (is_declared (values_of g f.0)) (fits_declared (values_of g f.0) f.1) k in
    and_from (is_identifier (feature_name g.features f.0)) (term_named g f.1) (declared_named g.features f.0 s.written.features both.0)
    (fits_declared_named g f.0 f.1 s both.1))
    (rule_features r) (all_both (λ f. is_declared (values_of g f.0)) (λ f. fits_declared (values_of g f.0) f.1) (rule_features r) parts.0 parts.1))
    g.rules (all_both P Q g.rules named fits)

names_named : (g : GrammarParts) → IsSound g → list_all (λ r. list_all (λ c. is_identifier (name_at g.categories c.name)) (rule_mentions r)) g.rules ≡ true
names_named g s =
    let q : ℕ → Bool = λ n. is_identifier (name_at g.categories n) in
    let below : list_all (λ x. ltb x (length g.categories)) (grammar_names g) ≡ true =
    (counted 6 (length g.categories) (grammar_names g) s.numbered.categories).1 in
    let all : list_all q (grammar_names g) ≡ true =
    all_weaken (λ x. ltb x (length g.categories)) q
    (λ n lt. all_at is_identifier g.categories n [] s.written.categories (ltb-true n (length g.categories) lt)) (grammar_names g) below in
    all_weaken (λ r. list_all q (map (λ c. c.name) (rule_mentions r))) (λ r. list_all (λ c. q c.name) (rule_mentions r))
    (λ r h. sym (all-map q (λ c. c.name) (rule_mentions r)) ∙ h) g.rules (all_flat q (λ r. map (λ c. c.name) (rule_mentions r)) g.rules all)

-- the categories that rules write have names
pub mentions_named : (g : GrammarParts) → IsSound g → list_all (λ r. list_all (category_named g) (rule_mentions r)) g.rules ≡ true
mentions_named g s =
    let P : Rule → Bool = λ r. list_all (λ c. is_identifier (name_at g.categories c.name)) (rule_mentions r) in
    let Q : Rule → Bool = λ r. list_all (feat_named g) (rule_features r) in
    all_weaken (λ r. P r && Q r) (λ r. list_all (category_named g) (rule_mentions r))
    (λ r h.
    let parts = and_parts (P r) (Q r) h in
    all_both (λ c. is_identifier (name_at g.categories c.name)) (λ c. list_all (feat_named g) c.feats) (rule_mentions r) parts.0
    (all_flat (feat_named g) (λ c. c.feats) (rule_mentions r) parts.1))
    g.rules (all_both P Q g.rules (names_named g s) (features_named g s))

pub terminals_named : (g : GrammarParts) → IsSound g → list_all (λ r. list_all (λ t. is_terminal (name_at g.terminals t)) (rule_terminals r)) g.rules ≡ true
terminals_named g s =
    let q : ℕ → Bool = λ n. is_terminal (name_at g.terminals n) in
    all_flat q rule_terminals g.rules
    (all_weaken (λ x. ltb x (length g.terminals)) q (λ n lt. all_at is_terminal g.terminals n [] s.written.terminals (ltb-true n (length g.terminals) lt))
    (grammar_terminals g) (counted 0 (length g.terminals) (grammar_terminals g) s.numbered.terminals).1)
