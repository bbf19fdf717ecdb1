-- The rules that are written for a sound grammar write features of the grammar alone.
use Rattle.std.proofs.Common.{◌≡◌, ℕ, Bool, true, ltb, List, [], ◌∷◌, map, length, refl, ◌∙◌, arith}
use Rattle.std.specs.List.{list_all, flat_map}
use Rattle.std.proofs.lemmas.List.{length-map}
use Rattle.std.proofs.lemmas.Bool.{and_parts, and_from, ltb-true}
use Rattle.std.proofs.lemmas.List.Folds.{list_all-map as all-map}
use Rattle.codeco_terms.specs.declared.values.Term.{Term}
use Rattle.codeco_terms.specs.declared.values.Term.TheVariants.{Var}
use Rattle.codeco_terms.specs.declared.categories.Category.{Category}
use Rattle.codeco_terms.specs.declared.categories.Pattern.{Pattern}
use Rattle.codeco_terms.specs.declared.elements.Element.{Element}
use Rattle.codeco_terms.specs.declared.elements.Element.TheVariants.{Terminal, Preterminal, Sub, Position, Opener, Forward, Strong, Back, NoBack}
use Rattle.codeco_terms.specs.declared.rules.Rule.{Rule}
use Rattle.codeco_terms.specs.GrammarParts.{GrammarParts}
use Rattle.codeco_text.specs.declared.written.WrittenTerm.{WrittenTerm}
use Rattle.codeco_text.specs.declared.written.WrittenTerm.TheVariants as term
use Rattle.codeco_text.specs.declared.written.WrittenCategory.{WrittenCategory}
use Rattle.codeco_text.specs.Names.{is_among}
use Rattle.codeco_checked.specs.Occurrences.{whole, mentions, rule_mentions, rule_features}
use Rattle.codeco_checked.specs.Sound.{IsSound}
use Rattle.codeco_printer.specs.Unnumbered.{feature_name, letter, written_term, plain_terms, taken_terms, merged, with_names, written_category, written_pattern, written_element, written_rule}
use Rattle.codeco_numbering.specs.Numbered.{element_categories, category_features, written_features}
use Rattle.wiki_base.proofs.ListLaws.{all_append, all_split, all_flat, flat_all, all_weaken}
use Rattle.codeco_numbering.proofs.Sound.Mentions.{with_taken_all}
use Rattle.codeco_printer.proofs.WrittenSound.{merged_all}
use Rattle.codeco_printer.proofs.SoundNumbers.{feat_below, atom_below, feats_below, all_feats_below}
use Rattle.codeco_printer.proofs.Tables.{among_at}
use Rattle.codeco_printer.proofs.RuleBack.{feature_names}

abbrev pub is_feature : GrammarParts → List ℕ → Bool
is_feature g w = is_among (feature_names g) w

abbrev number_below : GrammarParts → ℕ × WrittenTerm → Bool
number_below g f = ltb f.0 (length g.features)

abbrev feature_below : GrammarParts → ℕ × Term → Bool
feature_below g f = ltb f.0 (length g.features)

abbrev has_numbers_below : GrammarParts → Category → Bool
has_numbers_below g c = list_all (feature_below g) c.feats

abbrev has_features : GrammarParts → WrittenCategory → Bool
has_features g c = list_all (is_feature g) (category_features c)

names_written : (g : GrammarParts) (fs : List (ℕ × WrittenTerm)) → list_all (number_below g) fs ≡ true
    → list_all (is_feature g) (map (λ f. f.name) (with_names g fs)) ≡ true
names_written g [] h = refl
names_written g (f ∷ fs) h =
    let parts = and_parts (number_below g f) (list_all (number_below g) fs) h in
    let lt = ltb-true f.0 (length g.features) parts.0 in
    let len : length (feature_names g) ≡ length g.features = length-map g.features (λ x. x.name) in
    and_from (is_feature g (feature_name g.features f.0)) (list_all (is_feature g) (map (λ x. x.name) (with_names g fs)))
    (among_at (feature_names g) f.0 (omega arith)) (names_written g fs parts.1)

plain_numbers : (g : GrammarParts) (fs : List (ℕ × Term)) → list_all (feature_below g) fs ≡ true → list_all (number_below g) (plain_terms g fs) ≡ true
plain_numbers g fs h = all-map (number_below g) (λ (f : ℕ × Term). (f.0, written_term g f.1)) fs ∙ h

taken_numbers : (g : GrammarParts) (ts : List (ℕ × ℕ)) → list_all (λ t. feature_below g (t.0, Var t.1)) ts ≡ true
    → list_all (number_below g) (taken_terms ts) ≡ true
taken_numbers g ts h = all-map (number_below g) (λ (t : ℕ × ℕ). (t.0, term.Taken (letter t.1))) ts ∙ h

category_written : (g : GrammarParts) (c : Category) → has_numbers_below g c ≡ true → has_features g (written_category g c) ≡ true
category_written g c h = names_written g (plain_terms g c.feats) (plain_numbers g c.feats h)

pattern_written : (g : GrammarParts) (p : Pattern) → has_numbers_below g (whole p) ≡ true → has_features g (written_pattern g p) ≡ true
pattern_written g p h =
    let parts = with_taken_all (feature_below g) p.cat.feats p.taken h in
    names_written g (merged (plain_terms g p.cat.feats) (taken_terms p.taken))
    (merged_all (number_below g) (plain_terms g p.cat.feats) (taken_terms p.taken) (plain_numbers g p.cat.feats parts.0) (taken_numbers g p.taken parts.1))

patterns_written : (g : GrammarParts) (ps : List Pattern) → list_all (has_numbers_below g) (map whole ps) ≡ true
    → list_all (has_features g) (map (written_pattern g) ps) ≡ true
patterns_written g [] h = refl
patterns_written g (p ∷ ps) h =
    let parts = and_parts (has_numbers_below g (whole p)) (list_all (has_numbers_below g) (map whole ps)) h in
    and_from (has_features g (written_pattern g p)) (list_all (has_features g) (map (written_pattern g) ps)) (pattern_written g p parts.0)
    (patterns_written g ps parts.1)

one_written : (g : GrammarParts) (c : Category) → list_all (has_numbers_below g) (c ∷ []) ≡ true → list_all (has_features g) (written_category g c ∷ []) ≡ true
one_written g c h = and_from (has_features g (written_category g c)) true (category_written g c (and_parts (has_numbers_below g c) true h).0) refl

element_written : (g : GrammarParts) (e : Element) → list_all (has_numbers_below g) (mentions e) ≡ true
    → list_all (has_features g) (element_categories (written_element g e)) ≡ true
element_written g (Terminal t) h = refl
element_written g (Preterminal c) h = one_written g c h
element_written g (Sub c) h = one_written g c h
element_written g (Position x) h = refl
element_written g Opener h = refl
element_written g (Forward c) h = one_written g c h
element_written g (Strong c) h = one_written g c h
element_written g (Back ps ns) h =
    let parts = all_split (has_numbers_below g) (map whole ps) (map whole ns) h in
    all_append (has_features g) (map (written_pattern g) ps) (map (written_pattern g) ns) (patterns_written g ps parts.0) (patterns_written g ns parts.1)
element_written g (NoBack ps) h = patterns_written g ps h

body_written : (g : GrammarParts) (es : List Element) → list_all (has_numbers_below g) (flat_map mentions es) ≡ true
    → list_all (has_features g) (flat_map element_categories (map (written_element g) es)) ≡ true
body_written g [] h = refl
body_written g (e ∷ es) h =
    let parts = all_split (has_numbers_below g) (mentions e) (flat_map mentions es) h in
    all_append (has_features g) (element_categories (written_element g e)) (flat_map element_categories (map (written_element g) es))
    (element_written g e parts.0) (body_written g es parts.1)

written_features-written_rule : (g : GrammarParts) (r : Rule) → feats_below g r ≡ true → list_all (is_feature g) (written_features (written_rule g r)) ≡ true
written_features-written_rule g r h =
    let below = all_weaken (feat_below g) (feature_below g) (λ f q. (and_parts (ltb f.0 (length g.features)) (atom_below g f.1) q).0) (rule_features r) h in
    let each = all_flat (feature_below g) (λ c. c.feats) (rule_mentions r) below in
    let parts = and_parts (has_numbers_below g r.head) (list_all (has_numbers_below g) (flat_map mentions r.body)) each in
    flat_all (is_feature g) category_features (written_category g r.head ∷ flat_map element_categories (map (written_element g) r.body))
    (and_from (has_features g (written_category g r.head)) (list_all (has_features g) (flat_map element_categories (map (written_element g) r.body)))
    (category_written g r.head parts.0) (body_written g r.body parts.1))

rules_written_below : (g : GrammarParts) (rs : List Rule) → list_all (feats_below g) rs ≡ true
    → list_all (is_feature g) (flat_map written_features (map (written_rule g) rs)) ≡ true
rules_written_below g [] h = refl
rules_written_below g (r ∷ rs) h =
    let parts = and_parts (feats_below g r) (list_all (feats_below g) rs) h in
    all_append (is_feature g) (written_features (written_rule g r)) (flat_map written_features (map (written_rule g) rs))
    (written_features-written_rule g r parts.0)
    (rules_written_below g rs parts.1)

-- the features that a sound grammar's rules write are among its features
pub features_are_declared : (g : GrammarParts) → IsSound g → list_all (is_feature g) (flat_map written_features (map (written_rule g) g.rules)) ≡ true
features_are_declared g s = rules_written_below g g.rules (all_feats_below g s)
