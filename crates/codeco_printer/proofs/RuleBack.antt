-- A rule that is written with names has its numbers again when its names are numbered.
use Rattle.std.proofs.Common.{◌≡◌, ℕ, ◌+◌, ◌-◌, ◌<◌, ◌≤◌, Bool, true, not, ◌&&◌, ltb, leb, List, [], ◌∷◌, ◌++◌, map, length, take, drop, Option, Some, None, refl, sym, ap, ◌∙◌, arith}
use Rattle.std.specs.Option.{option_map}
use Rattle.std.specs.List.{list_all, flat_map}
use Rattle.std.proofs.lemmas.List.{append-nil, map-append, length-map, length-drop, get_or-drop, get_or-take}
use Rattle.std.proofs.lemmas.List.Concat.{flat_map-append}
use Rattle.std.proofs.lemmas.Bool.{and_parts, and_from, ltb-true, leb-true}
use Rattle.std.proofs.lemmas.List.Folds.{list_all-map as all-map}
use Rattle.codeco_terms.specs.declared.values.Value.TheVariants.{Atom, Word, Pos}
use Rattle.codeco_terms.specs.declared.values.Term.{Term}
use Rattle.codeco_terms.specs.declared.values.Term.TheVariants.{Val, Var}
use Rattle.codeco_terms.specs.declared.categories.Category.{Category}
use Rattle.codeco_terms.specs.declared.categories.Pattern.{Pattern}
use Rattle.codeco_terms.specs.declared.elements.Element.{Element}
use Rattle.codeco_terms.specs.declared.elements.Element.TheVariants.{Terminal, Preterminal, Sub, Position, Opener, Forward, Strong, Back, NoBack}
use Rattle.codeco_terms.specs.declared.rules.Label.{Label}
use Rattle.codeco_terms.specs.declared.rules.Label.TheVariants as label
use Rattle.codeco_terms.specs.declared.rules.Rule.{Rule}
use Rattle.codeco_terms.specs.GrammarParts.{GrammarParts}
use Rattle.codeco_text.specs.declared.written.WrittenTerm.{WrittenTerm}
use Rattle.codeco_text.specs.declared.written.WrittenTerm.TheVariants as term
use Rattle.codeco_text.specs.Notation.{kinds, is_marked}
use Rattle.codeco_checked.specs.Occurrences.{with_taken, whole, mentions, category_variables, positions, element_variables, rule_variables, element_terminals}
use Rattle.codeco_checked.specs.Numbering.{count_different, differ, variables_count_up}
use Rattle.codeco_checked.specs.Sound.{ascends, is_empty, is_written, is_written_name, is_written_pattern, is_plain_pattern, is_written_element, is_written_rule, is_written_term}
use Rattle.codeco_printer.specs.Unnumbered.{name_at, feature_name, letter, written_term, plain_terms, taken_terms, below, from, merged, with_names, written_category, written_pattern, written_element, written_rule}
use Rattle.codeco_numbering.specs.Labels.{label_name}
use Rattle.codeco_numbering.specs.Numbered.{number_of, in_order, ordered, category_names, Tables, numbered_term, plain_feats, taken_feats, numbered_category, numbered_preterminal, numbered_pattern, numbered_element, element_names, gathered, variable_names, numbered_label, numbered_rule}
use Rattle.wiki_base.proofs.ListLaws.{all_split, all_flat, all_weaken}
use Rattle.codeco_printer.proofs.CategoriesBack.{plain_number}
use Rattle.codeco_numbering.proofs.Sound.Mentions.{with_taken_all}
use Rattle.codeco_printer.proofs.WrittenSound.{below_all, from_all, merged_all, term_unmarked}
use Rattle.codeco_printer.proofs.SoundNumbers.{term_fine, feat_fine, category_fine, names_below, feats_below, terminals_below, few_variables, is_fine, positions_fine, mentions_fine}
use Rattle.codeco_printer.proofs.Tables.{number_at, sixteen, variable_number, gathered_letters}
use Rattle.codeco_printer.proofs.Ordered.{in_order_rises, rises_merged, plain_rises, taken_rises, names_of, plain_letters, pattern_letters, below_from}

abbrev pub feature_names : GrammarParts → List (List ℕ)
feature_names g = map (λ f. f.name) g.features

-- no name stands twice in a table, and the preterminals have the first numbers
pub record Differs (g : GrammarParts) : Type 0 where
  pub features : differ (feature_names g) ≡ true
  pub atoms : differ g.atoms ≡ true
  pub terminals : differ g.terminals ≡ true
  pub preterminals : take 5 g.categories ≡ kinds
  pub categories : differ (drop 5 g.categories) ≡ true

-- the tables of a rule with k variables
abbrev pub tables : GrammarParts → ℕ → Tables
tables g k = record { features = feature_names g; atoms = g.atoms; terminals = g.terminals; categories = drop 5 g.categories; variables = take k sixteen }

abbrev numbers_below : GrammarParts → List (ℕ × WrittenTerm) → Bool
numbers_below g fs = list_all (λ f. ltb f.0 (length g.features)) fs

-- Features

renumbered : (g : GrammarParts) → Differs g → (fs : List (ℕ × WrittenTerm)) → numbers_below g fs ≡ true
    → map (λ f. (number_of (feature_names g) f.name, f.term)) (with_names g fs) ≡ fs
renumbered g d [] h = refl
renumbered g d (f ∷ fs) h =
    let parts = and_parts (ltb f.0 (length g.features)) (numbers_below g fs) h in
    let lt = ltb-true f.0 (length g.features) parts.0 in
    let len : length (feature_names g) ≡ length g.features = length-map g.features (λ x. x.name) in
    let here : number_of (feature_names g) (feature_name g.features f.0) ≡ f.0 = number_at (feature_names g) f.0 d.features (omega arith) in
    let rest : List (ℕ × WrittenTerm) = map (λ x. (number_of (feature_names g) x.name, x.term)) (with_names g fs) in
    let pair : ℕ → ℕ × WrittenTerm = λ n. (n, f.1) in
    ap (λ (n : ℕ). pair n ∷ rest) here ∙ ap (λ (x : List (ℕ × WrittenTerm)). f ∷ x) (renumbered g d fs parts.1)

plain_below : (g : GrammarParts) (k : ℕ) (fs : List (ℕ × Term)) → list_all (feat_fine g k) fs ≡ true → numbers_below g (plain_terms g fs) ≡ true
plain_below g k fs h = all-map (λ f. ltb f.0 (length g.features)) (λ (f : ℕ × Term). (f.0, written_term g f.1)) fs
    ∙ all_weaken (feat_fine g k) (λ f. ltb f.0 (length g.features)) (λ f q. (and_parts (ltb f.0 (length g.features)) (term_fine g k f.1) q).0) fs h

taken_below : (g : GrammarParts) (k : ℕ) (ts : List (ℕ × ℕ)) → list_all (λ t. feat_fine g k (t.0, Var t.1)) ts ≡ true → numbers_below g (taken_terms ts) ≡ true
taken_below g k ts h = all-map (λ f. ltb f.0 (length g.features)) (λ (t : ℕ × ℕ). (t.0, term.Taken (letter t.1))) ts
    ∙ all_weaken (λ t. feat_fine g k (t.0, Var t.1)) (λ t. ltb t.0 (length g.features)) (λ t q. (and_parts (ltb t.0 (length g.features)) (ltb t.1 k) q).0) ts h

category_ordered : (g : GrammarParts) (k : ℕ) (c : Category) → Differs g → list_all (feat_fine g k) c.feats ≡ true → ascends (map (λ f. f.0) c.feats) ≡ true
    → ordered (feature_names g) (written_category g c) ≡ plain_terms g c.feats
category_ordered g k c d h a =
    ap in_order (renumbered g d (plain_terms g c.feats) (plain_below g k c.feats h)) ∙ in_order_rises 0 (plain_terms g c.feats) (plain_rises g c.feats a)

pattern_ordered : (g : GrammarParts) (k : ℕ) (p : Pattern) → Differs g → list_all (feat_fine g k) p.cat.feats ≡ true
    → list_all (λ t. feat_fine g k (t.0, Var t.1)) p.taken ≡ true → ascends (map (λ f. f.0) p.cat.feats) ≡ true → ascends (map (λ t. t.0) p.taken) ≡ true
    → ordered (feature_names g) (written_pattern g p) ≡ merged (plain_terms g p.cat.feats) (taken_terms p.taken)
pattern_ordered g k p d h t a b =
    let all = merged (plain_terms g p.cat.feats) (taken_terms p.taken) in
    ap in_order (renumbered g d all (merged_all (λ f. ltb f.0 (length g.features)) (plain_terms g p.cat.feats) (taken_terms p.taken)
    (plain_below g k p.cat.feats h) (taken_below g k p.taken t)))
    ∙ in_order_rises 0 all (rises_merged 0 (plain_terms g p.cat.feats) (taken_terms p.taken) (plain_rises g p.cat.feats a) (taken_rises p.taken b))

plain_cons : (g : GrammarParts) (k n : ℕ) (t : Term) (fs : List (ℕ × WrittenTerm)) → Differs g → k ≤ 16 → term_fine g k t ≡ true
    → plain_feats (tables g k) ((n, written_term g t) ∷ fs) ≡ (n, t) ∷ plain_feats (tables g k) fs
plain_cons g k n (Val (Atom a)) fs d most h =
    let cons : ℕ → List (ℕ × Term) = λ m. (n, Val (Atom m)) ∷ plain_feats (tables g k) fs in
    ap cons (number_at g.atoms a d.atoms (ltb-true a (length g.atoms) h))
plain_cons g k n (Val (Word w)) fs d most h = absurd cc
plain_cons g k n (Val (Pos p)) fs d most h = absurd cc
plain_cons g k n (Var x) fs d most h =
    let cons : ℕ → List (ℕ × Term) = λ m. (n, Var m) ∷ plain_feats (tables g k) fs in
    ap cons (variable_number k x most (ltb-true x k h))

plain_back : (g : GrammarParts) (k : ℕ) (fs : List (ℕ × Term)) → Differs g → k ≤ 16 → list_all (feat_fine g k) fs ≡ true
    → plain_feats (tables g k) (plain_terms g fs) ≡ fs
plain_back g k [] d most h = refl
plain_back g k (f ∷ fs) d most h =
    let parts = and_parts (feat_fine g k f) (list_all (feat_fine g k) fs) h in
    let here = and_parts (ltb f.0 (length g.features)) (term_fine g k f.1) parts.0 in
    plain_cons g k f.0 f.1 (plain_terms g fs) d most here.1 ∙ ap (λ (x : List (ℕ × Term)). f ∷ x) (plain_back g k fs d most parts.1)

plain_append : (t : Tables) (xs ys : List (ℕ × WrittenTerm)) → plain_feats t (xs ++ ys) ≡ plain_feats t xs ++ plain_feats t ys
plain_append t [] ys = refl
plain_append t ((n, term.Atom w) ∷ xs) ys = ap (λ (x : List (ℕ × Term)). (n, numbered_term t (term.Atom w)) ∷ x) (plain_append t xs ys)
plain_append t ((n, term.Variable w) ∷ xs) ys = ap (λ (x : List (ℕ × Term)). (n, numbered_term t (term.Variable w)) ∷ x) (plain_append t xs ys)
plain_append t ((n, term.Taken w) ∷ xs) ys = plain_append t xs ys

taken_append : (t : Tables) (xs ys : List (ℕ × WrittenTerm)) → taken_feats t (xs ++ ys) ≡ taken_feats t xs ++ taken_feats t ys
taken_append t [] ys = refl
taken_append t ((n, term.Atom w) ∷ xs) ys = taken_append t xs ys
taken_append t ((n, term.Variable w) ∷ xs) ys = taken_append t xs ys
taken_append t ((n, term.Taken w) ∷ xs) ys = ap (λ (x : List (ℕ × ℕ)). (n, number_of t.variables w) ∷ x) (taken_append t xs ys)

abbrev marked : ℕ × WrittenTerm → Bool
marked f = is_marked f.1

abbrev unmarked : ℕ × WrittenTerm → Bool
unmarked f = not (is_marked f.1)

none_plain : (t : Tables) (xs : List (ℕ × WrittenTerm)) → list_all marked xs ≡ true → plain_feats t xs ≡ []
none_plain t [] h = refl
none_plain t ((n, term.Atom w) ∷ xs) h = absurd cc
none_plain t ((n, term.Variable w) ∷ xs) h = absurd cc
none_plain t ((n, term.Taken w) ∷ xs) h = none_plain t xs h

one_untaken : (t : Tables) (f : ℕ × WrittenTerm) (xs : List (ℕ × WrittenTerm)) → unmarked f ≡ true → taken_feats t (f ∷ xs) ≡ taken_feats t xs
one_untaken t (n, term.Atom w) xs h = refl
one_untaken t (n, term.Variable w) xs h = refl
one_untaken t (n, term.Taken w) xs h = absurd cc

plain_merged : (t : Tables) (fs ts : List (ℕ × WrittenTerm)) → list_all marked ts ≡ true → plain_feats t (merged fs ts) ≡ plain_feats t fs
plain_merged t [] ts h = none_plain t ts h
plain_merged t (f ∷ fs) ts h =
    let others = merged fs (from f.0 ts) in
    plain_append t (below f.0 ts) (f ∷ others)
    ∙ ap (λ (x : List (ℕ × Term)). x ++ plain_feats t (f ∷ others)) (none_plain t (below f.0 ts) (below_all marked f.0 ts h))
    ∙ plain_append t (f ∷ []) others
    ∙ ap (λ (x : List (ℕ × Term)). plain_feats t (f ∷ []) ++ x) (plain_merged t fs (from f.0 ts) (from_all marked f.0 ts h))
    ∙ sym (plain_append t (f ∷ []) fs)

none_taken : (t : Tables) (fs ts : List (ℕ × WrittenTerm)) → list_all unmarked fs ≡ true → taken_feats t (merged fs ts) ≡ taken_feats t ts
none_taken t [] ts h = refl
none_taken t (f ∷ fs) ts h =
    let parts = and_parts (unmarked f) (list_all unmarked fs) h in
    let others = merged fs (from f.0 ts) in
    taken_append t (below f.0 ts) (f ∷ others)
    ∙ ap (λ (x : List (ℕ × ℕ)). taken_feats t (below f.0 ts) ++ x) (one_untaken t f others parts.0 ∙ none_taken t fs (from f.0 ts) parts.1)
    ∙ sym (taken_append t (below f.0 ts) (from f.0 ts))
    ∙ ap (taken_feats t) (below_from f.0 ts)

taken_marked : (ts : List (ℕ × ℕ)) → list_all marked (taken_terms ts) ≡ true
taken_marked [] = refl
taken_marked (t ∷ ts) = taken_marked ts

plain_unmarked : (g : GrammarParts) (fs : List (ℕ × Term)) → list_all unmarked (plain_terms g fs) ≡ true
plain_unmarked g [] = refl
plain_unmarked g (f ∷ fs) = and_from (not (is_marked (written_term g f.1))) (list_all unmarked (plain_terms g fs)) (term_unmarked g f.1) (plain_unmarked g fs)

taken_back : (g : GrammarParts) (k : ℕ) (ts : List (ℕ × ℕ)) → k ≤ 16 → list_all (λ t. feat_fine g k (t.0, Var t.1)) ts ≡ true
    → taken_feats (tables g k) (taken_terms ts) ≡ ts
taken_back g k [] most h = refl
taken_back g k (t ∷ ts) most h =
    let parts = and_parts (feat_fine g k (t.0, Var t.1)) (list_all (λ u. feat_fine g k (u.0, Var u.1)) ts) h in
    let here = and_parts (ltb t.0 (length g.features)) (ltb t.1 k) parts.0 in
    let cons : ℕ → List (ℕ × ℕ) = λ m. (t.0, m) ∷ taken_feats (tables g k) (taken_terms ts) in
    ap cons (variable_number k t.1 most (ltb-true t.1 k here.1)) ∙ ap (λ (x : List (ℕ × ℕ)). t ∷ x) (taken_back g k ts most parts.1)

-- Categories

-- a category that is no preterminal has its number among the others
name_back : (g : GrammarParts) (n : ℕ) → Differs g → 5 ≤ n → n < length g.categories → 5 + number_of (drop 5 g.categories) (name_at g.categories n) ≡ n
name_back g n d low lt =
    let others = drop 5 g.categories in
    let len : length others ≡ length g.categories - 5 = length-drop 5 g.categories in
    let same : 5 + (n - 5) ≡ n = omega arith in
    let there : name_at others (n - 5) ≡ name_at g.categories n = get_or-drop 5 g.categories (n - 5) [] ∙ ap (name_at g.categories) same in
    let number : number_of others (name_at others (n - 5)) ≡ n - 5 = number_at others (n - 5) d.categories (omega arith) in
    ap (λ (w : List ℕ). 5 + number_of others w) (sym there) ∙ (ap (λ (m : ℕ). 5 + m) number ∙ same)

kind_back : (g : GrammarParts) (n : ℕ) → Differs g → ltb n 5 ≡ true → number_of kinds (name_at g.categories n) ≡ n
kind_back g n d low =
    let lt = ltb-true n 5 low in
    let there : name_at kinds n ≡ name_at g.categories n =
    ap (λ (ws : List (List ℕ)). name_at ws n) (sym d.preterminals) ∙ get_or-take 5 g.categories n [] lt in
    ap (number_of kinds) (sym there) ∙ number_at kinds n refl lt

name_ascends : (c : Category) → is_written_name c ≡ true → ascends (map (λ f. f.0) c.feats) ≡ true
name_ascends c h = (and_parts (ascends (map (λ f. f.0) c.feats)) (list_all (λ f. is_written_term f.1) c.feats) (and_parts (leb 5 c.name) (is_written c) h).1).0

feats_back : (g : GrammarParts) (k : ℕ) (c : Category) → Differs g → k ≤ 16 → list_all (feat_fine g k) c.feats ≡ true → ascends (map (λ f. f.0) c.feats) ≡ true
    → plain_feats (tables g k) (ordered (feature_names g) (written_category g c)) ≡ c.feats
feats_back g k c d most h a = ap (plain_feats (tables g k)) (category_ordered g k c d h a) ∙ plain_back g k c.feats d most h

category_back : (g : GrammarParts) (k : ℕ) (c : Category) → Differs g → k ≤ 16 → category_fine g k c ≡ true → is_written_name c ≡ true
    → numbered_category (tables g k) (written_category g c) ≡ c
category_back g k c d most h w =
    let parts = and_parts (ltb c.name (length g.categories)) (list_all (feat_fine g k) c.feats) h in
    let name = name_back g c.name d (plain_number c w) (ltb-true c.name (length g.categories) parts.0) in
    let made : ℕ → List (ℕ × Term) → Category = λ n fs. record { name = n; feats = fs } in
    ap (λ (n : ℕ). made n (plain_feats (tables g k) (ordered (feature_names g) (written_category g c)))) name
    ∙ ap (made c.name) (feats_back g k c d most parts.1 (name_ascends c w))

preterminal_back : (g : GrammarParts) (k : ℕ) (c : Category) → Differs g → k ≤ 16 → category_fine g k c ≡ true → is_written_element (Preterminal c) ≡ true
    → numbered_preterminal (tables g k) (written_category g c) ≡ c
preterminal_back g k c d most h w =
    let parts = and_parts (ltb c.name (length g.categories)) (list_all (feat_fine g k) c.feats) h in
    let ws = and_parts (ltb c.name 5) (is_written c) w in
    let a = (and_parts (ascends (map (λ f. f.0) c.feats)) (list_all (λ f. is_written_term f.1) c.feats) ws.1).0 in
    let made : ℕ → List (ℕ × Term) → Category = λ n fs. record { name = n; feats = fs } in
    ap (λ (n : ℕ). made n (plain_feats (tables g k) (ordered (feature_names g) (written_category g c)))) (kind_back g c.name d ws.0)
    ∙ ap (made c.name) (feats_back g k c d most parts.1 a)

pattern_feats : (g : GrammarParts) (k : ℕ) (p : Pattern) → category_fine g k (whole p) ≡ true
    → (list_all (feat_fine g k) p.cat.feats ≡ true) × (list_all (λ t. feat_fine g k (t.0, Var t.1)) p.taken ≡ true)
pattern_feats g k p h = with_taken_all (feat_fine g k) p.cat.feats p.taken
    (and_parts (ltb p.cat.name (length g.categories)) (list_all (feat_fine g k) (with_taken p.cat.feats p.taken)) h).1

pattern_back : (g : GrammarParts) (k : ℕ) (p : Pattern) → Differs g → k ≤ 16 → category_fine g k (whole p) ≡ true → is_written_pattern p ≡ true
    → numbered_pattern (tables g k) (written_pattern g p) ≡ p
pattern_back g k p d most h w =
    let parts = and_parts (ltb p.cat.name (length g.categories)) (list_all (feat_fine g k) (with_taken p.cat.feats p.taken)) h in
    let fine = pattern_feats g k p h in
    let ws = and_parts (is_written_name p.cat) (ascends (map (λ t. t.0) p.taken)) w in
    let order = pattern_ordered g k p d fine.0 fine.1 (name_ascends p.cat ws.0) ws.1 in
    let all = merged (plain_terms g p.cat.feats) (taken_terms p.taken) in
    let name = name_back g p.cat.name d (plain_number p.cat ws.0) (ltb-true p.cat.name (length g.categories) parts.0) in
    let feats : plain_feats (tables g k) (ordered (feature_names g) (written_pattern g p)) ≡ p.cat.feats =
    ap (plain_feats (tables g k)) order ∙ plain_merged (tables g k) (plain_terms g p.cat.feats) (taken_terms p.taken) (taken_marked p.taken)
    ∙ plain_back g k p.cat.feats d most fine.0 in
    let taken : taken_feats (tables g k) (ordered (feature_names g) (written_pattern g p)) ≡ p.taken =
    ap (taken_feats (tables g k)) order ∙ none_taken (tables g k) (plain_terms g p.cat.feats) (taken_terms p.taken) (plain_unmarked g p.cat.feats)
    ∙ taken_back g k p.taken most fine.1 in
    let made : ℕ → List (ℕ × Term) → List (ℕ × ℕ) → Pattern = λ n fs ts. record { cat = record { name = n; feats = fs }; taken = ts } in
    let o = ordered (feature_names g) (written_pattern g p) in
    ap (λ (n : ℕ). made n (plain_feats (tables g k) o) (taken_feats (tables g k) o)) name
    ∙ ap (λ (fs : List (ℕ × Term)). made p.cat.name fs (taken_feats (tables g k) o)) feats
    ∙ ap (made p.cat.name p.cat.feats) taken

patterns_back : (g : GrammarParts) (k : ℕ) (ps : List Pattern) → Differs g → k ≤ 16 → list_all (category_fine g k) (map whole ps) ≡ true
    → list_all is_written_pattern ps ≡ true → map (numbered_pattern (tables g k)) (map (written_pattern g) ps) ≡ ps
patterns_back g k [] d most h w = refl
patterns_back g k (p ∷ ps) d most h w =
    let parts = and_parts (category_fine g k (whole p)) (list_all (category_fine g k) (map whole ps)) h in
    let ws = and_parts (is_written_pattern p) (list_all is_written_pattern ps) w in
    ap (λ (x : Pattern). x ∷ map (numbered_pattern (tables g k)) (map (written_pattern g) ps)) (pattern_back g k p d most parts.0 ws.0)
    ∙ ap (λ (x : List Pattern). p ∷ x) (patterns_back g k ps d most parts.1 ws.1)

none_ascends : (ts : List (ℕ × ℕ)) → is_empty ts ≡ true → ascends (map (λ t. t.0) ts) ≡ true
none_ascends [] h = refl
none_ascends (t ∷ ts) h = absurd cc

plain_is_written : (p : Pattern) → is_plain_pattern p ≡ true → is_written_pattern p ≡ true
plain_is_written p h =
    let parts = and_parts (is_written_name p.cat) (is_empty p.taken) h in
    and_from (is_written_name p.cat) (ascends (map (λ t. t.0) p.taken)) parts.0 (none_ascends p.taken parts.1)

-- Elements

abbrev element_fine : GrammarParts → ℕ → Element → Bool
element_fine g k e = (is_written_element e && list_all (category_fine g k) (mentions e))
    && (list_all (λ x. ltb x k) (positions e) && list_all (λ t. ltb t (length g.terminals)) (element_terminals e))

element_back : (g : GrammarParts) (k : ℕ) (e : Element) → Differs g → k ≤ 16 → is_written_element e ≡ true → list_all (category_fine g k) (mentions e) ≡ true
    → list_all (λ x. ltb x k) (positions e) ≡ true → list_all (λ t. ltb t (length g.terminals)) (element_terminals e) ≡ true
    → numbered_element (tables g k) (written_element g e) ≡ e
element_back g k (Terminal t) d most w m p t' =
    ap Terminal (number_at g.terminals t d.terminals (ltb-true t (length g.terminals) (and_parts (ltb t (length g.terminals)) true t').0))
element_back g k (Preterminal c) d most w m p t = ap Preterminal (preterminal_back g k c d most (and_parts (category_fine g k c) true m).0 w)
element_back g k (Sub c) d most w m p t = ap Sub (category_back g k c d most (and_parts (category_fine g k c) true m).0 w)
element_back g k (Position x) d most w m p t = ap Position (variable_number k x most (ltb-true x k (and_parts (ltb x k) true p).0))
element_back g k Opener d most w m p t = refl
element_back g k (Forward c) d most w m p t = ap Forward (category_back g k c d most (and_parts (category_fine g k c) true m).0 w)
element_back g k (Strong c) d most w m p t = ap Strong (category_back g k c d most (and_parts (category_fine g k c) true m).0 w)
element_back g k (Back ps ns) d most w m p t =
    let parts = all_split (category_fine g k) (map whole ps) (map whole ns) m in
    let ws = and_parts (not (is_empty ps) && list_all is_written_pattern ps) (list_all is_plain_pattern ns) w in
    let front = and_parts (not (is_empty ps)) (list_all is_written_pattern ps) ws.0 in
    ap (λ (x : List Pattern). Back x (map (numbered_pattern (tables g k)) (map (written_pattern g) ns))) (patterns_back g k ps d most parts.0 front.1)
    ∙ ap (λ (x : List Pattern). Back ps x) (patterns_back g k ns d most parts.1 (all_weaken is_plain_pattern is_written_pattern plain_is_written ns ws.1))
element_back g k (NoBack ps) d most w m p t =
    let ws = and_parts (not (is_empty ps)) (list_all is_plain_pattern ps) w in
    ap NoBack (patterns_back g k ps d most m (all_weaken is_plain_pattern is_written_pattern plain_is_written ps ws.1))

body_back : (g : GrammarParts) (k : ℕ) (es : List Element) → Differs g → k ≤ 16 → list_all is_written_element es ≡ true
    → list_all (λ e. list_all (category_fine g k) (mentions e)) es ≡ true → list_all (λ e. list_all (λ x. ltb x k) (positions e)) es ≡ true
    → list_all (λ e. list_all (λ t. ltb t (length g.terminals)) (element_terminals e)) es ≡ true
    → map (numbered_element (tables g k)) (map (written_element g) es) ≡ es
body_back g k [] d most w m p t = refl
body_back g k (e ∷ es) d most w m p t =
    let ws = and_parts (is_written_element e) (list_all is_written_element es) w in
    let ms = and_parts (list_all (category_fine g k) (mentions e)) (list_all (λ x. list_all (category_fine g k) (mentions x)) es) m in
    let ps = and_parts (list_all (λ x. ltb x k) (positions e)) (list_all (λ y. list_all (λ x. ltb x k) (positions y)) es) p in
    let ts = and_parts (list_all (λ x. ltb x (length g.terminals)) (element_terminals e))
    (list_all (λ y. list_all (λ x. ltb x (length g.terminals)) (element_terminals y)) es) t in
    ap (λ (x : Element). x ∷ map (numbered_element (tables g k)) (map (written_element g) es)) (element_back g k e d most ws.0 ms.0 ps.0 ts.0)
    ∙ ap (λ (x : List Element). e ∷ x) (body_back g k es d most ws.1 ms.1 ps.1 ts.1)

-- Variables

category_letters : (g : GrammarParts) (k : ℕ) (c : Category) → Differs g → category_fine g k c ≡ true → ascends (map (λ f. f.0) c.feats) ≡ true
    → category_names (feature_names g) (written_category g c) ≡ map letter (category_variables c)
category_letters g k c d h a =
    let parts = and_parts (ltb c.name (length g.categories)) (list_all (feat_fine g k) c.feats) h in
    ap names_of (category_ordered g k c d parts.1 a) ∙ plain_letters g c.feats

patterns_letters : (g : GrammarParts) (k : ℕ) (ps : List Pattern) → Differs g → list_all (category_fine g k) (map whole ps) ≡ true
    → list_all is_written_pattern ps ≡ true
    → flat_map (category_names (feature_names g)) (map (written_pattern g) ps) ≡ map letter (flat_map category_variables (map whole ps))
patterns_letters g k [] d h w = refl
patterns_letters g k (p ∷ ps) d h w =
    let parts = and_parts (category_fine g k (whole p)) (list_all (category_fine g k) (map whole ps)) h in
    let ws = and_parts (is_written_pattern p) (list_all is_written_pattern ps) w in
    let fine = pattern_feats g k p parts.0 in
    let here = and_parts (is_written_name p.cat) (ascends (map (λ t. t.0) p.taken)) ws.0 in
    let first : category_names (feature_names g) (written_pattern g p) ≡ map letter (category_variables (whole p)) =
    ap names_of (pattern_ordered g k p d fine.0 fine.1 (name_ascends p.cat here.0) here.1) ∙ pattern_letters g p.cat.feats p.taken here.1 in
    ap (λ (x : List (List ℕ)). x ++ flat_map (category_names (feature_names g)) (map (written_pattern g) ps)) first
    ∙ ap (λ (x : List (List ℕ)). map letter (category_variables (whole p)) ++ x) (patterns_letters g k ps d parts.1 ws.1)
    ∙ sym (map-append letter (category_variables (whole p)) (flat_map category_variables (map whole ps)))

one_letters : (g : GrammarParts) (k : ℕ) (c : Category) → Differs g → list_all (category_fine g k) (c ∷ []) ≡ true → ascends (map (λ f. f.0) c.feats) ≡ true
    → category_names (feature_names g) (written_category g c) ≡ map letter (category_variables c ++ [])
one_letters g k c d m a = category_letters g k c d (and_parts (category_fine g k c) true m).0 a ∙ ap (map letter) (sym (append-nil (category_variables c)))

element_letters : (g : GrammarParts) (k : ℕ) (e : Element) → Differs g → is_written_element e ≡ true → list_all (category_fine g k) (mentions e) ≡ true
    → element_names (feature_names g) (written_element g e) ≡ map letter (element_variables e)
element_letters g k (Terminal t) d w m = refl
element_letters g k (Preterminal c) d w m =
    let ws = and_parts (ltb c.name 5) (is_written c) w in
    one_letters g k c d m (and_parts (ascends (map (λ f. f.0) c.feats)) (list_all (λ f. is_written_term f.1) c.feats) ws.1).0
element_letters g k (Sub c) d w m = one_letters g k c d m (name_ascends c w)
element_letters g k (Position x) d w m = refl
element_letters g k Opener d w m = refl
element_letters g k (Forward c) d w m = one_letters g k c d m (name_ascends c w)
element_letters g k (Strong c) d w m = one_letters g k c d m (name_ascends c w)
element_letters g k (Back ps ns) d w m =
    let parts = all_split (category_fine g k) (map whole ps) (map whole ns) m in
    let ws = and_parts (not (is_empty ps) && list_all is_written_pattern ps) (list_all is_plain_pattern ns) w in
    let front = and_parts (not (is_empty ps)) (list_all is_written_pattern ps) ws.0 in
    ap (λ (x : List (List ℕ)). x ++ flat_map (category_names (feature_names g)) (map (written_pattern g) ns)) (patterns_letters g k ps d parts.0 front.1)
    ∙ ap (λ (x : List (List ℕ)). map letter (flat_map category_variables (map whole ps)) ++ x)
    (patterns_letters g k ns d parts.1 (all_weaken is_plain_pattern is_written_pattern plain_is_written ns ws.1))
    ∙ sym (map-append letter (flat_map category_variables (map whole ps)) (flat_map category_variables (map whole ns)))
    ∙ ap (map letter) (sym (flat_map-append category_variables (map whole ps) (map whole ns)))
element_letters g k (NoBack ps) d w m =
    let ws = and_parts (not (is_empty ps)) (list_all is_plain_pattern ps) w in
    patterns_letters g k ps d m (all_weaken is_plain_pattern is_written_pattern plain_is_written ps ws.1)

body_letters : (g : GrammarParts) (k : ℕ) (es : List Element) → Differs g → list_all is_written_element es ≡ true
    → list_all (λ e. list_all (category_fine g k) (mentions e)) es ≡ true
    → flat_map (element_names (feature_names g)) (map (written_element g) es) ≡ map letter (flat_map element_variables es)
body_letters g k [] d w m = refl
body_letters g k (e ∷ es) d w m =
    let ws = and_parts (is_written_element e) (list_all is_written_element es) w in
    let ms = and_parts (list_all (category_fine g k) (mentions e)) (list_all (λ x. list_all (category_fine g k) (mentions x)) es) m in
    ap (λ (x : List (List ℕ)). x ++ flat_map (element_names (feature_names g)) (map (written_element g) es)) (element_letters g k e d ws.0 ms.0)
    ∙ ap (λ (x : List (List ℕ)). map letter (element_variables e) ++ x) (body_letters g k es d ws.1 ms.1)
    ∙ sym (map-append letter (element_variables e) (flat_map element_variables es))

-- Labels

label_back : (l : Label) → numbered_label (Some (label_name l)) ≡ Some l
label_back label.Statement = refl
label_back l = refl

option_label_back : (l : Option Label) → numbered_label (option_map label_name l) ≡ l
option_label_back None = refl
option_label_back (Some l) = label_back l

-- Rules

abbrev pub rule_tables : GrammarParts → List (List ℕ) → Tables
rule_tables g variables = record {
  features = feature_names g;
  atoms = g.atoms;
  terminals = g.terminals;
  categories = drop 5 g.categories;
  variables = variables;
}

pub rule_back : (g : GrammarParts) (r : Rule) → Differs g → is_fine g r ≡ true
    → numbered_rule (rule_tables g (variable_names (feature_names g) (written_rule g r))) (written_rule g r) ≡ r
rule_back g r d h =
    let k = count_different (rule_variables r) in
    let parts = and_parts (is_written_rule r && (few_variables r && variables_count_up r)) (names_below g r && (feats_below g r && terminals_below g r)) h in
    let front = and_parts (is_written_rule r) (few_variables r && variables_count_up r) parts.0 in
    let counts = and_parts (few_variables r) (variables_count_up r) front.1 in
    let back = and_parts (names_below g r) (feats_below g r && terminals_below g r) parts.1 in
    let more = and_parts (feats_below g r) (terminals_below g r) back.1 in
    let most : k ≤ 16 = leb-true k 16 counts.0 in
    let fine = mentions_fine g r counts.1 back.0 more.0 in
    let fines = and_parts (category_fine g k r.head) (list_all (category_fine g k) (flat_map mentions r.body)) fine in
    let ms = all_flat (category_fine g k) mentions r.body fines.1 in
    let ws = and_parts (is_written_name r.head) (list_all is_written_element r.body) front.0 in
    let ts = all_flat (λ t. ltb t (length g.terminals)) element_terminals r.body more.1 in
    let names : category_names (feature_names g) (written_category g r.head) ++ flat_map (element_names (feature_names g)) (map (written_element g) r.body)
    ≡ map letter (rule_variables r) =
    ap (λ (x : List (List ℕ)). x ++ flat_map (element_names (feature_names g)) (map (written_element g) r.body))
    (category_letters g k r.head d fines.0 (name_ascends r.head ws.0))
    ∙ ap (λ (x : List (List ℕ)). map letter (category_variables r.head) ++ x) (body_letters g k r.body d ws.1 ms)
    ∙ sym (map-append letter (category_variables r.head) (flat_map element_variables r.body)) in
    let variables : variable_names (feature_names g) (written_rule g r) ≡ take k sixteen =
    ap (gathered []) names ∙ gathered_letters k (rule_variables r) most counts.1 in
    let made : Option Label → Category → List Element → Rule = λ l c es. record { label = l; head = c; closing = r.closing; body = es } in
    let label = option_label_back r.label in
    let head = category_back g k r.head d most fines.0 ws.0 in
    let body = body_back g k r.body d most ws.1 ms (positions_fine r counts.1) ts in
    let c' = numbered_category (tables g k) (written_category g r.head) in
    let b' = map (numbered_element (tables g k)) (map (written_element g) r.body) in
    ap (λ (v : List (List ℕ)). numbered_rule (rule_tables g v) (written_rule g r)) variables
    ∙ ap (λ (l : Option Label). made l c' b') label
    ∙ ap (λ (c : Category). made r.label c b') head
    ∙ ap (made r.label r.head) body
