-- What is written for a sound grammar is spelled as the notation wants.
use Rattle.std.proofs.Common.{◌≡◌, ℕ, Bool, true, not, ◌&&◌, ltb, List, [], ◌∷◌, map, Option, Some, None, refl, ap, ◌∙◌, inl, inr}
use Rattle.std.specs.Option.{option_map}
use Rattle.std.specs.List.{list_all, flat_map}
use Rattle.std.proofs.lemmas.Bool.{and_parts, and_from, cases_Bool, cond-true, cond-false}
use Rattle.std.proofs.lemmas.List.Folds.{list_all-map as all-map}
use Rattle.codeco_terms.specs.declared.values.Term.{Term}
use Rattle.codeco_terms.specs.declared.values.Term.TheVariants.{Val, Var}
use Rattle.codeco_terms.specs.declared.categories.Category.{Category}
use Rattle.codeco_terms.specs.declared.categories.Pattern.{Pattern}
use Rattle.codeco_terms.specs.declared.elements.Element.{Element}
use Rattle.codeco_terms.specs.declared.elements.Element.TheVariants.{Terminal, Preterminal, Sub, Position, Opener, Forward, Strong, Back, NoBack}
use Rattle.codeco_terms.specs.declared.declarations.Declared.{Declared}
use Rattle.codeco_terms.specs.declared.declarations.Declared.TheVariants as declared
use Rattle.codeco_terms.specs.declared.declarations.Feature.{Feature}
use Rattle.codeco_terms.specs.declared.rules.Label.{Label}
use Rattle.codeco_terms.specs.declared.rules.Rule.{Rule}
use Rattle.codeco_terms.specs.GrammarParts.{GrammarParts}
use Rattle.codeco_text.specs.declared.written.WrittenTerm.{WrittenTerm}
use Rattle.codeco_text.specs.declared.written.WrittenFeat.{WrittenFeat}
use Rattle.codeco_text.specs.declared.written.WrittenItem.TheVariants as item
use Rattle.codeco_text.specs.Names.{is_identifier, is_variable, is_terminal, is_among}
use Rattle.codeco_text.specs.Notation.{kinds, is_marked, is_plain, element_fits, item_fits}
use Rattle.codeco_text.specs.Notation as notation
use Rattle.codeco_checked.specs.Occurrences.{with_taken, whole, mentions, rule_mentions, element_terminals, rule_terminals}
use Rattle.codeco_checked.specs.Numbering.{declared_atoms}
use Rattle.codeco_checked.specs.Sound.{IsSound, is_empty, is_written, is_written_name, is_written_pattern, is_plain_pattern, is_written_element, is_written_rule, has_values}
use Rattle.codeco_printer.specs.Unnumbered.{name_at, feature_name, letter, written_term, plain_terms, taken_terms, below, from, merged, with_names, written_category, written_pattern, written_element, written_rule, declaration, written_feature, written_of}
use Rattle.codeco_numbering.specs.Labels.{label_name}
use Rattle.codeco_numbering.proofs.Sound.Mentions.{with_taken_all}
use Rattle.wiki_base.proofs.ListLaws.{all_append, all_split, all_flat, flat_all, all_weaken, all_both}
use Rattle.codeco_printer.proofs.WriteLaws.{merged_none}
use Rattle.codeco_printer.proofs.SoundNames.{letter_variable, label_named, kind_named, term_named, feat_named, category_named, atoms_named, mentions_named, terminals_named}
use Rattle.codeco_numbering.proofs.Sound.Spelled.{term_spelled, feat_spelled, category_spelled, element_spelled, label_spelled, item_spelled}

-- Marked features among the others

pub below_all : (p : ℕ × WrittenTerm → Bool) (n : ℕ) (ts : List (ℕ × WrittenTerm)) → list_all p ts ≡ true → list_all p (below n ts) ≡ true
below_all p n [] h = refl
below_all p n (t ∷ ts) h =
    let parts = and_parts (p t) (list_all p ts) h in
    elim (cases_Bool (ltb t.0 n)) [
      | inl low ↦ ap (list_all p) (cond-true (ltb t.0 n) (t ∷ below n ts) [] low) ∙ and_from (p t) (list_all p (below n ts)) parts.0 (below_all p n ts parts.1)
      | inr high ↦ ap (list_all p) (cond-false (ltb t.0 n) (t ∷ below n ts) [] high)
    ]

pub from_all : (p : ℕ × WrittenTerm → Bool) (n : ℕ) (ts : List (ℕ × WrittenTerm)) → list_all p ts ≡ true → list_all p (from n ts) ≡ true
from_all p n [] h = refl
from_all p n (t ∷ ts) h =
    elim (cases_Bool (ltb t.0 n)) [
      | inl low ↦ ap (list_all p) (cond-true (ltb t.0 n) (from n ts) (t ∷ ts) low) ∙ from_all p n ts (and_parts (p t) (list_all p ts) h).1
      | inr high ↦ ap (list_all p) (cond-false (ltb t.0 n) (from n ts) (t ∷ ts) high) ∙ h
    ]

pub merged_all : (p : ℕ × WrittenTerm → Bool) (fs ts : List (ℕ × WrittenTerm)) → list_all p fs ≡ true → list_all p ts ≡ true → list_all p (merged fs ts) ≡ true
merged_all p [] ts h k = k
merged_all p (f ∷ fs) ts h k =
    let parts = and_parts (p f) (list_all p fs) h in
    all_append p (below f.0 ts) (f ∷ merged fs (from f.0 ts)) (below_all p f.0 ts k)
    (and_from (p f) (list_all p (merged fs (from f.0 ts))) parts.0 (merged_all p fs (from f.0 ts) parts.1 (from_all p f.0 ts k)))

-- Categories

abbrev pair_spelled : GrammarParts → ℕ × WrittenTerm → Bool
pair_spelled g f = is_identifier (feature_name g.features f.0) && term_spelled f.1

term_written : (g : GrammarParts) (t : Term) → term_named g t ≡ true → term_spelled (written_term g t) ≡ true
term_written g (Val v) h = h
term_written g (Var x) h = letter_variable x

plain_written : (g : GrammarParts) (feats : List (ℕ × Term)) → list_all (feat_named g) feats ≡ true → list_all (pair_spelled g) (plain_terms g feats) ≡ true
plain_written g [] h = refl
plain_written g (f ∷ fs) h =
    let parts = and_parts (feat_named g f) (list_all (feat_named g) fs) h in
    let here = and_parts (is_identifier (feature_name g.features f.0)) (term_named g f.1) parts.0 in
    and_from (is_identifier (feature_name g.features f.0) && term_spelled (written_term g f.1)) (list_all (pair_spelled g) (plain_terms g fs))
    (and_from (is_identifier (feature_name g.features f.0)) (term_spelled (written_term g f.1)) here.0 (term_written g f.1 here.1)) (plain_written g fs parts.1)

taken_written : (g : GrammarParts) (taken : List (ℕ × ℕ)) → list_all (λ t. feat_named g (t.0, Var t.1)) taken ≡ true
    → list_all (pair_spelled g) (taken_terms taken) ≡ true
taken_written g [] h = refl
taken_written g (t ∷ ts) h =
    let parts = and_parts (feat_named g (t.0, Var t.1)) (list_all (λ u. feat_named g (u.0, Var u.1)) ts) h in
    let here = and_parts (is_identifier (feature_name g.features t.0)) true parts.0 in
    and_from (is_identifier (feature_name g.features t.0) && is_variable (letter t.1)) (list_all (pair_spelled g) (taken_terms ts))
    (and_from (is_identifier (feature_name g.features t.0)) (is_variable (letter t.1)) here.0 (letter_variable t.1)) (taken_written g ts parts.1)

named_spelled : (g : GrammarParts) (fs : List (ℕ × WrittenTerm)) → list_all (pair_spelled g) fs ≡ true → list_all feat_spelled (with_names g fs) ≡ true
named_spelled g fs h = all-map feat_spelled (λ f. record { name = feature_name g.features f.0; term = f.1 }) fs ∙ h

category_written : (g : GrammarParts) (c : Category) → category_named g c ≡ true → category_spelled (written_category g c) ≡ true
category_written g c h =
    let parts = and_parts (is_identifier (name_at g.categories c.name)) (list_all (feat_named g) c.feats) h in
    and_from (is_identifier (name_at g.categories c.name)) (list_all feat_spelled (with_names g (plain_terms g c.feats))) parts.0
    (named_spelled g (plain_terms g c.feats) (plain_written g c.feats parts.1))

pattern_written : (g : GrammarParts) (p : Pattern) → category_named g (whole p) ≡ true → category_spelled (written_pattern g p) ≡ true
pattern_written g p h =
    let parts = and_parts (is_identifier (name_at g.categories p.cat.name)) (list_all (feat_named g) (with_taken p.cat.feats p.taken)) h in
    let feats = with_taken_all (feat_named g) p.cat.feats p.taken parts.1 in
    let all = merged (plain_terms g p.cat.feats) (taken_terms p.taken) in
    and_from (is_identifier (name_at g.categories p.cat.name)) (list_all feat_spelled (with_names g all)) parts.0
    (named_spelled g all (merged_all (pair_spelled g) (plain_terms g p.cat.feats) (taken_terms p.taken) (plain_written g p.cat.feats feats.0)
    (taken_written g p.taken feats.1)))

patterns_written : (g : GrammarParts) (ps : List Pattern) → list_all (category_named g) (map whole ps) ≡ true
    → list_all category_spelled (map (written_pattern g) ps) ≡ true
patterns_written g [] h = refl
patterns_written g (p ∷ ps) h =
    let parts = and_parts (category_named g (whole p)) (list_all (category_named g) (map whole ps)) h in
    and_from (category_spelled (written_pattern g p)) (list_all category_spelled (map (written_pattern g) ps)) (pattern_written g p parts.0)
    (patterns_written g ps parts.1)

-- Elements

abbrev terminal_named : GrammarParts → ℕ → Bool
terminal_named g t = is_terminal (name_at g.terminals t)

element_written : (g : GrammarParts) (e : Element) → IsSound g → is_written_element e ≡ true → list_all (category_named g) (mentions e) ≡ true
    → list_all (terminal_named g) (element_terminals e) ≡ true → element_spelled (written_element g e) ≡ true
element_written g (Terminal t) s w m t' = (and_parts (terminal_named g t) true t').0
element_written g (Preterminal c) s w m t =
    let here = and_parts (category_named g c) true m in
    let parts = and_parts (is_identifier (name_at g.categories c.name)) (list_all (feat_named g) c.feats) here.0 in
    let low = and_parts (ltb c.name 5) (is_written c) w in
    and_from (is_among kinds (name_at g.categories c.name)) (list_all feat_spelled (with_names g (plain_terms g c.feats)))
    (kind_named g.categories c.name s.numbered.first_categories low.0) (named_spelled g (plain_terms g c.feats) (plain_written g c.feats parts.1))
element_written g (Sub c) s w m t = category_written g c (and_parts (category_named g c) true m).0
element_written g (Position x) s w m t = letter_variable x
element_written g Opener s w m t = refl
element_written g (Forward c) s w m t = category_written g c (and_parts (category_named g c) true m).0
element_written g (Strong c) s w m t = category_written g c (and_parts (category_named g c) true m).0
element_written g (Back ps ns) s w m t =
    let parts = all_split (category_named g) (map whole ps) (map whole ns) m in
    and_from (list_all category_spelled (map (written_pattern g) ps)) (list_all category_spelled (map (written_pattern g) ns)) (patterns_written g ps parts.0)
    (patterns_written g ns parts.1)
element_written g (NoBack ps) s w m t = patterns_written g ps m

body_written : (g : GrammarParts) (es : List Element) → IsSound g → list_all is_written_element es ≡ true
    → list_all (λ e. list_all (category_named g) (mentions e)) es ≡ true → list_all (λ e. list_all (terminal_named g) (element_terminals e)) es ≡ true
    → list_all element_spelled (map (written_element g) es) ≡ true
body_written g [] s w m t = refl
body_written g (e ∷ es) s w m t =
    let ws = and_parts (is_written_element e) (list_all is_written_element es) w in
    let ms = and_parts (list_all (category_named g) (mentions e)) (list_all (λ x. list_all (category_named g) (mentions x)) es) m in
    let ts = and_parts (list_all (terminal_named g) (element_terminals e)) (list_all (λ x. list_all (terminal_named g) (element_terminals x)) es) t in
    and_from (element_spelled (written_element g e)) (list_all element_spelled (map (written_element g) es)) (element_written g e s ws.0 ms.0 ts.0)
    (body_written g es s ws.1 ms.1 ts.1)

label_written : (l : Option Label) → label_spelled (option_map label_name l) ≡ true
label_written None = refl
label_written (Some l) = label_named l

item_spelled-written_rule : (g : GrammarParts) (r : Rule) → IsSound g → is_written_rule r ≡ true → list_all (category_named g) (rule_mentions r) ≡ true
    → list_all (terminal_named g) (rule_terminals r) ≡ true → item_spelled (item.Rule (written_rule g r)) ≡ true
item_spelled-written_rule g r s w m t =
    let ws = and_parts (is_written_name r.head) (list_all is_written_element r.body) w in
    let ms = and_parts (category_named g r.head) (list_all (category_named g) (flat_map mentions r.body)) m in
    and_from (label_spelled (option_map label_name r.label))
    (category_spelled (written_category g r.head) && list_all element_spelled (map (written_element g) r.body)) (label_written r.label)
    (and_from (category_spelled (written_category g r.head)) (list_all element_spelled (map (written_element g) r.body)) (category_written g r.head ms.0)
    (body_written g r.body s ws.1 (all_flat (category_named g) mentions r.body ms.1) (all_flat (terminal_named g) element_terminals r.body t)))

-- Declarations

atoms_written : (g : GrammarParts) (atoms : List ℕ) → list_all (λ a. is_identifier (name_at g.atoms a)) atoms ≡ true
    → list_all is_identifier (map (name_at g.atoms) atoms) ≡ true
atoms_written g atoms h = all-map is_identifier (name_at g.atoms) atoms ∙ h

declaration_written : (g : GrammarParts) (name : List ℕ) (d : Declared) → is_identifier name ≡ true
    → list_all (λ a. is_identifier (name_at g.atoms a)) (declared_atoms d) ≡ true → list_all item_spelled (declaration g name d) ≡ true
declaration_written g name declared.Undeclared h k = refl
declaration_written g name declared.Words h k = and_from (is_identifier name && true) true (and_from (is_identifier name) true h refl) refl
declaration_written g name declared.Positions h k = and_from (is_identifier name && true) true (and_from (is_identifier name) true h refl) refl
declaration_written g name (declared.Atoms atoms) h k =
    and_from (is_identifier name && list_all is_identifier (map (name_at g.atoms) atoms)) true
    (and_from (is_identifier name) (list_all is_identifier (map (name_at g.atoms) atoms)) h (atoms_written g atoms k)) refl

-- the declarations and rules of a sound grammar have the names, variables and terminals of the notation
pub written_spelled : (g : GrammarParts) → IsSound g → list_all item_spelled (written_of g) ≡ true
written_spelled g s =
    let A : Rule → Bool = is_written_rule in
    let B : Rule → Bool = λ r. list_all (category_named g) (rule_mentions r) in
    let C : Rule → Bool = λ r. list_all (terminal_named g) (rule_terminals r) in
    let rules : list_all (λ r. item_spelled (item.Rule (written_rule g r))) g.rules ≡ true =
    all_weaken (λ r. (A r && B r) && C r) (λ r. item_spelled (item.Rule (written_rule g r)))
    (λ r h. let parts = and_parts (A r && B r) (C r) h in let front = and_parts (A r) (B r) parts.0 in item_spelled-written_rule g r s front.0 front.1 parts.1)
    g.rules (all_both (λ r. A r && B r) C g.rules (all_both A B g.rules s.written.rules (mentions_named g s)) (terminals_named g s)) in
    let P : Feature → Bool = λ f. is_identifier f.name in
    let Q : Feature → Bool = λ f. list_all (λ a. is_identifier (name_at g.atoms a)) (declared_atoms f.declared) in
    let declarations : list_all (λ f. list_all item_spelled (written_feature g f)) g.features ≡ true =
    all_weaken (λ f. P f && Q f) (λ f. list_all item_spelled (written_feature g f))
    (λ f h. let parts = and_parts (P f) (Q f) h in declaration_written g f.name f.declared parts.0 parts.1)
    g.features (all_both P Q g.features s.written.features (atoms_named g s)) in
    all_append item_spelled (flat_map (written_feature g) g.features) (map (λ r. item.Rule (written_rule g r)) g.rules)
    (flat_all item_spelled (written_feature g) g.features declarations)
    (all-map item_spelled (λ r. item.Rule (written_rule g r)) g.rules ∙ rules)

-- Marks, and patterns that references must have

pub term_unmarked : (g : GrammarParts) (t : Term) → not (is_marked (written_term g t)) ≡ true
term_unmarked g (Val v) = refl
term_unmarked g (Var x) = refl

plain_fits : (g : GrammarParts) (feats : List (ℕ × Term)) → list_all (λ f. not (is_marked f.term)) (with_names g (plain_terms g feats)) ≡ true
plain_fits g [] = refl
plain_fits g (f ∷ fs) = and_from (not (is_marked (written_term g f.1))) (list_all (λ h. not (is_marked h.term)) (with_names g (plain_terms g fs)))
    (term_unmarked g f.1) (plain_fits g fs)

none_taken : (g : GrammarParts) (feats : List (ℕ × Term)) (taken : List (ℕ × ℕ)) → is_empty taken ≡ true
    → list_all (λ f. not (is_marked f.term)) (with_names g (merged (plain_terms g feats) (taken_terms taken))) ≡ true
none_taken g feats [] h = ap (λ (x : List (ℕ × WrittenTerm)). list_all (λ (f : WrittenFeat). not (is_marked f.term)) (with_names g x))
    (merged_none (plain_terms g feats)) ∙ plain_fits g feats
none_taken g feats (t ∷ ts) h = absurd cc

plain_patterns : (g : GrammarParts) (ps : List Pattern) → list_all is_plain_pattern ps ≡ true → list_all is_plain (map (written_pattern g) ps) ≡ true
plain_patterns g [] h = refl
plain_patterns g (p ∷ ps) h =
    let parts = and_parts (is_plain_pattern p) (list_all is_plain_pattern ps) h in
    let here = and_parts (is_written_name p.cat) (is_empty p.taken) parts.0 in
    and_from (is_plain (written_pattern g p)) (list_all is_plain (map (written_pattern g) ps)) (none_taken g p.cat.feats p.taken here.1)
    (plain_patterns g ps parts.1)

some_patterns : (g : GrammarParts) (ps : List Pattern) → not (is_empty ps) ≡ true → not (notation.is_empty (map (written_pattern g) ps)) ≡ true
some_patterns g [] h = absurd cc
some_patterns g (p ∷ ps) h = refl

element_written_fits : (g : GrammarParts) (e : Element) → is_written_element e ≡ true → element_fits (written_element g e) ≡ true
element_written_fits g (Terminal t) h = refl
element_written_fits g (Preterminal c) h = plain_fits g c.feats
element_written_fits g (Sub c) h = plain_fits g c.feats
element_written_fits g (Position x) h = refl
element_written_fits g Opener h = refl
element_written_fits g (Forward c) h = plain_fits g c.feats
element_written_fits g (Strong c) h = plain_fits g c.feats
element_written_fits g (Back ps ns) h =
    let parts = and_parts (not (is_empty ps) && list_all is_written_pattern ps) (list_all is_plain_pattern ns) h in
    let front = and_parts (not (is_empty ps)) (list_all is_written_pattern ps) parts.0 in
    and_from (not (notation.is_empty (map (written_pattern g) ps))) (list_all is_plain (map (written_pattern g) ns)) (some_patterns g ps front.0)
    (plain_patterns g ns parts.1)
element_written_fits g (NoBack ps) h =
    let parts = and_parts (not (is_empty ps)) (list_all is_plain_pattern ps) h in
    and_from (not (notation.is_empty (map (written_pattern g) ps))) (list_all is_plain (map (written_pattern g) ps)) (some_patterns g ps parts.0)
    (plain_patterns g ps parts.1)

body_fits : (g : GrammarParts) (es : List Element) → list_all is_written_element es ≡ true → list_all element_fits (map (written_element g) es) ≡ true
body_fits g [] h = refl
body_fits g (e ∷ es) h =
    let parts = and_parts (is_written_element e) (list_all is_written_element es) h in
    and_from (element_fits (written_element g e)) (list_all element_fits (map (written_element g) es)) (element_written_fits g e parts.0)
    (body_fits g es parts.1)

rule_fits : (g : GrammarParts) (r : Rule) → is_written_rule r ≡ true → item_fits (item.Rule (written_rule g r)) ≡ true
rule_fits g r h =
    let parts = and_parts (is_written_name r.head) (list_all is_written_element r.body) h in
    and_from (is_plain (written_category g r.head)) (list_all element_fits (map (written_element g) r.body)) (plain_fits g r.head.feats)
    (body_fits g r.body parts.1)

some_atoms : (g : GrammarParts) (atoms : List ℕ) → not (is_empty atoms) ≡ true → not (notation.is_empty (map (name_at g.atoms) atoms)) ≡ true
some_atoms g [] h = absurd cc
some_atoms g (a ∷ as') h = refl

declaration_fits : (g : GrammarParts) (name : List ℕ) (d : Declared) → has_values d ≡ true → list_all item_fits (declaration g name d) ≡ true
declaration_fits g name declared.Undeclared h = refl
declaration_fits g name declared.Words h = refl
declaration_fits g name declared.Positions h = refl
declaration_fits g name (declared.Atoms atoms) h = and_from (not (notation.is_empty (map (name_at g.atoms) atoms))) true (some_atoms g atoms h) refl

-- only positive patterns have marks, references have patterns, and declarations have values
pub written_fits : (g : GrammarParts) → IsSound g → list_all item_fits (written_of g) ≡ true
written_fits g s =
    all_append item_fits (flat_map (written_feature g) g.features) (map (λ r. item.Rule (written_rule g r)) g.rules)
    (flat_all item_fits (written_feature g) g.features
    (all_weaken (λ f. has_values f.declared) (λ f. list_all item_fits (written_feature g f)) (λ f h. declaration_fits g f.name f.declared h) g.features
    s.written.values))
    (all-map item_fits (λ r. item.Rule (written_rule g r)) g.rules
    ∙ all_weaken is_written_rule (λ r. item_fits (item.Rule (written_rule g r))) (rule_fits g) g.rules s.written.rules)
