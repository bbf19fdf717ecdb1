-- The categories that are written for a sound grammar are gathered as its own, behind the preterminals.
use Rattle.std.proofs.Common.{◌≡◌, ℕ, ◌+◌, ◌-◌, ◌≤◌, true, not, ◌&&◌, ltb, leb, List, [], ◌∷◌, ◌++◌, map, length, take, drop, refl, sym, ap, subst, ◌∙◌, arith}
use Rattle.std.specs.Prelude.{codes}
use Rattle.std.specs.List.{list_all, flat_map}
use Rattle.std.proofs.lemmas.List.{map-append, take-take, drop-take, take-append-drop, get_or-drop, length-drop}
use Rattle.std.proofs.lemmas.Bool.{and_parts, leb-true, le-ltb, cond-true, cond-false}
use Rattle.codeco_terms.specs.declared.categories.Category.{Category}
use Rattle.codeco_terms.specs.declared.categories.Pattern.{Pattern}
use Rattle.codeco_terms.specs.declared.elements.Element.{Element}
use Rattle.codeco_terms.specs.declared.elements.Element.TheVariants.{Terminal, Preterminal, Sub, Position, Opener, Forward, Strong, Back, NoBack}
use Rattle.codeco_terms.specs.declared.rules.Rule.{Rule}
use Rattle.codeco_terms.specs.GrammarParts.{GrammarParts}
use Rattle.codeco_text.specs.declared.written.WrittenCategory.{WrittenCategory}
use Rattle.codeco_text.specs.Notation.{kinds}
use Rattle.codeco_checked.specs.Occurrences.{whole, mentions, rule_mentions}
use Rattle.codeco_checked.specs.Numbering.{counts_up, first_categories, grammar_names}
use Rattle.codeco_checked.specs.Sound.{IsSound, ascends, is_empty, is_written, is_written_name, is_written_pattern, is_plain_pattern, is_written_element, is_written_rule}
use Rattle.codeco_printer.specs.Unnumbered.{name_at, written_pattern, written_element, written_rule}
use Rattle.codeco_numbering.specs.Numbered.{gathered, plain_categories, rule_names}
use Rattle.codeco_numbering.proofs.Sound.Lowered.{lowered, lowered_append, lowered_counts}
use Rattle.wiki_base.proofs.ListLaws.{all_weaken}
use Rattle.codeco_checked.proofs.NumberingLemmas.{counted}
use Rattle.codeco_printer.proofs.Tables.{gathered_counts, begins_take}

-- Names

abbrev written_names : List WrittenCategory → List (List ℕ)
written_names cs = map (λ c. c.name) cs

abbrev numbered_names : List Category → List ℕ
numbered_names cs = map (λ c. c.name) cs

-- the names of the numbers from 5 on
abbrev names_from : GrammarParts → List ℕ → List (List ℕ)
names_from g ns = map (name_at (drop 5 g.categories)) (lowered ns)

names_append : (g : GrammarParts) (xs ys : List ℕ) → names_from g (xs ++ ys) ≡ names_from g xs ++ names_from g ys
names_append g xs ys = ap (map (name_at (drop 5 g.categories))) (lowered_append xs ys) ∙ map-append (name_at (drop 5 g.categories)) (lowered xs) (lowered ys)

pub plain_number : (c : Category) → is_written_name c ≡ true → 5 ≤ c.name
plain_number c h = leb-true 5 c.name (and_parts (leb 5 c.name) (is_written c) h).0

one_plain : (g : GrammarParts) (c : Category) (ns : List ℕ) → is_written_name c ≡ true
    → names_from g (c.name ∷ ns) ≡ name_at g.categories c.name ∷ names_from g ns
one_plain g c ns h =
    let n = c.name in
    let le : 5 ≤ n = plain_number c h in
    let same : 5 + (n - 5) ≡ n = omega arith in
    ap (map (name_at (drop 5 g.categories))) (cond-false (ltb n 5) (lowered ns) ((n - 5) ∷ lowered ns) (le-ltb n 5 le))
    ∙ ap (λ (w : List ℕ). w ∷ names_from g ns) (get_or-drop 5 g.categories (n - 5) [] ∙ ap (name_at g.categories) same)

patterns_names : (g : GrammarParts) (ps : List Pattern) → list_all (λ p. is_written_name p.cat) ps ≡ true
    → written_names (map (written_pattern g) ps) ≡ names_from g (numbered_names (map whole ps))
patterns_names g [] h = refl
patterns_names g (p ∷ ps) h =
    let parts = and_parts (is_written_name p.cat) (list_all (λ q. is_written_name q.cat) ps) h in
    ap (λ (x : List (List ℕ)). name_at g.categories p.cat.name ∷ x) (patterns_names g ps parts.1)
    ∙ sym (one_plain g p.cat (numbered_names (map whole ps)) parts.0)

written_patterns : (ps : List Pattern) → list_all is_written_pattern ps ≡ true → list_all (λ p. is_written_name p.cat) ps ≡ true
written_patterns ps h = all_weaken is_written_pattern (λ p. is_written_name p.cat)
    (λ p q. (and_parts (is_written_name p.cat) (ascends (map (λ t. t.0) p.taken)) q).0) ps h

plain_patterns : (ps : List Pattern) → list_all is_plain_pattern ps ≡ true → list_all (λ p. is_written_name p.cat) ps ≡ true
plain_patterns ps h = all_weaken is_plain_pattern (λ p. is_written_name p.cat) (λ p q. (and_parts (is_written_name p.cat) (is_empty p.taken) q).0) ps h

element_names : (g : GrammarParts) (e : Element) → is_written_element e ≡ true
    → written_names (plain_categories (written_element g e)) ≡ names_from g (numbered_names (mentions e))
element_names g (Terminal t) w = refl
element_names g (Preterminal c) w = sym (ap (map (name_at (drop 5 g.categories)))
    (cond-true (ltb c.name 5) [] ((c.name - 5) ∷ []) (and_parts (ltb c.name 5) (is_written c) w).0))
element_names g (Sub c) w = sym (one_plain g c [] w)
element_names g (Position x) w = refl
element_names g Opener w = refl
element_names g (Forward c) w = sym (one_plain g c [] w)
element_names g (Strong c) w = sym (one_plain g c [] w)
element_names g (Back ps ns) w =
    let parts = and_parts (not (is_empty ps) && list_all is_written_pattern ps) (list_all is_plain_pattern ns) w in
    let front = and_parts (not (is_empty ps)) (list_all is_written_pattern ps) parts.0 in
    map-append (λ c. c.name) (map (written_pattern g) ps) (map (written_pattern g) ns)
    ∙ ap (λ (x : List (List ℕ)). x ++ written_names (map (written_pattern g) ns)) (patterns_names g ps (written_patterns ps front.1))
    ∙ ap (λ (x : List (List ℕ)). names_from g (numbered_names (map whole ps)) ++ x) (patterns_names g ns (plain_patterns ns parts.1))
    ∙ sym (names_append g (numbered_names (map whole ps)) (numbered_names (map whole ns)))
    ∙ ap (names_from g) (sym (map-append (λ c. c.name) (map whole ps) (map whole ns)))
element_names g (NoBack ps) w =
    let parts = and_parts (not (is_empty ps)) (list_all is_plain_pattern ps) w in
    patterns_names g ps (plain_patterns ps parts.1)

body_names : (g : GrammarParts) (es : List Element) → list_all is_written_element es ≡ true
    → written_names (flat_map plain_categories (map (written_element g) es)) ≡ names_from g (numbered_names (flat_map mentions es))
body_names g [] w = refl
body_names g (e ∷ es) w =
    let parts = and_parts (is_written_element e) (list_all is_written_element es) w in
    let here = plain_categories (written_element g e) in
    let rest = flat_map plain_categories (map (written_element g) es) in
    map-append (λ c. c.name) here rest
    ∙ ap (λ (x : List (List ℕ)). x ++ written_names rest) (element_names g e parts.0)
    ∙ ap (λ (x : List (List ℕ)). names_from g (numbered_names (mentions e)) ++ x) (body_names g es parts.1)
    ∙ sym (names_append g (numbered_names (mentions e)) (numbered_names (flat_map mentions es)))
    ∙ ap (names_from g) (sym (map-append (λ c. c.name) (mentions e) (flat_map mentions es)))

rules_names : (g : GrammarParts) (rs : List Rule) → list_all is_written_rule rs ≡ true
    → flat_map rule_names (map (written_rule g) rs) ≡ names_from g (flat_map (λ r. map (λ c. c.name) (rule_mentions r)) rs)
rules_names g [] w = refl
rules_names g (r ∷ rs) w =
    let parts = and_parts (is_written_rule r) (list_all is_written_rule rs) w in
    let here = and_parts (is_written_name r.head) (list_all is_written_element r.body) parts.0 in
    ap (λ (x : List (List ℕ)). (name_at g.categories r.head.name ∷ x) ++ flat_map rule_names (map (written_rule g) rs)) (body_names g r.body here.1)
    ∙ ap (λ (x : List (List ℕ)). x ++ flat_map rule_names (map (written_rule g) rs))
    (sym (one_plain g r.head (numbered_names (flat_map mentions r.body)) here.0))
    ∙ ap (λ (x : List (List ℕ)). names_from g (numbered_names (rule_mentions r)) ++ x) (rules_names g rs parts.1)
    ∙ sym (names_append g (numbered_names (rule_mentions r)) (flat_map (λ y. map (λ c. c.name) (rule_mentions y)) rs))

-- The tables

pub first_kinds : (g : GrammarParts) → IsSound g → take 5 g.categories ≡ kinds
first_kinds g s = sym (take-take 5 6 g.categories (omega arith)) ∙ ap (take 5) (begins_take first_categories g.categories s.numbered.first_categories)

first_text : (g : GrammarParts) → IsSound g → take 1 (drop 5 g.categories) ≡ codes "text" ∷ []
first_text g s = sym (drop-take 5 1 g.categories) ∙ ap (drop 5) (begins_take first_categories g.categories s.numbered.first_categories)

pub kinds_first : (g : GrammarParts) → IsSound g → kinds ++ drop 5 g.categories ≡ g.categories
kinds_first g s = ap (λ (x : List (List ℕ)). x ++ drop 5 g.categories) (sym (first_kinds g s)) ∙ take-append-drop 5 g.categories

pub categories_back : (g : GrammarParts) → IsSound g → gathered (codes "text" ∷ []) (flat_map rule_names (map (written_rule g) g.rules)) ≡ drop 5 g.categories
categories_back g s =
    let others = drop 5 g.categories in
    let len : length others ≡ length g.categories - 5 = length-drop 5 g.categories in
    let most = (counted 6 (length g.categories) (grammar_names g) s.numbered.categories).0 in
    let total : length g.categories ≡ length others + 5 = omega arith in
    let counts : counts_up 1 (length others) (lowered (grammar_names g)) ≡ true =
    lowered_counts 1 (length others) (grammar_names g) (subst (λ (n : ℕ). counts_up 6 n (grammar_names g) ≡ true) total s.numbered.categories) in
    ap (gathered (codes "text" ∷ [])) (rules_names g g.rules s.written.rules)
    ∙ ap (λ (x : List (List ℕ)). gathered x (names_from g (grammar_names g))) (sym (first_text g s))
    ∙ gathered_counts others 1 (lowered (grammar_names g)) s.numbered.different_categories counts
