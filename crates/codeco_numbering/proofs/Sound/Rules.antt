-- The rules in numbers are such as the notation writes.
use Rattle.std.proofs.Common.{◌≡◌, ℕ, ◌+◌, ◌≤◌, ◌<◌, true, not, ◌&&◌, ltb, leb, List, [], ◌∷◌, map, refl, arith}
use Rattle.std.specs.List.{list_all}
use Rattle.std.proofs.lemmas.Bool.{and_parts, and_from, leb-true, lt-ltb, le-leb}
use Rattle.codeco_checked.proofs.NumberingLemmas.{ascends_tail}
use Rattle.codeco_text.specs.declared.written.WrittenTerm.{WrittenTerm}
use Rattle.codeco_text.specs.declared.written.WrittenTerm.TheVariants as term
use Rattle.codeco_text.specs.declared.written.WrittenCategory.{WrittenCategory}
use Rattle.codeco_text.specs.declared.written.WrittenElement.{WrittenElement}
use Rattle.codeco_text.specs.declared.written.WrittenElement.TheVariants as element
use Rattle.codeco_text.specs.declared.written.WrittenRule.{WrittenRule}
use Rattle.codeco_text.specs.declared.written.WrittenItem.TheVariants as item
use Rattle.codeco_text.specs.Names.{is_among}
use Rattle.codeco_text.specs.Notation.{kinds, is_marked, is_plain, element_fits, item_fits}
use Rattle.codeco_text.specs.Notation as notation
use Rattle.codeco_checked.specs.Sound.{ascends, is_empty, is_written_term, is_written, is_written_name, is_written_pattern, is_plain_pattern, is_written_element, is_written_rule}
use Rattle.codeco_numbering.specs.Numbered.{number_of, ordered, Tables, plain_feats, taken_feats, numbered_category, numbered_pattern, numbered_element, numbered_rule}
use Rattle.codeco_numbering.proofs.Sound.Tables.{number_below}
use Rattle.codeco_numbering.proofs.Sound.Order.{rises, order_rises, ordered_plain}
use Rattle.codeco_numbering.proofs.Sound.Spelled.{feat_spelled, element_spelled}

-- Order

ascends_from : (m n : ℕ) (xs : List ℕ) → m ≤ n → ascends (n ∷ xs) ≡ true → ascends (m ∷ xs) ≡ true
ascends_from m n [] le h = refl
ascends_from m n (x ∷ xs) le h =
    let parts = and_parts (leb n x) (ascends (x ∷ xs)) h in
    let here = leb-true n x parts.0 in
    and_from (leb m x) (ascends (x ∷ xs)) (le-leb m x (omega arith)) parts.1

plain_ascends : (t : Tables) (n : ℕ) (fs : List (ℕ × WrittenTerm)) → rises n fs ≡ true → ascends (n ∷ map (λ f. f.0) (plain_feats t fs)) ≡ true
plain_ascends t n [] h = refl
plain_ascends t n ((k, term.Atom w) ∷ fs) h =
    let parts = and_parts (leb n k) (rises k fs) h in
    and_from (leb n k) (ascends (k ∷ map (λ f. f.0) (plain_feats t fs))) parts.0 (plain_ascends t k fs parts.1)
plain_ascends t n ((k, term.Variable w) ∷ fs) h =
    let parts = and_parts (leb n k) (rises k fs) h in
    and_from (leb n k) (ascends (k ∷ map (λ f. f.0) (plain_feats t fs))) parts.0 (plain_ascends t k fs parts.1)
plain_ascends t n ((k, term.Taken w) ∷ fs) h =
    let parts = and_parts (leb n k) (rises k fs) h in
    ascends_from n k (map (λ f. f.0) (plain_feats t fs)) (leb-true n k parts.0) (plain_ascends t k fs parts.1)

taken_ascends : (t : Tables) (n : ℕ) (fs : List (ℕ × WrittenTerm)) → rises n fs ≡ true → ascends (n ∷ map (λ u. u.0) (taken_feats t fs)) ≡ true
taken_ascends t n [] h = refl
taken_ascends t n ((k, term.Atom w) ∷ fs) h =
    let parts = and_parts (leb n k) (rises k fs) h in
    ascends_from n k (map (λ u. u.0) (taken_feats t fs)) (leb-true n k parts.0) (taken_ascends t k fs parts.1)
taken_ascends t n ((k, term.Variable w) ∷ fs) h =
    let parts = and_parts (leb n k) (rises k fs) h in
    ascends_from n k (map (λ u. u.0) (taken_feats t fs)) (leb-true n k parts.0) (taken_ascends t k fs parts.1)
taken_ascends t n ((k, term.Taken w) ∷ fs) h =
    let parts = and_parts (leb n k) (rises k fs) h in
    and_from (leb n k) (ascends (k ∷ map (λ u. u.0) (taken_feats t fs))) parts.0 (taken_ascends t k fs parts.1)

plain_terms : (t : Tables) (fs : List (ℕ × WrittenTerm)) → list_all (λ f. is_written_term f.1) (plain_feats t fs) ≡ true
plain_terms t [] = refl
plain_terms t ((k, term.Atom w) ∷ fs) = plain_terms t fs
plain_terms t ((k, term.Variable w) ∷ fs) = plain_terms t fs
plain_terms t ((k, term.Taken w) ∷ fs) = plain_terms t fs

none_taken : (t : Tables) (fs : List (ℕ × WrittenTerm)) → list_all (λ f. not (is_marked f.1)) fs ≡ true → is_empty (taken_feats t fs) ≡ true
none_taken t [] h = refl
none_taken t ((k, term.Atom w) ∷ fs) h = none_taken t fs h
none_taken t ((k, term.Variable w) ∷ fs) h = none_taken t fs h
none_taken t ((k, term.Taken w) ∷ fs) h = absurd cc

-- Categories

ordered_rises : (t : Tables) (c : WrittenCategory) → rises 0 (ordered t.features c) ≡ true
ordered_rises t c = order_rises (map (λ f. (number_of t.features f.name, f.term)) c.feats)

feats_written : (t : Tables) (c : WrittenCategory)
    → (ascends (map (λ f. f.0) (plain_feats t (ordered t.features c))) && list_all (λ f. is_written_term f.1) (plain_feats t (ordered t.features c))) ≡ true
feats_written t c =
    let fs = plain_feats t (ordered t.features c) in
    and_from (ascends (map (λ f. f.0) fs)) (list_all (λ f. is_written_term f.1) fs)
    (ascends_tail 0 (map (λ f. f.0) fs) (plain_ascends t 0 (ordered t.features c) (ordered_rises t c))) (plain_terms t (ordered t.features c))

name_written : (t : Tables) (c : WrittenCategory) → is_written_name (numbered_category t c) ≡ true
name_written t c =
    let n = 5 + number_of t.categories c.name in
    and_from (leb 5 n) (is_written (numbered_category t c)) (le-leb 5 n (omega arith)) (feats_written t c)

pattern_written : (t : Tables) (c : WrittenCategory) → is_written_pattern (numbered_pattern t c) ≡ true
pattern_written t c =
    let ts = taken_feats t (ordered t.features c) in
    and_from (is_written_name (numbered_category t c)) (ascends (map (λ u. u.0) ts)) (name_written t c)
    (ascends_tail 0 (map (λ u. u.0) ts) (taken_ascends t 0 (ordered t.features c) (ordered_rises t c)))

plain_written : (t : Tables) (c : WrittenCategory) → is_plain c ≡ true → is_plain_pattern (numbered_pattern t c) ≡ true
plain_written t c h = and_from (is_written_name (numbered_category t c)) (is_empty (taken_feats t (ordered t.features c))) (name_written t c)
    (none_taken t (ordered t.features c) (ordered_plain t.features c h))

patterns_written : (t : Tables) (cs : List WrittenCategory) → list_all is_written_pattern (map (numbered_pattern t) cs) ≡ true
patterns_written t [] = refl
patterns_written t (c ∷ cs) = and_from (is_written_pattern (numbered_pattern t c)) (list_all is_written_pattern (map (numbered_pattern t) cs))
    (pattern_written t c) (patterns_written t cs)

plains_written : (t : Tables) (cs : List WrittenCategory) → list_all is_plain cs ≡ true → list_all is_plain_pattern (map (numbered_pattern t) cs) ≡ true
plains_written t [] h = refl
plains_written t (c ∷ cs) h =
    let parts = and_parts (is_plain c) (list_all is_plain cs) h in
    and_from (is_plain_pattern (numbered_pattern t c)) (list_all is_plain_pattern (map (numbered_pattern t) cs)) (plain_written t c parts.0)
    (plains_written t cs parts.1)

some_patterns : (t : Tables) (cs : List WrittenCategory) → not (notation.is_empty cs) ≡ true → not (is_empty (map (numbered_pattern t) cs)) ≡ true
some_patterns t [] h = absurd cc
some_patterns t (c ∷ cs) h = refl

-- Rules

element_written : (t : Tables) (e : WrittenElement) → element_fits e ≡ true → element_spelled e ≡ true → is_written_element (numbered_element t e) ≡ true
element_written t (element.Terminal w) h s = refl
element_written t (element.Preterminal c) h s =
    let n = number_of kinds c.name in
    let lt : n < 5 = number_below kinds c.name (and_parts (is_among kinds c.name) (list_all feat_spelled c.feats) s).0 in
    and_from (ltb n 5) (ascends (map (λ f. f.0) (plain_feats t (ordered t.features c)))
    && list_all (λ f. is_written_term f.1) (plain_feats t (ordered t.features c))) (lt-ltb n 5 lt) (feats_written t c)
element_written t (element.Sub c) h s = name_written t c
element_written t (element.Position w) h s = refl
element_written t element.Opener h s = refl
element_written t (element.Forward c) h s = name_written t c
element_written t (element.Strong c) h s = name_written t c
element_written t (element.Back ps ns) h s =
    let parts = and_parts (not (notation.is_empty ps)) (list_all is_plain ns) h in
    let positive = map (numbered_pattern t) ps in
    let negative = map (numbered_pattern t) ns in
    and_from (not (is_empty positive) && list_all is_written_pattern positive) (list_all is_plain_pattern negative)
    (and_from (not (is_empty positive)) (list_all is_written_pattern positive) (some_patterns t ps parts.0) (patterns_written t ps))
    (plains_written t ns parts.1)
element_written t (element.NoBack ps) h s =
    let parts = and_parts (not (notation.is_empty ps)) (list_all is_plain ps) h in
    let all = map (numbered_pattern t) ps in
    and_from (not (is_empty all)) (list_all is_plain_pattern all) (some_patterns t ps parts.0) (plains_written t ps parts.1)

body_written : (t : Tables) (es : List WrittenElement) → list_all element_fits es ≡ true → list_all element_spelled es ≡ true
    → list_all is_written_element (map (numbered_element t) es) ≡ true
body_written t [] h s = refl
body_written t (e ∷ es) h s =
    let fits = and_parts (element_fits e) (list_all element_fits es) h in
    let spelled = and_parts (element_spelled e) (list_all element_spelled es) s in
    and_from (is_written_element (numbered_element t e)) (list_all is_written_element (map (numbered_element t) es)) (element_written t e fits.0 spelled.0)
    (body_written t es fits.1 spelled.1)

pub rule_written : (t : Tables) (r : WrittenRule) → item_fits (item.Rule r) ≡ true → list_all element_spelled r.body ≡ true
    → is_written_rule (numbered_rule t r) ≡ true
rule_written t r h s =
    let fits = and_parts (is_plain r.head) (list_all element_fits r.body) h in
    and_from (is_written_name (numbered_category t r.head)) (list_all is_written_element (map (numbered_element t) r.body)) (name_written t r.head)
    (body_written t r.body fits.1 s)
