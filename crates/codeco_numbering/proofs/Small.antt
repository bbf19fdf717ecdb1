-- How much a rule that passes no limit writes.
use Rattle.std.proofs.Common.{◌≡◌, ◌+◌, ◌*◌, ◌≤◌, Bool, true, not, ◌||◌, ltb, List, [], ◌∷◌, map, length, arith}
use Rattle.std.specs.List.{list_all, list_any, flat_map}
use Rattle.std.specs.Prelude.{slice_index_or}
use Rattle.std.proofs.lemmas.List.{length-append, length-map}
use Rattle.std.proofs.lemmas.Bool.{and_parts, or_parts, not-true, ltb-false}
use Rattle.codeco_terms.specs.declared.rules.Rule.{Rule}
use Rattle.codeco_terms.specs.GrammarParts.{GrammarParts}
use Rattle.codeco_text.specs.declared.written.WrittenCategory.{WrittenCategory}
use Rattle.codeco_text.specs.declared.written.WrittenElement.{WrittenElement}
use Rattle.codeco_text.specs.declared.written.WrittenElement.TheVariants as element
use Rattle.codeco_text.specs.declared.written.WrittenRule.{WrittenRule}
use Rattle.codeco_checked.specs.Occurrences.{patterns, rule_variables, rule_terminals}
use Rattle.codeco_checked.specs.Numbering.{count_different}
use Rattle.codeco_checked.specs.Faults.{is_large_rule}
use Rattle.codeco_numbering.specs.Numbered.{Tables, numbered_pattern, numbered_element, numbered_rule, written_terminals, plain_categories, rule_names}

pub record IsSmall (r : Rule) : Type 0 where
  pub body : length r.body ≤ 16
  pub patterns : length (flat_map patterns r.body) ≤ 16
  pub variables : count_different (rule_variables r) ≤ 16

pub small_rule : (g : GrammarParts) (r : Rule) → not (is_large_rule g r) ≡ true → IsSmall r
small_rule g r h =
    let A = ltb 16 (length r.body) in
    let P = ltb 16 (length (flat_map patterns r.body)) in
    let V = ltb 16 (count_different (rule_variables r)) in
    let T = list_any (λ t. ltb 64 (length (slice_index_or g.terminals t []))) (rule_terminals r) in
    let all = or_parts ((A || P) || V) T (not-true (((A || P) || V) || T) h) in
    let some = or_parts (A || P) V all.0 in
    let two = or_parts A P some.0 in
    record {
      body = ltb-false 16 (length r.body) two.0;
      patterns = ltb-false 16 (length (flat_map patterns r.body)) two.1;
      variables = ltb-false 16 (count_different (rule_variables r)) some.1;
    }

terminals_element : (e : WrittenElement) → length (written_terminals e) ≤ 1
terminals_element (element.Terminal w) = omega arith
terminals_element e = omega arith

terminals_body : (es : List WrittenElement) → length (flat_map written_terminals es) ≤ length es
terminals_body [] = omega arith
terminals_body (e ∷ es) =
    let one = terminals_element e in
    let rest = terminals_body es in
    let both = length-append (written_terminals e) (flat_map written_terminals es) in
    omega arith

names_element : (t : Tables) (e : WrittenElement) → length (plain_categories e) ≤ 1 + length (patterns (numbered_element t e))
names_element t (element.Back ps ns) =
    let a = length-append ps ns in
    let b = length-append (map (numbered_pattern t) ps) (map (numbered_pattern t) ns) in
    let c = length-map ps (numbered_pattern t) in
    let d = length-map ns (numbered_pattern t) in
    omega arith
names_element t (element.NoBack ps) = let c = length-map ps (numbered_pattern t) in omega arith
names_element t e = omega arith

names_body : (t : Tables) (es : List WrittenElement)
    → length (flat_map plain_categories es) ≤ length es + length (flat_map patterns (map (numbered_element t) es))
names_body t [] = omega arith
names_body t (e ∷ es) =
    let one = names_element t e in
    let rest = names_body t es in
    let a = length-append (plain_categories e) (flat_map plain_categories es) in
    let b = length-append (patterns (numbered_element t e)) (flat_map patterns (map (numbered_element t) es)) in
    omega arith

pub rule_terminals_few : (t : Tables) (r : WrittenRule) → IsSmall (numbered_rule t r) → length (flat_map written_terminals r.body) ≤ 33
rule_terminals_few t r small =
    let body = small.body in
    let a = terminals_body r.body in
    let b = length-map r.body (numbered_element t) in
    omega arith

pub rule_names_few : (t : Tables) (r : WrittenRule) → IsSmall (numbered_rule t r) → length (rule_names r) ≤ 33
rule_names_few t r small =
    let body = small.body in
    let patterns = small.patterns in
    let a = names_body t r.body in
    let b = length-map r.body (numbered_element t) in
    let c = length-map (r.head ∷ flat_map plain_categories r.body) (λ (d : WrittenCategory). d.name) in
    omega arith

-- where each part has at most 33, all have at most 33 times their number
pub parts_few : {X Y : Type 0} (F : X → List Y) (good : X → Bool) → ((x : X) → good x ≡ true → length (F x) ≤ 33) → (xs : List X) → list_all good xs ≡ true
    → length (flat_map F xs) ≤ 33 * length xs
parts_few F good few [] h = omega arith
parts_few F good few (x ∷ xs) h =
    let parts = and_parts (good x) (list_all good xs) h in
    let one = few x parts.0 in
    let rest = parts_few F good few xs parts.1 in
    let both = length-append (F x) (flat_map F xs) in
    omega arith
