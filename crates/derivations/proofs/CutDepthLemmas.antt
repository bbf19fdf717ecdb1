-- How deep partial derivations are.
use Rattle.std.proofs.Common.{◌≡◌, ℕ, zero, suc, ◌+◌, ◌-◌, ◌*◌, ◌<◌, ◌≤◌, List, [], ◌∷◌, ◌++◌, length, take, Bool, true, false, ◌&&◌, ◌||◌, ◌⊎◌, inl, inr, Option, Some, None, refl, sym, ap, subst, ◌∙◌, arith}
use Rattle.std.specs.Prelude.{if◌then◌else◌, ◌==◌, option_and_then, option_map, slice_get}
use Rattle.std.specs.List.{list_any}
use Rattle.std.proofs.lemmas.List.{length-map}
use Rattle.std.proofs.Math.Nat.{mul-le-mul_right}
use Rattle.std.proofs.lemmas.Option.{same_Some}
use Rattle.std.proofs.lemmas.Bool.{eqb-true}
use Rattle.wiki_base.proofs.BoolLaws.{and_first}
use Rattle.derivation_trees.proofs.TruthLemmas.{true_is_false}
use Rattle.codeco_terms.specs.declared.values.Value.{Value}
use Rattle.codeco_terms.specs.declared.categories.Category.{Category}
use Rattle.codeco_terms.specs.declared.elements.Element.{Element}
use Rattle.codeco_terms.specs.declared.elements.Element.TheVariants.{Sub}
use Rattle.codeco_terms.specs.declared.rules.Rule.{Rule}
use Rattle.codeco_checked.specs.Faults.{is_phrase, sub_name, first_category, StepsTo}
use Rattle.scopes.specs.declared.agreement.Test.{Test}
use Rattle.derivation_trees.specs.Trees.{Node, Nodes}
use Rattle.derivation_trees.specs.Settings.{Setting}
use Rattle.derivation_trees.specs.Instances.{under, own_values}
use Rattle.derivation_trees.specs.Derives.{At, Stand, fits, phrase_of, phrases_of, rule_with, text_category}
use Rattle.derivation_trees.specs.Partial.{CutNode, stopped, entered, front, sub_of, next_category, cut_end, IsPartialDerivation}
use Rattle.derivations.specs.Beginnings.{depth_of, has_partial}
use Rattle.derivations.proofs.ListingLemmas.{Within, AllWithin, node_list, phrases_of-list}
use Rattle.derivations.proofs.DepthLemmas.{Ordered, Ran, run_moves, rule_contained, nodes_consume, node_consumes, weight, weight_is, weight_more, without, IsHead, Free, asked_free, free_on, shorter_with, heads, all_free, walk, each_within, deep}
use Rattle.derivations.proofs.CutLemmas.{FrontParts, front_parts, CutWithin, cut_sound, cut_complete}

-- where a front stands
record Fronted (s : Setting) (number : ℕ) (values : List (ℕ × Value)) (found : List ℕ) (children : Nodes) (count : ℕ) (asked : Test) (at : At) : Type 0 where
  pub rule : Rule
  pub there : rule_with s.grammar number ≡ Some rule
  pub stand : Stand
  pub parts : FrontParts s rule values found children count asked at stand

front_moves : (s : Setting) → Ordered s.grammar
    → (rule : Rule) (values : List (ℕ × Value)) (found : List ℕ) (children : Nodes) (count : ℕ) (asked : Test) (at : At) (stand : Stand)
    → FrontParts s rule values found children count asked at stand
    → Ran (take count rule.body) (record { at = at; found = found; own = own_values rule values; children = phrases_of s children }) stand
front_moves s ordered rule values found children count asked at stand parts =
    run_moves s values (take count rule.body) (record { at = at; found = found; own = own_values rule values; children = phrases_of s children }) stand
    (nodes_consume s ordered children) parts.ran

-- what a cut-off node with a child is made of
record EnteredParts (s : Setting) (number : ℕ) (values : List (ℕ × Value)) (found : List ℕ) (children : Nodes) (count : ℕ) (child : CutNode) (asked : Test)
    (at : At) (end : ℕ) : Type 0 where
  pub rule : Rule
  pub there : rule_with s.grammar number ≡ Some rule
  pub stand : Stand
  pub parts : FrontParts s rule values found children count asked at stand
  pub category : Category
  pub next : next_category rule count ≡ Some category
  pub ends : cut_end s child (under values category) stand.at ≡ Some end

entered_parts : (s : Setting) (number : ℕ) (values : List (ℕ × Value)) (found : List ℕ) (children : Nodes) (count : ℕ) (child : CutNode) (asked : Test)
    (at : At) (end : ℕ) → cut_end s (entered number values found children count child) asked at ≡ Some end
    → EnteredParts s number values found children count child asked at end
entered_parts s number values found children count child asked at end h = by (rule_with s.grammar number) refl h
  where
    enter : (rule : Rule) → rule_with s.grammar number ≡ Some rule → (stand : Stand)
        → front s rule values found (phrases_of s children) count asked at ≡ Some stand → (o : Option Category) → next_category rule count ≡ o
        → option_and_then (λ c. cut_end s child (under values c) stand.at) o ≡ Some end → EnteredParts s number values found children count child asked at end
    enter rule there stand w None x k = cc
    enter rule there stand w (Some c) x k = record {
      rule = rule;
      there = there;
      stand = stand;
      parts = front_parts s rule values found children count asked at stand w;
      category = c;
      next = x;
      ends = k;
    }

    led : (rule : Rule) → rule_with s.grammar number ≡ Some rule → (o : Option Stand) → front s rule values found (phrases_of s children) count asked at ≡ o
        → option_and_then (λ stand. option_and_then (λ c. cut_end s child (under values c) stand.at) (next_category rule count)) o ≡ Some end
        → EnteredParts s number values found children count child asked at end
    led rule there None w k = cc
    led rule there (Some stand) w k = enter rule there stand w (next_category rule count) refl k

    by : (o : Option Rule) → rule_with s.grammar number ≡ o
        → option_and_then (λ stand. option_and_then (λ c. cut_end s child (under values c) stand.at) (option_and_then (λ r. next_category r count) o))
        (option_and_then (λ r. front s r values found (phrases_of s children) count asked at) o) ≡ Some end
        → EnteredParts s number values found children count child asked at end
    by None w k = cc
    by (Some rule) w k = led rule w (front s rule values found (phrases_of s children) count asked at) refl k

record StoppedParts (s : Setting) (number : ℕ) (values : List (ℕ × Value)) (found : List ℕ) (children : Nodes) (count : ℕ) (asked : Test) (at : At)
    (end : ℕ) : Type 0 where
  pub rule : Rule
  pub there : rule_with s.grammar number ≡ Some rule
  pub stand : Stand
  pub parts : FrontParts s rule values found children count asked at stand
  pub ends : stand.at.place ≡ end

stopped_parts : (s : Setting) (number : ℕ) (values : List (ℕ × Value)) (found : List ℕ) (children : Nodes) (count : ℕ) (asked : Test) (at : At) (end : ℕ)
    → cut_end s (stopped number values found children count) asked at ≡ Some end → StoppedParts s number values found children count asked at end
stopped_parts s number values found children count asked at end h = by (rule_with s.grammar number) refl h
  where
    led : (rule : Rule) → rule_with s.grammar number ≡ Some rule → (o : Option Stand) → front s rule values found (phrases_of s children) count asked at ≡ o
        → option_map (λ stand. stand.at.place) o ≡ Some end → StoppedParts s number values found children count asked at end
    led rule there None w k = cc
    led rule there (Some stand) w k = record {
      rule = rule;
      there = there;
      stand = stand;
      parts = front_parts s rule values found children count asked at stand w;
      ends = same_Some stand.at.place end k;
    }

    by : (o : Option Rule) → rule_with s.grammar number ≡ o
        → option_map (λ stand. stand.at.place) (option_and_then (λ r. front s r values found (phrases_of s children) count asked at) o) ≡ Some end
        → StoppedParts s number values found children count asked at end
    by None w k = cc
    by (Some rule) w k = led rule w (front s rule values found (phrases_of s children) count asked at) refl k

-- a cut-off node ends no earlier than it starts
cut_goes : (s : Setting) → Ordered s.grammar → (cut : CutNode) (asked : Test) (at : At) (end : ℕ) → cut_end s cut asked at ≡ Some end → at.place ≤ end
cut_goes s ordered (stopped number values found children count) asked at end h =
    let p : StoppedParts s number values found children count asked at end = stopped_parts s number values found children count asked at end h in
    let ran : Ran (take count p.rule.body) (record { at = at; found = found; own = own_values p.rule values; children = phrases_of s children }) p.stand =
    front_moves s ordered p.rule values found children count asked at p.stand p.parts in
    subst (λ n. at.place ≤ n) p.ends ran.on
cut_goes s ordered (entered number values found children count child) asked at end h =
    let p : EnteredParts s number values found children count child asked at end = entered_parts s number values found children count child asked at end h in
    let ran : Ran (take count p.rule.body) (record { at = at; found = found; own = own_values p.rule values; children = phrases_of s children }) p.stand =
    front_moves s ordered p.rule values found children count asked at p.stand p.parts in
    let later : p.stand.at.place ≤ end = cut_goes s ordered child (under values p.category) p.stand.at end p.ends in
    omega (arith, ran.on, later)

-- the category that stands first among the first elements stands first in all
first_of_take : (count : ℕ) (es : List Element) (c : ℕ) → first_category (take count es) ≡ Some c → first_category es ≡ Some c
first_of_take zero [] c h = h
first_of_take zero (e ∷ es) c h = cc
first_of_take (suc count) [] c h = h
first_of_take (suc count) (e ∷ es) c h = by (first_of_take count es c) (is_phrase e) h
  where
    by : (first_category (take count es) ≡ Some c → first_category es ≡ Some c) → (b : Bool)
        → (if b then sub_name e else first_category (take count es)) ≡ Some c → (if b then sub_name e else first_category es) ≡ Some c
    by later true k = k
    by later false k = later k

sub_first : (e : Element) (c : Category) → sub_of e ≡ Some c → (is_phrase e ≡ true) × (sub_name e ≡ Some c.name)
sub_first (Sub d) c h = (refl, ap (λ x. Some x.name) (same_Some d c h))
sub_first e c h = cc

-- a category behind special elements alone stands first
first_after : (count : ℕ) (es : List Element) (c : Category) → list_any is_phrase (take count es) ≡ false → option_and_then sub_of (slice_get es count) ≡ Some c
    → first_category es ≡ Some c.name
first_after count [] c h k = cc
first_after zero (e ∷ es) c h k =
    let one : (is_phrase e ≡ true) × (sub_name e ≡ Some c.name) = sub_first e c k in
    ap (λ b. if b then sub_name e else first_category es) one.0 ∙ one.1
first_after (suc count) (e ∷ es) c h k = by (λ x. first_after count es c x k) (is_phrase e) refl h
  where
    by : (list_any is_phrase (take count es) ≡ false → first_category es ≡ Some c.name) → (b : Bool) → is_phrase e ≡ b
        → (b || list_any is_phrase (take count es)) ≡ false → first_category (e ∷ es) ≡ Some c.name
    by later true w x = true_is_false x
    by later false w x = ap (λ b. if b then sub_name e else first_category es) w ∙ later x

-- the children of a front are no deeper than the tokens and the categories that are left allow
front_within : (s : Setting) → Ordered s.grammar
    → (last depth : ℕ) (number : ℕ) (rule : Rule) (values : List (ℕ × Value)) (found : List ℕ) (children : Nodes) (count : ℕ) (asked : Test) (at : At)
    (stand : Stand) (names : List ℕ) → rule_with s.grammar number ≡ Some rule → FrontParts s rule values found children count asked at stand
    → rule.head.name ≡ asked.name → stand.at.place ≤ last → Free s.grammar names asked.name
    → weight (last - at.place) (length (heads s.grammar) + 1) + length names + 1 ≤ suc depth → length (without asked.name names) + 1 ≤ length names
    → AllWithin depth children
front_within s ordered last depth number rule values found children count asked at stand names there parts named le free low short =
    each_within depth children (walk s ordered values depth last at.place (StepsTo s.grammar asked.name) child (take count rule.body) (node_list children)
    (record { at = at; found = found; own = own_values rule values; children = phrases_of s children }) stand (phrases_of-list s children)
    (nodes_consume s ordered children) parts.ran parts.no_children le
    (inl (refl, λ c v. (rule, rule_contained s.grammar number rule there, named, first_of_take count rule.body c v))))
  where
    child : (n : Node) (c : Category) (start end : At) → phrase_of s n (under values c) start ≡ Some end → end.place ≤ last
        → ((start.place ≡ at.place) × StepsTo s.grammar asked.name c.name) ⊎ (at.place + 1 ≤ start.place) → Within depth n
    child n c start end w under_last (inl e) =
        let same : weight (last - start.place) (length (heads s.grammar) + 1) ≡ weight (last - at.place) (length (heads s.grammar) + 1) =
        ap (λ p. weight (last - p) (length (heads s.grammar) + 1)) e.0 in
        deep s ordered last depth n (under values c) start end (without asked.name names) w under_last (free_on s.grammar names asked.name c.name free e.1)
        (omega (arith, same, short, low))
    child n c start end w under_last (inr e) =
        let consumed : start.place + 1 ≤ end.place = node_consumes s ordered n (under values c) start end w in
        let left : (last - start.place) + 1 ≤ last - at.place = omega (arith, e, consumed, under_last) in
        let lighter : weight (last - start.place) (length (heads s.grammar) + 1) + (length (heads s.grammar) + 1)
        ≤ weight (last - at.place) (length (heads s.grammar) + 1) =
        weight_more (last - at.place) (last - start.place) (length (heads s.grammar) + 1) left in
        deep s ordered last depth n (under values c) start end (heads s.grammar) w under_last (all_free s.grammar c.name) (omega (arith, lighter, low))

named_rule : (s : Setting) (rule : Rule) (values : List (ℕ × Value)) (found : List ℕ) (children : Nodes) (count : ℕ) (asked : Test) (at : At) (stand : Stand)
    → FrontParts s rule values found children count asked at stand → rule.head.name ≡ asked.name
named_rule s rule values found children count asked at stand parts =
    eqb-true rule.head.name asked.name (and_first (rule.head.name == asked.name) _ (and_first (fits (under values rule.head) asked) _ parts.begins))

short_names : (s : Setting) → Ordered s.grammar → (number : ℕ) (rule : Rule) (asked : Test) (names : List ℕ) → rule_with s.grammar number ≡ Some rule
    → rule.head.name ≡ asked.name → Free s.grammar names asked.name → length (without asked.name names) + 1 ≤ length names
short_names s ordered number rule asked names there named free =
    let head : IsHead s.grammar asked.name = (rule, rule_contained s.grammar number rule there, named) in
    shorter_with asked.name names (asked_free s.grammar ordered names asked.name free head)

weight_less : (a b k : ℕ) → b ≤ a → weight b k ≤ weight a k
weight_less a b k h = subst (λ x. weight b k ≤ x) (sym (weight_is a k)) (subst (λ x. x ≤ a * k) (sym (weight_is b k)) (mul-le-mul_right k h))

-- the child of a cut-off node: it stands first, or behind a token or more
child_deep : (s : Setting) → Ordered s.grammar
    → (last depth number : ℕ) (values : List (ℕ × Value)) (found : List ℕ) (children : Nodes) (count : ℕ) (child : CutNode) (asked : Test) (at : At)
    (names : List ℕ) → (p : EnteredParts s number values found children count child asked at last) → Free s.grammar names asked.name
    → weight (last - at.place) (length (heads s.grammar) + 1) + length names + 1 ≤ suc depth
    → ((others : List ℕ) → Free s.grammar others p.category.name → weight (last - p.stand.at.place) (length (heads s.grammar) + 1) + length others + 1 ≤ depth
    → CutWithin depth child) → (b : Bool) → list_any is_phrase (take count p.rule.body) ≡ b → CutWithin depth child
child_deep s ordered last depth number values found children count child asked at names p free low again false e =
    let named : p.rule.head.name ≡ asked.name = named_rule s p.rule values found children count asked at p.stand p.parts in
    let short : length (without asked.name names) + 1 ≤ length names = short_names s ordered number p.rule asked names p.there named free in
    let ran : Ran (take count p.rule.body) (record { at = at; found = found; own = own_values p.rule values; children = phrases_of s children }) p.stand =
    front_moves s ordered p.rule values found children count asked at p.stand p.parts in
    let on : at.place ≤ p.stand.at.place = ran.on in
    let less : weight (last - p.stand.at.place) (length (heads s.grammar) + 1) ≤ weight (last - at.place) (length (heads s.grammar) + 1) =
    weight_less (last - at.place) (last - p.stand.at.place) (length (heads s.grammar) + 1) (omega (arith, on)) in
    again (without asked.name names) (free_on s.grammar names asked.name p.category.name free
    (p.rule, rule_contained s.grammar number p.rule p.there, named, first_after count p.rule.body p.category e p.next)) (omega (arith, less, short, low))
child_deep s ordered last depth number values found children count child asked at names p free low again true e =
    let ran : Ran (take count p.rule.body) (record { at = at; found = found; own = own_values p.rule values; children = phrases_of s children }) p.stand =
    front_moves s ordered p.rule values found children count asked at p.stand p.parts in
    let on : at.place + 1 ≤ p.stand.at.place = ran.token e in
    let under_last : p.stand.at.place ≤ last = cut_goes s ordered child (under values p.category) p.stand.at last p.ends in
    let left : (last - p.stand.at.place) + 1 ≤ last - at.place = omega (arith, on, under_last) in
    let lighter : weight (last - p.stand.at.place) (length (heads s.grammar) + 1) + (length (heads s.grammar) + 1)
    ≤ weight (last - at.place) (length (heads s.grammar) + 1) =
    weight_more (last - at.place) (last - p.stand.at.place) (length (heads s.grammar) + 1) left in
    again (heads s.grammar) (all_free s.grammar p.category.name) (omega (arith, lighter, low))

-- a cut-off node is no deeper than the tokens and the categories that are left allow
cut_deep : (s : Setting) → Ordered s.grammar → (last depth : ℕ) (cut : CutNode) (asked : Test) (at : At) (names : List ℕ) → cut_end s cut asked at ≡ Some last
    → Free s.grammar names asked.name → weight (last - at.place) (length (heads s.grammar) + 1) + length names + 1 ≤ depth → CutWithin depth cut
cut_deep s ordered last zero (stopped number values found children count) asked at names h free low = absurd (omega (arith, low))
cut_deep s ordered last zero (entered number values found children count child) asked at names h free low = absurd (omega (arith, low))
cut_deep s ordered last (suc depth) (stopped number values found children count) asked at names h free low =
    let p : StoppedParts s number values found children count asked at last = stopped_parts s number values found children count asked at last h in
    let named : p.rule.head.name ≡ asked.name = named_rule s p.rule values found children count asked at p.stand p.parts in
    front_within s ordered last depth number p.rule values found children count asked at p.stand names p.there p.parts named (omega (arith, p.ends)) free low
    (short_names s ordered number p.rule asked names p.there named free)
cut_deep s ordered last (suc depth) (entered number values found children count child) asked at names h free low =
    let p : EnteredParts s number values found children count child asked at last = entered_parts s number values found children count child asked at last h in
    let named : p.rule.head.name ≡ asked.name = named_rule s p.rule values found children count asked at p.stand p.parts in
    let short : length (without asked.name names) + 1 ≤ length names = short_names s ordered number p.rule asked names p.there named free in
    let under_last : p.stand.at.place ≤ last = cut_goes s ordered child (under values p.category) p.stand.at last p.ends in (
      front_within s ordered last depth number p.rule values found children count asked at p.stand names p.there p.parts named under_last free low short,
      child_deep s ordered last depth number values found children count child asked at names p free low
          (λ others f l. cut_deep s ordered last depth child (under values p.category) p.stand.at others p.ends f l)
          (list_any is_phrase (take count p.rule.body))
          refl,
    )

-- a partial derivation is no deeper than this
partial_within : (s : Setting) → Ordered s.grammar → (cut : CutNode) → IsPartialDerivation s cut → CutWithin (depth_of s) cut
partial_within s ordered cut h =
    let count : length (heads s.grammar) ≡ length s.grammar.rules = length-map s.grammar.rules (λ r. r.head.name) in
    let low : weight (length s.tokens - 0) (length (heads s.grammar) + 1) + (length (heads s.grammar) + 1)
    ≤ weight (length s.tokens + 1) (length (heads s.grammar) + 1) =
    weight_more (length s.tokens + 1) (length s.tokens - 0) (length (heads s.grammar) + 1) (omega arith) in
    let within : CutWithin (weight (length s.tokens + 1) (length (heads s.grammar) + 1)) cut =
    cut_deep s ordered (length s.tokens) (weight (length s.tokens + 1) (length (heads s.grammar) + 1)) cut text_category (record { place = 0; list = [] })
    (heads s.grammar) h (all_free s.grammar 5) (omega (arith, low)) in
    subst (λ d. CutWithin d cut) (weight_is (length s.tokens + 1) (length (heads s.grammar) + 1) ∙ ap (λ n. (length s.tokens + 1) * (n + 1)) count) within

-- the test says whether there is a partial derivation
pub partial_test : (s : Setting) → Ordered s.grammar
    → (has_partial s ≡ true → (cut : CutNode) × IsPartialDerivation s cut) × ((cut : CutNode) × IsPartialDerivation s cut → has_partial s ≡ true)
partial_test s ordered = (
  λ h. cut_sound s (depth_of s) text_category (record { place = 0; list = [] }) h,
  λ one. cut_complete s (depth_of s) one.0 text_category (record { place = 0; list = [] }) (partial_within s ordered one.0 one.1) one.1,
)
