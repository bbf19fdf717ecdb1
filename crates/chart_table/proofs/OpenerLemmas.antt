-- A phrase never looks at the openers of the list that it starts with: it takes a place and a list to that list followed by
-- others exactly where it takes the place and the list without openers to this followed by the same others.
use Rattle.std.proofs.Common.{◌≡◌, ℕ, List, [], ◌∷◌, ◌++◌, Bool, true, false, ◌&&◌, ◌||◌, Some, refl, sym, ap, ◌∙◌, subst, append_assoc}
use Rattle.std.specs.Prelude.{if◌then◌else◌, option_and_then}
use Rattle.std.specs.List.{list_any, filter_map, cons_option}
use Rattle.std.proofs.lemmas.List.{append-nil}
use Rattle.std.proofs.lemmas.Option.{option_and_then_some, same_Some}
use Rattle.std.proofs.Math.Seq.{drop-append_seam}
use Rattle.codeco_terms.specs.declared.values.Value.{Value}
use Rattle.codeco_terms.specs.declared.values.Value.TheVariants.{Pos}
use Rattle.codeco_terms.specs.declared.categories.Category.{Category}
use Rattle.codeco_terms.specs.declared.categories.Pattern.{Pattern}
use Rattle.codeco_terms.specs.declared.elements.Element.{Element}
use Rattle.codeco_terms.specs.declared.elements.Element.TheVariants.{Terminal, Preterminal, Sub, Position, Opener, Forward, Strong, Back, NoBack}
use Rattle.codeco_terms.specs.declared.rules.Rule.{Rule}
use Rattle.codeco_terms.specs.Values.{same_value}
use Rattle.scopes.specs.declared.entries.Entry.{Entry}
use Rattle.scopes.specs.declared.entries.Entry.TheVariants as entry
use Rattle.scopes.specs.declared.agreement.Test.{Test}
use Rattle.scopes.specs.declared.agreement.Tests.{Tests}
use Rattle.scopes.specs.AccessList.{closed, introduced}
use Rattle.scopes.specs.Resolution.{finding, finding_at, is_agreeing, closest_finding, last_of}
use Rattle.derivation_trees.specs.Trees.{Node, Nodes, node, none, more}
use Rattle.derivation_trees.specs.Settings.{Setting, matches_terminal, matches_preterminal}
use Rattle.derivation_trees.specs.Instances.{value_under, under, tests_under, is_instance, own_values}
use Rattle.derivation_trees.specs.Derives.{At, Stand, Phrase, pass, run, pass_child, pass_finding, is_found, moved, referent, reference_tests, phrase_of, phrases_of, phrase, begun, ended, is_none_left, rule_with, fits, list_after}
use Rattle.chart_table.specs.Leading.{Leads}
use Rattle.scopes.specs.AccessList.{referents}
use Rattle.chart_table.proofs.PassLemmas.{if_some, unless_some, if_true, if_false}

pub referents-append : (xs ys : List Entry) → referents (xs ++ ys) ≡ referents xs ++ referents ys
referents-append [] ys = refl
referents-append (entry.Opener ∷ xs) ys = referents-append xs ys
referents-append (entry.Weak r p ∷ xs) ys = ap (λ zs. entry.Weak r p ∷ zs) (referents-append xs ys)
referents-append (entry.Strong r p ∷ xs) ys = ap (λ zs. entry.Strong r p ∷ zs) (referents-append xs ys)

pub referents-twice : (xs : List Entry) → referents (referents xs) ≡ referents xs
referents-twice [] = refl
referents-twice (entry.Opener ∷ xs) = referents-twice xs
referents-twice (entry.Weak r p ∷ xs) = ap (λ zs. entry.Weak r p ∷ zs) (referents-twice xs)
referents-twice (entry.Strong r p ∷ xs) = ap (λ zs. entry.Strong r p ∷ zs) (referents-twice xs)

findings_alone : (tests : Tests) (list : List Entry) → filter_map (finding tests) list ≡ filter_map (finding tests) (referents list)
findings_alone tests [] = refl
findings_alone tests (entry.Opener ∷ xs) = findings_alone tests xs
findings_alone tests (entry.Weak r p ∷ xs) = ap (cons_option (finding_at tests r p)) (findings_alone tests xs)
findings_alone tests (entry.Strong r p ∷ xs) = ap (cons_option (finding_at tests r p)) (findings_alone tests xs)

agreeing_alone : (tests : List Test) (list : List Entry) → list_any (is_agreeing tests) list ≡ list_any (is_agreeing tests) (referents list)
agreeing_alone tests [] = refl
agreeing_alone tests (entry.Opener ∷ xs) = agreeing_alone tests xs
agreeing_alone tests (entry.Weak r p ∷ xs) = ap (λ b. is_agreeing tests (entry.Weak r p) || b) (agreeing_alone tests xs)
agreeing_alone tests (entry.Strong r p ∷ xs) = ap (λ b. is_agreeing tests (entry.Strong r p) || b) (agreeing_alone tests xs)

pub closest_same : (tests : Tests) (xs ys : List Entry) → referents xs ≡ referents ys → closest_finding tests xs ≡ closest_finding tests ys
closest_same tests xs ys e =
    ap last_of (findings_alone tests xs ∙ ap (filter_map (finding tests)) e ∙ sym (findings_alone tests ys))

pub agreeing_same : (tests : List Test) (xs ys : List Entry) → referents xs ≡ referents ys → list_any (is_agreeing tests) xs ≡ list_any (is_agreeing tests) ys
agreeing_same tests xs ys e =
    agreeing_alone tests xs ∙ ap (list_any (is_agreeing tests)) e ∙ sym (agreeing_alone tests ys)

-- the phrase adds the same to each of two lists that differ in openers alone
abbrev pub Parallel : Phrase → Type 0
Parallel p =
    (asked : Test) (place : ℕ) (one other : List Entry) (after : At) → referents one ≡ referents other
    → p asked (record { place = place; list = one }) ≡ Some after
    → (added : List Entry) × (after.list ≡ one ++ added)
    × (p asked (record { place = place; list = other }) ≡ Some (record { place = after.place; list = other ++ added }))

abbrev pub AllParallel : List Phrase → Type 0
AllParallel [] = Unit {0}
AllParallel (p ∷ ps) = Parallel p × AllParallel ps

abbrev pub relisted : Stand → List Entry → Stand
relisted stand list = moved stand stand.at.place list

-- what an element adds to a list, it adds to the other
pub record Adds (s : Setting) (values : List (ℕ × Value)) (es : List Element) (stand after : Stand) (other : List Entry) : Type 0 where
  pub added : List Entry
  pub grown : after.at.list ≡ stand.at.list ++ added
  pub same : run s values es (relisted stand other) ≡ Some (relisted after (other ++ added))
  pub parallel : AllParallel after.children

-- a stand that stays where it is, or moves to another place
stays : (s : Setting) (values : List (ℕ × Value)) (e : Element) (stand after : Stand) (other : List Entry) → after.at.list ≡ stand.at.list
    → AllParallel after.children → pass s values e (relisted stand other) ≡ Some (relisted after other) → Adds s values (e ∷ []) stand after other
stays s values e stand after other list par h = record {
  added = [];
  grown = list ∙ sym (append-nil stand.at.list);
  same = ap (option_and_then (run s values [])) h ∙ ap (λ l. Some (relisted after l)) (sym (append-nil other));
  parallel = par;
}

enters : (s : Setting) (values : List (ℕ × Value)) (e : Element) (stand after : Stand) (other : List Entry) (x : Entry)
    → after.at.list ≡ stand.at.list ++ x ∷ [] → AllParallel after.children → pass s values e (relisted stand other) ≡ Some (relisted after (other ++ x ∷ []))
    → Adds s values (e ∷ []) stand after other
enters s values e stand after other x list par h = record {
  added = x ∷ [];
  grown = list;
  same = ap (option_and_then (run s values [])) h;
  parallel = par;
}

child_adds : (s : Setting) (values : List (ℕ × Value)) (c : Category) (stand after : Stand) (other : List Entry) (ps : List Phrase) → stand.children ≡ ps
    → referents stand.at.list ≡ referents other → AllParallel ps → pass_child (under values c) ps stand ≡ Some after
    → Adds s values (Sub c ∷ []) stand after other
child_adds s values c stand after other [] is same par h = absurd (cc)
child_adds s values c stand after other (p ∷ ps) is same par h =
    option_and_then_some _ (p (under values c) stand.at) after h (λ a led e.
    let is_after = same_Some _ _ e in
    let grown = par.0 (under values c) stand.at.place stand.at.list other a same led in
    record {
      added = grown.0;
      grown = sym (ap (λ st. st.at.list) is_after) ∙ grown.1;
      same = ap (λ cs. option_and_then (run s values []) (pass_child (under values c) cs (relisted stand other))) is
          ∙ ap (λ o. option_and_then (run s values [])
          (option_and_then (λ at. Some (record { at = at; found = stand.found; own = stand.own; children = ps })) o)) grown.2
          ∙ ap (λ st. Some (relisted st (other ++ grown.0))) is_after;
      parallel = subst AllParallel (ap (λ st. st.children) is_after) par.1;
    })

finding_adds : (s : Setting) (values : List (ℕ × Value)) (positive negative : List Pattern) (stand after : Stand) (other : List Entry) (found : List ℕ)
    → stand.found ≡ found → referents stand.at.list ≡ referents other → AllParallel stand.children
    → pass_finding values positive (closest_finding (reference_tests values positive negative) stand.at.list) found stand ≡ Some after
    → Adds s values (Back positive negative ∷ []) stand after other
finding_adds s values positive negative stand after other [] is same par h = absurd (cc)
finding_adds s values positive negative stand after other (pos ∷ rest) is same par h =
    if_some (is_found values positive pos (closest_finding (reference_tests values positive negative) stand.at.list)) _ after h (λ b e.
    stays s values (Back positive negative) stand after other (sym (ap (λ st. st.at.list) e)) (subst AllParallel (ap (λ st. st.children) e) par)
    (ap (λ f. pass_finding values positive (closest_finding (reference_tests values positive negative) other) f (relisted stand other)) is
    ∙ if_true _ _ _ (ap (is_found values positive pos) (closest_same (reference_tests values positive negative) other stand.at.list (sym same)) ∙ b)
    (ap (λ st. relisted st other) e)))

pub pass_adds : (s : Setting) (values : List (ℕ × Value)) (e : Element) (stand after : Stand) (other : List Entry) → referents stand.at.list ≡ referents other
    → AllParallel stand.children → pass s values e stand ≡ Some after → Adds s values (e ∷ []) stand after other
pass_adds s values (Terminal t) stand after other same par h =
    if_some (matches_terminal s t stand.at.place) _ after h
    (λ b e. stays s values (Terminal t) stand after other (sym (ap (λ st. st.at.list) e)) (subst AllParallel (ap (λ st. st.children) e) par)
    (if_true _ _ _ b (ap (λ st. relisted st other) e)))
pass_adds s values (Preterminal c) stand after other same par h =
    if_some (matches_preterminal s (under values c) stand.at.place) _ after h
    (λ b e. stays s values (Preterminal c) stand after other (sym (ap (λ st. st.at.list) e)) (subst AllParallel (ap (λ st. st.children) e) par)
    (if_true _ _ _ b (ap (λ st. relisted st other) e)))
pass_adds s values (Sub c) stand after other same par h = child_adds s values c stand after other stand.children refl same par h
pass_adds s values (Position x) stand after other same par h =
    if_some (same_value (value_under values x) (Pos stand.at.place)) _ after h
    (λ b e. stays s values (Position x) stand after other (sym (ap (λ st. st.at.list) e)) (subst AllParallel (ap (λ st. st.children) e) par)
    (if_true _ _ _ b (ap (λ st. relisted st other) e)))
pass_adds s values Opener stand after other same par h =
    let e = same_Some _ _ h in
    enters s values Opener stand after other entry.Opener (sym (ap (λ st. st.at.list) e)) (subst AllParallel (ap (λ st. st.children) e) par)
    (ap (λ st. Some (relisted st (other ++ entry.Opener ∷ []))) e)
pass_adds s values (Forward c) stand after other same par h =
    let e = same_Some _ _ h in
    let x = introduced (referent s.grammar values c stand.own) stand.at.place false in
    enters s values (Forward c) stand after other x (sym (ap (λ st. st.at.list) e)) (subst AllParallel (ap (λ st. st.children) e) par)
    (ap (λ st. Some (relisted st (other ++ x ∷ []))) e)
pass_adds s values (Strong c) stand after other same par h =
    let e = same_Some _ _ h in
    let x = introduced (referent s.grammar values c stand.own) stand.at.place true in
    enters s values (Strong c) stand after other x (sym (ap (λ st. st.at.list) e)) (subst AllParallel (ap (λ st. st.children) e) par)
    (ap (λ st. Some (relisted st (other ++ x ∷ []))) e)
pass_adds s values (Back positive negative) stand after other same par h =
    finding_adds s values positive negative stand after other stand.found refl same par h
pass_adds s values (NoBack patterns) stand after other same par h =
    unless_some (list_any (is_agreeing (tests_under values patterns)) stand.at.list) _ after h
    (λ b e. stays s values (NoBack patterns) stand after other (sym (ap (λ st. st.at.list) e)) (subst AllParallel (ap (λ st. st.children) e) par)
    (if_false _ _ _ (agreeing_same (tests_under values patterns) other stand.at.list (sym same) ∙ b) (ap (λ st. relisted st other) e)))

run_one : (s : Setting) (values : List (ℕ × Value)) (e : Element) (stand after : Stand) → run s values (e ∷ []) stand ≡ Some after
    → pass s values e stand ≡ Some after
run_one s values e stand after h = option_and_then_some (run s values []) (pass s values e stand) after h (λ x is same. is ∙ same)

pub run_adds : (s : Setting) (values : List (ℕ × Value)) (es : List Element) (stand after : Stand) (other : List Entry)
    → referents stand.at.list ≡ referents other → AllParallel stand.children → run s values es stand ≡ Some after → Adds s values es stand after other
run_adds s values [] stand after other same par h =
    let e = same_Some _ _ h in
    record {
      added = [];
      grown = sym (ap (λ st. st.at.list) e) ∙ sym (append-nil stand.at.list);
      same = ap (λ st. Some (relisted st other)) e ∙ ap (λ l. Some (relisted after l)) (sym (append-nil other));
      parallel = subst AllParallel (ap (λ st. st.children) e) par;
    }
run_adds s values (e ∷ es) stand after other same par h =
    option_and_then_some (run s values es) (pass s values e stand) after h (λ mid first rest.
    let a = pass_adds s values e stand mid other same par first in
    let b = run_adds s values es mid after (other ++ a.added)
    (ap referents a.grown ∙ referents-append stand.at.list a.added ∙ ap (λ r. r ++ referents a.added) same ∙ sym (referents-append other a.added))
    a.parallel rest in
    record {
      added = a.added ++ b.added;
      grown = b.grown ∙ ap (λ l. l ++ b.added) a.grown ∙ append_assoc stand.at.list a.added b.added;
      same = ap (option_and_then (run s values es)) (run_one s values e _ _ a.same) ∙ b.same
          ∙ ap (λ l. Some (relisted after l)) (append_assoc other a.added b.added);
      parallel = b.parallel;
    })

-- what is left of what a phrase has added
abbrev pub left_open : Bool → List Entry → List Entry
left_open closing added = if closing then closed added else added

pub list_after_is : (closing : Bool) (begun added : List Entry) → list_after closing begun (begun ++ added) ≡ begun ++ left_open closing added
list_after_is true begun added = ap (λ l. begun ++ closed l) (drop-append_seam begun added)
list_after_is false begun added = refl

phrase_parallel : (s : Setting) (rule : Rule) (values : List (ℕ × Value)) (found : List ℕ) (ps : List Phrase) → AllParallel ps
    → Parallel (phrase s rule values found ps)
phrase_parallel s rule values found ps par asked place one other after same h =
    option_and_then_some _ (begun s rule values found ps asked (record { place = place; list = one })) after h (λ start starts runs.
    if_some (fits (under values rule.head) asked && is_instance s rule values) _ start starts (λ b is_start.
    option_and_then_some (ended rule one) (run s values rule.body start) after runs (λ last ran ends.
    let first : Stand = record { at = record { place = place; list = one }; found = found; own = own_values rule values; children = ps } in
    let a = run_adds s values rule.body first last other same par (ap (run s values rule.body) is_start ∙ ran) in
    if_some (is_none_left last.found && is_none_left last.children) _ after ends (λ none_left is_after. (
      left_open rule.closing a.added,
      sym (ap (λ x. x.list) is_after) ∙ ap (list_after rule.closing one) a.grown ∙ list_after_is rule.closing one a.added,
      ap (option_and_then (λ stand. option_and_then (ended rule other) (run s values rule.body stand))) (if_true _ _ (relisted first other) b refl)
          ∙ ap (option_and_then (ended rule other)) a.same
          ∙ if_true _ _ _ none_left (ap (λ x. record { place = x.place; list = list_after rule.closing other (other ++ a.added) }) is_after
          ∙ ap (λ l. record { place = after.place; list = l }) (list_after_is rule.closing other a.added)),
    )))))

mutual
  pub node_parallel : (s : Setting) (n : Node) → Parallel (phrase_of s n)
  node_parallel s (node number values found ns) asked place one other after same h =
      option_and_then_some _ (rule_with s.grammar number) after h (λ rule has leads.
      let a = phrase_parallel s rule values found (phrases_of s ns) (nodes_parallel s ns) asked place one other after same leads in
      (a.0, a.1, ap (option_and_then (λ r. phrase s r values found (phrases_of s ns) asked (record { place = place; list = other }))) has ∙ a.2))

  pub nodes_parallel : (s : Setting) (ns : Nodes) → AllParallel (phrases_of s ns)
  nodes_parallel s none = tt
  nodes_parallel s (more n ns) = (node_parallel s n, nodes_parallel s ns)

-- a phrase leads from a list as it does from the same list without openers
pub leads_alike : (s : Setting) (asked : Test) (place : ℕ) (one other : List Entry) (after : At) → referents one ≡ referents other
    → Leads s asked (record { place = place; list = one }) after
    → (added : List Entry) × (after.list ≡ one ++ added)
    × Leads s asked (record { place = place; list = other }) (record { place = after.place; list = other ++ added })
leads_alike s asked place one other after same h =
    let a = node_parallel s h.0 asked place one other after same h.1 in
    (a.0, a.1, (h.0, a.2))
