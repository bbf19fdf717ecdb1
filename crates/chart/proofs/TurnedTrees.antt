-- Trees and cut-off nodes lead on, where other numbers are given to words, as far as the settings are alike.
use Rattle.std.proofs.Common.{◌≡◌, ℕ, suc, zero, ◌+◌, ◌<◌, ◌≤◌, List, [], ◌∷◌, ◌++◌, Bool, true, false, ◌&&◌, length, drop, take, Option, Some, None, refl, sym, ap, ◌∙◌, subst, arith}
use Rattle.std.specs.Prelude.{option_and_then, option_map, slice_get}
use Rattle.std.specs.List.{list_any}
use Rattle.std.proofs.lemmas.List.{map-append, drop-map}
use Rattle.std.proofs.lemmas.Option.{option_and_then_some, same_Some}
use Rattle.std.proofs.lemmas.Bool.{and_from}
use Rattle.wiki_base.proofs.ListLaws.{length_mapped}
use Rattle.codeco_terms.specs.declared.values.Value.TheVariants.{Pos}
use Rattle.codeco_terms.specs.declared.categories.Category.{Category}
use Rattle.codeco_terms.specs.declared.categories.Pattern.{Pattern}
use Rattle.codeco_terms.specs.declared.categories.Ground.{Ground}
use Rattle.codeco_terms.specs.declared.categories.Ground.{Ground}
use Rattle.codeco_terms.specs.declared.elements.Element.{Element}
use Rattle.codeco_terms.specs.declared.elements.Element.TheVariants.{Terminal, Preterminal, Sub, Position, Opener, Forward, Strong, Back, NoBack}
use Rattle.codeco_terms.specs.declared.rules.Rule.{Rule}
use Rattle.codeco_terms.specs.GrammarParts.{GrammarParts}
use Rattle.codeco_terms.specs.Values.{same_value}
use Rattle.scopes.specs.declared.entries.Entry.{Entry}
use Rattle.scopes.specs.declared.entries.Entry.TheVariants as entry
use Rattle.scopes.specs.declared.agreement.Test.{Test}
use Rattle.scopes.specs.AccessList.{closed, introduced}
use Rattle.scopes.specs.Resolution.{is_agreeing, closest_finding, agrees}
use Rattle.derivation_trees.specs.Trees.{Node, Nodes, node, none, more}
use Rattle.derivation_trees.specs.Settings.{Setting, matches_terminal, matches_preterminal}
use Rattle.derivation_trees.specs.Instances.{value_under, under, tests_under, own_values, is_instance, features_of}
use Rattle.derivation_trees.specs.Derives.{At, Phrase, Stand, moved, pass, run, pass_child, pass_introduction, pass_finding, is_found, reference_tests, referent, own_rest, is_none_left, list_after, ended, fits, begun, phrase, rule_with, phrase_of, phrases_of}
use Rattle.derivation_trees.specs.Partial.{CutNode, stopped, entered, used_up, front, next_category, sub_of, front_of, cut_end}
use Rattle.chart_table.specs.declared.asks.Ask.{Ask}
use Rattle.chart_table.specs.declared.asks.Ask.TheVariants as ask
use Rattle.chart_table.specs.Asks.{takes_reading, meets, CutMeets, AskLeads}
use Rattle.chart_table.proofs.PassLemmas.{if_some, unless_some, if_true, if_false, both_true}
use Rattle.chart_table.proofs.AskLemmas.{place_some, met_in}
use Rattle.chart.proofs.TurnedLemmas.{Binds, IsTurn, turned_all, turned_ground, turned_test, turned_entry, turned_list, Alike, AllWritten, PatternsWritten, value_same, value_turned, under_turned, tests_turned, none_turned, closest_turned, closed_turned, introduced_turned, rest_turned, referent_turned, fits_turned, found_turned, reference_turned, preterminal_turned, agrees_turned, own_values_turned, instance_turned}

abbrev pub turned_at : (ℕ → ℕ) → At → At
turned_at h at = record { place = at.place; list = turned_list h at.list }

abbrev pub turned_stand : (ℕ → ℕ) → Stand → List Phrase → Stand
turned_stand h stand kids = record { at = turned_at h stand.at; found = stand.found; own = turned_all h stand.own; children = kids }

-- the one phrase leads forward, and the other, up to a place, where it does, with other numbers for words
abbrev pub Turning : ℕ → (ℕ → ℕ) → Phrase → Phrase → Type 0
Turning n h p q =
    (asked : Test) (at after : At) → p asked at ≡ Some after
    → (at.place ≤ after.place) × (after.place ≤ n → q (turned_test h asked) (turned_at h at) ≡ Some (turned_at h after))

abbrev pub AllTurning : ℕ → (ℕ → ℕ) → List Phrase → List Phrase → Type 0
AllTurning n h [] [] = Unit {0}
AllTurning n h [] (q ∷ qs) = ⊥
AllTurning n h (p ∷ ps) [] = ⊥
AllTurning n h (p ∷ ps) (q ∷ qs) = Turning n h p q × AllTurning n h ps qs

-- terms are atoms or variables
abbrev pub ElementWritten : Element → Type 0
ElementWritten (Preterminal c) = AllWritten c.feats
ElementWritten (Sub c) = AllWritten c.feats
ElementWritten (Forward c) = AllWritten c.feats
ElementWritten (Strong c) = AllWritten c.feats
ElementWritten (Back positive negative) = PatternsWritten positive × PatternsWritten negative
ElementWritten (NoBack patterns) = PatternsWritten patterns
ElementWritten _ = Unit {0}

abbrev pub BodyWritten : List Element → Type 0
BodyWritten [] = Unit {0}
BodyWritten (e ∷ es) = ElementWritten e × BodyWritten es

abbrev pub RuleWritten : Rule → Type 0
RuleWritten rule = AllWritten rule.head.feats × BodyWritten rule.body

abbrev pub RulesWritten : GrammarParts → Type 0
RulesWritten g = (number : ℕ) (rule : Rule) → rule_with g number ≡ Some rule → RuleWritten rule

stays : (stand : Stand) → stand.at.place ≤ stand.at.place
stays stand = omega arith

goes_on : (stand : Stand) → stand.at.place ≤ stand.at.place + 1
goes_on stand = omega arith

-- the place before a token that ends at a place or before it
token_before : (n : ℕ) (stand after : Stand) → moved stand (stand.at.place + 1) stand.at.list ≡ after → after.at.place ≤ n → stand.at.place < n
token_before n stand after is le =
    let next : stand.at.place + 1 ≡ after.at.place = ap (λ (st : Stand). st.at.place) is in omega arith

record Passed (n : ℕ) (h : ℕ → ℕ) (other : Setting) (vs : Binds) (e : Element) (stand after : Stand) (kids : List Phrase) : Type 0 where
  left : List Phrase
  turning : AllTurning n h after.children left
  forward : stand.at.place ≤ after.at.place
  same : after.at.place ≤ n → pass other (turned_all h vs) e (turned_stand h stand kids) ≡ Some (turned_stand h after left)

list_push : (h : ℕ → ℕ) (list : List Entry) (e : Entry) → turned_list h list ++ turned_entry h e ∷ [] ≡ turned_list h (list ++ e ∷ [])
list_push h list e = sym (map-append (turned_entry h) list (e ∷ []))

introduction_turned : (h : ℕ → ℕ) (g gg : GrammarParts) (vs : Binds) (c : Category) (strong : Bool) (stand : Stand) (kids : List Phrase) → gg ≡ g
    → AllWritten c.feats → pass_introduction gg (turned_all h vs) c strong (turned_stand h stand kids)
    ≡ turned_stand h (pass_introduction g vs c strong stand) kids
introduction_turned h g gg vs c strong stand kids e w =
    let r = referent g vs c stand.own in
    let intro : introduced (referent g (turned_all h vs) c (turned_all h stand.own)) stand.at.place strong
    ≡ turned_entry h (introduced r stand.at.place strong) =
    ap (λ x. introduced x stand.at.place strong) (referent_turned h g vs c stand.own w) ∙ introduced_turned h r stand.at.place strong in
    ap (λ x. pass_introduction x (turned_all h vs) c strong (turned_stand h stand kids)) e
    ∙ ap (λ x. record {
      at = record { place = stand.at.place; list = turned_list h stand.at.list ++ x ∷ [] };
      found = stand.found;
      own = own_rest c.feats (features_of g c.name) (turned_all h stand.own);
      children = kids;
    }) intro
    ∙ ap (λ l. record {
      at = record { place = stand.at.place; list = l };
      found = stand.found;
      own = own_rest c.feats (features_of g c.name) (turned_all h stand.own);
      children = kids;
    }) (list_push h stand.at.list (introduced r stand.at.place strong))
    ∙ ap (λ o. record {
      at = record { place = stand.at.place; list = turned_list h (stand.at.list ++ introduced r stand.at.place strong ∷ []) };
      found = stand.found;
      own = o;
      children = kids;
    }) (rest_turned h c.feats (features_of g c.name) stand.own)

child_turned : (n : ℕ) (h : ℕ → ℕ) → IsTurn h → (other : Setting) (vs : Binds) (c : Category) (stand after : Stand) (kids ps qs : List Phrase)
    → AllWritten c.feats → AllTurning n h ps qs → pass_child (under vs c) ps stand ≡ Some after
    → (left : List Phrase) × AllTurning n h after.children left × (stand.at.place ≤ after.at.place)
    × (after.at.place ≤ n → pass_child (under (turned_all h vs) c) qs (turned_stand h stand kids) ≡ Some (turned_stand h after left))
child_turned n h t other vs c stand after kids [] qs w par e = absurd (cc)
child_turned n h t other vs c stand after kids (p ∷ ps) [] w par e = absurd par
child_turned n h t other vs c stand after kids (p ∷ ps) (q ∷ qs) w par e =
    option_and_then_some _ (p (under vs c) stand.at) after e (λ a led is.
    let is_after = same_Some _ _ is in
    let one = par.0 (under vs c) stand.at a led in
    let place : a.place ≡ after.at.place = ap (λ (st : Stand). st.at.place) is_after in
    let leads : a.place ≤ n → q (under (turned_all h vs) c) (turned_at h stand.at) ≡ Some (turned_at h a) =
    λ le. ap (λ x. q x (turned_at h stand.at)) (under_turned h vs c w) ∙ one.1 le in (
      qs,
      subst (λ st. AllTurning n h st.children qs) is_after par.1,
      subst (λ m. stand.at.place ≤ m) place one.0,
      λ le. ap (option_and_then (λ at. Some (record { at = at; found = stand.found; own = turned_all h stand.own; children = qs })))
          (leads (subst (λ m. m ≤ n) (sym place) le)) ∙ ap (λ st. Some (turned_stand h st qs)) is_after,
    ))

finding_turned_on : (n : ℕ) (h : ℕ → ℕ) → IsTurn h
    → (other : Setting) (vs : Binds) (positive negative : List Pattern) (stand after : Stand) (kids : List Phrase) (found : List ℕ) → PatternsWritten positive
    → PatternsWritten negative → AllTurning n h stand.children kids
    → pass_finding vs positive (closest_finding (reference_tests vs positive negative) stand.at.list) found stand ≡ Some after
    → AllTurning n h after.children kids × (stand.at.place ≤ after.at.place)
    × (pass_finding (turned_all h vs) positive (closest_finding (reference_tests (turned_all h vs) positive negative) (turned_list h stand.at.list)) found
    (turned_stand h stand kids) ≡ Some (turned_stand h after kids))
finding_turned_on n h t other vs positive negative stand after kids [] w v par e = absurd (cc)
finding_turned_on n h t other vs positive negative stand after kids (pos ∷ rest) w v par e =
    let tests = reference_tests vs positive negative in
    if_some (is_found vs positive pos (closest_finding tests stand.at.list)) _ after e (λ b is.
    let finds = ap (λ ts. is_found (turned_all h vs) positive pos (closest_finding ts (turned_list h stand.at.list)))
    (reference_turned h vs positive negative w v) ∙ ap (is_found (turned_all h vs) positive pos) (closest_turned h t tests stand.at.list)
    ∙ found_turned h t vs positive pos (closest_finding tests stand.at.list) ∙ b in (
      subst (λ st. AllTurning n h st.children kids) is par,
      subst (λ (st : Stand). stand.at.place ≤ st.at.place) is (stays stand),
      if_true _ _ _ finds (ap (λ st. turned_stand h st kids) is),
    ))

pass_turned : (n : ℕ) (h : ℕ → ℕ) → IsTurn h → (s other : Setting) → Alike n h s other → (vs : Binds) (e : Element) (stand after : Stand) (kids : List Phrase)
    → ElementWritten e → AllTurning n h stand.children kids → pass s vs e stand ≡ Some after → Passed n h other vs e stand after kids
pass_turned n h t s other a vs (Terminal x) stand after kids w par e =
    if_some (matches_terminal s x stand.at.place) _ after e
    (λ b is. record {
      left = kids;
      turning = subst (λ st. AllTurning n h st.children kids) is par;
      forward = subst (λ (st : Stand). stand.at.place ≤ st.at.place) is (goes_on stand);
      same = λ le. if_true _ _ _ (a.terminals x stand.at.place (token_before n stand after is le) ∙ b) (ap (λ st. turned_stand h st kids) is);
    })
pass_turned n h t s other a vs (Preterminal c) stand after kids w par e =
    if_some (matches_preterminal s (under vs c) stand.at.place) _ after e (λ b is.
    let reads : stand.at.place < n → matches_preterminal other (under (turned_all h vs) c) stand.at.place ≡ true =
    λ lt. ap (λ x. matches_preterminal other x stand.at.place) (under_turned h vs c w) ∙ preterminal_turned n h t s other a (under vs c) stand.at.place lt
    ∙ b in
    record {
      left = kids;
      turning = subst (λ st. AllTurning n h st.children kids) is par;
      forward = subst (λ (st : Stand). stand.at.place ≤ st.at.place) is (goes_on stand);
      same = λ le. if_true _ _ _ (reads (token_before n stand after is le)) (ap (λ st. turned_stand h st kids) is);
    })
pass_turned n h t s other a vs (Sub c) stand after kids w par e =
    let r = child_turned n h t other vs c stand after kids stand.children kids w par e in
    record { left = r.0; turning = r.1; forward = r.2; same = r.3 }
pass_turned n h t s other a vs (Position x) stand after kids w par e =
    if_some (same_value (value_under vs x) (Pos stand.at.place)) _ after e (λ b is.
    let at = ap (λ v. same_value v (Pos stand.at.place)) (value_turned h vs x) ∙ value_same h t (value_under vs x) (Pos stand.at.place) ∙ b in
    record {
      left = kids;
      turning = subst (λ st. AllTurning n h st.children kids) is par;
      forward = subst (λ (st : Stand). stand.at.place ≤ st.at.place) is (stays stand);
      same = λ le. if_true _ _ _ at (ap (λ st. turned_stand h st kids) is);
    })
pass_turned n h t s other a vs Opener stand after kids w par e =
    let is = same_Some _ _ e in
    record {
      left = kids;
      turning = subst (λ st. AllTurning n h st.children kids) is par;
      forward = subst (λ (st : Stand). stand.at.place ≤ st.at.place) is (stays stand);
      same =
          λ le. ap (λ l. Some (moved (turned_stand h stand kids) stand.at.place l)) (list_push h stand.at.list entry.Opener)
          ∙ ap (λ st. Some (turned_stand h st kids)) is;
    }
pass_turned n h t s other a vs (Forward c) stand after kids w par e =
    let is = same_Some _ _ e in
    record {
      left = kids;
      turning = subst (λ st. AllTurning n h st.children kids) is par;
      forward = subst (λ (st : Stand). stand.at.place ≤ st.at.place) is (stays stand);
      same = λ le. ap Some (introduction_turned h s.grammar other.grammar vs c false stand kids a.grammar w) ∙ ap (λ st. Some (turned_stand h st kids)) is;
    }
pass_turned n h t s other a vs (Strong c) stand after kids w par e =
    let is = same_Some _ _ e in
    record {
      left = kids;
      turning = subst (λ st. AllTurning n h st.children kids) is par;
      forward = subst (λ (st : Stand). stand.at.place ≤ st.at.place) is (stays stand);
      same = λ le. ap Some (introduction_turned h s.grammar other.grammar vs c true stand kids a.grammar w) ∙ ap (λ st. Some (turned_stand h st kids)) is;
    }
pass_turned n h t s other a vs (Back positive negative) stand after kids w par e =
    let r = finding_turned_on n h t other vs positive negative stand after kids stand.found w.0 w.1 par e in
    record { left = kids; turning = r.0; forward = r.1; same = λ le. r.2 }
pass_turned n h t s other a vs (NoBack patterns) stand after kids w par e =
    unless_some (list_any (is_agreeing (tests_under vs patterns)) stand.at.list) _ after e (λ b is.
    let none = ap (λ ts. list_any (is_agreeing ts) (turned_list h stand.at.list)) (tests_turned h vs patterns w)
    ∙ none_turned h t (tests_under vs patterns) stand.at.list ∙ b in
    record {
      left = kids;
      turning = subst (λ st. AllTurning n h st.children kids) is par;
      forward = subst (λ (st : Stand). stand.at.place ≤ st.at.place) is (stays stand);
      same = λ le. if_false _ _ _ none (ap (λ st. turned_stand h st kids) is);
    })

record Ran (n : ℕ) (h : ℕ → ℕ) (other : Setting) (vs : Binds) (es : List Element) (stand after : Stand) (kids : List Phrase) : Type 0 where
  left : List Phrase
  turning : AllTurning n h after.children left
  forward : stand.at.place ≤ after.at.place
  same : after.at.place ≤ n → run other (turned_all h vs) es (turned_stand h stand kids) ≡ Some (turned_stand h after left)

run_turned : (n : ℕ) (h : ℕ → ℕ) → IsTurn h → (s other : Setting) → Alike n h s other
    → (vs : Binds) (es : List Element) (stand after : Stand) (kids : List Phrase) → BodyWritten es → AllTurning n h stand.children kids
    → run s vs es stand ≡ Some after → Ran n h other vs es stand after kids
run_turned n h t s other a vs [] stand after kids w par e =
    let is = same_Some _ _ e in
    record {
      left = kids;
      turning = subst (λ st. AllTurning n h st.children kids) is par;
      forward = subst (λ (st : Stand). stand.at.place ≤ st.at.place) is (stays stand);
      same = λ le. ap (λ st. Some (turned_stand h st kids)) is;
    }
run_turned n h t s other a vs (x ∷ es) stand after kids w par e =
    option_and_then_some (run s vs es) (pass s vs x stand) after e (λ mid first rest.
    let one = pass_turned n h t s other a vs x stand mid kids w.0 par first in
    let more_left = run_turned n h t s other a vs es mid after one.left w.1 one.turning rest in
    let before : stand.at.place ≤ mid.at.place = one.forward in
    let behind : mid.at.place ≤ after.at.place = more_left.forward in
    record {
      left = more_left.left;
      turning = more_left.turning;
      forward = omega arith;
      same = λ le. let within : mid.at.place ≤ n = omega arith in
          ap (option_and_then (run other (turned_all h vs) es)) (one.same within) ∙ more_left.same le;
    })

none_left_turned : (n : ℕ) (h : ℕ → ℕ) (ps qs : List Phrase) → AllTurning n h ps qs → is_none_left qs ≡ is_none_left ps
none_left_turned n h [] [] par = refl
none_left_turned n h [] (q ∷ qs) par = absurd par
none_left_turned n h (p ∷ ps) [] par = absurd par
none_left_turned n h (p ∷ ps) (q ∷ qs) par = refl

list_after_turned : (h : ℕ → ℕ) (closing : Bool) (begins list : List Entry)
    → list_after closing (turned_list h begins) (turned_list h list) ≡ turned_list h (list_after closing begins list)
list_after_turned h true begins list =
    ap (λ n. turned_list h begins ++ closed (drop n (turned_list h list))) (length_mapped (turned_entry h) begins)
    ∙ ap (λ l. turned_list h begins ++ closed l) (drop-map (turned_entry h) (length begins) list)
    ∙ ap (λ l. turned_list h begins ++ l) (closed_turned h (drop (length begins) list))
    ∙ sym (map-append (turned_entry h) begins (closed (drop (length begins) list)))
list_after_turned h false begins list = refl

-- where a node begins
abbrev opening : Rule → Binds → List ℕ → List Phrase → At → Stand
opening rule vs found ps at = record { at = at; found = found; own = own_values rule vs; children = ps }

begun_turned : (n : ℕ) (h : ℕ → ℕ) → IsTurn h → (s other : Setting) → Alike n h s other
    → (rule : Rule) (vs : Binds) (found : List ℕ) (ps qs : List Phrase) (asked : Test) (at : At) → AllWritten rule.head.feats
    → (fits (under vs rule.head) asked && is_instance s rule vs) ≡ true
    → begun other rule (turned_all h vs) found qs (turned_test h asked) (turned_at h at) ≡ Some (turned_stand h (opening rule vs found ps at) qs)
begun_turned n h t s other a rule vs found ps qs asked at w b =
    both_true (fits (under vs rule.head) asked) (is_instance s rule vs) b (λ head instance.
    let head_is = ap (λ x. fits x (turned_test h asked)) (under_turned h vs rule.head w) ∙ fits_turned h t (under vs rule.head) asked ∙ head in
    if_true _ _ _ (and_from _ _ head_is (instance_turned n h t s other a rule vs ∙ instance))
    (ap (λ o. record { at = turned_at h at; found = found; own = o; children = qs }) (own_values_turned h rule vs)))

phrase_turned : (n : ℕ) (h : ℕ → ℕ) → IsTurn h → (s other : Setting) → Alike n h s other → (rule : Rule) (vs : Binds) (found : List ℕ) (ps qs : List Phrase)
    → RuleWritten rule → AllTurning n h ps qs → Turning n h (phrase s rule vs found ps) (phrase other rule (turned_all h vs) found qs)
phrase_turned n h t s other a rule vs found ps qs w par asked at after e =
    option_and_then_some _ (begun s rule vs found ps asked at) after e (λ start starts runs.
    if_some (fits (under vs rule.head) asked && is_instance s rule vs) _ start starts (λ b is_start.
    option_and_then_some (ended rule at.list) (run s vs rule.body start) after runs (λ last ran ends.
    let r = run_turned n h t s other a vs rule.body (opening rule vs found ps at) last qs w.1 par (ap (run s vs rule.body) is_start ∙ ran) in
    if_some (is_none_left last.found && is_none_left last.children) _ after ends (λ none_left is_after.
    let none_too = ap (λ x. is_none_left last.found && x) (none_left_turned n h last.children r.left r.turning) ∙ none_left in
    let place : last.at.place ≡ after.place = ap (λ (x : At). x.place) is_after in (
      subst (λ m. at.place ≤ m) place r.forward,
      λ le. ap (option_and_then (λ stand. option_and_then (ended rule (turned_list h at.list)) (run other (turned_all h vs) rule.body stand)))
          (begun_turned n h t s other a rule vs found ps qs asked at w.0 b)
          ∙ ap (option_and_then (ended rule (turned_list h at.list))) (r.same (subst (λ m. m ≤ n) (sym place) le))
          ∙ if_true _ _ _ none_too (ap (λ l. record { place = last.at.place; list = l }) (list_after_turned h rule.closing at.list last.at.list)
          ∙ ap (turned_at h) is_after),
    )))))

abbrev mutual
  turned_node : (ℕ → ℕ) → Node → Node
  turned_node h (node number vs found ns) = node number (turned_all h vs) found (turned_nodes h ns)

  turned_nodes : (ℕ → ℕ) → Nodes → Nodes
  turned_nodes h none = none
  turned_nodes h (more n ns) = more (turned_node h n) (turned_nodes h ns)

mutual
  node_turned : (n : ℕ) (h : ℕ → ℕ) → IsTurn h → (s other : Setting) → Alike n h s other → RulesWritten s.grammar → (tree : Node)
      → Turning n h (phrase_of s tree) (phrase_of other (turned_node h tree))
  node_turned n h t s other a w (node number vs found ns) asked at after e =
      option_and_then_some _ (rule_with s.grammar number) after e (λ rule has leads.
      let one = phrase_turned n h t s other a rule vs found (phrases_of s ns) (phrases_of other (turned_nodes h ns)) (w number rule has)
      (nodes_turned n h t s other a w ns) asked at after leads in (
        one.0,
        λ le. ap (λ g. option_and_then
            (λ r. phrase other r (turned_all h vs) found (phrases_of other (turned_nodes h ns)) (turned_test h asked) (turned_at h at)) (rule_with g number))
            a.grammar ∙ ap (option_and_then
            (λ r. phrase other r (turned_all h vs) found (phrases_of other (turned_nodes h ns)) (turned_test h asked) (turned_at h at))) has ∙ one.1 le,
      ))

  nodes_turned : (n : ℕ) (h : ℕ → ℕ) → IsTurn h → (s other : Setting) → Alike n h s other → RulesWritten s.grammar → (ns : Nodes)
      → AllTurning n h (phrases_of s ns) (phrases_of other (turned_nodes h ns))
  nodes_turned n h t s other a w none = tt
  nodes_turned n h t s other a w (more tree ns) = (node_turned n h t s other a w tree, nodes_turned n h t s other a w ns)

-- cut-off nodes

take_written : (n : ℕ) (es : List Element) → BodyWritten es → BodyWritten (take n es)
take_written zero es w = tt
take_written (suc n) [] w = tt
take_written (suc n) (e ∷ es) w = (w.0, take_written n es w.1)

record Fronted (n : ℕ) (h : ℕ → ℕ) (other : Setting) (rule : Rule) (vs : Binds) (found : List ℕ) (qs : List Phrase) (count : ℕ) (asked : Test) (at : At)
    (stand : Stand) : Type 0 where
  forward : at.place ≤ stand.at.place
  left : List Phrase
  same : stand.at.place ≤ n → front other rule (turned_all h vs) found qs count (turned_test h asked) (turned_at h at) ≡ Some (turned_stand h stand left)

front_turned : (n : ℕ) (h : ℕ → ℕ) → IsTurn h → (s other : Setting) → Alike n h s other
    → (rule : Rule) (vs : Binds) (found : List ℕ) (ps qs : List Phrase) (count : ℕ) (asked : Test) (at : At) (stand : Stand) → RuleWritten rule
    → AllTurning n h ps qs → front s rule vs found ps count asked at ≡ Some stand → Fronted n h other rule vs found qs count asked at stand
front_turned n h t s other a rule vs found ps qs count asked at stand w par e =
    option_and_then_some _ (begun s rule vs found ps asked at) stand e (λ start starts runs.
    if_some (fits (under vs rule.head) asked && is_instance s rule vs) _ start starts (λ b is_start.
    option_and_then_some used_up (run s vs (take count rule.body) start) stand runs (λ last ran used.
    let r = run_turned n h t s other a vs (take count rule.body) (opening rule vs found ps at) last qs (take_written count rule.body w.1) par
    (ap (run s vs (take count rule.body)) is_start ∙ ran) in
    if_some (is_none_left last.found && is_none_left last.children) last stand used (λ none_left is_last.
    let none_too = ap (λ x. is_none_left last.found && x) (none_left_turned n h last.children r.left r.turning) ∙ none_left in
    let place : last.at.place ≡ stand.at.place = ap (λ (st : Stand). st.at.place) is_last in
    record {
      forward = subst (λ m. at.place ≤ m) place r.forward;
      left = r.left;
      same = λ le. ap (option_and_then (λ st. option_and_then used_up (run other (turned_all h vs) (take count rule.body) st)))
          (begun_turned n h t s other a rule vs found ps qs asked at w.0 b) ∙ ap (option_and_then used_up) (r.same (subst (λ m. m ≤ n) (sym place) le))
          ∙ if_true _ _ _ none_too (ap (λ st. turned_stand h st r.left) is_last);
    }))))

sub_written : (e : Element) (c : Category) → ElementWritten e → sub_of e ≡ Some c → AllWritten c.feats
sub_written (Terminal t) c v i = absurd (cc)
sub_written (Preterminal d) c v i = absurd (cc)
sub_written (Sub d) c v i = subst (λ x. AllWritten x.feats) (same_Some d c i) v
sub_written (Position x) c v i = absurd (cc)
sub_written Opener c v i = absurd (cc)
sub_written (Forward d) c v i = absurd (cc)
sub_written (Strong d) c v i = absurd (cc)
sub_written (Back p q) c v i = absurd (cc)
sub_written (NoBack p) c v i = absurd (cc)

next_written : (es : List Element) (k : ℕ) (c : Category) → BodyWritten es → option_and_then sub_of (slice_get es k) ≡ Some c → AllWritten c.feats
next_written [] k c v i = absurd (cc)
next_written (x ∷ es) zero c v i = sub_written x c v.0 i
next_written (x ∷ es) (suc k) c v i = next_written es k c v.1 i

-- what comes next, with other numbers for words

abbrev pub turned_ask : (ℕ → ℕ) → Ask → Ask
turned_ask h ask.Any = ask.Any
turned_ask h (ask.Terminal number) = ask.Terminal number
turned_ask h (ask.Reading reading) = ask.Reading (turned_ground h reading)

abbrev NextWritten : Option Element → Type 0
NextWritten None = Unit {0}
NextWritten (Some e) = ElementWritten e

next_is_written : (es : List Element) (k : ℕ) → BodyWritten es → NextWritten (slice_get es k)
next_is_written [] k w = tt
next_is_written (x ∷ es) zero w = w.0
next_is_written (x ∷ es) (suc k) w = next_is_written es k w.1

takes_turned_reading : (h : ℕ → ℕ) → IsTurn h → (vs : Binds) (r : Ground) (e : Element) → ElementWritten e
    → takes_reading (turned_all h vs) (turned_ground h r) e ≡ takes_reading vs r e
takes_turned_reading h t vs r (Terminal x) w = refl
takes_turned_reading h t vs r (Preterminal c) w = ap (agrees (turned_ground h r)) (under_turned h vs c w) ∙ agrees_turned h t r (under vs c)
takes_turned_reading h t vs r (Sub c) w = refl
takes_turned_reading h t vs r (Position x) w = refl
takes_turned_reading h t vs r Opener w = refl
takes_turned_reading h t vs r (Forward c) w = refl
takes_turned_reading h t vs r (Strong c) w = refl
takes_turned_reading h t vs r (Back p q) w = refl
takes_turned_reading h t vs r (NoBack p) w = refl

meets_turned : (h : ℕ → ℕ) → IsTurn h → (vs : Binds) (o : Option Element) (asks : Ask) → NextWritten o
    → meets (turned_all h vs) o (turned_ask h asks) ≡ meets vs o asks
meets_turned h t vs o ask.Any w = refl
meets_turned h t vs None (ask.Terminal number) w = refl
meets_turned h t vs (Some e) (ask.Terminal number) w = refl
meets_turned h t vs None (ask.Reading r) w = refl
meets_turned h t vs (Some e) (ask.Reading r) w = takes_turned_reading h t vs r e w

-- the cut-off node leads forward, and another one, up to a place, where it does and asks for the same, with other numbers for words
record CutTurned (n : ℕ) (h : ℕ → ℕ) (s other : Setting) (cut : CutNode) (asked : Test) (at : At) (halt : ℕ) : Type 0 where
  forward : at.place ≤ halt
  to : CutNode
  same : halt ≤ n → cut_end other to (turned_test h asked) (turned_at h at) ≡ Some halt
  meeting : (asks : Ask) → CutMeets s cut asks → CutMeets other to (turned_ask h asks)

cut_turned : (n : ℕ) (h : ℕ → ℕ) → IsTurn h → (s other : Setting) → Alike n h s other → RulesWritten s.grammar
    → (cut : CutNode) (asked : Test) (at : At) (halt : ℕ) → cut_end s cut asked at ≡ Some halt → CutTurned n h s other cut asked at halt
cut_turned n h t s other a w (stopped number vs found ns count) asked at halt e =
    place_some (λ (stand : Stand). stand.at.place) (front_of s number vs found ns count asked at) halt e (λ stand is place.
    option_and_then_some _ (rule_with s.grammar number) stand is (λ rule has fronts.
    let qs = phrases_of other (turned_nodes h ns) in
    let f = front_turned n h t s other a rule vs found (phrases_of s ns) qs count asked at stand (w number rule has) (nodes_turned n h t s other a w ns)
    fronts in
    record {
      forward = subst (λ m. at.place ≤ m) place f.forward;
      to = stopped number (turned_all h vs) found (turned_nodes h ns) count;
      same = λ le. ap (λ g. option_map (λ (st : Stand). st.at.place)
          (option_and_then (λ r. front other r (turned_all h vs) found qs count (turned_test h asked) (turned_at h at)) (rule_with g number))) a.grammar
          ∙ ap (λ o. option_map (λ (st : Stand). st.at.place)
          (option_and_then (λ r. front other r (turned_all h vs) found qs count (turned_test h asked) (turned_at h at)) o)) has
          ∙ ap (option_map (λ (st : Stand). st.at.place)) (f.same (subst (λ m. m ≤ n) (sym place) le)) ∙ ap Some place;
      meeting = λ asks m. (
        rule,
        ap (λ g. rule_with g number) a.grammar ∙ has,
        meets_turned h t vs (slice_get rule.body count) asks (next_is_written rule.body count (w number rule has).1)
            ∙ met_in s number rule vs found ns count asks has m,
      );
    }))
cut_turned n h t s other a w (entered number vs found ns count child) asked at halt e =
    option_and_then_some _ (front_of s number vs found ns count asked at) halt e (λ stand is ends.
    option_and_then_some _ (rule_with s.grammar number) stand is (λ rule has fronts.
    option_and_then_some (λ category. cut_end s child (under vs category) stand.at) (option_and_then (λ r. next_category r count) (rule_with s.grammar number))
    halt ends (λ c next deep.
    let qs = phrases_of other (turned_nodes h ns) in
    let f = front_turned n h t s other a rule vs found (phrases_of s ns) qs count asked at stand (w number rule has) (nodes_turned n h t s other a w ns)
    fronts in
    let next_is : next_category rule count ≡ Some c = sym (ap (option_and_then (λ r. next_category r count)) has) ∙ next in
    let written = next_written rule.body count c (w number rule has).1 next_is in
    let inner = cut_turned n h t s other a w child (under vs c) stand.at halt deep in
    let before : at.place ≤ stand.at.place = f.forward in
    let behind : stand.at.place ≤ halt = inner.forward in
    record {
      forward = omega arith;
      to = entered number (turned_all h vs) found (turned_nodes h ns) count inner.to;
      same = λ le.
          let within : stand.at.place ≤ n = omega arith in
          ap (λ g. option_and_then (λ st. option_and_then (λ category. cut_end other inner.to (under (turned_all h vs) category) st.at)
          (option_and_then (λ r. next_category r count) (rule_with g number)))
          (option_and_then (λ r. front other r (turned_all h vs) found qs count (turned_test h asked) (turned_at h at)) (rule_with g number))) a.grammar
          ∙ ap (λ o. option_and_then
          (λ st. option_and_then (λ category. cut_end other inner.to (under (turned_all h vs) category) st.at)
          (option_and_then (λ r. next_category r count) o))
          (option_and_then (λ r. front other r (turned_all h vs) found qs count (turned_test h asked) (turned_at h at)) o)) has
          ∙ ap (option_and_then (λ st. option_and_then (λ category. cut_end other inner.to (under (turned_all h vs) category) st.at)
          (next_category rule count))) (f.same within)
          ∙ ap (option_and_then (λ category. cut_end other inner.to (under (turned_all h vs) category) (turned_at h stand.at))) next_is
          ∙ ap (λ x. cut_end other inner.to x (turned_at h stand.at)) (under_turned h vs c written) ∙ inner.same le;
      meeting = inner.meeting;
    })))

-- what is asked for at a place stays, with other numbers for words
pub ask_turned : (n : ℕ) (h : ℕ → ℕ) → IsTurn h → (s other : Setting) → Alike n h s other → RulesWritten s.grammar → (asks : Ask) (asked : Test) (at : At)
    → AskLeads s n asks asked at → AskLeads other n (turned_ask h asks) (turned_test h asked) (turned_at h at)
ask_turned n h t s other a w asks asked at leads =
    let r = cut_turned n h t s other a w leads.0 asked at n leads.1 in
    let here : n ≤ n = omega arith in
    (r.to, r.same here, r.meeting asks leads.2)
