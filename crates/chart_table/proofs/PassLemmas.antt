-- Elements of a tree, and where they lead.
use Rattle.std.proofs.Common.{◌≡◌, ℕ, List, [], ◌∷◌, Bool, true, false, ◌&&◌, Option, Some, None, refl, sym, ap, ◌∙◌}
use Rattle.std.specs.Prelude.{if◌then◌else◌, ◌==◌, option_and_then, slice_get}
use Rattle.std.specs.List.{list_any}
use Rattle.std.proofs.lemmas.Option.{option_and_then_some, same_Some}
use Rattle.std.proofs.lemmas.Bool.{and_from}
use Rattle.wiki_base.proofs.NumberLaws.{eqb_refl}
use Rattle.derivation_trees.proofs.ValueLemmas.{same_value_is}
use Rattle.codeco_terms.specs.declared.values.Value.{Value}
use Rattle.codeco_terms.specs.declared.values.Value.TheVariants.{Atom, Word, Pos}
use Rattle.codeco_terms.specs.declared.categories.Category.{Category}
use Rattle.codeco_terms.specs.declared.categories.Pattern.{Pattern}
use Rattle.codeco_terms.specs.declared.elements.Element.{Element}
use Rattle.codeco_terms.specs.declared.elements.Element.TheVariants.{Terminal, Preterminal, Sub, Position, Opener, Forward, Strong, Back, NoBack}
use Rattle.codeco_terms.specs.declared.rules.Rule.{Rule}
use Rattle.codeco_terms.specs.Values.{same_value}
use Rattle.codeco_checked.specs.Numbering.{has}
use Rattle.scopes.specs.declared.entries.Entry.{Entry}
use Rattle.scopes.specs.declared.agreement.Test.{Test}
use Rattle.scopes.specs.Resolution.{Finding, is_agreeing, closest_finding}
use Rattle.derivation_trees.specs.Trees.{Nodes, node, none, more}
use Rattle.derivation_trees.specs.Settings.{Setting, matches_terminal, matches_preterminal}
use Rattle.derivation_trees.specs.Instances.{value_under, under, tests_under, is_instance, own_values, features_of}
use Rattle.derivation_trees.specs.Derives.{At, Stand, pass, run, pass_child, pass_finding, is_found, takes, own_rest, reference_tests, phrase_of, phrases_of, phrase, begun, ended, is_none_left, rule_with, fits}
use Rattle.chart_table.specs.Leading.{Leads, ElementLeads, Path, own_past}
use Rattle.chart_table.proofs.RuleLeading.{RuleLeads, closed_at}

-- what holds where a choice gives something
pub if_some : {X P : Type 0} (b : Bool) (x y : X) → (if b then Some x else None) ≡ Some y → (b ≡ true → x ≡ y → P) → P
if_some true x y h k = k refl (same_Some x y h)
if_some false x y h k = absurd (cc)

pub unless_some : {X P : Type 0} (b : Bool) (x y : X) → (if b then None else Some x) ≡ Some y → (b ≡ false → x ≡ y → P) → P
unless_some true x y h k = absurd (cc)
unless_some false x y h k = k refl (same_Some x y h)

pub both_true : {P : Type 0} (a b : Bool) → (a && b) ≡ true → (a ≡ true → b ≡ true → P) → P
both_true true b h k = k refl h
both_true false b h k = absurd (cc)

pub same_value-refl : (v : Value) → same_value v v ≡ true
same_value-refl (Atom a) = eqb_refl a
same_value-refl (Word w) = eqb_refl w.0
same_value-refl (Pos p) = eqb_refl p

-- From a tree to where its elements lead

pub record Passed (s : Setting) (values : List (ℕ × Value)) (e : Element) (at : At) (own : List (ℕ × Value)) (after : Stand) : Type 0 where
  pub leads : ElementLeads s values own e at after.at
  pub own_is : after.own ≡ own_past s e own
  pub left : Nodes
  pub children : after.children ≡ phrases_of s left

abbrev pub stand_at : Setting → At → List ℕ → List (ℕ × Value) → Nodes → Stand
stand_at s at found own ns = record { at = at; found = found; own = own; children = phrases_of s ns }

child_passed : (s : Setting) (values : List (ℕ × Value)) (c : Category) (at : At) (found : List ℕ) (own : List (ℕ × Value)) (ns : Nodes) (after : Stand)
    → pass_child (under values c) (phrases_of s ns) (stand_at s at found own ns) ≡ Some after → Passed s values (Sub c) at own after
child_passed s values c at found own none after h = absurd (cc)
child_passed s values c at found own (more n ns) after h =
    option_and_then_some _ (phrase_of s n (under values c) at) after h (λ a led e.
    let same = same_Some _ _ e in
    record {
      leads = (n, led ∙ ap (λ st. Some (st.at)) same);
      own_is = sym (ap (λ st. st.own) same);
      left = ns;
      children = sym (ap (λ st. st.children) same);
    })

found_passed : (s : Setting) (values : List (ℕ × Value)) (positive negative : List Pattern) (at : At) (own : List (ℕ × Value)) (ns : Nodes) (after : Stand)
    (o : Option Finding) (found : List ℕ) → closest_finding (reference_tests values positive negative) at.list ≡ o → (stand : Stand)
    → stand ≡ stand_at s at found own ns → pass_finding values positive o found stand ≡ Some after → Passed s values (Back positive negative) at own after
found_passed s values positive negative at own ns after o [] is stand st h = absurd (cc)
found_passed s values positive negative at own ns after None (pos ∷ rest) is stand st h = absurd (cc)
found_passed s values positive negative at own ns after (Some finding) (pos ∷ rest) is stand st h =
    if_some (is_found values positive pos (Some finding)) _ after h (λ b same.
    both_true (finding.pos == pos) (takes values finding.referent (slice_get positive finding.pattern)) b (λ p t.
    record {
      leads = ((finding, (is, t)), sym (ap (λ x. x.at) same) ∙ ap (λ x. x.at) st);
      own_is = sym (ap (λ x. x.own) same) ∙ ap (λ x. x.own) st;
      left = ns;
      children = sym (ap (λ x. x.children) same) ∙ ap (λ x. x.children) st;
    }))

pub passed : (s : Setting) (values : List (ℕ × Value)) (e : Element) (at : At) (found : List ℕ) (own : List (ℕ × Value)) (ns : Nodes) (after : Stand)
    → pass s values e (stand_at s at found own ns) ≡ Some after → Passed s values e at own after
passed s values (Terminal t) at found own ns after h =
    if_some (matches_terminal s t at.place) _ after h
    (λ b same. record {
      leads = (b, sym (ap (λ x. x.at) same));
      own_is = sym (ap (λ x. x.own) same);
      left = ns;
      children = sym (ap (λ x. x.children) same);
    })
passed s values (Preterminal c) at found own ns after h =
    if_some (matches_preterminal s (under values c) at.place) _ after h
    (λ b same. record {
      leads = (b, sym (ap (λ x. x.at) same));
      own_is = sym (ap (λ x. x.own) same);
      left = ns;
      children = sym (ap (λ x. x.children) same);
    })
passed s values (Sub c) at found own ns after h = child_passed s values c at found own ns after h
passed s values (Position x) at found own ns after h =
    if_some (same_value (value_under values x) (Pos at.place)) _ after h
    (λ b same. record {
      leads = (same_value_is _ _ b, sym (ap (λ x. x.at) same));
      own_is = sym (ap (λ x. x.own) same);
      left = ns;
      children = sym (ap (λ x. x.children) same);
    })
passed s values Opener at found own ns after h =
    let same = same_Some _ _ h in
    record { leads = sym (ap (λ x. x.at) same); own_is = sym (ap (λ x. x.own) same); left = ns; children = sym (ap (λ x. x.children) same) }
passed s values (Forward c) at found own ns after h =
    let same = same_Some _ _ h in
    record { leads = sym (ap (λ x. x.at) same); own_is = sym (ap (λ x. x.own) same); left = ns; children = sym (ap (λ x. x.children) same) }
passed s values (Strong c) at found own ns after h =
    let same = same_Some _ _ h in
    record { leads = sym (ap (λ x. x.at) same); own_is = sym (ap (λ x. x.own) same); left = ns; children = sym (ap (λ x. x.children) same) }
passed s values (Back positive negative) at found own ns after h =
    found_passed s values positive negative at own ns after (closest_finding (reference_tests values positive negative) at.list) found refl
    (stand_at s at found own ns) refl h
passed s values (NoBack patterns) at found own ns after h =
    unless_some (list_any (is_agreeing (tests_under values patterns)) at.list) _ after h
    (λ b same. record {
      leads = (b, sym (ap (λ x. x.at) same));
      own_is = sym (ap (λ x. x.own) same);
      left = ns;
      children = sym (ap (λ x. x.children) same);
    })

-- From where elements lead to a tree

-- what a node has for an element: found positions and children, after which those to come are left
pub record Passes (s : Setting) (values : List (ℕ × Value)) (e : Element) (at : At) (own : List (ℕ × Value)) (after : At) (to_find : List ℕ)
    (to_come : Nodes) : Type 0 where
  pub found : List ℕ
  pub children : Nodes
  pub is : pass s values e (stand_at s at found own children) ≡ Some (stand_at s after to_find (own_past s e own) to_come)

pub if_true : {X : Type 0} (b : Bool) (x y : X) → b ≡ true → x ≡ y → (if b then Some x else None) ≡ Some y
if_true true x y h e = ap Some e
if_true false x y h e = absurd (cc)

pub if_false : {X : Type 0} (b : Bool) (x y : X) → b ≡ false → x ≡ y → (if b then None else Some x) ≡ Some y
if_false true x y h e = absurd (cc)
if_false false x y h e = ap Some e

pub passes : (s : Setting) (values : List (ℕ × Value)) (e : Element) (at : At) (own : List (ℕ × Value)) (after : At) (to_find : List ℕ) (to_come : Nodes)
    → ElementLeads s values own e at after → Passes s values e at own after to_find to_come
passes s values (Terminal t) at own after to_find to_come h = record {
  found = to_find;
  children = to_come;
  is = if_true _ _ _ h.0 (ap (λ a. stand_at s a to_find own to_come) (sym h.1));
}
passes s values (Preterminal c) at own after to_find to_come h = record {
  found = to_find;
  children = to_come;
  is = if_true _ _ _ h.0 (ap (λ a. stand_at s a to_find own to_come) (sym h.1));
}
passes s values (Sub c) at own after to_find to_come h = record {
  found = to_find;
  children = more h.0 to_come;
  is = ap (option_and_then (λ a. Some (stand_at s a to_find own to_come))) h.1;
}
passes s values (Position x) at own after to_find to_come h = record {
  found = to_find;
  children = to_come;
  is = if_true (same_value (value_under values x) (Pos at.place)) _ _ (ap (λ v. same_value v (Pos at.place)) h.0 ∙ same_value-refl (Pos at.place))
      (ap (λ a. stand_at s a to_find own to_come) (sym h.1));
}
passes s values Opener at own after to_find to_come h = record {
  found = to_find;
  children = to_come;
  is = ap (λ a. Some (stand_at s a to_find own to_come)) (sym h);
}
passes s values (Forward c) at own after to_find to_come h = record {
  found = to_find;
  children = to_come;
  is = ap (λ a. Some (stand_at s a to_find (own_rest c.feats (features_of s.grammar c.name) own) to_come)) (sym h);
}
passes s values (Strong c) at own after to_find to_come h = record {
  found = to_find;
  children = to_come;
  is = ap (λ a. Some (stand_at s a to_find (own_rest c.feats (features_of s.grammar c.name) own) to_come)) (sym h);
}
passes s values (Back positive negative) at own after to_find to_come h =
    let finding = h.0.0 in
    record {
      found = finding.pos ∷ to_find;
      children = to_come;
      is = ap (λ o. pass_finding values positive o (finding.pos ∷ to_find) (stand_at s at (finding.pos ∷ to_find) own to_come)) h.0.1.0
          ∙ if_true (is_found values positive finding.pos (Some finding)) _ _ (and_from _ _ (eqb_refl finding.pos) h.0.1.1)
          (ap (λ a. stand_at s a to_find own to_come) (sym h.1));
    }
passes s values (NoBack patterns) at own after to_find to_come h = record {
  found = to_find;
  children = to_come;
  is = if_false _ _ _ h.0 (ap (λ a. stand_at s a to_find own to_come) (sym h.1));
}

-- elements after one another

pub run_path : (s : Setting) (values : List (ℕ × Value)) (es : List Element) (at : At) (found : List ℕ) (own : List (ℕ × Value)) (ns : Nodes) (last : Stand)
    → run s values es (stand_at s at found own ns) ≡ Some last → Path s values own es at last.at
run_path s values [] at found own ns last h = ap (λ st. st.at) (same_Some _ _ h)
run_path s values (e ∷ es) at found own ns last h =
    option_and_then_some _ (pass s values e (stand_at s at found own ns)) last h (λ mid passed_e rest.
    let p = passed s values e at found own ns mid passed_e in (
      mid.at,
      p.leads,
      run_path s values es mid.at mid.found (own_past s e own) p.left last
          (ap (λ o. run s values es (record { at = mid.at; found = mid.found; own = o; children = phrases_of s p.left })) (sym p.own_is)
          ∙ ap (λ c. run s values es (record { at = mid.at; found = mid.found; own = mid.own; children = c })) (sym p.children) ∙ rest),
    ))

-- a node's found positions and children, by which its elements lead
pub record Runs (s : Setting) (values : List (ℕ × Value)) (es : List Element) (at : At) (own : List (ℕ × Value)) (after : At) : Type 0 where
  pub found : List ℕ
  pub children : Nodes
  pub own_left : List (ℕ × Value)
  pub is : run s values es (stand_at s at found own children) ≡ Some (record { at = after; found = []; own = own_left; children = [] })

pub path_runs : (s : Setting) (values : List (ℕ × Value)) (es : List Element) (at : At) (own : List (ℕ × Value)) (after : At) → Path s values own es at after
    → Runs s values es at own after
path_runs s values [] at own after h = record {
  found = [];
  children = none;
  own_left = own;
  is = ap (λ a. Some (record { at = a; found = []; own = own; children = [] })) h;
}
path_runs s values (e ∷ es) at own after h =
    let rest = path_runs s values es h.0 (own_past s e own) after h.2 in
    let first = passes s values e at own h.0 rest.found rest.children h.1 in
    record {
      found = first.found;
      children = first.children;
      own_left = rest.own_left;
      is = ap (option_and_then (run s values es)) first.is ∙ rest.is;
    }

-- whole phrases

ended_at : (rule : Rule) (list : List Entry) (last : Stand) (after : At) → ended rule list last ≡ Some after → after ≡ closed_at rule list last.at
ended_at rule list last after h = if_some (is_none_left last.found && is_none_left last.children) _ after h (λ b same. sym same)

pub phrase_leads : (s : Setting) (rule : Rule) (values : List (ℕ × Value)) (found : List ℕ) (ns : Nodes) (asked : Test) (at after : At)
    → phrase s rule values found (phrases_of s ns) asked at ≡ Some after → RuleLeads s rule values asked at after
phrase_leads s rule values found ns asked at after h =
    option_and_then_some _ (begun s rule values found (phrases_of s ns) asked at) after h (λ start starts runs.
    if_some (fits (under values rule.head) asked && is_instance s rule values) _ start starts (λ b same.
    both_true (fits (under values rule.head) asked) (is_instance s rule values) b (λ head instance.
    option_and_then_some (ended rule at.list) (run s values rule.body start) after runs (λ last ran ends.
    record {
      instance = instance;
      head = head;
      last = last.at;
      path = run_path s values rule.body at found (own_values rule values) ns last (ap (run s values rule.body) same ∙ ran);
      end = ended_at rule at.list last after ends;
    }))))

-- what a rule's phrase in some instance leads to
pub record SomeRule (s : Setting) (asked : Test) (at after : At) : Type 0 where
  pub number : ℕ
  pub rule : Rule
  pub has : rule_with s.grammar number ≡ Some rule
  pub values : List (ℕ × Value)
  pub leads : RuleLeads s rule values asked at after

pub rule_of_leads : (s : Setting) (asked : Test) (at after : At) → Leads s asked at after → SomeRule s asked at after
rule_of_leads s asked at after (node n values found ns, h) =
    option_and_then_some _ (rule_with s.grammar n) after h (λ rule has leads.
    record { number = n; rule = rule; has = has; values = values; leads = phrase_leads s rule values found ns asked at after leads })

pub leads_of_rule : (s : Setting) (asked : Test) (at after : At) (number : ℕ) (rule : Rule) (values : List (ℕ × Value)) → rule_with s.grammar number ≡ Some rule
    → RuleLeads s rule values asked at after → Leads s asked at after
leads_of_rule s asked at after number rule values has h =
    let ran = path_runs s values rule.body at (own_values rule values) h.last h.path in
    let kids = phrases_of s ran.children in
    let begins : begun s rule values ran.found kids asked at ≡ Some (stand_at s at ran.found (own_values rule values) ran.children) =
    if_true _ _ _ (and_from _ _ h.head h.instance) refl in (
      node number values ran.found ran.children,
      ap (option_and_then (λ r. phrase s r values ran.found kids asked at)) has
          ∙ ap (option_and_then (λ stand. option_and_then (ended rule at.list) (run s values rule.body stand))) begins
          ∙ ap (option_and_then (ended rule at.list)) ran.is ∙ ap Some (sym h.end),
    )
