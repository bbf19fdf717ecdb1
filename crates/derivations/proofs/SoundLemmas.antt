-- What is listed is so: each path is a run over the elements, and each tree a phrase.
use Rattle.std.proofs.Common.{◌≡◌, ℕ, zero, suc, ◌+◌, ◌-◌, ◌<◌, ◌≤◌, List, [], ◌∷◌, ◌++◌, map, Bool, true, false, ◌&&◌, ◌||◌, ◌⊎◌, inl, inr, Option, Some, None, refl, sym, ap, subst, ◌∙◌, arith, append_assoc, append-nil, add-zero}
use Rattle.std.specs.Prelude.{if◌then◌else◌, ◌==◌, option_and_then, option_map, slice_get}
use Rattle.std.specs.Option.{option_map_or}
use Rattle.std.specs.List.{flat_map, list_any}
use Rattle.std.proofs.lemmas.Bool.Decides.{nat_tests}
use Rattle.derivation_trees.proofs.StandLemmas.{phrases_of-from}
use Rattle.codeco_terms.specs.declared.values.Value.{Value}
use Rattle.codeco_terms.specs.declared.values.Value.TheVariants.{Pos}
use Rattle.codeco_terms.specs.declared.categories.Category.{Category}
use Rattle.codeco_terms.specs.declared.categories.Pattern.{Pattern}
use Rattle.codeco_terms.specs.declared.elements.Element.{Element}
use Rattle.codeco_terms.specs.declared.elements.Element.TheVariants.{Terminal, Preterminal, Sub, Position, Opener, Forward, Strong, Back, NoBack}
use Rattle.codeco_terms.specs.declared.rules.Rule.{Rule}
use Rattle.codeco_terms.specs.GrammarParts.{GrammarParts}
use Rattle.codeco_terms.specs.Values.{same_value}
use Rattle.scopes.specs.declared.agreement.Test.{Test}
use Rattle.scopes.specs.Resolution.{Finding, closest_finding, is_agreeing}
use Rattle.derivation_trees.specs.Trees.{Node, nodes_from}
use Rattle.derivation_trees.specs.Settings.{Setting, matches_terminal, matches_preterminal}
use Rattle.derivation_trees.specs.Instances.{value_under, under, tests_under, own_values}
use Rattle.derivation_trees.specs.Derives.{At, Stand, pass, pass_finding, run, begun, ended, phrase, phrase_of, phrases_of, rule_with, is_found, reference_tests}
use Rattle.derivation_trees.specs.Starts.{may_start}
use Rattle.derivations.specs.Enumeration.{Path, Outcome, found_at, passed, joined, steps, all_steps, opened, ended_path, instances, may_begin, instance_trees, rule_trees, rules_trees, trees_of}
use Rattle.derivations.proofs.Members.{Among}
use Rattle.derivations.proofs.StepLemmas.{stand_of, token_commutes, test_commutes, no_test_commutes, refit, Commutes}

-- members

pub record Mapped {X Y : Type 0} (f : X → Y) (xs : List X) (y : Y) : Type 0 where
  pub from : X
  pub among : Among xs from
  pub is : y ≡ f from

pub from_map : {X Y : Type 0} (f : X → Y) (xs : List X) (y : Y) → Among (map f xs) y → Mapped f xs y
from_map f [] y h = absurd h
from_map f (x ∷ xs) y (inl e) = record { from = x; among = inl refl; is = e }
from_map f (x ∷ xs) y (inr h) = let one = from_map f xs y h in record { from = one.from; among = inr one.among; is = one.is }

pub either_among : {X : Type 0} (xs ys : List X) (x : X) → Among (xs ++ ys) x → Among xs x ⊎ Among ys x
either_among [] ys x h = inr h
either_among (z ∷ zs) ys x (inl e) = inl (inl e)
either_among (z ∷ zs) ys x (inr h) = elim (either_among zs ys x h) [ inl k ↦ inl (inr k) | inr k ↦ inr k ]

pub record Flattened {X Y : Type 0} (f : X → List Y) (xs : List X) (y : Y) : Type 0 where
  pub from : X
  pub among : Among xs from
  pub is : Among (f from) y

pub from_flat_map : {X Y : Type 0} (f : X → List Y) (xs : List X) (y : Y) → Among (flat_map f xs) y → Flattened f xs y
from_flat_map f [] y h = absurd h
from_flat_map f (x ∷ xs) y h = by (from_flat_map f xs y) (either_among (f x) (flat_map f xs) y h)
  where
    by : (Among (flat_map f xs) y → Flattened f xs y) → Among (f x) y ⊎ Among (flat_map f xs) y → Flattened f (x ∷ xs) y
    by later (inl k) = record { from = x; among = inl refl; is = k }
    by later (inr k) = let one = later k in record { from = one.from; among = inr one.among; is = one.is }

-- steps

-- The path leads on to the next one: with what the next has more, and whatever is to come after it, the elements lead from
-- where the path stands to where the next one stands.
pub record Leads (s : Setting) (on : Stand → Option Stand) (path next : Path) : Type 0 where
  pub found : List ℕ
  pub nodes : List Node
  pub found_is : next.found ≡ path.found ++ found
  pub children_is : next.children ≡ path.children ++ nodes
  pub is : (fs : List ℕ) (ns : List Node) → on (stand_of s path (found ++ fs) (nodes ++ ns)) ≡ Some (stand_of s next fs ns)

-- the trees that are given are phrases
abbrev pub Sound : Setting → (Test → At → List Outcome) → Type 0
Sound s trees = (asked : Test) (at : At) (o : Outcome) → Among (trees asked at) o → phrase_of s o.tree asked at ≡ Some o.at

plain_leads : (s : Setting) (values : List (ℕ × Value)) (e : Element) (path next : Path) → found_at values e path.at.list ≡ []
    → ((fs : List ℕ) (ns : List Node) → Commutes (pass s values e (stand_of s path fs ns))
    (pass s values e (record { at = path.at; found = []; own = path.own; children = [] })) fs (map (phrase_of s) ns)) → Among (passed s values e path) next
    → Leads s (pass s values e) path next
plain_leads s values e path next nothing commutes h =
    by (pass s values e (record { at = path.at; found = []; own = path.own; children = [] })) refl
    (subst (λ fs. Among (option_map_or (λ (stand : Stand). record { found = path.found ++ fs; own = stand.own; children = path.children; at = stand.at } ∷ [])
    (pass s values e (record { at = path.at; found = fs; own = path.own; children = [] })) []) next) nothing h)
  where
    by : (o : Option Stand) → pass s values e (record { at = path.at; found = []; own = path.own; children = [] }) ≡ o
        → Among (option_map_or (λ (stand : Stand). record { found = path.found ++ []; own = stand.own; children = path.children; at = stand.at } ∷ []) o [])
        next → Leads s (pass s values e) path next
    by None w k = absurd k
    by (Some stand) w (inr k) = absurd k
    by (Some stand) w (inl k) = record {
      found = [];
      nodes = [];
      found_is = ap (λ p. p.found) k;
      children_is = ap (λ p. p.children) k ∙ sym (append-nil path.children);
      is = λ fs ns. commutes fs ns ∙ ap (option_map (refit fs (map (phrase_of s) ns))) w
          ∙ ap (λ p. Some (record { at = p.at; found = fs; own = p.own; children = map (phrase_of s) ns })) (sym k);
    }

child_leads : (s : Setting) (trees : Test → At → List Outcome) (c : Category) (values : List (ℕ × Value)) (path next : Path) → Sound s trees
    → Among (map (joined path) (trees (under values c) path.at)) next → Leads s (pass s values (Sub c)) path next
child_leads s trees c values path next sound h =
    let one : Mapped (joined path) (trees (under values c) path.at) next = from_map (joined path) (trees (under values c) path.at) next h in
    let led : phrase_of s one.from.tree (under values c) path.at ≡ Some one.from.at = sound (under values c) path.at one.from one.among in
    record {
      found = [];
      nodes = one.from.tree ∷ [];
      found_is = ap (λ p. p.found) one.is ∙ sym (append-nil path.found);
      children_is = ap (λ p. p.children) one.is;
      is = λ fs ns. ap (option_and_then (λ at. Some (record { at = at; found = fs; own = path.own; children = map (phrase_of s) ns }))) led
          ∙ ap (λ p. Some (record { at = p.at; found = fs; own = p.own; children = map (phrase_of s) ns })) (sym one.is);
    }

back_leads : (s : Setting) (values : List (ℕ × Value)) (positive negative : List Pattern) (path next : Path)
    → Among (passed s values (Back positive negative) path) next → Leads s (pass s values (Back positive negative)) path next
back_leads s values positive negative path next h = by (closest_finding (reference_tests values positive negative) path.at.list) refl h
  where
    at : (finding : Finding) → closest_finding (reference_tests values positive negative) path.at.list ≡ Some finding → (b : Bool)
        → is_found values positive finding.pos (Some finding) ≡ b
        → Among (option_map_or (λ (stand : Stand).
        record { found = path.found ++ finding.pos ∷ []; own = stand.own; children = path.children; at = stand.at } ∷ [])
        (if b then Some (record { at = path.at; found = []; own = path.own; children = [] }) else None) []) next
        → Leads s (pass s values (Back positive negative)) path next
    at finding e false w k = absurd k
    at finding e true w (inr k) = absurd k
    at finding e true w (inl k) = record {
      found = finding.pos ∷ [];
      nodes = [];
      found_is = ap (λ p. p.found) k;
      children_is = ap (λ p. p.children) k ∙ sym (append-nil path.children);
      is = λ fs ns. ap (λ o. pass_finding values positive o (finding.pos ∷ fs) (stand_of s path (finding.pos ∷ fs) ns)) e
          ∙ ap (λ b. if b then Some (record { at = path.at; found = fs; own = path.own; children = map (phrase_of s) ns }) else None) w
          ∙ ap (λ p. Some (record { at = p.at; found = fs; own = p.own; children = map (phrase_of s) ns })) (sym k);
    }

    by : (o : Option Finding) → closest_finding (reference_tests values positive negative) path.at.list ≡ o
        → Among (option_map_or (λ (stand : Stand).
        record { found = path.found ++ option_map_or (λ f. f.pos ∷ []) o []; own = stand.own; children = path.children; at = stand.at } ∷ [])
        (pass_finding values positive o (option_map_or (λ f. f.pos ∷ []) o [])
        (record { at = path.at; found = option_map_or (λ f. f.pos ∷ []) o []; own = path.own; children = [] })) []) next
        → Leads s (pass s values (Back positive negative)) path next
    by None e k = absurd k
    by (Some finding) e k = at finding e (is_found values positive finding.pos (Some finding)) refl k

pub step_leads : (s : Setting) (trees : Test → At → List Outcome) (values : List (ℕ × Value)) (e : Element) (path next : Path) → Sound s trees
    → Among (steps s trees values e path) next → Leads s (pass s values e) path next
step_leads s trees values (Terminal t) path next sound h =
    plain_leads s values (Terminal t) path next refl (λ fs ns. token_commutes (matches_terminal s t path.at.place) path.at path.own fs (map (phrase_of s) ns)) h
step_leads s trees values (Preterminal c) path next sound h =
    plain_leads s values (Preterminal c) path next refl
    (λ fs ns. token_commutes (matches_preterminal s (under values c) path.at.place) path.at path.own fs (map (phrase_of s) ns)) h
step_leads s trees values (Sub c) path next sound h = child_leads s trees c values path next sound h
step_leads s trees values (Position x) path next sound h =
    plain_leads s values (Position x) path next refl
    (λ fs ns. test_commutes (same_value (value_under values x) (Pos path.at.place)) path.at path.own fs (map (phrase_of s) ns)) h
step_leads s trees values Opener path next sound h = plain_leads s values Opener path next refl (λ fs ns. refl) h
step_leads s trees values (Forward c) path next sound h = plain_leads s values (Forward c) path next refl (λ fs ns. refl) h
step_leads s trees values (Strong c) path next sound h = plain_leads s values (Strong c) path next refl (λ fs ns. refl) h
step_leads s trees values (Back positive negative) path next sound h = back_leads s values positive negative path next h
step_leads s trees values (NoBack patterns) path next sound h =
    plain_leads s values (NoBack patterns) path next refl
    (λ fs ns. no_test_commutes (list_any (is_agreeing (tests_under values patterns)) path.at.list) path.at path.own fs (map (phrase_of s) ns)) h

pub leads_nowhere : (s : Setting) (values : List (ℕ × Value)) (path : Path) → Leads s (run s values []) path path
leads_nowhere s values path = record {
  found = [];
  nodes = [];
  found_is = sym (append-nil path.found);
  children_is = sym (append-nil path.children);
  is = λ fs ns. refl;
}

-- a step, and then a run
pub leads_on : (s : Setting) (values : List (ℕ × Value)) (e : Element) (es : List Element) (path mid next : Path) → Leads s (pass s values e) path mid
    → Leads s (run s values es) mid next → Leads s (run s values (e ∷ es)) path next
leads_on s values e es path mid next one two = record {
  found = one.found ++ two.found;
  nodes = one.nodes ++ two.nodes;
  found_is = two.found_is ∙ ap (λ fs. fs ++ two.found) one.found_is ∙ append_assoc path.found one.found two.found;
  children_is = two.children_is ∙ ap (λ ns. ns ++ two.nodes) one.children_is ∙ append_assoc path.children one.nodes two.nodes;
  is = λ fs ns. ap (λ gs. option_and_then (run s values es) (pass s values e (stand_of s path gs ((one.nodes ++ two.nodes) ++ ns))))
      (append_assoc one.found two.found fs)
      ∙ ap (λ ms. option_and_then (run s values es) (pass s values e (stand_of s path (one.found ++ (two.found ++ fs)) ms)))
      (append_assoc one.nodes two.nodes ns) ∙ ap (option_and_then (run s values es)) (one.is (two.found ++ fs) (two.nodes ++ ns)) ∙ two.is fs ns;
}

-- a path that leads to this one over the elements
pub record Led (s : Setting) (on : Stand → Option Stand) (paths : List Path) (next : Path) : Type 0 where
  pub path : Path
  pub among : Among paths path
  pub leads : Leads s on path next

pub led_on : (s : Setting) (trees : Test → At → List Outcome) (values : List (ℕ × Value)) (e : Element) (es : List Element) (paths : List Path) (next : Path)
    → Sound s trees → Led s (run s values es) (flat_map (steps s trees values e) paths) next → Led s (run s values (e ∷ es)) paths next
led_on s trees values e es paths next sound later =
    let one : Flattened (steps s trees values e) paths later.path = from_flat_map (steps s trees values e) paths later.path later.among in
    record {
      path = one.from;
      among = one.among;
      leads = leads_on s values e es one.from later.path next (step_leads s trees values e one.from later.path sound one.is) later.leads;
    }

pub all_led : (s : Setting) (trees : Test → At → List Outcome) (values : List (ℕ × Value)) (es : List Element) (paths : List Path) (next : Path) → Sound s trees
    → Among (all_steps s trees values es paths) next → Led s (run s values es) paths next
all_led s trees values [] paths next sound h = record { path = next; among = h; leads = leads_nowhere s values next }
all_led s trees values (e ∷ es) paths next sound h =
    led_on s trees values e es paths next sound (all_led s trees values es (flat_map (steps s trees values e) paths) next sound h)

-- trees

-- a path from the start of a node, as a run with just its own found positions and children
pub whole_run : (s : Setting) (es : List Element) (rule : Rule) (values : List (ℕ × Value)) (at : At) (next : Path)
    → Led s (run s values es) (opened rule values at ∷ []) next
    → run s values es (record { at = at; found = next.found; own = own_values rule values; children = phrases_of s (nodes_from next.children) })
    ≡ Some (stand_of s next [] [])
whole_run s es rule values at next led = by led.among led.leads
  where
    by : Among (opened rule values at ∷ []) led.path → Leads s (run s values es) led.path next
        → run s values es (record { at = at; found = next.found; own = own_values rule values; children = phrases_of s (nodes_from next.children) })
        ≡ Some (stand_of s next [] [])
    by (inr h) leads = absurd h
    by (inl h) leads =
        let first : Leads s (run s values es) (opened rule values at) next = subst (λ p. Leads s (run s values es) p next) h leads in
        ap (λ ps. run s values es (record { at = at; found = next.found; own = own_values rule values; children = ps })) (phrases_of-from s next.children)
        ∙ ap (λ fs. run s values es (record { at = at; found = fs; own = own_values rule values; children = map (phrase_of s) next.children }))
        (first.found_is ∙ sym (append-nil first.found))
        ∙ ap (λ ns. run s values es (record { at = at; found = first.found ++ []; own = own_values rule values; children = map (phrase_of s) ns }))
        (first.children_is ∙ sym (append-nil first.nodes))
        ∙ first.is [] []

instance_sound : (s : Setting) (trees : Test → At → List Outcome) (wanted : Test) (at : At) (number : ℕ) (rule : Rule) (values : List (ℕ × Value)) (o : Outcome)
    → Sound s trees → rule_with s.grammar number ≡ Some rule → Among (instance_trees s trees wanted at number rule values) o
    → phrase_of s o.tree wanted at ≡ Some o.at
instance_sound s trees wanted at number rule values o sound there h = by (may_begin s rule wanted values) refl h
  where
    by : (b : Bool) → may_begin s rule wanted values ≡ b
        → Among (if b then map (ended_path number rule values at.list) (all_steps s trees values rule.body (opened rule values at ∷ [])) else []) o
        → phrase_of s o.tree wanted at ≡ Some o.at
    by false w k = absurd k
    by true w k =
        let one : Mapped (ended_path number rule values at.list) (all_steps s trees values rule.body (opened rule values at ∷ [])) o =
        from_map (ended_path number rule values at.list) (all_steps s trees values rule.body (opened rule values at ∷ [])) o k in
        let ran : run s values rule.body
        (record { at = at; found = one.from.found; own = own_values rule values; children = phrases_of s (nodes_from one.from.children) })
        ≡ Some (stand_of s one.from [] []) =
        whole_run s rule.body rule values at one.from (all_led s trees values rule.body (opened rule values at ∷ []) one.from sound one.among) in
        let start : begun s rule values one.from.found (phrases_of s (nodes_from one.from.children)) wanted at
        ≡ Some (record { at = at; found = one.from.found; own = own_values rule values; children = phrases_of s (nodes_from one.from.children) }) =
        ap (λ b. if b then Some (record {
          at = at;
          found = one.from.found;
          own = own_values rule values;
          children = phrases_of s (nodes_from one.from.children);
        }) else None) w in
        let led : phrase s rule values one.from.found (phrases_of s (nodes_from one.from.children)) wanted at
        ≡ Some (ended_path number rule values at.list one.from).at =
        ap (option_and_then (λ stand. option_and_then (ended rule at.list) (run s values rule.body stand))) start
        ∙ ap (option_and_then (ended rule at.list)) ran in
        ap (λ x. phrase_of s x.tree wanted at) one.is
        ∙ ap (option_and_then (λ r. phrase s r values one.from.found (phrases_of s (nodes_from one.from.children)) wanted at)) there ∙ led
        ∙ ap (λ x. Some x.at) (sym one.is)

rule_sound : (s : Setting) (trees : Test → At → List Outcome) (wanted : Test) (at : At) (number : ℕ) (rule : Rule) (o : Outcome) → Sound s trees
    → rule_with s.grammar number ≡ Some rule → Among (rule_trees s trees wanted at number rule) o → phrase_of s o.tree wanted at ≡ Some o.at
rule_sound s trees wanted at number rule o sound there h = by ((rule.head.name == wanted.name) && may_start s at.place rule.body) h
  where
    by : (b : Bool) → Among (if b then flat_map (instance_trees s trees wanted at number rule) (instances s rule wanted) else []) o
        → phrase_of s o.tree wanted at ≡ Some o.at
    by false k = absurd k
    by true k =
        let one : Flattened (instance_trees s trees wanted at number rule) (instances s rule wanted) o =
        from_flat_map (instance_trees s trees wanted at number rule) (instances s rule wanted) o k in
        instance_sound s trees wanted at number rule one.from o sound there one.is

pub not_zero : (k : ℕ) → (1 + k == 0) ≡ false
not_zero k = grind (arith, nat_tests)

-- the rule at a place, by its number
pub rule_numbered : (g : GrammarParts) (k : ℕ) (rule : Rule) → slice_get g.rules k ≡ Some rule → rule_with g (1 + k) ≡ Some rule
rule_numbered g k rule h =
    let less : (1 + k) - 1 ≡ k = omega arith in
    ap (λ b. if b then None else slice_get g.rules ((1 + k) - 1)) (not_zero k) ∙ ap (slice_get g.rules) less ∙ h

rules_sound : (s : Setting) (trees : Test → At → List Outcome) (wanted : Test) (at : At) (first : ℕ) (rules : List Rule) (o : Outcome) → Sound s trees
    → ((k : ℕ) (rule : Rule) → slice_get rules k ≡ Some rule → rule_with s.grammar (first + k) ≡ Some rule)
    → Among (rules_trees s trees wanted at first rules) o → phrase_of s o.tree wanted at ≡ Some o.at
rules_sound s trees wanted at first [] o sound there h = absurd h
rules_sound s trees wanted at first (r ∷ rs) o sound there h =
    by (rules_sound s trees wanted at (first + 1) rs o sound (λ k rule e. later k rule (there (suc k) rule e)))
    (either_among (rule_trees s trees wanted at first r) (rules_trees s trees wanted at (first + 1) rs) o h)
  where
    later : (k : ℕ) (rule : Rule) → rule_with s.grammar (first + suc k) ≡ Some rule → rule_with s.grammar ((first + 1) + k) ≡ Some rule
    later k rule e =
        let next : (first + 1) + k ≡ first + suc k = omega arith in
        ap (rule_with s.grammar) next ∙ e

    by : (Among (rules_trees s trees wanted at (first + 1) rs) o → phrase_of s o.tree wanted at ≡ Some o.at)
        → Among (rule_trees s trees wanted at first r) o ⊎ Among (rules_trees s trees wanted at (first + 1) rs) o → phrase_of s o.tree wanted at ≡ Some o.at
    by rest (inl k) = rule_sound s trees wanted at first r o sound (subst (λ n. rule_with s.grammar n ≡ Some r) (add-zero first) (there 0 r refl)) k
    by rest (inr k) = rest k

-- each tree that is listed is a phrase for the category
pub trees_sound : (s : Setting) (depth : ℕ) → Sound s (trees_of s depth)
trees_sound s zero asked at o h = absurd h
trees_sound s (suc depth) asked at o h =
    rules_sound s (trees_of s depth) asked at 1 s.grammar.rules o (trees_sound s depth) (λ k rule e. rule_numbered s.grammar k rule e) h
