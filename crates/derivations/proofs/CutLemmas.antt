-- The test for cut-off nodes says whether there is one.
use Rattle.std.proofs.Common.{◌≡◌, ℕ, zero, suc, ◌+◌, ◌-◌, ◌*◌, ◌<◌, ◌≤◌, List, [], ◌∷◌, ◌++◌, length, take, Bool, true, false, ◌&&◌, ◌||◌, ◌⊎◌, inl, inr, Option, Some, None, refl, sym, ap, subst, ◌∙◌}
use Rattle.std.specs.Prelude.{if◌then◌else◌, ◌==◌, option_and_then, option_map, slice_get}
use Rattle.std.specs.List.{flat_map, list_any}
use Rattle.std.proofs.lemmas.Bool.{or_left, or_right, eq-eqb, or_cases, eqb-true, and_from}
use Rattle.std.proofs.lemmas.Option.{same_Some}
use Rattle.wiki_base.proofs.BoolLaws.{and_first, and_second}
use Rattle.codeco_terms.specs.declared.values.Value.{Value}
use Rattle.codeco_terms.specs.declared.categories.Category.{Category}
use Rattle.codeco_terms.specs.declared.elements.Element.{Element}
use Rattle.codeco_terms.specs.declared.elements.Element.TheVariants.{Sub}
use Rattle.codeco_terms.specs.declared.rules.Rule.{Rule}
use Rattle.codeco_terms.specs.GrammarParts.{GrammarParts}
use Rattle.scopes.specs.declared.agreement.Test.{Test}
use Rattle.derivation_trees.specs.Trees.{Nodes, nodes_from}
use Rattle.derivation_trees.specs.Settings.{Setting}
use Rattle.derivation_trees.specs.Instances.{under, is_instance, own_values}
use Rattle.derivation_trees.specs.Derives.{At, Stand, run, begun, fits, phrases_of, rule_with, is_none_left}
use Rattle.derivation_trees.specs.Partial.{CutNode, stopped, entered, used_up, front, front_of, sub_of, next_category, cut_end}
use Rattle.derivations.specs.Enumeration.{Path, Outcome, steps, all_steps, opened, instances, may_begin, trees_of}
use Rattle.derivations.specs.Beginnings.{is_at_end, enters, goes_from, instance_cut, rule_cut, cut_of}
use Rattle.derivations.proofs.Members.{Among}
use Rattle.derivations.proofs.ChoiceLemmas.{instance_has}
use Rattle.derivations.proofs.StepLemmas.{stand_of, Goes, Knows, all_goes}
use Rattle.derivations.proofs.ListingLemmas.{node_list, phrases_of-list, AllWithin, within_among, tree_has}
use Rattle.derivations.proofs.SoundLemmas.{Led, Sound, leads_nowhere, led_on, whole_run, rule_numbered, trees_sound}

-- tests of lists

pub record Passing {X : Type 0} (p : X → Bool) (xs : List X) : Type 0 where
  pub one : X
  pub among : Among xs one
  pub passes : p one ≡ true

pub any_passes : {X : Type 0} (p : X → Bool) (xs : List X) → list_any p xs ≡ true → Passing p xs
any_passes p [] h = cc
any_passes p (x ∷ xs) h = by (any_passes p xs) (or_cases (p x) (list_any p xs) h)
  where
    by : (list_any p xs ≡ true → Passing p xs) → (p x ≡ true) ⊎ (list_any p xs ≡ true) → Passing p (x ∷ xs)
    by later (inl e) = record { one = x; among = inl refl; passes = e }
    by later (inr e) = let k = later e in record { one = k.one; among = inr k.among; passes = k.passes }

pub passes_any : {X : Type 0} (p : X → Bool) (xs : List X) (x : X) → Among xs x → p x ≡ true → list_any p xs ≡ true
passes_any p [] x m h = absurd m
passes_any p (y ∷ ys) x (inl e) h = or_left (p y) (list_any p ys) (ap p (sym e) ∙ h)
passes_any p (y ∷ ys) x (inr m) h = or_right (p y) (list_any p ys) (passes_any p ys x m h)

-- going on

-- some of the elements are passed to where the tokens end, or to where a cut-off child is entered
pub record GoesOn (s : Setting) (cuts : Test → At → Bool) (values : List (ℕ × Value)) (es : List Element) (paths : List Path) : Type 0 where
  pub count : ℕ
  pub next : Path
  pub led : Led s (run s values (take count es)) paths next
  pub ends : (next.at.place ≡ length s.tokens)
      ⊎ ((c : Category) × (option_and_then sub_of (slice_get es count) ≡ Some c) × (cuts (under values c) next.at ≡ true))

led_here : (s : Setting) (values : List (ℕ × Value)) (es : List Element) (paths : List Path) (next : Path) → Among paths next
    → Led s (run s values (take 0 es)) paths next
led_here s values [] paths next m = record { path = next; among = m; leads = leads_nowhere s values next }
led_here s values (e ∷ es) paths next m = record { path = next; among = m; leads = leads_nowhere s values next }

entered_category : (cuts : Test → At → Bool) (values : List (ℕ × Value)) (e : Element) (path : Path) → enters cuts values e path ≡ true
    → (c : Category) × (sub_of e ≡ Some c) × (cuts (under values c) path.at ≡ true)
entered_category cuts values (Sub c) path h = (c, refl, h)
entered_category cuts values e path h = cc

goes_at_end : (s : Setting) (cuts : Test → At → Bool) (values : List (ℕ × Value)) (es : List Element) (paths : List Path) → list_any (is_at_end s) paths ≡ true
    → GoesOn s cuts values es paths
goes_at_end s cuts values es paths h =
    let one : Passing (is_at_end s) paths = any_passes (is_at_end s) paths h in
    record {
      count = 0;
      next = one.one;
      led = led_here s values es paths one.one one.among;
      ends = inl (eqb-true one.one.at.place (length s.tokens) one.passes);
    }

pub goes_on_from : (s : Setting) (trees : Test → At → List Outcome) (cuts : Test → At → Bool) (values : List (ℕ × Value)) (es : List Element)
    (paths : List Path) → Sound s trees → goes_from s trees cuts values es paths ≡ true → GoesOn s cuts values es paths
goes_on_from s trees cuts values [] paths sound h = goes_at_end s cuts values [] paths h
goes_on_from s trees cuts values (e ∷ es) paths sound h =
    by (goes_on_from s trees cuts values es (flat_map (steps s trees values e) paths) sound)
    (or_cases (list_any (is_at_end s) paths)
    (list_any (enters cuts values e) paths || goes_from s trees cuts values es (flat_map (steps s trees values e) paths)) h)
  where
    further : GoesOn s cuts values es (flat_map (steps s trees values e) paths) → GoesOn s cuts values (e ∷ es) paths
    further on = record {
      count = suc on.count;
      next = on.next;
      led = led_on s trees values e (take on.count es) paths on.next sound on.led;
      ends = on.ends;
    }

    enter : Passing (enters cuts values e) paths → GoesOn s cuts values (e ∷ es) paths
    enter one = record {
      count = 0;
      next = one.one;
      led = led_here s values (e ∷ es) paths one.one one.among;
      ends = inr (entered_category cuts values e one.one one.passes);
    }

    or : (goes_from s trees cuts values es (flat_map (steps s trees values e) paths) ≡ true → GoesOn s cuts values es (flat_map (steps s trees values e) paths))
        → (list_any (enters cuts values e) paths ≡ true) ⊎ (goes_from s trees cuts values es (flat_map (steps s trees values e) paths) ≡ true)
        → GoesOn s cuts values (e ∷ es) paths
    or later (inl k) = enter (any_passes (enters cuts values e) paths k)
    or later (inr k) = further (later k)

    by : (goes_from s trees cuts values es (flat_map (steps s trees values e) paths) ≡ true → GoesOn s cuts values es (flat_map (steps s trees values e) paths))
        → (list_any (is_at_end s) paths ≡ true)
        ⊎ ((list_any (enters cuts values e) paths || goes_from s trees cuts values es (flat_map (steps s trees values e) paths)) ≡ true)
        → GoesOn s cuts values (e ∷ es) paths
    by later (inl k) = goes_at_end s cuts values (e ∷ es) paths k
    by later (inr k) = or later (or_cases (list_any (enters cuts values e) paths) (goes_from s trees cuts values es (flat_map (steps s trees values e) paths))
        k)

-- there is a cut-off node where the test says so

-- a cut-off node for the category from the place and the list that ends at the end of the tokens
abbrev pub Cut : Setting → Test → At → Type 0
Cut s asked at = (cut : CutNode) × (cut_end s cut asked at ≡ Some (length s.tokens))

-- the tests are true only where there is a cut-off node
abbrev pub CutsSound : Setting → (Test → At → Bool) → Type 0
CutsSound s cuts = (asked : Test) (at : At) → cuts asked at ≡ true → Cut s asked at

instance_cut_sound : (s : Setting) (trees : Test → At → List Outcome) (cuts : Test → At → Bool) (wanted : Test) (at : At) (number : ℕ) (rule : Rule)
    (values : List (ℕ × Value)) → Sound s trees → CutsSound s cuts → rule_with s.grammar number ≡ Some rule
    → instance_cut s trees cuts wanted at rule values ≡ true → Cut s wanted at
instance_cut_sound s trees cuts wanted at number rule values sound cut_sound there h =
    by (goes_on_from s trees cuts values rule.body (opened rule values at ∷ []) sound (and_second (may_begin s rule wanted values) _ h))
  where
    by : GoesOn s cuts values rule.body (opened rule values at ∷ []) → Cut s wanted at
    by on = closes on.ends
      where
        children : Nodes
        children = nodes_from on.next.children

        ran : run s values (take on.count rule.body)
            (record { at = at; found = on.next.found; own = own_values rule values; children = phrases_of s (nodes_from on.next.children) })
            ≡ Some (stand_of s on.next [] [])
        ran = whole_run s (take on.count rule.body) rule values at on.next on.led

        start : begun s rule values on.next.found (phrases_of s (nodes_from on.next.children)) wanted at
            ≡ Some (record { at = at; found = on.next.found; own = own_values rule values; children = phrases_of s (nodes_from on.next.children) })
        start = ap (λ b. if b then Some (record {
          at = at;
          found = on.next.found;
          own = own_values rule values;
          children = phrases_of s (nodes_from on.next.children);
        }) else None) (and_first (may_begin s rule wanted values) _ h)

        fronted : front_of s number values on.next.found (nodes_from on.next.children) on.count wanted at ≡ Some (stand_of s on.next [] [])
        fronted = ap (option_and_then (λ r. front s r values on.next.found (phrases_of s (nodes_from on.next.children)) on.count wanted at)) there
            ∙ ap (option_and_then (λ stand. option_and_then used_up (run s values (take on.count rule.body) stand))) start
            ∙ ap (option_and_then used_up) ran

        closes : (on.next.at.place ≡ length s.tokens)
            ⊎ ((c : Category) × (option_and_then sub_of (slice_get rule.body on.count) ≡ Some c) × (cuts (under values c) on.next.at ≡ true)) → Cut s wanted at
        closes (inl e) =
            (stopped number values on.next.found (nodes_from on.next.children) on.count, ap (option_map (λ stand. stand.at.place)) fronted ∙ ap Some e)
        closes (inr e) =
            let child : Cut s (under values e.0) on.next.at = cut_sound (under values e.0) on.next.at e.2 in
            let category : option_and_then (λ r. next_category r on.count) (rule_with s.grammar number) ≡ Some e.0 =
            ap (option_and_then (λ r. next_category r on.count)) there ∙ e.1 in (
              entered number values on.next.found (nodes_from on.next.children) on.count child.0,
              ap (option_and_then (λ stand. option_and_then (λ c. cut_end s child.0 (under values c) stand.at)
                  (option_and_then (λ r. next_category r on.count) (rule_with s.grammar number)))) fronted
                  ∙ ap (option_and_then (λ c. cut_end s child.0 (under values c) on.next.at)) category ∙ child.1,
            )

pub among_place : (rules : List Rule) (r : Rule) → Among rules r → (k : ℕ) × (slice_get rules k ≡ Some r)
among_place [] r h = absurd h
among_place (x ∷ xs) r (inl e) = (0, ap Some (sym e))
among_place (x ∷ xs) r (inr h) = let one = among_place xs r h in (suc one.0, one.1)

pub cut_sound : (s : Setting) (depth : ℕ) → CutsSound s (cut_of s depth)
cut_sound s zero asked at h = cc
cut_sound s (suc depth) asked at h =
    let rule : Passing (rule_cut s (trees_of s depth) (cut_of s depth) asked at) s.grammar.rules =
    any_passes (rule_cut s (trees_of s depth) (cut_of s depth) asked at) s.grammar.rules h in
    let values : Passing (instance_cut s (trees_of s depth) (cut_of s depth) asked at rule.one) (instances s rule.one asked) =
    any_passes (instance_cut s (trees_of s depth) (cut_of s depth) asked at rule.one) (instances s rule.one asked)
    (and_second (rule.one.head.name == asked.name) _ rule.passes) in
    let place : (k : ℕ) × (slice_get s.grammar.rules k ≡ Some rule.one) = among_place s.grammar.rules rule.one rule.among in
    instance_cut_sound s (trees_of s depth) (cut_of s depth) asked at (1 + place.0) rule.one values.one (trees_sound s depth) (cut_sound s depth)
    (rule_numbered s.grammar place.0 rule.one place.1) values.passes

-- the test says so where there is a cut-off node

pub goes_end : (s : Setting) (trees : Test → At → List Outcome) (cuts : Test → At → Bool) (values : List (ℕ × Value)) (es : List Element) (paths : List Path)
    (count : ℕ) (next : Path) → Among (all_steps s trees values (take count es) paths) next → next.at.place ≡ length s.tokens
    → goes_from s trees cuts values es paths ≡ true
goes_end s trees cuts values [] paths zero next m e = passes_any (is_at_end s) paths next m (eq-eqb next.at.place (length s.tokens) e)
goes_end s trees cuts values [] paths (suc count) next m e = passes_any (is_at_end s) paths next m (eq-eqb next.at.place (length s.tokens) e)
goes_end s trees cuts values (x ∷ es) paths zero next m e =
    or_left (list_any (is_at_end s) paths) _ (passes_any (is_at_end s) paths next m (eq-eqb next.at.place (length s.tokens) e))
goes_end s trees cuts values (x ∷ es) paths (suc count) next m e =
    or_right (list_any (is_at_end s) paths) _
    (or_right (list_any (enters cuts values x) paths) _ (goes_end s trees cuts values es (flat_map (steps s trees values x) paths) count next m e))

enters_sub : (cuts : Test → At → Bool) (values : List (ℕ × Value)) (e : Element) (c : Category) (path : Path) → sub_of e ≡ Some c
    → cuts (under values c) path.at ≡ true → enters cuts values e path ≡ true
enters_sub cuts values (Sub d) c path h k = ap (λ x. cuts (under values x) path.at) (same_Some d c h) ∙ k
enters_sub cuts values e c path h k = cc

pub goes_enter : (s : Setting) (trees : Test → At → List Outcome) (cuts : Test → At → Bool) (values : List (ℕ × Value)) (es : List Element) (paths : List Path)
    (count : ℕ) (next : Path) (c : Category) → Among (all_steps s trees values (take count es) paths) next
    → option_and_then sub_of (slice_get es count) ≡ Some c → cuts (under values c) next.at ≡ true → goes_from s trees cuts values es paths ≡ true
goes_enter s trees cuts values [] paths count next c m h k = cc
goes_enter s trees cuts values (x ∷ es) paths zero next c m h k =
    or_right (list_any (is_at_end s) paths) _
    (or_left (list_any (enters cuts values x) paths) _ (passes_any (enters cuts values x) paths next m (enters_sub cuts values x c next h k)))
goes_enter s trees cuts values (x ∷ es) paths (suc count) next c m h k =
    or_right (list_any (is_at_end s) paths) _
    (or_right (list_any (enters cuts values x) paths) _ (goes_enter s trees cuts values es (flat_map (steps s trees values x) paths) count next c m h k))

-- what a front is made of
pub record FrontParts (s : Setting) (rule : Rule) (values : List (ℕ × Value)) (found : List ℕ) (children : Nodes) (count : ℕ) (asked : Test) (at : At)
    (stand : Stand) : Type 0 where
  pub begins : may_begin s rule asked values ≡ true
  pub ran : run s values (take count rule.body) (record { at = at; found = found; own = own_values rule values; children = phrases_of s children }) ≡ Some stand
  pub no_found : is_none_left stand.found ≡ true
  pub no_children : is_none_left stand.children ≡ true

pub front_parts : (s : Setting) (rule : Rule) (values : List (ℕ × Value)) (found : List ℕ) (children : Nodes) (count : ℕ) (asked : Test) (at : At)
    (stand : Stand) → front s rule values found (phrases_of s children) count asked at ≡ Some stand
    → FrontParts s rule values found children count asked at stand
front_parts s rule values found children count asked at stand h = by (may_begin s rule asked values) refl h
  where
    start : Stand
    start = record { at = at; found = found; own = own_values rule values; children = phrases_of s children }

    done : may_begin s rule asked values ≡ true → (last : Stand)
        → run s values (take count rule.body) (record { at = at; found = found; own = own_values rule values; children = phrases_of s children }) ≡ Some last
        → (b : Bool) → (is_none_left last.found && is_none_left last.children) ≡ b → (if b then Some last else None) ≡ Some stand
        → FrontParts s rule values found children count asked at stand
    done e last w false x k = cc
    done e last w true x k =
        let same : last ≡ stand = same_Some last stand k in
        record {
          begins = e;
          ran = w ∙ ap Some same;
          no_found = subst (λ y. is_none_left y.found ≡ true) same (and_first (is_none_left last.found) (is_none_left last.children) x);
          no_children = subst (λ y. is_none_left y.children ≡ true) same (and_second (is_none_left last.found) (is_none_left last.children) x);
        }

    led : may_begin s rule asked values ≡ true → (o : Option Stand)
        → run s values (take count rule.body) (record { at = at; found = found; own = own_values rule values; children = phrases_of s children }) ≡ o
        → option_and_then used_up o ≡ Some stand → FrontParts s rule values found children count asked at stand
    led e None w k = cc
    led e (Some last) w k = done e last w (is_none_left last.found && is_none_left last.children) refl k

    by : (b : Bool) → may_begin s rule asked values ≡ b
        → option_and_then (λ x. option_and_then used_up (run s values (take count rule.body) x))
        (if b then Some (record { at = at; found = found; own = own_values rule values; children = phrases_of s children }) else None) ≡ Some stand
        → FrontParts s rule values found children count asked at stand
    by false e k = cc
    by true e k = led e (run s values (take count rule.body)
        (record { at = at; found = found; own = own_values rule values; children = phrases_of s children })) refl k

-- the path at the end of a front
pub record FrontPath (s : Setting) (trees : Test → At → List Outcome) (rule : Rule) (values : List (ℕ × Value)) (count : ℕ) (at : At) (stand : Stand) : Type 0
  where
    pub next : Path
    pub among : Among (all_steps s trees values (take count rule.body) (opened rule values at ∷ [])) next
    pub at_is : stand.at ≡ next.at

pub front_path : (s : Setting) (trees : Test → At → List Outcome) (rule : Rule) (values : List (ℕ × Value)) (found : List ℕ) (children : Nodes) (count : ℕ)
    (asked : Test) (at : At) (stand : Stand) → Knows s trees (node_list children) → FrontParts s rule values found children count asked at stand
    → FrontPath s trees rule values count at stand
front_path s trees rule values found children count asked at stand knows parts =
    let start : Path = opened rule values at in
    let ran : run s values (take count rule.body) (stand_of s start found (node_list children)) ≡ Some stand =
    ap (λ ps. run s values (take count rule.body) (record { at = at; found = found; own = own_values rule values; children = ps }))
    (sym (phrases_of-list s children)) ∙ parts.ran in
    let goes : Goes s (all_steps s trees values (take count rule.body) (start ∷ [])) start found (node_list children) stand =
    all_goes s trees values (take count rule.body) (start ∷ []) start found (node_list children) stand (inl refl) knows ran in
    record { next = goes.next; among = goes.among; at_is = ap (λ x. x.at) goes.stands }

-- cut-off nodes up to a depth
abbrev pub CutWithin : ℕ → CutNode → Type 0
CutWithin zero (stopped rule values found children count) = ⊥
CutWithin zero (entered rule values found children count child) = ⊥
CutWithin (suc depth) (stopped rule values found children count) = AllWithin depth children
CutWithin (suc depth) (entered rule values found children count child) = AllWithin depth children × CutWithin depth child

number_rule : (g : GrammarParts) (number : ℕ) (rule : Rule) → rule_with g number ≡ Some rule → (k : ℕ) × (slice_get g.rules k ≡ Some rule)
number_rule g number rule h = by (number == 0) h
  where
    by : (b : Bool) → (if b then None else slice_get g.rules (number - 1)) ≡ Some rule → (k : ℕ) × (slice_get g.rules k ≡ Some rule)
    by true k = cc
    by false k = (number - 1, k)

got_among : (rules : List Rule) (k : ℕ) (rule : Rule) → slice_get rules k ≡ Some rule → Among rules rule
got_among [] k rule h = cc
got_among (r ∷ rs) zero rule h = inl (sym (same_Some r rule h))
got_among (r ∷ rs) (suc k) rule h = inr (got_among rs k rule h)

-- the test is true where an instance of a rule goes on
cut_has : (s : Setting) (depth : ℕ) (wanted : Test) (at : At) (number : ℕ) (rule : Rule) (values : List (ℕ × Value)) → rule_with s.grammar number ≡ Some rule
    → may_begin s rule wanted values ≡ true → goes_from s (trees_of s depth) (cut_of s depth) values rule.body (opened rule values at ∷ []) ≡ true
    → cut_of s (suc depth) wanted at ≡ true
cut_has s depth wanted at number rule values there begins goes =
    let fit : fits (under values rule.head) wanted ≡ true = and_first (fits (under values rule.head) wanted) (is_instance s rule values) begins in
    let instance : is_instance s rule values ≡ true = and_second (fits (under values rule.head) wanted) (is_instance s rule values) begins in
    let named : (rule.head.name == wanted.name) ≡ true = and_first (rule.head.name == wanted.name) _ fit in
    let place : (k : ℕ) × (slice_get s.grammar.rules k ≡ Some rule) = number_rule s.grammar number rule there in
    let any : list_any (instance_cut s (trees_of s depth) (cut_of s depth) wanted at rule) (instances s rule wanted) ≡ true =
    passes_any (instance_cut s (trees_of s depth) (cut_of s depth) wanted at rule) (instances s rule wanted) values
    (instance_has s rule wanted values instance fit) (and_from _ _ begins goes) in
    passes_any (rule_cut s (trees_of s depth) (cut_of s depth) wanted at) s.grammar.rules rule (got_among s.grammar.rules place.0 rule place.1)
    (and_from _ _ named any)

knows_all : (s : Setting) (depth : ℕ) (children : Nodes) → AllWithin depth children → Knows s (trees_of s depth) (node_list children)
knows_all s depth children within n asked start after m e = tree_has s depth n asked start after (within_among depth children n within m) e

pub cut_complete : (s : Setting) (depth : ℕ) (cut : CutNode) (wanted : Test) (at : At) → CutWithin depth cut → cut_end s cut wanted at ≡ Some (length s.tokens)
    → cut_of s depth wanted at ≡ true
cut_complete s zero (stopped number values found children count) wanted at within h = absurd within
cut_complete s zero (entered number values found children count child) wanted at within h = absurd within
cut_complete s (suc depth) (stopped number values found children count) wanted at within h = by (rule_with s.grammar number) refl h
  where
    led : (rule : Rule) → rule_with s.grammar number ≡ Some rule → (o : Option Stand) → front s rule values found (phrases_of s children) count wanted at ≡ o
        → option_map (λ stand. stand.at.place) o ≡ Some (length s.tokens) → cut_of s (suc depth) wanted at ≡ true
    led rule there None w k = cc
    led rule there (Some stand) w k =
        let parts : FrontParts s rule values found children count wanted at stand = front_parts s rule values found children count wanted at stand w in
        let path : FrontPath s (trees_of s depth) rule values count at stand =
        front_path s (trees_of s depth) rule values found children count wanted at stand (knows_all s depth children within) parts in
        cut_has s depth wanted at number rule values there parts.begins
        (goes_end s (trees_of s depth) (cut_of s depth) values rule.body (opened rule values at ∷ []) count path.next path.among
        (ap (λ x. x.place) (sym path.at_is) ∙ same_Some stand.at.place (length s.tokens) k))

    by : (o : Option Rule) → rule_with s.grammar number ≡ o
        → option_map (λ stand. stand.at.place) (option_and_then (λ r. front s r values found (phrases_of s children) count wanted at) o)
        ≡ Some (length s.tokens) → cut_of s (suc depth) wanted at ≡ true
    by None w k = cc
    by (Some rule) w k = led rule w (front s rule values found (phrases_of s children) count wanted at) refl k
cut_complete s (suc depth) (entered number values found children count child) wanted at within h =
    by (λ asked place e. cut_complete s depth child asked place within.1 e) (rule_with s.grammar number) refl h
  where
    enter : ((asked : Test) (place : At) → cut_end s child asked place ≡ Some (length s.tokens) → cut_of s depth asked place ≡ true) → (rule : Rule)
        → rule_with s.grammar number ≡ Some rule → (stand : Stand) → front s rule values found (phrases_of s children) count wanted at ≡ Some stand
        → (o : Option Category) → next_category rule count ≡ o → option_and_then (λ c. cut_end s child (under values c) stand.at) o ≡ Some (length s.tokens)
        → cut_of s (suc depth) wanted at ≡ true
    enter later rule there stand w None x k = cc
    enter later rule there stand w (Some c) x k =
        let parts : FrontParts s rule values found children count wanted at stand = front_parts s rule values found children count wanted at stand w in
        let path : FrontPath s (trees_of s depth) rule values count at stand =
        front_path s (trees_of s depth) rule values found children count wanted at stand (knows_all s depth children within.0) parts in
        cut_has s depth wanted at number rule values there parts.begins
        (goes_enter s (trees_of s depth) (cut_of s depth) values rule.body (opened rule values at ∷ []) count path.next c path.among x
        (ap (cut_of s depth (under values c)) (sym path.at_is) ∙ later (under values c) stand.at k))

    led : ((asked : Test) (place : At) → cut_end s child asked place ≡ Some (length s.tokens) → cut_of s depth asked place ≡ true) → (rule : Rule)
        → rule_with s.grammar number ≡ Some rule → (o : Option Stand) → front s rule values found (phrases_of s children) count wanted at ≡ o
        → option_and_then (λ stand. option_and_then (λ c. cut_end s child (under values c) stand.at) (next_category rule count)) o ≡ Some (length s.tokens)
        → cut_of s (suc depth) wanted at ≡ true
    led later rule there None w k = cc
    led later rule there (Some stand) w k = enter later rule there stand w (next_category rule count) refl k

    by : ((asked : Test) (place : At) → cut_end s child asked place ≡ Some (length s.tokens) → cut_of s depth asked place ≡ true) → (o : Option Rule)
        → rule_with s.grammar number ≡ o
        → option_and_then (λ stand. option_and_then (λ c. cut_end s child (under values c) stand.at) (option_and_then (λ r. next_category r count) o))
        (option_and_then (λ r. front s r values found (phrases_of s children) count wanted at) o) ≡ Some (length s.tokens)
        → cut_of s (suc depth) wanted at ≡ true
    by later None w k = cc
    by later (Some rule) w k = led later rule w (front s rule values found (phrases_of s children) count wanted at) refl k
