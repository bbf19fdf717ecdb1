-- Each tree up to a depth is listed.
use Rattle.std.proofs.Common.{◌≡◌, ℕ, zero, suc, ◌+◌, ◌-◌, ◌<◌, ◌≤◌, List, [], ◌∷◌, ◌++◌, map, Bool, true, false, ◌&&◌, ◌⊎◌, inl, inr, Option, Some, None, refl, sym, ap, subst, ◌∙◌, arith, append-nil, add-zero}
use Rattle.std.specs.Prelude.{if◌then◌else◌, ◌==◌, option_and_then, slice_get, unwrap_or}
use Rattle.std.specs.List.{flat_map}
use Rattle.std.proofs.lemmas.Option.{same_Some}
use Rattle.std.proofs.lemmas.Bool.{and_from}
use Rattle.wiki_base.proofs.BoolLaws.{and_first, and_second}
use Rattle.codeco_terms.specs.declared.values.Value.{Value}
use Rattle.codeco_terms.specs.declared.rules.Rule.{Rule}
use Rattle.scopes.specs.declared.agreement.Test.{Test}
use Rattle.derivation_trees.specs.Trees.{Node, Nodes, node, none, more, nodes_from}
use Rattle.derivation_trees.specs.Settings.{Setting}
use Rattle.derivation_trees.specs.Instances.{under, is_instance, own_values}
use Rattle.derivation_trees.specs.Derives.{At, Stand, Phrase, run, fits, ended, phrase, phrase_of, phrases_of, is_none_left, list_after}
use Rattle.derivations.specs.Enumeration.{Path, Outcome, opened, ended_path, all_steps, instances, instance_trees, rule_trees, rules_trees, trees_of}
use Rattle.derivations.proofs.Members.{Among, among_left, among_right, among_map, among_flat_map}
use Rattle.derivations.proofs.ChoiceLemmas.{instance_has}
use Rattle.derivations.proofs.StartLemmas.{run_starts}
use Rattle.derivations.proofs.StepLemmas.{stand_of, Goes, Knows, all_goes}

-- nodes as a list

abbrev pub node_list : Nodes → List Node
node_list none = []
node_list (more n ns) = n ∷ node_list ns

pub nodes_again : (ns : Nodes) → nodes_from (node_list ns) ≡ ns
nodes_again none = refl
nodes_again (more n ns) = ap (more n) (nodes_again ns)

pub phrases_of-list : (s : Setting) (ns : Nodes) → phrases_of s ns ≡ map (phrase_of s) (node_list ns)
phrases_of-list s none = refl
phrases_of-list s (more n ns) = ap (λ ps. phrase_of s n ∷ ps) (phrases_of-list s ns)

-- trees up to a depth

abbrev mutual
  pub Within : ℕ → Node → Type 0
  Within zero (node rule values found children) = ⊥
  Within (suc depth) (node rule values found children) = AllWithin depth children

  pub AllWithin : ℕ → Nodes → Type 0
  AllWithin depth none = Unit {0}
  AllWithin depth (more n ns) = Within depth n × AllWithin depth ns

pub within_among : (depth : ℕ) (ns : Nodes) (n : Node) → AllWithin depth ns → Among (node_list ns) n → Within depth n
within_among depth none n h k = absurd k
within_among depth (more m ms) n h (inl e) = subst (Within depth) (sym e) h.0
within_among depth (more m ms) n h (inr k) = within_among depth ms n h.1 k

-- what a phrase is made of
pub record Parts (s : Setting) (rule : Rule) (values : List (ℕ × Value)) (found : List ℕ) (children : List Phrase) (asked : Test) (at after : At) : Type 0 where
  pub fit : fits (under values rule.head) asked ≡ true
  pub instance : is_instance s rule values ≡ true
  pub stand : Stand
  pub ran : run s values rule.body (record { at = at; found = found; own = own_values rule values; children = children }) ≡ Some stand
  pub no_found : is_none_left stand.found ≡ true
  pub no_children : is_none_left stand.children ≡ true
  pub ends : after ≡ record { place = stand.at.place; list = list_after rule.closing at.list stand.at.list }

pub phrase_parts : (s : Setting) (rule : Rule) (values : List (ℕ × Value)) (found : List ℕ) (children : List Phrase) (asked : Test) (at after : At)
    → phrase s rule values found children asked at ≡ Some after → Parts s rule values found children asked at after
phrase_parts s rule values found children asked at after h = by (fits (under values rule.head) asked && is_instance s rule values) refl h
  where
    done : (fits (under values rule.head) asked && is_instance s rule values) ≡ true → (stand : Stand)
        → run s values rule.body (record { at = at; found = found; own = own_values rule values; children = children }) ≡ Some stand → (b : Bool)
        → (is_none_left stand.found && is_none_left stand.children) ≡ b
        → (if b then Some (record { place = stand.at.place; list = list_after rule.closing at.list stand.at.list }) else None) ≡ Some after
        → Parts s rule values found children asked at after
    done e stand w false x n = cc
    done e stand w true x n = record {
      fit = and_first (fits (under values rule.head) asked) (is_instance s rule values) e;
      instance = and_second (fits (under values rule.head) asked) (is_instance s rule values) e;
      stand = stand;
      ran = w;
      no_found = and_first (is_none_left stand.found) (is_none_left stand.children) x;
      no_children = and_second (is_none_left stand.found) (is_none_left stand.children) x;
      ends = sym (same_Some (record { place = stand.at.place; list = list_after rule.closing at.list stand.at.list }) after n);
    }

    led : (fits (under values rule.head) asked && is_instance s rule values) ≡ true → (o : Option Stand)
        → run s values rule.body (record { at = at; found = found; own = own_values rule values; children = children }) ≡ o
        → option_and_then (ended rule at.list) o ≡ Some after → Parts s rule values found children asked at after
    led e None w m = cc
    led e (Some stand) w m = done e stand w (is_none_left stand.found && is_none_left stand.children) refl m

    by : (b : Bool) → (fits (under values rule.head) asked && is_instance s rule values) ≡ b
        → option_and_then (λ stand. option_and_then (ended rule at.list) (run s values rule.body stand))
        (if b then Some (record { at = at; found = found; own = own_values rule values; children = children }) else None) ≡ Some after
        → Parts s rule values found children asked at after
    by false e k = cc
    by true e k = led e (run s values rule.body (record { at = at; found = found; own = own_values rule values; children = children })) refl k

pub none_left_nil : {X : Type 0} (xs : List X) → is_none_left xs ≡ true → xs ≡ []
none_left_nil [] h = refl
none_left_nil (x ∷ xs) h = cc

pub none_mapped : {X Y : Type 0} (f : X → Y) (xs : List X) → is_none_left (map f xs) ≡ true → xs ≡ []
none_mapped f [] h = refl
none_mapped f (x ∷ xs) h = cc

-- a tree with an instance is listed
instance_tree_has : (s : Setting) (trees : Test → At → List Outcome) (wanted : Test) (at after : At) (number : ℕ) (rule : Rule) (values : List (ℕ × Value))
    (found : List ℕ) (children : Nodes) → Knows s trees (node_list children) → phrase s rule values found (phrases_of s children) wanted at ≡ Some after
    → Among (rule_trees s trees wanted at number rule) (record { tree = node number values found children; at = after })
instance_tree_has s trees wanted at after number rule values found children knows h =
    let parts : Parts s rule values found (phrases_of s children) wanted at after =
    phrase_parts s rule values found (phrases_of s children) wanted at after h in
    let start : Path = opened rule values at in
    let ran : run s values rule.body (stand_of s start found (node_list children)) ≡ Some parts.stand =
    ap (λ ps. run s values rule.body (record { at = at; found = found; own = own_values rule values; children = ps })) (sym (phrases_of-list s children))
    ∙ parts.ran in
    let goes : Goes s (all_steps s trees values rule.body (start ∷ [])) start found (node_list children) parts.stand =
    all_goes s trees values rule.body (start ∷ []) start found (node_list children) parts.stand (inl refl) knows ran in
    let left : goes.left ≡ [] = none_left_nil goes.left (ap (λ x. is_none_left x.found) (sym goes.stands) ∙ parts.no_found) in
    let rest : goes.rest ≡ [] = none_mapped (phrase_of s) goes.rest (ap (λ x. is_none_left x.children) (sym goes.stands) ∙ parts.no_children) in
    let found_is : goes.next.found ≡ found = sym (append-nil goes.next.found) ∙ ap (λ xs. goes.next.found ++ xs) (sym left) ∙ goes.found_is in
    let children_is : goes.next.children ≡ node_list children =
    sym (append-nil goes.next.children) ∙ ap (λ xs. goes.next.children ++ xs) (sym rest) ∙ goes.children_is in
    let same : ended_path number rule values at.list goes.next ≡ record { tree = node number values found children; at = after } =
    ap (λ fs. record {
      tree = node number values fs (nodes_from goes.next.children);
      at = record { place = goes.next.at.place; list = list_after rule.closing at.list goes.next.at.list };
    }) found_is
    ∙ ap (λ ns. record {
      tree = node number values found ns;
      at = record { place = goes.next.at.place; list = list_after rule.closing at.list goes.next.at.list };
    }) (ap nodes_from children_is ∙ nodes_again children)
    ∙ ap (λ x. record { tree = node number values found children; at = record { place = x.at.place; list = list_after rule.closing at.list x.at.list } })
    (sym goes.stands) ∙ ap (λ a. record { tree = node number values found children; at = a }) (sym parts.ends) in
    let listed : Among (map (ended_path number rule values at.list) (all_steps s trees values rule.body (start ∷ [])))
    (record { tree = node number values found children; at = after }) =
    subst (Among (map (ended_path number rule values at.list) (all_steps s trees values rule.body (start ∷ [])))) same
    (among_map (ended_path number rule values at.list) (all_steps s trees values rule.body (start ∷ [])) goes.next goes.among) in
    let of_instance : Among (instance_trees s trees wanted at number rule values) (record { tree = node number values found children; at = after }) =
    subst (λ b. Among (if b then map (ended_path number rule values at.list) (all_steps s trees values rule.body (start ∷ [])) else [])
    (record { tree = node number values found children; at = after })) (sym (and_from _ _ parts.fit parts.instance)) listed in
    let all : Among (flat_map (instance_trees s trees wanted at number rule) (instances s rule wanted))
    (record { tree = node number values found children; at = after }) =
    among_flat_map (instance_trees s trees wanted at number rule) (instances s rule wanted) values
    (record { tree = node number values found children; at = after }) (instance_has s rule wanted values parts.instance parts.fit) of_instance in
    subst (λ b. Among (if b then flat_map (instance_trees s trees wanted at number rule) (instances s rule wanted) else [])
    (record { tree = node number values found children; at = after }))
    (sym (and_from _ _ (and_first (rule.head.name == wanted.name) _ parts.fit)
    (run_starts s values rule.body (record { at = at; found = found; own = own_values rule values; children = phrases_of s children }) parts.stand
    parts.ran))) all

rules_has : (s : Setting) (trees : Test → At → List Outcome) (wanted : Test) (at : At) (first : ℕ) (rules : List Rule) (k : ℕ) (rule : Rule) (o : Outcome)
    → slice_get rules k ≡ Some rule → Among (rule_trees s trees wanted at (first + k) rule) o → Among (rules_trees s trees wanted at first rules) o
rules_has s trees wanted at first [] k rule o h m = cc
rules_has s trees wanted at first (r ∷ rs) zero rule o h m =
    among_left (rule_trees s trees wanted at first r) (rules_trees s trees wanted at (first + 1) rs) o
    (subst (λ n. Among (rule_trees s trees wanted at n r) o) (add-zero first)
    (subst (λ x. Among (rule_trees s trees wanted at (first + 0) x) o) (sym (ap (λ q. unwrap_or q r) h)) m))
rules_has s trees wanted at first (r ∷ rs) (suc k) rule o h m =
    let next : first + suc k ≡ (first + 1) + k = omega arith in
    among_right (rule_trees s trees wanted at first r) (rules_trees s trees wanted at (first + 1) rs) o
    (rules_has s trees wanted at (first + 1) rs k rule o h (subst (λ n. Among (rule_trees s trees wanted at n rule) o) next m))

number_of : (number : ℕ) → (number == 0) ≡ false → 1 + (number - 1) ≡ number
number_of number h = by number h
  where
    by : (n : ℕ) → (n == 0) ≡ false → 1 + (n - 1) ≡ n
    by zero w = cc
    by (suc n) w = omega arith

-- every tree up to the depth that is a phrase for the category is listed
pub tree_has : (s : Setting) (depth : ℕ) (n : Node) (wanted : Test) (at after : At) → Within depth n → phrase_of s n wanted at ≡ Some after
    → Among (trees_of s depth wanted at) (record { tree = n; at = after })
tree_has s zero (node number values found children) wanted at after within h = absurd within
tree_has s (suc depth) (node number values found children) wanted at after within h =
    by (λ n asked start a m e. tree_has s depth n asked start a (within_among depth children n within m) e) (number == 0) refl h
  where
    of : Knows s (trees_of s depth) (node_list children) → (number == 0) ≡ false → (o : Option Rule) → slice_get s.grammar.rules (number - 1) ≡ o
        → option_and_then (λ r. phrase s r values found (phrases_of s children) wanted at) o ≡ Some after
        → Among (rules_trees s (trees_of s depth) wanted at 1 s.grammar.rules) (record { tree = node number values found children; at = after })
    of knows e None w m = cc
    of knows e (Some rule) w m =
        rules_has s (trees_of s depth) wanted at 1 s.grammar.rules (number - 1) rule (record { tree = node number values found children; at = after }) w
        (subst (λ n. Among (rule_trees s (trees_of s depth) wanted at n rule) (record { tree = node number values found children; at = after }))
        (sym (number_of number e)) (instance_tree_has s (trees_of s depth) wanted at after number rule values found children knows m))

    by : Knows s (trees_of s depth) (node_list children) → (b : Bool) → (number == 0) ≡ b
        → option_and_then (λ r. phrase s r values found (phrases_of s children) wanted at) (if b then None else slice_get s.grammar.rules (number - 1))
        ≡ Some after → Among (rules_trees s (trees_of s depth) wanted at 1 s.grammar.rules) (record { tree = node number values found children; at = after })
    by knows true e k = cc
    by knows false e k = of knows e (slice_get s.grammar.rules (number - 1)) refl k
