-- Cut-off nodes that are asked for what comes next, and the rules that they are of.
use Rattle.std.proofs.Common.{◌≡◌, ℕ, List, [], ◌++◌, true, ◌&&◌, take, Option, Some, None, refl, sym, ap, ◌∙◌, ◌⊎◌, inl, inr}
use Rattle.std.specs.Prelude.{option_and_then, option_map}
use Rattle.std.proofs.lemmas.Option.{option_and_then_some, same_Some}
use Rattle.std.proofs.lemmas.Bool.{and_from}
use Rattle.codeco_terms.specs.declared.values.Value.{Value}
use Rattle.codeco_terms.specs.declared.categories.Category.{Category}
use Rattle.codeco_terms.specs.declared.rules.Rule.{Rule}
use Rattle.scopes.specs.declared.entries.Entry.{Entry}
use Rattle.scopes.specs.declared.agreement.Test.{Test}
use Rattle.derivation_trees.specs.Trees.{Nodes}
use Rattle.derivation_trees.specs.Settings.{Setting}
use Rattle.derivation_trees.specs.Instances.{under, own_values, is_instance}
use Rattle.derivation_trees.specs.Derives.{At, Stand, run, begun, rule_with, fits, phrases_of, is_none_left}
use Rattle.derivation_trees.specs.Partial.{CutNode, stopped, entered, used_up, front, next_category, front_of, cut_end}
use Rattle.chart_table.specs.declared.asks.Ask.{Ask}
use Rattle.chart_table.specs.declared.asks.Ask.TheVariants as ask
use Rattle.chart_table.specs.Leading.{Path}
use Rattle.scopes.specs.AccessList.{referents}
use Rattle.chart_table.specs.Asks.{is_met, CutMeets, AskLeads}
use Rattle.chart_table.proofs.RuleAsking.{RuleAsks}
use Rattle.chart_table.proofs.PassLemmas.{if_some, if_true, both_true, stand_at, run_path, path_runs}
use Rattle.chart_table.proofs.OpenerLemmas.{referents-append, relisted, run_adds, nodes_parallel}

pub place_some : {A B P : Type 0} (f : A → B) (o : Option A) (y : B) → option_map f o ≡ Some y → ((x : A) → o ≡ Some x → f x ≡ y → P) → P
place_some f None y h k = absurd (cc)
place_some f (Some x) y h k = k x refl (same_Some (f x) y h)

pub all_used : (stand after : Stand) → used_up stand ≡ Some after → stand ≡ after
all_used stand after h = if_some (is_none_left stand.found && is_none_left stand.children) stand after h (λ _ e. e)

-- what a front shows
pub record Fronted (s : Setting) (rule : Rule) (values : List (ℕ × Value)) (count : ℕ) (asked : Test) (at last : At) : Type 0 where
  pub instance : is_instance s rule values ≡ true
  pub head : fits (under values rule.head) asked ≡ true
  pub path : Path s values (own_values rule values) (take count rule.body) at last

pub front_is : (s : Setting) (rule : Rule) (values : List (ℕ × Value)) (found : List ℕ) (ns : Nodes) (count : ℕ) (asked : Test) (at : At) (stand : Stand)
    → front s rule values found (phrases_of s ns) count asked at ≡ Some stand → Fronted s rule values count asked at stand.at
front_is s rule values found ns count asked at stand h =
    option_and_then_some _ (begun s rule values found (phrases_of s ns) asked at) stand h (λ start starts runs.
    if_some (fits (under values rule.head) asked && is_instance s rule values) _ start starts (λ b same.
    both_true (fits (under values rule.head) asked) (is_instance s rule values) b (λ head instance.
    option_and_then_some used_up (run s values (take count rule.body) start) stand runs (λ last ran used.
    record {
      instance = instance;
      head = head;
      path = run_path s values (take count rule.body) at found (own_values rule values) ns stand
          (ap (run s values (take count rule.body)) same ∙ ran ∙ ap Some (all_used last stand used));
    }))))

-- a rule that is cut off and asks for what comes next
pub record SomeAsks (s : Setting) (halt : ℕ) (asks : Ask) (asked : Test) (at : At) : Type 0 where
  pub number : ℕ
  pub rule : Rule
  pub has : rule_with s.grammar number ≡ Some rule
  pub values : List (ℕ × Value)
  pub cut : RuleAsks s halt asks rule values asked at

pub met_in : (s : Setting) (number : ℕ) (rule : Rule) (values : List (ℕ × Value)) (found : List ℕ) (ns : Nodes) (count : ℕ) (asks : Ask)
    → rule_with s.grammar number ≡ Some rule → CutMeets s (stopped number values found ns count) asks → is_met rule values count asks ≡ true
met_in s number rule values found ns count asks has m =
    ap (λ r. is_met r values count asks) (same_Some rule m.0 (sym has ∙ m.1)) ∙ m.2

pub rule_of_ask : (s : Setting) (halt : ℕ) (asks : Ask) (asked : Test) (at : At) → AskLeads s halt asks asked at → SomeAsks s halt asks asked at
rule_of_ask s halt asks asked at (stopped n values found ns count, h, m) =
    place_some (λ (stand : Stand). stand.at.place) (front_of s n values found ns count asked at) halt h (λ stand is place.
    option_and_then_some _ (rule_with s.grammar n) stand is (λ rule has fronts.
    let f = front_is s rule values found ns count asked at stand fronts in
    record {
      number = n;
      rule = rule;
      has = has;
      values = values;
      cut =
          record {
            instance = f.instance;
            head = f.head;
            count = count;
            last = stand.at;
            path = f.path;
            stop = inl (place, met_in s n rule values found ns count asks has m);
          };
    }))
rule_of_ask s halt asks asked at (entered n values found ns count child, h, m) =
    option_and_then_some _ (front_of s n values found ns count asked at) halt h (λ stand is ends.
    option_and_then_some _ (rule_with s.grammar n) stand is (λ rule has fronts.
    option_and_then_some (λ category. cut_end s child (under values category) stand.at) (option_and_then (λ r. next_category r count) (rule_with s.grammar n))
    halt ends (λ c next cut.
    let f = front_is s rule values found ns count asked at stand fronts in
    record {
      number = n;
      rule = rule;
      has = has;
      values = values;
      cut =
          record {
            instance = f.instance;
            head = f.head;
            count = count;
            last = stand.at;
            path = f.path;
            stop = inr (c, sym (ap (option_and_then (λ r. next_category r count)) has) ∙ next, (child, cut, m));
          };
    })))

-- the found positions and children of a front
record Fronting (s : Setting) (number : ℕ) (values : List (ℕ × Value)) (count : ℕ) (asked : Test) (at last : At) : Type 0 where
  found : List ℕ
  children : Nodes
  stand : Stand
  is : front_of s number values found children count asked at ≡ Some stand
  at_is : stand.at ≡ last

fronting : (s : Setting) (number : ℕ) (rule : Rule) (values : List (ℕ × Value)) (count : ℕ) (asked : Test) (at last : At)
    → rule_with s.grammar number ≡ Some rule → is_instance s rule values ≡ true → fits (under values rule.head) asked ≡ true
    → Path s values (own_values rule values) (take count rule.body) at last → Fronting s number values count asked at last
fronting s number rule values count asked at last has instance head path =
    let ran = path_runs s values (take count rule.body) at (own_values rule values) last path in
    let kids = phrases_of s ran.children in
    let begins : begun s rule values ran.found kids asked at ≡ Some (stand_at s at ran.found (own_values rule values) ran.children) =
    if_true _ _ _ (and_from _ _ head instance) refl in
    record {
      found = ran.found;
      children = ran.children;
      stand = record { at = last; found = []; own = ran.own_left; children = [] };
      is = ap (option_and_then (λ r. front s r values ran.found kids count asked at)) has
          ∙ ap (option_and_then (λ stand. option_and_then used_up (run s values (take count rule.body) stand))) begins ∙ ap (option_and_then used_up) ran.is;
      at_is = refl;
    }

pub ask_of_rule : (s : Setting) (halt : ℕ) (asks : Ask) (asked : Test) (at : At) (number : ℕ) (rule : Rule) (values : List (ℕ × Value))
    → rule_with s.grammar number ≡ Some rule → RuleAsks s halt asks rule values asked at → AskLeads s halt asks asked at
ask_of_rule s halt asks asked at number rule values has c =
    let f = fronting s number rule values c.count asked at c.last has c.instance c.head c.path in
    by_stop f c.stop
  where
    by_stop : Fronting s number values c.count asked at c.last
        → ((c.last.place ≡ halt) × (is_met rule values c.count asks ≡ true))
        ⊎ ((d : Category) × (next_category rule c.count ≡ Some d) × AskLeads s halt asks (under values d) c.last) → AskLeads s halt asks asked at
    by_stop f (inl here) = (
      stopped number values f.found f.children c.count,
      ap (option_map (λ (stand : Stand). stand.at.place)) f.is ∙ ap (λ a. Some a.place) f.at_is ∙ ap Some here.0,
      (rule, has, here.1),
    )
    by_stop f (inr d) = (
      entered number values f.found f.children c.count d.2.0,
      ap (option_and_then (λ stand. option_and_then (λ category. cut_end s d.2.0 (under values category) stand.at)
          (option_and_then (λ r. next_category r c.count) (rule_with s.grammar number)))) f.is
          ∙ ap (option_and_then (λ category. cut_end s d.2.0 (under values category) f.stand.at))
          (ap (option_and_then (λ r. next_category r c.count)) has ∙ d.1)
          ∙ ap (cut_end s d.2.0 (under values d.0)) f.at_is ∙ d.2.1,
      d.2.2,
    )

-- nothing is asked for where a node is cut off: it ends there
pub any_met : (s : Setting) (halt : ℕ) (cut : CutNode) (asked : Test) (at : At) → cut_end s cut asked at ≡ Some halt → CutMeets s cut ask.Any
any_met s halt (stopped n values found ns count) asked at h =
    place_some (λ (stand : Stand). stand.at.place) (front_of s n values found ns count asked at) halt h (λ stand is place.
    option_and_then_some _ (rule_with s.grammar n) stand is (λ rule has fronts.
    (rule, has, refl)))
any_met s halt (entered n values found ns count child) asked at h =
    option_and_then_some _ (front_of s n values found ns count asked at) halt h (λ stand is ends.
    option_and_then_some (λ category. cut_end s child (under values category) stand.at) (option_and_then (λ r. next_category r count) (rule_with s.grammar n))
    halt ends (λ c next cut.
    any_met s halt child (under values c) stand.at cut))

pub any_leads : (s : Setting) (halt : ℕ) (asked : Test) (at : At) → (cut : CutNode) × (cut_end s cut asked at ≡ Some halt) → AskLeads s halt ask.Any asked at
any_leads s halt asked at h = (h.0, h.1, any_met s halt h.0 asked at h.1)

pub leads_any : (s : Setting) (halt : ℕ) (asks : Ask) (asked : Test) (at : At) → AskLeads s halt asks asked at
    → (cut : CutNode) × (cut_end s cut asked at ≡ Some halt)
leads_any s halt asks asked at h = (h.0, h.1)

-- a cut-off node never looks at the openers of the list that it starts with

front_relisted : (s : Setting) (rule : Rule) (values : List (ℕ × Value)) (found : List ℕ) (ns : Nodes) (count : ℕ) (asked : Test) (place : ℕ)
    (one other : List Entry) (stand : Stand) → referents one ≡ referents other
    → front s rule values found (phrases_of s ns) count asked (record { place = place; list = one }) ≡ Some stand
    → (added : List Entry) × (stand.at.list ≡ one ++ added)
    × (front s rule values found (phrases_of s ns) count asked (record { place = place; list = other }) ≡ Some (relisted stand (other ++ added)))
front_relisted s rule values found ns count asked place one other stand same h =
    option_and_then_some _ (begun s rule values found (phrases_of s ns) asked (record { place = place; list = one })) stand h (λ start starts runs.
    if_some (fits (under values rule.head) asked && is_instance s rule values) _ start starts (λ b is_start.
    option_and_then_some used_up (run s values (take count rule.body) start) stand runs (λ last ran used.
    let first : Stand = record { at = record { place = place; list = one }; found = found; own = own_values rule values; children = phrases_of s ns } in
    let is_last = all_used last stand used in
    let a = run_adds s values (take count rule.body) first stand other same (nodes_parallel s ns)
    (ap (run s values (take count rule.body)) is_start ∙ ran ∙ ap Some is_last) in
    if_some (is_none_left last.found && is_none_left last.children) last stand used (λ none_left _. (
      a.added,
      a.grown,
      ap (option_and_then (λ st. option_and_then used_up (run s values (take count rule.body) st))) (if_true _ _ (relisted first other) b refl)
          ∙ ap (option_and_then used_up) a.same
          ∙ if_true (is_none_left stand.found && is_none_left stand.children) _ _
          (sym (ap (λ st. is_none_left st.found && is_none_left st.children) is_last) ∙ none_left) refl,
    )))))

pub end_relisted : (s : Setting) (cut : CutNode) (asked : Test) (place : ℕ) (one other : List Entry) (n : ℕ) → referents one ≡ referents other
    → cut_end s cut asked (record { place = place; list = one }) ≡ Some n → cut_end s cut asked (record { place = place; list = other }) ≡ Some n
end_relisted s (stopped number values found ns count) asked place one other n same h =
    place_some (λ (stand : Stand). stand.at.place) (front_of s number values found ns count asked (record { place = place; list = one })) n h (λ stand is ends.
    option_and_then_some _ (rule_with s.grammar number) stand is (λ rule has fronts.
    let a = front_relisted s rule values found ns count asked place one other stand same fronts in
    ap (λ o. option_map (λ (st : Stand). st.at.place)
    (option_and_then (λ r. front s r values found (phrases_of s ns) count asked (record { place = place; list = other })) o)) has
    ∙ ap (option_map (λ (st : Stand). st.at.place)) a.2 ∙ ap Some ends))
end_relisted s (entered number values found ns count child) asked place one other n same h =
    option_and_then_some _ (front_of s number values found ns count asked (record { place = place; list = one })) n h (λ stand is ends.
    option_and_then_some _ (rule_with s.grammar number) stand is (λ rule has fronts.
    option_and_then_some (λ category. cut_end s child (under values category) stand.at)
    (option_and_then (λ r. next_category r count) (rule_with s.grammar number)) n ends (λ c next cut.
    let a = front_relisted s rule values found ns count asked place one other stand same fronts in
    let lists : referents (one ++ a.0) ≡ referents (other ++ a.0) =
    referents-append one a.0 ∙ ap (λ r. r ++ referents a.0) same ∙ sym (referents-append other a.0) in
    let deeper = end_relisted s child (under values c) stand.at.place (one ++ a.0) (other ++ a.0) n lists
    (ap (λ l. cut_end s child (under values c) (record { place = stand.at.place; list = l })) (sym a.1) ∙ cut) in
    ap (λ o. option_and_then (λ st. option_and_then (λ category. cut_end s child (under values category) st.at)
    (option_and_then (λ r. next_category r count) (rule_with s.grammar number)))
    (option_and_then (λ r. front s r values found (phrases_of s ns) count asked (record { place = place; list = other })) o)) has
    ∙ ap (option_and_then (λ st. option_and_then (λ category. cut_end s child (under values category) st.at)
    (option_and_then (λ r. next_category r count) (rule_with s.grammar number)))) a.2
    ∙ ap (option_and_then (λ category. cut_end s child (under values category) (record { place = stand.at.place; list = other ++ a.0 }))) next ∙ deeper)))

pub ask_alike : (s : Setting) (halt : ℕ) (asks : Ask) (asked : Test) (place : ℕ) (one other : List Entry) → referents one ≡ referents other
    → AskLeads s halt asks asked (record { place = place; list = one }) → AskLeads s halt asks asked (record { place = place; list = other })
ask_alike s halt asks asked place one other same h = (h.0, end_relisted s h.0 asked place one other halt same h.1, h.2)
