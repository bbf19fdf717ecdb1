-- How deep derivations are: no category begins with itself, and each node takes a token or more.
use Rattle.std.proofs.Common.{◌≡◌, ℕ, zero, suc, ◌+◌, ◌-◌, ◌*◌, ◌<◌, ◌≤◌, List, [], ◌∷◌, ◌++◌, map, length, Bool, true, false, not, ◌&&◌, ◌||◌, ◌⊎◌, inl, inr, Option, Some, None, IsTrue, Contains, refl, sym, ap, subst, ◌∙◌, arith, add-one}
use Rattle.std.specs.Prelude.{if◌then◌else◌, ◌==◌, nat_lt, option_and_then, slice_get, slice_index_or}
use Rattle.std.specs.Option.{option_map_or}
use Rattle.std.specs.List.{list_any}
use Rattle.std.proofs.lemmas.Bool.Decides.{nat_tests}
use Rattle.std.proofs.Math.Nat.{suc-mul, mul-le-mul_right}
use Rattle.std.proofs.lemmas.Bool.{eq-eqb, or_cases, eqb-true}
use Rattle.std.proofs.lemmas.Option.{same_Some}
use Rattle.wiki_base.proofs.BoolLaws.{and_first}
use Rattle.derivation_trees.proofs.TruthLemmas.{true_is_false}
use Rattle.codeco_terms.specs.declared.values.Value.{Value}
use Rattle.codeco_terms.specs.declared.values.Value.TheVariants.{Pos}
use Rattle.codeco_terms.specs.declared.categories.Category.{Category}
use Rattle.codeco_terms.specs.declared.categories.Pattern.{Pattern}
use Rattle.codeco_terms.specs.declared.elements.Element.{Element}
use Rattle.codeco_terms.specs.declared.elements.Element.TheVariants.{Terminal, Preterminal, Sub, Position, Opener, Forward, Strong, Back, NoBack}
use Rattle.codeco_terms.specs.declared.rules.Rule.{Rule}
use Rattle.codeco_terms.specs.GrammarParts.{GrammarParts}
use Rattle.codeco_terms.specs.Values.{same_value}
use Rattle.codeco_checked.specs.declared.fault.GrammarFault.TheVariants.{EmptyRule, LeftRecursion}
use Rattle.codeco_checked.specs.Faults.{is_phrase, is_empty_rule, sub_name, first_category, StepsTo, Leads, IsRecursive, at_rule}
use Rattle.codeco_checked.specs.Sound.{IsSound}
use Rattle.scopes.specs.declared.agreement.Test.{Test}
use Rattle.scopes.specs.Resolution.{Finding, closest_finding, is_agreeing}
use Rattle.derivation_trees.specs.Trees.{Node, Nodes, node, none, more}
use Rattle.derivation_trees.specs.Settings.{Setting, matches_terminal, matches_preterminal}
use Rattle.derivation_trees.specs.Instances.{value_under, under, tests_under, own_values}
use Rattle.derivation_trees.specs.Stands.{is_sub}
use Rattle.derivation_trees.specs.Derives.{At, Stand, Phrase, pass, pass_token, pass_child, pass_finding, run, phrase, phrase_of, phrases_of, rule_with, is_none_left, is_found, reference_tests}
use Rattle.derivations.proofs.Members.{Among}
use Rattle.derivations.proofs.ListingLemmas.{Within, AllWithin, node_list, phrases_of-list, Parts, phrase_parts}
use Rattle.derivations.proofs.GrowLemmas.{Each}

-- what a grammar without these faults is

pub record Ordered (g : GrammarParts) : Type 0 where
  pub full : (r : Rule) → Contains g.rules r → list_any is_phrase r.body ≡ true
  pub no_circle : (r : Rule) → Contains g.rules r → IsRecursive g r.head.name → ⊥

-- places go on

abbrev pub Consumes : Phrase → Type 0
Consumes p = (asked : Test) (at after : At) → p asked at ≡ Some after → at.place + 1 ≤ after.place

pub record Moves (e : Element) (stand after : Stand) : Type 0 where
  pub on : stand.at.place ≤ after.at.place
  pub token : is_phrase e ≡ true → stand.at.place + 1 ≤ after.at.place
  pub same : is_phrase e ≡ false → after.at.place ≡ stand.at.place
  pub rest : Each Consumes after.children
  pub children : is_sub e ≡ false → after.children ≡ stand.children

moved_on : (e : Element) (b : Bool) (stand after : Stand) → is_phrase e ≡ true → Each Consumes stand.children → pass_token b stand ≡ Some after
    → Moves e stand after
moved_on e false stand after phrasal all h = cc
moved_on e true stand after phrasal all h =
    subst (Moves e stand) (same_Some (record {
      at = record { place = stand.at.place + 1; list = stand.at.list };
      found = stand.found;
      own = stand.own;
      children = stand.children;
    }) after h)
    (record { on = omega arith; token = λ _. omega arith; same = λ w. true_is_false (sym phrasal ∙ w); rest = all; children = λ _. refl })

stays : (e : Element) (stand mid after : Stand) → is_phrase e ≡ false → mid.at.place ≡ stand.at.place → mid.children ≡ stand.children
    → Each Consumes stand.children → Some mid ≡ Some after → Moves e stand after
stays e stand mid after special place children all h =
    subst (Moves e stand) (same_Some mid after h)
    (record {
      on = omega (arith, place);
      token = λ w. true_is_false (sym w ∙ special);
      same = λ _. place;
      rest = subst (Each Consumes) (sym children) all;
      children = λ _. children;
    })

tested : (e : Element) (b : Bool) (stand mid after : Stand) → is_phrase e ≡ false → mid.at.place ≡ stand.at.place → mid.children ≡ stand.children
    → Each Consumes stand.children → (if b then Some mid else None) ≡ Some after → Moves e stand after
tested e true stand mid after special place children all h = stays e stand mid after special place children all h
tested e false stand mid after special place children all h = cc

untested : (e : Element) (b : Bool) (stand after : Stand) → is_phrase e ≡ false → Each Consumes stand.children → (if b then None else Some stand) ≡ Some after
    → Moves e stand after
untested e true stand after special all h = cc
untested e false stand after special all h = stays e stand stand after special refl refl all h

found_moves : (e : Element) (values : List (ℕ × Value)) (positive : List Pattern) (finding : Option Finding) (found : List ℕ) (stand after : Stand)
    → is_phrase e ≡ false → Each Consumes stand.children → pass_finding values positive finding found stand ≡ Some after → Moves e stand after
found_moves e values positive finding [] stand after special all h = cc
found_moves e values positive finding (pos ∷ rest) stand after special all h =
    tested e (is_found values positive pos finding) stand (record { at = stand.at; found = rest; own = stand.own; children = stand.children }) after special
    refl refl all h

child_moves : (c : Category) (asked : Test) (children : List Phrase) (stand after : Stand) → Each Consumes children
    → pass_child asked children stand ≡ Some after → Moves (Sub c) stand after
child_moves c asked [] stand after all h = cc
child_moves c asked (p ∷ ps) stand after all h = by (p asked stand.at) refl h
  where
    by : (o : Option At) → p asked stand.at ≡ o
        → option_and_then (λ at. Some (record { at = at; found = stand.found; own = stand.own; children = ps })) o ≡ Some after → Moves (Sub c) stand after
    by None w k = cc
    by (Some at) w k =
        let on : stand.at.place + 1 ≤ at.place = all.0 asked stand.at at w in
        subst (Moves (Sub c) stand) (same_Some (record { at = at; found = stand.found; own = stand.own; children = ps }) after k)
        (record { on = omega (arith, on); token = λ _. on; same = λ v. true_is_false v; rest = all.1; children = λ v. true_is_false v })

pub pass_moves : (s : Setting) (values : List (ℕ × Value)) (e : Element) (stand after : Stand) → Each Consumes stand.children
    → pass s values e stand ≡ Some after → Moves e stand after
pass_moves s values (Terminal t) stand after all h = moved_on (Terminal t) (matches_terminal s t stand.at.place) stand after refl all h
pass_moves s values (Preterminal c) stand after all h = moved_on (Preterminal c) (matches_preterminal s (under values c) stand.at.place) stand after refl all h
pass_moves s values (Sub c) stand after all h = child_moves c (under values c) stand.children stand after all h
pass_moves s values (Position x) stand after all h =
    tested (Position x) (same_value (value_under values x) (Pos stand.at.place)) stand stand after refl refl refl all h
pass_moves s values Opener stand after all h = stays Opener stand _ after refl refl refl all h
pass_moves s values (Forward c) stand after all h = stays (Forward c) stand _ after refl refl refl all h
pass_moves s values (Strong c) stand after all h = stays (Strong c) stand _ after refl refl refl all h
pass_moves s values (Back positive negative) stand after all h =
    found_moves (Back positive negative) values positive (closest_finding (reference_tests values positive negative) stand.at.list) stand.found stand after refl
    all h
pass_moves s values (NoBack patterns) stand after all h =
    untested (NoBack patterns) (list_any (is_agreeing (tests_under values patterns)) stand.at.list) stand after refl all h

pub record Ran (es : List Element) (stand after : Stand) : Type 0 where
  pub on : stand.at.place ≤ after.at.place
  pub token : list_any is_phrase es ≡ true → stand.at.place + 1 ≤ after.at.place

pub run_moves : (s : Setting) (values : List (ℕ × Value)) (es : List Element) (stand after : Stand) → Each Consumes stand.children
    → run s values es stand ≡ Some after → Ran es stand after
run_moves s values [] stand after all h = subst (Ran [] stand) (same_Some stand after h) (record { on = omega arith; token = λ w. true_is_false (sym w) })
run_moves s values (e ∷ es) stand after all h = by (λ mid rest k. run_moves s values es mid after rest k) (pass s values e stand) refl h
  where
    by : ((mid : Stand) → Each Consumes mid.children → run s values es mid ≡ Some after → Ran es mid after) → (o : Option Stand) → pass s values e stand ≡ o
        → option_and_then (run s values es) o ≡ Some after → Ran (e ∷ es) stand after
    by later None w k = cc
    by later (Some mid) w k =
        let one : Moves e stand mid = pass_moves s values e stand mid all w in
        let two : Ran es mid after = later mid one.rest k in
        record {
          on = omega (arith, one.on, two.on);
          token = λ v. elim (or_cases (is_phrase e) (list_any is_phrase es) v) [
            | inl x ↦ omega (arith, one.token x, two.on)
            | inr y ↦
                omega (arith, one.on, two.token y)
          ];
        }

got_contained : (rules : List Rule) (k : ℕ) (r : Rule) → slice_get rules k ≡ Some r → Contains rules r
got_contained [] k r h = cc
got_contained (x ∷ xs) zero r h = (0, omega arith, same_Some x r h)
got_contained (x ∷ xs) (suc k) r h = (suc (got_contained xs k r h).0, omega (arith, (got_contained xs k r h).1), (got_contained xs k r h).2)

-- the rule with a number is one of the grammar's
pub rule_contained : (g : GrammarParts) (number : ℕ) (rule : Rule) → rule_with g number ≡ Some rule → Contains g.rules rule
rule_contained g number rule h = by (number == 0) h
  where
    by : (b : Bool) → (if b then None else slice_get g.rules (number - 1)) ≡ Some rule → Contains g.rules rule
    by true k = cc
    by false k = got_contained g.rules (number - 1) rule k

mutual
  pub node_consumes : (s : Setting) → Ordered s.grammar → (n : Node) → Consumes (phrase_of s n)
  node_consumes s ordered (node number values found children) asked at after h = by (nodes_consume s ordered children) (rule_with s.grammar number) refl h
    where
      by : Each Consumes (phrases_of s children) → (o : Option Rule) → rule_with s.grammar number ≡ o
          → option_and_then (λ r. phrase s r values found (phrases_of s children) asked at) o ≡ Some after → at.place + 1 ≤ after.place
      by all None w k = cc
      by all (Some rule) w k =
          let parts : Parts s rule values found (phrases_of s children) asked at after =
          phrase_parts s rule values found (phrases_of s children) asked at after k in
          let ran : Ran rule.body (record { at = at; found = found; own = own_values rule values; children = phrases_of s children }) parts.stand =
          run_moves s values rule.body (record { at = at; found = found; own = own_values rule values; children = phrases_of s children }) parts.stand all
          parts.ran in
          subst (λ a. at.place + 1 ≤ a.place) (sym parts.ends) (ran.token (ordered.full rule (rule_contained s.grammar number rule w)))

  pub nodes_consume : (s : Setting) → Ordered s.grammar → (ns : Nodes) → Each Consumes (phrases_of s ns)
  nodes_consume s ordered none = tt
  nodes_consume s ordered (more n ns) = (node_consumes s ordered n, nodes_consume s ordered ns)

-- weights

pub weight : ℕ → ℕ → ℕ
weight left k = left * k

pub weight_more : (a b k : ℕ) → b + 1 ≤ a → weight b k + k ≤ weight a k
unfolding weight
weight_more a b k h =
    let more : (b + 1) * k ≤ a * k = mul-le-mul_right k h in
    let same : (b + 1) * k ≡ b * k + k = ap (λ x. x * k) (add-one b) ∙ suc-mul b k in
    subst (λ x. x ≤ a * k) same more

-- categories that are still free at a place

abbrev pub without : ℕ → List ℕ → List ℕ
without x [] = []
without x (y ∷ ys) = if x == y then without x ys else y ∷ without x ys

shorter : (x : ℕ) (ys : List ℕ) → length (without x ys) ≤ length ys
shorter x [] = omega arith
shorter x (y ∷ ys) = by (shorter x ys) (x == y)
  where
    by : length (without x ys) ≤ length ys → (b : Bool) → length (if b then without x ys else y ∷ without x ys) ≤ length (y ∷ ys)
    by later true = omega (arith, later)
    by later false = omega (arith, later)

pub shorter_with : (x : ℕ) (ys : List ℕ) → Among ys x → length (without x ys) + 1 ≤ length ys
shorter_with x [] h = absurd h
shorter_with x (y ∷ ys) h = by (shorter_with x ys) (x == y) refl h
  where
    by : (Among ys x → length (without x ys) + 1 ≤ length ys) → (b : Bool) → (x == y) ≡ b → Among (y ∷ ys) x
        → length (if b then without x ys else y ∷ without x ys) + 1 ≤ length (y ∷ ys)
    by later true e k = omega (arith, shorter x ys)
    by later false e (inl same) = true_is_false (sym (eq-eqb x y same) ∙ e)
    by later false e (inr k) = omega (arith, later k)

kept : (x h : ℕ) (ys : List ℕ) → (x == h) ≡ false → Among ys h → Among (without x ys) h
kept x h [] e k = absurd k
kept x h (y ∷ ys) e k = by (kept x h ys e) (x == y) refl k
  where
    by : (Among ys h → Among (without x ys) h) → (b : Bool) → (x == y) ≡ b → Among (y ∷ ys) h → Among (if b then without x ys else y ∷ without x ys) h
    by later true w (inl same) = true_is_false (sym (ap (λ z. x == z) same ∙ w) ∙ e)
    by later true w (inr m) = later m
    by later false w (inl same) = inl same
    by later false w (inr m) = inr (later m)

-- the name is that of a rule's head
abbrev pub IsHead : GrammarParts → ℕ → Type 0
IsHead g name = (r : Rule) × Contains g.rules r × (r.head.name ≡ name)

abbrev pub Reaches : GrammarParts → ℕ → ℕ → Type 0
Reaches g from to = (between : List ℕ) × Leads g from between to

-- each category is still free, or leads to the one that is asked for
abbrev pub Free : GrammarParts → List ℕ → ℕ → Type 0
Free g names asked = (name : ℕ) → IsHead g name → Among names name ⊎ Reaches g name asked

leads_on : (g : GrammarParts) (from : ℕ) (between : List ℕ) (to next : ℕ) → Leads g from between to → StepsTo g to next → Leads g from (between ++ to ∷ []) next
leads_on g from [] to next h step = (h, step)
leads_on g from (c ∷ cs) to next h step = (h.0, leads_on g c cs to next h.1 step)

-- a circle begins at the head of a rule
circle : (g : GrammarParts) → Ordered g → (name : ℕ) → IsHead g name → Reaches g name name → ⊥
circle g ordered name head h = ordered.no_circle head.0 head.1 (subst (IsRecursive g) (sym head.2) h)

pub asked_free : (g : GrammarParts) → Ordered g → (names : List ℕ) (asked : ℕ) → Free g names asked → IsHead g asked → Among names asked
asked_free g ordered names asked free head = elim (free asked head) [ inl k ↦ k | inr r ↦ absurd (circle g ordered asked head r) ]

pub free_on : (g : GrammarParts) (names : List ℕ) (asked next : ℕ) → Free g names asked → StepsTo g asked next → Free g (without asked names) next
free_on g names asked next free step name head = by (asked == name) refl (free name head)
  where
    by : (b : Bool) → (asked == name) ≡ b → Among names name ⊎ Reaches g name asked → Among (without asked names) name ⊎ Reaches g name next
    by true e k = inr ([], subst (λ n. StepsTo g n next) (eqb-true asked name e) step)
    by false e (inl k) = inl (kept asked name names e k)
    by false e (inr r) = inr (r.0 ++ asked ∷ [], leads_on g name r.0 asked next r.1 step)

-- how deep

abbrev pub heads : GrammarParts → List ℕ
heads g = map (λ r. r.head.name) g.rules

contains_among : (rules : List Rule) (r : Rule) → Contains rules r → Among (map (λ x. x.head.name) rules) r.head.name
contains_among rules r h = at rules h.0 h.1 h.2
  where
    at : (rs : List Rule) (k : ℕ) → k < length rs → slice_index_or rs k r ≡ r → Among (map (λ x. x.head.name) rs) r.head.name
    at [] k lt e = absurd (omega (arith, lt))
    at (x ∷ xs) zero lt e = inl (ap (λ y. y.head.name) (sym e))
    at (x ∷ xs) (suc k) lt e = inr (at xs k (omega (arith, lt)) e)

pub all_free : (g : GrammarParts) (asked : ℕ) → Free g (heads g) asked
all_free g asked name head = inl (subst (Among (heads g)) head.2 (contains_among g.rules head.0 head.1))

-- the children of a node, on the way over its elements
pub walk : (s : Setting) → Ordered s.grammar → (values : List (ℕ × Value)) (depth last begun : ℕ) (step : ℕ → Type 0)
    → ((n : Node) (c : Category) (at after : At) → phrase_of s n (under values c) at ≡ Some after → after.place ≤ last
    → ((at.place ≡ begun) × step c.name) ⊎ (begun + 1 ≤ at.place) → Within depth n) → (es : List Element) (nodes : List Node) (stand after : Stand)
    → stand.children ≡ map (phrase_of s) nodes → Each Consumes stand.children → run s values es stand ≡ Some after → is_none_left after.children ≡ true
    → after.at.place ≤ last → ((stand.at.place ≡ begun) × ((c : ℕ) → first_category es ≡ Some c → step c)) ⊎ (begun + 1 ≤ stand.at.place)
    → Each (Within depth) nodes
walk s ordered values depth last begun step deep [] [] stand after children all h empty le mode = tt
walk s ordered values depth last begun step deep [] (n ∷ ns) stand after children all h empty le mode =
    true_is_false (sym empty ∙ ap (λ x. is_none_left x.children) (sym (same_Some stand after h)) ∙ ap is_none_left children)
walk s ordered values depth last begun step deep (Sub c ∷ es) [] stand after children all h empty le mode = tt
walk s ordered values depth last begun step deep (Sub c ∷ es) (n ∷ ns) stand after children all h empty le mode =
    by (λ at rest k mode'. walk s ordered values depth last begun step deep es ns
    (record { at = at; found = stand.found; own = stand.own; children = map (phrase_of s) ns }) after refl rest k empty le mode')
    (subst (Each Consumes) children all) (phrase_of s n (under values c) stand.at) refl
    (sym (ap (λ ps. option_and_then (run s values es) (pass_child (under values c) ps stand)) children) ∙ h)
  where
    by : ((at : At) → Each Consumes (map (phrase_of s) ns)
        → run s values es (record { at = at; found = stand.found; own = stand.own; children = map (phrase_of s) ns }) ≡ Some after
        → ((at.place ≡ begun) × ((d : ℕ) → first_category es ≡ Some d → step d)) ⊎ (begun + 1 ≤ at.place) → Each (Within depth) ns)
        → Each Consumes (map (phrase_of s) (n ∷ ns)) → (o : Option At) → phrase_of s n (under values c) stand.at ≡ o
        → option_and_then (run s values es)
        (option_and_then (λ at. Some (record { at = at; found = stand.found; own = stand.own; children = map (phrase_of s) ns })) o) ≡ Some after
        → Each (Within depth) (n ∷ ns)
    by later consume None w k = cc
    by later consume (Some at) w k =
        let on : stand.at.place + 1 ≤ at.place = consume.0 (under values c) stand.at at w in
        let ran : Ran es (record { at = at; found = stand.found; own = stand.own; children = map (phrase_of s) ns }) after =
        run_moves s values es (record { at = at; found = stand.found; own = stand.own; children = map (phrase_of s) ns }) after consume.1 k in
        let here : ((stand.at.place ≡ begun) × step c.name) ⊎ (begun + 1 ≤ stand.at.place) = elim mode [ inl m ↦ inl (m.0, m.1 c.name refl) | inr m ↦ inr m ] in
        let beyond : begun + 1 ≤ at.place = elim mode [ inl m ↦ omega (arith, on, m.0) | inr m ↦ omega (arith, on, m) ] in
        (deep n c stand.at at w (omega (arith, ran.on, le)) here, later at consume.1 k (inr beyond))
walk s ordered values depth last begun step deep (e ∷ es) nodes stand after children all h empty le mode =
    by (λ mid same rest k mode'. walk s ordered values depth last begun step deep es nodes mid after same rest k empty le mode') (pass s values e stand) refl h
  where
    special : is_phrase e ≡ false → first_category (e ∷ es) ≡ first_category es
    special p = ap (λ b. if b then sub_name e else first_category es) p

    next : (mid : Stand) → Moves e stand mid → (b : Bool) → is_phrase e ≡ b
        → ((mid.at.place ≡ begun) × ((c : ℕ) → first_category es ≡ Some c → step c)) ⊎ (begun + 1 ≤ mid.at.place)
    next mid one true p = inr (elim mode [ inl m ↦ omega (arith, m.0, one.token p) | inr m ↦ omega (arith, m, one.on) ])
    next mid one false p = elim mode [ inl m ↦ inl (one.same p ∙ m.0, λ c v. m.1 c (special p ∙ v)) | inr m ↦ inr (omega (arith, m, one.on)) ]

    by : ((mid : Stand) → mid.children ≡ map (phrase_of s) nodes → Each Consumes mid.children → run s values es mid ≡ Some after
        → ((mid.at.place ≡ begun) × ((c : ℕ) → first_category es ≡ Some c → step c)) ⊎ (begun + 1 ≤ mid.at.place) → Each (Within depth) nodes)
        → (o : Option Stand) → pass s values e stand ≡ o → option_and_then (run s values es) o ≡ Some after → Each (Within depth) nodes
    by later None w k = cc
    by later (Some mid) w k =
        let one : Moves e stand mid = pass_moves s values e stand mid all w in
        later mid (one.children refl ∙ children) one.rest k (next mid one (is_phrase e) refl)

pub each_within : (depth : ℕ) (ns : Nodes) → Each (Within depth) (node_list ns) → AllWithin depth ns
each_within depth none h = tt
each_within depth (more n ns) h = (h.0, each_within depth ns h.1)

-- a phrase is no deeper than the tokens and the categories that are left allow
pub deep : (s : Setting) → Ordered s.grammar → (last depth : ℕ) (n : Node) (asked : Test) (at after : At) (names : List ℕ) → phrase_of s n asked at ≡ Some after
    → after.place ≤ last → Free s.grammar names asked.name → weight (last - at.place) (length (heads s.grammar) + 1) + length names + 1 ≤ depth → Within depth n
deep s ordered last zero (node number values found children) asked at after names h le free low = absurd (omega (arith, low))
deep s ordered last (suc depth) (node number values found children) asked at after names h le free low =
    by (λ short m c start end w under_last mode. child m
    (λ c' start' end' names' w' l' free' low'. deep s ordered last depth m (under values c') start' end' names' w' l' free' low') short c start end w
    under_last mode) (rule_with s.grammar number) refl h
  where
    child : (n : Node) → ((c : Category) (start end : At) (names' : List ℕ) → phrase_of s n (under values c) start ≡ Some end → end.place ≤ last
        → Free s.grammar names' c.name → weight (last - start.place) (length (heads s.grammar) + 1) + length names' + 1 ≤ depth → Within depth n)
        → length (without asked.name names) + 1 ≤ length names → (c : Category) (start end : At) → phrase_of s n (under values c) start ≡ Some end
        → end.place ≤ last → ((start.place ≡ at.place) × StepsTo s.grammar asked.name c.name) ⊎ (at.place + 1 ≤ start.place) → Within depth n
    child n again short c start end w under_last (inl e) =
        let same : weight (last - start.place) (length (heads s.grammar) + 1) ≡ weight (last - at.place) (length (heads s.grammar) + 1) =
        ap (λ p. weight (last - p) (length (heads s.grammar) + 1)) e.0 in
        again c start end (without asked.name names) w under_last (free_on s.grammar names asked.name c.name free e.1) (omega (arith, same, short, low))
    child n again short c start end w under_last (inr e) =
        let consumed : start.place + 1 ≤ end.place = node_consumes s ordered n (under values c) start end w in
        let left : (last - start.place) + 1 ≤ last - at.place = omega (arith, e, consumed, under_last) in
        let lighter : weight (last - start.place) (length (heads s.grammar) + 1) + (length (heads s.grammar) + 1)
        ≤ weight (last - at.place) (length (heads s.grammar) + 1) =
        weight_more (last - at.place) (last - start.place) (length (heads s.grammar) + 1) left in
        again c start end (heads s.grammar) w under_last (all_free s.grammar c.name) (omega (arith, lighter, low))

    by : (length (without asked.name names) + 1 ≤ length names → (n : Node) (c : Category) (start end : At) → phrase_of s n (under values c) start ≡ Some end
        → end.place ≤ last → ((start.place ≡ at.place) × StepsTo s.grammar asked.name c.name) ⊎ (at.place + 1 ≤ start.place) → Within depth n)
        → (o : Option Rule) → rule_with s.grammar number ≡ o → option_and_then (λ r. phrase s r values found (phrases_of s children) asked at) o ≡ Some after
        → AllWithin depth children
    by each None w k = cc
    by each (Some rule) w k =
        let parts : Parts s rule values found (phrases_of s children) asked at after =
        phrase_parts s rule values found (phrases_of s children) asked at after k in
        let contained : Contains s.grammar.rules rule = rule_contained s.grammar number rule w in
        let name : rule.head.name ≡ asked.name = eqb-true rule.head.name asked.name (and_first (rule.head.name == asked.name) _ parts.fit) in
        let head : IsHead s.grammar asked.name = (rule, contained, name) in
        let short : length (without asked.name names) + 1 ≤ length names =
        shorter_with asked.name names (asked_free s.grammar ordered names asked.name free head) in
        each_within depth children (walk s ordered values depth last at.place (StepsTo s.grammar asked.name) (each short) rule.body (node_list children)
        (record { at = at; found = found; own = own_values rule values; children = phrases_of s children }) parts.stand (phrases_of-list s children)
        (nodes_consume s ordered children) parts.ran parts.no_children (subst (λ a. a.place ≤ last) parts.ends le)
        (inl (refl, λ c v. (rule, contained, name, v))))

pub weight_is : (left k : ℕ) → weight left k ≡ left * k
unfolding weight
weight_is left k = refl

-- a derivation is no deeper than this
pub derivation_within : (s : Setting) → Ordered s.grammar → (n : Node) (asked : Test) (after : At)
    → phrase_of s n asked (record { place = 0; list = [] }) ≡ Some after → after.place ≡ length s.tokens
    → Within ((length s.tokens + 1) * (length (heads s.grammar) + 1)) n
derivation_within s ordered n asked after h end =
    let k : ℕ = length (heads s.grammar) + 1 in
    let none : length s.tokens - 0 ≡ length s.tokens = omega arith in
    let low : weight (length s.tokens - 0) (length (heads s.grammar) + 1) + (length (heads s.grammar) + 1)
    ≤ weight (length s.tokens + 1) (length (heads s.grammar) + 1) =
    weight_more (length s.tokens + 1) (length s.tokens - 0) (length (heads s.grammar) + 1) (omega arith) in
    subst (λ d. Within d n) (weight_is (length s.tokens + 1) (length (heads s.grammar) + 1))
    (deep s ordered (length s.tokens) (weight (length s.tokens + 1) (length (heads s.grammar) + 1)) n asked (record { place = 0; list = [] }) after
    (heads s.grammar) h (omega (arith, end)) (all_free s.grammar asked.name) (omega (arith, low)))

-- the rules of a sound grammar

rule_at : (rules : List Rule) (r : Rule) → Contains rules r → (n : ℕ) × (0 < n) × (slice_get rules (n - 1) ≡ Some r)
rule_at rules r h = (h.0 + 1, omega arith, ap (slice_get rules) (one_less h.0) ∙ at rules h.0 h.1 h.2)
  where
    one_less : (k : ℕ) → (k + 1) - 1 ≡ k
    one_less k = omega arith

    at : (rs : List Rule) (k : ℕ) → k < length rs → slice_index_or rs k r ≡ r → slice_get rs k ≡ Some r
    at [] k lt e = absurd (omega (arith, lt))
    at (x ∷ xs) zero lt e = ap (λ y. Some y) e
    at (x ∷ xs) (suc k) lt e = at xs k (omega (arith, lt)) e

positive : (n : ℕ) → 0 < n → nat_lt 0 n ≡ true
positive n h = grind (arith, nat_tests)

pub ordered_from_sound : (g : GrammarParts) → IsSound g → Ordered g
ordered_from_sound g sound = record { full = full; no_circle = no_circle }
  where
    full : (r : Rule) → Contains g.rules r → list_any is_phrase r.body ≡ true
    full r h = by (list_any is_phrase r.body) refl
      where
        by : (b : Bool) → list_any is_phrase r.body ≡ b → list_any is_phrase r.body ≡ true
        by true e = e
        by false e =
            let at : (n : ℕ) × (0 < n) × (slice_get g.rules (n - 1) ≡ Some r) = rule_at g.rules r h in
            let empty : at_rule is_empty_rule g.rules at.0 ≡ true =
            ap (λ b. b && option_map_or is_empty_rule (slice_get g.rules (at.0 - 1)) false) (positive at.0 at.1)
            ∙ ap (λ o. option_map_or is_empty_rule o false) at.2 ∙ ap not e in
            absurd (sound.faultless (EmptyRule at.0) (subst IsTrue (sym empty) refl))

    no_circle : (r : Rule) → Contains g.rules r → IsRecursive g r.head.name → ⊥
    no_circle r h round =
        let at : (n : ℕ) × (0 < n) × (slice_get g.rules (n - 1) ≡ Some r) = rule_at g.rules r h in
        sound.faultless (LeftRecursion at.0) (r, at.1, at.2, round)
