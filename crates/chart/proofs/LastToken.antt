-- The last token: cut-off nodes that take it are those that ask for it, with it taken.
use Rattle.std.proofs.Common.{◌≡◌, ℕ, suc, zero, ◌+◌, ◌<◌, ◌≤◌, List, [], ◌∷◌, Bool, true, false, ◌&&◌, ◌||◌, length, take, Option, Some, None, refl, sym, ap, ◌∙◌, subst, arith, ◌⊎◌, inl, inr, take-take}
use Rattle.std.specs.Prelude.{option_and_then, slice_get}
use Rattle.std.specs.Option.{option_map_or}
use Rattle.std.specs.List.{list_any}
use Rattle.std.proofs.lemmas.Bool.{cases_lt}
use Rattle.std.proofs.lemmas.Bool.Decides.{nat_tests}
use Rattle.std.proofs.lemmas.Option.{option_and_then_some, same_Some}
use Rattle.wiki_base.proofs.ListLaws.{slice_get-take}
use Rattle.wiki_base.proofs.NumberLaws.{eqb_refl}
use Rattle.codeco_terms.specs.declared.values.Value.{Value}
use Rattle.codeco_terms.specs.declared.values.Value.TheVariants.{Pos}
use Rattle.codeco_terms.specs.declared.categories.Category.{Category}
use Rattle.codeco_terms.specs.declared.categories.Pattern.{Pattern}
use Rattle.codeco_terms.specs.declared.categories.Ground.{Ground}
use Rattle.codeco_terms.specs.declared.elements.Element.{Element}
use Rattle.codeco_terms.specs.declared.elements.Element.TheVariants.{Terminal, Preterminal, Sub, Position, Opener, Forward, Strong, Back, NoBack}
use Rattle.codeco_terms.specs.declared.rules.Rule.{Rule}
use Rattle.codeco_terms.specs.Values.{same_value}
use Rattle.scopes.specs.declared.agreement.Test.{Test}
use Rattle.scopes.specs.Resolution.{Finding, agrees, is_agreeing, closest_finding}
use Rattle.derivation_trees.specs.Trees.{Node, Nodes, node, none, more}
use Rattle.derivation_trees.specs.Settings.{Setting, matches_terminal, matches_preterminal}
use Rattle.derivation_trees.specs.Instances.{value_under, under, tests_under, own_values, is_instance}
use Rattle.derivation_trees.specs.Derives.{At, Phrase, Stand, pass, run, pass_child, pass_finding, is_found, reference_tests, is_none_left, ended, fits, begun, phrase, rule_with, phrase_of, phrases_of}
use Rattle.derivation_trees.specs.Partial.{CutNode, stopped, entered, used_up, front, next_category, sub_of, front_of, cut_end}
use Rattle.chart_table.specs.declared.asks.Ask.{Ask}
use Rattle.chart_table.specs.declared.asks.Ask.TheVariants as ask
use Rattle.chart_table.specs.Leading.{ElementLeads, Path, own_past, moved_on}
use Rattle.chart_table.specs.Branches.{OneOf}
use Rattle.chart_table.specs.Asks.{takes_terminal, takes_reading, meets, CutMeets, AskLeads}
use Rattle.chart.proofs.Following.{TokenMeets, Follows}
use Rattle.chart_table.proofs.PassLemmas.{if_some, unless_some, both_true, passed, stand_at}
use Rattle.chart_table.proofs.AskLemmas.{place_some, all_used, front_is, met_in, ask_of_rule, leads_any}

-- a property of all phrases

abbrev AllOf : (Phrase → Type 0) → List Phrase → Type 0
AllOf P [] = Unit {0}
AllOf P (p ∷ ps) = P p × AllOf P ps

child_keeps : (P : Phrase → Type 0) (asked : Test) (stand after : Stand) (ps : List Phrase) → AllOf P ps → pass_child asked ps stand ≡ Some after
    → AllOf P after.children
child_keeps P asked stand after [] par h = absurd (cc)
child_keeps P asked stand after (p ∷ ps) par h =
    option_and_then_some _ (p asked stand.at) after h (λ a led is. subst (λ (st : Stand). AllOf P st.children) (same_Some _ _ is) par.1)

finding_keeps : (P : Phrase → Type 0) (values : List (ℕ × Value)) (positive : List Pattern) (o : Option Finding) (found : List ℕ) (stand after : Stand)
    → AllOf P stand.children → pass_finding values positive o found stand ≡ Some after → AllOf P after.children × (stand.at ≡ after.at)
finding_keeps P values positive o [] stand after par h = absurd (cc)
finding_keeps P values positive o (pos ∷ rest) stand after par h =
    if_some (is_found values positive pos o) _ after h (λ b is. (subst (λ (st : Stand). AllOf P st.children) is par, ap (λ (st : Stand). st.at) is))

pass_keeps : (s : Setting) (values : List (ℕ × Value)) (e : Element) (stand after : Stand) (P : Phrase → Type 0) → AllOf P stand.children
    → pass s values e stand ≡ Some after → AllOf P after.children
pass_keeps s values (Terminal t) stand after P par h =
    if_some (matches_terminal s t stand.at.place) _ after h (λ b is. subst (λ (st : Stand). AllOf P st.children) is par)
pass_keeps s values (Preterminal c) stand after P par h =
    if_some (matches_preterminal s (under values c) stand.at.place) _ after h (λ b is. subst (λ (st : Stand). AllOf P st.children) is par)
pass_keeps s values (Sub c) stand after P par h = child_keeps P (under values c) stand after stand.children par h
pass_keeps s values (Position x) stand after P par h =
    if_some (same_value (value_under values x) (Pos stand.at.place)) _ after h (λ b is. subst (λ (st : Stand). AllOf P st.children) is par)
pass_keeps s values Opener stand after P par h = subst (λ (st : Stand). AllOf P st.children) (same_Some _ _ h) par
pass_keeps s values (Forward c) stand after P par h = subst (λ (st : Stand). AllOf P st.children) (same_Some _ _ h) par
pass_keeps s values (Strong c) stand after P par h = subst (λ (st : Stand). AllOf P st.children) (same_Some _ _ h) par
pass_keeps s values (Back positive negative) stand after P par h =
    (finding_keeps P values positive (closest_finding (reference_tests values positive negative) stand.at.list) stand.found stand after par h).0
pass_keeps s values (NoBack patterns) stand after P par h =
    unless_some (list_any (is_agreeing (tests_under values patterns)) stand.at.list) _ after h (λ b is. subst (λ (st : Stand). AllOf P st.children) is par)

-- which reading agrees

any_one : {X : Type 0} (p : X → Bool) (xs : List X) → list_any p xs ≡ true → (x : X) × OneOf xs x × (p x ≡ true)
any_one p [] h = absurd (cc)
any_one {X = X} p (x ∷ xs) h = at (p x) refl (any_one p xs) h
  where
    at : (b : Bool) → p x ≡ b → (list_any p xs ≡ true → (y : X) × OneOf xs y × (p y ≡ true)) → (b || list_any p xs) ≡ true
        → (y : X) × OneOf (x ∷ xs) y × (p y ≡ true)
    at true e later k = (x, inl refl, e)
    at false e later k = let r = later k in (r.0, inr r.1, r.2)

one_any : {X : Type 0} (p : X → Bool) (xs : List X) (x : X) → OneOf xs x → p x ≡ true → list_any p xs ≡ true
one_any p [] x o h = absurd o
one_any p (y ∷ ys) x (inl e) h = ap (λ b. b || list_any p ys) (ap p e ∙ h)
one_any p (y ∷ ys) x (inr o) h = at (p y) (one_any p ys x o h)
  where
    at : (b : Bool) → list_any p ys ≡ true → (b || list_any p ys) ≡ true
    at true k = refl
    at false k = k

agreeing_reading : (s : Setting) (asked : Test) (place : ℕ) → matches_preterminal s asked place ≡ true
    → (readings : List Ground) × (slice_get s.readings place ≡ Some readings) × ((r : Ground) × OneOf readings r × (agrees r asked ≡ true))
agreeing_reading s asked place h = at (slice_get s.readings place) refl h
  where
    at : (o : Option (List Ground)) → slice_get s.readings place ≡ o → option_map_or (λ readings. list_any (λ r. agrees r asked) readings) o false ≡ true
        → (readings : List Ground) × (slice_get s.readings place ≡ Some readings) × ((r : Ground) × OneOf readings r × (agrees r asked ≡ true))
    at None e k = absurd (cc)
    at (Some readings) e k = (readings, e, any_one (λ r. agrees r asked) readings k)

-- Towards the right: a phrase that begins at the place or before it and ends behind it takes the token that stands there.

abbrev Crossing : Setting → ℕ → Phrase → Type 0
Crossing s n p = (asked : Test) (at after : At) → p asked at ≡ Some after → at.place ≤ n → n < after.place → Follows s n asked at

-- so many elements lead to the place or before it, and the next one takes the token at the place
record Crosses (s : Setting) (n : ℕ) (values own : List (ℕ × Value)) (es : List Element) (at : At) : Type 0 where
  count : ℕ
  within : count < length es
  last : At
  path : Path s values own (take count es) at last
  asks : Ask
  token : TokenMeets s n asks
  stop : ((last.place ≡ n) × (meets values (slice_get es count) asks ≡ true))
      ⊎ ((c : Category) × (option_and_then sub_of (slice_get es count) ≡ Some c) × AskLeads s n asks (under values c) last)

-- no element but a token or a category leads to another place
no_crossing : (n : ℕ) (at : At) (after : Stand) {X : Type 0} → at ≡ after.at → at.place ≤ n → n < after.at.place → X
no_crossing n at after same le lt =
    let place : at.place ≡ after.at.place = ap (λ (x : At). x.place) same in absurd (omega arith)

child_crosses : (s : Setting) (n : ℕ) (values own : List (ℕ × Value)) (c : Category) (es : List Element) (at : At) (found : List ℕ) (ns : Nodes) (after : Stand)
    → AllOf (Crossing s n) (phrases_of s ns) → pass_child (under values c) (phrases_of s ns) (stand_at s at found own ns) ≡ Some after → at.place ≤ n
    → n < after.at.place → Crosses s n values own (Sub c ∷ es) at
child_crosses s n values own c es at found none after par h le lt = absurd (cc)
child_crosses s n values own c es at found (more tree rest) after par h le lt =
    option_and_then_some _ (phrase_of s tree (under values c) at) after h (λ a led is.
    let place : a.place ≡ after.at.place = ap (λ (st : Stand). st.at.place) (same_Some _ _ is) in
    let f = par.0 (under values c) at a led le (subst (λ m. n < m) (sym place) lt) in
    record { count = 0; within = omega arith; last = at; path = refl; asks = f.0; token = f.1; stop = inr (c, refl, f.2) })

one_crosses : (s : Setting) (n : ℕ) (values own : List (ℕ × Value)) (e : Element) (es : List Element) (at : At) (found : List ℕ) (ns : Nodes) (after : Stand)
    → AllOf (Crossing s n) (phrases_of s ns) → pass s values e (stand_at s at found own ns) ≡ Some after → at.place ≤ n → n < after.at.place
    → Crosses s n values own (e ∷ es) at
one_crosses s n values own (Terminal t) es at found ns after par h le lt =
    if_some (matches_terminal s t at.place) _ after h (λ b is.
    let next : at.place + 1 ≡ after.at.place = ap (λ (st : Stand). st.at.place) is in
    let here : at.place ≡ n = omega arith in
    record {
      count = 0;
      within = omega arith;
      last = at;
      path = refl;
      asks = ask.Terminal t;
      token = subst (λ m. matches_terminal s t m ≡ true) here b;
      stop = inl (here, eqb_refl t);
    })
one_crosses s n values own (Preterminal c) es at found ns after par h le lt =
    if_some (matches_preterminal s (under values c) at.place) _ after h (λ b is.
    let next : at.place + 1 ≡ after.at.place = ap (λ (st : Stand). st.at.place) is in
    let here : at.place ≡ n = omega arith in
    let r = agreeing_reading s (under values c) n (subst (λ m. matches_preterminal s (under values c) m ≡ true) here b) in
    record { count = 0; within = omega arith; last = at; path = refl; asks = ask.Reading r.2.0; token = (r.0, r.1, r.2.1); stop = inl (here, r.2.2) })
one_crosses s n values own (Sub c) es at found ns after par h le lt = child_crosses s n values own c es at found ns after par h le lt
one_crosses s n values own (Position x) es at found ns after par h le lt =
    if_some (same_value (value_under values x) (Pos at.place)) _ after h (λ b is. no_crossing n at after (ap (λ (st : Stand). st.at) is) le lt)
one_crosses s n values own Opener es at found ns after par h le lt =
    let place : at.place ≡ after.at.place = ap (λ (st : Stand). st.at.place) (same_Some _ _ h) in absurd (omega arith)
one_crosses s n values own (Forward c) es at found ns after par h le lt =
    let place : at.place ≡ after.at.place = ap (λ (st : Stand). st.at.place) (same_Some _ _ h) in absurd (omega arith)
one_crosses s n values own (Strong c) es at found ns after par h le lt =
    let place : at.place ≡ after.at.place = ap (λ (st : Stand). st.at.place) (same_Some _ _ h) in absurd (omega arith)
one_crosses s n values own (Back positive negative) es at found ns after par h le lt =
    no_crossing n at after (finding_keeps (Crossing s n) values positive (closest_finding (reference_tests values positive negative) at.list) found
    (stand_at s at found own ns) after par h).1 le lt
one_crosses s n values own (NoBack patterns) es at found ns after par h le lt =
    unless_some (list_any (is_agreeing (tests_under values patterns)) at.list) _ after h (λ b is. no_crossing n at after (ap (λ (st : Stand). st.at) is) le lt)

-- elements that lead from the place or before it to a place behind it
abbrev ElementsCross : Setting → ℕ → List (ℕ × Value) → List Element → Type 0
ElementsCross s n values es =
    (at : At) (found : List ℕ) (own : List (ℕ × Value)) (ns : Nodes) (after : Stand) → AllOf (Crossing s n) (phrases_of s ns)
    → run s values es (stand_at s at found own ns) ≡ Some after → at.place ≤ n → n < after.at.place → Crosses s n values own es at

run_crosses : (s : Setting) (n : ℕ) (values : List (ℕ × Value)) (es : List Element) (at : At) (found : List ℕ) (own : List (ℕ × Value)) (ns : Nodes)
    (after : Stand) → AllOf (Crossing s n) (phrases_of s ns) → run s values es (stand_at s at found own ns) ≡ Some after → at.place ≤ n → n < after.at.place
    → Crosses s n values own es at
run_crosses s n values [] at found own ns after par h le lt = no_crossing n at after (ap (λ (st : Stand). st.at) (same_Some _ _ h)) le lt
run_crosses s n values (e ∷ es) at found own ns after par h le lt =
    option_and_then_some (run s values es) (pass s values e (stand_at s at found own ns)) after h (λ mid first rest.
    by (run_crosses s n values es) mid first rest (cases_lt n mid.at.place))
  where
    by : ElementsCross s n values es → (mid : Stand) → pass s values e (stand_at s at found own ns) ≡ Some mid → run s values es mid ≡ Some after
        → (n < mid.at.place) ⊎ (mid.at.place ≤ n) → Crosses s n values own (e ∷ es) at
    by later mid first rest (inl over) = one_crosses s n values own e es at found ns mid par first le over
    by later mid first rest (inr before) =
        let p = passed s values e at found own ns mid first in
        let kids : AllOf (Crossing s n) (phrases_of s p.left) =
        subst (AllOf (Crossing s n)) p.children (pass_keeps s values e (stand_at s at found own ns) mid (Crossing s n) par first) in
        let c = later mid.at mid.found (own_past s e own) p.left after kids
        (ap (λ o. run s values es (record { at = mid.at; found = mid.found; own = o; children = phrases_of s p.left })) (sym p.own_is)
        ∙ ap (λ k. run s values es (record { at = mid.at; found = mid.found; own = mid.own; children = k })) (sym p.children) ∙ rest) before lt in
        let within_rest : c.count < length es = c.within in
        record { count = suc c.count; within = omega arith; last = c.last; path = (mid.at, p.leads, c.path); asks = c.asks; token = c.token; stop = c.stop }

phrase_crosses : (s : Setting) (n number : ℕ) (rule : Rule) (values : List (ℕ × Value)) (found : List ℕ) (ns : Nodes) → rule_with s.grammar number ≡ Some rule
    → AllOf (Crossing s n) (phrases_of s ns) → Crossing s n (phrase s rule values found (phrases_of s ns))
phrase_crosses s n number rule values found ns has par asked at after h le lt =
    option_and_then_some _ (begun s rule values found (phrases_of s ns) asked at) after h (λ start starts runs.
    if_some (fits (under values rule.head) asked && is_instance s rule values) _ start starts (λ b is_start.
    both_true (fits (under values rule.head) asked) (is_instance s rule values) b (λ head instance.
    option_and_then_some (ended rule at.list) (run s values rule.body start) after runs (λ last ran ends.
    if_some (is_none_left last.found && is_none_left last.children) _ after ends (λ none_left is_after.
    let place : last.at.place ≡ after.place = ap (λ (x : At). x.place) is_after in
    let c = run_crosses s n values rule.body at found (own_values rule values) ns last par (ap (run s values rule.body) is_start ∙ ran) le
    (subst (λ m. n < m) (sym place) lt) in (
      c.asks,
      c.token,
      ask_of_rule s n c.asks asked at number rule values has
          (record { instance = instance; head = head; count = c.count; last = c.last; path = c.path; stop = c.stop }),
    ))))))

mutual
  node_crosses : (s : Setting) (n : ℕ) (tree : Node) → Crossing s n (phrase_of s tree)
  node_crosses s n (node number values found ns) asked at after h le lt =
      option_and_then_some _ (rule_with s.grammar number) after h (λ rule has leads.
      phrase_crosses s n number rule values found ns has (nodes_cross s n ns) asked at after leads le lt)

  nodes_cross : (s : Setting) (n : ℕ) (ns : Nodes) → AllOf (Crossing s n) (phrases_of s ns)
  nodes_cross s n none = tt
  nodes_cross s n (more tree ns) = (node_crosses s n tree, nodes_cross s n ns)

-- cut-off nodes

length_of_take : {X : Type 0} (n : ℕ) (xs : List X) → length (take n xs) ≤ n
length_of_take zero xs = omega arith
length_of_take (suc n) [] = omega arith
length_of_take (suc n) (x ∷ xs) = let rest = length_of_take n xs in omega arith

front_crosses : (s : Setting) (n number : ℕ) (rule : Rule) (values : List (ℕ × Value)) (found : List ℕ) (ns : Nodes) (count : ℕ) (asked : Test) (at : At)
    (stand : Stand) → rule_with s.grammar number ≡ Some rule → front s rule values found (phrases_of s ns) count asked at ≡ Some stand → at.place ≤ n
    → n < stand.at.place → Follows s n asked at
front_crosses s n number rule values found ns count asked at stand has h le lt =
    option_and_then_some _ (begun s rule values found (phrases_of s ns) asked at) stand h (λ start starts runs.
    if_some (fits (under values rule.head) asked && is_instance s rule values) _ start starts (λ b is_start.
    both_true (fits (under values rule.head) asked) (is_instance s rule values) b (λ head instance.
    option_and_then_some used_up (run s values (take count rule.body) start) stand runs (λ last ran used.
    let place : last.at.place ≡ stand.at.place = ap (λ (st : Stand). st.at.place) (all_used last stand used) in
    let c = run_crosses s n values (take count rule.body) at found (own_values rule values) ns last (nodes_cross s n ns)
    (ap (run s values (take count rule.body)) is_start ∙ ran) le (subst (λ m. n < m) (sym place) lt) in
    let within : c.count < length (take count rule.body) = c.within in
    let long : length (take count rule.body) ≤ count = length_of_take count rule.body in
    let below : c.count < count = omega arith in
    let few : c.count ≤ count = omega arith in
    let next = slice_get-take count c.count rule.body below in
    let path : Path s values (own_values rule values) (take c.count rule.body) at c.last =
    subst (λ es. Path s values (own_values rule values) es at c.last) (take-take c.count count rule.body few) c.path in
    let stop = subst (λ o. ((c.last.place ≡ n) × (meets values o c.asks ≡ true))
    ⊎ ((d : Category) × (option_and_then sub_of o ≡ Some d) × AskLeads s n c.asks (under values d) c.last)) next c.stop in (
      c.asks,
      c.token,
      ask_of_rule s n c.asks asked at number rule values has
          (record { instance = instance; head = head; count = c.count; last = c.last; path = path; stop = stop }),
    )))))

-- a cut-off node that begins at the place or before it and ends behind it asks there for the token
cut_crosses : (s : Setting) (n m : ℕ) (cut : CutNode) (asked : Test) (at : At) → cut_end s cut asked at ≡ Some m → at.place ≤ n → n < m → Follows s n asked at
cut_crosses s n m (stopped number values found ns count) asked at h le lt =
    place_some (λ (stand : Stand). stand.at.place) (front_of s number values found ns count asked at) m h (λ stand is place.
    option_and_then_some _ (rule_with s.grammar number) stand is (λ rule has fronts.
    front_crosses s n number rule values found ns count asked at stand has fronts le (subst (λ k. n < k) (sym place) lt)))
cut_crosses s n m (entered number values found ns count child) asked at h le lt =
    option_and_then_some _ (front_of s number values found ns count asked at) m h (λ stand is ends.
    option_and_then_some _ (rule_with s.grammar number) stand is (λ rule has fronts.
    option_and_then_some (λ category. cut_end s child (under values category) stand.at)
    (option_and_then (λ r. next_category r count) (rule_with s.grammar number)) m ends (λ c next deep.
    by (cut_crosses s n m child) stand rule c has fronts next deep (cases_lt n stand.at.place))))
  where
    by : ((category : Test) (place : At) → cut_end s child category place ≡ Some m → place.place ≤ n → n < m → Follows s n category place)
        → (stand : Stand) (rule : Rule) (c : Category) → rule_with s.grammar number ≡ Some rule
        → front s rule values found (phrases_of s ns) count asked at ≡ Some stand
        → option_and_then (λ r. next_category r count) (rule_with s.grammar number) ≡ Some c → cut_end s child (under values c) stand.at ≡ Some m
        → (n < stand.at.place) ⊎ (stand.at.place ≤ n) → Follows s n asked at
    by later stand rule c has fronts next deep (inl over) = front_crosses s n number rule values found ns count asked at stand has fronts le over
    by later stand rule c has fronts next deep (inr before) =
        let f = front_is s rule values found ns count asked at stand fronts in
        let inner = later (under values c) stand.at deep before lt in (
          inner.0,
          inner.1,
          ask_of_rule s n inner.0 asked at number rule values has
              (record {
                instance = f.instance;
                head = f.head;
                count = count;
                last = stand.at;
                path = f.path;
                stop = inr (c, sym (ap (option_and_then (λ r. next_category r count)) has) ∙ next, inner.2);
              }),
        )

-- Towards the left: where a cut-off node asks for the token, it takes it.

-- the next element, and where it leads
record Taken (s : Setting) (values : List (ℕ × Value)) (o : Option Element) (at : At) : Type 0 where
  element : Element
  next : o ≡ Some element
  leads : (own : List (ℕ × Value)) → ElementLeads s values own element at (moved_on at)

terminal_taken : (s : Setting) (n t : ℕ) (values : List (ℕ × Value)) (e : Element) (at : At) → at.place ≡ n → matches_terminal s t n ≡ true
    → takes_terminal t e ≡ true → (own : List (ℕ × Value)) → ElementLeads s values own e at (moved_on at)
terminal_taken s n t values (Terminal x) at here m h own =
    let same : t ≡ x = grind (arith, nat_tests) in
    (ap (λ k. matches_terminal s x k) here ∙ ap (λ y. matches_terminal s y n) (sym same) ∙ m, refl)
terminal_taken s n t values (Preterminal c) at here m h own = absurd (cc)
terminal_taken s n t values (Sub c) at here m h own = absurd (cc)
terminal_taken s n t values (Position x) at here m h own = absurd (cc)
terminal_taken s n t values Opener at here m h own = absurd (cc)
terminal_taken s n t values (Forward c) at here m h own = absurd (cc)
terminal_taken s n t values (Strong c) at here m h own = absurd (cc)
terminal_taken s n t values (Back p q) at here m h own = absurd (cc)
terminal_taken s n t values (NoBack p) at here m h own = absurd (cc)

reading_taken : (s : Setting) (n : ℕ) (r : Ground) (values : List (ℕ × Value)) (e : Element) (at : At) → at.place ≡ n → TokenMeets s n (ask.Reading r)
    → takes_reading values r e ≡ true → (own : List (ℕ × Value)) → ElementLeads s values own e at (moved_on at)
reading_taken s n r values (Terminal x) at here m h own = absurd (cc)
reading_taken s n r values (Preterminal c) at here m h own = (
  ap (matches_preterminal s (under values c)) here ∙ ap (λ o. option_map_or (λ readings. list_any (λ x. agrees x (under values c)) readings) o false) m.1
      ∙ one_any (λ x. agrees x (under values c)) m.0 r m.2 h,
  refl,
)
reading_taken s n r values (Sub c) at here m h own = absurd (cc)
reading_taken s n r values (Position x) at here m h own = absurd (cc)
reading_taken s n r values Opener at here m h own = absurd (cc)
reading_taken s n r values (Forward c) at here m h own = absurd (cc)
reading_taken s n r values (Strong c) at here m h own = absurd (cc)
reading_taken s n r values (Back p q) at here m h own = absurd (cc)
reading_taken s n r values (NoBack p) at here m h own = absurd (cc)

next_taken : (s : Setting) (n : ℕ) (asks : Ask) (values : List (ℕ × Value)) (o : Option Element) (at : At) → at.place ≡ n → TokenMeets s n asks
    → meets values o asks ≡ true → Taken s values o at
next_taken s n ask.Any values o at here m h = absurd m
next_taken s n (ask.Terminal t) values None at here m h = absurd (cc)
next_taken s n (ask.Terminal t) values (Some e) at here m h =
    record { element = e; next = refl; leads = terminal_taken s n t values e at here m h }
next_taken s n (ask.Reading r) values None at here m h = absurd (cc)
next_taken s n (ask.Reading r) values (Some e) at here m h =
    record { element = e; next = refl; leads = reading_taken s n r values e at here m h }

-- a path that goes on over the next element
path_further : (s : Setting) (values own : List (ℕ × Value)) (k : ℕ) (es : List Element) (e : Element) (at between last : At) → slice_get es k ≡ Some e
    → Path s values own (take k es) at between → ((rest : List (ℕ × Value)) → ElementLeads s values rest e between last)
    → Path s values own (take (suc k) es) at last
path_further s values own k [] e at between last next path leads = absurd (cc)
path_further s values own zero (x ∷ es) e at between last next path leads = (
  last,
  subst (λ y. ElementLeads s values own y at last) (sym (same_Some x e next)) (subst (λ b. ElementLeads s values own e b last) (sym path) (leads own)),
  refl,
)
path_further s values own (suc k) (x ∷ es) e at between last next path leads =
    (path.0, path.1, path_further s values (own_past s x own) k es e path.0 between last next path.2 leads)

ask_taken : (s : Setting) (n : ℕ) (asks : Ask) → TokenMeets s n asks → (cut : CutNode) (asked : Test) (at : At) → cut_end s cut asked at ≡ Some n
    → CutMeets s cut asks → AskLeads s (n + 1) ask.Any asked at
ask_taken s n asks token (stopped number values found ns count) asked at h m =
    place_some (λ (stand : Stand). stand.at.place) (front_of s number values found ns count asked at) n h (λ stand is place.
    option_and_then_some _ (rule_with s.grammar number) stand is (λ rule has fronts.
    let f = front_is s rule values found ns count asked at stand fronts in
    let met = met_in s number rule values found ns count asks has m in
    let t = next_taken s n asks values (slice_get rule.body count) stand.at place token met in
    let path = path_further s values (own_values rule values) count rule.body t.element at stand.at (moved_on stand.at) t.next f.path t.leads in
    ask_of_rule s (n + 1) ask.Any asked at number rule values has
    (record { instance = f.instance; head = f.head; count = suc count; last = moved_on stand.at; path = path; stop = inl (ap (λ k. k + 1) place, refl) })))
ask_taken s n asks token (entered number values found ns count child) asked at h m =
    option_and_then_some _ (front_of s number values found ns count asked at) n h (λ stand is ends.
    option_and_then_some _ (rule_with s.grammar number) stand is (λ rule has fronts.
    option_and_then_some (λ category. cut_end s child (under values category) stand.at)
    (option_and_then (λ r. next_category r count) (rule_with s.grammar number)) n ends (λ c next deep.
    let f = front_is s rule values found ns count asked at stand fronts in
    ask_of_rule s (n + 1) ask.Any asked at number rule values has
    (record {
      instance = f.instance;
      head = f.head;
      count = count;
      last = stand.at;
      path = f.path;
      stop = inr (c, sym (ap (option_and_then (λ r. next_category r count)) has) ∙ next, ask_taken s n asks token child (under values c) stand.at deep m);
    }))))

-- a cut-off node ends behind the token exactly where one asks for the token
pub last_token : (s : Setting) (n : ℕ) (asked : Test) (at : At) → at.place ≤ n
    → (Follows s n asked at → (cut : CutNode) × (cut_end s cut asked at ≡ Some (n + 1)))
    × ((cut : CutNode) × (cut_end s cut asked at ≡ Some (n + 1)) → Follows s n asked at)
last_token s n asked at le = (
  λ f. leads_any s (n + 1) ask.Any asked at (ask_taken s n f.0 f.1 f.2.0 asked at f.2.1 f.2.2),
  λ c. let lt : n < n + 1 = omega arith in cut_crosses s n (n + 1) c.0 asked at c.1 le lt,
)
