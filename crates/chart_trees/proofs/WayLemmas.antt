-- Ways over elements: they are runs, runs are ways, and each step from a path that is no later leads to one that is no later.
use Rattle.std.proofs.Common.{◌≡◌, ℕ, ◌+◌, ◌<◌, ◌≤◌, List, [], ◌∷◌, ◌++◌, map, take, length, get_or, true, false, ◌⊎◌, inl, inr, Option, Some, None, refl, sym, ap, subst, ◌∙◌, append-nil}
use Rattle.std.specs.Prelude.{if◌then◌else◌, option_and_then}
use Rattle.std.specs.Option.{option_map_or}
use Rattle.std.specs.List.{flat_map}
use Rattle.std.proofs.lemmas.List.{take_more, take_all, map-append}
use Rattle.codeco_terms.specs.declared.values.Value.{Value}
use Rattle.codeco_terms.specs.declared.categories.Category.{Category}
use Rattle.codeco_terms.specs.declared.elements.Element.{Element}
use Rattle.codeco_terms.specs.declared.elements.Element.TheVariants.{Terminal, Preterminal, Sub, Position, Opener, Forward, Strong, Back, NoBack}
use Rattle.codeco_terms.specs.declared.rules.Rule.{Rule}
use Rattle.scopes.specs.declared.agreement.Test.{Test}
use Rattle.derivation_trees.specs.Trees.{Node, Nodes, node, nodes_from}
use Rattle.derivation_trees.specs.Settings.{Setting}
use Rattle.derivation_trees.specs.Instances.{under, is_instance, own_values}
use Rattle.derivation_trees.specs.Stands.{is_sub}
use Rattle.derivation_trees.specs.Derives.{At, Stand, is_none_left, pass, run, fits, begun, ended, phrase, phrase_of, phrases_of, rule_with, list_after}
use Rattle.derivations.specs.Enumeration.{Path, Outcome, found_at, passed, joined, steps, all_steps, opened, may_begin}
use Rattle.derivations.proofs.Members.{Among, among_left, among_right, among_map, among_flat_map}
use Rattle.derivations.proofs.StepLemmas.{stand_of, Goes, Knows, all_goes}
use Rattle.derivations.proofs.SoundLemmas.{Mapped, from_map, Flattened, from_flat_map, either_among, Leads, Sound, step_leads, leads_nowhere, leads_on, whole_run}
use Rattle.derivations.proofs.ListingLemmas.{node_list, nodes_again, phrases_of-list, Parts, phrase_parts, none_left_nil, none_mapped}
use Rattle.chart_trees.specs.declared.paths.Path.{Path as HeldPath}
use Rattle.chart_trees.specs.declared.outcomes.Outcome.{Outcome as HeldOutcome}
use Rattle.chart_trees.specs.Order.{Lower, AtMost, node_code, codes}
use Rattle.chart_trees.specs.Paths.{path_of, outcome_at}
use Rattle.chart_trees.specs.Ways.{fitting, fitting_all, StepTo, Steps, IsNoLater, IsStepOf, HasSteps, AreStepsOf, AreReached}
use Rattle.chart_trees.specs.Outcomes.{Covers, IsBest}
use Rattle.chart_trees.proofs.OrderLemmas.{lower_append, at_most_append, codes_push}

-- the trees that lead somewhere

fitting_is : (s : Setting) (asked : Test) (at : At) (n : Node) (o : Outcome) → Among (fitting s asked at n) o → phrase_of s o.tree asked at ≡ Some o.at
fitting_is s asked at n o h = by (phrase_of s n asked at) refl h
  where
    by : (r : Option At) → phrase_of s n asked at ≡ r → Among (option_map_or (λ after. record { tree = n; at = after } ∷ []) r []) o
        → phrase_of s o.tree asked at ≡ Some o.at
    by None e k = absurd k
    by (Some after) e (inr k) = absurd k
    by (Some after) e (inl k) = subst (λ (x : Outcome). phrase_of s x.tree asked at ≡ Some x.at) (sym k) e

pub fitting_sound : (s : Setting) (ns : List Node) → Sound s (fitting_all s ns)
fitting_sound s ns asked at o h =
    let one : Flattened (fitting s asked at) ns o = from_flat_map (fitting s asked at) ns o h in
    fitting_is s asked at one.from o one.is

pub fitting_knows : (s : Setting) (ns : List Node) → Knows s (fitting_all s ns) ns
fitting_knows s ns n asked start at among led =
    let o : Outcome = record { tree = n; at = at } in
    let here : Among (fitting s asked start n) o =
    subst (λ (r : Option At). Among {X = Outcome} (option_map_or (λ (after : At). record { tree = n; at = after } ∷ []) r []) o) (sym led) (inl refl) in
    among_flat_map (fitting s asked start) ns n o among here

-- ways

pub steps_more : (s : Setting) (values : List (ℕ × Value)) (es : List Element) (e : Element) (p q r : Path) → Steps s values es p q → StepTo s values e q r
    → Steps s values (es ++ e ∷ []) p r
steps_more s values [] e p q r h k = (r, subst (λ x. StepTo s values e x r) (sym h) k, refl)
steps_more s values (d ∷ es) e p q r h k = (h.0, h.1, steps_more s values es e h.0 q r h.2 k)

pub steps_split : (s : Setting) (values : List (ℕ × Value)) (es : List Element) (e : Element) (p r : Path) → Steps s values (es ++ e ∷ []) p r
    → (q : Path) × Steps s values es p q × StepTo s values e q r
steps_split s values [] e p r h = (p, refl, subst (StepTo s values e p) h.2 h.1)
steps_split s values (d ∷ es) e p r h =
    let one = steps_split s values es e h.0 r h.2 in (one.0, (h.0, h.1, one.1), one.2)

-- a way is a run
pub steps_lead : (s : Setting) (values : List (ℕ × Value)) (es : List Element) (p q : Path) → Steps s values es p q → Leads s (run s values es) p q
steps_lead s values [] p q h = subst (Leads s (run s values []) p) h (leads_nowhere s values p)
steps_lead s values (e ∷ es) p q h =
    leads_on s values e es p h.0 q (step_leads s (fitting_all s h.1.0) values e p h.0 (fitting_sound s h.1.0) h.1.1) (steps_lead s values es h.0 q h.2)

-- a path that leads to this one
record From (s : Setting) (values : List (ℕ × Value)) (es : List Element) (paths : List Path) (q : Path) : Type 0 where
  pub path : Path
  pub among : Among paths path
  pub steps : Steps s values es path q

all_steps_from : (s : Setting) (ns : List Node) (values : List (ℕ × Value)) (es : List Element) (paths : List Path) (q : Path)
    → Among (all_steps s (fitting_all s ns) values es paths) q → From s values es paths q
all_steps_from s ns values [] paths q h = record { path = q; among = h; steps = refl }
all_steps_from s ns values (e ∷ es) paths q h =
    let later = all_steps_from s ns values es (flat_map (steps s (fitting_all s ns) values e) paths) q h in
    let one : Flattened (steps s (fitting_all s ns) values e) paths later.path =
    from_flat_map (steps s (fitting_all s ns) values e) paths later.path later.among in
    record { path = one.from; among = one.among; steps = (later.path, (ns, one.is), later.steps) }

-- the way of a tree

pub record Way (s : Setting) (asked : Test) (at after : At) (rule : Rule) (values : List (ℕ × Value)) (found : List ℕ) (children : Nodes) : Type 0 where
  pub fit : fits (under values rule.head) asked ≡ true
  pub instance : is_instance s rule values ≡ true
  pub last : Path
  pub steps : Steps s values rule.body (opened rule values at) last
  pub found_is : last.found ≡ found
  pub children_is : nodes_from last.children ≡ children
  pub ends : after ≡ record { place = last.at.place; list = list_after rule.closing at.list last.at.list }

pub way_of : (s : Setting) (asked : Test) (at after : At) (rule : Rule) (values : List (ℕ × Value)) (found : List ℕ) (children : Nodes)
    → phrase s rule values found (phrases_of s children) asked at ≡ Some after → Way s asked at after rule values found children
way_of s asked at after rule values found children h =
    let parts : Parts s rule values found (phrases_of s children) asked at after = phrase_parts s rule values found (phrases_of s children) asked at after h in
    let start : Path = opened rule values at in
    let ns : List Node = node_list children in
    let ran : run s values rule.body (stand_of s start found ns) ≡ Some parts.stand =
    ap (λ ps. run s values rule.body (record { at = at; found = found; own = own_values rule values; children = ps })) (sym (phrases_of-list s children))
    ∙ parts.ran in
    let goes : Goes s (all_steps s (fitting_all s ns) values rule.body (start ∷ [])) start found ns parts.stand =
    all_goes s (fitting_all s ns) values rule.body (start ∷ []) start found ns parts.stand (inl refl) (fitting_knows s ns) ran in
    let left : goes.left ≡ [] = none_left_nil goes.left (ap (λ x. is_none_left x.found) (sym goes.stands) ∙ parts.no_found) in
    let rest : goes.rest ≡ [] = none_mapped (phrase_of s) goes.rest (ap (λ x. is_none_left x.children) (sym goes.stands) ∙ parts.no_children) in
    let from : From s values rule.body (start ∷ []) goes.next = all_steps_from s ns values rule.body (start ∷ []) goes.next goes.among in
    let children_list : goes.next.children ≡ ns = sym (append-nil goes.next.children) ∙ ap (λ xs. goes.next.children ++ xs) (sym rest) ∙ goes.children_is in
    record {
      fit = parts.fit;
      instance = parts.instance;
      last = goes.next;
      steps = only_start goes.next from.path from.among from.steps;
      found_is = sym (append-nil goes.next.found) ∙ ap (λ xs. goes.next.found ++ xs) (sym left) ∙ goes.found_is;
      children_is = ap nodes_from children_list ∙ nodes_again children;
      ends = parts.ends ∙ ap (λ x. record { place = x.at.place; list = list_after rule.closing at.list x.at.list }) goes.stands;
    }
  where
    only_start : (q p : Path) → Among (opened rule values at ∷ []) p → Steps s values rule.body p q → Steps s values rule.body (opened rule values at) q
    only_start q p (inl e) k = subst (λ x. Steps s values rule.body x q) e k
    only_start q p (inr m) k = absurd m

-- the tree of a way is a phrase
pub way_leads : (s : Setting) (asked : Test) (at : At) (number : ℕ) (rule : Rule) (values : List (ℕ × Value)) (last : Path)
    → rule_with s.grammar number ≡ Some rule → may_begin s rule asked values ≡ true → Steps s values rule.body (opened rule values at) last
    → phrase_of s (node number values last.found (nodes_from last.children)) asked at
    ≡ Some (record { place = last.at.place; list = list_after rule.closing at.list last.at.list })
way_leads s asked at number rule values last there may way =
    let ran : run s values rule.body (record { at = at; found = last.found; own = own_values rule values; children = phrases_of s (nodes_from last.children) })
    ≡ Some (stand_of s last [] []) =
    whole_run s rule.body rule values at last
    (record { path = opened rule values at; among = inl refl; leads = steps_lead s values rule.body (opened rule values at) last way }) in
    let start : begun s rule values last.found (phrases_of s (nodes_from last.children)) asked at
    ≡ Some (record { at = at; found = last.found; own = own_values rule values; children = phrases_of s (nodes_from last.children) }) =
    ap (λ b. if b then Some (record { at = at; found = last.found; own = own_values rule values; children = phrases_of s (nodes_from last.children) })
    else None) may in
    ap (option_and_then (λ r. phrase s r values last.found (phrases_of s (nodes_from last.children)) asked at)) there
    ∙ ap (option_and_then (λ stand. option_and_then (ended rule at.list) (run s values rule.body stand))) start
    ∙ ap (option_and_then (ended rule at.list)) ran

-- a path that is no later

pub no_later_same : (p : Path) → IsNoLater p p
no_later_same p = record { at = refl; own = refl; order = inr (refl, inl refl) }

-- a path after what is passed
abbrev passed_to : List ℕ → List ℕ → List Node → Stand → List Path
passed_to found more children stand = record { found = found ++ more; own = stand.own; children = children; at = stand.at } ∷ []

passed_no_later : (found found' more : List ℕ) (children children' : List Node) (o : Option Stand) (x : Path)
    → Lower found found' ⊎ ((found ≡ found') × AtMost (codes children) (codes children')) → Among (option_map_or (passed_to found' more children') o []) x
    → (y : Path) × Among (option_map_or (passed_to found more children) o []) y × IsNoLater y x
passed_no_later found found' more children children' None x order h = absurd h
passed_no_later found found' more children children' (Some stand) x order (inr h) = absurd h
passed_no_later found found' more children children' (Some stand) x order (inl h) =
    let y : Path = record { found = found ++ more; own = stand.own; children = children; at = stand.at } in
    (y, inl refl, subst (IsNoLater y) (sym h) (record { at = refl; own = refl; order = by order }))
  where
    by : Lower found found' ⊎ ((found ≡ found') × AtMost (codes children) (codes children'))
        → Lower (found ++ more) (found' ++ more) ⊎ ((found ++ more ≡ found' ++ more) × AtMost (codes children) (codes children'))
    by (inl l) = inl (lower_append found found' more more l)
    by (inr e) = inr (ap (λ l. l ++ more) e.0, e.1)

plain_no_later : (s : Setting) (values : List (ℕ × Value)) (e : Element) (p q x : Path) → IsNoLater p q → Among (passed s values e q) x
    → (y : Path) × Among (passed s values e p) y × IsNoLater y x
plain_no_later s values e p q x less h =
    let more : At → List ℕ = λ at. found_at values e at.list in
    let at_p : Among (option_map_or (passed_to q.found (more p.at) q.children)
    (pass s values e (record { at = p.at; found = more p.at; own = p.own; children = [] })) []) x =
    subst (λ at. Among (option_map_or (passed_to q.found (more at) q.children)
    (pass s values e (record { at = at; found = more at; own = p.own; children = [] })) []) x) (sym less.at)
    (subst (λ own. Among (option_map_or (passed_to q.found (more q.at) q.children)
    (pass s values e (record { at = q.at; found = more q.at; own = own; children = [] })) []) x) (sym less.own) h) in
    passed_no_later p.found q.found (found_at values e p.at.list) p.children q.children
    (pass s values e (record { at = p.at; found = found_at values e p.at.list; own = p.own; children = [] })) x less.order at_p

-- the steps over an element that is no category
pub plain_steps : (s : Setting) (values : List (ℕ × Value)) (e : Element) (p : Path) → is_sub e ≡ false → IsStepOf s values e p (passed s values e p)
plain_steps s values (Terminal t) p plain = record { sound = λ x h. ([], h); least = λ q x less h. plain_no_later s values (Terminal t) p q x less h.1 }
plain_steps s values (Preterminal c) p plain = record { sound = λ x h. ([], h); least = λ q x less h. plain_no_later s values (Preterminal c) p q x less h.1 }
plain_steps s values (Sub c) p plain = cc
plain_steps s values (Position v) p plain = record { sound = λ x h. ([], h); least = λ q x less h. plain_no_later s values (Position v) p q x less h.1 }
plain_steps s values Opener p plain = record { sound = λ x h. ([], h); least = λ q x less h. plain_no_later s values Opener p q x less h.1 }
plain_steps s values (Forward c) p plain = record { sound = λ x h. ([], h); least = λ q x less h. plain_no_later s values (Forward c) p q x less h.1 }
plain_steps s values (Strong c) p plain = record { sound = λ x h. ([], h); least = λ q x less h. plain_no_later s values (Strong c) p q x less h.1 }
plain_steps s values (Back positive negative) p plain =
    record { sound = λ x h. ([], h); least = λ q x less h. plain_no_later s values (Back positive negative) p q x less h.1 }
plain_steps s values (NoBack patterns) p plain =
    record { sound = λ x h. ([], h); least = λ q x less h. plain_no_later s values (NoBack patterns) p q x less h.1 }

-- the steps over a category

joined_no_later : (p q : Path) (one other : Outcome) → IsNoLater p q → one.at ≡ other.at → AtMost (node_code one.tree) (node_code other.tree)
    → IsNoLater (joined p one) (joined q other)
joined_no_later p q one other less at code = record { at = at; own = less.own; order = by less.order }
  where
    by : Lower p.found q.found ⊎ ((p.found ≡ q.found) × AtMost (codes p.children) (codes q.children))
        → Lower p.found q.found ⊎ ((p.found ≡ q.found) × AtMost (codes (p.children ++ one.tree ∷ [])) (codes (q.children ++ other.tree ∷ [])))
    by (inl l) = inl l
    by (inr e) = inr (
      e.0,
      subst (λ l. AtMost l (codes (q.children ++ other.tree ∷ []))) (sym (codes_push p.children one.tree))
          (subst (AtMost (codes p.children ++ node_code one.tree)) (sym (codes_push q.children other.tree))
          (at_most_append (codes p.children) (codes q.children) (node_code one.tree) (node_code other.tree) e.1 code)),
    )

pub child_steps : (s : Setting) (values : List (ℕ × Value)) (c : Category) (p : Path) (outcomes : List HeldOutcome) → IsBest s (under values c) p.at outcomes
    → IsStepOf s values (Sub c) p (map (joined p) (map (outcome_at p.at.list) outcomes))
child_steps s values c p outcomes best = record { sound = sound; least = least }
  where
    sound : (x : Path) → Among (map (joined p) (map (outcome_at p.at.list) outcomes)) x → StepTo s values (Sub c) p x
    sound x h =
        let one : Mapped (joined p) (map (outcome_at p.at.list) outcomes) x = from_map (joined p) (map (outcome_at p.at.list) outcomes) x h in
        let held : Mapped (outcome_at p.at.list) outcomes one.from = from_map (outcome_at p.at.list) outcomes one.from one.among in
        let o : Outcome = outcome_at p.at.list held.from in
        let led : phrase_of s o.tree (under values c) p.at ≡ Some o.at = (best.sound held.from held.among).led in
        let here : Among (fitting_all s (o.tree ∷ []) (under values c) p.at) o =
        fitting_knows s (o.tree ∷ []) o.tree (under values c) p.at o.at (inl refl) led in (
          o.tree ∷ [],
          subst (Among (map (joined p) (fitting_all s (o.tree ∷ []) (under values c) p.at))) (sym (one.is ∙ ap (joined p) held.is))
              (among_map (joined p) (fitting_all s (o.tree ∷ []) (under values c) p.at) o here),
        )

    least : (q x : Path) → IsNoLater p q → StepTo s values (Sub c) q x
        → (y : Path) × Among (map (joined p) (map (outcome_at p.at.list) outcomes)) y × IsNoLater y x
    least q x less h =
        let one : Mapped (joined q) (fitting_all s h.0 (under values c) q.at) x = from_map (joined q) (fitting_all s h.0 (under values c) q.at) x h.1 in
        let other : Outcome = one.from in
        let led : phrase_of s other.tree (under values c) p.at ≡ Some other.at =
        subst (λ a. phrase_of s other.tree (under values c) a ≡ Some other.at) (sym less.at) (fitting_sound s h.0 (under values c) q.at other one.among) in
        let cover : Covers outcomes p.at.list other.at (node_code other.tree) = best.least other.tree other.at led in
        let o : HeldOutcome = cover.0 in
        let code : AtMost (node_code (outcome_at p.at.list o).tree) (node_code other.tree) =
        subst (λ l. AtMost l (node_code other.tree)) (best.sound o cover.1).coded cover.3 in (
          joined p (outcome_at p.at.list o),
          among_map (joined p) (map (outcome_at p.at.list) outcomes) (outcome_at p.at.list o) (among_map (outcome_at p.at.list) outcomes o cover.1),
          subst (IsNoLater (joined p (outcome_at p.at.list o))) (sym one.is) (joined_no_later p q (outcome_at p.at.list o) other less (sym cover.2) code),
        )

-- from one path after another

pub steps_none : (s : Setting) (values : List (ℕ × Value)) (e : Element) → AreStepsOf s values e [] []
steps_none s values e = record { sound = λ x h. absurd h; least = λ p q x m less h. absurd m }

steps_then : (s : Setting) (values : List (ℕ × Value)) (e : Element) (paths : List Path) (p : Path) (before more : List Path)
    → AreStepsOf s values e paths before → IsStepOf s values e p more → AreStepsOf s values e (paths ++ p ∷ []) (before ++ more)
steps_then s values e paths p before more a b =
    record { sound = λ x h. sound x (either_among before more x h); least = λ r q x m less h. least r q x (either_among paths (p ∷ []) r m) less h }
  where
    sound : (x : Path) → Among before x ⊎ Among more x → (r : Path) × Among (paths ++ p ∷ []) r × StepTo s values e r x
    sound x (inl h) = let one = a.sound x h in (one.0, among_left paths (p ∷ []) one.0 one.1, one.2)
    sound x (inr h) = (p, among_right paths (p ∷ []) p (inl refl), b.sound x h)

    least : (r q x : Path) → Among paths r ⊎ Among (p ∷ []) r → IsNoLater r q → StepTo s values e q x → (y : Path) × Among (before ++ more) y × IsNoLater y x
    least r q x (inl m) less h = let one = a.least r q x m less h in (one.0, among_left before more one.0 one.1, one.2)
    least r q x (inr (inl m)) less h =
        let one = b.least q x (subst (λ z. IsNoLater z q) m less) h in (one.0, among_right before more one.0 one.1, one.2)
    least r q x (inr (inr m)) less h = absurd m

pub steps_turn : (s : Setting) (values : List (ℕ × Value)) (e : Element) (paths : List HeldPath) (i : ℕ) (p : HeldPath) (before after : List Path)
    → i < length paths → p ≡ get_or paths i p → AreStepsOf s values e (map path_of (take i paths)) before → HasSteps s values e (path_of p) before after
    → AreStepsOf s values e (map path_of (take (i + 1) paths)) after
steps_turn s values e paths i p before after lt is a b =
    let whole : map path_of (take (i + 1) paths) ≡ map path_of (take i paths) ++ path_of p ∷ [] =
    ap (map path_of) (take_more paths i p lt ∙ ap (λ y. take i paths ++ y ∷ []) (sym is)) ∙ map-append path_of (take i paths) (p ∷ []) in
    subst (λ l. AreStepsOf s values e l after) (sym whole)
    (subst (AreStepsOf s values e (map path_of (take i paths) ++ path_of p ∷ [])) (sym b.1)
    (steps_then s values e (map path_of (take i paths)) (path_of p) before b.0 a b.2))

pub steps_done : (s : Setting) (values : List (ℕ × Value)) (e : Element) (paths : List HeldPath) (i : ℕ) (after : List Path) → length paths ≤ i
    → AreStepsOf s values e (map path_of (take i paths)) after → AreStepsOf s values e (map path_of paths) after
steps_done s values e paths i after le h = subst (λ l. AreStepsOf s values e (map path_of l) after) (take_all i paths le) h

-- over one element after another

pub reached_first : (s : Setting) (values : List (ℕ × Value)) (first : Path) → AreReached s values [] first (first ∷ [])
reached_first s values first = record { sound = sound; least = λ x h. (first, inl refl, subst (IsNoLater first) h (no_later_same first)) }
  where
    sound : (x : Path) → Among (first ∷ []) x → Steps s values [] first x
    sound x (inl h) = sym h
    sound x (inr h) = absurd h

reached_then : (s : Setting) (values : List (ℕ × Value)) (es : List Element) (e : Element) (first : Path) (paths news : List Path)
    → AreReached s values es first paths → AreStepsOf s values e paths news → AreReached s values (es ++ e ∷ []) first news
reached_then s values es e first paths news a b = record {
  sound = λ x h. let one = b.sound x h in steps_more s values es e first one.0 x (a.sound one.0 one.1) one.2;
  least = λ x h. let parts = steps_split s values es e first x h in let one = a.least parts.0 parts.1 in b.least one.0 parts.0 x one.1 one.2 parts.2;
}

pub reached_turn : (s : Setting) (values : List (ℕ × Value)) (body : List Element) (i : ℕ) (e : Element) (first : Path) (paths seen : List HeldPath)
    (news : List Path) → i < length body → e ≡ get_or body i e → seen ≡ paths → AreReached s values (take i body) first (map path_of paths)
    → AreStepsOf s values e (map path_of seen) news → AreReached s values (take (i + 1) body) first news
reached_turn s values body i e first paths seen news lt is same a b =
    let whole : take (i + 1) body ≡ take i body ++ e ∷ [] = take_more body i e lt ∙ ap (λ y. take i body ++ y ∷ []) (sym is) in
    subst (λ l. AreReached s values l first news) (sym whole)
    (reached_then s values (take i body) e first (map path_of paths) news a (subst (λ l. AreStepsOf s values e (map path_of l) news) same b))

pub reached_done : (s : Setting) (values : List (ℕ × Value)) (body : List Element) (i : ℕ) (first : Path) (paths : List Path) → length body ≤ i
    → AreReached s values (take i body) first paths → AreReached s values body first paths
reached_done s values body i first paths le h = subst (λ l. AreReached s values l first paths) (take_all i body le) h
