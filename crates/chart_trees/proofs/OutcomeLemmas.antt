-- Least trees for each end.
use Rattle.std.proofs.Common.{◌≡◌, ℕ, zero, suc, ◌+◌, ◌<◌, ◌≤◌, List, [], ◌∷◌, ◌++◌, map, take, drop, length, get_or, Bool, true, false, ◌⊎◌, inl, inr, Option, Some, None, refl, sym, ap, subst, ◌∙◌, arith, nat_lt}
use Rattle.std.specs.Prelude.{if◌then◌else◌, option_and_then, slice_get, slice_set}
use Rattle.std.proofs.lemmas.List.{take_all, append_cancel_left}
use Rattle.std.proofs.lemmas.Option.{same_Some, slice_get-get_or}
use Rattle.std.proofs.lemmas.Bool.Decides.{nat_tests}
use Rattle.std.proofs.lemmas.Bool.{and_from}
use Rattle.std.proofs.Math.Seq.{drop-append_seam}
use Rattle.wiki_base.proofs.ListLaws.{take_get_or}
use Rattle.chart_table.proofs.OneOfLemmas.{one_front}
use Rattle.chart_table.proofs.IdleLemmas.{none_some}
use Rattle.codeco_terms.specs.declared.values.Value.{Value}
use Rattle.codeco_terms.specs.declared.rules.Rule.{Rule}
use Rattle.scopes.specs.declared.entries.Entry.{Entry}
use Rattle.scopes.specs.declared.agreement.Test.{Test}
use Rattle.scopes.specs.AccessList.{closed}
use Rattle.derivation_trees.specs.Trees.{Node, Nodes, node, node_of, nodes_from}
use Rattle.derivation_trees.specs.Settings.{Setting}
use Rattle.derivation_trees.specs.Instances.{under}
use Rattle.derivation_trees.specs.Derives.{At, phrase, phrase_of, phrases_of, rule_with, list_after}
use Rattle.derivations.specs.Enumeration.{opened, may_begin}
use Rattle.derivations.specs.Enumeration as enumeration
use Rattle.derivations.proofs.Members.{Among, among_left, among_right, among_map}
use Rattle.derivations.proofs.SoundLemmas.{Mapped, from_map, either_among}
use Rattle.scopes.specs.AccessList.{referents}
use Rattle.chart_table.proofs.RuleLeading.{RuleLeads}
use Rattle.chart_table.specs.Branches.{OneOf}
use Rattle.chart_table.specs.Ends.{left_of}
use Rattle.chart_table.specs.Instances.{HasInstances}
use Rattle.chart_table.proofs.PassLemmas.{phrase_leads}
use Rattle.chart_table.proofs.OpenerLemmas.{node_parallel}
use Rattle.chart_table.proofs.EndLemmas.{agrees_known, fits_name, rule_number}
use Rattle.chart_trees.specs.declared.outcomes.Outcome.{Outcome}
use Rattle.chart_trees.specs.declared.paths.Path.{Path}
use Rattle.chart_trees.specs.Order.{Lower, AtMost, node_code, nodes_code, codes}
use Rattle.chart_trees.specs.Paths.{path_of, end_from}
use Rattle.chart_trees.specs.Ways.{IsNoLater, AreReached}
use Rattle.chart_trees.specs.Outcomes.{IsOutcome, Holds, Covers, IsBest, IsPut, IsEnded, HasEnded, IsOfInstance, IsOfInstances, IsOfRule, HasTrees}
use Rattle.chart_trees.proofs.TreesUpTo.{HasTreesUpTo}
use Rattle.chart_trees.proofs.OrderLemmas.{lower_append, at_most_append, at_most_trans, nodes_code_from}
use Rattle.chart_trees.proofs.WayLemmas.{Way, way_of, way_leads}

-- lists without openers

-- the least trees from a list are those from another that differs in openers alone
pub best_alike : (s : Setting) (asked : Test) (place : ℕ) (one other : List Entry) (outcomes : List Outcome) → referents one ≡ referents other
    → IsBest s asked (record { place = place; list = one }) outcomes → IsBest s asked (record { place = place; list = other }) outcomes
best_alike s asked place one other outcomes same best = record { sound = sound; least = least }
  where
    sound : (o : Outcome) → Among outcomes o → IsOutcome s asked (record { place = place; list = other }) o
    sound o m =
        let is = best.sound o m in
        let p = node_parallel s (node_of o.tree) asked place one other (end_from one o) same is.led in
        record { led = p.2 ∙ ap (λ t. Some (record { place = o.place; list = other ++ t })) (sym (append_cancel_left one o.tail p.0 p.1)); coded = is.coded }

    least : (n : Node) (after : At) → phrase_of s n asked (record { place = place; list = other }) ≡ Some after → Covers outcomes other after (node_code n)
    least n after h =
        let p = node_parallel s n asked place other one after (sym same) h in
        let cover = best.least n (record { place = after.place; list = one ++ p.0 }) p.2 in
        let o = cover.0 in
        let place_is : after.place ≡ o.place = ap (λ (a : At). a.place) cover.2 in
        let tail_is : p.0 ≡ o.tail = append_cancel_left one p.0 o.tail (ap (λ (a : At). a.list) cover.2) in
        let ends : after ≡ end_from other o =
        ap (λ l. record { place = after.place; list = l }) (p.1 ∙ ap (λ t. other ++ t) tail_is)
        ∙ ap (λ n. record { place = n; list = other ++ o.tail }) place_is in
        (o, cover.1, ends, cover.3)

-- where an outcome belongs

pub among_at : {X : Type 0} (xs : List X) (i : ℕ) (x d : X) → i < length xs → x ≡ get_or xs i d → Among xs x
among_at [] i x d lt is = absurd (omega arith)
among_at (y ∷ ys) zero x d lt is = inl is
among_at (y ∷ ys) (suc i) x d lt is = inr (among_at ys i x d (omega arith) is)

pub holds_at : (outcomes : List Outcome) (i : ℕ) (old new : Outcome) → i < length outcomes → old ≡ get_or outcomes i old → old.place ≡ new.place
    → old.tail ≡ new.tail → AtMost old.code new.code → Holds outcomes new.place new.tail new.code
holds_at outcomes i old new lt is place tail code = (old, among_at outcomes i old old lt is, place, tail, code)

pub seat_at : (outcomes : List Outcome) (i : ℕ) (old new : Outcome) → i < length outcomes → old ≡ get_or outcomes i old → new.place ≡ old.place
    → new.tail ≡ old.tail → AtMost new.code old.code
    → (x : Outcome) × (slice_get outcomes i ≡ Some x) × (new.place ≡ x.place) × (new.tail ≡ x.tail) × AtMost new.code x.code
seat_at outcomes i old new lt is place tail code = (old, slice_get-get_or outcomes i old lt ∙ ap Some (sym is), place, tail, code)

pub holds_itself : (outcomes : List Outcome) (o : Outcome) → Among outcomes o → Holds outcomes o.place o.tail o.code
holds_itself outcomes o m = (o, m, refl, refl, inl refl)

pub put_taken : (x : Outcome) (outcomes seen : List Outcome) → seen ≡ outcomes → Holds seen x.place x.tail x.code → IsPut x outcomes outcomes
put_taken x outcomes seen e h = record {
  sound = λ o m. inl m;
  kept = λ o m. holds_itself outcomes o m;
  new = subst (λ l. Holds l x.place x.tail x.code) e h;
}

pub put_free : (x : Outcome) (before after : List Outcome) → after ≡ before ++ x ∷ [] → IsPut x before after
put_free x before after e = subst (IsPut x before) (sym e) (record {
  sound = λ o m. by o (either_among before (x ∷ []) o m);
  kept = λ o m. holds_itself (before ++ x ∷ []) o (among_left before (x ∷ []) o m);
  new = holds_itself (before ++ x ∷ []) x (among_right before (x ∷ []) x (inl refl));
})
  where
    by : (o : Outcome) → Among before o ⊎ Among (x ∷ []) o → Among before o ⊎ (o ≡ x)
    by o (inl m) = inl m
    by o (inr (inl m)) = inr m
    by o (inr (inr m)) = absurd m

pub set_among : {X : Type 0} (xs : List X) (i : ℕ) (x o : X) → Among (slice_set xs i x) o → Among xs o ⊎ (o ≡ x)
set_among [] i x o m = absurd m
set_among (y ∷ ys) zero x o (inl m) = inr m
set_among (y ∷ ys) zero x o (inr m) = inl (inr m)
set_among (y ∷ ys) (suc i) x o (inl m) = inl (inl m)
set_among (y ∷ ys) (suc i) x o (inr m) = elim (set_among ys i x o m) [ inl k ↦ inl (inr k) | inr k ↦ inr k ]

pub set_has : {X : Type 0} (xs : List X) (i : ℕ) (x old : X) → slice_get xs i ≡ Some old → Among (slice_set xs i x) x
set_has [] i x old h = cc
set_has (y ∷ ys) zero x old h = inl refl
set_has (y ∷ ys) (suc i) x old h = inr (set_has ys i x old h)

pub set_keeps : {X : Type 0} (xs : List X) (i : ℕ) (x old o : X) → slice_get xs i ≡ Some old → Among xs o → Among (slice_set xs i x) o ⊎ (o ≡ old)
set_keeps [] i x old o h m = absurd m
set_keeps (y ∷ ys) zero x old o h (inl m) = inr (m ∙ same_Some y old h)
set_keeps (y ∷ ys) zero x old o h (inr m) = inl (inr m)
set_keeps (y ∷ ys) (suc i) x old o h (inl m) = inl (inl m)
set_keeps (y ∷ ys) (suc i) x old o h (inr m) = elim (set_keeps ys i x old o h m) [ inl k ↦ inl (inr k) | inr k ↦ inr k ]

pub put_at : (x : Outcome) (before seen after : List Outcome) (i : ℕ) → seen ≡ before → after ≡ slice_set before i x
    → (old : Outcome) × (slice_get seen i ≡ Some old) × (x.place ≡ old.place) × (x.tail ≡ old.tail) × AtMost x.code old.code → IsPut x before after
put_at x before seen after i e f h = subst (IsPut x before) (sym f) (record {
  sound = λ o m. set_among before i x o m;
  kept = λ o m. by o (set_keeps before i x h.0 o at m);
  new = holds_itself (slice_set before i x) x (set_has before i x h.0 at);
})
  where
    at : slice_get before i ≡ Some h.0
    at = ap (λ l. slice_get l i) (sym e) ∙ h.1

    by : (o : Outcome) → Among (slice_set before i x) o ⊎ (o ≡ h.0) → Holds (slice_set before i x) o.place o.tail o.code
    by o (inl m) = holds_itself (slice_set before i x) o m
    by o (inr k) = subst (λ (y : Outcome). Holds (slice_set before i x) y.place y.tail y.code) (sym k) (x, set_has before i x h.0 at, h.2, h.3, h.4)

-- what one list keeps of another

abbrev Keeps : List Outcome → List Outcome → Type 0
Keeps before after = (o : Outcome) → Among before o → Holds after o.place o.tail o.code

holds_kept : (before after : List Outcome) (place : ℕ) (tail : List Entry) (code : List ℕ) → Keeps before after → Holds before place tail code
    → Holds after place tail code
holds_kept before after place tail code keeps h =
    let k = keeps h.0 h.1 in
    (k.0, k.1, k.2 ∙ h.2, k.3 ∙ h.3, at_most_trans k.0.code h.0.code code k.4 h.4)

covers_kept : (before after : List Outcome) (list : List Entry) (end : At) (code : List ℕ) → Keeps before after → Covers before list end code
    → Covers after list end code
covers_kept before after list end code keeps h =
    let k = keeps h.0 h.1 in (
      k.0,
      k.1,
      h.2 ∙ ap (λ p. record { place = p; list = list ++ h.0.tail }) (sym k.2) ∙ ap (λ t. record { place = k.0.place; list = list ++ t }) (sym k.3),
      at_most_trans k.0.code h.0.code code k.4 h.3,
    )

keeps_then : (first before after : List Outcome) → Keeps first before → Keeps before after → Keeps first after
keeps_then first before after a b o m = holds_kept before after o.place o.tail o.code b (a o m)

-- the ends of one path after another

pub ended_none : (number : ℕ) (rule : Rule) (values : List (ℕ × Value)) (begun : List Entry) (outcomes : List Outcome)
    → HasEnded number rule values begun [] outcomes outcomes
ended_none number rule values begun outcomes = record { sound = λ o m. inl m; kept = λ o m. holds_itself outcomes o m; new = λ p m. absurd m }

ended_then : (number : ℕ) (rule : Rule) (values : List (ℕ × Value)) (begun : List Entry) (paths : List Path) (p : Path) (o : Outcome)
    (first before after : List Outcome) → HasEnded number rule values begun paths first before → IsEnded number rule values begun (path_of p) o
    → IsPut o before after → HasEnded number rule values begun (paths ++ p ∷ []) first after
ended_then number rule values begun paths p o first before after a is put = record {
  sound = λ x m. from x (put.sound x m);
  kept = keeps_then first before after a.kept put.kept;
  new = λ q m. by q (either_among paths (p ∷ []) q m);
}
  where
    from : (x : Outcome) → Among before x ⊎ (x ≡ o) → Among first x ⊎ ((q : Path) × Among (paths ++ p ∷ []) q × IsEnded number rule values begun (path_of q) x)
    from x (inl m) = elim (a.sound x m) [ inl k ↦ inl k | inr k ↦ inr (k.0, among_left paths (p ∷ []) k.0 k.1, k.2) ]
    from x (inr e) = inr (p, among_right paths (p ∷ []) p (inl refl), subst (IsEnded number rule values begun (path_of p)) (sym e) is)

    by : (q : Path) → Among paths q ⊎ Among (p ∷ []) q
        → Holds after q.place (left_of rule (drop (length begun) q.list)) (node_code (node number values (path_of q).found (nodes_from (path_of q).children)))
    by q (inl m) = holds_kept before after q.place (left_of rule (drop (length begun) q.list))
        (node_code (node number values (path_of q).found (nodes_from (path_of q).children))) put.kept (a.new q m)
    by q (inr (inr m)) = absurd m
    by q (inr (inl m)) = subst (λ (r : Path). Holds after r.place (left_of rule (drop (length begun) r.list))
        (node_code (node number values (path_of r).found (nodes_from (path_of r).children)))) (sym m)
        (put.new.0, put.new.1, put.new.2 ∙ is.place, put.new.3 ∙ is.tail, subst (AtMost put.new.0.code) (is.coded ∙ ap node_code is.tree) put.new.4)

pub ended_turn : (number : ℕ) (rule : Rule) (values : List (ℕ × Value)) (begun : List Entry) (paths : List Path) (i : ℕ) (p : Path) (o : Outcome)
    (first before after : List Outcome) → i < length paths → p ≡ get_or paths i p → HasEnded number rule values begun (take i paths) first before
    → IsEnded number rule values begun (path_of p) o → IsPut o before after → HasEnded number rule values begun (take (i + 1) paths) first after
ended_turn number rule values begun paths i p o first before after lt is a b c =
    subst (λ l. HasEnded number rule values begun l first after) (sym (take_get_or paths i p lt is))
    (ended_then number rule values begun (take i paths) p o first before after a b c)

pub ended_done : (number : ℕ) (rule : Rule) (values : List (ℕ × Value)) (begun : List Entry) (paths : List Path) (i : ℕ) (first after : List Outcome)
    → length paths ≤ i → HasEnded number rule values begun (take i paths) first after → HasEnded number rule values begun paths first after
ended_done number rule values begun paths i first after le h = subst (λ l. HasEnded number rule values begun l first after) (take_all i paths le) h

-- the trees of an instance

-- where a phrase ends, by what is left of what it adds
after_is : (rule : Rule) (begun list added : List Entry) → list_after rule.closing begun list ≡ begun ++ added
    → list_after rule.closing begun list ≡ begun ++ left_of rule (drop (length begun) list)
after_is rule begun list added h = by rule.closing h
  where
    by : (b : Bool) → list_after b begun list ≡ begun ++ added
        → list_after b begun list ≡ begun ++ (if b then closed (drop (length begun) list) else drop (length begun) list)
    by true k = refl
    by false k = k ∙ ap (λ t. begun ++ t) (sym (ap (drop (length begun)) k ∙ drop-append_seam begun added))

order_code : (number : ℕ) (values : List (ℕ × Value)) (p q : enumeration.Path) → IsNoLater p q
    → AtMost (node_code (node number values p.found (nodes_from p.children))) (node_code (node number values q.found (nodes_from q.children)))
order_code number values p q less = subst (λ l. AtMost (number ∷ p.found ++ l) (number ∷ q.found ++ nodes_code (nodes_from q.children)))
    (sym (nodes_code_from p.children)) (subst (λ l. AtMost (number ∷ p.found ++ codes p.children) (number ∷ q.found ++ l)) (sym (nodes_code_from q.children))
    (front (by less.order)))
  where
    by : Lower p.found q.found ⊎ ((p.found ≡ q.found) × AtMost (codes p.children) (codes q.children))
        → AtMost (p.found ++ codes p.children) (q.found ++ codes q.children)
    by (inl l) = inr (lower_append p.found q.found (codes p.children) (codes q.children) l)
    by (inr e) = at_most_append p.found q.found (codes p.children) (codes q.children) (inl e.0) e.1

    front : AtMost (p.found ++ codes p.children) (q.found ++ codes q.children)
        → AtMost (number ∷ p.found ++ codes p.children) (number ∷ q.found ++ codes q.children)
    front (inl e) = inl (ap (λ l. number ∷ l) e)
    front (inr l) = inr (inr (refl, l))

-- where a tree with a rule leads, by the rule
rule_phrase : (s : Setting) (number : ℕ) (rule : Rule) (values : List (ℕ × Value)) (found : List ℕ) (children : Nodes) (asked : Test) (at end : At)
    → rule_with s.grammar number ≡ Some rule → phrase_of s (node number values found children) asked at ≡ Some end
    → phrase s rule values found (phrases_of s children) asked at ≡ Some end
rule_phrase s number rule values found children asked at end has h =
    sym (ap (option_and_then (λ r. phrase s r values found (phrases_of s children) asked at)) has) ∙ h

pub instance_trees : (s : Setting) (asked : Test) (at : At) (number : ℕ) (rule : Rule) (values : List (ℕ × Value)) (paths : List Path)
    (before after : List Outcome) → rule_with s.grammar number ≡ Some rule → may_begin s rule asked values ≡ true
    → AreReached s values rule.body (opened rule values at) (map path_of paths) → HasEnded number rule values at.list paths before after
    → HasTrees s asked at (IsOfInstance number values) before after
instance_trees s asked at number rule values paths before after has may reached ended = record {
  sound = λ o m. elim (ended.sound o m) [ inl k ↦ inl k | inr k ↦ inr (is_outcome o k.0 k.1 k.2) ];
  kept = ended.kept;
  new = λ n end of led. covered n end of.0 of.1 of.2 led;
}
  where
    is_outcome : (o : Outcome) (p : Path) → Among paths p → IsEnded number rule values at.list (path_of p) o → IsOutcome s asked at o
    is_outcome o p m is =
        let last : enumeration.Path = path_of p in
        let led : phrase_of s (node number values last.found (nodes_from last.children)) asked at
        ≡ Some (record { place = last.at.place; list = list_after rule.closing at.list last.at.list }) =
        way_leads s asked at number rule values last has may (reached.sound last (among_map path_of paths p m)) in
        let grows = node_parallel s (node number values last.found (nodes_from last.children)) asked at.place at.list at.list
        (record { place = last.at.place; list = list_after rule.closing at.list last.at.list }) refl led in
        let list_is : list_after rule.closing at.list last.at.list ≡ at.list ++ o.tail =
        after_is rule at.list last.at.list grows.0 grows.1 ∙ ap (λ t. at.list ++ t) (sym is.tail) in
        record {
          led = ap (λ n. phrase_of s n asked at) is.tree ∙ led ∙ ap (λ l. Some (record { place = last.at.place; list = l })) list_is
              ∙ ap (λ x. Some (record { place = x; list = at.list ++ o.tail })) (sym is.place);
          coded = is.coded;
        }

    covered : (n : Node) (end : At) (found : List ℕ) (children : Nodes) → n ≡ node number values found children → phrase_of s n asked at ≡ Some end
        → Covers after at.list end (node_code n)
    covered n end found children is led =
        let here : phrase_of s (node number values found children) asked at ≡ Some end = subst (λ m. phrase_of s m asked at ≡ Some end) is led in
        let way : Way s asked at end rule values found children =
        way_of s asked at end rule values found children (rule_phrase s number rule values found children asked at end has here) in
        let one = reached.least way.last way.steps in
        let from : Mapped path_of paths one.0 = from_map path_of paths one.0 one.1 in
        let p : Path = from.from in
        let less : IsNoLater (path_of p) way.last = subst (λ x. IsNoLater x way.last) from.is one.2 in
        let held = ended.new p from.among in
        let o : Outcome = held.0 in
        let grows = node_parallel s (node number values found children) asked at.place at.list at.list end refl here in
        let last_list : end.list ≡ list_after rule.closing at.list p.list =
        ap (λ (a : At). a.list) way.ends ∙ ap (λ (a : At). list_after rule.closing at.list a.list) (sym less.at) in
        let list_is : end.list ≡ at.list ++ o.tail =
        last_list ∙ after_is rule at.list p.list grows.0 (sym last_list ∙ grows.1) ∙ ap (λ t. at.list ++ t) (sym held.3) in
        let place_is : end.place ≡ o.place = ap (λ (a : At). a.place) way.ends ∙ ap (λ (a : At). a.place) (sym less.at) ∙ sym held.2 in
        let code : AtMost o.code (node_code (node number values way.last.found (nodes_from way.last.children))) =
        at_most_trans o.code (node_code (node number values (path_of p).found (nodes_from (path_of p).children)))
        (node_code (node number values way.last.found (nodes_from way.last.children))) held.4 (order_code number values (path_of p) way.last less) in
        let node_is : node number values way.last.found (nodes_from way.last.children) ≡ n =
        ap (λ f. node number values f (nodes_from way.last.children)) way.found_is ∙ ap (node number values found) way.children_is ∙ sym is in (
          o,
          held.1,
          ap (λ l. record { place = end.place; list = l }) list_is ∙ ap (λ x. record { place = x; list = at.list ++ o.tail }) place_is,
          subst (λ m. AtMost o.code (node_code m)) node_is code,
        )

-- values by which no tree begins
pub no_trees : (s : Setting) (asked : Test) (at : At) (number : ℕ) (rule : Rule) (values : List (ℕ × Value)) (outcomes : List Outcome)
    → rule_with s.grammar number ≡ Some rule → may_begin s rule asked values ≡ false → HasTrees s asked at (IsOfInstance number values) outcomes outcomes
no_trees s asked at number rule values outcomes has may = record {
  sound = λ o m. inl m;
  kept = λ o m. holds_itself outcomes o m;
  new = λ n end of led. absurd (never n end of.0 of.1 of.2 led);
}
  where
    true_false : true ≡ false → ⊥
    true_false w = cc

    never : (n : Node) (end : At) (found : List ℕ) (children : Nodes) → n ≡ node number values found children → phrase_of s n asked at ≡ Some end → ⊥
    never n end found children is led =
        let way : Way s asked at end rule values found children =
        way_of s asked at end rule values found children
        (rule_phrase s number rule values found children asked at end has (subst (λ m. phrase_of s m asked at ≡ Some end) is led)) in
        true_false (sym (and_from _ _ way.fit way.instance) ∙ may)

-- one instance after another

pub trees_none : (s : Setting) (asked : Test) (at : At) (number : ℕ) (outcomes : List Outcome) → HasTrees s asked at (IsOfInstances number []) outcomes outcomes
trees_none s asked at number outcomes = record { sound = λ o m. inl m; kept = λ o m. holds_itself outcomes o m; new = λ n end of led. absurd of.1 }

trees_then : (s : Setting) (asked : Test) (at : At) (P Q : Node → Type 0) (first before after : List Outcome) → HasTrees s asked at P first before
    → HasTrees s asked at Q before after → HasTrees s asked at (λ n. P n ⊎ Q n) first after
trees_then s asked at P Q first before after a b = record {
  sound = λ o m. elim (b.sound o m) [ inl k ↦ a.sound o k | inr k ↦ inr k ];
  kept = keeps_then first before after a.kept b.kept;
  new = λ n end of led. by n end of led;
}
  where
    by : (n : Node) (end : At) → P n ⊎ Q n → phrase_of s n asked at ≡ Some end → Covers after at.list end (node_code n)
    by n end (inl p) led = covers_kept before after at.list end (node_code n) b.kept (a.new n end p led)
    by n end (inr q) led = b.new n end q led

pub trees_turn : (s : Setting) (asked : Test) (at : At) (number : ℕ) (instances : List (List (ℕ × Value))) (i : ℕ) (values seen : List (ℕ × Value))
    (first before after : List Outcome) → i < length instances → values ≡ get_or instances i values → seen ≡ values
    → HasTrees s asked at (IsOfInstances number (take i instances)) first before → HasTrees s asked at (IsOfInstance number seen) before after
    → HasTrees s asked at (IsOfInstances number (take (i + 1) instances)) first after
trees_turn s asked at number instances i values seen first before after lt is same a b =
    let both = trees_then s asked at (IsOfInstances number (take i instances)) (IsOfInstance number seen) first before after a b in
    record {
      sound = both.sound;
      kept = both.kept;
      new = λ n end of led. both.new n end
          (by n of.0 (one_front (take i instances) values of.0 (subst (λ l. OneOf l of.0) (take_get_or instances i values lt is) of.1)) of.2) led;
    }
  where
    by : (n : Node) (v : List (ℕ × Value)) → OneOf (take i instances) v ⊎ (values ≡ v) → IsOfInstance number v n
        → IsOfInstances number (take i instances) n ⊎ IsOfInstance number seen n
    by n v (inl m) h = inl (v, m, h)
    by n v (inr e) h = inr (subst (λ w. IsOfInstance number w n) (sym (same ∙ e)) h)

pub trees_done : (s : Setting) (asked : Test) (at : At) (number : ℕ) (instances : List (List (ℕ × Value))) (i : ℕ) (first after : List Outcome)
    → length instances ≤ i → HasTrees s asked at (IsOfInstances number (take i instances)) first after
    → HasTrees s asked at (IsOfInstances number instances) first after
trees_done s asked at number instances i first after le h = subst (λ l. HasTrees s asked at (IsOfInstances number l) first after) (take_all i instances le) h

-- all instances of a rule that lead somewhere are all its trees
pub rule_trees : (s : Setting) (asked : Test) (place : ℕ) (list : List Entry) (number : ℕ) (rule : Rule) (known : List (ℕ × Value))
    (instances seen : List (List (ℕ × Value))) (before after : List Outcome) → rule_with s.grammar number ≡ Some rule → known ≡ asked.values → seen ≡ instances
    → HasInstances s rule known (record { place = place; list = list }) instances
    → HasTrees s asked (record { place = place; list = list }) (IsOfInstances number seen) before after
    → HasTrees s asked (record { place = place; list = list }) (IsOfRule number) before after
rule_trees s asked place list number rule known instances seen before after has known_is seen_is all trees = record {
  sound = trees.sound;
  kept = trees.kept;
  new = λ n end of led. trees.new n end (of.0, found_in n end of.0 of.1.0 of.1.1 of.1.2 led, of.1) led;
}
  where
    at : At
    at = record { place = place; list = list }

    found_in : (n : Node) (end : At) (values : List (ℕ × Value)) (found : List ℕ) (children : Nodes) → n ≡ node number values found children
        → phrase_of s n asked (record { place = place; list = list }) ≡ Some end → OneOf seen values
    found_in n end values found children is led =
        let here = rule_phrase s number rule values found children asked (record { place = place; list = list }) end has
        (subst (λ m. phrase_of s m asked (record { place = place; list = list }) ≡ Some end) is led) in
        let leads : RuleLeads s rule values asked (record { place = place; list = list }) end =
        phrase_leads s rule values found children asked (record { place = place; list = list }) end here in
        subst (λ l. OneOf l values) (sym seen_is)
        (all values leads.last leads.instance (agrees_known known rule values asked leads.head (λ p o. subst (λ l. OneOf l p) known_is o)) leads.path)

-- a rule with another name has no trees
pub other_trees : (s : Setting) (asked : Test) (at : At) (number : ℕ) (rule : Rule) (outcomes : List Outcome) → rule_with s.grammar number ≡ Some rule
    → (rule.head.name ≡ asked.name → ⊥) → HasTrees s asked at (IsOfRule number) outcomes outcomes
other_trees s asked at number rule outcomes has other = record {
  sound = λ o m. inl m;
  kept = λ o m. holds_itself outcomes o m;
  new = λ n end of led. absurd (never n end of.0 of.1.0 of.1.1 of.1.2 led);
}
  where
    never : (n : Node) (end : At) (values : List (ℕ × Value)) (found : List ℕ) (children : Nodes) → n ≡ node number values found children
        → phrase_of s n asked at ≡ Some end → ⊥
    never n end values found children is led =
        let way : Way s asked at end rule values found children =
        way_of s asked at end rule values found children
        (rule_phrase s number rule values found children asked at end has (subst (λ m. phrase_of s m asked at ≡ Some end) is led)) in
        other (fits_name (under values rule.head) asked way.fit)

-- one rule after another

pub up_to_none : (s : Setting) (asked : Test) (at : At) (outcomes : List Outcome) → outcomes ≡ [] → HasTreesUpTo s asked at 0 outcomes
up_to_none s asked at outcomes e = record {
  sound = λ o m. absurd (subst (λ l. Among l o) e m);
  least = λ number n end le of led. none_some (sym (no_rule number of.0 of.1.0 of.1.1 le) ∙ ap (λ m. phrase_of s m asked at) (sym of.1.2) ∙ led);
}
  where
    no_rule : (number : ℕ) (values : List (ℕ × Value)) (found : List ℕ) (children : Nodes) → number ≤ 0
        → phrase_of s (node number values found children) asked at ≡ None
    no_rule zero values found children le = refl
    no_rule (suc n) values found children le = absurd (omega arith)

pub up_to_turn : (s : Setting) (asked : Test) (at : At) (i number : ℕ) (before after : List Outcome) → number ≡ i + 1 → HasTreesUpTo s asked at i before
    → HasTrees s asked at (IsOfRule number) before after → HasTreesUpTo s asked at (i + 1) after
up_to_turn s asked at i number before after next a b = record {
  sound = λ o m. elim (b.sound o m) [ inl k ↦ a.sound o k | inr k ↦ k ];
  least = λ k n end le of led. by k n end le of led (nat_lt i k) refl;
}
  where
    by : (k : ℕ) (n : Node) (end : At) → k ≤ i + 1 → IsOfRule k n → phrase_of s n asked at ≡ Some end → (t : Bool) → nat_lt i k ≡ t
        → Covers after at.list end (node_code n)
    by k n end le of led true t =
        let lt : i < k = grind (arith, nat_tests) in
        let same : k ≡ number = omega arith in
        b.new n end (subst (λ m. IsOfRule m n) same of) led
    by k n end le of led false t =
        let below : k ≤ i = grind (arith, nat_tests) in
        covers_kept before after at.list end (node_code n) b.kept (a.least k n end below of led)

pub up_to_done : (s : Setting) (asked : Test) (at : At) (i : ℕ) (rules : List Rule) (outcomes : List Outcome) → rules ≡ s.grammar.rules → length rules ≤ i
    → HasTreesUpTo s asked at i outcomes → IsBest s asked at outcomes
up_to_done s asked at i rules outcomes same le h = record { sound = h.sound; least = λ n end led. least n end led }
  where
    all : length s.grammar.rules ≤ i
    all = subst (λ (l : List Rule). length l ≤ i) same le

    by : (number : ℕ) (values : List (ℕ × Value)) (found : List ℕ) (children : Nodes) (end : At) (r : Option Rule) → rule_with s.grammar number ≡ r
        → phrase_of s (node number values found children) asked at ≡ Some end
        → option_and_then (λ rule. phrase s rule values found (phrases_of s children) asked at) r ≡ Some end
        → Covers outcomes at.list end (node_code (node number values found children))
    by number values found children end None e led k = none_some k
    by number values found children end (Some rule) e led k =
        let le_rules = rule_number s number rule e in
        let le_all = all in
        let below : number ≤ i = omega arith in
        h.least number (node number values found children) end below (values, (found, children, refl)) led

    least : (n : Node) (end : At) → phrase_of s n asked at ≡ Some end → Covers outcomes at.list end (node_code n)
    least (node number values found children) end led = by number values found children end (rule_with s.grammar number) refl led led
