-- The way of a search, one choice further and one choice back.
use Rattle.std.proofs.Common.{◌≡◌, ℕ, zero, suc, ◌+◌, ◌<◌, ◌≤◌, ◌==◌, true, false, List, [], ◌∷◌, ◌++◌, map, length, Option, Some, None, refl, sym, ap, ◌∙◌, subst, inl, inr, arith, length-append}
use Rattle.std.specs.Prelude.{nat_lt, is_some, IsTrue, not, ◌⊎◌}
use Rattle.std.specs.Option.{option_and_then, option_map, option_map_or, option_or}
use Rattle.std.proofs.lemmas.Bool.{and_from, cond-true, cond-false, lt-ltb, le-ltb, eq-eqb, not_from_false}
use Rattle.std.proofs.lemmas.List.{map_push}
use Rattle.wiki_base.proofs.ListLaws.{length_mapped}
use Rattle.closure_check.proofs.TreeLaws.{tree_of-Clash, tree_of-Step}
use Rattle.logic_terms.specs.Theory.{Theory}
use Rattle.tableau_rules.specs.declared.branch.Branch.{Branch}
use Rattle.tableau_rules.specs.declared.step.Step.{Step}
use Rattle.tableau_rules.specs.declared.step.Rule.{Rule}
use Rattle.tableau_rules.specs.declared.step.Rule.TheVariants as rule
use Rattle.tableau_rules.specs.declared.step.Clash.{Clash}
use Rattle.tableau_rules.specs.declared.step.Closed.{Closed}
use Rattle.tableau_rules.specs.declared.step.Closed.TheVariants as closed
use Rattle.tableau_rules.specs.Graph.{Graph}
use Rattle.tableau_rules.specs.First.{first_below}
use Rattle.tableau_rules.specs.Clashes.{is_clash, has_clash}
use Rattle.tableau_rules.specs.Rules.{site_at, first_at, first_by, first_step, applies, choices, after}
use Rattle.tableau_rules.specs.Branches.{IsBranch, begun, stepped, is_finished}
use Rattle.tableau_rules.specs.Searching.{OpenChoice, Searching, begun_search, remaining, resumed, open_choices, next_search, searched}
use Rattle.tableau_rules.specs.Shown.{graph_of}
use Rattle.tableau_rules.specs.Trees.{Tree, trees_from, tree_of, closes, close_from, is_closed}
use Rattle.tableau.specs.declared.way.Taken.{Taken}
use Rattle.tableau.specs.declared.turn.Turn.{Turn}
use Rattle.tableau.specs.declared.turn.Turn.TheVariants as turn
use Rattle.tableau.specs.Ends.{IsEnd, IsCutAt}
use Rattle.tableau.specs.Turns.{IsNext, IsTurn, IsLast, IsBack}
use Rattle.tableau.specs.Ways.{choice_of, chosen, led, reached, CloseEach, IsOpen, IsKept, IsWay, Leads}

-- the first applicable step applies
module _ (k : Theory) (g : Graph) where
  from_or : {X : Type 0} (a b : Option X) (x : X) → option_or a b ≡ Some x → (a ≡ Some x) ⊎ (b ≡ Some x)
  from_or None b x h = inr h
  from_or (Some y) b x h = inl h

  found_below : {X : Type 0} (n : ℕ) (f : ℕ → Option X) (x : X) → first_below n f ≡ Some x → (m : ℕ) × (f m ≡ Some x)
  found_below zero f x h = cc
  found_below (suc n) f x h = elim (from_or (first_below n f) (f n) x h) [
    | inl before ↦ found_below n f x before
    | inr here ↦ (n, here)
  ]

  some_same : {X : Type 0} (a b : X) → Some a ≡ Some b → a ≡ b
  some_same a b e = cc

  found_site : (r : Rule) (x place : ℕ) (s : Step) (o : Option ℕ) → site_at k g r x place ≡ o
      → option_map (λ y. record { rule = r; node = x; class = place; other = y }) o ≡ Some s → applies k g s ≡ true
  found_site r x place s None at h = cc
  found_site r x place s (Some y) at h =
      let t : Step = record { rule = r; node = x; class = place; other = y } in
      let same : t ≡ s = some_same t s h in
      subst (λ q. applies k g q ≡ true) same (ap (λ o. option_map_or (λ z. z == y) o false) at ∙ eq-eqb y y refl)

  found_by : (r : Rule) (s : Step) → first_by k g r ≡ Some s → applies k g s ≡ true
  found_by r s h =
      let node = found_below (length g.nodes) (first_at k g r) s h in
      let place = found_below (length (Rattle.tableau_rules.specs.Graph.label_at g node.0))
      (λ place. option_map (λ y. record { rule = r; node = node.0; class = place; other = y }) (site_at k g r node.0 place)) s node.1 in
      found_site r node.0 place.0 s (site_at k g r node.0 place.0) refl place.1

  pub first_applies : (s : Step) → first_step k g ≡ Some s → applies k g s ≡ true
  first_applies s h = elim (from_or (first_by k g rule.And) _ s h) [
    | inl a ↦ found_by rule.And s a
    | inr h1 ↦ elim (from_or (first_by k g rule.Unfold) _ s h1) [
      | inl a ↦ found_by rule.Unfold s a
      | inr h2 ↦ elim (from_or (first_by k g rule.All) _ s h2) [
        | inl a ↦ found_by rule.All s a
        | inr h3 ↦ elim (from_or (first_by k g rule.Trans) _ s h3) [
          | inl a ↦ found_by rule.Trans s a
          | inr h4 ↦ elim (from_or (first_by k g rule.Value) _ s h4) [
            | inl a ↦ found_by rule.Value s a
            | inr h5 ↦ elim (from_or (first_by k g rule.Unit) _ s h5) [
              | inl a ↦ found_by rule.Unit s a
              | inr h6 ↦ elim (from_or (first_by k g rule.Or) _ s h6) [
                | inl a ↦ found_by rule.Or s a
                | inr a ↦ found_by rule.Some s a
              ]
            ]
          ]
        ]
      ]
    ]
  ]

-- one tree more closes one choice more
each_push : (k : Theory) (g : Graph) (step : Step) (n m : ℕ) (ts : List Tree) (t : Tree) → n + length ts ≡ m → CloseEach k g step n ts
    → closes k (after k g step m) t ≡ true → CloseEach k g step n (ts ++ t ∷ [])
each_push k g step n m [] t sum each here =
    let same : m ≡ n = omega (arith, sum) in
    (subst (λ i. closes k (after k g step i) t ≡ true) same here, tt)
each_push k g step n m (u ∷ ts) t sum each here =
    let sum' : (n + 1) + length ts ≡ m = omega (arith, sum) in
    (each.0, each_push k g step (n + 1) m ts t sum' each.1 here)

-- trees of all choices close the branch
each_from : (k : Theory) (g : Graph) (step : Step) (n : ℕ) (ts : List Tree) → n + length ts ≡ choices g step → CloseEach k g step n ts
    → close_from k g step n (trees_from ts) ≡ true
each_from k g step n [] sum each = eq-eqb n (choices g step) (omega (arith, sum))
each_from k g step n (t ∷ ts) sum each =
    let sum' : (n + 1) + length ts ≡ choices g step = omega (arith, sum) in
    and_from (closes k (after k g step n) t) (close_from k g step (n + 1) (trees_from ts)) each.0 (each_from k g step (n + 1) ts sum' each.1)

pub closes_clash : (k : Theory) (g : Graph) (clash : Clash) → IsTrue (is_clash k g clash) → closes k g (tree_of (closed.Clash clash)) ≡ true
closes_clash k g clash there = ap (closes k g) (tree_of-Clash clash) ∙ there

pub closes_step : (k : Theory) (g : Graph) (step : Step) (ts : List Closed) → first_step k g ≡ Some step → length ts ≡ choices g step
    → CloseEach k g step 0 (map tree_of ts) → closes k g (tree_of (closed.Step step ts)) ≡ true
closes_step k g step ts first count each =
    let sum : 0 + length (map tree_of ts) ≡ choices g step = omega (arith, length_mapped tree_of ts, count) in
    ap (closes k g) (tree_of-Step step ts)
    ∙ and_from (applies k g step) (close_from k g step 0 (trees_from (map tree_of ts))) (first_applies k g step first)
    (each_from k g step 0 (map tree_of ts) sum each)

-- what is left open behind a choice
remaining_there : (o : OpenChoice) → o.next < choices o.graph o.step → remaining o ≡ o ∷ []
remaining_there o lt = cond-true (nat_lt o.next (choices o.graph o.step)) (o ∷ []) [] (lt-ltb o.next (choices o.graph o.step) lt)

remaining_none : (o : OpenChoice) → choices o.graph o.step ≤ o.next → remaining o ≡ []
remaining_none o le = cond-false (nat_lt o.next (choices o.graph o.step)) (o ∷ []) [] (le-ltb o.next (choices o.graph o.step) le)

pub open_clash : (k : Theory) (s : Searching) → has_clash k s.graph ≡ true → open_choices k s ≡ Some s.waiting
open_clash k s clash = cond-true (has_clash k s.graph) (Some s.waiting) _ clash

open_first : (k : Theory) (s : Searching) (step : Step) → has_clash k s.graph ≡ false → first_step k s.graph ≡ Some step
    → open_choices k s ≡ Some (remaining (choice_of s.graph step 0) ++ s.waiting)
open_first k s step calm first =
    cond-false (has_clash k s.graph) (Some s.waiting)
    (option_map_or (λ step. Some (remaining (choice_of s.graph step 0) ++ s.waiting)) (first_step k s.graph) None) calm
    ∙ ap (λ o. option_map_or (λ step. Some (remaining (choice_of s.graph step 0) ++ s.waiting)) o None) first

pub waits_at_none : (k : Theory) (s : Searching) (step : Step) → has_clash k s.graph ≡ false → first_step k s.graph ≡ Some step → choices s.graph step ≡ 0
    → open_choices k s ≡ Some s.waiting
waits_at_none k s step calm first none =
    open_first k s step calm first ∙ ap (λ r. Some (r ++ s.waiting)) (remaining_none (choice_of s.graph step 0) (omega (arith, none)))

-- the next application takes the first open choice
takes : (k : Theory) (s h : Searching) (step : Step) (n : ℕ) → open_choices k s ≡ Some (choice_of h.graph step n ∷ h.waiting)
    → next_search k s ≡ Some (chosen k h step n)
takes k s h step n behind = ap (option_and_then (resumed k)) behind

-- the way, one choice further
led_push : (k : Theory) (s : Searching) (ts : List Taken) (t : Taken) → led k s (ts ++ t ∷ []) ≡ chosen k (led k s ts) t.step (length t.trees)
led_push k s [] t = refl
led_push k s (u ∷ ts) t = led_push k (chosen k s u.step (length u.trees)) ts t

way_push : (k : Theory) (s : Searching) (ts : List Taken) (t : Taken) → IsWay k s ts → IsOpen k (led k s ts) t.step t.trees
    → IsKept (led k s ts).graph t.step (length t.trees) t.kept → IsWay k s (ts ++ t ∷ [])
way_push k s [] t way choice kept = (choice, (kept, tt))
way_push k s (u ∷ ts) t way choice kept = (way.0, (way.1.0, way_push k (chosen k s u.step (length u.trees)) ts t way.1.1 choice kept))

pub kept_at : (g h : Graph) (step : Step) (n m : ℕ) (o : Option Branch) → g ≡ h → n ≡ m → IsKept g step n o → IsKept h step m o
kept_at g h step n m o same number kept = subst (λ i. IsKept h step i o) number (subst (λ i. IsKept i step n o) same kept)

-- and one choice back
record IsLastOf (k : Theory) (s : Searching) (ts : List Taken) (t : Taken) : Type 0 where
  way : IsWay k s ts
  choice : IsOpen k (led k s ts) t.step t.trees
  kept : IsKept (led k s ts).graph t.step (length t.trees) t.kept

way_pop : (k : Theory) (s : Searching) (ts : List Taken) (t : Taken) → IsWay k s (ts ++ t ∷ []) → IsLastOf k s ts t
way_pop k s [] t way = record { way = tt; choice = way.0; kept = way.1.0 }
way_pop k s (u ∷ ts) t way =
    let last = way_pop k (chosen k s u.step (length u.trees)) ts t way.1.1 in
    record { way = (way.0, (way.1.0, last.way)); choice = last.choice; kept = last.kept }

way_branch : (k : Theory) (s : Searching) (ts : List Taken) → IsWay k s ts → IsBranch k s.graph → IsBranch k (led k s ts).graph
way_branch k s [] way b = b
way_branch k s (t ∷ ts) way b =
    way_branch k (chosen k s t.step (length t.trees)) ts way.1.1
    (stepped s.graph t.step (length t.trees) b (first_applies k s.graph t.step way.0.first) way.0.there)

pub leads_to_branch : (k : Theory) (ts : List Taken) → Leads k ts → IsBranch k (reached k ts).graph
leads_to_branch k ts leads = way_branch k (begun_search k) ts leads begun

pub reached_push : (k : Theory) (ts us : List Taken) (t : Taken) → us ≡ ts ++ t ∷ [] → reached k us ≡ chosen k (reached k ts) t.step (length t.trees)
reached_push k ts us t grown = ap (reached k) grown ∙ led_push k (begun_search k) ts t

pub leads_push : (k : Theory) (ts us : List Taken) (t : Taken) → us ≡ ts ++ t ∷ [] → Leads k ts → IsOpen k (reached k ts) t.step t.trees
    → IsKept (reached k ts).graph t.step (length t.trees) t.kept → Leads k us
leads_push k ts us t grown leads choice kept = subst (Leads k) (sym grown) (way_push k (begun_search k) ts t leads choice kept)

-- on the way back: a tree closes the branch at the end of the way, and the waiting choices are as they were
pub record IsShut (k : Theory) (waiting : List OpenChoice) (way : List Taken) (tree : Closed) : Type 0 where
  pub leads : Leads k way
  pub shut : closes k (reached k way).graph (tree_of tree) ≡ true
  pub same : waiting ≡ (reached k way).waiting

pub begins_shut : (k : Theory) (way : List Taken) (tree : Closed) → Leads k way → closes k (reached k way).graph (tree_of tree) ≡ true
    → IsShut k (reached k way).waiting way tree
begins_shut k way tree leads shut = record { leads = leads; shut = shut; same = refl }

pub ends_shut : (k : Theory) (waiting : List OpenChoice) (way : List Taken) (tree : Closed) → way ≡ [] → IsShut k waiting way tree
    → IsTrue (is_closed k (tree_of tree)) × (waiting ≡ [])
ends_shut k waiting way tree none shut =
    (subst (λ w. closes k (reached k w).graph (tree_of tree) ≡ true) none shut.shut, shut.same ∙ ap (λ w. (reached k w).waiting) none)

module _ (k : Theory) (waiting : List OpenChoice) (old new : List Taken) (t : Taken) (tree : Closed) (trees : List Closed) (popped : old ≡ new ++ t ∷ [])
    (grown : trees ≡ t.trees ++ tree ∷ []) (shut : IsShut k waiting old tree) where
  last : IsLastOf k (begun_search k) new t
  last = way_pop k (begun_search k) new t (subst (Leads k) popped shut.leads)

  before : reached k old ≡ chosen k (reached k new) t.step (length t.trees)
  before = reached_push k new old t popped

  count : length trees ≡ length t.trees + 1
  count = ap length grown ∙ length-append t.trees (tree ∷ [])

  tried : CloseEach k (reached k new).graph t.step 0 (map tree_of trees)
  tried =
      let sum : 0 + length (map tree_of t.trees) ≡ length t.trees = omega (arith, length_mapped tree_of t.trees) in
      subst (CloseEach k (reached k new).graph t.step 0) (sym (ap (map tree_of) grown ∙ map_push tree_of t.trees tree))
      (each_push k (reached k new).graph t.step 0 (length t.trees) (map tree_of t.trees) (tree_of tree) sum last.choice.tried
      (sym (ap (λ s. closes k s.graph (tree_of tree)) before) ∙ shut.shut))

  kept_as : (o : Option Branch) → t.kept ≡ o → IsKept (reached k new).graph t.step (length t.trees) o
  kept_as o e = subst (IsKept (reached k new).graph t.step (length t.trees)) e last.kept

  pub goes_on : t.kept ≡ None → IsShut k waiting new (closed.Step t.step trees)
  goes_on none =
      let all : length trees ≡ choices (reached k new).graph t.step = omega (arith, count, kept_as None none, last.choice.there) in
      record {
        leads = last.way;
        shut = closes_step k (reached k new).graph t.step trees last.choice.first all tried;
        same = shut.same ∙ (ap (λ s. s.waiting) before
            ∙ ap (λ r. r ++ (reached k new).waiting) (remaining_none (choice_of (reached k new).graph t.step (length t.trees + 1)) (kept_as None none)));
      }

  pub goes_back : (b : Branch) → t.kept ≡ Some b → IsLast k waiting new t.step trees (graph_of b)
  goes_back b some =
      let kept = kept_as (Some b) some in
      let there : length trees < choices (reached k new).graph t.step = omega (arith, count, kept.0) in
      record {
        leads = last.way;
        choice = record { calm = last.choice.calm; first = last.choice.first; there = there; tried = tried };
        before = kept.1;
        first =
            shut.same
            ∙ (ap (λ s. s.waiting) before
            ∙ (ap (λ r. r ++ (reached k new).waiting) (remaining_there (choice_of (reached k new).graph t.step (length t.trees + 1)) kept.0)
            ∙ ap (λ n. choice_of (reached k new).graph t.step n ∷ (reached k new).waiting) (sym count)));
      }

-- turns
pub turns_back : (k : Theory) (s : Searching) (way : List Taken) (t : Turn) → open_choices k s ≡ Some s.waiting → IsBack k s.waiting way t → IsTurn k s way t
turns_back k s way turn.Finished at back = absurd back
turns_back k s way (turn.Shut tree) at back = (back.0, ap (option_and_then (resumed k)) (at ∙ ap Some back.1))
turns_back k s way (turn.Forward step) at back = absurd back
turns_back k s way (turn.Back step trees b) at back = record {
  leads = back.leads;
  choice = back.choice;
  before = back.before;
  next = takes k s (reached k way) step (length trees) (at ∙ ap Some back.first);
}

pub turns_forward : (k : Theory) (way : List Taken) (step : Step) → Leads k way → has_clash k (reached k way).graph ≡ false
    → first_step k (reached k way).graph ≡ Some step → 0 < choices (reached k way).graph step → IsNext k (reached k way) way step [] (reached k way).graph
turns_forward k way step leads calm first there = record {
  leads = leads;
  choice = record { calm = calm; first = first; there = there; tried = tt };
  before = refl;
  next = takes k (reached k way) (reached k way) step 0
      (open_first k (reached k way) step calm first
      ∙ ap (λ r. Some (r ++ (reached k way).waiting)) (remaining_there (choice_of (reached k way).graph step 0) there));
}

pub finished_from : (k : Theory) (g : Graph) → has_clash k g ≡ false → first_step k g ≡ None → IsTrue (is_finished k g)
finished_from k g calm done =
    and_from (not (has_clash k g)) (not (is_some (first_step k g))) (not_from_false (has_clash k g) calm) (ap (λ o. not (is_some o)) done)

-- the search, one application further
pub searched_on : (k : Theory) (n : ℕ) (s t u : Searching) → searched k n ≡ Some s → next_search k s ≡ Some t → u ≡ t → searched k (n + 1) ≡ Some u
searched_on k n s t u at next same =
    ap (searched k) (one n) ∙ (ap (option_and_then (next_search k)) at ∙ (next ∙ ap Some (sym same)))
  where
    one : (n : ℕ) → n + 1 ≡ suc n
    one n = omega arith

pub cut_at : (k : Theory) (n : ℕ) (s t : Searching) (g : Graph) → searched k n ≡ Some s → next_search k s ≡ Some t → g ≡ s.graph → IsCutAt k n g
cut_at k n s t g at next here = record {
  longer = ap (λ o. is_some (option_and_then (next_search k) o)) at ∙ ap is_some next;
  last = (s, at, sym here);
}

-- ends
pub ends_at : (k : Theory) (way new : List Taken) (g : Graph) (t : Turn) → Leads k way → g ≡ (reached k way).graph → IsTurn k (reached k way) new t
    → t ≡ turn.Finished → IsEnd k g
ends_at k way new g t leads here turned is = record {
  branch = subst (IsBranch k) (sym here) (leads_to_branch k way leads);
  finished = subst (λ h. IsTrue (is_finished k h)) (sym here) (subst (IsTurn k (reached k way) new) is turned);
}

pub cut_forward : (k : Theory) (n m : ℕ) (way new : List Taken) (g : Graph) (t : Turn) (step : Step) → n ≡ m → searched k n ≡ Some (reached k way)
    → g ≡ (reached k way).graph → IsTurn k (reached k way) new t → t ≡ turn.Forward step → IsCutAt k m g
cut_forward k n m way new g t step same at here turned is =
    let next : IsNext k (reached k way) new step [] (reached k way).graph = subst (IsTurn k (reached k way) new) is turned in
    subst (λ i. IsCutAt k i g) same (cut_at k n (reached k way) (chosen k (reached k new) step 0) g at next.next here)

pub cut_back : (k : Theory) (n m : ℕ) (way new : List Taken) (g : Graph) (t : Turn) (step : Step) (trees : List Closed) (b : Branch) → n ≡ m
    → searched k n ≡ Some (reached k way) → g ≡ (reached k way).graph → IsTurn k (reached k way) new t → t ≡ turn.Back step trees b → IsCutAt k m g
cut_back k n m way new g t step trees b same at here turned is =
    let next : IsNext k (reached k way) new step trees (graph_of b) = subst (IsTurn k (reached k way) new) is turned in
    subst (λ i. IsCutAt k i g) same (cut_at k n (reached k way) (chosen k (reached k new) step (length trees)) g at next.next here)
