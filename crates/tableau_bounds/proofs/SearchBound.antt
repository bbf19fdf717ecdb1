-- A search over branches that each step takes further, up to a bound, ends.
use Rattle.std.proofs.Common.{◌≡◌, ℕ, zero, suc, ◌+◌, ◌-◌, ◌*◌, ◌^◌, ◌<◌, ◌≤◌, Bool, true, false, List, [], ◌∷◌, ◌++◌, Option, Some, None, cond, refl, sym, ap, ◌∙◌, subst, arith, pow-suc}
use Rattle.std.specs.Prelude.{nat_lt, is_some}
use Rattle.std.specs.Option.{option_and_then, option_map_or}
use Rattle.std.proofs.lemmas.Bool.{ltb-true, ltb-false}
use Rattle.std.proofs.lemmas.Option.{same_Some}
use Rattle.logic_terms.specs.Theory.{Theory}
use Rattle.tableau_rules.specs.declared.step.Step.{Step}
use Rattle.tableau_rules.specs.Graph.{Graph}
use Rattle.tableau_rules.specs.Clashes.{has_clash}
use Rattle.tableau_rules.specs.Rules.{first_step, applies, choices, after}
use Rattle.tableau_rules.specs.Branches.{start, IsBranch, begun, stepped}
use Rattle.tableau_rules.specs.Searching.{OpenChoice, Searching, begun_search, remaining, resumed, open_choices, next_search, searched, IsLonger}
use Rattle.tableau_bounds.proofs.FirstApplies.{first_applies}
use Rattle.tableau_bounds.proofs.Powers.{power_pos, power_up, one_share, fewer_shares}

-- how many applications an open choice and a search have left at most, where a branch at the rank r has at most b^(d - r)
abbrev pub choice_left : (Graph → ℕ) → ℕ → ℕ → OpenChoice → ℕ
choice_left rank b d o = (choices o.graph o.step - o.next) * b ^ (d - (rank o.graph + 1))

abbrev pub waiting_left : (Graph → ℕ) → ℕ → ℕ → List OpenChoice → ℕ
waiting_left rank b d [] = 0
waiting_left rank b d (o ∷ os) = choice_left rank b d o + waiting_left rank b d os

abbrev pub search_left : (Graph → ℕ) → ℕ → ℕ → Searching → ℕ
search_left rank b d s = b ^ (d - rank s.graph) + waiting_left rank b d s.waiting

-- an open choice is one of a step that applies at a branch of the knowledge
abbrev pub IsOpenAt : Theory → OpenChoice → Type 0
IsOpenAt k o = IsBranch k o.graph × (applies k o.graph o.step ≡ true) × (o.next < choices o.graph o.step)

abbrev pub EachOpen : Theory → List OpenChoice → Type 0
EachOpen k [] = Unit {0}
EachOpen k (o ∷ os) = IsOpenAt k o × EachOpen k os

abbrev pub IsReady : Theory → Searching → Type 0
IsReady k s = IsBranch k s.graph × EachOpen k s.waiting

-- the bounds: the rank of each branch is at most d, each step that applies raises it, and has fewer than b choices
pub record IsRanked (k : Theory) (rank : Graph → ℕ) (b d : ℕ) : Type 0 where
  pub base : 0 < b
  pub most : (g : Graph) → IsBranch k g → rank g ≤ d
  pub rises : (g : Graph) (s : Step) (n : ℕ) → IsBranch k g → applies k g s ≡ true → n < choices g s → rank g < rank (after k g s n)
  pub few : (g : Graph) (s : Step) → IsBranch k g → applies k g s ≡ true → choices g s < b

module _ (k : Theory) (rank : Graph → ℕ) (b d : ℕ) (ranked : IsRanked k rank b d) where
  -- what is left of the choices of a step from one on, before others
  from_choice : (g : Graph) (step : Step) (n : ℕ) (others : List OpenChoice) (t : Bool) → nat_lt n (choices g step) ≡ t → IsBranch k g → applies k g step ≡ true
      → EachOpen k others →
      (let o : OpenChoice = record { graph = g; step = step; next = n } in
      EachOpen k (cond t (o ∷ []) [] ++ others)
      × (waiting_left rank b d (cond t (o ∷ []) [] ++ others) ≤ choice_left rank b d o + waiting_left rank b d others))
  from_choice g step n others true is branch there each = (
    ((branch, there, ltb-true n (choices g step) is), each),
    same (choice_left rank b d (record { graph = g; step = step; next = n }) + waiting_left rank b d others),
  )
    where
      same : (x : ℕ) → x ≤ x
      same x = omega arith
  from_choice g step n others false is branch there each =
      (each, more (choice_left rank b d (record { graph = g; step = step; next = n })) (waiting_left rank b d others))
    where
      more : (x y : ℕ) → y ≤ x + y
      more x y = omega arith

  resumed_less : (os : List OpenChoice) (s : Searching) → EachOpen k os → resumed k os ≡ Some s
      → IsReady k s × (search_left rank b d s ≤ waiting_left rank b d os)
  resumed_less [] s each h = cc
  resumed_less (o ∷ others) s each h =
      let t : Searching = record {
        graph = after k o.graph o.step o.next;
        waiting = remaining (record { graph = o.graph; step = o.step; next = o.next + 1 }) ++ others;
      } in
      let same : t ≡ s = same_Some t s h in
      let rest = from_choice o.graph o.step (o.next + 1) others (nat_lt (o.next + 1) (choices o.graph o.step)) refl each.0.0 each.0.1 each.1 in
      let up : rank o.graph < rank (after k o.graph o.step o.next) = ranked.rises o.graph o.step o.next each.0.0 each.0.1 each.0.2 in
      let low : b ^ (d - rank (after k o.graph o.step o.next)) ≤ b ^ (d - (rank o.graph + 1)) =
      power_up b (d - rank (after k o.graph o.step o.next)) (d - (rank o.graph + 1)) ranked.base
      (less d (rank o.graph) (rank (after k o.graph o.step o.next)) up) in
      let share = one_share (choices o.graph o.step) o.next (b ^ (d - (rank o.graph + 1))) each.0.2 in
      subst (λ z. IsReady k z × (search_left rank b d z ≤ waiting_left rank b d (o ∷ others))) same (
        (stepped o.graph o.step o.next each.0.0 each.0.1 each.0.2, rest.0),
        sum (b ^ (d - rank t.graph)) (b ^ (d - (rank o.graph + 1))) (waiting_left rank b d t.waiting)
            ((choices o.graph o.step - (o.next + 1)) * b ^ (d - (rank o.graph + 1))) (waiting_left rank b d others) (choice_left rank b d o) low rest.1 share,
      )
    where
      less : (d r q : ℕ) → r < q → d - q ≤ d - (r + 1)
      less d r q lt = omega arith

      sum : (a p w c o all : ℕ) → a ≤ p → w ≤ c + o → p + c ≡ all → a + w ≤ all + o
      sum a p w c o all low rest share = omega arith

  choices_less : (g : Graph) (step : Step) (t : Bool) → nat_lt 0 (choices g step) ≡ t → IsBranch k g → applies k g step ≡ true
      → (choices g step - 0) * b ^ (d - (rank g + 1)) < b ^ (d - rank g)
  choices_less g step true is branch there =
      let up : rank g < rank (after k g step 0) = ranked.rises g step 0 branch there (ltb-true 0 (choices g step) is) in
      let top : rank (after k g step 0) ≤ d = ranked.most (after k g step 0) (stepped g step 0 branch there (ltb-true 0 (choices g step) is)) in
      let next : b ^ (d - rank g) ≡ b ^ (d - (rank g + 1)) * b =
      ap (λ z. b ^ z) (one d (rank g) (rank (after k g step 0)) up top) ∙ pow-suc b (d - (rank g + 1)) in
      subst (λ z. (choices g step - 0) * b ^ (d - (rank g + 1)) < z) (sym next)
      (fewer_shares (choices g step - 0) b (b ^ (d - (rank g + 1))) (below (choices g step) b (ranked.few g step branch there))
      (power_pos b (d - (rank g + 1)) ranked.base))
    where
      one : (d r q : ℕ) → r < q → q ≤ d → d - r ≡ suc (d - (r + 1))
      one d r q up top = omega arith

      below : (c b : ℕ) → c < b → c - 0 < b
      below c b lt = omega arith
  choices_less g step false is branch there =
      let none : choices g step - 0 ≡ 0 = nothing (choices g step) is in
      subst (λ z. z * b ^ (d - (rank g + 1)) < b ^ (d - rank g)) (sym none)
      (subst (λ z. z < b ^ (d - rank g)) (sym (zero_times (b ^ (d - (rank g + 1))))) (power_pos b (d - rank g) ranked.base))
    where
      nothing : (c : ℕ) → nat_lt 0 c ≡ false → c - 0 ≡ 0
      nothing c h = let le : c ≤ 0 = ltb-false 0 c h in omega arith

      zero_times : (p : ℕ) → 0 * p ≡ 0
      zero_times p = omega arith

  opened_less : (s : Searching) (os : List OpenChoice) → IsReady k s → open_choices k s ≡ Some os
      → EachOpen k os × (waiting_left rank b d os < search_left rank b d s)
  opened_less s os ready h = go (has_clash k s.graph) h
    where
      stepping : (o : Option Step) → first_step k s.graph ≡ o
          → option_map_or (λ step. Some (remaining (record { graph = s.graph; step = step; next = 0 }) ++ s.waiting)) o None ≡ Some os
          → EachOpen k os × (waiting_left rank b d os < search_left rank b d s)
      stepping None is e = cc
      stepping (Some step) is e =
          let there : applies k s.graph step ≡ true = first_applies k s.graph step is in
          let rest = from_choice s.graph step 0 s.waiting (nat_lt 0 (choices s.graph step)) refl ready.0 there ready.1 in
          let same = same_Some (remaining (record { graph = s.graph; step = step; next = 0 }) ++ s.waiting) os e in
          let least = choices_less s.graph step (nat_lt 0 (choices s.graph step)) refl ready.0 there in
          subst (λ z. EachOpen k z × (waiting_left rank b d z < search_left rank b d s)) same (
            rest.0,
            sum (waiting_left rank b d (remaining (record { graph = s.graph; step = step; next = 0 }) ++ s.waiting))
                ((choices s.graph step - 0) * b ^ (d - (rank s.graph + 1))) (waiting_left rank b d s.waiting) (b ^ (d - rank s.graph)) rest.1 least,
          )
        where
          sum : (x c w p : ℕ) → x ≤ c + w → c < p → x < p + w
          sum x c w p le lt = omega arith

      go : (t : Bool) → cond t (Some s.waiting)
          (option_map_or (λ step. Some (remaining (record { graph = s.graph; step = step; next = 0 }) ++ s.waiting)) (first_step k s.graph) None) ≡ Some os
          → EachOpen k os × (waiting_left rank b d os < search_left rank b d s)
      go true e =
          let same : s.waiting ≡ os = same_Some s.waiting os e in
          subst (λ z. EachOpen k z × (waiting_left rank b d z < search_left rank b d s)) same
          (ready.1, more (b ^ (d - rank s.graph)) (waiting_left rank b d s.waiting) (power_pos b (d - rank s.graph) ranked.base))
        where
          more : (p w : ℕ) → 0 < p → w < p + w
          more p w pos = omega arith
      go false e = stepping (first_step k s.graph) refl e

  next_less : (s t : Searching) → IsReady k s → next_search k s ≡ Some t → IsReady k t × (search_left rank b d t < search_left rank b d s)
  next_less s t ready h = go (open_choices k s) refl h
    where
      less : (x y z : ℕ) → x ≤ y → y < z → x < z
      less x y z le lt = omega arith

      go : (o : Option (List OpenChoice)) → open_choices k s ≡ o → option_and_then (resumed k) o ≡ Some t
          → IsReady k t × (search_left rank b d t < search_left rank b d s)
      go None is e = cc
      go (Some os) is e =
          let opened = opened_less s os ready is in
          let again = resumed_less os t opened.0 e in
          (again.0, less (search_left rank b d t) (waiting_left rank b d os) (search_left rank b d s) again.1 opened.1)

  searched_less : (n : ℕ) (s : Searching) → searched k n ≡ Some s → IsReady k s × (search_left rank b d s + n ≤ b ^ d)
  searched_less zero s h =
      let same : begun_search k ≡ s = same_Some (begun_search k) s h in
      subst (λ z. IsReady k z × (search_left rank b d z + zero ≤ b ^ d)) same
      ((begun, tt), first (b ^ (d - rank (start k))) (b ^ d) (power_up b (d - rank (start k)) d ranked.base (less d (rank (start k)))))
    where
      less : (d r : ℕ) → d - r ≤ d
      less d r = omega arith

      first : (x y : ℕ) → x ≤ y → (x + 0) + zero ≤ y
      first x y le = omega arith
  searched_less (suc n) s h = go (searched k n) refl h (searched_less n)
    where
      more : (x y n p : ℕ) → x < y → y + n ≤ p → x + suc n ≤ p
      more x y n p lt le = omega arith

      go : (o : Option Searching) → searched k n ≡ o → option_and_then (next_search k) o ≡ Some s
          → ((before : Searching) → searched k n ≡ Some before → IsReady k before × (search_left rank b d before + n ≤ b ^ d))
          → IsReady k s × (search_left rank b d s + suc n ≤ b ^ d)
      go None is e earlier = cc
      go (Some before) is e earlier =
          let old = earlier before is in
          let new = next_less before s old.0 e in
          (new.0, more (search_left rank b d s) (search_left rank b d before) n (b ^ d) new.1 old.1)

  -- a search that has not ended after so many applications has made fewer than b^d
  pub longer_less : (n : ℕ) → IsLonger k n → n < b ^ d
  longer_less n longer = go (searched k (suc n)) refl longer
    where
      less : (x n p : ℕ) → x + suc n ≤ p → n < p
      less x n p le = omega arith

      go : (o : Option Searching) → searched k (suc n) ≡ o → is_some o ≡ true → n < b ^ d
      go None is e = cc
      go (Some s) is e = less (search_left rank b d s) n (b ^ d) (searched_less (suc n) s is).1
