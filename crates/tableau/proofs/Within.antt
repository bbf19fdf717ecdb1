-- Where a search ends, no application is left within the budget.
use Rattle.std.proofs.Common.{◌≡◌, ℕ, zero, suc, ◌<◌, ◌≤◌, ◌++◌, false, List, Option, Some, None, refl, sym, ap, ◌∙◌, subst, inl, inr, arith}
use Rattle.std.specs.Prelude.{IsTrue, is_some, not}
use Rattle.std.specs.Option.{option_and_then, option_map_or}
use Rattle.std.proofs.lemmas.Bool.{cases_lt, and_parts, not-true, cond-false}
use Rattle.logic_terms.specs.Theory.{Theory}
use Rattle.tableau_rules.specs.declared.step.Closed.{Closed}
use Rattle.tableau_rules.specs.declared.step.Step.{Step}
use Rattle.tableau_rules.specs.Branches.{is_finished}
use Rattle.tableau_rules.specs.Clashes.{has_clash}
use Rattle.tableau_rules.specs.Rules.{first_step}
use Rattle.tableau_rules.specs.Searching.{Searching, remaining, resumed, next_search, searched, IsLonger}
use Rattle.tableau.specs.declared.turn.Turn.{Turn}
use Rattle.tableau.specs.declared.turn.Turn.TheVariants as turn
use Rattle.tableau.specs.declared.way.Taken.{Taken}
use Rattle.tableau.specs.Turns.{IsTurn}
use Rattle.tableau.specs.Ways.{choice_of, reached}

-- a search that has ended stays ended
stays_ended : (k : Theory) (n m : ℕ) → searched k n ≡ None → n ≤ m → searched k m ≡ None
stays_ended k n zero ended le = subst (λ i. searched k i ≡ None) (none n le) ended
  where
    none : (n : ℕ) → n ≤ zero → n ≡ zero
    none n le = omega arith
stays_ended k n (suc m) ended le = elim (cases_lt m n) [
  | inl past ↦ subst (λ i. searched k i ≡ None) (same n m past le) ended
  | inr before ↦ ap (option_and_then (next_search k)) (stays_ended k n m ended before)
]
  where
    same : (n m : ℕ) → m < n → n ≤ suc m → n ≡ suc m
    same n m past le = omega arith

-- where no application is left after at most so many, the search has ended within so many
ended_within : (k : Theory) (n budget : ℕ) (s : Searching) → searched k n ≡ Some s → next_search k s ≡ None → n ≤ budget → IsLonger k budget → ⊥
ended_within k n budget s at none le longer =
    let over : searched k (suc budget) ≡ None =
    stays_ended k (suc n) (suc budget) (ap (option_and_then (next_search k)) at ∙ none) (more n budget le) in
    let never = sym (ap is_some over) ∙ longer in cc
  where
    more : (n m : ℕ) → n ≤ m → suc n ≤ suc m
    more n m le = omega arith

-- none is left at a finished branch
finished_next : (k : Theory) (s : Searching) → IsTrue (is_finished k s.graph) → next_search k s ≡ None
finished_next k s done =
    let parts = and_parts (not (has_clash k s.graph)) (not (is_some (first_step k s.graph))) done in
    let opened : Option Step → Option (List _) = λ o. option_map_or (λ step. Some (remaining (choice_of s.graph step 0) ++ s.waiting)) o None in
    ap (option_and_then (resumed k))
    (cond-false (has_clash k s.graph) (Some s.waiting) (opened (first_step k s.graph)) (not-true (has_clash k s.graph) parts.0)
    ∙ ap opened (nothing (first_step k s.graph) (not-true (is_some (first_step k s.graph)) parts.1)))
  where
    nothing : (o : Option Step) → is_some o ≡ false → o ≡ None
    nothing None is = refl
    nothing (Some step) is = cc

module _ (k : Theory) (n budget : ℕ) (way new : List Taken) (t : Turn) (at : searched k n ≡ Some (reached k way)) (turned : IsTurn k (reached k way) new t)
    (le : n ≤ budget) where
  pub finished_within : t ≡ turn.Finished → IsLonger k budget → ⊥
  finished_within is =
      ended_within k n budget (reached k way) at (finished_next k (reached k way) (subst (IsTurn k (reached k way) new) is turned)) le

  pub shut_within : (tree : Closed) → t ≡ turn.Shut tree → IsLonger k budget → ⊥
  shut_within tree is = ended_within k n budget (reached k way) at (subst (IsTurn k (reached k way) new) is turned).1 le
