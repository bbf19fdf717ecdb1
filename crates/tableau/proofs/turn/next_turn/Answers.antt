use Rattle.std.proofs.Common.{◌≡◌, true, false, map, length, Some, sym, ap, subst, ◌∙◌}
use Rattle.std.specs.Prelude.{IfSome, IsTrue, is_some}
use Rattle.std.proofs.lemmas.Result.{IfOk-weaker}
use Rattle.logic_terms.specs.Known.{theory_of}
use Rattle.tableau_rules.specs.Branches.{IsBranch}
use Rattle.tableau_rules.specs.Clashes.{has_clash, is_clash}
use Rattle.tableau_rules.specs.Rules.{first_step, choices}
use Rattle.tableau_rules.specs.Shown.{graph_of}
use Rattle.tableau_rules.specs.Trees.{tree_of}
use Rattle.tableau.specs.Ways.{reached, CloseEach}
use Rattle.tableau.proofs.WayLemmas.{closes_step, closes_clash, waits_at_none, turns_back, leads_to_branch, open_clash}
use Rattle.tableau.proofs.turn.next_turn.Goals as goal

pub next-requires-clause-branch : goal.next-requires-clause-branch
next-requires-clause-branch c =
    let k = theory_of c.args.k.now in
    subst (IsBranch k) (sym c.requires.here) (leads_to_branch k c.args.way.now c.requires.leads)

pub returns-in-Some-first-clause-turn : goal.returns-in-Some-first-clause-turn
returns-in-Some-first-clause-turn c =
    let k = theory_of c.args.k.now in
    let s = reached k c.args.way.now in
    let step = c.in-Some-first.step in
    let calm : has_clash k s.graph ≡ false = ap (has_clash k) (sym c.requires.here) ∙ (sym c.requires.exact ∙ ap is_some c.in-None.is) in
    let first : first_step k s.graph ≡ Some step = ap (first_step k) (sym c.requires.here) ∙ (sym c.in_ok-first-in-None.ensures.first ∙ c.in-Some-first.is) in
    let told : c.choices.result ≡ choices (graph_of c.args.b.now) step = rw c.in-Some-first.is at c.choices.ensures in
    let none : choices s.graph step ≡ 0 = ap (λ g. choices g step) (sym c.requires.here) ∙ (sym told ∙ c.if-choices-eq0.true) in
    let each : CloseEach k s.graph step 0 (map tree_of c.new.result) = subst (λ ts. CloseEach k s.graph step 0 (map tree_of ts)) (sym c.new.ensures) tt in
    let shut = closes_step k s.graph step c.new.result first (ap length c.new.ensures ∙ sym none) each in
    let back = rw c.in-Some-first.is at c.back-in-Some-first.ensures in
    IfOk-weaker c.back-in-Some-first.result _ _ (λ t back. turns_back k s _ t (waits_at_none k s step calm first none) (back k c.requires.leads shut)) back

pub returns-in-Some-clause-turn : goal.returns-in-Some-clause-turn
returns-in-Some-clause-turn c =
    let k = theory_of c.args.k.now in
    let s = reached k c.args.way.now in
    let clash : has_clash k s.graph ≡ true = ap (has_clash k) (sym c.requires.here) ∙ (sym c.requires.exact ∙ ap is_some c.in-Some.is) in
    let here : IsTrue (is_clash k (graph_of c.args.b.now) c.in-Some.found) =
    subst (λ o. IfSome o (λ d. IsTrue (is_clash k (graph_of c.args.b.now) d))) c.in-Some.is c.requires.there in
    let there : IsTrue (is_clash k s.graph c.in-Some.found) = subst (λ g. IsTrue (is_clash k g c.in-Some.found)) c.requires.here here in
    let shut = closes_clash k s.graph c.in-Some.found there in
    IfOk-weaker c.back.result _ _ (λ t back. turns_back k s _ t (open_clash k s clash) (back k c.requires.leads shut)) c.back.ensures
