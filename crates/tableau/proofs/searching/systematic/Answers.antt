use Rattle.std.proofs.Common.{[], length, Some, subst, sym, ap, ◌∙◌, arith}
use Rattle.std.specs.Prelude.{IfSome, IsTrue, is_some}
use Rattle.logic_terms.specs.Known.{theory_of}
use Rattle.tableau_rules.specs.Clashes.{is_clash, has_clash}
use Rattle.tableau_rules.specs.Shown.{graph_of}
use Rattle.tableau.specs.Turns.{IsTurn}
use Rattle.tableau.specs.Ways.{Leads, reached, chosen}
use Rattle.tableau.proofs.Stands.{after_calm, next_agenda, moved}
use Rattle.tableau.proofs.WayLemmas.{ends_at, cut_forward, cut_back, searched_on}
use Rattle.tableau.proofs.Within.{finished_within, shut_within}
use Rattle.tableau.proofs.searching.systematic.Goals as goal
use Rattle.tableau.proofs.searching.systematic.Goals.{in-Forward+in_ok-b-in-Forward+in_ok-note-in-Forward, in-Back+in_ok-b-in-Back+in_ok-agenda-in-Back}

pub returns-in-Finished-clause-finished : goal.returns-in-Finished-clause-finished
returns-in-Finished-clause-finished c =
    ends_at (theory_of c.args.k.now) c.loop-spent.way c.next_turn.new.way (graph_of c.loop-spent.b) c.in_ok-next_turn.field-0 c.loop-spent.invariant.leads
    c.loop-spent.invariant.here c.in_ok-next_turn.ensures.turn c.in-Finished.is

pub loop-spent-init : goal.loop-spent-init
loop-spent-init c =
    let k = theory_of c.args.k.now in
    record {
      leads = subst (Leads k) (sym c.new-way.ensures) tt;
      here = c.in_ok-b.ensures.exact ∙ ap (λ v. (reached k v).graph) (sym c.new-way.ensures);
      so_far = ap (λ v. Some (reached k v)) (sym c.new-way.ensures);
      agenda = c.in_ok-agenda.ensures k;
      exact = c.clash-found.ensures.exact;
      there = c.clash-found.ensures.there;
    }

pub loop-spent-preserved : goal.loop-spent-preserved
loop-spent-preserved c =
    let k = theory_of c.args.k.now in
    let s = reached k c.loop-spent.way in
    let new = c.next_turn.new.way in
    elim c.match-branch-4.branch [
      | in-Forward+in_ok-b-in-Forward+in_ok-note-in-Forward w ↦
          let turned = subst (IsTurn k s new) w.in-Forward.is c.in_ok-next_turn.ensures.turn in
          let later = w.in_ok-b-in-Forward.ensures.reached ∙ ap (chosen k (reached k new) w.in-Forward.step) (ap length w.new.ensures) in
          record {
            leads = subst (Leads k) (sym w.way'-is) w.in_ok-b-in-Forward.ensures.leads;
            here = ap graph_of w.b-is ∙ (w.in_ok-b-in-Forward.ensures.branch ∙ sym (ap (λ v. (reached k v).graph) w.way'-is));
            so_far = searched_on k c.loop-spent._spent s (chosen k (reached k new) w.in-Forward.step 0) (reached k c.match-branch-4.way')
                c.loop-spent.invariant.so_far turned.next
                (ap (reached k) w.way'-is ∙ later);
            agenda = moved k _ _ _ _ w.b-is w.agenda-is
                (next_agenda k s new w.in-Forward.step (graph_of c.loop-spent.b) _ _ c.next_turn.new.agenda w.note.new.self turned c.loop-spent.invariant.here
                later w.in_ok-b-in-Forward.ensures.branch (w.in_ok-note-in-Forward.ensures k) c.in_ok-next_turn.ensures.agenda);
            exact = ap is_some w.found-is
                ∙ (w.clash_after-found.ensures.exact
                (after_calm k (reached k new) w.in-Forward.step [] _ _ turned.choice later w.in_ok-b-in-Forward.ensures.branch)
                ∙ ap (λ b. has_clash k (graph_of b)) (sym w.b-is));
            there = subst (λ o. IfSome o (λ d. IsTrue (is_clash k (graph_of c.match-branch-4.b) d))) (sym w.found-is)
                (subst (λ b. IfSome w.clash_after-found.result (λ d. IsTrue (is_clash k (graph_of b) d))) (sym w.b-is) w.clash_after-found.ensures.there);
          }
      | in-Back+in_ok-b-in-Back+in_ok-agenda-in-Back w ↦
          let turned = subst (IsTurn k s new) w.in-Back.is c.in_ok-next_turn.ensures.turn in
          record {
            leads = subst (Leads k) (sym w.way'-is) w.in_ok-b-in-Back.ensures.leads;
            here = ap graph_of w.b-is ∙ (w.in_ok-b-in-Back.ensures.branch ∙ sym (ap (λ v. (reached k v).graph) w.way'-is));
            so_far = searched_on k c.loop-spent._spent s (chosen k (reached k new) w.in-Back.step (length w.in-Back.trees)) (reached k c.match-branch-4.way')
                c.loop-spent.invariant.so_far turned.next
                (ap (reached k) w.way'-is ∙ w.in_ok-b-in-Back.ensures.reached);
            agenda = moved k _ _ _ _ w.b-is w.agenda-is (w.in_ok-agenda-in-Back.ensures k);
            exact = ap is_some w.found-is
                ∙ (w.clash_after-found-in-Back.ensures.exact
                (after_calm k (reached k new) w.in-Back.step w.in-Back.trees _ _ turned.choice w.in_ok-b-in-Back.ensures.reached
                w.in_ok-b-in-Back.ensures.branch) ∙ ap (λ b. has_clash k (graph_of b)) (sym w.b-is));
            there = subst (λ o. IfSome o (λ d. IsTrue (is_clash k (graph_of c.match-branch-4.b) d))) (sym w.found-is)
                (subst (λ b. IfSome w.clash_after-found-in-Back.result (λ d. IsTrue (is_clash k (graph_of b) d))) (sym w.b-is)
                w.clash_after-found-in-Back.ensures.there);
          }
    ]

pub returns-in-Finished-2-clause-finished : goal.returns-in-Finished-2-clause-finished
returns-in-Finished-2-clause-finished c =
    ends_at (theory_of c.args.k.now) c.loop-spent.way c.next_turn-2.new.way (graph_of c.loop-spent.b) c.in_ok-next_turn-2.field-0 c.loop-spent.invariant.leads
    c.loop-spent.invariant.here c.in_ok-next_turn-2.ensures.turn c.in-Finished-2.is

pub returns-in-Forward-2-clause-spent : goal.returns-in-Forward-2-clause-spent
returns-in-Forward-2-clause-spent c =
    cut_forward (theory_of c.args.k.now) c.loop-spent._spent c.args.budget c.loop-spent.way c.next_turn-2.new.way (graph_of c.loop-spent.b)
    c.in_ok-next_turn-2.field-0 c.in-Forward-2.field-0 (omega arith) c.loop-spent.invariant.so_far c.loop-spent.invariant.here
    c.in_ok-next_turn-2.ensures.turn c.in-Forward-2.is

pub returns-clause-spent : goal.returns-clause-spent
returns-clause-spent c =
    cut_back (theory_of c.args.k.now) c.loop-spent._spent c.args.budget c.loop-spent.way c.next_turn-2.new.way (graph_of c.loop-spent.b)
    c.in_ok-next_turn-2.field-0 c.in-Back-2.field-0 c.in-Back-2.field-1 c.in-Back-2.field-2 (omega arith) c.loop-spent.invariant.so_far
    c.loop-spent.invariant.here c.in_ok-next_turn-2.ensures.turn c.in-Back-2.is

pub returns-in-Finished-clause-finished_within : goal.returns-in-Finished-clause-finished_within
returns-in-Finished-clause-finished_within c =
    finished_within (theory_of c.args.k.now) c.loop-spent._spent c.args.budget c.loop-spent.way c.next_turn.new.way c.in_ok-next_turn.field-0
    c.loop-spent.invariant.so_far c.in_ok-next_turn.ensures.turn (omega arith) c.in-Finished.is

pub returns-in-Finished-2-clause-finished_within : goal.returns-in-Finished-2-clause-finished_within
returns-in-Finished-2-clause-finished_within c =
    finished_within (theory_of c.args.k.now) c.loop-spent._spent c.args.budget c.loop-spent.way c.next_turn-2.new.way c.in_ok-next_turn-2.field-0
    c.loop-spent.invariant.so_far c.in_ok-next_turn-2.ensures.turn (omega arith) c.in-Finished-2.is

pub returns-in-Shut-clause-closed : goal.returns-in-Shut-clause-closed
returns-in-Shut-clause-closed c =
    let k = theory_of c.args.k.now in
    (subst (IsTurn k (reached k c.loop-spent.way) c.next_turn.new.way) c.in-Shut.is c.in_ok-next_turn.ensures.turn).0

pub returns-in-Shut-clause-closed_within : goal.returns-in-Shut-clause-closed_within
returns-in-Shut-clause-closed_within c =
    shut_within (theory_of c.args.k.now) c.loop-spent._spent c.args.budget c.loop-spent.way c.next_turn.new.way c.in_ok-next_turn.field-0
    c.loop-spent.invariant.so_far c.in_ok-next_turn.ensures.turn (omega arith) c.in-Shut.tree c.in-Shut.is

pub returns-in-Shut-2-clause-closed : goal.returns-in-Shut-2-clause-closed
returns-in-Shut-2-clause-closed c =
    let k = theory_of c.args.k.now in
    (subst (IsTurn k (reached k c.loop-spent.way) c.next_turn-2.new.way) c.in-Shut-2.is c.in_ok-next_turn-2.ensures.turn).0

pub returns-in-Shut-2-clause-closed_within : goal.returns-in-Shut-2-clause-closed_within
returns-in-Shut-2-clause-closed_within c =
    shut_within (theory_of c.args.k.now) c.loop-spent._spent c.args.budget c.loop-spent.way c.next_turn-2.new.way c.in_ok-next_turn-2.field-0
    c.loop-spent.invariant.so_far c.in_ok-next_turn-2.ensures.turn (omega arith) c.in-Shut-2.tree c.in-Shut-2.is
