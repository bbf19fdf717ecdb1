use Rattle.std.proofs.Common.{ℕ, List, ap, ◌∙◌}
use Rattle.derivation_trees.specs.Cutting.{shown}
use Rattle.wiki_store.proofs.StepLemmas.{adds-step, adds-spent}
use Rattle.wiki_store.proofs.base.Base.add_sentence.Goals as goal

pub returns-clause-does : goal.returns-clause-does
returns-clause-does c =
    adds-step c.args.self.now c.args.form.now c.in_ok-change.change c.in_ok-status.status c.put.new.self c.in_ok-status.ensures.made c.args.text.now
    c.in_ok-change.ensures.tokens c.args.given c.in_ok-change.ensures.from c.in_ok-change.ensures.to c.in_ok-shown.shown
    (c.in_ok-shown.ensures ∙ ap (λ (ts : List (List ℕ)). shown c.args.self.now.state.grammar.terminals ts) c.get.ensures)

pub returns-clause-spent : goal.returns-clause-spent
returns-clause-spent c =
    adds-spent c.args.self.now c.args.form.now c.in_ok-change.change c.in_ok-status.status c.put.new.self c.in_ok-status.ensures.made c.args.text.now
    c.in_ok-change.ensures.tokens c.args.given c.in_ok-change.ensures.from c.in_ok-change.ensures.to c.in_ok-shown.shown
