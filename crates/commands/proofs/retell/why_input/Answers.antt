use Rattle.std.proofs.Common.{ℕ, List, Option, subst}
use Rattle.std.specs.Prelude.{IfOk, option_map}
use Rattle.wiki_core.specs.Holding.{Holding}
use Rattle.commands.specs.Theorem.{IsWhy}
use Rattle.commands.proofs.RetellLemmas.{Retells-written, Retells-stopped, writes_not, no_read_end, no_link_end}
use Rattle.commands.proofs.StatusLemmas.{no_link_fault}
use Rattle.commands.proofs.retell.why_input.Goals as goal

pub returns-in-Done-clause-retells : goal.returns-in-Done-clause-retells
returns-in-Done-clause-retells g c =
    let asked = c.args.asked.now in
    let name : Option (List ℕ) = option_map (λ form. form.now) asked.name in
    Retells-written (IsWhy asked.budget asked.article.now asked.at name) _ _ _ _ _ _ _ _ c.why-text.result c.in-Done.is
    c.step_input.ensures.steps
    (subst (λ (wiki : Holding). IfOk c.why-text.result (IsWhy asked.budget asked.article.now asked.at name wiki)) c.inner.ensures
    c.why-text.ensures) c.write.ensures.ends

pub returns-in-Done-clause-read_fault : goal.returns-in-Done-clause-read_fault
returns-in-Done-clause-read_fault g c = λ is. absurd (no_read_end c.why-text.result _ _ (writes_not c.why-text.result _ _ _ _ c.write.ensures.ends is))

pub returns-in-Done-clause-link_fault : goal.returns-in-Done-clause-link_fault
returns-in-Done-clause-link_fault g c = λ is. no_link_end c.why-text.result _ _ (writes_not c.why-text.result _ _ _ _ c.write.ensures.ends is)

pub returns-in_default-clause-retells : goal.returns-in_default-clause-retells
returns-in_default-clause-retells g c =
    let asked = c.args.asked.now in
    Retells-stopped (IsWhy asked.budget asked.article.now asked.at (option_map (λ form. form.now) asked.name)) _ _ _ _ _ _ c.step_input.ensures.steps
    c.in_default.not-Done c.step_input.ensures.write_fault

pub returns-in_default-clause-write_fault : goal.returns-in_default-clause-write_fault
returns-in_default-clause-write_fault g c = λ is. absurd (c.step_input.ensures.write_fault is)

pub returns-in_default-clause-link_fault : goal.returns-in_default-clause-link_fault
returns-in_default-clause-link_fault g c = λ is. no_link_fault _ _ _ _ c.step_input.ensures.steps.reads is
