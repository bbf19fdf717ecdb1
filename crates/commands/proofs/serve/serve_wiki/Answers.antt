use Rattle.std.proofs.Common.{refl}
use Rattle.commands.proofs.ServeLemmas.{Serves-stopped, Serves-link, ends_input}
use Rattle.commands.proofs.serve.serve_wiki.Goals as goal

pub returns-in-Done-clause-serves : goal.returns-in-Done-clause-serves
returns-in-Done-clause-serves g c = Serves-link _ _ c.args.address.now _ _ _ _ _ c.in-Done.is c.step_input.ensures.steps _
    c.into_wiki-wiki.ensures c.serve_link.ensures.serves

pub returns-in-Done-clause-read_fault : goal.returns-in-Done-clause-read_fault
returns-in-Done-clause-read_fault g c = λ is. absurd (c.serve_link.ensures.read_fault is)

pub returns-in_default-clause-serves : goal.returns-in_default-clause-serves
returns-in_default-clause-serves g c =
    let input = c.step_input.ensures.steps in
    Serves-stopped _ _ _ _ _ _ _ input
    (ends_input c.step_input.result _ _ _ input.reads.ends c.in_default.not-Done c.step_input.ensures.write_fault) refl refl

pub returns-in_default-clause-write_fault : goal.returns-in_default-clause-write_fault
returns-in_default-clause-write_fault g c = λ is. absurd (c.step_input.ensures.write_fault is)
