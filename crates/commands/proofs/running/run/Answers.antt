use Rattle.std.proofs.Common.{subst, ℕ, List}
use Rattle.commands.specs.Theorem.{stream, told_at_end, Tells}
use Rattle.commands.proofs.StandingLemmas.{holds_of_runs}
use Rattle.commands.proofs.running.run.Goals as goal

pub returns : goal.returns
returns g c =
    let sink = g.E.Sink in
    let performed = c.perform-performed.result in
    record {
      theorem = record {
        outcome = performed.outcome;
        remarks = performed.remarks;
        performs = c.perform-performed.ensures.performs;
        status_is = c.end.ensures.status;
        told =
            subst
            (λ (remarks : List ℕ). Tells (told_at_end performed.outcome remarks) (stream sink.taken sink.faults c.args.errors.now)
            (stream sink.taken sink.faults c.end.new.errors))
            c.as_slice.ensures c.end.ensures.words;
        of_runs = holds_of_runs;
      };
    }
