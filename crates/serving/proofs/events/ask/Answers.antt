use Rattle.serving.proofs.EventLemmas.{front_of_line, whole_line, same_response}
use Rattle.serving.proofs.events.ask.Goals as goal

pub returns-then-put-clause-done : goal.returns-then-put-clause-done
returns-then-put-clause-done g c =
    let told = c.in-Ok.ensures.answer in
    λ _. (
      told.0,
      told.1,
      whole_line c.put.result _ _ _ _ _ c.if-put.true c.as_bytes-line.ensures.value told.2 c.put.ensures.all,
      same_response _ _ _ _ _ _ _ _ c.as_bytes-response.ensures.value told.3 c.answer.ensures.delivers,
    )

pub returns-clause-journal : goal.returns-clause-journal
returns-clause-journal g c =
    let told = c.in-Ok.ensures.answer in
    λ _. (told.0, told.1, front_of_line _ _ _ _ _ c.as_bytes-line.ensures.value told.2 c.put.ensures.prefix)

pub returns-clause-journal_fault : goal.returns-clause-journal_fault
returns-clause-journal_fault g c = λ _. rw c.if-put.false at c.put.ensures.failed
