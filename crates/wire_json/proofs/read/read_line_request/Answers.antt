use Rattle.std.proofs.Common.{arith, sym, ◌∙◌}
use Rattle.std.proofs.lemmas.Bool.{false≢true}
use Rattle.serde_json.specs.Errors.{IsMemory}
use Rattle.wire_json.proofs.LineLemmas.{line_request_of_read, line_request_of_unread}
use Rattle.wire_json.proofs.read.read_line_request.Goals as goal

pub returns-in-Ok : goal.returns-in-Ok
returns-in-Ok c =
    let reads = c.in-Ok.ensures.ok in
    rw (line_request_of_read c.args.line.now _ (omega arith) reads.0 reads.1) c.line_request_from.ensures

pub returns-in-Err-2 : goal.returns-in-Err-2
returns-in-Err-2 c =
    let other = λ (m : IsMemory c.in-Err.error). absurd (false≢true (sym c.if-is_memory.false ∙ c.is_memory.ensures.1 m)) in
    sym (line_request_of_unread c.args.line.now (omega arith) (c.in-Err.ensures.err other))
