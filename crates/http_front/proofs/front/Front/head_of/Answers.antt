use Rattle.std.proofs.Common.{rules, ap, refl, take, Err}
use Rattle.httparse.specs.declared.Error.{Error}
use Rattle.httparse.specs.Spans.{IsRequestWithin, IsRequestOf}
use Rattle.httparse.specs.Grammar.{HasNoRequest, MayBecomeRequest}
use Rattle.http_front.proofs.HeadLemmas.{begins_whole, begins_part, begins_exceeds, of_complete, of_partial}
use Rattle.http_front.proofs.front.Front.head_of.Goals as goal

pub returns-in_ok-begun-in-Ok-Complete : goal.returns-in_ok-begun-in-Ok-Complete
returns-in_ok-begun-in-Ok-Complete c =
    let part = c.head_part-part.result.now in
    let headers = c.parse_request.new.headers in
    let whole = c.in-Ok-Complete in
    begins_whole c.args.bytes.now part c.of-method.result.now c.of-target.result.now headers (take whole.head.headers headers) whole.head
    c.in_ok-begun-in-Ok-Complete.begun
    c.head_part-part.ensures (search rules) refl c.of-method.ensures c.of-target.ensures
    (of_complete Error (IsRequestWithin part headers) whole.field-0 whole.head whole.field-0-is whole.ensures.within)
    (of_complete Error (IsRequestOf part headers) whole.field-0 whole.head whole.field-0-is whole.ensures.complete)
    c.in_ok-begun-in-Ok-Complete.ensures

pub returns-in-Err-TooManyHeaders : goal.returns-in-Err-TooManyHeaders
returns-in-Err-TooManyHeaders c =
    begins_exceeds c.args.bytes.now c.head_part-part.result.now c.refused.result
    c.head_part-part.ensures c.in-Err-TooManyHeaders.ensures.no_room (c.in-Err-TooManyHeaders.ensures.too_many (ap Err c.in-Err-TooManyHeaders.field-0-is))
    c.refused.ensures

pub returns-in-Ok-Partial : goal.returns-in-Ok-Partial
returns-in-Ok-Partial c =
    let part = c.head_part-part.result.now in
    let half = c.in-Ok-Partial in
    begins_part c.args.bytes.now part c.part_begun.result c.head_part-part.ensures
    (of_partial Error (HasNoRequest part) half.field-0 half.field-0-is half.ensures.partial)
    (of_partial Error (MayBecomeRequest part) half.field-0 half.field-0-is half.ensures.unfinished)
    c.part_begun.ensures.many c.part_begun.ensures.few
