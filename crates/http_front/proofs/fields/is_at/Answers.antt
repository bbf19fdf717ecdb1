use Rattle.http_front.proofs.OriginLemmas.{host_tells, begins_otherwise}
use Rattle.http_front.proofs.fields.is_at.Goals as goal

pub returns-then-eq_ignore_ascii_case : goal.returns-then-eq_ignore_ascii_case
returns-then-eq_ignore_ascii_case c =
    host_tells c.args.scheme.now c.args.host.now c.args.origin.now c.split_at.result.0.now c.split_at.result.1.now c.split_at.ensures.front
    c.split_at.ensures.back c.eq_ignore_ascii_case-then-eq_ignore_ascii_case.result (c.eq_ignore_ascii_case.ensures.test.0 c.if-eq_ignore_ascii_case.true)
    c.eq_ignore_ascii_case-then-eq_ignore_ascii_case.ensures.test

pub returns-else-eq_ignore_ascii_case : goal.returns-else-eq_ignore_ascii_case
returns-else-eq_ignore_ascii_case c =
    begins_otherwise c.args.scheme.now c.args.host.now c.args.origin.now c.split_at.result.0.now c.split_at.result.1.now c.split_at.ensures.front
    c.split_at.ensures.back c.eq_ignore_ascii_case.result c.if-eq_ignore_ascii_case.false c.eq_ignore_ascii_case.ensures.test
