use Rattle.std.proofs.Common.{◌+◌, map, arith}
use Rattle.drs_build.specs.Order.{span_of}
use Rattle.drs_build.proofs.OrderLemmas.{leads_up, terminal_leads, preterminal_leads, child_leads, childless_leads, position_leads, opener_leads, reference_leads, absence_leads}
use Rattle.drs_build.proofs.nodes.+introduced_at.Goals as goal

pub overflow_add-place : goal.overflow_add-place
overflow_add-place t c = omega (
  arith,
  leads_up c.in-Some.rest.now (c.args.place + 1) (map span_of c.args.children.now) c.args.end
      (terminal_leads c.args.body.now c.in-Some.rest.now c.in-Some.element.now c.in-Terminal.field-0 c.args.place (map span_of c.args.children.now) c.args.end
      c.requires c.in-Some.ensures.cases.0 c.in-Terminal.is),
  c.ranges.end.fits,
)

pub introduced_at-requires : goal.introduced_at-requires
introduced_at-requires t c = (
  omega (arith, c.in-Some.ensures.cases.1),
  terminal_leads c.args.body.now c.in-Some.rest.now c.in-Some.element.now c.in-Terminal.field-0 c.args.place (map span_of c.args.children.now) c.args.end
      c.requires c.in-Some.ensures.cases.0 c.in-Terminal.is,
)

pub overflow_add-place-in-Preterminal : goal.overflow_add-place-in-Preterminal
overflow_add-place-in-Preterminal t c = omega (
  arith,
  leads_up c.in-Some.rest.now (c.args.place + 1) (map span_of c.args.children.now) c.args.end
      (preterminal_leads c.args.body.now c.in-Some.rest.now c.in-Some.element.now c.in-Preterminal.field-0 c.args.place (map span_of c.args.children.now)
      c.args.end c.requires c.in-Some.ensures.cases.0 c.in-Preterminal.is),
  c.ranges.end.fits,
)

pub introduced_at-requires-in-Preterminal : goal.introduced_at-requires-in-Preterminal
introduced_at-requires-in-Preterminal t c = (
  omega (arith, c.in-Some.ensures.cases.1),
  preterminal_leads c.args.body.now c.in-Some.rest.now c.in-Some.element.now c.in-Preterminal.field-0 c.args.place (map span_of c.args.children.now)
      c.args.end c.requires c.in-Some.ensures.cases.0 c.in-Preterminal.is,
)

pub introduced_at-requires-in-Some-split_first : goal.introduced_at-requires-in-Some-split_first
introduced_at-requires-in-Some-split_first t c = (
  omega (arith, c.in-Some.ensures.cases.1),
  child_leads c.args.body.now c.in-Some.rest.now c.in-Some.element.now c.in-Sub.field-0 c.args.place c.args.children.now c.in-Some-split_first.others.now
      c.in-Some-split_first.child.now c.args.end c.requires c.in-Some.ensures.cases.0 c.in-Sub.is c.in-Some-split_first.ensures.cases.0,
)

pub introduced_at-requires-in-None : goal.introduced_at-requires-in-None
introduced_at-requires-in-None t c = (
  omega (arith, c.in-Some.ensures.cases.1),
  childless_leads c.args.body.now c.in-Some.rest.now c.in-Some.element.now c.in-Sub.field-0 c.args.place c.args.children.now c.args.end c.requires
      c.in-Some.ensures.cases.0 c.in-Sub.is c.in-None.ensures.cases,
)

pub introduced_at-requires-in-Position : goal.introduced_at-requires-in-Position
introduced_at-requires-in-Position t c = (
  omega (arith, c.in-Some.ensures.cases.1),
  position_leads c.args.body.now c.in-Some.rest.now c.in-Some.element.now c.in-Position.field-0 c.args.place (map span_of c.args.children.now) c.args.end
      c.requires c.in-Some.ensures.cases.0 c.in-Position.is,
)

pub introduced_at-requires-in-Opener : goal.introduced_at-requires-in-Opener
introduced_at-requires-in-Opener t c = (
  omega (arith, c.in-Some.ensures.cases.1),
  opener_leads c.args.body.now c.in-Some.rest.now c.in-Some.element.now c.args.place (map span_of c.args.children.now) c.args.end c.requires
      c.in-Some.ensures.cases.0 c.in-Opener.is,
)

pub introduced_at-requires-in-Back : goal.introduced_at-requires-in-Back
introduced_at-requires-in-Back t c = (
  omega (arith, c.in-Some.ensures.cases.1),
  reference_leads c.args.body.now c.in-Some.rest.now c.in-Some.element.now c.in-Back.field-0 c.in-Back.field-1 c.args.place (map span_of c.args.children.now)
      c.args.end c.requires c.in-Some.ensures.cases.0 c.in-Back.is,
)

pub introduced_at-requires-in-NoBack : goal.introduced_at-requires-in-NoBack
introduced_at-requires-in-NoBack t c = (
  omega (arith, c.in-Some.ensures.cases.1),
  absence_leads c.args.body.now c.in-Some.rest.now c.in-Some.element.now c.in-NoBack.field-0 c.args.place (map span_of c.args.children.now) c.args.end
      c.requires c.in-Some.ensures.cases.0 c.in-NoBack.is,
)
