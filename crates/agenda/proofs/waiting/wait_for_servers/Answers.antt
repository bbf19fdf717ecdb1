use Rattle.std.proofs.Common.{arith}
use Rattle.logic_terms.specs.Known.{theory_of}
use Rattle.tableau_rules.specs.Shown.{graph_of}
use Rattle.agenda.specs.Views.{is_listed}
use Rattle.agenda.proofs.Waits.{places_more, places_all}
use Rattle.agenda.proofs.waiting.wait_for_servers.Goals as goal

pub loop-place-preserved : goal.loop-place-preserved
loop-place-preserved c = record {
  more = λ z x h. c.in_ok-wait_for_server.ensures.more z x (c.loop-place.invariant.more z x h);
  so_far = places_more (theory_of c.args.k.now) (graph_of c.args.b.now) (is_listed c.loop-place.waiting.items) (is_listed c.wait_for_server.new.waiting.items)
      c.args.node c.loop-place.place c.in_ok-wait_for_server.ensures.more c.loop-place.invariant.so_far c.in_ok-wait_for_server.ensures.there;
}

pub returns-clause-there : goal.returns-clause-there
returns-clause-there c =
    places_all (theory_of c.args.k.now) (graph_of c.args.b.now) (is_listed c.loop-place.waiting.items) c.args.node c.loop-place.place
    (omega (arith, c.label_len-place-end.ensures, c.loop-place-test.false)) c.loop-place.invariant.so_far
