use Rattle.std.proofs.Common.{◌∙◌, refl}
use Rattle.socket_link.proofs.SoundLemmas.{only_same, only_then}
use Rattle.socket_link.proofs.place.Place.write.Goals as goal

pub loop-init : goal.loop-init
loop-init g c = record { served = c.requires.served; others = only_same _ _ _ refl; closed = refl; due = refl; events = refl; listening = refl }

pub loop-preserved : goal.loop-preserved
loop-preserved g c =
    let before = c.loop.invariant in
    let after = c.write_some.ensures in
    record {
      served = after.served;
      others = only_then _ _ _ _ before.others after.others;
      closed = after.closed ∙ before.closed;
      due = after.due ∙ before.due;
      events = after.events ∙ before.events;
      listening = after.listening ∙ before.listening;
    }

pub returns-in-Nothing-clause-served : goal.returns-in-Nothing-clause-served
returns-in-Nothing-clause-served g c = c.write_some.ensures.served

pub returns-in-Nothing-clause-others : goal.returns-in-Nothing-clause-others
returns-in-Nothing-clause-others g c = only_then _ _ _ _ c.loop.invariant.others c.write_some.ensures.others

pub returns-in-End-clause-served : goal.returns-in-End-clause-served
returns-in-End-clause-served g c = c.write_some.ensures.served

pub returns-in-End-clause-others : goal.returns-in-End-clause-others
returns-in-End-clause-others g c = only_then _ _ _ _ c.loop.invariant.others c.write_some.ensures.others
