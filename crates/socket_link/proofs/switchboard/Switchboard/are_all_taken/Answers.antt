use Rattle.std.proofs.Common.{arith}
use Rattle.socket_link.proofs.SoundLemmas.{taken_more}
use Rattle.socket_link.proofs.switchboard.Switchboard.are_all_taken.Goals as goal

pub loop-number-init : goal.loop-number-init
loop-number-init g c = λ n below. absurd (omega (arith, below))

pub loop-number-preserved : goal.loop-number-preserved
loop-number-preserved g c = taken_more c.args.self.now.places.items c.loop-number.number c.loop-number.invariant c.in-Some._place.now c.in-Some.ensures

pub returns : goal.returns
returns g c = λ _ n below. c.loop-number.invariant n (omega (arith, below, c.loop-number-test.false))
