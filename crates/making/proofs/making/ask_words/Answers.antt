use Rattle.std.proofs.Common.{◌<◌, arith}
use Rattle.generator.specs.Requests.{word_request, word_requests}
use Rattle.making.proofs.MakingLemmas.{leads-item}
use Rattle.making.proofs.making.ask_words.Goals as goal

pub loop-number-preserved : goal.loop-number-preserved
loop-number-preserved g c =
    let below : c.loop-number.number < 50 = omega arith in
    leads-item g.W.Machine.Steps _ word_requests _ word_request _ _ c.loop-number.number 50 c.in_ok-request.request _ _ below c.in_ok-request.ensures
    c.in_ok-summary.ensures c.loop-number.invariant
