use Rattle.std.proofs.Common.{◌≡◌, ◌<◌, ◌%◌, arith, ap, ◌∙◌}
use Rattle.generator.specs.Drawn.{next_draw}
use Rattle.generator.specs.Requests.{sentence_of_kind}
use Rattle.making.proofs.MakingLemmas.{leads-sentence}
use Rattle.making.proofs.making.add_sentences.Goals as goal

pub loop-number-preserved : goal.loop-number-preserved
loop-number-preserved g c =
    let below : c.loop-number.number < c.args.count = omega arith in
    let two : c.next_draw-two.result ≡ next_draw (next_draw c.loop-number.draw) = c.next_draw-two.ensures.value ∙ ap next_draw c.next_draw-one.ensures.value in
    let three : c.next_draw-draw.result ≡ next_draw (next_draw (next_draw c.loop-number.draw)) = c.next_draw-draw.ensures.value ∙ ap next_draw two in
    record {
      leads = leads-sentence g.W.Machine.Steps _ _ _ _ _ c.loop-number.number c.args.count c.loop-number.draw c.next_draw-draw.result c.in_ok-request.request _
          _ below three (c.in_ok-request.ensures
          ∙ ap (λ x. sentence_of_kind (c.loop-number.number % 5) x c.next_draw-two.result c.next_draw-draw.result) c.next_draw-one.ensures.value
          ∙ ap (λ x. sentence_of_kind (c.loop-number.number % 5) (next_draw c.loop-number.draw) x c.next_draw-draw.result) two) c.in_ok-summary.ensures
          c.loop-number.invariant.leads;
      below = c.next_draw-draw.ensures.below;
    }
