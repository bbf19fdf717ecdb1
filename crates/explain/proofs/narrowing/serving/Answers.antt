use Rattle.std.proofs.Common.{◌≡◌, ◌<◌, ◌+◌, ◌-◌, length, sym, subst, arith}
use Rattle.std.proofs.lemmas.List.{length-map}
use Rattle.logic_terms.specs.Shown.{claims_of}
use Rattle.explain.specs.Answers.{claims_in}
use Rattle.explain.specs.Narrow.{AreBetween}
use Rattle.explain.specs.declared.part.Part.{Part}
use Rattle.explain.proofs.ReasonLemmas.{between_front}
use Rattle.explain.proofs.narrowing.serving.Goals as goal

pub loop-place-preserved : goal.loop-place-preserved
loop-place-preserved c =
    let parts = c.args.inquiry.now.parts.now in
    let place = c.loop-place.place in
    let count = length (claims_in parts) in
    let same : count ≡ length parts = length-map parts (λ (part : Part). claims_of part.axioms) in
    let back : place ≡ place - 1 + 1 = omega (arith, c.loop-place-test.true) in
    let below : place - 1 < count = omega (arith, same, c.loop-place.invariant.within, c.loop-place-test.true) in
    record {
      above = omega (arith, c.loop-place-test.true);
      within = omega (arith, c.loop-place.invariant.within);
      between = subst (AreBetween (place - 1) count) (sym c.in_ok-put_first.ensures)
          (between_front c.in_ok-is_used.is_used (place - 1) count c.loop-place.chosen below
          (subst (λ m. AreBetween m count c.loop-place.chosen) back c.loop-place.invariant.between));
    }
