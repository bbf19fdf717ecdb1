use Rattle.std.proofs.Common.{◌≡◌, ◌≤◌, ◌<◌, ◌++◌, [], ◌∷◌, ◌+◌, ◌-◌, drop, length, refl, sym, subst, ap, ◌∙◌, arith, append-nil}
use Rattle.std.specs.List.{AllZip}
use Rattle.owl_eval.specs.Checked.{kept_interp, kept_claims}
use Rattle.reasoner.specs.Verdicts.{IfConsistent, IfInconsistent, IsFiniteModel, HaveNoModel}
use Rattle.explain.specs.Answers.{claims_in}
use Rattle.explain.specs.Reasons.{places_of, stated_at, without, IsAsked, IsReason}
use Rattle.explain.specs.Narrow.{AreShown, IsCore, IsShut}
use Rattle.explain.specs.declared.narrowing.Core.{Core}
use Rattle.explain.proofs.ReasonLemmas.{IsOnTheWay, all_long, asks_behind, at_the_end, core_first, core_rest, keeps, leaves, way_long}
use Rattle.explain.proofs.explaining.reduced.Goals as goal

pub behind-requires : goal.behind-requires
behind-requires c =
    let q = c.args.inquiry.now in
    let parts = claims_in q.parts.now in
    let first = sym c.as_slice.ensures ∙ c.in-Some.ensures in
    let start = core_first parts q.names.now c.loop-place.kept c.loop-place.from c.in-Some.place (drop 1 c.as_slice.result.now) c.loop-place.core first
    c.loop-place.invariant.core in
    let long = all_long parts c.args.all.now c.requires.whole in
    let below = start.1.0 in
    omega (arith, long, below)

pub loop-place-smaller-in-Consistent : goal.loop-place-smaller-in-Consistent
loop-place-smaller-in-Consistent c =
    let q = c.args.inquiry.now in
    let parts = claims_in q.parts.now in
    let first = sym c.as_slice.ensures ∙ c.in-Some.ensures in
    let start = core_first parts q.names.now c.loop-place.kept c.loop-place.from c.in-Some.place (drop 1 c.as_slice.result.now) c.loop-place.core first
    c.loop-place.invariant.core in
    let long = all_long parts c.args.all.now c.requires.whole in
    let reached = start.0 in
    let below = start.1.0 in
    let less : length c.args.all.now - (c.in-Some.place + 1) < length c.args.all.now - c.loop-place.from = omega (arith, long, reached, below) in
    less

pub loop-place-preserved-in-Consistent : goal.loop-place-preserved-in-Consistent
loop-place-preserved-in-Consistent c =
    let q = c.args.inquiry.now in
    let parts = claims_in q.parts.now in
    let all = c.args.all.now in
    let kept = c.loop-place.kept in
    let shown = c.loop-place.shown in
    let from = c.loop-place.from in
    let place = c.in-Some.place in
    let first = sym c.as_slice.ensures ∙ c.in-Some.ensures in
    let places = drop 1 c.as_slice.result.now in
    let start = core_first parts q.names.now kept from place places c.loop-place.core first c.loop-place.invariant.core in
    let long = all_long parts all c.requires.whole in
    let below = start.1.0 in
    let way = subst (λ l. IsOnTheWay parts kept (drop from l) shown) c.requires.whole c.loop-place.invariant.way in
    let interp = kept_interp c.in-Consistent.model in
    let tried : c.as_slice-in-Some.result.now ++ c.behind.result.now ≡ kept ++ drop (place + 1) (places_of parts) =
    (λ j. c.as_slice-in-Some.ensures j ++ (c.behind.ensures ∙ ap (drop (place + 1)) c.requires.whole) j) in
    let model : IsFiniteModel interp (stated_at parts (kept ++ drop (place + 1) (places_of parts))) =
    subst (λ l. IsFiniteModel interp (stated_at parts l)) tried
    (subst (λ v. IfConsistent v (λ m. IsFiniteModel (kept_interp m) (stated_at parts (c.as_slice-in-Some.result.now ++ c.behind.result.now))))
    c.in-Consistent.is c.in_ok-model.ensures.model) in
    let made = keeps parts kept shown from place (length parts) start.0 way interp below start.1.1 model in
    let same = c.in_ok-push-in-Consistent-2.ensures.ok
    ∙ ap (λ i. shown ++ i ∷ []) (c.in_ok-copy-in-Consistent.ensures ∙ c.interp.ensures.part) in
    let left : Core = record { chosen = c.remove.new.self; closed = c.loop-place.core.closed } in
    record {
      way = subst (λ l. IsOnTheWay parts c.push.new.self (drop (place + 1) l) c.push-in-Consistent.new.self) (sym c.requires.whole)
          (subst (λ k. IsOnTheWay parts k (drop (place + 1) (places_of parts)) c.push-in-Consistent.new.self)
          (sym c.in_ok-push-in-Consistent.ensures.ok)
          (subst (λ s. IsOnTheWay parts (kept ++ place ∷ []) (drop (place + 1) (places_of parts)) s) (sym same) made));
      core = subst (λ k. IsCore parts q.names.now k (place + 1) left) (sym c.in_ok-push-in-Consistent.ensures.ok)
          (core_rest parts q.names.now kept from place places c.loop-place.core left first c.remove.ensures.rest refl c.loop-place.invariant.core);
      within = omega (arith, long, below);
    }

pub core_of-requires-in-Inconsistent-clause-within : goal.core_of-requires-in-Inconsistent-clause-within
core_of-requires-in-Inconsistent-clause-within c =
    let q = c.args.inquiry.now in
    let parts = claims_in q.parts.now in
    let first = sym c.as_slice.ensures ∙ c.in-Some.ensures in
    let start = core_first parts q.names.now c.loop-place.kept c.loop-place.from c.in-Some.place (drop 1 c.as_slice.result.now) c.loop-place.core first
    c.loop-place.invariant.core in
    let long = all_long parts c.args.all.now c.requires.whole in
    let below = start.1.0 in
    omega (arith, long, below)

pub loop-place-smaller : goal.loop-place-smaller
loop-place-smaller c =
    let q = c.args.inquiry.now in
    let parts = claims_in q.parts.now in
    let first = sym c.as_slice.ensures ∙ c.in-Some.ensures in
    let start = core_first parts q.names.now c.loop-place.kept c.loop-place.from c.in-Some.place (drop 1 c.as_slice.result.now) c.loop-place.core first
    c.loop-place.invariant.core in
    let long = all_long parts c.args.all.now c.requires.whole in
    let reached = start.0 in
    let below = start.1.0 in
    let less : length c.args.all.now - (c.in-Some.place + 1) < length c.args.all.now - c.loop-place.from = omega (arith, long, reached, below) in
    less

pub loop-place-preserved : goal.loop-place-preserved
loop-place-preserved c =
    let q = c.args.inquiry.now in
    let parts = claims_in q.parts.now in
    let all = c.args.all.now in
    let kept = c.loop-place.kept in
    let shown = c.loop-place.shown in
    let from = c.loop-place.from in
    let place = c.in-Some.place in
    let first = sym c.as_slice.ensures ∙ c.in-Some.ensures in
    let start = core_first parts q.names.now kept from place (drop 1 c.as_slice.result.now) c.loop-place.core first c.loop-place.invariant.core in
    let long = all_long parts all c.requires.whole in
    let reached = start.0 in
    let below = start.1.0 in
    let way = subst (λ l. IsOnTheWay parts kept (drop from l) shown) c.requires.whole c.loop-place.invariant.way in
    let tried : c.as_slice-in-Some.result.now ++ c.behind.result.now ≡ kept ++ drop (place + 1) (places_of parts) =
    (λ j. c.as_slice-in-Some.ensures j ++ (c.behind.ensures ∙ ap (drop (place + 1)) c.requires.whole) j) in
    let shut = subst (λ v. IfInconsistent v (λ tree. IsShut (stated_at parts (c.as_slice-in-Some.result.now ++ c.behind.result.now)) q.names.now tree))
    c.in-Inconsistent.is c.in_ok-model.ensures.shut in
    let none = subst (λ l. HaveNoModel (stated_at parts l)) tried shut.none in
    record {
      way = subst (λ l. IsOnTheWay parts kept (drop (place + 1) l) shown) (sym c.requires.whole)
          (leaves parts kept shown from (place + 1) (length parts) (omega (arith, reached)) way none);
      core = subst (λ k. IsCore parts q.names.now k (place + 1) c.in_ok-core-in-Inconsistent.core) c.as_slice-in-Inconsistent.ensures
          c.in_ok-core-in-Inconsistent.ensures;
      within = omega (arith, long, below);
    }

pub behind-requires-in-Spent : goal.behind-requires-in-Spent
behind-requires-in-Spent c =
    let q = c.args.inquiry.now in
    let parts = claims_in q.parts.now in
    let first = sym c.as_slice.ensures ∙ c.in-Some.ensures in
    let start = core_first parts q.names.now c.loop-place.kept c.loop-place.from c.in-Some.place (drop 1 c.as_slice.result.now) c.loop-place.core first
    c.loop-place.invariant.core in
    let long = all_long parts c.args.all.now c.requires.whole in
    let below = start.1.0 in
    omega (arith, long, below)

pub returns-in-Spent-clause-asked : goal.returns-in-Spent-clause-asked
returns-in-Spent-clause-asked c =
    let q = c.args.inquiry.now in
    let parts = claims_in q.parts.now in
    let kept = c.loop-place.kept in
    let shown = c.loop-place.shown in
    let from = c.loop-place.from in
    let place = c.in-Some.place in
    let first = sym c.as_slice.ensures ∙ c.in-Some.ensures in
    let start = core_first parts q.names.now kept from place (drop 1 c.as_slice.result.now) c.loop-place.core first c.loop-place.invariant.core in
    let way = subst (λ l. IsOnTheWay parts kept (drop from l) shown) c.requires.whole c.loop-place.invariant.way in
    let asked : c.in_ok-asked-in-Spent.asked ≡ kept ++ drop (place + 1) (places_of parts) =
    c.in_ok-asked-in-Spent.ensures
    ∙ (λ j. c.as_slice-in-Spent.ensures j ++ (c.behind-in-Spent.ensures ∙ ap (drop (place + 1)) c.requires.whole) j) in
    subst (IsAsked parts) (sym asked) (asks_behind parts kept shown from place (length parts) start.0 way start.1.0 start.1.1)

pub models-requires-clause-shown : goal.models-requires-clause-shown
models-requires-clause-shown c =
    let q = c.args.inquiry.now in
    let parts = claims_in q.parts.now in
    let kept = c.loop-place.kept in
    let shown = c.loop-place.shown in
    let from = c.loop-place.from in
    let empty = sym c.as_slice.ensures ∙ c.in_default.ensures in
    let none = subst (λ l. HaveNoModel (stated_at parts l)) (ap (λ l. kept ++ l) empty ∙ append-nil kept) c.loop-place.invariant.core.shut.none in
    let within = subst (λ n. from ≤ n) (all_long parts c.args.all.now c.requires.whole) c.loop-place.invariant.within in
    let way = subst (λ l. IsOnTheWay parts kept (drop from l) shown) c.requires.whole c.loop-place.invariant.way in
    let end = at_the_end parts kept shown from within way none in
    subst (λ l. AreShown parts l [] c.as_slice-3.result.now) (sym c.as_slice-2.ensures)
    (subst (λ l. AreShown parts kept [] l) (sym c.as_slice-3.ensures) end.1)

pub models-requires-clause-long : goal.models-requires-clause-long
models-requires-clause-long c =
    let parts = claims_in c.args.inquiry.now.parts.now in
    ap length c.as_slice-3.ensures
    ∙ way_long parts c.loop-place.kept (drop c.loop-place.from c.args.all.now) c.loop-place.shown c.loop-place.invariant.way
    ∙ sym (ap length c.as_slice-2.ensures)

pub returns-clause-reason : goal.returns-clause-reason
returns-clause-reason c =
    let q = c.args.inquiry.now in
    let parts = claims_in q.parts.now in
    let kept = c.loop-place.kept in
    let shown = c.loop-place.shown in
    let from = c.loop-place.from in
    let empty = sym c.as_slice.ensures ∙ c.in_default.ensures in
    let none = subst (λ l. HaveNoModel (stated_at parts l)) (ap (λ l. kept ++ l) empty ∙ append-nil kept) c.loop-place.invariant.core.shut.none in
    let within = subst (λ n. from ≤ n) (all_long parts c.args.all.now c.requires.whole) c.loop-place.invariant.within in
    let way = subst (λ l. IsOnTheWay parts kept (drop from l) shown) c.requires.whole c.loop-place.invariant.way in
    (at_the_end parts kept shown from within way none).0

pub returns-clause-models : goal.returns-clause-models
returns-clause-models c =
    let q = c.args.inquiry.now in
    subst (λ l. AllZip (λ place m. kept_claims m ≡ stated_at (claims_in q.parts.now) (without place l)) l c.in_ok-models.models) c.as_slice-2.ensures
    c.in_ok-models.ensures
