use Rattle.std.proofs.Common.{arith}
use Rattle.codeco_terms.specs.declared.values.Value.TheVariants.{Atom}
use Rattle.codeco_terms.specs.declared.values.Term.TheVariants.{Val}
use Rattle.codeco_late_faults.proofs.ShareLemmas.{shares_low, shares_high, shares_out}
use Rattle.codeco_late_faults.proofs.doubles.shares.Goals as goal

pub loop-place-preserved-then-feature-marked-2 : goal.loop-place-preserved-then-feature-marked-2
loop-place-preserved-then-feature-marked-2 c =
    shares_low c.args.feats.now c.args.taken.now c.loop-place.place c.loop-place.other _ _ _ c.requires.taken_ascend c.loop-place-test.true
    c.if-other-taken.true c.if-feature-marked-2.true c.loop-place.invariant

pub loop-place-preserved : goal.loop-place-preserved
loop-place-preserved c =
    shares_high c.args.feats.now c.args.taken.now c.loop-place.place c.loop-place.other (0, Val (Atom 0)) (0, 0) _ c.requires.feats_ascend
    c.loop-place-test.true c.if-other-taken.true (omega arith) c.loop-place.invariant

pub returns-else-other-taken : goal.returns-else-other-taken
returns-else-other-taken c = shares_out c.args.feats.now c.args.taken.now c.loop-place.place c.loop-place.other _ c.if-other-taken.false c.loop-place.invariant
