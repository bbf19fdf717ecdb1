use Rattle.std.proofs.Common.{[], ◌∷◌, drop, ◌+◌, ◌∙◌, sym, ap}
use Rattle.chart_table.specs.Branches.{one_if}
use Rattle.chart_table.proofs.MeetLemmas.{pair_step, meeting_none}
use Rattle.chart_table.proofs.branches.meet.Goals as goal

pub returns-then-not-branch : goal.returns-then-not-branch
returns-then-not-branch c =
    sym c.loop-pair.invariant
    ∙ pair_step c.args.vals.now c.args.feats.now c.loop-pair.pair-index _ (c.loop-pair.bound ∷ []) [] c.loop-pair-test.true
    (c.in_ok-meet_one.ensures ∙ ap (λ yes. one_if yes c.meet_one.new.bound) c.if-not-branch.true)
    ∙ meeting_none (drop (c.loop-pair.pair-index + 1) c.args.vals.now) c.args.feats.now
