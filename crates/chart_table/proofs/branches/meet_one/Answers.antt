use Rattle.std.proofs.Common.{[], ◌∷◌, drop, ◌+◌, ◌∙◌, sym, ap}
use Rattle.chart_table.specs.Branches.{one_if}
use Rattle.chart_table.proofs.MeetLemmas.{one_step, meeting_one_none}
use Rattle.chart_table.proofs.branches.meet_one.Goals as goal

pub returns-then-not-branch : goal.returns-then-not-branch
returns-then-not-branch c =
    sym c.loop-feat.invariant
    ∙ one_step c.args.pair c.args.feats.now c.loop-feat.feat-index _ (c.loop-feat.bound ∷ []) [] c.loop-feat-test.true
    (c.in_ok-meet_at.ensures ∙ ap (λ yes. one_if yes c.meet_at.new.bound) c.if-not-branch.true)
    ∙ meeting_one_none c.args.pair (drop (c.loop-feat.feat-index + 1) c.args.feats.now)
