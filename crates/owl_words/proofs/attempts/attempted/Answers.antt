use Rattle.std.proofs.Common.{◌≡◌, ◌∙◌}
use Rattle.std.specs.Prelude.{Option}
use Rattle.std.proofs.lemmas.Result.{IfOk-weaker}
use Rattle.lexicon.specs.declared.kinds.Forms.{Forms}
use Rattle.owl_words.specs.Attempts.{attempted}
use Rattle.owl_words.proofs.AttemptLemmas.{attempted_later}
use Rattle.owl_words.proofs.attempts.attempted.Goals as goal

pub returns : goal.returns
returns c =
    let kind = c.args.kind in
    let cs = c.args.base.now in
    IfOk-weaker c.longest.result _ (λ (made : Option Forms). made ≡ attempted kind cs c.args.attempt)
    (λ made e. attempted_later kind cs c.deref.result.now c.args.attempt c.most_kept.result made c.if-attempt-eq0.false
    (c.deref.ensures.value ∙ c.in_ok-ending.ensures) c.most_kept.ensures e)
    c.longest.ensures
