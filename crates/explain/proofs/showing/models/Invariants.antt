use Rattle.std.proofs.Common.{◌≡◌, take}
use Rattle.std.specs.List.{AllZip}
use Rattle.owl_eval.specs.Checked.{kept_claims}
use Rattle.explain.specs.Answers.{claims_in}
use Rattle.explain.specs.Reasons.{stated_at, without}
use Rattle.explain.proofs.showing.models.Given as goal

abbrev pub invariant-loop-index : goal.invariant-loop-index
invariant-loop-index l = AllZip (λ place m. kept_claims m ≡ stated_at (claims_in l.parts) (without place l.kept)) (take l.index l.kept) l.models
