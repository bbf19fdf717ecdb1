use Rattle.std.proofs.Common.{◌++◌, ap, ◌∙◌, rules}
use Rattle.http_front.specs.Forms.{pieces}
use Rattle.http_front.proofs.PieceLemmas.{pieces_step, pieces_end}
use Rattle.http_front.proofs.forms.pieces.Goals as goal

pub loop-piece-preserved : goal.loop-piece-preserved
loop-piece-preserved c = (
  search rules,
  ap (λ x. x ++ pieces c.in-Some.after.now) c.in_ok-push_piece.ensures
      ∙ pieces_step c.loop-piece.found c.loop-piece.rest.now c.in-Some.piece.now c.in-Some.after.now c.in-Some.ensures.0 c.in-Some.ensures.1
      ∙ c.loop-piece.invariant.1,
)

pub returns : goal.returns
returns c =
    c.in_ok-push_piece-2.ensures ∙ pieces_end c.loop-piece.found c.loop-piece.rest.now c.in_default.ensures ∙ c.loop-piece.invariant.1
