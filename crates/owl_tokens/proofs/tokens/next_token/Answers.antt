use Rattle.std.proofs.Common.{◌≡◌, length, sym, subst, ap, ◌∙◌, drop}
use Rattle.owl_tokens.specs.Shown.{shown}
use Rattle.owl_tokens.specs.Tokens.{IsWithin, token_at, next}
use Rattle.owl_tokens.proofs.Progress.{next_within}
use Rattle.owl_tokens.proofs.tokens.next_token.Goals as goal

pub returns-clause-within : goal.returns-clause-within
returns-clause-within c =
    let text = c.args.text.now in
    let same : shown c.token_at.result ≡ next text c.args.from =
    c.token_at.ensures ∙ ap (λ at. token_at at (drop at text)) c.gap_end.ensures.place in
    subst (IsWithin c.args.from (length text)) (sym same) (next_within text c.args.from c.requires)
