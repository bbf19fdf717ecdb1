use Rattle.std.proofs.Common.{◌∙◌, ap, sym, List, [], ℕ, Option}
use Rattle.std.specs.Prelude.{unwrap_or, option_map}
use Rattle.std.specs.Borrow.{Bor}
use Rattle.server.proofs.StatusLemmas.{phrase_is}
use Rattle.server.proofs.responses.phrase_of.Goals as goal

pub returns-in-Some : goal.returns-in-Some
returns-in-Some c =
    ap (λ (o : Option (Bor (List ℕ))). unwrap_or (option_map (λ s. s.now) o) []) (sym c.in-Some.is)
    ∙ phrase_is _ _ _ c.in-Ok.ensures c.canonical_reason.ensures.value

pub returns-in-None : goal.returns-in-None
returns-in-None c =
    ap (λ (o : Option (Bor (List ℕ))). unwrap_or (option_map (λ s. s.now) o) []) (sym c.in-None.is)
    ∙ phrase_is _ _ _ c.in-Ok.ensures c.canonical_reason.ensures.value
