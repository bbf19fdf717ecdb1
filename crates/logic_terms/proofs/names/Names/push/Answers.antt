use Rattle.std.proofs.Common.{◌<◌}
use Rattle.std.proofs.lemmas.List.Elements.{All-same}
use Rattle.logic_terms.proofs.NamesLemmas.{names_rise-push}
use Rattle.logic_terms.proofs.names.Names.push.Goals as goal

pub invariant_of-self-2 : goal.invariant_of-self-2
invariant_of-self-2 c =
    rw c.in_ok-push.ensures.items
    (names_rise-push _ _ c.self.invariant (All-same (λ m. m.0 < c.args.name.0) _ _ c.self.view_is c.requires))
