use Rattle.std.proofs.Common.{IfSome, subst}
use Rattle.logic_terms.specs.Known.{theory_of}
use Rattle.tableau_rules.specs.Shown.{graph_of}
use Rattle.consequences.specs.Forced.{IsForced}
use Rattle.consequences.proofs.known.Consequences.include.Goals as goal

pub includes-requires : goal.includes-requires
includes-requires c =
    subst (λ o. ∥ IfSome o (λ b. IsForced (theory_of c.args.self.now.k) (graph_of b)) ∥₁) c.in-Some.is c.args.self.now.forced
