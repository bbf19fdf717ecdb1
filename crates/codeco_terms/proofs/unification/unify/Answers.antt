use Rattle.std.proofs.Common.{rules}
use Rattle.codeco_terms.proofs.UnificationLemmas.{CanEquate-from_least}
use Rattle.codeco_terms.proofs.unification.unify.Goals as goal

pub returns-clause-exact : goal.returns-clause-exact
returns-clause-exact c = (
  λ _. CanEquate-from_least c.args.cat.now c.args.other.now c.as_slice.result.now c.as_slice-2.result.now c.args.env.now c.copy-tried.result
      c.meet_feats.new.env (search rules) c.as_slice.ensures c.as_slice-2.ensures c.copy-tried.ensures c.if-not-meet_feats.ensures.yes,
  search rules,
)
