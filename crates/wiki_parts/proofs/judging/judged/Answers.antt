use Rattle.logic_terms.specs.Shown.{claims_of}
use Rattle.wiki_parts.proofs.VerdictLemmas.{allowed_result}
use Rattle.wiki_parts.proofs.judging.judged.Goals as goal

pub returns-clause-allowed : goal.returns-clause-allowed
returns-clause-allowed c =
    allowed_result (claims_of c.args.axioms) c.args.names.now c.args.budget c.verdict.result c.verdict.ensures.model c.verdict.ensures.impossible
    c.verdict.ensures.spent
