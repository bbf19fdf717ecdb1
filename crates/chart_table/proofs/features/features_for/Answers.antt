use Rattle.std.proofs.Common.{◌∙◌, subst}
use Rattle.std.specs.Prelude.{IfSome}
use Rattle.chart_table.specs.Features.{HasListed}
use Rattle.chart_table.proofs.PlanLemmas.{listed_is, listed_more}
use Rattle.chart_table.proofs.features.features_for.Goals as goal

pub returns-in-Some-clause-features : goal.returns-in-Some-clause-features
returns-in-Some-clause-features c =
    listed_is c.args.grammar.now c.args.known.now c.as_slice.result.now c.args.name c.in-Some.found c.as_slice.ensures c.requires
    (subst (λ o. IfSome o (HasListed c.as_slice.result.now c.args.name)) c.in-Some.is c.in_ok-found.ensures)

pub returns-clause-known : goal.returns-clause-known
returns-clause-known c =
    listed_more c.args.grammar.now c.args.known.now c.push.new.self (record { name = c.args.name; features = c.in_ok-copied.copied }) c.in_ok-push.ensures.ok
    (c.in_ok-copied.ensures ∙ c.as_slice-2.ensures ∙ c.from_vec-found.ensures ∙ c.in_ok-features_of.ensures) c.requires
