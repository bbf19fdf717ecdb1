use Rattle.std.proofs.Common.{ℕ, List, [], map, take, Option, Some, subst}
use Rattle.std.proofs.lemmas.Result.{IfOk-weaker}
use Rattle.wiki_base.specs.declared.numbers.Place.{Place}
use Rattle.explain.specs.declared.part.Part.{Part}
use Rattle.explain.specs.Answers.{claims_in}
use Rattle.wiki_core.specs.Parts.{place_of}
use Rattle.retelling.specs.Cases.{TellsCounted}
use Rattle.retelling.specs.Why.{TellsOf}
use Rattle.retelling.proofs.ReasonLines.{of_counted}
use Rattle.retelling.proofs.cases.with_sentence.Goals as goal

pub returns : goal.returns
returns c =
    let state = c.args.wiki.now.state.stored in
    let budget = c.args.budget in
    let parts = c.in_ok-parts.parts in
    let taken : Option Place = Some (record { article = c.args.word; at = c.args.at }) in
    IfOk-weaker c.explained.result _ (TellsCounted state budget taken [])
    (λ text tells. of_counted state budget taken parts text c.in_ok-parts.ensures
    (subst (λ (n : ℕ). TellsOf state budget (map place_of (take n parts)) (claims_in parts) text) c.len.ensures
    (subst (λ (ps : List Part). TellsOf state budget (map place_of (take c.len.result ps)) (claims_in ps) text) c.as_slice.ensures tells)))
    c.explained.ensures
