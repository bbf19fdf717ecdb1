use Rattle.std.proofs.Common.{◌≡◌, ◌+◌, ◌*◌, map, length, ap, ◌∙◌}
use Rattle.std.proofs.lemmas.Result.{IfOk-weaker}
use Rattle.derivations.specs.Paths.{outcome_of}
use Rattle.derivations.proofs.DepthLemmas.{ordered_from_sound}
use Rattle.derivations.proofs.LeastLemmas.{told}
use Rattle.derivations.proofs.least.least_in.Goals as goal

pub returns-clause-least : goal.returns-clause-least
returns-clause-least c =
    let s = c.args.setting.now in
    let deep : c.in_ok-depth.depth ≡ (length s.tokens + 1) * (length s.grammar.rules + 1) =
    c.in_ok-depth.ensures ∙ ap (λ n. (n + 1) * (c.rule_count.result + 1)) c.token_count.ensures
    ∙ ap (λ n. (length s.tokens + 1) * (n + 1)) c.rule_count.ensures in
    IfOk-weaker c.least_of.result _ _ (λ least of.
    (told s (ordered_from_sound s.grammar c.requires.sound) c.in_ok-depth.depth c.as_slice.result.now least deep
    (ap (map outcome_of) c.as_slice.ensures ∙ c.in_ok-outcomes.ensures) of).some) c.least_of.ensures

pub returns-clause-none : goal.returns-clause-none
returns-clause-none c =
    let s = c.args.setting.now in
    let deep : c.in_ok-depth.depth ≡ (length s.tokens + 1) * (length s.grammar.rules + 1) =
    c.in_ok-depth.ensures ∙ ap (λ n. (n + 1) * (c.rule_count.result + 1)) c.token_count.ensures
    ∙ ap (λ n. (length s.tokens + 1) * (n + 1)) c.rule_count.ensures in
    IfOk-weaker c.least_of.result _ _ (λ least of.
    (told s (ordered_from_sound s.grammar c.requires.sound) c.in_ok-depth.depth c.as_slice.result.now least deep
    (ap (map outcome_of) c.as_slice.ensures ∙ c.in_ok-outcomes.ensures) of).none) c.least_of.ensures
