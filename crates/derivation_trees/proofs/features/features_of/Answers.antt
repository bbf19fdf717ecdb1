use Rattle.std.proofs.Common.{◌≡◌, ◌≤◌, [], ◌∷◌, ◌++◌, List, filter, length, refl, ap, ◌∙◌, sym, arith, rules}
use Rattle.std.specs.List.{flat_map, range_with_len}
use Rattle.std.proofs.lemmas.List.{drop_all}
use Rattle.codeco_terms.specs.declared.rules.Rule.{Rule}
use Rattle.codeco_checked.specs.Numbering.{has}
use Rattle.codeco_checked.specs.Occurrences.{rule_mentions}
use Rattle.derivation_trees.specs.Instances.{past_all}
use Rattle.derivation_trees.specs.Putting.{put_all, features_in}
use Rattle.derivation_trees.proofs.PutLemmas.{put_step, put_all_append}
use Rattle.derivation_trees.proofs.RangeLemmas.{put_all_range}
use Rattle.derivation_trees.proofs.features.features_of.Goals as goal

pub loop-rule-preserved : goal.loop-rule-preserved
loop-rule-preserved c =
    put_step (λ r. flat_map (features_in c.args.name) (rule_mentions r)) (λ rs. flat_map (λ r. flat_map (features_in c.args.name) (rule_mentions r)) rs)
    (λ x ys. refl) c.as_slice-rule-items.result.now c.loop-rule.rule-index c.rule-item.result c.loop-rule.features.items c.put_body.new.features.items _
    (omega arith) c.rule-item.is (grind (arith, put_all_append)) c.loop-rule.invariant

pub returns : goal.returns
returns c =
    let items : List Rule = c.as_slice-rule-items.result.now in
    let past : length items ≤ c.loop-rule.rule-index = omega arith in
    let same : items ≡ c.args.grammar.now.rules = search rules in
    ap (λ (rs : List Rule). put_all c.loop-rule.features.items (flat_map (λ r. flat_map (features_in c.args.name) (rule_mentions r)) rs))
    (sym (drop_all c.loop-rule.rule-index items past))
    ∙ c.loop-rule.invariant
    ∙ put_all_range (flat_map (λ (r : Rule). flat_map (features_in c.args.name) (rule_mentions r)) items)
    ∙ ap (λ (rs : List Rule).
    filter (has (flat_map (λ (r : Rule). flat_map (features_in c.args.name) (rule_mentions r)) rs))
    (range_with_len 0 (past_all (flat_map (λ (r : Rule). flat_map (features_in c.args.name) (rule_mentions r)) rs)))) same
