use Rattle.std.proofs.Common.{◌≡◌, ◌++◌, map, drop, All}
use Rattle.codeco_numbering.specs.Numbered.{numbered_rule, rules_of}
use Rattle.codeco_numbering.specs.Fitting.{HasRoom, rule_tables}
use Rattle.codeco_numbering.proofs.rules.numbered_rules.Given as goal

abbrev pub invariant-loop-item : goal.invariant-loop-item
invariant-loop-item l = record {
  room : All (λ r. HasRoom (rule_tables l.grammar r)) (rules_of (drop l.item-index l.item-items));
  left : l.rules ++ map (λ r. numbered_rule (rule_tables l.grammar r) r) (rules_of (drop l.item-index l.item-items))
      ≡ map (λ r. numbered_rule (rule_tables l.grammar r) r) (rules_of l.item-items);
}
