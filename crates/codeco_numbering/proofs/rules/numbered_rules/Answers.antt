use Rattle.std.proofs.Common.{◌+◌, ◌++◌, List, All, map, drop, sym, ap, subst}
use Rattle.std.proofs.lemmas.List.{map-append}
use Rattle.wiki_base.proofs.ListLaws.{drop_get_or}
use Rattle.codeco_text.specs.declared.written.WrittenItem.{WrittenItem}
use Rattle.codeco_numbering.specs.Numbered.{numbered_rule, item_rules, rules_of}
use Rattle.codeco_numbering.specs.Fitting.{HasRoom, rule_tables}
use Rattle.codeco_numbering.proofs.Turns.{turn_by, all_front, all_back}
use Rattle.codeco_numbering.proofs.rules.numbered_rules.Goals as goal

pub loop-item-init : goal.loop-item-init
loop-item-init c =
    let g = c.args.grammar.now in
    record {
      room = subst (λ (is : List WrittenItem). All (λ r. HasRoom (rule_tables g r)) (rules_of is)) (sym c.as_slice-item-items.ensures) c.requires;
      left = ap (λ made. made ++ map (λ r. numbered_rule (rule_tables g r) r) (rules_of c.as_slice-item-items.result.now)) c.new-rules.ensures;
    }

pub add_rule-requires : goal.add_rule-requires
add_rule-requires c =
    let g = c.args.grammar.now in
    let items = c.as_slice-item-items.result.now in
    let i = c.loop-item.item-index in
    let x = c.item-item.result in
    all_front (λ r. HasRoom (rule_tables g r)) (item_rules x) (rules_of (drop (i + 1) items))
    (subst (λ (is : List WrittenItem). All (λ r. HasRoom (rule_tables g r)) (rules_of is)) (drop_get_or items i x c.loop-item-test.true c.item-item.is)
    c.loop-item.invariant.room)

pub loop-item-preserved : goal.loop-item-preserved
loop-item-preserved c =
    let g = c.args.grammar.now in
    let items = c.as_slice-item-items.result.now in
    let i = c.loop-item.item-index in
    let x = c.item-item.result in
    record {
      room = all_back (λ r. HasRoom (rule_tables g r)) (item_rules x) (rules_of (drop (i + 1) items))
          (subst (λ (is : List WrittenItem). All (λ r. HasRoom (rule_tables g r)) (rules_of is)) (drop_get_or items i x c.loop-item-test.true c.item-item.is)
          c.loop-item.invariant.room);
      left = turn_by (λ (is : List WrittenItem). map (λ r. numbered_rule (rule_tables g r) r) (rules_of is))
          (λ (y : WrittenItem). map (λ r. numbered_rule (rule_tables g r) r) (item_rules y))
          (λ y ys. map-append (λ r. numbered_rule (rule_tables g r) r) (item_rules y) (rules_of ys)) c.loop-item.rules c.add_rule.new.rules
          (map (λ r. numbered_rule (rule_tables g r) r) (rules_of items)) items i x c.loop-item-test.true c.item-item.is c.loop-item.invariant.left
          c.in_ok-add_rule.ensures;
    }
