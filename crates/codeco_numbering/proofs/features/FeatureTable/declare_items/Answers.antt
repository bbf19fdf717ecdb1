use Rattle.std.proofs.Common.{◌≡◌, List, true, map, drop, sym, ap, subst, ◌∙◌, ◌+◌}
use Rattle.wiki_base.proofs.ListLaws.{drop_get_or}
use Rattle.codeco_checked.specs.Numbering.{differ}
use Rattle.codeco_numbering.specs.Numbered.{NamedFeature, with_item, with_items}
use Rattle.codeco_numbering.proofs.Declaring.{items_differ}
use Rattle.codeco_numbering.proofs.features.FeatureTable.declare_items.Goals as goal

-- the names of what is left to declare differ, so they do with this item
pub declare_item-requires : goal.declare_item-requires
declare_item-requires c =
    let items = c.as_slice-item-items.result.now in
    let x = c.item-item.result in
    let i = c.loop-item.item-index in
    let left : with_items (with_item c.loop-item.table x) (drop (i + 1) items) ≡ with_items c.args.self c.args.items.now =
    ap (with_items c.loop-item.table) (sym (drop_get_or items i x c.loop-item-test.true c.item-item.is)) ∙ c.loop-item.invariant
    ∙ ap (with_items c.args.self) c.as_slice-item-items.ensures in
    items_differ (drop (i + 1) items) (with_item c.loop-item.table x)
    (subst (λ (fs : List NamedFeature). differ (map (λ f. f.name) fs) ≡ true) (sym left) c.requires)
