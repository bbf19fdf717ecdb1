use Rattle.std.proofs.Common.{◌≡◌, ◌++◌, option_map, drop}
use Rattle.serde_json.specs.View.{items_view}
use Rattle.wire_json.specs.Requests.{texts_in}
use Rattle.wire_json.proofs.read.texts_from.Given as goal

-- the texts so far, before those of the items that are left, are the texts of all
abbrev pub invariant-loop-item : goal.invariant-loop-item
invariant-loop-item l = option_map (λ rest. l.texts.items ++ rest) (texts_in (items_view (drop l.item-index l.items))) ≡ texts_in (items_view l.items)
