use Rattle.std.proofs.Common.{◌≡◌, All, insert, sym, subst}
use Rattle.std.specs.Prelude.{OnOk, OnErr, Ok, Err}
use Rattle.std.proofs.lemmas.List.Elements.{All-set}
use Rattle.wiki_store.specs.Remembered.{IsRemembered}
use Rattle.wiki_store.proofs.RememberedLemmas.{all-inserted}
use Rattle.wiki_store.proofs.remembered.Remembered.put.Goals as goal

pub returns-then-get-row : goal.returns-then-get-row
returns-then-get-row c wiki all here =
    subst (All (IsRemembered wiki)) (sym c.set.ensures)
    (All-set (IsRemembered wiki) c.args.self.now.rows c.place_of-place.result c.args.row here all)

pub returns-else-place-len : goal.returns-else-place-len
returns-else-place-len c wiki all here =
    let rows = insert c.args.self.now.rows c.place_of-place.result c.args.row in
    elim c.insert.result as (λ r. OnOk r (c.insert.new.self ≡ rows) → OnErr r (c.insert.new.self ≡ c.args.self.now.rows)
    → All (IsRemembered wiki) c.insert.new.self) [
      | Ok done ↦ λ ok err. subst (All (IsRemembered wiki)) (sym ok)
          (all-inserted (IsRemembered wiki) c.args.self.now.rows c.place_of-place.result c.args.row c.place_of-place.ensures all here)
      | Err none ↦ λ ok err. subst (All (IsRemembered wiki)) (sym err) all
    ] c.insert.ensures.ok c.insert.ensures.err
