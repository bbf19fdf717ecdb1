-- Scripts that grow.
use Rattle.std.proofs.Common.{◌≡◌, List, [], ◌∷◌, ◌++◌, Bool, true, false, ◌&&◌, refl, ◌∙◌}
use Rattle.std.specs.Prelude.{IsTrue}
use Rattle.std.specs.List.{list_all}
use Rattle.std.proofs.lemmas.List.Folds.{list_all-append}
use Rattle.wiki_io.specs.declared.links.Event.{Event}
use Rattle.wiki_io.specs.MemoryLink.{is_whole}

both : (a b : Bool) → a ≡ true → b ≡ true → (a && (b && true)) ≡ true
both true true h k = refl
both true false h k = k
both false b h k = h

-- one whole event more
pub whole_push : (events : List Event) (event : Event) → IsTrue (list_all is_whole events) → IsTrue (is_whole event)
    → IsTrue (list_all is_whole (events ++ event ∷ []))
whole_push events event all one = list_all-append is_whole events (event ∷ []) ∙ both (list_all is_whole events) (is_whole event) all one
