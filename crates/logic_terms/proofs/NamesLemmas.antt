-- Lists of names that rise.
use Rattle.std.proofs.Common.{◌≡◌, ◌<◌, ◌&&◌, ltb, true, List, [], ◌∷◌, ◌++◌, All, refl, ◌∙◌}
use Rattle.std.proofs.lemmas.Bool.{and_from, and_parts, lt-ltb}
use Rattle.std.proofs.lemmas.List.Elements.{All-head, All-tail}
use Rattle.wiki_base.specs.declared.numbers.WordId.{WordId}
use Rattle.logic_terms.specs.Names.{names_above, names_rise}

names_above-push : (n : WordId) (ns : List WordId) (name : WordId) → n.0 < name.0 → All (λ m. m.0 < name.0) ns → names_above n ns ≡ true
    → names_above n (ns ++ name ∷ []) ≡ true
names_above-push n [] name lt all up = and_from (ltb n.0 name.0) true (lt-ltb n.0 name.0 lt) refl
names_above-push n (m ∷ ns) name lt all up =
    let parts = and_parts (ltb n.0 m.0) (names_above m ns) up in
    and_from (ltb n.0 m.0) (names_above m (ns ++ name ∷ [])) parts.0
    (names_above-push m ns name (All-head (λ k. k.0 < name.0) m ns all) (All-tail (λ k. k.0 < name.0) m ns all) parts.1)

-- a name above all others may stand at the end
pub names_rise-push : (ns : List WordId) (name : WordId) → names_rise ns ≡ true → All (λ m. m.0 < name.0) ns → names_rise (ns ++ name ∷ []) ≡ true
names_rise-push [] name up all = refl
names_rise-push (n ∷ ns) name up all =
    names_above-push n ns name (All-head (λ k. k.0 < name.0) n ns all) (All-tail (λ k. k.0 < name.0) n ns all) up
