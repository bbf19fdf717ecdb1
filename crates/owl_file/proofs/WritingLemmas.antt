-- Lines that are written one after the other.
use Rattle.std.specs.Prelude.{◌≡◌, ℕ, ◌+◌, List, ◌++◌, codes, map, take, slice_get, Some}
use Rattle.std.proofs.Common.{◌∙◌, ap, sym}
use Rattle.std.proofs.lemmas.List.{flat_map_more}
use Rattle.wiki_base.proofs.ListLaws.{map_take}
use Rattle.owl_file.specs.Written.{text_of}

-- one line more
pub line_more : {X : Type 0} (f : X → List ℕ) (xs : List X) (k : ℕ) (x : X) (before : List ℕ) → slice_get xs k ≡ Some x
    → (before ++ text_of (map f (take k xs))) ++ (f x ++ codes "\n") ≡ before ++ text_of (map f (take (k + 1) xs))
line_more f xs k x before at =
    flat_map_more (λ line. line ++ codes "\n") before (map f (take k xs)) (f x)
    ∙ ap (λ lines. before ++ text_of lines) (sym (map_take f xs k x at))
