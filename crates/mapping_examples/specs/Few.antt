-- The few words of the examples.
use Rattle.std.specs.Prelude.{ℕ, ◌==◌, List, Option, Some, None, codes, if◌then◌else◌}
use Rattle.wiki_base.specs.declared.numbers.WordId.{WordId}

abbrev pub few_form : WordId → Option (List ℕ)
few_form word =
    if word.0 == 1 then Some (codes "dog")
    else if word.0 == 2 then Some (codes "cat")
    else if word.0 == 3 then Some (codes "man")
    else if word.0 == 4 then Some (codes "own")
    else if word.0 == 5 then Some (codes "see")
    else if word.0 == 6 then Some (codes "Mary")
    else if word.0 == 7 then Some (codes "Bill") else None
