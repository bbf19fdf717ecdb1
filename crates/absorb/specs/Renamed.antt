-- Representatives, as equalities join names one by one. Only private calls speak of it.
use Rattle.std.specs.Prelude.{List, map, if◌then◌else◌, nat_le}
use Rattle.std.specs.Option.{option_map_or}
use Rattle.std.specs.Map.{lookup}
use Rattle.wiki_base.specs.declared.numbers.WordId.{WordId}
use Rattle.logic_terms.specs.Interpretation.{is_word}

-- a name with its representative, where one representative gives way to another
abbrev pub renamed : WordId → WordId → WordId × WordId → WordId × WordId
renamed gone stays e = if is_word gone e.1 then (e.0, stays) else e

-- names with their representatives, where these two representatives become one: the lesser stays
abbrev pub merged : List (WordId × WordId) → WordId → WordId → List (WordId × WordId)
merged es a b = if nat_le a.0 b.0 then map (renamed b a) es else map (renamed a b) es

-- the same where two names become equal
abbrev pub joined : List (WordId × WordId) → WordId → WordId → List (WordId × WordId)
joined es one other = option_map_or (λ a. option_map_or (merged es a) (lookup (is_word other) es) es) (lookup (is_word one) es) es
