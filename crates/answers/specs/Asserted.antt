-- Knowledge with one more assertion. Only private calls speak of it.
use Rattle.std.specs.Prelude.{[], ◌∷◌, ◌++◌}
use Rattle.wiki_base.specs.declared.numbers.WordId.{WordId}
use Rattle.logic_terms.specs.Concept.{Concept}
use Rattle.logic_terms.specs.Theory.{Theory}

-- the knowledge with a name in a class, behind the other assertions
abbrev pub with_assertion : Theory → WordId → Concept → Theory
with_assertion k name c = record {
  names = k.names;
  hierarchy = k.hierarchy;
  transitive = k.transitive;
  assertions = k.assertions ++ (name, c) ∷ [];
  edges = k.edges;
  differences = k.differences;
  unfoldings = k.unfoldings;
  general = k.general;
}
