-- What a contract sees of pieces. Only private calls speak of it.
use Rattle.logic_terms.specs.Shown.{concepts_of}
use Rattle.logic_terms.specs.Known.{stated}
use Rattle.absorb.specs.declared.pieces.Pieces.{Pieces}
use Rattle.absorb.specs.Sorted.{Sorted}

abbrev pub found : Pieces → Sorted
found pieces = record {
  equalities = pieces.equalities.items;
  role_inclusions = pieces.role_inclusions.items;
  assertions = stated pieces.assertions.items;
  edges = pieces.edges.items;
  differences = pieces.differences.items;
  transitive = pieces.transitive.items;
  unfoldings = stated pieces.unfoldings.items;
  general = concepts_of pieces.general;
}
