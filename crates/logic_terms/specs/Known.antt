-- What a contract sees of knowledge.
use Rattle.std.specs.Prelude.{List, map}
use Rattle.wiki_base.specs.declared.numbers.WordId.{WordId}
use Rattle.logic_terms.specs.declared.expressions.Class.{Class}
use Rattle.logic_terms.specs.declared.knowledge.Knowledge.{Knowledge}
use Rattle.logic_terms.specs.Concept.{Concept}
use Rattle.logic_terms.specs.Shown.{concept_of, concepts_of}
use Rattle.logic_terms.specs.Theory.{Theory}

-- words with classes, as words with concepts
abbrev pub stated : List (WordId × Class) → List (WordId × Concept)
stated entries = map (λ e. (e.0, concept_of e.1)) entries

-- the theory that knowledge shows
abbrev pub theory_of : Knowledge → Theory
theory_of k = record {
  names = k.names.items;
  hierarchy = k.hierarchy.items;
  transitive = k.transitive.items;
  assertions = stated k.assertions.items;
  edges = k.edges.items;
  differences = k.differences.items;
  unfoldings = stated k.unfoldings.items;
  general = concepts_of k.general;
}
