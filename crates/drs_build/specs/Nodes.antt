-- The structure of a skeleton, by recursion on it.
use Rattle.std.specs.Prelude.{ℕ, ◌+◌, ◌==◌, Bool, true, false, not, List, [], ◌∷◌, ◌++◌, map, filter, flat_map, slice_index, slice_index_or, slice_get, Option, option_and_then, if◌then◌else◌}
use Rattle.std.specs.Option.{option_map_or}
use Rattle.wiki_base.specs.declared.numbers.WordId.{WordId}
use Rattle.codeco_terms.specs.declared.elements.Element.{Element}
use Rattle.codeco_terms.specs.declared.elements.Element.TheVariants.{Terminal, Preterminal, Sub, Forward, Strong}
use Rattle.codeco_terms.specs.declared.rules.Label.{Label}
use Rattle.codeco_checked.specs.declared.labels.Words.{Words}
use Rattle.codeco_checked.specs.declared.labels.Words.TheVariants as words
use Rattle.codeco_checked.specs.Labels.{label_row, is_mark_rule}
use Rattle.codeco_terms.specs.GrammarParts.{GrammarParts}
use Rattle.logic_terms.specs.declared.structures.Thing.{Thing}
use Rattle.logic_terms.specs.declared.structures.Thing.TheVariants as thing
use Rattle.derivation_trees.specs.declared.skeletons.Skeleton.{Skeleton, out-Skeleton}
use Rattle.derivation_trees.specs.declared.skeletons.Skeleton.TheOpen.{Skeleton-F}
use Rattle.derivation_trees.specs.declared.skeletons.Skeleton.TheFolds.{fold-Skeleton}
use Rattle.derivation_trees.specs.Derives.{rule_with}
use Rattle.derivation_trees.specs.Sketches.{body_of}
use Rattle.drs_build.specs.Meanings.{Meaning, nothing, Made, meaning}

-- the label of the rule with this number
abbrev pub label_of : GrammarParts → ℕ → Option Label
label_of g number = option_and_then (λ r. r.label) (rule_with g number)

-- The position of the referent that a body introduces: the number of tokens before its `>` or `>>`, where the body begins
-- behind so many tokens and its children end behind these.
abbrev pub introduced_at : List Element → ℕ → List ℕ → ℕ
introduced_at [] place ends = place
introduced_at (Terminal t ∷ es) place ends = introduced_at es (place + 1) ends
introduced_at (Preterminal c ∷ es) place ends = introduced_at es (place + 1) ends
introduced_at (Sub c ∷ es) place [] = introduced_at es place []
introduced_at (Sub c ∷ es) place (end ∷ ends) = introduced_at es end ends
introduced_at (Forward c ∷ es) place ends = place
introduced_at (Strong c ∷ es) place ends = place
introduced_at (_ ∷ es) place ends = introduced_at es place ends

-- Names with their positions

-- the label is name: the one whose word is a name
abbrev pub is_name : Words → Bool
is_name words.Name = true
is_name _ = false

abbrev pub is_naming : Option Label → Bool
is_naming o = option_map_or (λ l. is_name (label_row l).words) o false

abbrev pub no_word : WordId
no_word = record { 0 = 0 }

-- the end of a phrase, and the names in it
pub record Named : Type 0 where
  pub end : ℕ
  pub names : List (ℕ × WordId)

-- the name that a phrase itself introduces, with its position
abbrev pub own_name : GrammarParts → ℕ → ℕ → List WordId → List ℕ → List (ℕ × WordId)
own_name g number start words ends =
    if is_naming (label_of g number) then (introduced_at (body_of g number) start ends, slice_index_or words 0 no_word) ∷ [] else []

abbrev pub named_layer : GrammarParts → Skeleton-F Named → Named
named_layer g layer = record {
  end = layer.end;
  names = own_name g layer.rule layer.start layer.words (map (λ c. c.end) layer.children) ++ flat_map (λ c. c.names) layer.children;
}

unfoldable pub named : GrammarParts → Skeleton → Named
named g = fold-Skeleton Named (named_layer g)

-- the names of a skeleton, each with the position at which it is introduced
abbrev pub names_of : GrammarParts → Skeleton → List (ℕ × WordId)
names_of g sk = (named g sk).names

-- the name that is introduced at the position, else the referent of the position
abbrev pub term_at : List (ℕ × WordId) → ℕ → Thing
term_at [] p = thing.Ref p
term_at (n ∷ ns) p = if n.0 == p then thing.Name n.1 else term_at ns p

-- Meanings

-- where a phrase ends, whether it is no mark, and what it means
pub record Phrase : Type 0 where
  pub end : ℕ
  pub is_meant : Bool
  pub meaning : Meaning

-- the meanings of the phrases that are no marks
abbrev pub meant : List Phrase → List Meaning
meant [] = []
meant (c ∷ cs) = if c.is_meant then c.meaning ∷ meant cs else meant cs

-- a rule whose phrases are no marks
abbrev pub is_meant : GrammarParts → ℕ → Bool
is_meant g number = option_map_or (λ r. not (is_mark_rule r)) (rule_with g number) true

-- what the meaning of a phrase is made of, where these names stand in the text
abbrev pub made : GrammarParts → List (ℕ × WordId) → ℕ → ℕ → List ℕ → List WordId → List Phrase → Made
made g names number start found words children = record {
  first = slice_index_or (meant children) 0 nothing;
  second = slice_index_or (meant children) 1 nothing;
  word = slice_index_or words 0 no_word;
  other_word = slice_index_or words 1 no_word;
  here = introduced_at (body_of g number) start (map (λ c. c.end) children);
  found = term_at names (slice_index found 0);
}

abbrev pub phrase_layer : GrammarParts → List (ℕ × WordId) → Skeleton-F Phrase → Phrase
phrase_layer g names layer = record {
  end = layer.end;
  is_meant = is_meant g layer.rule;
  meaning = option_map_or (λ l. meaning l (made g names layer.rule layer.start layer.found layer.words layer.children)) (label_of g layer.rule) nothing;
}

-- a skeleton as a phrase of a text with these names
unfoldable pub phrase_in : GrammarParts → List (ℕ × WordId) → Skeleton → Phrase
phrase_in g names = fold-Skeleton Phrase (phrase_layer g names)

abbrev pub meaning_in : GrammarParts → List (ℕ × WordId) → Skeleton → Meaning
meaning_in g names sk = (phrase_in g names sk).meaning

-- The same by the parts of a skeleton.

-- where the children of a skeleton end
abbrev pub ends_of : List Skeleton → List ℕ
ends_of children = map (λ c. (out-Skeleton c).end) children

-- the position of the referent that the skeleton's own rule introduces
abbrev pub position_in : GrammarParts → Skeleton → ℕ
position_in g sk = introduced_at (body_of g (out-Skeleton sk).rule) (out-Skeleton sk).start (ends_of (out-Skeleton sk).children)

-- the name that a skeleton's own rule introduces, with its position
abbrev pub own_name_in : GrammarParts → Skeleton → List (ℕ × WordId)
own_name_in g sk = own_name g (out-Skeleton sk).rule (out-Skeleton sk).start (out-Skeleton sk).words (ends_of (out-Skeleton sk).children)

-- those of the skeletons that are no marks
abbrev pub meant_among : GrammarParts → List Skeleton → List Skeleton
meant_among g sks = filter (λ c. is_meant g (out-Skeleton c).rule) sks

-- the children that are no marks
abbrev pub meant_children : GrammarParts → Skeleton → List Skeleton
meant_children g sk = meant_among g (out-Skeleton sk).children

-- the meaning of the child of this number among those that are no marks
abbrev pub child_meaning : GrammarParts → List (ℕ × WordId) → Skeleton → ℕ → Meaning
child_meaning g names sk n = option_map_or (meaning_in g names) (slice_get (meant_children g sk) n) nothing

abbrev pub made_in : GrammarParts → List (ℕ × WordId) → Skeleton → Made
made_in g names sk = record {
  first = child_meaning g names sk 0;
  second = child_meaning g names sk 1;
  word = slice_index_or (out-Skeleton sk).words 0 no_word;
  other_word = slice_index_or (out-Skeleton sk).words 1 no_word;
  here = position_in g sk;
  found = term_at names (slice_index (out-Skeleton sk).found 0);
}

-- the meaning of a text
abbrev pub meaning_of : GrammarParts → Skeleton → Meaning
meaning_of g sk = meaning_in g (names_of g sk) sk
