-- What is made of a whole file.
use Rattle.std.proofs.Common.{◌≡◌, ℕ, List, [], ◌++◌, ap, subst, ◌∙◌}
use Rattle.std.specs.List.{flat_map}
use Rattle.codeco_terms.specs.GrammarParts.{GrammarParts}
use Rattle.lexicon.specs.Words.{Listed}
use Rattle.logic_terms.specs.Concept.{Claim}
use Rattle.owl_reader.specs.declared.kinds.Entity.{Entity}
use Rattle.owl_import.specs.Imported.{MakesLines}
use Rattle.owl_import.specs.Sentences.{add_line, left_line}
use Rattle.owl_import.specs.Steps.{Written, SortsAll}
use Rattle.owl_import.specs.Words.{AreWordsOf, word_lines, wordless}

-- words were made of the entities, their lines were written, and behind these the axioms were sorted
pub makes_lines : (g : GrammarParts) (entities : List Entity) (claims : List Claim) (naming words : Listed) (iris : List (List ℕ)) (start end : Written)
    (word_text requests told : List ℕ)
    → AreWordsOf g entities naming → words ≡ naming → iris ≡ wordless entities → start ≡ record { requests = word_text; left_out = []; count = 0 }
    → word_text ≡ word_lines words → SortsAll g words iris claims start end → requests ≡ end.requests → told ≡ end.left_out
    → MakesLines g entities claims requests told
makes_lines g entities claims naming words iris start end word_text requests told named same_words same_iris fresh asked all is_asked is_told =
    let sorts = subst (λ (i : List (List ℕ)). SortsAll g naming i claims start end) same_iris
    (subst (λ (w : Listed). SortsAll g w iris claims start end) same_words all) in
    record {
      words = naming;
      named = named;
      fates = sorts.fates;
      each = sorts.each;
      asked = is_asked ∙ ap (λ (w : Written). w.requests) sorts.written
          ∙ ap (λ (w : Written). w.requests ++ flat_map (add_line g) sorts.fates) fresh
          ∙ ap (λ (l : List ℕ). l ++ flat_map (add_line g) sorts.fates) (asked ∙ ap word_lines same_words);
      told = is_told ∙ ap (λ (w : Written). w.left_out) sorts.written
          ∙ ap (λ (w : Written). w.left_out ++ flat_map (left_line naming (wordless entities)) sorts.fates) fresh;
    }
