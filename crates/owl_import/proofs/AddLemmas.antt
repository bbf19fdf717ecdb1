-- The line that adds a sentence.
use Rattle.std.proofs.Common.{◌≡◌, ℕ, List, ◌++◌, Some, None, ap, ◌∙◌}
use Rattle.codeco_terms.specs.GrammarParts.{GrammarParts}
use Rattle.lexicon.specs.Words.{Listed}
use Rattle.derivation_trees.specs.Cutting.{shown, cut_of}
use Rattle.wiki_talk.specs.declared.requests.Request.TheVariants as requests
use Rattle.wiki_talk.specs.declared.requests.ArticleRequest.TheVariants as of_article
use Rattle.wire_json.specs.Requests.{request_line}
use Rattle.owl_import.specs.Sentences.{first_word}
use Rattle.owl_import.specs.Steps.{AddsLine}

pub adds_line : (g : GrammarParts) (words : Listed) (tokens : List (List ℕ)) (old new line article its_article text : List ℕ)
    → first_word words.live tokens ≡ Some article → cut_of g.terminals (shown g.terminals tokens) ≡ tokens → its_article ≡ article
    → text ≡ shown g.terminals tokens → line ≡ request_line (requests.OnArticle its_article (of_article.Add None text)) → new ≡ old ++ line
    → AddsLine g words tokens old new
adds_line g words tokens old new line article its_article text names again is_article is_text is_line written = record {
  article = article;
  names = names;
  again = again;
  written = written ∙ ap (λ (l : List ℕ). old ++ l) (is_line ∙ ap (λ (a : List ℕ). request_line (requests.OnArticle a (of_article.Add None text))) is_article
      ∙ ap (λ (t : List ℕ). request_line (requests.OnArticle article (of_article.Add None t))) is_text);
}
