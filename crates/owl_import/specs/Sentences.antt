-- What becomes of an ontology's axioms: each is added as a sentence, or left out.
use Rattle.std.specs.Prelude.{◌≡◌, ◌⊎◌, ℕ, suc, ◌+◌, ◌<◌, ◌≤◌, List, [], ◌∷◌, ◌++◌, length, Option, Some, None, codes}
use Rattle.std.specs.Fmt.{decimal}
use Rattle.std.specs.Option.{option_or, option_and_then}
use Rattle.wiki_base.specs.declared.tokens.TheConstants.{MOST_TOKENS}
use Rattle.codeco_terms.specs.GrammarParts.{GrammarParts}
use Rattle.lexicon.specs.declared.words.Word.{Word}
use Rattle.lexicon.specs.Words.{Listed, owner, canonical_form_of}
use Rattle.derivation_trees.specs.Cutting.{shown, cut_of}
use Rattle.logic_terms.specs.Concept.{Claim}
use Rattle.verbalise.specs.Said.{said}
use Rattle.verbalise.specs.Readings.{stating, ReadsAs}
use Rattle.wiki_talk.specs.declared.limits.TheConstants.{MOST_SENTENCES}
use Rattle.wiki_talk.specs.declared.requests.Request.TheVariants as requests
use Rattle.wiki_talk.specs.declared.requests.ArticleRequest.TheVariants as of_article
use Rattle.wire_json.specs.Requests.{request_line}
use Rattle.owl_import.specs.Words.{axiom_text}

-- the tokens are the sentence of an axiom: it is said as them, they are not too many, and they are read as exactly that axiom
pub record IsSentenceOf (g : GrammarParts) (words : Listed) (claim : Claim) (tokens : List (List ℕ)) : Type 0 where
  pub is_said : said words.live claim ≡ Some tokens
  pub few : length tokens ≤ MOST_TOKENS
  pub reads : ReadsAs g words tokens (stating (claim ∷ []))

-- an axiom has no sentence
abbrev pub HasNoSentence : GrammarParts → Listed → Claim → Type 0
HasNoSentence g words claim = (tokens : List (List ℕ)) → ¬ IsSentenceOf g words claim tokens

-- the form that names the word of which the token is a form
abbrev pub word_named : List Word → List ℕ → Option (List ℕ)
word_named live token = option_and_then (canonical_form_of live) (owner live token)

-- the form that names the first word of a sentence
abbrev pub first_word : List Word → List (List ℕ) → Option (List ℕ)
first_word live [] = None
first_word live (token ∷ tokens) = option_or (word_named live token) (first_word live tokens)

-- what becomes of an axiom: it is added to the article of a word, as these tokens; or left out, with its number
pub data Fate : Type 0 where
  added : List ℕ → List (List ℕ) → Fate
  left_out : ℕ → Claim → Fate

-- how many are added
abbrev pub added_count : List Fate → ℕ
added_count [] = 0
added_count (added article tokens ∷ fates) = suc (added_count fates)
added_count (left_out n claim ∷ fates) = added_count fates

-- an axiom is added: as its sentence, to the article of its first word; and the text that shows the sentence is cut into its tokens again
pub record IsAdded (g : GrammarParts) (words : Listed) (claim : Claim) (article : List ℕ) (tokens : List (List ℕ)) : Type 0 where
  pub sentence : IsSentenceOf g words claim tokens
  pub names : first_word words.live tokens ≡ Some article
  pub again : cut_of g.terminals (shown g.terminals tokens) ≡ tokens

-- The fate of an axiom with this number, where so many are added before it. It is left out where these are `MOST_SENTENCES`, or where it has no
-- sentence.
abbrev pub IsFateAt : GrammarParts → Listed → ℕ → ℕ → Claim → Fate → Type 0
IsFateAt g words number count claim (added article tokens) = (count < MOST_SENTENCES) × IsAdded g words claim article tokens
IsFateAt g words number count claim (left_out n stated) =
    (n ≡ number) × (stated ≡ claim) × ((MOST_SENTENCES ≤ count) ⊎ HasNoSentence g words claim)

-- the fate of an axiom behind those with these fates
abbrev pub IsFate : GrammarParts → Listed → List Fate → Claim → Fate → Type 0
IsFate g words before claim fate = IsFateAt g words (length before + 1) (added_count before) claim fate

-- the fates of axioms, behind those with these fates
abbrev pub AreFates : GrammarParts → Listed → List Fate → List Claim → List Fate → Type 0
AreFates g words before [] [] = Unit {0}
AreFates g words before (claim ∷ claims) (fate ∷ fates) = IsFate g words before claim fate × AreFates g words (before ++ fate ∷ []) claims fates
AreFates g words before claims fates = ⊥

-- the line that asks for an added axiom, at the end of its article
abbrev pub add_line : GrammarParts → Fate → List ℕ
add_line g (added article tokens) = request_line (requests.OnArticle article (of_article.Add None (shown g.terminals tokens)))
add_line g (left_out n claim) = []

-- the line of an axiom that is left out: its number, and its text
abbrev pub left_line : Listed → List (List ℕ) → Fate → List ℕ
left_line words iris (added article tokens) = []
left_line words iris (left_out n claim) = decimal n ++ (codes " " ++ (axiom_text words iris claim ++ codes "\n"))
