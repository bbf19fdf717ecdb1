-- Tokens have one meaning, and a wiki knows one list of axioms.
use Rattle.std.proofs.Common.{◌≡◌, ℕ, Bool, true, false, List, [], ◌∷◌, ◌++◌, MatchBool, sym, ap, ◌∙◌}
use Rattle.codeco_terms.specs.GrammarParts.{GrammarParts}
use Rattle.lexicon.specs.Words.{Listed}
use Rattle.logic_terms.specs.Concept.{Claim}
use Rattle.derivation_trees.specs.Sentences.{setting_of}
use Rattle.articles.specs.declared.sentences.Sentence.{Sentence}
use Rattle.plain_wiki.specs.State.{Stored}
use Rattle.plain_wiki.specs.Meanings.{Meaning, stating, Means, skeleton_meaning}
use Rattle.plain_wiki.specs.Knowledge.{is_asserted, StatesFirst, AreStated, Knows, sentences_in}
use Rattle.derivations.proofs.UniqueLemmas.{least_unique}

-- tokens have at most one meaning
pub means_one : (g : GrammarParts) (words : Listed) (tokens : List (List ℕ)) (one other : Meaning) → Means g words tokens one → Means g words tokens other
    → one ≡ other
means_one g words tokens one other a b =
    a.is ∙ ap (skeleton_meaning g) (least_unique (setting_of g words tokens) b.least a.least b.is_least a.is_least) ∙ sym b.is

stating_same : (cs ds : List Claim) → stating cs ≡ stating ds → cs ≡ ds
stating_same cs ds e = cc

-- sentences state at most one list of axioms
pub stated_one : (g : GrammarParts) (words : Listed) (sentences : List Sentence) (one other : List Claim) → AreStated g words sentences one
    → AreStated g words sentences other → one ≡ other
stated_one g words [] one other a b = a ∙ sym b
stated_one g words (sentence ∷ sentences) one other a b = by (is_asserted sentence.status) (λ cs ds x y. stated_one g words sentences cs ds x y) a b
  where
    by : (asserted : Bool)
        → ((cs ds : List Claim) → AreStated g words sentences cs → AreStated g words sentences ds → cs ≡ ds)
        → MatchBool asserted (StatesFirst g words sentence.tokens (AreStated g words sentences) one) (AreStated g words sentences one)
        → MatchBool asserted (StatesFirst g words sentence.tokens (AreStated g words sentences) other) (AreStated g words sentences other)
        → one ≡ other
    by true behind x y =
        let own : x.own ≡ y.own = stating_same x.own y.own (means_one g words sentence.tokens (stating x.own) (stating y.own) x.means y.means) in
        let rest : x.rest ≡ y.rest = behind x.rest y.rest x.follow y.follow in
        x.joined ∙ ap (λ cs. cs ++ x.rest) own ∙ ap (λ cs. y.own ++ cs) rest ∙ sym y.joined
    by false behind x y = behind one other x y

-- a wiki knows at most one list of axioms
pub knows_one : (state : Stored) (one other : List Claim) → Knows state one → Knows state other → one ≡ other
knows_one state one other a b = stated_one state.grammar state.words (sentences_in state.articles) one other a b
