-- What sentences state and ask is over the live names, and plain: the conditions of verdicts and answers.
use Rattle.std.proofs.Common.{◌≡◌, ℕ, ◌&&◌, ◌||◌, Bool, true, false, cond, List, [], ◌∷◌, ◌++◌, Option, Some, None, MatchBool, AllPairs, refl, sym, ap, subst, ◌∙◌}
use Rattle.std.specs.Prelude.{IsTrue, Result, Ok, Err}
use Rattle.std.specs.List.{list_all}
use Rattle.std.proofs.lemmas.List.Folds.{list_all-append}
use Rattle.std.proofs.lemmas.Bool.{or_right, and_from}
use Rattle.wiki_base.specs.declared.numbers.WordId.{WordId}
use Rattle.wiki_base.proofs.BoolLaws.{and_first, and_second}
use Rattle.wiki_base.proofs.NumberLaws.{eqb_refl}
use Rattle.codeco_terms.specs.GrammarParts.{GrammarParts}
use Rattle.codeco_checked.specs.Sound.{IsSound}
use Rattle.lexicon.specs.Words.{Listed, SharesNoForm}
use Rattle.derivation_trees.specs.declared.skeletons.Skeleton.{Skeleton}
use Rattle.derivation_trees.specs.Skeletons.{IsLeastSkeleton}
use Rattle.logic_terms.specs.declared.cause.Cause.{Cause}
use Rattle.logic_terms.specs.Concept.{Concept, Claim}
use Rattle.logic_terms.specs.Free.{free_in}
use Rattle.logic_terms.specs.Interpretation.{is_word}
use Rattle.logic_terms.specs.Plain.{is_plain, is_plain_claim, are_plain}
use Rattle.logic_terms.specs.Structure.{Structure}
use Rattle.absorb.specs.Mentioned.{names_in, names_in_claim, is_among, are_over}
use Rattle.ace_to_owl.specs.Mapping.{axioms_stated, class_asked}
use Rattle.ace_to_owl.proofs.PlainLemmas.{statement_plain, question_plain}
use Rattle.articles.specs.declared.sentences.Sentence.{Sentence}
use Rattle.articles.specs.declared.article.Article.{Article}
use Rattle.drs_build.specs.Nodes.{names_of, meaning_of}
use Rattle.drs_build.specs.Built.{is_question}
use Rattle.wiki_parts.specs.declared.meanings.Sense.{Sense}
use Rattle.plain_wiki.specs.State.{Stored}
use Rattle.plain_wiki.specs.Knowledge.{is_asserted, StatesFirst, AreStated, Knows, sentences_in, live_names}
use Rattle.wiki_parts.specs.Kept.{stated_by, known_of, known_in, meanings_in, MeanEach, MeanInEach}
use Rattle.plain_wiki.specs.Meanings.{Meaning, stating, asking, statement_by, question_by, statement_meaning, question_meaning, Means}
use Rattle.wiki_parts.proofs.Mentions.{names_pass}
use Rattle.wiki_parts.proofs.LiveNames.{names_pass_live}
use Rattle.wiki_parts.proofs.MentionLemmas.{statement_passes, question_passes}
use Rattle.wiki_parts.proofs.PassingLemmas.{words_pass, meaning_passes}

-- Names among themselves

among_more : (n : WordId) (names xs : List WordId) → list_all (is_among names) xs ≡ true → list_all (is_among (n ∷ names)) xs ≡ true
among_more n names [] h = refl
among_more n names (x ∷ xs) h =
    and_from (is_among (n ∷ names) x) (list_all (is_among (n ∷ names)) xs)
    (or_right (is_word x n) (is_among names x) (and_first (is_among names x) (list_all (is_among names) xs) h))
    (among_more n names xs (and_second (is_among names x) (list_all (is_among names) xs) h))

each_among : (names : List WordId) → list_all (is_among names) names ≡ true
each_among [] = refl
each_among (n ∷ ns) = and_from (is_among (n ∷ ns) n) (list_all (is_among (n ∷ ns)) ns) (ap (λ b. b || is_among ns n) (eqb_refl n.0))
    (among_more n ns ns (each_among ns))

-- What holds of all axioms of a structure, and of the class that it asks for, holds of its meaning.

of_class : (p : Claim → Bool) (r : Result Concept Cause) → list_all p (stated_by (question_by r)) ≡ true
of_class p (Ok c) = refl
of_class p (Err cause) = refl

of_axioms : (p : Claim → Bool) (r : Result (List Claim) Cause) → ((claims : List Claim) → r ≡ Ok claims → list_all p claims ≡ true)
    → list_all p (stated_by (statement_by r)) ≡ true
of_axioms p (Ok claims) h = h claims refl
of_axioms p (Err cause) h = refl

stated_meaning : (p : Claim → Bool) (says : Structure) (asked : ℕ) → ((claims : List Claim) → axioms_stated says ≡ Ok claims → list_all p claims ≡ true)
    → (b : Bool) (o : Option ℕ) → list_all p (stated_by (cond b (question_meaning says asked o) (statement_meaning says o))) ≡ true
stated_meaning p says asked h true None = of_class p (class_asked says asked)
stated_meaning p says asked h true (Some referent) = refl
stated_meaning p says asked h false None = of_axioms p (axioms_stated says) h
stated_meaning p says asked h false (Some referent) = refl

-- the class that is asked for, if one is, passes
abbrev class_passes : (Concept → Bool) → Meaning → Bool
class_passes q (asking concept) = q concept
class_passes _ _ = true

of_asked : (q : Concept → Bool) (r : Result Concept Cause) → ((c : Concept) → r ≡ Ok c → q c ≡ true) → class_passes q (question_by r) ≡ true
of_asked q (Ok c) h = h c refl
of_asked q (Err cause) h = refl

of_stated : (q : Concept → Bool) (r : Result (List Claim) Cause) → class_passes q (statement_by r) ≡ true
of_stated q (Ok claims) = refl
of_stated q (Err cause) = refl

asked_meaning : (q : Concept → Bool) (says : Structure) (asked : ℕ) → ((c : Concept) → class_asked says asked ≡ Ok c → q c ≡ true)
    → (b : Bool) (o : Option ℕ) → class_passes q (cond b (question_meaning says asked o) (statement_meaning says o)) ≡ true
asked_meaning q says asked h true None = of_asked q (class_asked says asked) h
asked_meaning q says asked h true (Some referent) = refl
asked_meaning q says asked h false None = of_stated q (axioms_stated says)
asked_meaning q says asked h false (Some referent) = refl

-- the axioms and the class of a sentence are plain
pub stated_plain : (g : GrammarParts) (words : Listed) (tokens : List (List ℕ)) (m : Meaning) → Means g words tokens m → are_plain (stated_by m) ≡ true
stated_plain g words tokens m means =
    let says : Structure = (meaning_of g means.least).says in
    ap (λ x. are_plain (stated_by x)) means.is
    ∙ stated_meaning is_plain_claim says (meaning_of g means.least).referent (λ claims e. statement_plain says claims e) (is_question g means.least)
    (free_in [] says)

pub asked_plain : (g : GrammarParts) (words : Listed) (tokens : List (List ℕ)) (c : Concept) → Means g words tokens (asking c) → is_plain c ≡ true
asked_plain g words tokens c means =
    let says : Structure = (meaning_of g means.least).says in
    let asked : ℕ = (meaning_of g means.least).referent in
    ap (class_passes is_plain) means.is ∙ asked_meaning is_plain says asked (λ x e. question_plain says asked x e) (is_question g means.least) (free_in [] says)

-- in a sound grammar, with words that share no form, the names in the axioms and in the class of a sentence are live names
module _ (g : GrammarParts) (sound : IsSound g) (words : Listed) (apart : AllPairs SharesNoForm words.live) where
  abbrev is_live : WordId → Bool
  is_live = is_among (live_names words)

  -- the names in the structure of tokens
  pub structure_over : (tokens : List (List ℕ)) (least : Skeleton) → IsLeastSkeleton g words tokens least → names_pass is_live (meaning_of g least).says ≡ true
  structure_over tokens least is =
      meaning_passes is_live g least (record { lexicon = words; tokens = tokens; tree = is.tree; derives = is.derives; is = is.is })
      (subst (λ sk. words_pass is_live (names_of g sk) ≡ true) (sym is.is)
      (names_pass_live is_live g sound words apart (each_among (live_names words)) tokens is.tree is.derives))

  pub stated_over : (tokens : List (List ℕ)) (m : Meaning) → Means g words tokens m → are_over (live_names words) (stated_by m) ≡ true
  stated_over tokens m means =
      let says : Structure = (meaning_of g means.least).says in
      ap (λ x. are_over (live_names words) (stated_by x)) means.is
      ∙ stated_meaning (λ claim. list_all is_live (names_in_claim claim)) says (meaning_of g means.least).referent
      (λ claims e. statement_passes is_live says claims (structure_over tokens means.least means.is_least) e) (is_question g means.least) (free_in [] says)

  pub asked_over : (tokens : List (List ℕ)) (c : Concept) → Means g words tokens (asking c) → list_all is_live (names_in c) ≡ true
  asked_over tokens c means =
      let says : Structure = (meaning_of g means.least).says in
      let asked : ℕ = (meaning_of g means.least).referent in
      ap (class_passes (λ x. list_all is_live (names_in x))) means.is
      ∙ asked_meaning (λ x. list_all is_live (names_in x)) says asked
      (λ x e. question_passes is_live says asked x (structure_over tokens means.least means.is_least) e) (is_question g means.least) (free_in [] says)

-- What the axioms of each sentence pass, those of many pass.
module _ (g : GrammarParts) (words : Listed) (p : Claim → Bool)
    (each : (tokens : List (List ℕ)) (m : Meaning) → Means g words tokens m → list_all p (stated_by m) ≡ true) where
  joined : (cs ds : List Claim) → list_all p cs ≡ true → list_all p ds ≡ true → list_all p (cs ++ ds) ≡ true
  joined cs ds h k = list_all-append p cs ds ∙ and_from (list_all p cs) (list_all p ds) h k

  pub known_of_pass : (sentences : List Sentence) (meanings : List Meaning) → MeanEach g words sentences meanings
      → list_all p (known_of sentences meanings) ≡ true
  known_of_pass [] meanings mean = refl
  known_of_pass (s ∷ ss) [] mean = refl
  known_of_pass (s ∷ ss) (m ∷ ms) mean =
      joined (cond (is_asserted s.status) (stated_by m) []) (known_of ss ms) (by (is_asserted s.status)) (known_of_pass ss ms mean.1)
    where
      by : (b : Bool) → list_all p (cond b (stated_by m) []) ≡ true
      by true = each s.tokens m mean.0.0
      by false = refl

  pub known_in_pass : (articles : List Article) (senses : List (List Sense)) → MeanInEach g words articles senses → list_all p (known_in articles senses) ≡ true
  known_in_pass [] senses mean = refl
  known_in_pass (article ∷ articles) [] mean = refl
  known_in_pass (article ∷ articles) (own ∷ others) mean =
      joined (known_of article.sentences (meanings_in own)) (known_in articles others) (known_of_pass article.sentences (meanings_in own) mean.0)
      (known_in_pass articles others mean.1)

  pub are_stated_pass : (sentences : List Sentence) (claims : List Claim) → AreStated g words sentences claims → list_all p claims ≡ true
  are_stated_pass [] claims stated = ap (list_all p) stated
  are_stated_pass (s ∷ ss) claims stated = by (λ cs x. are_stated_pass ss cs x) (is_asserted s.status) stated
    where
      by : ((cs : List Claim) → AreStated g words ss cs → list_all p cs ≡ true)
          → (b : Bool) → MatchBool b (StatesFirst g words s.tokens (AreStated g words ss) claims) (AreStated g words ss claims) → list_all p claims ≡ true
      by later true x = ap (list_all p) x.joined ∙ joined x.own x.rest (each s.tokens (stating x.own) x.means) (later x.rest x.follow)
      by later false x = later claims x

-- what is kept of all sentences is over the live names, and plain
pub known_over : (g : GrammarParts) (words : Listed) (articles : List Article) (senses : List (List Sense)) → IsSound g → AllPairs SharesNoForm words.live
    → MeanInEach g words articles senses → are_over (live_names words) (known_in articles senses) ≡ true
known_over g words articles senses sound apart mean =
    known_in_pass g words (λ claim. list_all (is_among (live_names words)) (names_in_claim claim)) (stated_over g sound words apart) articles senses mean

pub known_plain : (g : GrammarParts) (words : Listed) (articles : List Article) (senses : List (List Sense)) → MeanInEach g words articles senses
    → are_plain (known_in articles senses) ≡ true
known_plain g words articles senses mean = known_in_pass g words is_plain_claim (stated_plain g words) articles senses mean

-- what a wiki knows is over its live names, and plain
pub knows_over : (state : Stored) (claims : List Claim) → IsSound state.grammar → AllPairs SharesNoForm state.words.live → Knows state claims
    → are_over (live_names state.words) claims ≡ true
knows_over state claims sound apart knows =
    are_stated_pass state.grammar state.words (λ claim. list_all (is_among (live_names state.words)) (names_in_claim claim))
    (stated_over state.grammar sound state.words apart) (sentences_in state.articles) claims knows

pub knows_plain : (state : Stored) (claims : List Claim) → Knows state claims → are_plain claims ≡ true
knows_plain state claims knows = are_stated_pass state.grammar state.words is_plain_claim (stated_plain state.grammar state.words) (sentences_in state.articles)
    claims knows

-- The conditions of `judged` and of `answers_of`, where the names are the live ones and the axioms those that are kept.
module _ (g : GrammarParts) (words : Listed) (articles : List Article) (senses : List (List Sense)) (sound : IsSound g)
    (apart : AllPairs SharesNoForm words.live) (mean : MeanInEach g words articles senses)
    (names : List WordId) (claims : List Claim) (are_names : names ≡ live_names words) (are_known : claims ≡ known_in articles senses) where
  pub verdict_over : IsTrue (are_over names claims)
  verdict_over = ap (λ ns. are_over ns claims) are_names ∙ ap (are_over (live_names words)) are_known ∙ known_over g words articles senses sound apart mean

  pub verdict_plain : IsTrue (are_plain claims)
  verdict_plain = ap are_plain are_known ∙ known_plain g words articles senses mean

  module _ (tokens : List (List ℕ)) (concept : Concept) (means : Means g words tokens (asking concept)) where
    pub answers_over : IsTrue (are_over names claims && list_all (is_among names) (names_in concept))
    answers_over =
        and_from (are_over names claims) (list_all (is_among names) (names_in concept)) verdict_over
        (ap (λ ns. list_all (is_among ns) (names_in concept)) are_names ∙ asked_over g sound words apart tokens concept means)

    pub answers_plain : IsTrue (are_plain claims && is_plain concept)
    answers_plain = and_from (are_plain claims) (is_plain concept) verdict_plain (asked_plain g words tokens concept means)
