-- Which case there is, and that there is none.
use Rattle.std.proofs.Common.{◌≡◌, ◌&&◌, inl, inr, ℕ, ◌≤◌, Bool, true, false, List, [], ◌∷◌, ◌++◌, map, length, take, Option, Some, None, refl, sym, ap, subst, ◌∙◌, append-nil, IsTrue}
use Rattle.std.specs.Prelude.{option_map, IfSome}
use Rattle.std.proofs.lemmas.Bool.{false≢true}
use Rattle.std.proofs.lemmas.Option.{none-some, same_Some}
use Rattle.wiki_base.proofs.BoolLaws.{and_second}
use Rattle.wiki_base.specs.declared.numbers.Place.{Place}
use Rattle.wiki_base.specs.declared.numbers.WordId.{WordId}
use Rattle.absorb.specs.Mentioned.{is_among, are_over, names_in}
use Rattle.logic_terms.specs.Plain.{is_plain, are_plain}
use Rattle.logic_terms.proofs.ComplementLemmas.{is_normal-complement, is_wide-complement}
use Rattle.absorb.proofs.NamedLemmas.{names_in-complement}
use Rattle.std.specs.List.{list_all}
use Rattle.logic_terms.specs.Complement.{complement, is_normal, is_wide}
use Rattle.logic_terms.specs.Concept.{Concept, Claim, ClassAssertion}
use Rattle.logic_terms.specs.declared.expressions.Class.{Class}
use Rattle.logic_terms.specs.Shown.{concept_of}
use Rattle.articles.specs.declared.sentences.Sentence.{Sentence}
use Rattle.articles.specs.Articles.{sentence_at}
use Rattle.plain_wiki.specs.State.{Stored}
use Rattle.plain_wiki.specs.Knowledge.{live_names}
use Rattle.plain_wiki.specs.Meanings.{Meaning, asking, Means}
use Rattle.plain_wiki.specs.Places.{word_named}
use Rattle.plain_wiki.specs.Causes.{may_reassert}
use Rattle.wiki_parts.proofs.MeaningLemmas.{means_one}
use Rattle.wiki_core.specs.declared.meaning.Meaning.{Meaning as Told}
use Rattle.wiki_core.specs.Parts.{asked_by, IsMeaningAt, IsFitClass}
use Rattle.retelling.specs.Cases.{AsksFor, TellsCounted}
use Rattle.retelling.specs.Why.{IsRedCase, IsAnswerCase, IsRedCaseOf, IsAnswerCaseOf, TellsOf, TellsCase}

-- there is no case
pub no_case_told : (state : Stored) (budget : ℕ) (Case : List Place → List (List Claim) → Type 0) (text told : List ℕ)
    → ((places : List Place) (parts : List (List Claim)) → ¬ Case places parts) → text ≡ told
    → ((places : List Place) → (parts : List (List Claim)) → ¬ Case places parts) × (text ≡ told)
no_case_told state budget Case text told none is = (none, is)

module _ (state : Stored) where
  -- ---- a sentence

  -- no word has the form
  pub no_word : (form : List ℕ) (at : ℕ) → word_named state form ≡ None → (places : List Place) (parts : List (List Claim))
      → IsRedCaseOf state form at places parts → ⊥
  no_word form at none places parts is = none-some is.word (sym none ∙ is.named)

  -- the case of the word that has the form
  pub of_word : (budget : ℕ) (form : List ℕ) (at : ℕ) (word : WordId) (text : List ℕ) → word_named state form ≡ Some word
      → TellsCase state budget (IsRedCase state word at) text → TellsCase state budget (IsRedCaseOf state form at) text
  of_word budget form at word text named (inl is) = inl (is.0, is.1, record { word = word; named = named; is = is.2 }, is.3)
  of_word budget form at word text named (inr none) = inr (
    (λ places parts is. none.0 places parts
        (subst (λ (w : WordId). IsRedCase state w at places parts) (same_Some is.word word (sym is.named ∙ named)) is.is)),
    none.1,
  )

  -- no sentence is there
  pub no_sentence : (word : WordId) (at : ℕ) → sentence_at state.articles word at ≡ None → (places : List Place) (parts : List (List Claim))
      → IsRedCase state word at places parts → ⊥
  no_sentence word at none places parts is = none-some is.sentence (sym none ∙ is.there)

  -- the sentence isn't one that states axioms and isn't asserted
  pub not_red : (word : WordId) (at : ℕ) (sentence : Sentence) → sentence_at state.articles word at ≡ Some sentence → may_reassert sentence.status ≡ false
      → (places : List Place) (parts : List (List Claim)) → IsRedCase state word at places parts → ⊥
  not_red word at sentence there not places parts is =
      let same : is.sentence ≡ sentence = same_Some is.sentence sentence (sym is.there ∙ there) in
      false≢true (sym not ∙ ap (λ (s : Sentence). may_reassert s.status) (sym same) ∙ is.back)

  -- the sentence is one of those
  pub is_red : (budget : ℕ) (word : WordId) (at : ℕ) (sentence : Sentence) (text : List ℕ) → sentence_at state.articles word at ≡ Some sentence
      → may_reassert sentence.status ≡ true
      → TellsCounted state budget (Some (record { article = word; at = at })) [] text → TellsCase state budget (IsRedCase state word at) text
  is_red budget word at sentence text there back counted = inl (
    counted.places,
    counted.own,
    record { sentence = sentence; there = there; back = back; are = counted.are; stated = counted.stated },
    subst (λ (parts : List (List Claim)). TellsOf state budget counted.places parts text) (append-nil counted.own) counted.tells,
  )

  -- ---- a question and a name

  pub no_article : (form : List ℕ) (at : ℕ) (name : List ℕ) → word_named state form ≡ None → (places : List Place) (parts : List (List Claim))
      → IsAnswerCaseOf state form at name places parts → ⊥
  no_article form at name none places parts is = none-some is.word (sym none ∙ is.named)

  pub no_other : (form : List ℕ) (at : ℕ) (name : List ℕ) → word_named state name ≡ None → (places : List Place) (parts : List (List Claim))
      → IsAnswerCaseOf state form at name places parts → ⊥
  no_other form at name none places parts is = none-some is.other (sym none ∙ is.named_so)

  pub of_words : (budget : ℕ) (form : List ℕ) (at : ℕ) (name : List ℕ) (word other : WordId) (text : List ℕ) → word_named state form ≡ Some word
      → word_named state name ≡ Some other
      → TellsCase state budget (IsAnswerCase state word at other) text → TellsCase state budget (IsAnswerCaseOf state form at name) text
  of_words budget form at name word other text named named_so (inl is) =
      inl (is.0, is.1, record { word = word; named = named; other = other; named_so = named_so; is = is.2 }, is.3)
  of_words budget form at name word other text named named_so (inr none) = inr (
    (λ places parts is. none.0 places parts
        (subst (λ (w : WordId). IsAnswerCase state w at other places parts) (same_Some is.word word (sym is.named ∙ named))
        (subst (λ (o : WordId). IsAnswerCase state is.word at o places parts) (same_Some is.other other (sym is.named_so ∙ named_so)) is.is))),
    none.1,
  )

  pub no_question : (word : WordId) (at : ℕ) (name : WordId) → sentence_at state.articles word at ≡ None → (places : List Place) (parts : List (List Claim))
      → IsAnswerCase state word at name places parts → ⊥
  no_question word at name none places parts is = none-some is.sentence (sym none ∙ is.there)

  -- the sentence asks for no class
  pub asks_nothing : (word : WordId) (at : ℕ) (name : WordId) (told : Told) → IsMeaningAt state word at told → told.class ≡ None
      → (places : List Place) (parts : List (List Claim)) → IsAnswerCase state word at name places parts → ⊥
  asks_nothing word at name told meaning none places parts is =
      let same : is.sentence ≡ meaning.sentence = same_Some is.sentence meaning.sentence (sym is.there ∙ meaning.there) in
      let asks : Means state.grammar state.words meaning.sentence.tokens (asking is.concept) =
      subst (λ (s : Sentence). Means state.grammar state.words s.tokens (asking is.concept)) same is.asks in
      let one : meaning.is.meaning ≡ asking is.concept =
      means_one state.grammar state.words meaning.sentence.tokens meaning.is.meaning (asking is.concept) meaning.is.means asks in
      none-some is.concept (sym (ap (option_map concept_of) none) ∙ meaning.is.class ∙ ap asked_by one)

  -- the class that the sentence asks for
  pub asks_class : (word : WordId) (at : ℕ) (told : Told) (class : Class) → IsMeaningAt state word at told → told.class ≡ Some class
      → AsksFor state word at class × IsFitClass state.words class
  asks_class word at told class meaning some =
      let says : asked_by meaning.is.meaning ≡ Some (concept_of class) = sym meaning.is.class ∙ ap (option_map concept_of) some in
      let asks : meaning.is.meaning ≡ asking (concept_of class) = asking_so meaning.is.meaning (concept_of class) says in (
        record {
          sentence = meaning.sentence;
          there = meaning.there;
          asks = subst (λ (m : Meaning). Means state.grammar state.words meaning.sentence.tokens m) asks meaning.is.means;
        },
        fit_so told.class class some meaning.is.fit,
      )
    where
      asking_so : (m : Meaning) (concept : Concept) → asked_by m ≡ Some concept → m ≡ asking concept
      asking_so (asking other) concept e = ap asking (same_Some other concept e)
      asking_so m concept e = absurd (none-some concept e)

      fit_so : (o : Option Class) (c : Class) → o ≡ Some c → IfSome o (IsFitClass state.words) → IsFitClass state.words c
      fit_so None c e fit = absurd (none-some c e)
      fit_so (Some d) c e fit = subst (IsFitClass state.words) (same_Some d c e) fit

  -- the word isn't a live name
  pub not_live : (word : WordId) (at : ℕ) (name : WordId) → is_among (live_names state.words) name ≡ false → (places : List Place)
      → (parts : List (List Claim)) → IsAnswerCase state word at name places parts → ⊥
  not_live word at name not places parts is = false≢true (sym not ∙ is.lives)

  -- the question asks for the class, and the name is live
  pub is_answer : (budget : ℕ) (word : WordId) (at : ℕ) (name : WordId) (class : Class) (text : List ℕ) → AsksFor state word at class
      → is_among (live_names state.words) name ≡ true
      → TellsCounted state budget None ((ClassAssertion (complement (concept_of class)) name ∷ []) ∷ []) text
      → TellsCase state budget (IsAnswerCase state word at name) text
  is_answer budget word at name class text asks lives counted = inl (
    counted.places,
    counted.own ++ (ClassAssertion (complement (concept_of class)) name ∷ []) ∷ [],
    record {
      sentence = asks.sentence;
      there = asks.there;
      concept = concept_of class;
      asks = asks.asks;
      lives = lives;
      are = counted.are;
      own = counted.own;
      stated = counted.stated;
      with_denial = refl;
    },
    counted.tells,
  )

-- ---- the denial that a name is in a class

-- it is over the live names
pub denial_over : (names : List WordId) (concept : Concept) (name : WordId) → is_among names name ≡ true
    → list_all (is_among names) (names_in concept) ≡ true → are_over names (ClassAssertion (complement concept) name ∷ []) ≡ true
denial_over names concept name lives over =
    ap (λ (b : Bool). (b && list_all (is_among names) (names_in (complement concept))) && true) lives
    ∙ ap (λ (ns : List WordId). list_all (is_among names) ns && true) (names_in-complement concept)
    ∙ ap (λ (b : Bool). b && true) over

-- it is plain
pub denial_plain : (concept : Concept) (name : WordId) → is_plain concept ≡ true → are_plain (ClassAssertion (complement concept) name ∷ []) ≡ true
denial_plain concept name plain =
    ap (λ (b : Bool). (b && is_wide (complement concept)) && true) (is_normal-complement concept)
    ∙ ap (λ (b : Bool). b && true) (is_wide-complement concept ∙ and_second (is_normal concept) (is_wide concept) plain)
