-- When a word gets other forms, and when not.
use Rattle.std.proofs.Common.{◌≡◌, ℕ, ◌+◌, ◌<◌, Bool, true, false, not, cond, List, [], ◌∷◌, map, find, All, AllPairs, Option, Some, None, IsSome, inl, inr, refl, sym, ap, subst, ◌∙◌, option_map, arith}
use Rattle.std.specs.Option.{option_map_or, option_or, IsSomeAnd}
use Rattle.std.proofs.lemmas.Bool.{false≢true}
use Rattle.std.proofs.lemmas.Bool.Decides.{nat_tests}
use Rattle.std.proofs.lemmas.List.Elements.{All-nil, All-cons, All-head, All-tail, All-append}
use Rattle.std.proofs.lemmas.Option.{none-some, slice_get_within, get_or_from_slice_get, same_Some}
use Rattle.wiki_base.specs.declared.numbers.WordId.{WordId}
use Rattle.wiki_base.proofs.ListLaws.{AllPairs-head, AllPairs-tail}
use Rattle.wiki_store.proofs.KeepingLemmas.{all_parts}
use Rattle.lexicon.specs.declared.kinds.Forms.{Forms}
use Rattle.lexicon.specs.declared.words.Word.{Word}
use Rattle.lexicon.specs.declared.words.LexFault.{LexFault}
use Rattle.lexicon.specs.declared.words.LexLimit.{LexLimit}
use Rattle.lexicon.specs.declared.words.LexFault.TheVariants.{Taken, Reserved, NoWord, Full}
use Rattle.lexicon.specs.Terminals.{is_reserved}
use Rattle.lexicon.specs.Words.{Listed, IsLexicon, has_form, has_number, owner, forms_of, others, with_forms, without_word, first_taken, first_reserved, forms_refusal, reword_refusal}
use Rattle.lexicon.proofs.Owners.{owner_lives, owner-forms_refusal}
use Rattle.wiki_talk.specs.declared.refusals.Refusal.{Refusal}
use Rattle.wiki_talk.specs.declared.refusals.Refusal.TheVariants.{InUse}
use Rattle.wiki_talk.specs.declared.refusals.Refusal.TheVariants.{NoWord as NoForm}
use Rattle.wiki_talk.specs.declared.replies.Reply.TheVariants as replies
use Rattle.wiki_talk.specs.declared.requests.WordRequest.TheVariants as of_word
use Rattle.articles.specs.declared.sentences.Sentence.{Sentence}
use Rattle.articles.specs.declared.article.Article.{Article}
use Rattle.articles.specs.Articles.{article_of, HasArticle, without_article}
use Rattle.wiki_parts.specs.declared.faults.Fault.{Fault}
use Rattle.wiki_parts.specs.declared.faults.Fault.TheVariants.{Refused, Memory}
use Rattle.wiki_parts.specs.Faults.{IsAbsent, IsCause, IsFault}
use Rattle.plain_wiki.specs.Knowledge.{sentences_in}
use Rattle.plain_wiki.specs.Meanings.{Means}
use Rattle.plain_wiki.specs.Places.{word_with, word_named, Placed, placed_from, placed_in, all_placed, IsFirstPlaced}
use Rattle.plain_wiki.specs.Causes.{FirstOf, NoneOf, of_named, is_bad_reword, breaks_sentence, breaks_by_forms, is_in_use, KeepsMeaning, IsBroken, reword_cause, uses_word}
use Rattle.plain_wiki.specs.State.{Stored}
use Rattle.plain_wiki.specs.Against.{against_word, against_form}
use Rattle.plain_wiki.specs.Doing.{RewordsWord, RemovesWord}
use Rattle.wiki_parts.specs.Sound.{IsSound}
use Rattle.plain_wiki.specs.Words.{forms_given}
use Rattle.wiki_parts.proofs.FirstLemmas.{none_stands, nothing_stands}
use Rattle.wiki_parts.proofs.UseLemmas.{lives-article}
use Rattle.wiki_store.specs.Rewording.{KeepsSentences, KeepsOthers, TellsPlace}
use Rattle.wiki_store.proofs.OtherWords.{means-with_forms}

-- ---- forms of a live word

-- the words but for one live
forms-others : (live : List Word) (id other : WordId) → IsSome (forms_of (others live id) other) → IsSome (forms_of live other)
forms-others [] id other lives = lives
forms-others (word ∷ live) id other lives = by_tests (has_number id word) (has_number other word) refl lives (forms-others live id other)
  where
    by_tests : (b d : Bool) → has_number other word ≡ d → IsSome (forms_of (cond (not b) (word ∷ others live id) (others live id)) other)
        → (IsSome (forms_of (others live id) other) → IsSome (forms_of live other))
        → IsSome (option_map (λ (w : Word). w.forms) (cond d (Some word) (find (has_number other) live)))
    by_tests b true is there rest = refl
    by_tests true false is there rest = rest there
    by_tests false false is there rest =
        rest (subst (λ (d : Bool). IsSome (option_map (λ (w : Word). w.forms) (cond d (Some word) (find (has_number other) (others live id))))) is there)

-- where the word lives, only its forms are refused
reword_refusal-is : (listed : Listed) (id : WordId) (forms : Forms) → IsSome (forms_of listed.live id)
    → reword_refusal listed id forms ≡ forms_refusal (others listed.live id) listed.terminals forms
reword_refusal-is listed id forms lives = by (forms_of listed.live id) lives
  where
    by : (o : Option Forms) → IsSome o → option_map_or (λ _. forms_refusal (others listed.live id) listed.terminals forms) o (Some (NoWord id))
        ≡ forms_refusal (others listed.live id) listed.terminals forms
    by None none = absurd (false≢true none)
    by (Some old) there = refl

pub forms_free : (listed : Listed) (id : WordId) (forms : Forms) → IsSome (forms_of listed.live id) → reword_refusal listed id forms ≡ None
    → forms_refusal (others listed.live id) listed.terminals forms ≡ None
forms_free listed id forms lives none = sym (reword_refusal-is listed id forms lives) ∙ none

-- the word that has a form that is taken lives
pub taken_lives : (listed : Listed) (id : WordId) (forms : Forms) (text : List ℕ) (other : WordId) → IsSome (forms_of listed.live id)
    → reword_refusal listed id forms ≡ Some (Taken text other)
    → IsSome (forms_of listed.live other)
taken_lives listed id forms text other lives taken =
    forms-others listed.live id other
    (owner_lives (others listed.live id) text other
    (owner-forms_refusal (others listed.live id) listed.terminals forms text other (sym (reword_refusal-is listed id forms lives) ∙ taken)))

-- forms are refused for a text alone
abbrev is_of_text : LexFault → Bool
is_of_text (Taken text id) = true
is_of_text (Reserved text) = true
is_of_text fault = false

abbrev is_for_text : Option LexFault → Bool
is_for_text None = true
is_for_text (Some fault) = is_of_text fault

taken_for_text : (live : List Word) (texts : List (List ℕ)) → is_for_text (first_taken live texts) ≡ true
taken_for_text live [] = refl
taken_for_text live (text ∷ texts) = by (owner live text) (taken_for_text live texts)
  where
    by : (o : Option WordId) → is_for_text (first_taken live texts) ≡ true → is_for_text (option_or (option_map (Taken text) o) (first_taken live texts)) ≡ true
    by None rest = rest
    by (Some id) rest = refl

reserved_for_text : (terminals texts : List (List ℕ)) → is_for_text (first_reserved terminals texts) ≡ true
reserved_for_text terminals [] = refl
reserved_for_text terminals (text ∷ texts) = by (is_reserved terminals text) (reserved_for_text terminals texts)
  where
    by : (b : Bool) → is_for_text (first_reserved terminals texts) ≡ true → is_for_text (cond b (Some (Reserved text)) (first_reserved terminals texts)) ≡ true
    by true rest = refl
    by false rest = rest

either_for_text : (o q : Option LexFault) → is_for_text o ≡ true → is_for_text q ≡ true → is_for_text (option_or o q) ≡ true
either_for_text None q a b = b
either_for_text (Some fault) q a b = a

-- where the word lives, its forms are refused for a text alone
reworded_for_text : (listed : Listed) (id : WordId) (forms : Forms) → IsSome (forms_of listed.live id) → (fault : LexFault)
    → reword_refusal listed id forms ≡ Some fault → is_of_text fault ≡ true
reworded_for_text listed id forms lives fault is =
    ap is_for_text (sym is ∙ reword_refusal-is listed id forms lives)
    ∙ either_for_text (first_taken (others listed.live id) forms.texts) (first_reserved listed.terminals forms.texts)
    (taken_for_text (others listed.live id) forms.texts)
    (reserved_for_text listed.terminals forms.texts)

pub reword_names_none : (listed : Listed) (id : WordId) (forms : Forms) → IsSome (forms_of listed.live id) → (other : WordId)
    → reword_refusal listed id forms ≡ Some (NoWord other) → ⊥
reword_names_none listed id forms lives other is = false≢true (reworded_for_text listed id forms lives (NoWord other) is)

pub reword_has_room : (listed : Listed) (id : WordId) (forms : Forms) → IsSome (forms_of listed.live id) → (limit : LexLimit)
    → reword_refusal listed id forms ≡ Some (Full limit) → ⊥
reword_has_room listed id forms lives limit is = false≢true (reworded_for_text listed id forms lives (Full limit) is)

-- ---- the words with other forms

numbers-with_forms : (live : List Word) (id : WordId) (forms : Forms)
    → map (λ (w : Word). w.id) (map (λ word. cond (has_number id word) (record word { forms = forms }) word) live) ≡ map (λ (w : Word). w.id) live
numbers-with_forms [] id forms = refl
numbers-with_forms (word ∷ live) id forms = by (has_number id word) (numbers-with_forms live id forms)
  where
    left : List WordId
    left = map (λ (w : Word). w.id) (map (λ v. cond (has_number id v) (record v { forms = forms }) v) live)

    by : (b : Bool) → left ≡ map (λ (w : Word). w.id) live → (cond b (record word { forms = forms }) word).id ∷ left ≡ word.id ∷ map (λ (w : Word). w.id) live
    by true rest = ap (λ ids. word.id ∷ ids) rest
    by false rest = ap (λ ids. word.id ∷ ids) rest

-- what is true of the sentence at each place is true of each sentence
placed_sentences : (Q : Sentence → Type 0) (word : WordId) (place : ℕ) (sentences : List Sentence)
    → All (λ placed. Q placed.sentence) (placed_from word place sentences) → All Q sentences
placed_sentences Q word place [] all = All-nil Q
placed_sentences Q word place (s ∷ ss) all =
    let first : Placed = record { word = word; place = place; sentence = s } in
    All-cons Q s ss (All-head (λ (p : Placed). Q p.sentence) first (placed_from word (place + 1) ss) all)
    (placed_sentences Q word (place + 1) ss (All-tail (λ (p : Placed). Q p.sentence) first (placed_from word (place + 1) ss) all))

pub each_sentence : (Q : Sentence → Type 0) (articles : List Article) → All (λ placed. Q placed.sentence) (all_placed articles) → All Q (sentences_in articles)
each_sentence Q [] all = All-nil Q
each_sentence Q (a ∷ articles) all =
    let parts = all_parts (λ (p : Placed). Q p.sentence) (placed_in a) (all_placed articles) all in
    All-append Q a.sentences (sentences_in articles) (placed_sentences Q a.word 0 a.sentences parts.0) (each_sentence Q articles parts.1)

-- where each sentence keeps its meaning by a word's other forms, the words with them keep what the wiki has
pub keeps_sentences : (state : Stored) → IsSound state → (word : WordId) (forms : Forms) (new : Listed) → new ≡ with_forms state.words word forms
    → All (λ placed. KeepsMeaning state.grammar state.words state.grammar new placed.sentence.tokens) (all_placed state.articles)
    → KeepsSentences state state.grammar new
keeps_sentences state sound word forms new is all = record {
  numbers = ap (λ (words : Listed). map (λ (w : Word). w.id) words.live) is ∙ numbers-with_forms state.words.live word forms;
  terminals = ap (λ (words : Listed). words.terminals) is ∙ sound.terminals;
  last = ap (λ (words : Listed). words.last) is;
  keep = each_sentence (λ s. KeepsMeaning state.grammar state.words state.grammar new s.tokens) state.articles all;
}

-- sentences without its old forms keep their meaning
pub keeps_others : (state : Stored) → IsSound state → IsLexicon state.words → (word : WordId) (old forms : Forms) → forms_of state.words.live word ≡ Some old
    → forms_refusal (others state.words.live word) state.words.terminals forms ≡ None → (new : Listed) → new ≡ with_forms state.words word forms
    → KeepsOthers state.grammar state.words state.grammar new old.texts
keeps_others state sound lexicon word old forms of_word free new is tokens meaning unused means =
    subst (λ (words : Listed). Means state.grammar words tokens meaning) (sym is)
    (means-with_forms state.grammar state.words word old forms tokens meaning sound.terminals lexicon.in_order of_word free unused means)

-- ---- why not

-- what is true of all is true of the first one that is told
pub kept_first : (Q P : Placed → Type 0) (xs : List Placed) (first : Placed) → IsFirstPlaced P xs first → All Q xs → Q first
kept_first Q P xs first is all =
    subst Q (get_or_from_slice_get xs is.count first first is.here) (all is.count first (slice_get_within xs is.count first is.here))

-- ---- the word that has a form

-- what is true of all is true of one that is found
found-holds : {X : Type 0} (P : X → Type 0) (test : X → Bool) (xs : List X) (x : X) → find test xs ≡ Some x → All P xs → P x
found-holds P test [] x is all = absurd (none-some x is)
found-holds {X} P test (y ∷ xs) x is all = by_test (test y) (λ there. found-holds P test xs x there (All-tail P y xs all)) is
  where
    by_test : (b : Bool) → (find test xs ≡ Some x → P x) → cond b (Some y) (find test xs) ≡ Some x → P x
    by_test true rest here = subst P (same_Some y x here) (All-head P y xs all)
    by_test false rest there = rest there

-- a word that is found is the one of its number
found-numbered : (test : Word → Bool) (live : List Word) → AllPairs (λ word later. word.id.0 < later.id.0) live → (word : Word)
    → find test live ≡ Some word → find (has_number word.id) live ≡ Some word
found-numbered test [] in_order word is = is
found-numbered test (first ∷ live) in_order word is =
    by_test (test first) refl
    (found-numbered test live (AllPairs-tail (λ (a b : Word). a.id.0 < b.id.0) first live in_order) word) is
  where
    here : (b : Bool) → b ≡ true → first ≡ word → cond b (Some first) (find (has_number word.id) live) ≡ Some word
    here true same one = ap Some one
    here false same one = absurd (false≢true same)

    later : (b : Bool) → b ≡ false → find (has_number word.id) live ≡ Some word → cond b (Some first) (find (has_number word.id) live) ≡ Some word
    later true other rest = absurd (false≢true (sym other))
    later false other rest = rest

    by_test : (b : Bool) → test first ≡ b → (find test live ≡ Some word → find (has_number word.id) live ≡ Some word)
        → cond b (Some first) (find test live) ≡ Some word → find (has_number word.id) (first ∷ live) ≡ Some word
    by_test true tested rest found =
        let one = same_Some first word found in
        let number : first.id.0 ≡ word.id.0 = ap (λ (w : Word). w.id.0) one in
        here (has_number word.id first) (grind (arith, nat_tests)) one
    by_test false tested rest found =
        let below : first.id.0 < word.id.0 =
        found-holds (λ (w : Word). first.id.0 < w.id.0) test live word found (AllPairs-head (λ (a b : Word). a.id.0 < b.id.0) first live in_order) in
        later (has_number word.id first) (grind (arith, nat_tests)) (rest found)

-- the word that has a form is the one of its number, with its forms
pub bound-word : (state : Stored) → IsLexicon state.words → (text : List ℕ) (word : WordId) (old : Forms) → word_named state text ≡ Some word
    → forms_of state.words.live word ≡ Some old → word_with state text ≡ Some (record { id = word; forms = old })
bound-word state lexicon text word old named lives = by (word_with state text) named (found-numbered (has_form text) state.words.live lexicon.in_order)
  where
    by : (o : Option Word) → option_map (λ (w : Word). w.id) o ≡ Some word
        → ((w : Word) → o ≡ Some w → find (has_number w.id) state.words.live ≡ Some w) → o ≡ Some (record { id = word; forms = old })
    by None none own = absurd (none-some word none)
    by (Some w) found own =
        let number : w.id ≡ word = same_Some w.id word found in
        let forms : w.forms ≡ old =
        same_Some w.forms old (sym (ap (option_map (λ (v : Word). v.forms)) (own w refl)) ∙ ap (forms_of state.words.live) number ∙ lives) in
        ap (λ (id : WordId). Some (let v : Word = record { id = id; forms = w.forms } in v)) number
        ∙ ap (λ (fs : Forms). Some (let v : Word = record { id = word; forms = fs } in v)) forms

module _ (state : Stored) (text : List ℕ) (texts : List (List ℕ)) (word : WordId) (old : Forms)
    (there : word_with state text ≡ Some (record { id = word; forms = old })) where
  -- texts against which nothing stands
  no_bad_reword : reword_cause state.words word old.kind texts ≡ None → IsAbsent (is_bad_reword state (record { id = word; forms = old }) texts)
  no_bad_reword none refusal bad = none-some refusal (sym none ∙ bad)

  -- and by which no sentence breaks
  none_breaks : (new : Listed) → new ≡ with_forms state.words word (forms_given old.kind texts)
      → All (λ placed. KeepsMeaning state.grammar state.words state.grammar new placed.sentence.tokens) (all_placed state.articles)
      → IsAbsent (breaks_by_forms state (record { id = word; forms = old }) texts)
  none_breaks new is all refusal bad =
      let kept : KeepsMeaning state.grammar state.words state.grammar new bad.0.sentence.tokens =
      kept_first (λ placed. KeepsMeaning state.grammar state.words state.grammar new placed.sentence.tokens)
      (IsBroken state state.grammar (with_forms state.words word (forms_given old.kind texts)))
      (all_placed state.articles) bad.0 bad.1 all in
      bad.1.holds (subst (λ (ws : Listed). KeepsMeaning state.grammar state.words state.grammar ws bad.0.sentence.tokens) is kept)

  -- so nothing stands against the other forms
  pub reword_free : (new : Listed) → new ≡ with_forms state.words word (forms_given old.kind texts) → reword_cause state.words word old.kind texts ≡ None
      → All (λ placed. KeepsMeaning state.grammar state.words state.grammar new placed.sentence.tokens) (all_placed state.articles)
      → NoneOf (against_form state text (against_word state (of_word.Reword texts)))
  reword_free new is none all =
      let w : Word = record { id = word; forms = old } in
      subst (λ (o : Option Word). NoneOf (of_named o (NoForm text) (against_word state (of_word.Reword texts)))) (sym there)
      (none_stands (is_bad_reword state w texts) (breaks_by_forms state w texts ∷ []) (no_bad_reword none)
      (none_stands (breaks_by_forms state w texts) [] (none_breaks new is all) nothing_stands))

  -- a text that can't be a form is told
  pub bad_reword : (refusal : Refusal) → reword_cause state.words word old.kind texts ≡ Some refusal
      → FirstOf (against_form state text (against_word state (of_word.Reword texts))) refusal
  bad_reword refusal told =
      subst (λ (o : Option Word). FirstOf (of_named o (NoForm text) (against_word state (of_word.Reword texts))) refusal) (sym there) (inl told)

  -- a sentence that breaks is told
  pub broken_told : (new : Listed) → new ≡ with_forms state.words word (forms_given old.kind texts) → reword_cause state.words word old.kind texts ≡ None
      → (refusal : Refusal) → breaks_sentence state state.grammar new refusal
      → FirstOf (against_form state text (against_word state (of_word.Reword texts))) refusal
  broken_told new is none refusal broken =
      subst (λ (o : Option Word). FirstOf (of_named o (NoForm text) (against_word state (of_word.Reword texts))) refusal) (sym there)
      (inr (
        no_bad_reword none,
        inl (
          broken.0,
          subst (λ (ws : Listed). IsFirstPlaced (IsBroken state state.grammar ws) (all_placed state.articles) broken.0) is broken.1,
          broken.2,
        ),
      ))

  -- the word with the other forms
  pub rewords-word : (new : Listed) → new ≡ with_forms state.words word (forms_given old.kind texts)
      → IsSomeAnd (word_with state text) (λ w. RewordsWord w texts state replies.Reword (record state { words = new }))
  rewords-word new is =
      subst (λ (o : Option Word). IsSomeAnd o (λ w. RewordsWord w texts state replies.Reword (record state { words = new }))) (sym there)
      (record { answer = refl; after = ap (λ (ws : Listed). record state { words = ws }) is })

-- ---- a word that goes

module _ (state : Stored) (text : List ℕ) (word : WordId) (old : Forms) (there : word_with state text ≡ Some (record { id = word; forms = old })) where
  none_uses : find (uses_word word old) (all_placed state.articles) ≡ None → IsAbsent (is_in_use state (record { id = word; forms = old }))
  none_uses none refusal bad = none-some bad.0 (sym none ∙ bad.1)

  pub unword_free : find (uses_word word old) (all_placed state.articles) ≡ None → NoneOf (against_form state text (against_word state of_word.Unword))
  unword_free none =
      let w : Word = record { id = word; forms = old } in
      subst (λ (o : Option Word). NoneOf (of_named o (NoForm text) (against_word state of_word.Unword))) (sym there)
      (none_stands (is_in_use state w) [] (none_uses none) nothing_stands)

  -- a word that a sentence needs is refused
  pub unword-refuses : (found : Placed) → find (uses_word word old) (all_placed state.articles) ≡ Some found → (refusal : Refusal)
      → TellsPlace state (λ form place. InUse form place) found.word found.place refusal
      → FirstOf (against_form state text (against_word state of_word.Unword)) refusal
  unword-refuses found is refusal told =
      subst (λ (o : Option Word). FirstOf (of_named o (NoForm text) (against_word state of_word.Unword)) refusal) (sym there)
      (inl (found, is, (told.form, told.spelled, told.told)))

  pub removes-word : (new : Listed) → new ≡ without_word state.words word
      → IsSomeAnd (word_with state text)
      (λ w. RemovesWord w state replies.Unword (record state { words = new; articles = without_article state.articles word }))
  removes-word new is =
      subst (λ (o : Option Word). IsSomeAnd o
      (λ w. RemovesWord w state replies.Unword (record state { words = new; articles = without_article state.articles word }))) (sym there)
      (record { answer = refl; after = ap (λ (ws : Listed). record state { words = ws; articles = without_article state.articles word }) is })

-- no word has the form
pub unknown-form : (state : Stored) (text : List ℕ) (causes : Word → List (Refusal → Type 0)) (refusal : Refusal)
    → (word_with state text ≡ None) × (refusal ≡ NoForm text) → FirstOf (against_form state text causes) refusal
unknown-form state text causes refusal none =
    subst (λ (o : Option Word). FirstOf (of_named o (NoForm text) causes) refusal) (sym none.0) (inl none.1)

-- ---- faults

-- a fault of a cause is one of what the cause is told as
pub cause_fault : (cause : Option Refusal) (told : Refusal → Type 0) (fault : Fault) → IsCause cause fault
    → ((refusal : Refusal) → cause ≡ Some refusal → told refusal) → IsFault told fault
cause_fault cause told (Refused refusal) is tells = tells refusal is
cause_fault cause told Memory is tells = tt

pub fault_told : (one told : Refusal → Type 0) (fault : Fault) → IsFault one fault → ((refusal : Refusal) → one refusal → told refusal) → IsFault told fault
fault_told one told (Refused refusal) is tells = tells refusal is
fault_told one told Memory is tells = tt

-- a word with forms lives
pub lives_by : (o : Option Forms) (forms : Forms) → o ≡ Some forms → IsSome o
lives_by o forms is = subst (λ (q : Option Forms). IsSome q) (sym is) refl

-- a live word has an article
pub has_article : (state : Stored) → IsSound state → (word : WordId) → IsSome (forms_of state.words.live word) → HasArticle state.articles word
has_article state sound word lives = by (article_of state.articles word) (lives-article state.articles state.words.live word sound.articles lives)
  where
    by : (o : Option Article) → IsSome o → IsSomeAnd o (λ _. Unit {0})
    by None there = absurd (false≢true there)
    by (Some article) there = tt
