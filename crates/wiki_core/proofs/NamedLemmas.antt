-- What stands against a request on what a name names, and what is done with it.
use Rattle.std.proofs.Common.{◌≡◌, ℕ, List, find, Option, Some, None, option_map, option_and_then, refl, sym, ap, subst, ◌∙◌, inl}
use Rattle.std.specs.Option.{IsSomeAnd}
use Rattle.std.proofs.lemmas.Bool.{eqb-true}
use Rattle.std.proofs.lemmas.Option.{none-some}
use Rattle.wiki_base.specs.declared.numbers.WordId.{WordId}
use Rattle.wiki_base.specs.declared.numbers.SessionId.{SessionId}
use Rattle.wiki_talk.specs.declared.refusals.Refusal.{Refusal}
use Rattle.articles.specs.declared.article.Article.{Article}
use Rattle.articles.specs.Articles.{article_of, is_of}
use Rattle.plain_wiki.specs.Sessions.{PlainSession, session_of, has_number}
use Rattle.plain_wiki.specs.Places.{article_named, word_named, word_with}
use Rattle.lexicon.specs.declared.words.Word.{Word}
use Rattle.plain_wiki.specs.State.{Stored}
use Rattle.wiki_parts.specs.declared.faults.Fault.{Fault}
use Rattle.wiki_parts.specs.declared.faults.Fault.TheVariants.{Refused, Memory}
use Rattle.wiki_parts.specs.Faults.{IsFault, IsAbsent}
use Rattle.plain_wiki.specs.Causes.{FirstOf, of_named, when}
use Rattle.wiki_core.proofs.KeyLaws.{found_passes}

module _ {T : Type 0} (o : Option T) (unknown : Refusal) (causes : T → List (Refusal → Type 0)) where
  -- where nothing stands against what is named, nothing does against the request
  pub free_named : (t : T) → o ≡ Some t → IsAbsent (FirstOf (causes t)) → IsAbsent (FirstOf (of_named o unknown causes))
  free_named t named free = subst (λ (p : Option T). IsAbsent (FirstOf (of_named p unknown causes))) (sym named) free

  -- a fault of what stands against what is named is one of the request
  pub fault_named : (t : T) (fault : Fault) → o ≡ Some t → IsFault (FirstOf (causes t)) fault → IsFault (FirstOf (of_named o unknown causes)) fault
  fault_named t fault named is = subst (λ (p : Option T). IsFault (FirstOf (of_named p unknown causes)) fault) (sym named) is

-- so is one by which nothing is named
pub fault_unnamed : {T : Type 0} (o : Option T) (unknown : Refusal) (causes : T → List (Refusal → Type 0)) (fault : Fault)
    → IsFault (when (o ≡ None) unknown) fault → IsFault (FirstOf (of_named o unknown causes)) fault
fault_unnamed {T} o unknown causes fault is =
    by_fault fault is
  where
    by_fault : (f : Fault) → IsFault (when (o ≡ None) unknown) f → IsFault (FirstOf (of_named o unknown causes)) f
    by_fault (Refused refusal) here = subst (λ (p : Option T). FirstOf (of_named p unknown causes) refusal) (sym here.0) (inl here.1)
    by_fault Memory here = tt

-- what is so of what is named
pub some_and : {T : Type 0} (o : Option T) (P : T → Type 0) (t : T) → o ≡ Some t → P t → IsSomeAnd o P
some_and {T} o P t named is = subst (λ (p : Option T). IsSomeAnd p P) (sym named) is

-- where something is named that is refused, it isn't refused as unknown
pub refused_named : {T : Type 0} (o : Option T) (unknown : Refusal) (causes : T → List (Refusal → Type 0)) (refusal : Refusal) (t : T) → o ≡ Some t
    → FirstOf (of_named o unknown causes) refusal → FirstOf (causes t) refusal
refused_named {T} o unknown causes refusal t named first = subst (λ (p : Option T). FirstOf (of_named p unknown causes) refusal) named first

-- what is so of what is named gives another thing that is so of it
pub and_so : {T : Type 0} (o : Option T) (P Q : T → Type 0) → ((t : T) → P t → Q t) → IsSomeAnd o P → IsSomeAnd o Q
and_so None P Q gives here = absurd here
and_so (Some t) P Q gives here = gives t here

-- what is so of what is named is so of what it is
pub of_it : {T : Type 0} (o : Option T) (P : T → Type 0) (t : T) → o ≡ Some t → IsSomeAnd o P → P t
of_it {T} o P t named is = subst (λ (p : Option T). IsSomeAnd p P) named is

-- what is named, and what is so of it
pub record SomeIs {T : Type 0} (o : Option T) (P : T → Type 0) : Type 0 where
  pub it : T
  pub named : o ≡ Some it
  pub is : P it

pub some_is : {T : Type 0} (o : Option T) (P : T → Type 0) → IsSomeAnd o P → SomeIs o P
some_is None P here = absurd here
some_is (Some t) P here = record { it = t; named = refl; is = here }

abbrev session_id : ℕ → SessionId
session_id n = record { 0 = n }

abbrev word_id : ℕ → WordId
word_id n = record { 0 = n }

-- the session with a number has it
pub number_is : (sessions : List PlainSession) (number : SessionId) (session : PlainSession) → session_of sessions number ≡ Some session
    → session.number ≡ number
number_is sessions number session found =
    ap (λ (n : ℕ). session_id n) (eqb-true session.number.0 number.0 (found_passes (has_number number) sessions session found))

-- the article of a word is the word's
pub word_is : (articles : List Article) (word : WordId) (article : Article) → article_of articles word ≡ Some article → article.word ≡ word
word_is articles word article found =
    ap (λ (n : ℕ). word_id n) (eqb-true article.word.0 word.0 (found_passes (is_of word) articles article found))

-- the article that a form names is that of its word
pub article_there : (stored : Stored) (form : List ℕ) (article : Article) → article_named stored form ≡ Some article
    → article_of stored.articles article.word ≡ Some article
article_there stored form article named = by (word_named stored form) named
  where
    by : (o : Option WordId) → option_and_then (article_of stored.articles) o ≡ Some article → article_of stored.articles article.word ≡ Some article
    by None none = absurd (none-some article none)
    by (Some word) found =
        subst (λ (w : WordId). article_of stored.articles w ≡ Some article) (sym (word_is stored.articles word article found)) found

-- the word of the article that a form names has the form
pub named_word : (stored : Stored) (form : List ℕ) (article : Article) → article_named stored form ≡ Some article
    → SomeIs (word_with stored form) (λ word. article.word ≡ word.id)
named_word stored form article named = by (word_with stored form) named
  where
    by : (o : Option Word) → option_and_then (article_of stored.articles) (option_map (λ (w : Word). w.id) o) ≡ Some article
        → SomeIs o (λ word. article.word ≡ word.id)
    by None none = absurd (none-some article none)
    by (Some word) found = record { it = word; named = refl; is = word_is stored.articles word.id article found }
