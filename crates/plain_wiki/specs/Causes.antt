-- What can stand against a request: each cause with the refusal that it gives.
use Rattle.std.specs.Prelude.{◌≡◌, ℕ, ◌≤◌, ◌<◌, ◌⊎◌, ◌==◌, ◌||◌, Bool, true, false, List, [], ◌∷◌, length, codes, find, slice_get, IsSomeAnd, Option, Some, None}
use Rattle.std.specs.List.{list_any}
use Rattle.std.specs.Option.{option_or}
use Rattle.wiki_base.specs.declared.numbers.WordId.{WordId}
use Rattle.codeco_terms.specs.GrammarParts.{GrammarParts}
use Rattle.codeco_checked.specs.declared.fault.GrammarFault.{GrammarFault}
use Rattle.codeco_checked.specs.declared.fault.GrammarFault.TheVariants as faults
use Rattle.codeco_checked.specs.Sound.{is_labelled}
use Rattle.codeco_reader.specs.Texts.{IsTextOf, IsFaultOf}
use Rattle.lexicon.specs.declared.kinds.Kind.{Kind}
use Rattle.lexicon.specs.declared.kinds.Forms.{Forms}
use Rattle.lexicon.specs.declared.words.Word.{Word}
use Rattle.lexicon.specs.Words.{Listed, is_among, canonical_form_of, with_forms, with_terminals, reword_refusal, reground_refusal}
use Rattle.derivation_trees.specs.Sentences.{IsSentence}
use Rattle.derivations.specs.Typing.{IsTextMenu}
use Rattle.wiki_talk.specs.declared.limits.Limit.{Limit}
use Rattle.wiki_talk.specs.declared.limits.Limit.TheVariants as limits
use Rattle.wiki_talk.specs.Limits.{amount_of}
use Rattle.wiki_talk.specs.declared.refusals.Refusal.{Refusal}
use Rattle.wiki_talk.specs.declared.refusals.Refusal.TheVariants.{NoPlace, InUse, Breaks, BadStatus, GrammarRefused, Bare, NotOffered, Nothing, Stale, Unfinished}
use Rattle.wiki_talk.specs.declared.statuses.Status.{Status}
use Rattle.wiki_talk.specs.declared.statuses.Status.TheVariants.{Asserted, Retracted, RedContradiction, RedBudget}
use Rattle.articles.specs.declared.article.Article.{Article}
use Rattle.articles.specs.Articles.{article_of}
use Rattle.editor.specs.Editing.{typed, IsInMenu}
use Rattle.plain_wiki.specs.Sessions.{PlainSession}
use Rattle.plain_wiki.specs.State.{Stored}
use Rattle.plain_wiki.specs.Words.{bad_text, bad_count, lexicon_refusal, forms_given, word_refusal, full_at}
use Rattle.plain_wiki.specs.Places.{Placed, all_placed, IsFirstPlaced}
use Rattle.plain_wiki.specs.Parsing.{tokens_of, told_menu, IsNoSentence}
use Rattle.plain_wiki.specs.Meanings.{Meaning, Means}
use Rattle.plain_wiki.specs.Knowledge.{sentences_in}

-- a cause: which refusals it gives
abbrev pub Cause : Type 1
Cause = Refusal → Type 0

-- where this is so, the refusal is given
abbrev pub when : Type 0 → Refusal → Cause
when condition refusal told = condition × (told ≡ refusal)

-- the refusal is given
abbrev pub gives : Refusal → Cause
gives refusal told = told ≡ refusal

-- the cause that something gives which is so
abbrev pub of_some : {T : Type 0} → (T → Type 0) → (T → Cause) → Cause
of_some {T} IsIt cause told = (it : T) × IsIt it × cause it told

-- The first of these causes that stands, in their order, gives the refusal; and none of them gives one.
abbrev pub FirstOf : List (Refusal → Type 0) → Refusal → Type 0
FirstOf [] refusal = ⊥
FirstOf (cause ∷ causes) refusal = cause refusal ⊎ (((other : Refusal) → ¬ cause other) × FirstOf causes refusal)

abbrev pub NoneOf : List (Refusal → Type 0) → Type 0
NoneOf causes = (refusal : Refusal) → ¬ FirstOf causes refusal

-- what stands against a request on what a name names: that it names nothing, or else what stands against what it names
abbrev pub of_named : {T : Type 0} → Option T → Refusal → (T → List (Refusal → Type 0)) → List (Refusal → Type 0)
of_named None unknown causes = gives unknown ∷ []
of_named (Some named) unknown causes = causes named

-- ---- limits

-- there are as many as may be
abbrev pub is_full : Limit → ℕ → Cause
is_full limit count = when (amount_of limit ≤ count) (full_at limit)

-- there may be no sentence more
abbrev pub has_no_room : Stored → Cause
has_no_room stored = is_full limits.Sentences (length (sentences_in stored.articles))

-- the article was changed as often as may be
abbrev pub is_at_last_revision : Article → Cause
is_at_last_revision article = when (article.revision.0 ≡ amount_of limits.Numbers) (full_at limits.Numbers)

-- the text has too many tokens
abbrev pub has_too_many_tokens : Stored → List ℕ → Cause
has_too_many_tokens stored text = when (amount_of limits.Tokens < length (tokens_of stored text)) (full_at limits.Tokens)

-- ---- words

-- the texts can't be the forms of a new word of the kind
abbrev pub is_bad_word : Stored → Kind → List (List ℕ) → Cause
is_bad_word stored kind texts told = word_refusal stored.words kind texts ≡ Some told

-- What stands against these texts as other forms for a word of a kind, the first of the causes in this order: a text that
-- can't be a form, a wrong number of texts, and what stands against the forms beside the other words that live.
abbrev pub reword_cause : Listed → WordId → Kind → List (List ℕ) → Option Refusal
reword_cause words id kind texts =
    option_or (bad_text texts) (option_or (bad_count kind texts) (lexicon_refusal words (reword_refusal words id (forms_given kind texts))))

-- the texts can't be other forms for the word
abbrev pub is_bad_reword : Stored → Word → List (List ℕ) → Cause
is_bad_reword stored word texts told = reword_cause stored.words word.id word.forms.kind texts ≡ Some told

-- the tokens have the same meaning by the one grammar and words as by the others
pub record KeepsMeaning (g : GrammarParts) (old : Listed) (other : GrammarParts) (new : Listed) (tokens : List (List ℕ)) : Type 0 where
  pub meaning : Meaning
  pub before : Means g old tokens meaning
  pub after : Means other new tokens meaning

-- by the other grammar and words the sentence has no derivation, or another meaning
abbrev pub IsBroken : Stored → GrammarParts → Listed → Placed → Type 0
IsBroken stored other new placed = ¬ KeepsMeaning stored.grammar stored.words other new placed.sentence.tokens

-- the sentence stands in the word's article, or has a form of the word
abbrev pub uses_word : WordId → Forms → Placed → Bool
uses_word word forms placed = (placed.word.0 == word.0) || list_any (is_among forms.texts) placed.sentence.tokens

-- the sentence's place is told, by the canonical form of its article's word
abbrev pub at_place : Stored → (List ℕ → ℕ → Refusal) → Placed → Cause
at_place stored refusal placed = of_some (λ form. canonical_form_of stored.words.live placed.word ≡ Some form) (λ form. gives (refusal form placed.place))

-- by the other grammar and words a sentence is broken: the first one is told
abbrev pub breaks_sentence : Stored → GrammarParts → Listed → Cause
breaks_sentence stored other new = of_some (IsFirstPlaced (IsBroken stored other new) (all_placed stored.articles)) (at_place stored Breaks)

-- by the other forms for the word
abbrev pub breaks_by_forms : Stored → Word → List (List ℕ) → Cause
breaks_by_forms stored word texts = breaks_sentence stored stored.grammar (with_forms stored.words word.id (forms_given word.forms.kind texts))

-- a sentence needs the word: the first one is told
abbrev pub is_in_use : Stored → Word → Cause
is_in_use stored word = of_some (λ first. find (uses_word word.id word.forms) (all_placed stored.articles) ≡ Some first) (at_place stored InUse)

-- ---- grammars

-- the name that is told of a fault of a text, and its byte, feature or rule; 0 where it has none
abbrev pub fault_name : GrammarFault → List ℕ
fault_name (faults.Syntax n) = codes "Syntax"
fault_name (faults.TooLarge n) = codes "TooLarge"
fault_name (faults.Undeclared n) = codes "Undeclared"
fault_name (faults.BadValue n) = codes "BadValue"
fault_name (faults.EmptyRule n) = codes "EmptyRule"
fault_name (faults.LeftRecursion n) = codes "LeftRecursion"
fault_name (faults.TakenVariable n) = codes "TakenVariable"
fault_name (faults.LabelKind n) = codes "LabelKind"
fault_name faults.NoStart = codes "NoStart"
fault_name faults.Memory = []

abbrev pub fault_place : GrammarFault → ℕ
fault_place (faults.Syntax n) = n
fault_place (faults.TooLarge n) = n
fault_place (faults.Undeclared n) = n
fault_place (faults.BadValue n) = n
fault_place (faults.EmptyRule n) = n
fault_place (faults.LeftRecursion n) = n
fault_place (faults.TakenVariable n) = n
fault_place (faults.LabelKind n) = n
fault_place faults.NoStart = 0
fault_place faults.Memory = 0

-- the text is that of no grammar: its fault is told
abbrev pub is_no_grammar : List ℕ → Cause
is_no_grammar text told =
    ((g : GrammarParts) → ¬ IsTextOf text g) × of_some (IsFaultOf text) (λ fault. gives (GrammarRefused (fault_name fault) (fault_place fault))) told

-- a rule of the text's grammar has no label
abbrev pub is_bare : List ℕ → Cause
is_bare text = of_some (IsTextOf text) (λ g. when (is_labelled g ≡ false) Bare)

-- the text's grammar has a form of a live word as a word of its own: the first form is told
abbrev pub has_a_form : Stored → List ℕ → Cause
has_a_form stored text = of_some (IsTextOf text) (λ g told. lexicon_refusal stored.words (reground_refusal stored.words.live g.terminals) ≡ Some told)

-- by the text's grammar a sentence is broken: the first one is told
abbrev pub breaks_by_grammar : Stored → List ℕ → Cause
breaks_by_grammar stored text = of_some (IsTextOf text) (λ g. breaks_sentence stored g (with_terminals stored.words g.terminals))

-- ---- sentences

-- the article has no sentence at the place
abbrev pub has_no_place : Article → ℕ → Cause
has_no_place article place = when (length article.sentences ≤ place) (NoPlace (length article.sentences))

-- the place that is given is past the end of the article
abbrev pub is_past_end : Article → Option ℕ → Cause
is_past_end article given = when (IsSomeAnd given (λ place. length article.sentences < place)) (NoPlace (length article.sentences))

-- the text has no derivation
abbrev pub has_no_derivation : Stored → List ℕ → Cause
has_no_derivation stored text = IsNoSentence stored.grammar stored.words (tokens_of stored text)

-- a sentence that may be retracted: one that is asserted
abbrev pub may_retract : Status → Bool
may_retract Asserted = true
may_retract other = false

-- a sentence that may be taken up again: one that is retracted or red
abbrev pub may_reassert : Status → Bool
may_reassert Retracted = true
may_reassert RedContradiction = true
may_reassert RedBudget = true
may_reassert other = false

-- the status of the sentence at the place isn't one of those
abbrev pub has_bad_status : (Status → Bool) → Article → ℕ → Cause
has_bad_status may article place =
    of_some (λ sentence. slice_get article.sentences place ≡ Some sentence) (λ sentence. when (may sentence.status ≡ false) (BadStatus sentence.status))

-- ---- sessions

-- the text isn't in the menu of the session's tokens
abbrev pub is_not_offered : Stored → PlainSession → List ℕ → Cause
is_not_offered stored session text =
    when (¬ IsInMenu stored.grammar stored.words session.tokens (typed stored.grammar.terminals session.tokens text)) (NotOffered text)

-- the session has no tokens
abbrev pub has_no_token : PlainSession → Cause
has_no_token session = when (session.tokens ≡ []) Nothing

-- what stands against the article that the session is on
abbrev pub on_its_article : Stored → PlainSession → (Article → Cause) → Cause
on_its_article stored session cause = of_some (λ article. article_of stored.articles session.article ≡ Some article) cause

-- the article has changed since the session took note of it
abbrev pub is_stale : PlainSession → Article → Cause
is_stale session article = when (session.revision.0 < article.revision.0) (Stale article.revision.0)

-- the session's tokens have no derivation, and their menu is told
abbrev pub is_unfinished : Stored → PlainSession → Cause
is_unfinished stored session told =
    (¬ IsSentence stored.grammar stored.words session.tokens)
    × of_some (IsTextMenu stored.grammar stored.words session.tokens) (λ menu. gives (Unfinished (told_menu menu))) told
