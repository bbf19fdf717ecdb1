-- What a word that is added leaves of sessions.
use Rattle.std.proofs.Common.{◌≡◌, ℕ, ◌+◌, ◌<◌, ◌≤◌, ◌==◌, Bool, true, false, cond, List, [], ◌∷◌, ◌++◌, length, Option, Some, None, option_map, Result, Ok, Err, IfOk, OnOk, OnErr, IsSome, is_some, refl, sym, ap, subst, ◌∙◌, arith, inl}
use Rattle.std.specs.Option.{option_or}
use Rattle.std.proofs.lemmas.Bool.{false≢true}
use Rattle.std.proofs.lemmas.Option.{none-some}
use Rattle.std.proofs.lemmas.List.{take_all}
use Rattle.std.proofs.lemmas.List.Elements.{All-head, All-tail, All-weaker}
use Rattle.codeco_terms.specs.GrammarParts.{GrammarParts}
use Rattle.lexicon.specs.declared.kinds.Kind.{Kind}
use Rattle.lexicon.specs.declared.kinds.Forms.{Forms}
use Rattle.lexicon.specs.declared.words.Word.{Word}
use Rattle.lexicon.specs.declared.words.LexFault.{LexFault}
use Rattle.lexicon.specs.declared.words.LexFault.TheVariants as faults
use Rattle.lexicon.specs.declared.words.LexLimit.TheVariants as bounds
use Rattle.lexicon.specs.declared.words.TheConstants.{MOST_WORDS, LAST_NUMBER}
use Rattle.lexicon.specs.Terminals.{is_reserved}
use Rattle.lexicon.specs.Words.{Listed, owner, forms_of, with_word, next_word, first_taken, first_reserved, fullness, forms_refusal, add_refusal}
use Rattle.lexicon.proofs.Owners.{owner_lives, owner-add_refusal, add_refusal_names_none}
use Rattle.derivation_trees.specs.Partial.{IsTypeable}
use Rattle.sessions.specs.declared.session.Session.{Session}
use Rattle.plain_wiki.specs.Sessions.{PlainSession, AreTypeable, AreRebased}
use Rattle.sessions.specs.Sessions.{all_plain, AreSessions}
use Rattle.sessions.proofs.KeepingLaws.{kept_by_word, kept_typeable}
use Rattle.wiki_base.specs.declared.numbers.WordId.{WordId}
use Rattle.wiki_base.proofs.OptionLaws.{option_or-second_none}
use Rattle.articles.specs.Articles.{new_article}
use Rattle.wiki_talk.specs.declared.refusals.Refusal.TheVariants as refusals
use Rattle.wiki_talk.specs.declared.replies.Reply.{Reply}
use Rattle.wiki_talk.specs.declared.requests.WikiRequest.TheVariants as of_wiki
use Rattle.plain_wiki.specs.State.{Stored}
use Rattle.wiki_parts.specs.Holding as holding
use Rattle.wiki_parts.specs.declared.faults.Fault.{Fault}
use Rattle.plain_wiki.specs.Against.{against_wiki}
use Rattle.plain_wiki.specs.Causes.{NoneOf}
use Rattle.plain_wiki.specs.Doing.{AddsWord}
use Rattle.plain_wiki.specs.Step.{ChangesWords}
use Rattle.plain_wiki.specs.Words.{canonical, bad_text, bad_count, lexicon_refusal, forms_given, word_refusal}
use Rattle.wiki_core.specs.Keeping.{AreHeld}
use Rattle.wiki_core.proofs.PagesLemmas.{go_on_begun}
use Rattle.wiki_core.proofs.HeldLemmas.{Fits, fits_each, held_by}

-- no lexicon refuses forms for want of memory alone
abbrev is_memory : Option LexFault → Bool
is_memory (Some faults.Memory) = true
is_memory other = false

never_taken : (live : List Word) (texts : List (List ℕ)) → first_taken live texts ≡ Some faults.Memory → ⊥
never_taken live [] is = none-some faults.Memory is
never_taken live (text ∷ texts) is = by_owner (owner live text) (never_taken live texts) is
  where
    by_owner : (o : Option WordId) → (first_taken live texts ≡ Some faults.Memory → ⊥)
        → option_or (option_map (faults.Taken text) o) (first_taken live texts) ≡ Some faults.Memory → ⊥
    by_owner None rest is = rest is
    by_owner (Some id) rest is = false≢true (ap is_memory is)

never_reserved : (terminals texts : List (List ℕ)) → first_reserved terminals texts ≡ Some faults.Memory → ⊥
never_reserved terminals [] is = none-some faults.Memory is
never_reserved terminals (text ∷ texts) is = by_test (is_reserved terminals text) (never_reserved terminals texts) is
  where
    by_test : (b : Bool) → (first_reserved terminals texts ≡ Some faults.Memory → ⊥)
        → cond b (Some (faults.Reserved text)) (first_reserved terminals texts) ≡ Some faults.Memory → ⊥
    by_test true rest is = false≢true (ap is_memory is)
    by_test false rest is = rest is

never_full : (words : Listed) → fullness words ≡ Some faults.Memory → ⊥
never_full words is = by_tests (length words.live == MOST_WORDS) (words.last == LAST_NUMBER) is
  where
    by_tests : (b c : Bool) → cond b (Some (faults.Full bounds.Words)) (cond c (Some (faults.Full bounds.Numbers)) None) ≡ Some faults.Memory → ⊥
    by_tests true c is = false≢true (ap is_memory is)
    by_tests false true is = false≢true (ap is_memory is)
    by_tests false false is = none-some faults.Memory is

either_or : (a b : Option LexFault) → (a ≡ Some faults.Memory → ⊥) → (b ≡ Some faults.Memory → ⊥) → option_or a b ≡ Some faults.Memory → ⊥
either_or None b not_a not_b is = not_b is
either_or (Some fault) b not_a not_b is = not_a is

never_memory : (words : Listed) (forms : Forms) → add_refusal words forms ≡ Some faults.Memory → ⊥
never_memory words forms is =
    either_or (forms_refusal words.live words.terminals forms) (fullness words)
    (either_or (first_taken words.live forms.texts) (first_reserved words.terminals forms.texts) (never_taken words.live forms.texts)
    (never_reserved words.terminals forms.texts))
    (never_full words) is

-- a word that is told as the owner of a form lives
told_taken : (text : List ℕ) (o : Option Forms) → IsSome o → option_map (λ (f : Forms). refusals.Taken text (canonical f)) o ≡ None → ⊥
told_taken text None lives none = false≢true lives
told_taken text (Some f) lives none = false≢true (ap is_some (sym none))

-- what no refusal tells doesn't stand against the forms
free_by : (words : Listed) (forms : Forms) (o : Option LexFault) → add_refusal words forms ≡ o → lexicon_refusal words o ≡ None → add_refusal words forms ≡ None
free_by words forms None is none = is
free_by words forms (Some (faults.Taken text id)) is none =
    absurd (told_taken text (forms_of words.live id) (owner_lives words.live text id (owner-add_refusal words forms text id is)) none)
free_by words forms (Some (faults.Reserved text)) is none = absurd (false≢true (ap is_some (sym none)))
free_by words forms (Some (faults.Full limit)) is none = absurd (false≢true (ap is_some (sym none)))
free_by words forms (Some (faults.NoWord id)) is none = absurd (add_refusal_names_none words forms id is)
free_by words forms (Some faults.Memory) is none = absurd (never_memory words forms is)

-- where nothing stands against a new word, nothing stands against its forms
free_of : (words : Listed) (kind : Kind) (texts : List (List ℕ)) → word_refusal words kind texts ≡ None → add_refusal words (forms_given kind texts) ≡ None
unfolding word_refusal
free_of words kind texts none =
    free_by words (forms_given kind texts) (add_refusal words (forms_given kind texts)) refl
    (option_or-second_none (bad_count kind texts) (lexicon_refusal words (add_refusal words (forms_given kind texts)))
    (option_or-second_none (bad_text texts) (option_or (bad_count kind texts) (lexicon_refusal words (add_refusal words (forms_given kind texts)))) none))

none_of : {X : Type 0} (o : Option X) → ((x : X) → o ≡ Some x → ⊥) → o ≡ None
none_of None never = refl
none_of (Some x) never = absurd (never x refl)

-- tokens that are typeable are rebased to themselves
rebased_itself : (g : GrammarParts) (words : Listed) (sessions : List PlainSession) → AreTypeable g words sessions → AreRebased g words sessions sessions
rebased_itself g words [] typeable = tt
rebased_itself g words (s ∷ sessions) typeable = (
  record {
    number = refl;
    article = refl;
    revision = refl;
    tokens = record {
      prefix = take_all (length s.tokens) s.tokens (omega arith);
      typeable = All-head (λ (t : PlainSession). IsTypeable g words t.tokens) s sessions typeable;
      longest = λ count within front. within;
    };
  },
  rebased_itself g words sessions (All-tail (λ (t : PlainSession). IsTypeable g words t.tokens) s sessions typeable),
)

module _ (old new : Stored) (sessions : List Session) (last : ℕ) (held : AreHeld old sessions last) (are : AreSessions sessions)
    (same : old.words.terminals ≡ old.grammar.terminals) (kind : Kind) (texts : List (List ℕ))
    (free : NoneOf (against_wiki old (of_wiki.Word kind texts))) where
  -- a new word leaves what is kept
  word_held : (reply : Reply) → AddsWord kind texts old reply new → AreHeld new sessions last
  word_held reply adds =
      let accepted = free_of old.words kind texts (none_of (word_refusal old.words kind texts) (λ refusal is. free refusal (inl is))) in
      let begun = new_article (next_word old.words (forms_given kind texts)).id in
      subst (λ (s : Stored). AreHeld s sessions last) (sym adds.after)
      (held_by (record old { words = with_word old.words (forms_given kind texts); articles = old.articles ++ begun ∷ [] }) sessions last
      (kept_by_word old.grammar old.words (forms_given kind texts) sessions same accepted are held.kept)
      (All-weaker (Fits old.articles last) (Fits (old.articles ++ begun ∷ []) last)
      (λ s f. record { on = go_on_begun old.articles begun s f.on; numbered = f.numbered }) (all_plain sessions) (fits_each old sessions last held)))

  word_does : (reply : Reply) → AddsWord kind texts old reply new
      → ChangesWords (AddsWord kind texts) (record { stored = old; sessions = all_plain sessions; last = last }) reply
      (record { stored = new; sessions = all_plain sessions; last = last })
  word_does reply adds = record {
    stored = adds;
    sessions = rebased_itself new.grammar new.words (all_plain sessions)
        (kept_typeable new.grammar new.words sessions are (word_held reply adds).kept);
    last = refl;
  }

-- so is it whether the word is added or not
pub held_after_word : (old new : holding.Holding) (sessions : List Session) (last : ℕ) → AreHeld old.state sessions last → AreSessions sessions
    → old.state.words.terminals ≡ old.state.grammar.terminals → (kind : Kind) (texts : List (List ℕ)) (result : Result Reply Fault)
    → OnOk result (NoneOf (against_wiki old.state (of_wiki.Word kind texts))) → IfOk result (λ reply. AddsWord kind texts old.state reply new.state)
    → OnErr result (new ≡ old) → AreHeld new.state sessions last
held_after_word old new sessions last held are same kind texts (Ok reply) free adds kept =
    word_held old.state new.state sessions last held are same kind texts free reply adds
held_after_word old new sessions last held are same kind texts (Err fault) free adds kept =
    subst (λ (h : holding.Holding). AreHeld h.state sessions last) (sym kept) held

pub does_after_word : (old new : holding.Holding) (sessions : List Session) (last : ℕ) → AreHeld old.state sessions last → AreSessions sessions
    → old.state.words.terminals ≡ old.state.grammar.terminals → (kind : Kind) (texts : List (List ℕ)) (result : Result Reply Fault)
    → OnOk result (NoneOf (against_wiki old.state (of_wiki.Word kind texts))) → IfOk result (λ reply. AddsWord kind texts old.state reply new.state)
    → IfOk result (λ reply. ChangesWords (AddsWord kind texts) (record { stored = old.state; sessions = all_plain sessions; last = last }) reply
    (record { stored = new.state; sessions = all_plain sessions; last = last }))
does_after_word old new sessions last held are same kind texts (Ok reply) free adds =
    word_does old.state new.state sessions last held are same kind texts free reply adds
does_after_word old new sessions last held are same kind texts (Err fault) free adds = adds
