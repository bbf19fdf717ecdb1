-- A sentence that takes its place in an article, and what is known around that place. Only private calls speak of it.
use Rattle.std.specs.Prelude.{◌≡◌, ◌≤◌, ◌<◌, ◌+◌, ◌++◌, ◌∷◌, ℕ, List, length, take, drop}
use Rattle.std.specs.List.{remove_range}
use Rattle.wiki_base.specs.declared.numbers.WordId.{WordId}
use Rattle.wiki_base.specs.declared.tokens.TheConstants.{MOST_TOKENS}
use Rattle.logic_terms.specs.Concept.{Claim}
use Rattle.logic_terms.specs.Reading.{IsModel}
use Rattle.wiki_talk.specs.declared.limits.TheConstants.{MOST_SENTENCES}
use Rattle.wiki_talk.specs.declared.statuses.Status.{Status}
use Rattle.wiki_talk.specs.declared.statuses.Status.TheVariants.{Asserted, RedBudget}
use Rattle.articles.specs.declared.sentences.Sentence.{Sentence}
use Rattle.articles.specs.Articles.{CanChange, HasPlace, with_change}
use Rattle.wiki_parts.specs.Found.{meaning_shown}
use Rattle.wiki_parts.specs.Holding.{Holding}
use Rattle.wiki_parts.specs.Kept.{known_in, known_around, IsAround}
use Rattle.wiki_parts.specs.Spending.{IsCutOff}
use Rattle.plain_wiki.specs.State.{Stored}
use Rattle.plain_wiki.specs.Knowledge.{sentences_in, GetStatus, Knows}
use Rattle.plain_wiki.specs.Meanings.{Means}
use Rattle.wiki_store.specs.declared.joining.Joined.{Joined}
use Rattle.wiki_store.specs.declared.joining.Stretch.{Stretch}
use Rattle.wiki_store.specs.declared.putting.Change.{Change}

-- ---- a change of a sentence

-- a list with an item in place of those from a place to before another
abbrev pub spliced : {X : Type 0} → List X → ℕ → ℕ → X → List X
spliced xs from to x = take from xs ++ x ∷ drop to xs

-- the wiki with a sentence in place of those of an article from a place to before another
abbrev pub with_put : Stored → WordId → ℕ → ℕ → Sentence → Stored
with_put old word from to sentence = record old { articles = with_change old.articles word (λ sentences. spliced sentences from to sentence) }

-- the wiki with the change, whose sentence has this status
abbrev pub with_made : Stored → Change → Status → Stored
with_made old change status = with_put old change.word change.from change.to (record { tokens = change.tokens; status = status })

-- The change can be made: its article can change and has those places; it replaces one sentence at most, or there is room for one more;
-- its tokens are few enough, and it has what they mean.
pub record CanBeMade (state : Stored) (change : Change) : Type 0 where
  pub changes : CanChange state.articles change.word
  pub rises : change.from ≤ change.to
  pub narrow : change.to ≤ change.from + 1
  pub place : HasPlace state.articles change.word change.to
  pub room : change.to ≡ change.from → length (sentences_in state.articles) < MOST_SENTENCES
  pub few : length change.tokens ≤ MOST_TOKENS
  pub means : Means state.grammar state.words change.tokens (meaning_shown change.sense)

-- The change is made: its sentence has the status that it gets there, which is red for the budget only where the kept interpretation is
-- no model of what is known with it.
pub record IsMade (old : Holding) (change : Change) (status : Status) (new : Holding) : Type 0 where
  pub gets : GetStatus (IsCutOff old.budget) (with_made old.state change Asserted) change.tokens status
  pub after : new.state ≡ with_made old.state change status
  pub budget : new.budget ≡ old.budget
  pub spent : status ≡ RedBudget → (claims : List Claim) → Knows (with_made old.state change Asserted) claims → ¬ IsModel old.interpretation claims

-- ---- what is known around a stretch of sentences

-- it is one of an article that is there
abbrev pub IsThere : Stretch → Type 0
IsThere s = IsAround s.articles.now s.senses.now s.place s.from s.to

-- all that is known
abbrev pub known_with : Stretch → List Claim
known_with s = known_in s.articles.now s.senses.now

-- what is known with these axioms in place of those of the stretch
abbrev pub known_beside : Stretch → List Claim → List Claim
known_beside s own = known_around s.articles.now s.senses.now s.place s.from own s.to

-- axioms that came in stand before those that are to go: these are left without them, and those were there before
pub record IsJoined (before left now : List Claim) (it : Joined) : Type 0 where
  pub rises : it.first ≤ it.behind
  pub rising : it.behind ≤ it.end
  pub within : it.end ≤ length now
  pub settled : remove_range now it.behind it.end ≡ left
  pub undone : remove_range now it.first it.behind ≡ before
