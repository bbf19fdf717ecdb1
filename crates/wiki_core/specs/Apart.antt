-- What users learn of one another by their sessions: nothing but what they share.
use Rattle.std.specs.Prelude.{◌≡◌, ◌==◌, ℕ, List, [], ◌∷◌, ◌++◌, if◌then◌else◌, Option, Some, None, option_map}
use Rattle.std.specs.List.{flat_map}
use Rattle.std.specs.Option.{option_map_or}
use Rattle.codeco_terms.specs.GrammarParts.{GrammarParts}
use Rattle.wiki_talk.specs.declared.replies.Reply.{Reply}
use Rattle.wiki_talk.specs.declared.replies.Reply.TheVariants as replies
use Rattle.wiki_talk.specs.declared.requests.Request.{Request}
use Rattle.wiki_talk.specs.declared.requests.Request.TheVariants as requests
use Rattle.wiki_talk.specs.declared.requests.WikiRequest.TheVariants as of_wiki
use Rattle.wiki_talk.specs.declared.requests.WordRequest.TheVariants as of_word
use Rattle.wiki_talk.specs.declared.requests.ArticleRequest.TheVariants as of_article
use Rattle.wiki_talk.specs.declared.requests.SessionRequest.TheVariants as of_session
use Rattle.wiki_talk.specs.Turns.{Exchange, answered, Turns}
use Rattle.plain_wiki.specs.State.{State, first_state}
use Rattle.plain_wiki.specs.Places.{session_numbered}
use Rattle.plain_wiki.specs.Step.{Step}
use Rattle.wiki_parts.specs.Spending.{IsCutOff}

-- the tokens of the session with the number
abbrev pub tokens_in : State → ℕ → Option (List (List ℕ))
tokens_in state number = option_map (λ session. session.tokens) (session_numbered state number)

-- ---- a session's menu

-- a session of the one wiki and a session of the other have the same tokens, by the same grammar and the same words
pub record AreAlike (one other : State) (number its_number : ℕ) : Type 0 where
  pub grammar : other.stored.grammar ≡ one.stored.grammar
  pub words : other.stored.words ≡ one.stored.words
  pub tokens : List (List ℕ)
  pub own : tokens_in one number ≡ Some tokens
  pub its : tokens_in other its_number ≡ Some tokens

-- The reply to `menu` is a function of the grammar, the words and the session's tokens: whatever other wiki has a session that is
-- alike, it gives that session the same reply.
abbrev pub MenuIsOwn : State → Request → Reply → Type 0
MenuIsOwn state (requests.OnSession number of_session.Menu) reply =
    (other : State) (its_budget its_number : ℕ) (said : Reply) (after : State) → AreAlike state other number its_number
    → Step (IsCutOff its_budget) other (requests.OnSession its_number of_session.Menu) said after → said ≡ reply
MenuIsOwn state request reply = Unit {0}

-- ---- a session's tokens

-- what a session hears: that it was opened on the article that has the form, what is asked of it, and that words or the grammar have changed
pub data Heard : Type 0 where
  opened : List ℕ → Heard
  typed : List ℕ → Heard
  stepped_back : Heard
  committed : Heard
  dropped : Heard
  changed : Request → Heard

-- an accepted request that changes words or the grammar
abbrev pub heard_of_words : Exchange Request Reply → List Heard
heard_of_words (answered (requests.OnWiki (of_wiki.Word kind forms)) replies.Word) = changed (requests.OnWiki (of_wiki.Word kind forms)) ∷ []
heard_of_words (answered (requests.OnWord form (of_word.Reword forms)) replies.Reword) = changed (requests.OnWord form (of_word.Reword forms)) ∷ []
heard_of_words (answered (requests.OnWord form of_word.Unword) replies.Unword) = changed (requests.OnWord form of_word.Unword) ∷ []
heard_of_words (answered (requests.OnWiki (of_wiki.Grammar text)) replies.Grammar) = changed (requests.OnWiki (of_wiki.Grammar text)) ∷ []
heard_of_words exchange = []

-- what the session with the number hears while it is open: the requests that type, drop a token or end it, whatever was replied, its
-- commits that were accepted, and changes of words
abbrev pub heard_open : ℕ → Exchange Request Reply → List Heard
heard_open number (answered (requests.OnSession session (of_session.Type text)) reply) = if session == number then typed text ∷ [] else []
heard_open number (answered (requests.OnSession session of_session.Back) reply) = if session == number then stepped_back ∷ [] else []
heard_open number (answered (requests.OnSession session of_session.Drop) reply) = if session == number then dropped ∷ [] else []
heard_open number (answered (requests.OnSession session of_session.Commit) (replies.Commit article status text)) =
    if session == number then committed ∷ [] else []
heard_open number exchange = heard_of_words exchange

-- the form of the article on which the exchange opens the session with the number, if it does
abbrev pub opened_by : ℕ → Exchange Request Reply → Option (List ℕ)
opened_by number (answered (requests.OnArticle form of_article.Open) (replies.Open session)) = if session == number then Some form else None
opened_by number exchange = None

-- What the session with the number hears in all: changes of words and of the grammar, then that it was opened, and from there on what it hears while it
-- is open.
abbrev pub heard_by : ℕ → List (Exchange Request Reply) → List Heard
heard_by number [] = []
heard_by number (exchange ∷ exchanges) =
    option_map_or (λ form. opened form ∷ flat_map (heard_open number) exchanges) (opened_by number exchange)
    (heard_of_words exchange ++ heard_by number exchanges)

-- A session's tokens are a function of the grammar that the wiki began with and of what the session heard: in any two runs from that grammar on, whatever the
-- budgets are and whatever else was asked, two sessions that heard the same have the same tokens.
abbrev pub TokensAreOwn : GrammarParts → Type 0
TokensAreOwn g =
    (budget its_budget : ℕ) (one other : List (Exchange Request Reply)) (end its_end : State) (number its_number : ℕ)
    → Turns (Step (IsCutOff budget)) (first_state g) one end → Turns (Step (IsCutOff its_budget)) (first_state g) other its_end
    → heard_by number one ≡ heard_by its_number other → tokens_in end number ≡ tokens_in its_end its_number
