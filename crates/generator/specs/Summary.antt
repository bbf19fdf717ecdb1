-- What the replies to a generated wiki add up to.
use Rattle.std.specs.Prelude.{ℕ, ◌+◌, List, [], ◌∷◌, ◌++◌, length, codes, if◌then◌else◌}
use Rattle.std.specs.Fmt.{decimal}
use Rattle.wiki_talk.specs.declared.statuses.Status.{Status}
use Rattle.wiki_talk.specs.declared.statuses.Status.TheVariants.{Asserted, RedContradiction, RedBudget, Outside, Question, QuestionOutside}
use Rattle.wiki_talk.specs.declared.replies.Reply.{Reply}
use Rattle.wiki_talk.specs.declared.replies.Reply.TheVariants as replies
use Rattle.wiki_talk.specs.declared.replies.SentenceView.{SentenceView}
use Rattle.generator.specs.declared.summary.Summary.{Summary}

-- nothing was replied yet
abbrev pub nothing : Summary
nothing = record { words = 0; sentences = 0; asserted = 0; red = 0; outside = 0; questions = 0; answers = 0; unknown = 0 }

-- a sentence with this status more
abbrev pub with_status : Summary → Status → Summary
with_status s Asserted = record s { sentences = s.sentences + 1; asserted = s.asserted + 1 }
with_status s RedContradiction = record s { sentences = s.sentences + 1; red = s.red + 1 }
with_status s RedBudget = record s { sentences = s.sentences + 1; red = s.red + 1 }
with_status s (Outside cause) = record s { sentences = s.sentences + 1; outside = s.outside + 1 }
with_status s Question = record s { sentences = s.sentences + 1; questions = s.questions + 1 }
with_status s (QuestionOutside cause) = record s { sentences = s.sentences + 1; questions = s.questions + 1 }
with_status s status = record s { sentences = s.sentences + 1 }

-- the answers to a sentence, and the names of which the answer isn't known
abbrev pub with_sentence : Summary → SentenceView → Summary
with_sentence s sentence = record s { answers = s.answers + length sentence.answers; unknown = s.unknown + length sentence.unknown }

-- those of an article
abbrev pub with_answers : Summary → List SentenceView → Summary
with_answers s [] = s
with_answers s (sentence ∷ sentences) = with_answers (with_sentence s sentence) sentences

-- a reply more: a word, a sentence, or an article that was read
abbrev pub with_reply : Summary → Reply → Summary
with_reply s replies.Word = record s { words = s.words + 1 }
with_reply s (replies.Add status shown) = with_status s status
with_reply s (replies.Read form revision sentences) = with_answers s sentences
with_reply s reply = s

-- what replies add up to
abbrev pub summed : Summary → List Reply → Summary
summed s [] = s
summed s (reply ∷ later) = summed (with_reply s reply) later

-- a line with a name and its number, and lines that follow it
abbrev pub counted : List ℕ → ℕ → List ℕ → List ℕ
counted name count lines = name ++ (codes " " ++ (decimal count ++ (codes "\n" ++ lines)))

-- how many words and sentences there are
abbrev pub said_text : Summary → List ℕ
said_text s = counted (codes "words") s.words (counted (codes "sentences") s.sentences (counted (codes "asserted") s.asserted (counted (codes "red") s.red [])))

-- how many statements have no axioms, and what questions were answered
abbrev pub answered_text : Summary → List ℕ
answered_text s = counted (codes "outside") s.outside
    (counted (codes "questions") s.questions (counted (codes "answers") s.answers (counted (codes "unknown") s.unknown [])))

-- The eight lines of a summary.
abbrev pub summary_text : Summary → List ℕ
summary_text s = said_text s ++ answered_text s
