-- What is bounded, and by what.
use Rattle.std.specs.Prelude.{ℕ, List, codes}
use Rattle.wiki_talk.specs.declared.limits.Limit.{Limit}
use Rattle.wiki_talk.specs.declared.limits.Limit.TheVariants.{Words, Sentences, Sessions, Tokens, Numbers}

-- the greatest number that is allowed, and that a refusal tells
abbrev pub amount_of : Limit → ℕ
amount_of Words = 5000
amount_of Sentences = 2000
amount_of Sessions = 64
amount_of Tokens = 40
amount_of Numbers = 4294967295

-- the name that a line tells
abbrev pub name_of : Limit → List ℕ
name_of Words = codes "words"
name_of Sentences = codes "sentences"
name_of Sessions = codes "sessions"
name_of Tokens = codes "tokens"
name_of Numbers = codes "numbers"
