-- The requests of a generated wiki.
use Rattle.std.specs.Prelude.{ℕ, zero, suc, ◌+◌, ◌-◌, ◌%◌, nat_lt, if◌then◌else◌, List, [], ◌∷◌, ◌++◌, map, codes, None}
use Rattle.std.specs.List.{range_with_len}
use Rattle.lexicon.specs.declared.kinds.Kind.TheVariants as kinds
use Rattle.wiki_talk.specs.declared.requests.Request.{Request}
use Rattle.wiki_talk.specs.declared.requests.Request.TheVariants as requests
use Rattle.wiki_talk.specs.declared.requests.WikiRequest.TheVariants as of_wiki
use Rattle.wiki_talk.specs.declared.requests.ArticleRequest.TheVariants as of_article
use Rattle.generator.specs.Drawn.{next_draw, noun, nouns, name, verb, verbs, verbed}

-- ---- words

-- the request for a noun, a name or a verb, by the number of its letter
abbrev pub noun_request : ℕ → Request
noun_request n = requests.OnWiki (of_wiki.Word kinds.Noun (noun n ∷ nouns n ∷ []))

abbrev pub name_request : ℕ → Request
name_request n = requests.OnWiki (of_wiki.Word kinds.Name (name n ∷ []))

abbrev pub verb_request : ℕ → Request
verb_request n = requests.OnWiki (of_wiki.Word kinds.Verb (verbs n ∷ verb n ∷ verbed n ∷ []))

-- the word with the number, from 0: twenty nouns, twenty names and ten verbs
abbrev pub word_request : ℕ → Request
word_request n = if nat_lt n 20 then noun_request n else (if nat_lt n 40 then name_request (n - 20) else verb_request (n - 40))

abbrev pub word_requests : List Request
word_requests = map word_request (range_with_len 0 50)

-- ---- sentences

-- a sentence at the end of the article of this word
abbrev pub at_end : List ℕ → List ℕ → Request
at_end word text = requests.OnArticle word (of_article.Add None text)

-- two names are related
abbrev pub related : ℕ → ℕ → ℕ → Request
related i v j = at_end (name i) (name i ++ (codes " " ++ (verbs v ++ (codes " " ++ (name j ++ codes ".")))))

-- each of a noun is also of another
abbrev pub included : ℕ → ℕ → Request
included i j = at_end (noun i) (codes "Every " ++ (noun i ++ (codes " is a " ++ (noun j ++ codes "."))))

-- a name is of a noun
abbrev pub is_in : ℕ → ℕ → Request
is_in i j = at_end (name i) (name i ++ (codes " is a " ++ (noun j ++ codes ".")))

-- each of a noun is related to some of another only
abbrev pub only_related : ℕ → ℕ → ℕ → Request
only_related i v j = at_end (noun i) (codes "Every " ++ (noun i ++ (codes " " ++ (verbs v ++ (codes " only " ++ (nouns j ++ codes "."))))))

-- which of a noun are related to a name
abbrev pub asked : ℕ → ℕ → ℕ → Request
asked i v j = at_end (noun i) (codes "Which " ++ (nouns i ++ (codes " " ++ (verb v ++ (codes " " ++ (name j ++ codes "?"))))))

-- a noun below the last, and one behind it
abbrev pub inclusion : ℕ → ℕ → Request
inclusion one two = included (one % 19) (one % 19 + 1 + two % (19 - one % 19))

-- the sentence of a kind, which is a number below 5, by three drawn numbers
abbrev pub sentence_of_kind : ℕ → ℕ → ℕ → ℕ → Request
sentence_of_kind zero one two three = related (one % 20) (two % 10) (three % 20)
sentence_of_kind (suc zero) one two three = inclusion one two
sentence_of_kind (suc (suc zero)) one two three = is_in (one % 20) (two % 20)
sentence_of_kind (suc (suc (suc zero))) one two three = only_related (one % 20) (two % 10) (three % 20)
sentence_of_kind n one two three = asked (one % 20) (two % 10) (three % 20)

-- Sentences from this number on, so many, after this draw: each draws three numbers, and its kind is its number modulo 5.
abbrev pub sentences_from : ℕ → ℕ → ℕ → List Request
sentences_from number zero draw = []
sentences_from number (suc count) draw =
    sentence_of_kind (number % 5) (next_draw draw) (next_draw (next_draw draw)) (next_draw (next_draw (next_draw draw)))
    ∷ sentences_from (number + 1) count (next_draw (next_draw (next_draw draw)))

-- ---- reads

-- the form that names the word with the number
abbrev pub word_form : ℕ → List ℕ
word_form n = if nat_lt n 20 then noun n else (if nat_lt n 40 then name (n - 20) else verb (n - 40))

-- the article of the word with the number
abbrev pub read_request : ℕ → Request
read_request n = requests.OnArticle (word_form n) of_article.Read

-- each article once, in order of the numbers of their words
abbrev pub read_requests : List Request
read_requests = map read_request (range_with_len 0 50)

-- ---- all

-- the words, so many sentences by the draws of the seed, and then each article
abbrev pub made_requests : ℕ → ℕ → List Request
made_requests count seed = word_requests ++ (sentences_from 0 count (seed % 65537) ++ read_requests)
