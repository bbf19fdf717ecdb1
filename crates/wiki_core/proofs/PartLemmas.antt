-- The parts of sentences, sentence by sentence, and what they are of the wiki.
use Rattle.std.proofs.Common.{◌≡◌, ℕ, ◌+◌, ◌<◌, ◌≤◌, min, ◌⊎◌, inl, inr, Bool, true, false, cond, List, [], ◌∷◌, ◌++◌, length, map, filter, drop, get_or, Option, Some, None, All, AllPairs, refl, sym, ap, subst, ◌∙◌, arith}
use Rattle.std.specs.Prelude.{IsTrue, IfSome, MatchOption, option_map}
use Rattle.std.specs.Option.{option_and_then}
use Rattle.std.specs.Borrow.{Bor}
use Rattle.std.proofs.lemmas.Option.{none-some, same_Some}
use Rattle.std.specs.List.{AllZip, slice_get}
use Rattle.std.proofs.lemmas.Bool.{cases_lt}
use Rattle.std.proofs.lemmas.List.{drop_more, drop_all, map-append}
use Rattle.std.proofs.lemmas.List.Elements.{All-nil, All-cons, filter-append}
use Rattle.wiki_base.specs.declared.numbers.Place.{Place}
use Rattle.wiki_base.specs.declared.numbers.WordId.{WordId}
use Rattle.codeco_terms.specs.GrammarParts.{GrammarParts}
use Rattle.codeco_checked.specs.Sound.{IsSound}
use Rattle.lexicon.specs.Words.{Listed, SharesNoForm}
use Rattle.logic_terms.specs.Concept.{Concept, Claim}
use Rattle.logic_terms.specs.declared.expressions.Class.{Class}
use Rattle.logic_terms.specs.Plain.{are_plain}
use Rattle.logic_terms.specs.Shown.{claims_of, concept_of}
use Rattle.absorb.specs.Mentioned.{are_over}
use Rattle.explain.specs.declared.part.Part.{Part}
use Rattle.explain.specs.Answers.{claims_in}
use Rattle.articles.specs.declared.sentences.Sentence.{Sentence}
use Rattle.articles.specs.declared.article.Article.{Article}
use Rattle.articles.specs.Articles.{article_of, sentence_at}
use Rattle.wiki_parts.specs.declared.meanings.Sense.{Sense}
use Rattle.wiki_parts.specs.Found.{meaning_shown}
use Rattle.plain_wiki.specs.State.{Stored}
use Rattle.wiki_parts.specs.Kept.{stated_by, meanings_in, MeanEach, MeanInEach}
use Rattle.plain_wiki.specs.Knowledge.{live_names}
use Rattle.plain_wiki.specs.Meanings.{Meaning, stating, outside, asking, asking_outside, Means}
use Rattle.plain_wiki.specs.Places.{Placed, placed_from, placed_in, all_placed, told_place}
use Rattle.wiki_parts.proofs.OverLemmas.{stated_plain, stated_over, asked_plain, asked_over}
use Rattle.wiki_core.specs.Counting.{PlainPart, plain_part, plain_parts, part_at, in_article, parts_from, parts_in}
use Rattle.wiki_core.specs.Parts.{is_counted, counted, States, place_of, AreParts, asked_by, IsFitClass}

-- ---- one sentence, and one article, more

parts_from-none : (taken : Option Place) (word : WordId) (at : ℕ) (sentences : List Sentence) → parts_from taken word at sentences [] ≡ []
parts_from-none taken word at [] = refl
parts_from-none taken word at (s ∷ ss) = refl

parts_in-none : (taken : Option Place) (articles : List Article) → parts_in taken articles [] ≡ []
parts_in-none taken [] = refl
parts_in-none taken (a ∷ articles) = refl

-- there is no part behind the end of either list
pub parts_from-past : (taken : Option Place) (word : WordId) (at : ℕ) (sentences : List Sentence) (senses : List Sense) (n : ℕ)
    → min (length sentences) (length senses) ≤ n → parts_from taken word at (drop n sentences) (meanings_in (drop n senses)) ≡ []
parts_from-past taken word at sentences senses n past = by_length (cases_lt n (length sentences))
  where
    by_length : (n < length sentences) ⊎ (length sentences ≤ n) → parts_from taken word at (drop n sentences) (meanings_in (drop n senses)) ≡ []
    by_length (inl before) =
        let all : length senses ≤ n = omega (arith, past, before) in
        ap (λ (ms : List Sense). parts_from taken word at (drop n sentences) (meanings_in ms)) (drop_all n senses all)
        ∙ parts_from-none taken word at (drop n sentences)
    by_length (inr all) = ap (λ (ss : List Sentence). parts_from taken word at ss (meanings_in (drop n senses))) (drop_all n sentences all)

pub parts_in-past : (taken : Option Place) (articles : List Article) (senses : List (List Sense)) (n : ℕ) → min (length articles) (length senses) ≤ n
    → parts_in taken (drop n articles) (drop n senses) ≡ []
parts_in-past taken articles senses n past = by_length (cases_lt n (length articles))
  where
    by_length : (n < length articles) ⊎ (length articles ≤ n) → parts_in taken (drop n articles) (drop n senses) ≡ []
    by_length (inl before) =
        let all : length senses ≤ n = omega (arith, past, before) in
        ap (λ (ms : List (List Sense)). parts_in taken (drop n articles) ms) (drop_all n senses all) ∙ parts_in-none taken (drop n articles)
    by_length (inr all) = ap (λ (left : List Article). parts_in taken left (drop n senses)) (drop_all n articles all)

-- the parts from a place on are that of the sentence there and those behind it
pub parts_from-step : (taken : Option Place) (word : WordId) (sentences : List Sentence) (senses : List Sense) (i : ℕ) (s : Sentence) (sense : Sense)
    → i < length sentences → i < length senses → s ≡ get_or sentences i s → sense ≡ get_or senses i sense
    → parts_from taken word i (drop i sentences) (meanings_in (drop i senses))
    ≡ part_at taken (in_article word i) s.status (meaning_shown sense)
    ++ parts_from taken word (i + 1) (drop (i + 1) sentences) (meanings_in (drop (i + 1) senses))
parts_from-step taken word sentences senses i s sense in_sentences in_senses at at_sense =
    ap (λ (ss : List Sentence). parts_from taken word i ss (meanings_in (drop i senses)))
    (drop_more sentences i s in_sentences ∙ ap (λ (t : Sentence). t ∷ drop (i + 1) sentences) (sym at))
    ∙ ap (λ (ms : List Sense). parts_from taken word i (s ∷ drop (i + 1) sentences) (meanings_in ms))
    (drop_more senses i sense in_senses ∙ ap (λ (t : Sense). t ∷ drop (i + 1) senses) (sym at_sense))

pub parts_in-step : (taken : Option Place) (articles : List Article) (senses : List (List Sense)) (i : ℕ) (a : Article) (own : List Sense)
    → i < length articles → i < length senses → a ≡ get_or articles i a → own ≡ get_or senses i own
    → parts_in taken (drop i articles) (drop i senses)
    ≡ parts_from taken a.word 0 a.sentences (meanings_in own) ++ parts_in taken (drop (i + 1) articles) (drop (i + 1) senses)
parts_in-step taken articles senses i a own in_articles in_senses at at_senses =
    ap (λ (left : List Article). parts_in taken left (drop i senses))
    (drop_more articles i a in_articles ∙ ap (λ (t : Article). t ∷ drop (i + 1) articles) (sym at))
    ∙ ap (λ (left : List (List Sense)). parts_in taken (a ∷ drop (i + 1) articles) left)
    (drop_more senses i own in_senses ∙ ap (λ (t : List Sense). t ∷ drop (i + 1) senses) (sym at_senses))

-- ---- what they are of the wiki

abbrev counts : Option Place → Placed → Bool
counts taken placed = is_counted taken (told_place placed) placed.sentence.status

abbrev places : List PlainPart → List Place
places parts = map (λ (part : PlainPart). part.place) parts

abbrev claims : List PlainPart → List (List Claim)
claims parts = map (λ (part : PlainPart). part.claims) parts

abbrev placed_here : WordId → ℕ → Sentence → Placed
placed_here word at sentence = record { word = word; place = at; sentence = sentence }

abbrev part_here : WordId → ℕ → Meaning → PlainPart
part_here word at meaning = record { place = in_article word at; claims = stated_by meaning }

zip_append : {A B : Type 0} (R : A → B → Type 0) (xs ys : List A) (us vs : List B) → AllZip R xs us → AllZip R ys vs → AllZip R (xs ++ ys) (us ++ vs)
zip_append R [] ys [] vs first second = second
zip_append R [] ys (u ∷ us) vs first second = absurd first
zip_append R (x ∷ xs) ys [] vs first second = absurd first
zip_append R (x ∷ xs) ys (u ∷ us) vs first second = (first.0, zip_append R xs ys us vs first.1 second)

module _ (g : GrammarParts) (words : Listed) (taken : Option Place) where
  places_from : (word : WordId) (at : ℕ) (ss : List Sentence) (ms : List Meaning) → MeanEach g words ss ms
      → places (parts_from taken word at ss ms) ≡ map told_place (filter (counts taken) (placed_from word at ss))
  places_from word at [] [] mean = refl
  places_from word at [] (m ∷ ms) mean = absurd mean
  places_from word at (s ∷ ss) [] mean = absurd mean
  places_from word at (s ∷ ss) (m ∷ ms) mean = by (is_counted taken (in_article word at) s.status) (places_from word (at + 1) ss ms mean.1)
    where
      by : (b : Bool) → places (parts_from taken word (at + 1) ss ms) ≡ map told_place (filter (counts taken) (placed_from word (at + 1) ss))
          → places (cond b (part_here word at m ∷ []) [] ++ parts_from taken word (at + 1) ss ms)
          ≡ map told_place (cond b (placed_here word at s ∷ filter (counts taken) (placed_from word (at + 1) ss))
          (filter (counts taken) (placed_from word (at + 1) ss)))
      by true rest = ap (λ (ps : List Place). in_article word at ∷ ps) rest
      by false rest = rest

  stated_from : (word : WordId) (at : ℕ) (ss : List Sentence) (ms : List Meaning) → MeanEach g words ss ms
      → AllZip (States g words) (filter (counts taken) (placed_from word at ss)) (claims (parts_from taken word at ss ms))
  stated_from word at [] [] mean = tt
  stated_from word at [] (m ∷ ms) mean = absurd mean
  stated_from word at (s ∷ ss) [] mean = absurd mean
  stated_from word at (s ∷ ss) (m ∷ ms) mean = by (is_counted taken (in_article word at) s.status) (stated_from word (at + 1) ss ms mean.1)
    where
      by : (b : Bool)
          → AllZip (States g words) (filter (counts taken) (placed_from word (at + 1) ss)) (claims (parts_from taken word (at + 1) ss ms))
          → AllZip (States g words)
          (cond b (placed_here word at s ∷ filter (counts taken) (placed_from word (at + 1) ss)) (filter (counts taken) (placed_from word (at + 1) ss)))
          (claims (cond b (part_here word at m ∷ []) [] ++ parts_from taken word (at + 1) ss ms))
      by true rest = (record { meaning = m; means = mean.0.0; stated = refl }, rest)
      by false rest = rest

  places_in : (articles : List Article) (senses : List (List Sense)) → MeanInEach g words articles senses
      → places (parts_in taken articles senses) ≡ map told_place (counted taken articles)
  places_in [] [] mean = refl
  places_in [] (own ∷ senses) mean = absurd mean
  places_in (a ∷ articles) [] mean = absurd mean
  places_in (a ∷ articles) (own ∷ senses) mean =
      let here = parts_from taken a.word 0 a.sentences (meanings_in own) in
      let rest = parts_in taken articles senses in
      map-append (λ (part : PlainPart). part.place) here rest
      ∙ ap (λ (ps : List Place). ps ++ places rest) (places_from a.word 0 a.sentences (meanings_in own) mean.0)
      ∙ ap (λ (ps : List Place). map told_place (filter (counts taken) (placed_in a)) ++ ps) (places_in articles senses mean.1)
      ∙ sym (map-append told_place (filter (counts taken) (placed_in a)) (counted taken articles))
      ∙ sym (ap (map told_place) (filter-append (counts taken) (placed_in a) (all_placed articles)))

  stated_in : (articles : List Article) (senses : List (List Sense)) → MeanInEach g words articles senses
      → AllZip (States g words) (counted taken articles) (claims (parts_in taken articles senses))
  stated_in [] [] mean = tt
  stated_in [] (own ∷ senses) mean = absurd mean
  stated_in (a ∷ articles) [] mean = absurd mean
  stated_in (a ∷ articles) (own ∷ senses) mean =
      let here = parts_from taken a.word 0 a.sentences (meanings_in own) in
      let rest = parts_in taken articles senses in
      let joined : AllZip (States g words) (filter (counts taken) (placed_in a) ++ counted taken articles) (claims here ++ claims rest) =
      zip_append (States g words) (filter (counts taken) (placed_in a)) (counted taken articles) (claims here) (claims rest)
      (stated_from a.word 0 a.sentences (meanings_in own) mean.0) (stated_in articles senses mean.1) in
      subst (λ (xs : List Placed). AllZip (States g words) xs (claims (here ++ rest))) (sym (filter-append (counts taken) (placed_in a) (all_placed articles)))
      (subst (λ (css : List (List Claim)). AllZip (States g words) (filter (counts taken) (placed_in a) ++ counted taken articles) css)
      (sym (map-append (λ (part : PlainPart). part.claims) here rest)) joined)

  -- what holds of the axioms of each sentence holds of those of each part
  each_stated : (P : List Claim → Type 0) → ((placed : Placed) (cs : List Claim) → States g words placed cs → P cs)
      → (xs : List Placed) (css : List (List Claim)) → AllZip (States g words) xs css → All P css
  each_stated P holds [] [] zipped = All-nil P
  each_stated P holds [] (cs ∷ css) zipped = absurd zipped
  each_stated P holds (x ∷ xs) [] zipped = absurd zipped
  each_stated P holds (x ∷ xs) (cs ∷ css) zipped = All-cons P cs css (holds x cs zipped.0) (each_stated P holds xs css zipped.1)

plain_places : (parts : List Part) → places (plain_parts parts) ≡ map place_of parts
plain_places [] = refl
plain_places (part ∷ parts) = ap (λ (ps : List Place). place_of part ∷ ps) (plain_places parts)

plain_claims : (parts : List Part) → claims (plain_parts parts) ≡ claims_in parts
plain_claims [] = refl
plain_claims (part ∷ parts) = ap (λ (css : List (List Claim)). claims_of part.axioms ∷ css) (plain_claims parts)

-- the parts that are made of the meanings that are kept are those of the wiki
pub are_parts : (state : Stored) (taken : Option Place) (senses : List (List Sense)) (parts : List Part) → IsSound state.grammar
    → AllPairs SharesNoForm state.words.live
    → MeanInEach state.grammar state.words state.articles senses → plain_parts parts ≡ parts_in taken state.articles senses → AreParts state taken parts
are_parts state taken senses parts sound apart mean is =
    let g = state.grammar in
    let words = state.words in
    let stated : AllZip (States g words) (counted taken state.articles) (claims_in parts) =
    subst (AllZip (States g words) (counted taken state.articles)) (sym (ap claims is) ∙ plain_claims parts)
    (stated_in g words taken state.articles senses mean) in
    let IsOver : List Claim → Type 0 = λ cs. IsTrue (are_over (live_names words) cs) in
    let ArePlain : List Claim → Type 0 = λ cs. IsTrue (are_plain cs) in
    record {
      places = sym (plain_places parts) ∙ ap places is ∙ places_in g words taken state.articles senses mean;
      stated = stated;
      over = each_stated g words taken IsOver
          (λ placed cs states. ap (are_over (live_names words)) states.stated
          ∙ stated_over g sound words apart placed.sentence.tokens states.meaning states.means)
          (counted taken state.articles) (claims_in parts) stated;
      plain = each_stated g words taken ArePlain
          (λ placed cs states. ap are_plain states.stated ∙ stated_plain g words placed.sentence.tokens states.meaning states.means)
          (counted taken state.articles) (claims_in parts) stated;
    }

-- ---- meanings

-- the class that tokens ask for is over the live names, and plain
pub fit_class : (g : GrammarParts) (words : Listed) → IsSound g → AllPairs SharesNoForm words.live → (tokens : List (List ℕ)) (meaning : Meaning)
    → Means g words tokens meaning
    → (class : Option Class) → option_map concept_of class ≡ asked_by meaning → IfSome class (IsFitClass words)
fit_class g words sound apart tokens meaning means None is = tt
fit_class g words sound apart tokens (asking concept) means (Some class) is =
    let same : concept ≡ concept_of class = same_class is in
    let asks : Means g words tokens (asking (concept_of class)) = subst (λ (c : Concept). Means g words tokens (asking c)) same means in
    record { over = asked_over g sound words apart tokens (concept_of class) asks; plain = asked_plain g words tokens (concept_of class) asks }
  where
    same_class : Some (concept_of class) ≡ Some concept → concept ≡ concept_of class
    same_class e = cc
fit_class g words sound apart tokens (stating claims) means (Some class) is = absurd cc
fit_class g words sound apart tokens (outside cause) means (Some class) is = absurd cc
fit_class g words sound apart tokens (asking_outside cause) means (Some class) is = absurd cc

-- the sentence at a place of an article that is there
pub sentence_there : (articles : List Article) (word : WordId) (at : ℕ) (article : Article) (sentence : Option Sentence)
    → article_of articles word ≡ Some article → slice_get article.sentences at ≡ sentence → sentence_at articles word at ≡ sentence
sentence_there articles word at article sentence found here = ap (λ (o : Option Article). option_and_then (λ a. slice_get a.sentences at) o) found ∙ here

-- what holds of each item holds of the one that is lent
pub each_got : {X : Type 0} (P : X → Type 0) (xs : List X) (i : ℕ) (N : Type 0) (Q : Bor X → Type 0) (got : Option (Bor X))
    → IfSome got (λ x. x.now ≡ get_or xs i x.now) → MatchOption got N (λ x. (i < length xs) × Q x) → All P xs → IfSome got (λ x. P x.now)
each_got P xs i N Q None is within all = tt
each_got P xs i N Q (Some x) is within all = subst P (sym is) (all i x.now within.0)

-- what is said of what is found
pub matched : {X : Type 0} (N : Type 0) (P : X → Type 0) (o : Option X) (x : X) → o ≡ Some x → MatchOption o N P → P x
matched N P None x is said = absurd (none-some x is)
matched N P (Some y) x is said = subst P (same_Some y x is) said
