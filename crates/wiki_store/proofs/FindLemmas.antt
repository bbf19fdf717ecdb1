-- The first sentence that lacks a property, and whether a sentence keeps its meaning.
use Rattle.std.proofs.Common.{◌≡◌, ℕ, zero, suc, ◌+◌, ◌≤◌, ◌⊎◌, Bool, true, false, not, List, [], ◌∷◌, ◌++◌, length, take, drop, map, All, MatchBool, Option, Some, None, IsSome, is_some, inl, inr, refl, sym, ap, subst, ◌∙◌}
use Rattle.std.specs.List.{slice_get, list_any}
use Rattle.std.specs.Option.{option_map_or}
use Rattle.std.proofs.lemmas.Bool.{false≢true}
use Rattle.std.proofs.lemmas.List.{length-map}
use Rattle.std.proofs.lemmas.List.Elements.{All-nil, All-cons}
use Rattle.std.proofs.lemmas.Option.{none-some, same_Some}
use Rattle.wiki_base.specs.declared.numbers.WordId.{WordId}
use Rattle.wiki_base.specs.declared.numbers.Place.{Place}
use Rattle.wiki_base.proofs.ListLaws.{drop_slice_get}
use Rattle.wiki_store.proofs.JudgeLemmas.{means-at}
use Rattle.codeco_terms.specs.GrammarParts.{GrammarParts}
use Rattle.lexicon.specs.declared.kinds.Forms.{Forms}
use Rattle.lexicon.specs.Words.{Listed, is_among, forms_of}
use Rattle.derivation_trees.specs.Sentences.{IsSentence}
use Rattle.logic_terms.proofs.Walks.{left_none}
use Rattle.wiki_talk.specs.declared.refusals.Refusal.{Refusal}
use Rattle.wiki_talk.specs.declared.refusals.Refusal.TheVariants.{Breaks}
use Rattle.articles.specs.declared.sentences.Sentence.{Sentence}
use Rattle.articles.specs.declared.article.Article.{Article}
use Rattle.wiki_parts.specs.declared.meanings.Sense.{Sense}
use Rattle.wiki_parts.specs.Found.{meaning_shown}
use Rattle.wiki_parts.specs.Kept.{MeanEach, meanings_in}
use Rattle.plain_wiki.specs.Meanings.{Meaning, Means}
use Rattle.plain_wiki.specs.Places.{Placed, placed_from, placed_in, all_placed, IsFirstPlaced}
use Rattle.plain_wiki.specs.Causes.{KeepsMeaning, breaks_sentence}
use Rattle.plain_wiki.specs.State.{Stored}
use Rattle.wiki_parts.specs.Sound.{IsSound}
use Rattle.wiki_parts.proofs.MeaningLemmas.{means_one}
use Rattle.wiki_store.specs.Rewording.{Finds, FindsPlace, PassesOthers, TellsPlace}
use Rattle.wiki_store.specs.Sameness.{same_meaning}
use Rattle.wiki_store.proofs.KeepingLemmas.{as_many}
use Rattle.wiki_store.proofs.SameMeanings.{meaning_equal, meaning_self}
use Rattle.wiki_store.proofs.UnwordLemmas.{lives-at, told-found, none-found}

module _ (P : Placed → Type 0) where
  -- where none is found, all have the property
  pub finds_none : (xs : List Placed) → Finds P xs None → All P xs
  finds_none [] h = All-nil P
  finds_none (x ∷ xs) h = by h (finds_none xs)
    where
      by : (P x × Finds P xs None) ⊎ ((¬ P x) × (None ≡ Some x)) → (Finds P xs None → All P xs) → All P (x ∷ xs)
      by (inl k) rest = All-cons P x xs k.0 (rest k.1)
      by (inr n) rest = absurd (none-some x n.1)

  -- what is found is the first that lacks it
  pub finds_first : (xs : List Placed) (found : Placed) → Finds P xs (Some found) → IsFirstPlaced (λ placed. ¬ P placed) xs found
  finds_first [] found h = absurd h
  finds_first (x ∷ xs) found h = by h (finds_first xs found)
    where
      by : (P x × Finds P xs (Some found)) ⊎ ((¬ P x) × (Some found ≡ Some x)) → (Finds P xs (Some found) → IsFirstPlaced (λ placed. ¬ P placed) xs found)
          → IsFirstPlaced (λ placed. ¬ P placed) (x ∷ xs) found
      by (inl k) rest =
          let r = rest k.1 in
          record {
            count = suc r.count;
            here = r.here;
            holds = r.holds;
            earlier = All-cons (λ placed. ¬ (¬ P placed)) x (take r.count xs) (λ n. n k.0) r.earlier;
          }
      by (inr n) rest =
          record {
            count = 0;
            here = sym n.1;
            holds = subst (λ placed. ¬ P placed) (same_Some x found (sym n.1)) n.0;
            earlier = All-nil (λ placed. ¬ (¬ P placed));
          }

  -- a search of joined lists
  finds_behind : (xs ys : List Placed) (found : Option Placed) → Finds P xs None → Finds P ys found → Finds P (xs ++ ys) found
  finds_behind [] ys found h k = k
  finds_behind (x ∷ xs) ys found h k = by h (λ rest. finds_behind xs ys found rest k)
    where
      by : (P x × Finds P xs None) ⊎ ((¬ P x) × (None ≡ Some x)) → (Finds P xs None → Finds P (xs ++ ys) found) → Finds P (x ∷ (xs ++ ys)) found
      by (inl a) rest = inl (a.0, rest a.1)
      by (inr n) rest = absurd (none-some x n.1)

  finds_before : (xs ys : List Placed) (found : Placed) → Finds P xs (Some found) → Finds P (xs ++ ys) (Some found)
  finds_before [] ys found h = absurd h
  finds_before (x ∷ xs) ys found h = by h (finds_before xs ys found)
    where
      by : (P x × Finds P xs (Some found)) ⊎ ((¬ P x) × (Some found ≡ Some x)) → (Finds P xs (Some found) → Finds P (xs ++ ys) (Some found))
          → Finds P (x ∷ (xs ++ ys)) (Some found)
      by (inl a) rest = inl (a.0, rest a.1)
      by (inr n) rest = inr n

  finds_either : (xs ys : List Placed) (found : Placed) → Finds P (xs ++ ys) (Some found) → Finds P xs (Some found) ⊎ Finds P ys (Some found)
  finds_either [] ys found h = inr h
  finds_either (x ∷ xs) ys found h = by h (finds_either xs ys found)
    where
      of : P x → Finds P xs (Some found) ⊎ Finds P ys (Some found) → Finds P (x ∷ xs) (Some found) ⊎ Finds P ys (Some found)
      of holds (inl a) = inl (inl (holds, a))
      of holds (inr b) = inr b

      by : (P x × Finds P (xs ++ ys) (Some found)) ⊎ ((¬ P x) × (Some found ≡ Some x))
          → (Finds P (xs ++ ys) (Some found) → Finds P xs (Some found) ⊎ Finds P ys (Some found))
          → Finds P (x ∷ xs) (Some found) ⊎ Finds P ys (Some found)
      by (inl a) rest = of a.0 (rest a.1)
      by (inr n) rest = inl (inr n)

  -- ---- the sentences of an article

  pub next_kept : (word : WordId) (sentences : List Sentence) (at : ℕ) (s : Sentence) (found : Option Placed) → slice_get sentences at ≡ Some s
      → P (record { word = word; place = at; sentence = s })
      → Finds P (placed_from word (at + 1) (drop (at + 1) sentences)) found → Finds P (placed_from word at (drop at sentences)) found
  next_kept word sentences at s found here holds rest =
      subst (λ ss. Finds P (placed_from word at ss) found) (sym (drop_slice_get sentences at s here)) (inl (holds, rest))

  pub next_broken : (word : WordId) (sentences : List Sentence) (at : ℕ) (s : Sentence) → slice_get sentences at ≡ Some s
      → ¬ P (record { word = word; place = at; sentence = s })
      → Finds P (placed_from word at (drop at sentences)) (Some (record { word = word; place = at; sentence = s }))
  next_broken word sentences at s here lacks =
      subst (λ ss. Finds P (placed_from word at ss) (Some (record { word = word; place = at; sentence = s }))) (sym (drop_slice_get sentences at s here))
      (inr (lacks, refl))

  pub none_left : (word : WordId) (sentences : List Sentence) (at : ℕ) → length sentences ≤ at → Finds P (placed_from word at (drop at sentences)) None
  none_left word sentences at past = by (placed_from word at (drop at sentences)) (left_none (placed_from word at) sentences at past)
    where
      by : (xs : List Placed) → xs ≡ [] → Finds P xs None
      by xs none = subst (λ ys. Finds P ys None) (sym none) tt

  -- ---- all articles

  pub next_whole : (articles : List Article) (i : ℕ) (a : Article) (found : Option Placed) → slice_get articles i ≡ Some a → Finds P (placed_in a) None
      → Finds P (all_placed (drop (i + 1) articles)) found → Finds P (all_placed (drop i articles)) found
  next_whole articles i a found here none rest =
      subst (λ xs. Finds P (all_placed xs) found) (sym (drop_slice_get articles i a here))
      (finds_behind (placed_in a) (all_placed (drop (i + 1) articles)) found none rest)

  pub next_found : (articles : List Article) (i : ℕ) (a : Article) (found : Placed) → slice_get articles i ≡ Some a → Finds P (placed_in a) (Some found)
      → Finds P (all_placed (drop i articles)) (Some found)
  next_found articles i a found here finds =
      subst (λ xs. Finds P (all_placed xs) (Some found)) (sym (drop_slice_get articles i a here))
      (finds_before (placed_in a) (all_placed (drop (i + 1) articles)) found finds)

  pub none_left_in : (articles : List Article) (i : ℕ) → length articles ≤ i → Finds P (all_placed (drop i articles)) None
  none_left_in articles i past = by (all_placed (drop i articles)) (left_none all_placed articles i past)
    where
      by : (xs : List Placed) → xs ≡ [] → Finds P xs None
      by xs none = subst (λ ys. Finds P ys None) (sym none) tt

  -- ---- the word of the article that it is found in

  placed_word : (word : WordId) (place : ℕ) (sentences : List Sentence) (found : Placed) → Finds P (placed_from word place sentences) (Some found)
      → found.word ≡ word
  placed_word word place [] found h = absurd h
  placed_word word place (s ∷ ss) found h = by h (placed_word word (place + 1) ss found)
    where
      first : Placed
      first = record { word = word; place = place; sentence = s }

      by : (P first × Finds P (placed_from word (place + 1) ss) (Some found)) ⊎ ((¬ P first) × (Some found ≡ Some first))
          → (Finds P (placed_from word (place + 1) ss) (Some found) → found.word ≡ word)
          → found.word ≡ word
      by (inl a) rest = rest a.1
      by (inr n) rest = ap (λ (p : Placed). p.word) (same_Some found first n.1)

  article_word : (articles : List Article) (found : Placed) → Finds P (all_placed articles) (Some found)
      → (k : ℕ) × (slice_get (map (λ (a : Article). a.word) articles) k ≡ Some found.word)
  article_word [] found h = absurd h
  article_word (a ∷ articles) found h = by (finds_either (placed_in a) (all_placed articles) found h) (article_word articles found)
    where
      by : Finds P (placed_in a) (Some found) ⊎ Finds P (all_placed articles) (Some found)
          → (Finds P (all_placed articles) (Some found) → (k : ℕ) × (slice_get (map (λ (b : Article). b.word) articles) k ≡ Some found.word))
          → (k : ℕ) × (slice_get (a.word ∷ map (λ (b : Article). b.word) articles) k ≡ Some found.word)
      by (inl here) rest = (zero, ap Some (sym (placed_word a.word 0 a.sentences found here)))
      by (inr behind) rest = let r = rest behind in (suc r.0, r.1)

  -- the word of the article that a sentence is found in lives
  pub found_lives : (state : Stored) → IsSound state → (found : Placed) → Finds P (all_placed state.articles) (Some found)
      → IsSome (forms_of state.words.live found.word)
  found_lives state sound found h =
      let at = article_word state.articles found h in
      lives-at state.words.live found.word at.0 (ap (λ (ids : List WordId). slice_get ids at.0) (sym sound.articles) ∙ at.1)

  -- ---- the place that is told

  -- where no place is told, none is found
  pub passed_place : (xs : List Placed) (place : Option Place) → is_some place ≡ false → FindsPlace P xs place → Finds P xs None
  passed_place xs None none f = subst (Finds P xs) (none-found f.found f.told) f.finds
  passed_place xs (Some place) none f = absurd (false≢true (sym none))

  -- a place in an article, before which none was found
  pub found_place : (articles : List Article) (i : ℕ) (a : Article) (place : Option Place) → slice_get articles i ≡ Some a → is_some place ≡ true
      → FindsPlace P (placed_in a) place
      → ((found : Option Placed) → Finds P (all_placed (drop i articles)) found → Finds P (all_placed articles) found)
      → FindsPlace P (all_placed articles) place
  found_place articles i a None here some f rest = absurd (false≢true some)
  found_place articles i a (Some place) here some f rest =
      let t = told-found f.found place f.told in
      record {
        found = Some t.found;
        told = ap Some t.told;
        finds = rest (Some t.found) (next_found articles i a t.found here (subst (Finds P (placed_in a)) t.is f.finds));
      }

  pub no_place : (xs : List Placed) → Finds P xs None → FindsPlace P xs None
  no_place xs finds = record { found = None; told = refl; finds = finds }

  -- the word of the place that is told lives
  pub place_lives : (state : Stored) → IsSound state → (place : Place) → FindsPlace P (all_placed state.articles) (Some place)
      → IsSome (forms_of state.words.live place.article)
  place_lives state sound place f =
      let t = told-found f.found place f.told in
      subst (λ (p : Place). IsSome (forms_of state.words.live p.article)) t.told
      (found_lives state sound t.found (subst (Finds P (all_placed state.articles)) t.is f.finds))

-- the sentence at the place that is told is the first one that is broken
pub broken_place : (state : Stored) (other : GrammarParts) (new : Listed) (place : Place)
    → FindsPlace (λ placed. KeepsMeaning state.grammar state.words other new placed.sentence.tokens) (all_placed state.articles) (Some place)
    → (refusal : Refusal) → TellsPlace state (λ form place. Breaks form place) place.article place.at refusal → breaks_sentence state other new refusal
broken_place state other new place f refusal told =
    let t = told-found f.found place f.told in
    let there : TellsPlace state (λ form place. Breaks form place) t.found.word t.found.place refusal =
    subst (λ (p : Place). TellsPlace state (λ form place. Breaks form place) p.article p.at refusal) (sym t.told) told in (
      t.found,
      finds_first (λ placed. KeepsMeaning state.grammar state.words other new placed.sentence.tokens) (all_placed state.articles) t.found
          (subst (Finds (λ placed. KeepsMeaning state.grammar state.words other new placed.sentence.tokens) (all_placed state.articles)) t.is f.finds),
      (there.form, there.spelled, there.told),
    )

-- ---- whether a sentence keeps its meaning

pub told_kept : (g : GrammarParts) (words : Listed) (other : GrammarParts) (new : Listed) (tokens : List (List ℕ)) (kept found : Meaning) (b : Bool)
    → b ≡ same_meaning found kept
    → Means g words tokens kept → Means other new tokens found
    → MatchBool b (KeepsMeaning g words other new tokens) (KeepsMeaning g words other new tokens → ⊥)
told_kept g words other new tokens kept found true is before after =
    record { meaning = kept; before = before; after = subst (Means other new tokens) (meaning_equal found kept (sym is)) after }
told_kept g words other new tokens kept found false is before after = λ keeps.
    let same : found ≡ kept = means_one other new tokens found keeps.meaning after keeps.after
    ∙ means_one g words tokens keeps.meaning kept keeps.before before in
    false≢true (is ∙ ap (λ (m : Meaning). same_meaning m kept) same ∙ meaning_self kept)

pub not_kept : (g : GrammarParts) (words : Listed) (other : GrammarParts) (new : Listed) (tokens : List (List ℕ)) → (IsSentence other new tokens → ⊥)
    → KeepsMeaning g words other new tokens → ⊥
not_kept g words other new tokens none keeps = let least = keeps.after.is_least in none (least.tree, least.derives)

-- a sentence that is passed keeps its meaning
pub passed_keeps : (g : GrammarParts) (words : Listed) (other : GrammarParts) (new : Listed) (tokens : List (List ℕ)) (kept : Meaning)
    (forms : Option Forms) (passed : Bool) → passed ≡ option_map_or (λ f. not (list_any (is_among f.texts) tokens)) forms false → passed ≡ true
    → Means g words tokens kept → PassesOthers g words other new forms
    → KeepsMeaning g words other new tokens
passed_keeps g words other new tokens kept None passed is holds means others = absurd (false≢true (sym is ∙ holds))
passed_keeps g words other new tokens kept (Some f) passed is holds means others =
    record { meaning = kept; before = means; after = others tokens kept (none (list_any (is_among f.texts) tokens) (sym is ∙ holds)) means }
  where
    none : (b : Bool) → not b ≡ true → b ≡ false
    none true h = absurd (false≢true h)
    none false h = refl

module _ (g : GrammarParts) (words : Listed) (other : GrammarParts) (new : Listed) (article : Article) (senses : List Sense) (at : ℕ) (s : Sentence) (m : Sense)
    (kept : Bool)
    (here : slice_get article.sentences at ≡ Some s) (meant : slice_get senses at ≡ Some m) (mean : MeanEach g words article.sentences (meanings_in senses))
    (told : Means g words s.tokens (meaning_shown m) → MatchBool kept (KeepsMeaning g words other new s.tokens) (KeepsMeaning g words other new s.tokens → ⊥))
  where
    -- the sentence at the place is the first one of the article that is broken
    pub told_broken : kept ≡ false
        → ((found : Option Placed) → Finds (λ placed. KeepsMeaning g words other new placed.sentence.tokens)
        (placed_from article.word at (drop at article.sentences))
        found
        → Finds (λ placed. KeepsMeaning g words other new placed.sentence.tokens) (placed_in article) found)
        → FindsPlace (λ placed. KeepsMeaning g words other new placed.sentence.tokens) (placed_in article) (Some (record { article = article.word; at = at }))
    told_broken is rest =
        let lacks = subst (λ (b : Bool). MatchBool b (KeepsMeaning g words other new s.tokens) (KeepsMeaning g words other new s.tokens → ⊥)) is
        (told (means-at g words article.sentences senses at s m mean here meant)) in
        record {
          found = Some (record { word = article.word; place = at; sentence = s });
          told = refl;
          finds = rest (Some (record { word = article.word; place = at; sentence = s }))
              (next_broken (λ placed. KeepsMeaning g words other new placed.sentence.tokens) article.word article.sentences at s here lacks);
        }

    -- or the first one is behind it
    pub still_kept : kept ≡ true → (found : Option Placed)
        → Finds (λ placed. KeepsMeaning g words other new placed.sentence.tokens) (placed_from article.word (at + 1) (drop (at + 1) article.sentences)) found
        → Finds (λ placed. KeepsMeaning g words other new placed.sentence.tokens) (placed_from article.word at (drop at article.sentences)) found
    still_kept is found rest =
        let holds = subst (λ (b : Bool). MatchBool b (KeepsMeaning g words other new s.tokens) (KeepsMeaning g words other new s.tokens → ⊥)) is
        (told (means-at g words article.sentences senses at s m mean here meant)) in
        next_kept (λ placed. KeepsMeaning g words other new placed.sentence.tokens) article.word article.sentences at s found here holds rest

-- as many meanings are kept as there are sentences
pub as_many_sense : (g : GrammarParts) (words : Listed) (sentences : List Sentence) (senses : List Sense) → MeanEach g words sentences (meanings_in senses)
    → length senses ≡ length sentences
as_many_sense g words sentences senses mean = sym (length-map senses meaning_shown) ∙ as_many g words sentences (meanings_in senses) mean
