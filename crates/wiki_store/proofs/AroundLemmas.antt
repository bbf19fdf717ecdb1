-- What is known around a place of an article.
use Rattle.std.proofs.Common.{◌≡◌, ℕ, zero, suc, min, ◌+◌, ◌<◌, ◌≤◌, cond, List, [], ◌∷◌, ◌++◌, length, take, drop, get_or, set, Option, Some, None, unwrap_or, refl, sym, ap, subst, ◌∙◌, append_assoc, arith}
use Rattle.std.specs.List.{slice_get, remove}
use Rattle.std.proofs.lemmas.List.{drop_more, take-set, drop-set, take-append-drop, length-take, length-take-le, length-map}
use Rattle.std.proofs.lemmas.Option.{none-some, get_or_from_slice_get, slice_get_within, slice_get-get_or}
use Rattle.std.specs.Option.{option_map_or, IsSomeAnd}
use Rattle.wiki_base.specs.declared.numbers.WordId.{WordId}
use Rattle.wiki_talk.specs.declared.statuses.Status.TheVariants.{Retracted}
use Rattle.codeco_terms.specs.GrammarParts.{GrammarParts}
use Rattle.lexicon.specs.Words.{Listed}
use Rattle.logic_terms.specs.Concept.{Claim}
use Rattle.articles.specs.declared.sentences.Sentence.{Sentence}
use Rattle.articles.specs.declared.article.Article.{Article}
use Rattle.articles.specs.Articles.{AreInOrder, HasPlace, HasSentence, article_of, changed, with_change, with_status}
use Rattle.articles.specs.Places.{IsPlaceOf}
use Rattle.articles.proofs.PlaceLemmas.{article_at, with_change-set}
use Rattle.wiki_parts.specs.declared.meanings.Sense.{Sense}
use Rattle.plain_wiki.specs.Knowledge.{is_asserted}
use Rattle.wiki_parts.specs.Found.{meaning_shown}
use Rattle.wiki_parts.specs.Kept.{stated_by, meanings_in, known_of, known_in, known_around, senses_of, IsAround, MeanEach, MeanInEach}
use Rattle.wiki_parts.proofs.KnownLemmas.{known_of-step}
use Rattle.wiki_store.proofs.KeepingLemmas.{as_many, as_many_lists}

-- what is known of lists that are cut at the same place
pub known_of-append : (ss ts : List Sentence) (ms ns : List Sense) → length ms ≡ length ss
    → known_of (ss ++ ts) (meanings_in (ms ++ ns)) ≡ known_of ss (meanings_in ms) ++ known_of ts (meanings_in ns)
known_of-append [] ts [] ns same = refl
known_of-append [] ts (m ∷ ms) ns same = absurd (omega (arith, same))
known_of-append (s ∷ ss) ts [] ns same = absurd (omega (arith, same))
known_of-append (s ∷ ss) ts (m ∷ ms) ns same =
    ap (λ (cs : List Claim). cond (is_asserted s.status) (stated_by (meaning_shown m)) [] ++ cs) (known_of-append ss ts ms ns (omega (arith, same)))
    ∙ sym (append_assoc (cond (is_asserted s.status) (stated_by (meaning_shown m)) []) (known_of ss (meanings_in ms)) (known_of ts (meanings_in ns)))

pub known_in-append : (articles others : List Article) (senses more : List (List Sense)) → length senses ≡ length articles
    → known_in (articles ++ others) (senses ++ more) ≡ known_in articles senses ++ known_in others more
known_in-append [] others [] more same = refl
known_in-append [] others (own ∷ senses) more same = absurd (omega (arith, same))
known_in-append (a ∷ articles) others [] more same = absurd (omega (arith, same))
known_in-append (a ∷ articles) others (own ∷ senses) more same =
    ap (λ (cs : List Claim). known_of a.sentences (meanings_in own) ++ cs) (known_in-append articles others senses more (omega (arith, same)))
    ∙ sym (append_assoc (known_of a.sentences (meanings_in own)) (known_in articles senses) (known_in others more))

-- the fronts of lists of one length have one length
pub same_take : {X Y : Type 0} (n : ℕ) (xs : List X) (ys : List Y) → length ys ≡ length xs → length (take n ys) ≡ length (take n xs)
same_take n xs ys same = length-take n ys ∙ ap (min n) same ∙ sym (length-take n xs)

-- a list with another item at a place
pub set_parts : {X : Type 0} (xs : List X) (i : ℕ) (x : X) → i < length xs → set xs i x ≡ take i xs ++ x ∷ drop (i + 1) xs
set_parts {X} xs i x in_range =
    sym (take-append-drop i (set xs i x)) ∙ ap (λ (front : List X). front ++ drop i (set xs i x)) (take-set xs i x)
    ∙ ap (λ (back : List X). take i xs ++ back) (drop-set xs i x in_range)

-- what is known with another article, and other meanings, at a place
pub known_in-set : (articles : List Article) (senses : List (List Sense)) (place : ℕ) (a : Article) (own : List Sense) → place < length articles
    → length senses ≡ length articles
    → known_in (set articles place a) (set senses place own)
    ≡ known_in (take place articles) (take place senses)
    ++ (known_of a.sentences (meanings_in own) ++ known_in (drop (place + 1) articles) (drop (place + 1) senses))
known_in-set articles senses place a own in_range same =
    ap (λ (xs : List Article). known_in xs (set senses place own)) (set_parts articles place a in_range)
    ∙ ap (λ (ms : List (List Sense)). known_in (take place articles ++ a ∷ drop (place + 1) articles) ms)
    (set_parts senses place own (omega (arith, in_range, same)))
    ∙ known_in-append (take place articles) (a ∷ drop (place + 1) articles) (take place senses) (own ∷ drop (place + 1) senses)
    (same_take place articles senses same)

-- what is known of the sentences of an article without the one at a place
pub known_of-remove : (ss : List Sentence) (ms : List Sense) (at : ℕ) → length ms ≡ length ss
    → known_of (remove ss at) (meanings_in (remove ms at))
    ≡ known_of (take at ss) (meanings_in (take at ms)) ++ known_of (drop (at + 1) ss) (meanings_in (drop (at + 1) ms))
known_of-remove ss ms at same =
    let next : suc at ≡ at + 1 = omega arith in
    known_of-append (take at ss) (drop (suc at) ss) (take at ms) (drop (suc at) ms) (same_take at ss ms same)
    ∙ ap (λ (n : ℕ). known_of (take at ss) (meanings_in (take at ms)) ++ known_of (drop n ss) (meanings_in (drop n ms))) next

-- what is known of the sentences of an article, by the one at a place
pub known_of-parts : (ss : List Sentence) (ms : List Sense) (at : ℕ) (s : Sentence) (m : Sense) → length ms ≡ length ss → at < length ss → s ≡ get_or ss at s
    → m ≡ get_or ms at m
    → known_of ss (meanings_in ms)
    ≡ known_of (take at ss) (meanings_in (take at ms))
    ++ (cond (is_asserted s.status) (stated_by (meaning_shown m)) [] ++ known_of (drop (at + 1) ss) (meanings_in (drop (at + 1) ms)))
known_of-parts ss ms at s m same in_range here meant =
    ap (λ (xs : List Sentence). known_of xs (meanings_in ms)) (sym (take-append-drop at ss))
    ∙ ap (λ (xs : List Sense). known_of (take at ss ++ drop at ss) (meanings_in xs)) (sym (take-append-drop at ms))
    ∙ known_of-append (take at ss) (drop at ss) (take at ms) (drop at ms) (same_take at ss ms same)
    ∙ ap (λ (cs : List Claim). known_of (take at ss) (meanings_in (take at ms)) ++ cs)
    (known_of-step ss ms at s m in_range (omega (arith, in_range, same)) here meant)

-- five lists, one after another
pub five : {X : Type 0} (a b m c d : List X) → a ++ b ++ m ++ c ++ d ≡ a ++ (b ++ (m ++ (c ++ d)))
five a b m c d = append_assoc (a ++ b ++ m) c d ∙ append_assoc (a ++ b) m (c ++ d) ∙ append_assoc a b (m ++ (c ++ d))

-- the axioms that are known around places of an article, by that article and what is kept of it
pub known_around-is : (articles : List Article) (senses : List (List Sense)) (place from to : ℕ) (own : List Claim) (a : Article) (kept : List Sense)
    → slice_get articles place ≡ Some a → slice_get senses place ≡ Some kept
    → known_around articles senses place from own to
    ≡ known_in (take place articles) (take place senses) ++ (known_of (take from a.sentences) (meanings_in (take from kept))
    ++ (own ++ (known_of (drop to a.sentences) (meanings_in (drop to kept)) ++ known_in (drop (place + 1) articles) (drop (place + 1) senses))))
known_around-is articles senses place from to own a kept here meant =
    ap (λ (o : Option Article). around (option_map_or (λ (b : Article). b.sentences) o []) (senses_of senses place)) here
    ∙ ap (λ (o : Option (List Sense)). around a.sentences (unwrap_or o [])) meant
    ∙ five (known_in (take place articles) (take place senses)) (known_of (take from a.sentences) (meanings_in (take from kept))) own
    (known_of (drop to a.sentences) (meanings_in (drop to kept))) (known_in (drop (place + 1) articles) (drop (place + 1) senses))
  where
    around : List Sentence → List Sense → List Claim
    around ss ms =
        known_in (take place articles) (take place senses) ++ known_of (take from ss) (meanings_in (take from ms))
        ++ own ++ known_of (drop to ss) (meanings_in (drop to ms)) ++ known_in (drop (place + 1) articles) (drop (place + 1) senses)

-- what is known where the sentence at a place is taken out
pub known_taken : (articles : List Article) (senses : List (List Sense)) (word : WordId) (place at : ℕ) → AreInOrder articles → length senses ≡ length articles
    → IsPlaceOf articles word place
    → (around : IsAround articles senses place at (at + 1))
    → known_in (with_change articles word (λ sentences. remove sentences at)) (set senses place (remove around.own at))
    ≡ known_around articles senses place at [] (at + 1)
known_taken articles senses word place at ordered same here around =
    let a = around.article in
    let at_place : get_or articles place a ≡ a = get_or_from_slice_get articles place a a around.here in
    ap (λ (xs : List Article). known_in xs (set senses place (remove around.own at)))
    (with_change-set articles ordered word place here (λ sentences. remove sentences at) a
    ∙ ap (λ (b : Article). set articles place (changed (λ sentences. remove sentences at) b)) at_place)
    ∙ known_in-set articles senses place (changed (λ sentences. remove sentences at) a) (remove around.own at) here.in_range same
    ∙ ap (λ (cs : List Claim). known_in (take place articles) (take place senses) ++ (cs ++ known_in (drop (place + 1) articles) (drop (place + 1) senses)))
    (known_of-remove a.sentences around.own at around.many)
    ∙ ap (λ (cs : List Claim). known_in (take place articles) (take place senses) ++ cs)
    (append_assoc (known_of (take at a.sentences) (meanings_in (take at around.own)))
    (known_of (drop (at + 1) a.sentences) (meanings_in (drop (at + 1) around.own))) (known_in (drop (place + 1) articles) (drop (place + 1) senses)))
    ∙ sym (known_around-is articles senses place at (at + 1) [] a around.own around.here around.meant)

-- the item at a place
pub item : {X : Type 0} (xs : List X) (i : ℕ) → i < length xs → (x : X) × (slice_get xs i ≡ Some x)
item [] i in_range = absurd (omega (arith, in_range))
item (x ∷ xs) i in_range = (get_or (x ∷ xs) i x, slice_get-get_or (x ∷ xs) i x in_range)

-- a list by the item at a place
pub parts_at : {X : Type 0} (xs : List X) (i : ℕ) (x : X) → slice_get xs i ≡ Some x → xs ≡ take i xs ++ x ∷ drop (i + 1) xs
parts_at {X} xs i x here =
    sym (take-append-drop i xs)
    ∙ ap (λ (back : List X). take i xs ++ back)
    (drop_more xs i x (slice_get_within xs i x here) ∙ ap (λ (y : X). y ∷ drop (i + 1) xs) (get_or_from_slice_get xs i x x here))

-- what is known, by what is known of the article at a place
pub known_in-parts : (articles : List Article) (senses : List (List Sense)) (place : ℕ) (a : Article) (own : List Sense) → slice_get articles place ≡ Some a
    → slice_get senses place ≡ Some own
    → known_in articles senses ≡ known_in (take place articles) (take place senses)
    ++ (known_of a.sentences (meanings_in own) ++ known_in (drop (place + 1) articles) (drop (place + 1) senses))
known_in-parts articles senses place a own here meant =
    let in_articles = slice_get_within articles place a here in
    let in_senses = slice_get_within senses place own meant in
    ap (λ (xs : List Article). known_in xs senses) (parts_at articles place a here)
    ∙ ap (λ (ms : List (List Sense)). known_in (take place articles ++ a ∷ drop (place + 1) articles) ms) (parts_at senses place own meant)
    ∙ known_in-append (take place articles) (a ∷ drop (place + 1) articles) (take place senses) (own ∷ drop (place + 1) senses)
    (length-take-le place senses (omega (arith, in_senses)) ∙ sym (length-take-le place articles (omega (arith, in_articles))))

-- what is known where the sentence at a place isn't asserted any more
pub known_retracted : (articles : List Article) (senses : List (List Sense)) (word : WordId) (place at : ℕ) → AreInOrder articles
    → length senses ≡ length articles → IsPlaceOf articles word place
    → IsAround articles senses place at (at + 1)
    → known_in (with_change articles word (λ sentences. with_status sentences at Retracted)) senses ≡ known_around articles senses place at [] (at + 1)
known_retracted articles senses word place at ordered same here around =
    let a = around.article in
    let within = around.within in
    let many = around.many in
    let in_range : at < length a.sentences = omega (arith, within) in
    let in_own : at < length around.own = omega (arith, within, many) in
    let s = item a.sentences at in_range in
    let m = item around.own at in_own in
    let old : Sentence = s.0 in
    let new : Sentence = record old { status = Retracted } in
    let front = known_in (take place articles) (take place senses) in
    let back = known_in (drop (place + 1) articles) (drop (place + 1) senses) in
    let before = known_of (take at a.sentences) (meanings_in (take at around.own)) in
    let behind = known_of (drop (at + 1) a.sentences) (meanings_in (drop (at + 1) around.own)) in
    let marked : with_status a.sentences at Retracted ≡ set a.sentences at new =
    ap (λ (o : Option Sentence). option_map_or (λ (t : Sentence). set a.sentences at (record t { status = Retracted })) o a.sentences) s.1 in
    let left : known_of (with_status a.sentences at Retracted) (meanings_in around.own) ≡ before ++ behind =
    ap (λ (xs : List Sentence). known_of xs (meanings_in around.own)) (marked ∙ set_parts a.sentences at new in_range)
    ∙ ap (λ (ms : List Sense). known_of (take at a.sentences ++ new ∷ drop (at + 1) a.sentences) (meanings_in ms)) (parts_at around.own at m.0 m.1)
    ∙ known_of-append (take at a.sentences) (new ∷ drop (at + 1) a.sentences) (take at around.own) (m.0 ∷ drop (at + 1) around.own)
    (same_take at a.sentences around.own many) in
    let at_place : get_or articles place a ≡ a = get_or_from_slice_get articles place a a around.here in
    let changed_to : Article = changed (λ sentences. with_status sentences at Retracted) a in
    ap (λ (xs : List Article). known_in xs senses)
    (with_change-set articles ordered word place here (λ sentences. with_status sentences at Retracted) a
    ∙ ap (λ (b : Article). set articles place (changed (λ sentences. with_status sentences at Retracted) b)) at_place)
    ∙ ap (λ (ms : List (List Sense)). known_in (set articles place changed_to) ms)
    (parts_at senses place around.own around.meant ∙ sym (set_parts senses place around.own (slice_get_within senses place around.own around.meant)))
    ∙ known_in-set articles senses place changed_to around.own here.in_range same
    ∙ ap (λ (cs : List Claim). front ++ (cs ++ back)) left
    ∙ ap (λ (cs : List Claim). front ++ cs) (append_assoc before behind back)
    ∙ sym (known_around-is articles senses place at (at + 1) [] a around.own around.here around.meant)

-- what is kept of the article at a place is the meanings of its sentences
pub mean_at : (g : GrammarParts) (words : Listed) (articles : List Article) (senses : List (List Sense)) (place : ℕ) (a : Article) (own : List Sense)
    → MeanInEach g words articles senses
    → slice_get articles place ≡ Some a → slice_get senses place ≡ Some own → MeanEach g words a.sentences (meanings_in own)
mean_at g words [] senses place a own mean here meant = absurd (none-some a here)
mean_at g words (b ∷ articles) [] place a own mean here meant = absurd mean
mean_at g words (b ∷ articles) (others ∷ senses) zero a own mean here meant =
    subst (λ (c : Article). MeanEach g words c.sentences (meanings_in own)) (ap (λ (o : Option Article). unwrap_or o b) here)
    (subst (λ (ms : List Sense). MeanEach g words b.sentences (meanings_in ms)) (ap (λ (o : Option (List Sense)). unwrap_or o others) meant) mean.0)
mean_at g words (b ∷ articles) (others ∷ senses) (suc place) a own mean here meant = mean_at g words articles senses place a own mean.1 here meant

-- places of an article, with what is kept of the article
pub around_place : (g : GrammarParts) (words : Listed) (articles : List Article) (senses : List (List Sense)) → MeanInEach g words articles senses
    → AreInOrder articles → (word : WordId) (place : ℕ) → IsPlaceOf articles word place → (from to : ℕ) → from ≤ to → HasPlace articles word to
    → IsAround articles senses place from to
around_place g words articles senses mean ordered word place is from to rises there =
    let lists = as_many_lists g words articles senses mean in
    let in_range = is.in_range in
    let a = item articles place in_range in
    let own = item senses place (omega (arith, in_range, lists)) in
    let many : length (meanings_in own.0) ≡ length a.0.sentences =
    as_many g words a.0.sentences (meanings_in own.0) (mean_at g words articles senses place a.0 own.0 mean a.1 own.1) in
    let found : article_of articles word ≡ Some a.0 =
    article_at articles ordered word place a.0 is ∙ ap Some (get_or_from_slice_get articles place a.0 a.0 a.1) in
    let within : to ≤ length a.0.sentences = subst (λ (o : Option Article). IsSomeAnd o (λ b. to ≤ length b.sentences)) found there in
    record { article = a.0; here = a.1; own = own.0; meant = own.1; many = sym (length-map own.0 meaning_shown) ∙ many; rises = rises; within = within }

-- an article with a sentence at a place has the place behind it
pub place-behind : (articles : List Article) (word : WordId) (at : ℕ) → HasSentence articles word at → HasPlace articles word (at + 1)
place-behind articles word at there = by_article (article_of articles word) there
  where
    by_article : (o : Option Article) → IsSomeAnd o (λ a. at < length a.sentences) → IsSomeAnd o (λ a. at + 1 ≤ length a.sentences)
    by_article None within = absurd within
    by_article (Some a) within = omega (arith, within)
