-- Where the axioms of some sentences of an article stand among all that are known.
use Rattle.std.proofs.Common.{◌≡◌, ℕ, ◌+◌, ◌-◌, ◌≤◌, List, [], ◌∷◌, ◌++◌, length, take, drop, get_or, Option, Some, None, refl, sym, ap, ◌∙◌, append_assoc, arith}
use Rattle.std.specs.List.{insert_slice, remove_range}
use Rattle.std.specs.Option.{IsSomeAnd}
use Rattle.std.proofs.lemmas.List.{length-append, length-take-le, length-drop, take-append-drop, drop-drop}
use Rattle.std.proofs.lemmas.Option.{get_or_from_slice_get}
use Rattle.std.proofs.Math.Seq.{take-append_seam, drop-append_seam, drop-append-add}
use Rattle.wiki_base.specs.declared.numbers.WordId.{WordId}
use Rattle.logic_terms.specs.Concept.{Claim}
use Rattle.logic_terms.specs.Interpretation.{Interpretation}
use Rattle.logic_terms.specs.Reading.{IsModel}
use Rattle.owl_eval.specs.declared.checked.CheckedModel.{CheckedModel}
use Rattle.owl_eval.specs.Checked.{kept_claims}
use Rattle.reasoner.specs.Verdicts.{IsFiniteModel}
use Rattle.wiki_talk.specs.declared.statuses.Status.TheVariants.{Asserted, RedBudget}
use Rattle.articles.specs.declared.sentences.Sentence.{Sentence}
use Rattle.articles.specs.declared.article.Article.{Article}
use Rattle.wiki_parts.specs.declared.meanings.Sense.{Sense}
use Rattle.plain_wiki.specs.Meanings.{Meaning, stating, outside, asking, asking_outside}
use Rattle.plain_wiki.specs.State.{Stored}
use Rattle.wiki_parts.specs.Kept.{stated_by, meanings_in, known_of, known_in, known_around, IsAround, Stands, IsKeeping}
use Rattle.wiki_store.specs.Settled.{IsTrueIn}
use Rattle.wiki_store.proofs.AroundLemmas.{known_in-parts, known_around-is}
use Rattle.wiki_store.proofs.InsideLemmas.{item-is}
use Rattle.wiki_store.proofs.JudgeLemmas.{known_of-split}

-- ---- lists

-- items come in at a place, and those behind them go, up to another place
pub replaced : {X : Type 0} (xs own : List X) (first count : ℕ) → first ≤ length xs
    → remove_range (insert_slice xs first own) (first + length own) (first + length own + count) ≡ take first xs ++ (own ++ drop (first + count) xs)
replaced {X} xs own first count within =
    let front : List X = take first xs ++ own in
    let back : List X = drop first xs in
    let long : first + length own ≡ length front = ap (λ n. n + length own) (sym (length-take-le first xs within)) ∙ sym (length-append (take first xs) own) in
    ap (λ (n : ℕ). take n (front ++ back) ++ drop (n + count) (front ++ back)) long
    ∙ ap (λ (ys : List X). ys ++ drop (length front + count) (front ++ back)) (take-append_seam front back)
    ∙ ap (λ (ys : List X). front ++ ys) (drop-append-add front back count ∙ drop-drop count first xs)
    ∙ append_assoc (take first xs) own (drop (first + count) xs)

-- items that came in at a place go
pub gone : {X : Type 0} (xs own : List X) (first : ℕ) → first ≤ length xs
    → remove_range (take first xs ++ (own ++ drop first xs)) first (first + length own) ≡ xs
gone {X} xs own first within =
    let front : List X = take first xs in
    let back : List X = drop first xs in
    let short : first ≡ length front = sym (length-take-le first xs within) in
    let long : first + length own ≡ length (front ++ own) = ap (λ n. n + length own) short ∙ sym (length-append front own) in
    ap (λ (n : ℕ). take n (front ++ (own ++ back)) ++ drop (first + length own) (front ++ (own ++ back))) short
    ∙ ap (λ (ys : List X). ys ++ drop (first + length own) (front ++ (own ++ back))) (take-append_seam front (own ++ back))
    ∙ ap (λ (ys : List X). front ++ ys)
    (ap (λ (ys : List X). drop (first + length own) ys) (sym (append_assoc front own back)) ∙ ap (λ (n : ℕ). drop n ((front ++ own) ++ back)) long
    ∙ drop-append_seam (front ++ own) back)
    ∙ take-append-drop first xs

pub long-insert_slice : {X : Type 0} (xs own : List X) (first : ℕ) → first ≤ length xs → length (insert_slice xs first own) ≡ length xs + length own
long-insert_slice xs own first within =
    let front = length-take-le first xs within in
    let back = length-drop first xs in
    let both = length-append (take first xs) own in
    let all = length-append (take first xs ++ own) (drop first xs) in
    omega (arith, within, front, back, both, all)

-- a value that is there, with what is true of it
pub some-there : {X : Type 0} (P : X → Type 0) (o : Option X) → IsSomeAnd o P → (x : X) × (o ≡ Some x) × P x
some-there P None here = absurd here
some-there P (Some x) here = (x, refl, here)

-- the parts of five lists, by how long they are
parts_of : {X : Type 0} (xs a b m c own : List X) (first count : ℕ) → xs ≡ (a ++ b) ++ (m ++ c) → first ≡ length a + length b → count ≡ length m
    → take first xs ++ (own ++ drop (first + count) xs) ≡ a ++ (b ++ (own ++ c))
parts_of {X} xs a b m c own first count is here many =
    let start : first ≡ length (a ++ b) = here ∙ sym (length-append a b) in
    ap (λ (ys : List X). take first ys ++ (own ++ drop (first + count) ys)) is
    ∙ ap (λ (n : ℕ). take n ((a ++ b) ++ (m ++ c)) ++ (own ++ drop (n + count) ((a ++ b) ++ (m ++ c)))) start
    ∙ ap (λ (ys : List X). ys ++ (own ++ drop (length (a ++ b) + count) ((a ++ b) ++ (m ++ c)))) (take-append_seam (a ++ b) (m ++ c))
    ∙ ap (λ (ys : List X). (a ++ b) ++ (own ++ ys)) (drop-append-add (a ++ b) (m ++ c) count ∙ ap (λ (n : ℕ). drop n (m ++ c)) many ∙ drop-append_seam m c)
    ∙ append_assoc a b (own ++ c)

-- ---- what is known

-- what is known of sentences, by those before a place, those from it to before another, and the others
known_of-three : (ss : List Sentence) (ms : List Sense) (from to : ℕ) → from ≤ to → length ms ≡ length ss
    → known_of ss (meanings_in ms)
    ≡ known_of (take from ss) (meanings_in (take from ms))
    ++ (known_of (take (to - from) (drop from ss)) (meanings_in (take (to - from) (drop from ms))) ++ known_of (drop to ss) (meanings_in (drop to ms)))
known_of-three ss ms from to rises same =
    let same_back : length (drop from ms) ≡ length (drop from ss) = length-drop from ms ∙ ap (λ n. n - from) same ∙ sym (length-drop from ss) in
    let on : from + (to - from) ≡ to = omega (arith, rises) in
    let before = known_of (take from ss) (meanings_in (take from ms)) in
    let between = known_of (take (to - from) (drop from ss)) (meanings_in (take (to - from) (drop from ms))) in
    known_of-split ss ms from same
    ∙ ap (λ (cs : List Claim). before ++ cs)
    (known_of-split (drop from ss) (drop from ms) (to - from) same_back
    ∙ ap (λ (xs : List Sentence). between ++ known_of xs (meanings_in (drop (to - from) (drop from ms))))
    (drop-drop (to - from) from ss ∙ ap (λ (n : ℕ). drop n ss) on)
    ∙ ap (λ (xs : List Sense). between ++ known_of (drop to ss) (meanings_in xs)) (drop-drop (to - from) from ms ∙ ap (λ (n : ℕ). drop n ms) on))

module _ {articles : List Article} {senses : List (List Sense)} {place from to : ℕ} (around : IsAround articles senses place from to) where
  -- what is known before an article's sentences, of those before a place, from it to before another, and behind that
  unfoldable pub front : List Claim
  front = known_in (take place articles) (take place senses)

  unfoldable pub before : List Claim
  before = known_of (take from around.article.sentences) (meanings_in (take from around.own))

  unfoldable pub between : List Claim
  between = known_of (take (to - from) (drop from around.article.sentences)) (meanings_in (take (to - from) (drop from around.own)))

  unfoldable pub behind : List Claim
  behind = known_of (drop to around.article.sentences) (meanings_in (drop to around.own)) ++ known_in (drop (place + 1) articles) (drop (place + 1) senses)

  known-parts : known_in articles senses ≡ (front ++ before) ++ (between ++ behind)
  unfolding front before between behind
  known-parts =
      let back = known_in (drop (place + 1) articles) (drop (place + 1) senses) in
      let later = known_of (drop to around.article.sentences) (meanings_in (drop to around.own)) in
      known_in-parts articles senses place around.article around.own around.here around.meant
      ∙ ap (λ (cs : List Claim). front ++ (cs ++ back)) (known_of-three around.article.sentences around.own from to around.rises around.many)
      ∙ ap (λ (cs : List Claim). front ++ cs)
      (append_assoc before (between ++ later) back ∙ ap (λ (cs : List Claim). before ++ cs) (append_assoc between later back))
      ∙ sym (append_assoc front before (between ++ (later ++ back)))

  pub known-long : length (known_in articles senses) ≡ length front + length before + length between + length behind
  known-long =
      ap length known-parts ∙ length-append (front ++ before) (between ++ behind)
      ∙ (let one = length-append front before in let other = length-append between behind in omega (arith, one, other))

  -- how much is known of the sentences before the second place
  pub upto-long : length (known_of (take to around.article.sentences) (meanings_in (take to around.own))) ≡ length before + length between
  unfolding before between
  upto-long =
      let later = known_of (drop to around.article.sentences) (meanings_in (drop to around.own)) in
      let upto = known_of (take to around.article.sentences) (meanings_in (take to around.own)) in
      let same : upto ++ later ≡ before ++ (between ++ later) =
      sym (known_of-split around.article.sentences around.own to around.many)
      ∙ known_of-three around.article.sentences around.own from to around.rises around.many in
      let left = length-append upto later in
      let right = length-append before (between ++ later) in
      let inner = length-append between later in
      let long : length (upto ++ later) ≡ length (before ++ (between ++ later)) = ap length same in
      omega (arith, left, right, inner, long)

  -- The article's sentences, and what they mean, as they are found: how many they are, and how much is known of those before the places.
  pub counted : {sentences : List Sentence} {meant found : List Sense} (a : Article) → sentences ≡ (get_or articles place a).sentences → meant ≡ found
      → found ≡ get_or senses place found
      → (length sentences ≡ length around.article.sentences) × (length meant ≡ length around.article.sentences)
      × (length (known_of (take from sentences) (meanings_in (take from meant))) ≡ length before)
      × (length (known_of (take to sentences) (meanings_in (take to meant))) ≡ length before + length between)
  unfolding before
  counted {sentences} {meant} {found} a is whole here =
      let same : sentences ≡ around.article.sentences =
      is ∙ ap (λ (b : Article). b.sentences) (get_or_from_slice_get articles place around.article a around.here) in
      let own : meant ≡ around.own = whole ∙ item-is senses place found around.own around.meant here in
      let upto : (n : ℕ) → length (known_of (take n sentences) (meanings_in (take n meant)))
      ≡ length (known_of (take n around.article.sentences) (meanings_in (take n around.own))) =
      λ n.
      ap (λ (ss : List Sentence). length (known_of (take n ss) (meanings_in (take n meant)))) same
      ∙ ap (λ (ms : List Sense). length (known_of (take n around.article.sentences) (meanings_in (take n ms)))) own in
      (ap length same, ap length own ∙ around.many, upto from, upto to ∙ upto-long)

  -- they stand there among all
  pub stand : (first count : ℕ) → first ≡ length front + length before → count ≡ length between → (own : List Claim)
      → known_around articles senses place from own to ≡ take first (known_in articles senses) ++ (own ++ drop (first + count) (known_in articles senses))
  unfolding front before behind
  stand first count here many own =
      known_around-is articles senses place from to own around.article around.own around.here around.meant
      ∙ sym (parts_of (known_in articles senses) front before between behind own first count known-parts here many)

-- ---- statements that are true in an interpretation

pub settled-states : (i : Interpretation) (meaning : Meaning) → IsTrueIn i meaning → IsModel i (stated_by meaning)
settled-states i (stating claims) true_there = true_there
settled-states i (outside cause) true_there = absurd true_there
settled-states i (asking concept) true_there = absurd true_there
settled-states i (asking_outside cause) true_there = absurd true_there

-- such a statement is asserted where all axioms have a model
pub settled-stands : (i j : Interpretation) (claims : List Claim) (names : List WordId) (budget : ℕ) (meaning : Meaning) → IsTrueIn i meaning
    → IsFiniteModel j claims
    → Stands claims names budget meaning Asserted
settled-stands i j claims names budget (stating []) true_there finite = refl
settled-stands i j claims names budget (stating (claim ∷ own)) true_there finite = (j, finite)
settled-stands i j claims names budget (outside cause) true_there finite = absurd true_there
settled-stands i j claims names budget (asking concept) true_there finite = absurd true_there
settled-stands i j claims names budget (asking_outside cause) true_there finite = absurd true_there

-- it isn't red then
pub not-red : Asserted ≡ RedBudget → ⊥
not-red red = cc

-- what is kept beside a state may have another model of the same axioms
pub keeps-claims : (state : Stored) (senses : List (List Sense)) (model after : CheckedModel) → IsKeeping state senses model
    → kept_claims after ≡ kept_claims model → IsKeeping state senses after
keeps-claims state senses model after keeping same = record {
  sound = keeping.sound;
  mean = keeping.mean;
  known = same ∙ keeping.known;
  short = keeping.short;
  few = keeping.few;
}
