-- The live names, word by word.
use Rattle.std.proofs.Common.{◌≡◌, ℕ, zero, suc, ◌+◌, ◌<◌, Bool, true, false, cond, List, [], ◌∷◌, ◌++◌, take, map, filter, get_or, Some, All, AllPairs, refl, sym, ap, subst, ◌∙◌, arith}
use Rattle.std.specs.Prelude.{◌&&◌, nat_lt}
use Rattle.std.specs.List.{slice_get}
use Rattle.std.proofs.lemmas.Bool.{and_parts, ltb-true}
use Rattle.std.proofs.lemmas.List.Kept.{AllPairs-cons}
use Rattle.logic_terms.specs.Names.{names_above, names_rise}
use Rattle.std.proofs.lemmas.List.{take_more, map-append, get_or-take, length-take}
use Rattle.std.proofs.lemmas.List.Elements.{All-map, All-filter, filter-append}
use Rattle.std.proofs.lemmas.Option.{slice_get_within, get_or_from_slice_get}
use Rattle.wiki_base.specs.declared.numbers.WordId.{WordId}
use Rattle.answers.proofs.AskedLemmas.{rises_on}
use Rattle.lexicon.specs.declared.words.Word.{Word}
use Rattle.plain_wiki.specs.Knowledge.{is_name}

-- the names among words
abbrev pub names_among : List Word → List WordId
names_among words = map (λ word. word.id) (filter (λ word. is_name word.forms.kind) words)

-- one more word is a name, or not
pub names_more : (live : List Word) (i : ℕ) (word : Word) → slice_get live i ≡ Some word
    → names_among (take (i + 1) live) ≡ names_among (take i live) ++ cond (is_name word.forms.kind) (word.id ∷ []) []
names_more live i word at =
    ap names_among (take_more live i word (slice_get_within live i word at))
    ∙ ap (map (λ (w : Word). w.id)) (filter-append (λ (w : Word). is_name w.forms.kind) (take i live) (get_or live i word ∷ []))
    ∙ map-append (λ (w : Word). w.id) (filter (λ (w : Word). is_name w.forms.kind) (take i live))
    (filter (λ (w : Word). is_name w.forms.kind) (get_or live i word ∷ []))
    ∙ ap (λ ids. names_among (take i live) ++ ids)
    (ap (λ (w : Word). names_among (w ∷ [])) (get_or_from_slice_get live i word word at) ∙ by_test (is_name word.forms.kind))
  where
    by_test : (b : Bool) → map (λ (w : Word). w.id) (cond b (word ∷ []) []) ≡ cond b (word.id ∷ []) []
    by_test true = refl
    by_test false = refl

-- the names among the words before a place have lower numbers than the word there
pub names_below : (live : List Word) (i : ℕ) (word : Word) → AllPairs (λ (w later : Word). w.id.0 < later.id.0) live → slice_get live i ≡ Some word
    → All (λ n. n.0 < word.id.0) (names_among (take i live))
names_below live i word in_order at =
    All-map (λ (n : WordId). n.0 < word.id.0) (λ (w : Word). w.id) (filter (λ (w : Word). is_name w.forms.kind) (take i live))
    (All-filter (λ (w : Word). is_name w.forms.kind) (λ (w : Word). w.id.0 < word.id.0) (take i live) before)
  where
    before : All (λ (w : Word). w.id.0 < word.id.0) (take i live)
    before k d in_range =
        let below : k < i = omega (arith, length-take i live) in
        let there : get_or live i d ≡ word = get_or_from_slice_get live i word d at in
        subst (λ (w : Word). (get_or (take i live) k d).id.0 < w.id.0) there
        (subst (λ (w : Word). w.id.0 < (get_or live i d).id.0) (sym (get_or-take i live k d below)) (in_order k i d below (slice_get_within live i word at)))

-- names behind one that rise above it have higher numbers
above_all : (n : WordId) (ns : List WordId) → names_above n ns ≡ true → All (λ later. n.0 < later.0) ns
above_all n [] up j d within = absurd (omega arith)
above_all n (m ∷ ns) up zero d within = ltb-true n.0 m.0 (and_parts (nat_lt n.0 m.0) (names_above m ns) up).0
above_all n (m ∷ ns) up (suc j) d within =
    let two = and_parts (nat_lt n.0 m.0) (names_above m ns) up in
    let a = ltb-true n.0 m.0 two.0 in
    let b = above_all m ns two.1 j d (omega arith) in
    omega arith

-- names that rise are in order of number
pub rise_pairs : (ns : List WordId) → names_rise ns ≡ true → AllPairs (λ n later. n.0 < later.0) ns
rise_pairs [] up = λ i j d lt within. absurd (omega arith)
rise_pairs (n ∷ ns) up = AllPairs-cons (λ (n later : WordId). n.0 < later.0) n ns (above_all n ns up) (rise_pairs ns (rises_on n ns up))
