-- The words of a lexicon but for one: they have every form but that word's own.
use Rattle.std.proofs.Common.{◌≡◌, ℕ, zero, suc, ◌<◌, ◌≤◌, eqb, Bool, true, false, not, cond, List, [], ◌∷◌, length, get_or, Option, Some, None, All, AllPairs, filter, find, option_map, refl, sym, ap, ◌∙◌, arith}
use Rattle.std.specs.List.{remove}
use Rattle.std.proofs.lemmas.Bool.{false≢true}
use Rattle.std.proofs.lemmas.Bool.Decides.{nat_tests}
use Rattle.wiki_base.specs.declared.numbers.WordId.{WordId}
use Rattle.wiki_base.proofs.ListLaws.{AllPairs-tail, AllPairs-head, filter_all, find_none}
use Rattle.lexicon.specs.declared.words.Word.{Word}
use Rattle.lexicon.specs.Words.{has_form, has_number, owner, others, SharesNoForm, IsPlaceOf}

-- where each element fails, a search of what a filter keeps finds none
find_none_kept : {X : Type 0} (p q : X → Bool) (xs : List X) → ((k : ℕ) (d : X) → k < length xs → p (get_or xs k d) ≡ false) → find p (filter q xs) ≡ None
find_none_kept p q [] fails = refl
find_none_kept p q (x ∷ xs) fails = by_tests (q x) (p x) (fails zero x (omega arith)) (find_none_kept p q xs (λ k d in_range. fails (suc k) d (omega arith)))
  where
    after : (c : Bool) → c ≡ false → find p (filter q xs) ≡ None → cond c (Some x) (find p (filter q xs)) ≡ None
    after true failed rest = absurd (false≢true (sym failed))
    after false failed rest = rest

    by_tests : (b c : Bool) → p x ≡ false → find p (filter q xs) ≡ None → find p (cond b (x ∷ filter q xs) (filter q xs)) ≡ None
    by_tests true c failed rest = after (p x) failed rest
    by_tests false c failed rest = rest

-- the owner of a text, but for the word with the number
abbrev pub other_than : WordId → Option WordId → Option WordId
other_than id None = None
other_than id (Some word) = cond (eqb word.0 id.0) None (Some word)

-- a search by owner, of words of which none has the text
no_owner : (words : List Word) (text : List ℕ) → find (has_form text) words ≡ None → owner words text ≡ None
no_owner words text none = ap (option_map (λ (word : Word). word.id)) none

-- the words that share no form with the one before them have none of its forms
none_after : (word : Word) (words : List Word) (text : List ℕ) → AllPairs SharesNoForm (word ∷ words) → has_form text word ≡ true → (k : ℕ) (d : Word)
    → k < length words → has_form text (get_or words k d) ≡ false
none_after word words text apart has k d in_range = AllPairs-head SharesNoForm word words apart k d in_range text has

-- the owner among the other words is the owner, if that is another word
pub owner-others : (live : List Word) → AllPairs SharesNoForm live → (id : WordId) (text : List ℕ)
    → owner (others live id) text ≡ other_than id (owner live text)
owner-others [] apart id text = refl
owner-others (word ∷ live) apart id text =
    by_tests (has_number id word) refl (has_form text word) refl (owner-others live (AllPairs-tail SharesNoForm word live apart) id text)
    (none_after word live text apart)
  where
    kept : (f n : Bool) → owner (others live id) text ≡ other_than id (owner live text) → n ≡ false → has_number id word ≡ n
        → option_map (λ (w : Word). w.id) (cond f (Some word) (find (has_form text) (others live id)))
        ≡ other_than id (option_map (λ (w : Word). w.id) (cond f (Some word) (find (has_form text) live)))
    kept true true rest failed is = absurd (false≢true (sym failed))
    kept true false rest failed is = rw is refl
    kept false true rest failed is = rest
    kept false false rest failed is = rest

    dropped : (f : Bool) → has_number id word ≡ true → owner (others live id) text ≡ other_than id (owner live text)
        → (f ≡ true → owner (others live id) text ≡ None)
        → owner (others live id) text ≡ other_than id (option_map (λ (w : Word). w.id) (cond f (Some word) (find (has_form text) live)))
    dropped true is rest none = rw is (none refl)
    dropped false is rest none = rest

    by_tests : (n : Bool) → has_number id word ≡ n → (f : Bool) → has_form text word ≡ f → owner (others live id) text ≡ other_than id (owner live text)
        → (has_form text word ≡ true → (k : ℕ) (d : Word) → k < length live → has_form text (get_or live k d) ≡ false)
        → option_map (λ (w : Word). w.id) (find (has_form text) (cond (not n) (word ∷ others live id) (others live id)))
        ≡ other_than id (option_map (λ (w : Word). w.id) (cond (has_form text word) (Some word) (find (has_form text) live)))
    by_tests true is f has rest none = dropped (has_form text word) is rest
        (λ has. no_owner (others live id) text (find_none_kept (has_form text) (λ w. not (has_number id w)) live (none has)))
    by_tests false is f has rest none = kept (has_form text word) false rest refl is

-- no word has the number 0, so all words are others than it
pub others_than_none : (live : List Word) (last : ℕ) → All (λ word. (0 < word.id.0) × (word.id.0 ≤ last)) live → others live (record { 0 = 0 }) ≡ live
others_than_none live last given = filter_all (λ word. not (has_number (record { 0 = 0 }) word)) live
    (λ k d in_range. unequal (get_or live k d) (given k d in_range).0)
  where
    unequal : (word : Word) → 0 < word.id.0 → not (has_number (record { 0 = 0 }) word) ≡ true
    unequal word above = let no : eqb word.id.0 0 ≡ false = grind (arith, nat_tests) in rw no refl

-- in order of number, the words but for one are the list without its place
pub others-remove : (live : List Word) → AllPairs (λ word later. word.id.0 < later.id.0) live → (id : WordId) (place : ℕ) → IsPlaceOf live id place
    → others live id ≡ remove live place
others-remove [] in_order id place is = absurd (omega (arith, is.in_range))
others-remove (word ∷ live) in_order id zero is =
    by_test (has_number id word) (let same = is.numbered word in grind (arith, nat_tests)) (filter_all (λ w. not (has_number id w)) live unequal)
  where
    unequal : (k : ℕ) (d : Word) → k < length live → not (has_number id (get_or live k d)) ≡ true
    unequal k d in_range =
        let above : word.id.0 < (get_or live k d).id.0 = AllPairs-head (λ (w v : Word). w.id.0 < v.id.0) word live in_order k d in_range in
        let same : word.id.0 ≡ id.0 = is.numbered word in
        let no : eqb (get_or live k d).id.0 id.0 ≡ false = grind (arith, nat_tests) in
        rw no refl

    by_test : (b : Bool) → b ≡ true → others live id ≡ live → cond (not b) (word ∷ others live id) (others live id) ≡ live
    by_test true here rest = rest
    by_test false here rest = absurd (false≢true here)
others-remove (word ∷ live) in_order id (suc place) is =
    by_test (has_number id word) (before word)
    (others-remove live (AllPairs-tail (λ (w v : Word). w.id.0 < v.id.0) word live in_order) id place
    (record { in_range = omega (arith, is.in_range); numbered = is.numbered }))
  where
    before : (d : Word) → has_number id word ≡ false
    before d =
        let below : word.id.0 < (get_or live place d).id.0 =
        AllPairs-head (λ (w v : Word). w.id.0 < v.id.0) word live in_order place d (omega (arith, is.in_range)) in
        let same : (get_or live place d).id.0 ≡ id.0 = is.numbered d in
        grind (arith, nat_tests)

    by_test : (b : Bool) → b ≡ false → others live id ≡ remove live place → cond (not b) (word ∷ others live id) (others live id) ≡ word ∷ remove live place
    by_test true earlier rest = absurd (false≢true (sym earlier))
    by_test false earlier rest = ap (λ ws. word ∷ ws) rest

-- without the word that has the text, no word has it
pub owner_gone : (live : List Word) → AllPairs SharesNoForm live → (place : ℕ) (d : Word) → place < length live → (text : List ℕ)
    → has_form text (get_or live place d) ≡ true → owner (remove live place) text ≡ None
owner_gone [] apart place d in_range text has = absurd (omega arith)
owner_gone (word ∷ live) apart zero d in_range text has = no_owner live text (find_none (has_form text) live (none_after word live text apart has))
owner_gone (word ∷ live) apart (suc place) d in_range text has =
    by_test (has_form text word) (λ first. false≢true (sym (none_after word live text apart first place d (omega arith)) ∙ has))
    (owner_gone live (AllPairs-tail SharesNoForm word live apart) place d (omega arith) text has)
  where
    by_test : (b : Bool) → (b ≡ true → ⊥) → owner (remove live place) text ≡ None
        → option_map (λ (w : Word). w.id) (cond b (Some word) (find (has_form text) (remove live place))) ≡ None
    by_test true not rest = absurd (not refl)
    by_test false not rest = rest

-- the owner of a text is the word at a place, where that has it, and else the owner among the other words
pub owner-place : (live : List Word) → AllPairs SharesNoForm live → (place : ℕ) (d : Word) → place < length live → (text : List ℕ)
    → owner live text ≡ cond (has_form text (get_or live place d)) (Some (get_or live place d).id) (owner (remove live place) text)
owner-place [] apart place d in_range text = absurd (omega arith)
owner-place (word ∷ live) apart zero d in_range text = by_test (has_form text word)
  where
    by_test : (b : Bool) → option_map (λ (w : Word). w.id) (cond b (Some word) (find (has_form text) live)) ≡ cond b (Some word.id) (owner live text)
    by_test true = refl
    by_test false = refl
owner-place (word ∷ live) apart (suc place) d in_range text =
    by_tests (has_form text word) (has_form text (get_or live place d)) (λ first. none_after word live text apart first place d (omega arith))
    (owner-place live (AllPairs-tail SharesNoForm word live apart) place d (omega arith) text)
  where
    by_tests : (b c : Bool) → (b ≡ true → c ≡ false) → owner live text ≡ cond c (Some (get_or live place d).id) (owner (remove live place) text)
        → option_map (λ (w : Word). w.id) (cond b (Some word) (find (has_form text) live))
        ≡ cond c (Some (get_or live place d).id) (option_map (λ (w : Word). w.id) (cond b (Some word) (find (has_form text) (remove live place))))
    by_tests true true apart rest = absurd (false≢true (sym (apart refl)))
    by_tests true false apart rest = refl
    by_tests false true apart rest = rest
    by_tests false false apart rest = rest

-- a table without the forms of the word at a place finds the other words
pub owner-removed : (live : List Word) → AllPairs SharesNoForm live → (place : ℕ) (d : Word) → place < length live → (text : List ℕ)
    → cond (has_form text (get_or live place d)) None (owner live text) ≡ owner (remove live place) text
owner-removed live apart place d in_range text =
    by_test (has_form text (get_or live place d)) (owner_gone live apart place d in_range text) (owner-place live apart place d in_range text)
  where
    by_test : (b : Bool) → (b ≡ true → owner (remove live place) text ≡ None)
        → owner live text ≡ cond b (Some (get_or live place d).id) (owner (remove live place) text)
        → cond b None (owner live text) ≡ owner (remove live place) text
    by_test true gone at = sym (gone refl)
    by_test false gone at = at
