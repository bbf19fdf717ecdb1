-- Words in order of their numbers.
use Rattle.std.proofs.Common.{◌≡◌, ℕ, zero, suc, ◌<◌, ltb, true, List, [], ◌∷◌, map, length, get_or, Contains, refl, sym, ap, subst, ◌∙◌, arith}
use Rattle.std.specs.Prelude.{◌↔◌, AllPairs}
use Rattle.std.specs.List.Sorted.{IsStrictlyIncreasing}
use Rattle.std.proofs.lemmas.Bool.{and_from, lt-ltb}
use Rattle.std.proofs.lemmas.List.{length-map, get_or-map}
use Rattle.std.proofs.lemmas.List.Kept.{AllPairs-from_increasing}
use Rattle.wiki_base.specs.declared.numbers.WordId.{WordId}
use Rattle.logic_terms.specs.Names.{names_above, names_rise}
use Rattle.absorb.specs.Numbered.{numbered, number_of}
use Rattle.absorb.proofs.RepresentativeLemmas.{same_word}

rise_above : (n : ℕ) (ns : List ℕ) → AllPairs (λ x y. x < y) (n ∷ ns) → names_above (numbered n) (map numbered ns) ≡ true
rise_above n [] up = refl
rise_above n (m ∷ ns) up =
    let lt : n < m = up 0 1 0 (omega arith) (omega arith) in
    and_from (ltb n m) (names_above (numbered m) (map numbered ns)) (lt-ltb n m lt)
    (rise_above m ns (λ i j d before within. up (suc i) (suc j) d (omega arith) (omega arith)))

pub names_rise-numbered : (ns : List ℕ) → IsStrictlyIncreasing ns → names_rise (map numbered ns) ≡ true
names_rise-numbered [] up = refl
names_rise-numbered (n ∷ ns) up = rise_above n ns (AllPairs-from_increasing (n ∷ ns) up)

-- a word is in a list exactly where its number is among the numbers of the list
to_numbers : (words : List WordId) (word : WordId) → Contains words word → Contains (map number_of words) word.0
to_numbers words word (k, lt, at) = (
  k,
  subst (λ n. k < n) (sym (length-map words number_of)) lt,
  get_or-map number_of words k word word.0 lt ∙ ap number_of at,
)

from_numbers : (words : List WordId) (word : WordId) → Contains (map number_of words) word.0 → Contains words word
from_numbers words word (k, lt, at) =
    let within : k < length words = subst (λ n. k < n) (length-map words number_of) lt in
    (k, within, same_word (get_or words k word) word (sym (get_or-map number_of words k word word.0 within) ∙ at))

to_words : (ns : List ℕ) (word : WordId) → Contains ns word.0 → Contains (map numbered ns) word
to_words ns word (k, lt, at) = (
  k,
  subst (λ n. k < n) (sym (length-map ns numbered)) lt,
  same_word (get_or (map numbered ns) k word) word (ap number_of (get_or-map numbered ns k word.0 word lt) ∙ at),
)

from_words : (ns : List ℕ) (word : WordId) → Contains (map numbered ns) word → Contains ns word.0
from_words ns word (k, lt, at) =
    let within : k < length ns = subst (λ n. k < n) (length-map ns numbered) lt in
    (k, within, ap number_of (sym (get_or-map numbered ns k word.0 word within)) ∙ ap number_of at)

-- words of numbers that are those of a list are the words of the list
pub same_words : (words : List WordId) (old new : List ℕ) → old ≡ map number_of words → ((n : ℕ) → Contains old n → Contains new n)
    → ((n : ℕ) → Contains new n → Contains old n) → (word : WordId) → Contains (map numbered new) word ↔ Contains words word
same_words words old new is keeps adds_none word = (
  λ h. from_numbers words word (subst (λ ns. Contains ns word.0) is (adds_none word.0 (from_words new word h))),
  λ h. to_words new word (keeps word.0 (subst (λ ns. Contains ns word.0) (sym is) (to_numbers words word h))),
)
