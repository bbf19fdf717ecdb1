-- Lists, gone over place by place.
use Rattle.std.proofs.Common.{◌≡◌, ℕ, zero, suc, ◌<◌, ◌+◌, ◌&&◌, ◌||◌, List, [], ◌∷◌, ◌++◌, map, length, take, Option, Some, None, slice_get, refl, sym, ap, ◌∙◌, arith}
use Rattle.std.specs.Prelude.{remove}
use Rattle.std.specs.Option.{option_map_or}
use Rattle.std.proofs.lemmas.List.{append-nil}
use Rattle.std.proofs.lemmas.List.Sums.{fold-append}
use Rattle.std.proofs.lemmas.List.Concat.{flat_map-append}
use Rattle.std.proofs.lemmas.Option.{slice_get_within}
use Rattle.wiki_base.specs.declared.numbers.WordId.{WordId}
use Rattle.wiki_base.proofs.ListLaws.{take_slice_get}
use Rattle.logic_terms.specs.Concept.{Concept, Concepts, also_concept, concepts_from, Claim}
use Rattle.logic_terms.specs.Parts.{word_part}
use Rattle.absorb.specs.FirstWord.{IsFirstWord}
use Rattle.absorb.specs.Pieces.{first_word, without_first_word, together, inclusion, inclusions, pieces_of, all_pieces}
use Rattle.absorb.specs.Sorted.{Sorted, no_pieces, with_pieces, sorted}

inclusions-append : (cs ds : List Concept) (d : Concept)
    → inclusions (concepts_from (cs ++ ds)) d ≡ inclusions (concepts_from cs) d ++ inclusions (concepts_from ds) d
inclusions-append [] ds d = refl
inclusions-append (c ∷ cs) ds d =
    ap (λ ps. inclusion c d ++ ps) (inclusions-append cs ds d)
    ∙ sym (Rattle.std.proofs.Common.append_assoc (inclusion c d) (inclusions (concepts_from cs) d) (inclusions (concepts_from ds) d))

-- the pieces of one more member
pub inclusions_more : (s t : Sorted) (cs : List Concept) (k : ℕ) (c d : Concept) → slice_get cs k ≡ Some c
    → t ≡ with_pieces s (inclusions (concepts_from (take k cs)) d)
    → with_pieces t (inclusion c d) ≡ with_pieces s (inclusions (concepts_from (take (k + 1) cs)) d)
inclusions_more s t cs k c d at before =
    ap (λ u. with_pieces u (inclusion c d)) before
    ∙ sym (fold-append Rattle.absorb.specs.Sorted.with_piece s (inclusions (concepts_from (take k cs)) d) (inclusion c d))
    ∙ ap (λ ps. with_pieces s ps)
    (ap (λ ps. inclusions (concepts_from (take k cs)) d ++ ps) (sym (append-nil (inclusion c d)))
    ∙ sym (inclusions-append (take k cs) (c ∷ []) d) ∙ ap (λ xs. inclusions (concepts_from xs) d) (sym (take_slice_get cs k c at)))

-- the pieces of one more axiom
pub sorted_more : (t : Sorted) (claims : List Claim) (k : ℕ) (claim : Claim) → slice_get claims k ≡ Some claim → t ≡ sorted (take k claims)
    → with_pieces t (pieces_of claim) ≡ sorted (take (k + 1) claims)
sorted_more t claims k claim at before =
    ap (λ u. with_pieces u (pieces_of claim)) before
    ∙ sym (fold-append Rattle.absorb.specs.Sorted.with_piece no_pieces (all_pieces (take k claims)) (pieces_of claim))
    ∙ ap (λ ps. with_pieces no_pieces ps)
    (ap (λ ps. all_pieces (take k claims) ++ ps) (sym (append-nil (pieces_of claim)))
    ∙ sym (flat_map-append pieces_of (take k claims) (claim ∷ [])) ∙ ap all_pieces (sym (take_slice_get claims k claim at)))

-- no member up to a place is a class word, and the one at the place is none or one
none_before : (c : Concept) (cs : Concepts) (o : Option WordId) → option_map_or (λ w. Some w) o (first_word cs) ≡ None → (o ≡ None) × (first_word cs ≡ None)
none_before c cs None h = (refl, h)
none_before c cs (Some w) h = cc

pub first_none : (cs : List Concept) (k : ℕ) (c : Concept) → slice_get cs k ≡ Some c → word_part c ≡ None → first_word (concepts_from (take k cs)) ≡ None
    → first_word (concepts_from (take (k + 1) cs)) ≡ None
first_none cs k c at none before =
    ap (λ xs. first_word (concepts_from xs)) (take_slice_get cs k c at) ∙ go (take k cs) before
  where
    go : (xs : List Concept) → first_word (concepts_from xs) ≡ None → first_word (concepts_from (xs ++ c ∷ [])) ≡ None
    go [] h = ap (λ o. option_map_or (λ w. Some w) o None) none
    go (x ∷ xs) h =
        let parts = none_before x (concepts_from xs) (word_part x) h in
        ap (λ o. option_map_or (λ w. Some w) o (first_word (concepts_from (xs ++ c ∷ [])))) parts.0 ∙ go xs parts.1

pub first_found : (cs : List Concept) (k : ℕ) (c : Concept) (word : WordId) → slice_get cs k ≡ Some c → word_part c ≡ Some word
    → first_word (concepts_from (take k cs)) ≡ None → IsFirstWord cs k word
first_found cs k c word at is before = record {
  within = slice_get_within cs k c at;
  first = (go cs k at before).0;
  others = (go cs k at before).1;
}
  where
    go : (xs : List Concept) (j : ℕ) → slice_get xs j ≡ Some c → first_word (concepts_from (take j xs)) ≡ None
        → (first_word (concepts_from xs) ≡ Some word) × (without_first_word (concepts_from xs) ≡ concepts_from (remove xs j))
    go [] j at' none = absurd (nothing j at')
      where
        nothing : (j : ℕ) → slice_get {X = Concept} [] j ≡ Some c → ⊥
        nothing j e = cc
    go (x ∷ xs) zero at' none =
        let same : x ≡ c = cc in
        let here : word_part x ≡ Some word = ap word_part same ∙ is in (
          ap (λ o. option_map_or (λ w. Some w) o (first_word (concepts_from xs))) here,
          ap (λ o. option_map_or (λ w. concepts_from xs) o (also_concept x (without_first_word (concepts_from xs)))) here,
        )
    go (x ∷ xs) (suc j) at' none =
        let parts = none_before x (concepts_from (take j xs)) (word_part x) none in
        let rest = go xs j at' parts.1 in (
          ap (λ o. option_map_or (λ w. Some w) o (first_word (concepts_from xs))) parts.0 ∙ rest.0,
          ap (λ o. option_map_or (λ w. concepts_from xs) o (also_concept x (without_first_word (concepts_from xs)))) parts.0 ∙ ap (also_concept x) rest.1,
        )

pub map-remove : {X Y : Type 0} (f : X → Y) (xs : List X) (k : ℕ) → map f (remove xs k) ≡ remove (map f xs) k
map-remove f xs k = go xs k
  where
    map-append : {X Y : Type 0} (f : X → Y) (xs ys : List X) → map f (xs ++ ys) ≡ map f xs ++ map f ys
    map-append f [] ys = refl
    map-append f (x ∷ xs) ys = ap (λ zs. f x ∷ zs) (map-append f xs ys)

    go : (xs : List _) (k : ℕ) → map f (remove xs k) ≡ remove (map f xs) k
    go [] zero = refl
    go [] (suc k) = refl
    go (x ∷ xs) zero = refl
    go (x ∷ xs) (suc k) = ap (λ zs. f x ∷ zs) (go xs k)

-- a list of at least two classes is an intersection as it stands
pub together_wide : (cs : List Concept) → 1 < length cs → together (concepts_from cs) ≡ Rattle.logic_terms.specs.Concept.IntersectionOf (concepts_from cs)
together_wide [] lt = absurd (omega arith)
together_wide (c ∷ []) lt = absurd (omega arith)
together_wide (c ∷ d ∷ cs) lt = refl
