-- Laws on joining the parts of sentences.
use Rattle.std.proofs.Common.{◌≡◌, ◌≢◌, ℕ, suc, ◌+◌, ◌<◌, List, [], ◌∷◌, ◌++◌, Option, Some, None, length, map, drop, get_or, refl, sym, ap, ◌∙◌, append_assoc, add-one, drop-cons}
use Rattle.lexicon.specs.declared.words.Word.{Word}
use Rattle.logic_terms.specs.Concept.{Concept, UnionOf, concepts_from}
use Rattle.verbalise.specs.Phrases.{Phrase, ◌⋅◌, the}
use Rattle.verbalise.specs.Said.{basic_phrase, also, phrase, membership}

-- parts are joined in any grouping
pub joined-assoc : (p q r : Phrase) → (p ⋅ q) ⋅ r ≡ p ⋅ (q ⋅ r)
joined-assoc (Some a) (Some b) (Some c) = ap Some (append_assoc a b c)
joined-assoc (Some a) (Some b) None = refl
joined-assoc (Some a) None r = refl
joined-assoc None q r = refl

-- what is said so far and of the classes from a place on, where the class at the place is said next
pub also-more : {X : Type 0} (live : List Word) (shown : X → Concept) (xs : List X) (i : ℕ) (x : X) (said whole : Phrase)
    → i < length xs → x ≡ get_or xs i x → said ⋅ also live (concepts_from (map shown (drop i xs))) ≡ whole
    → (said ⋅ (the "and" ⋅ basic_phrase live (shown x))) ⋅ also live (concepts_from (map shown (drop (i + 1) xs))) ≡ whole
also-more live shown xs i x said whole lt at now =
    let step : drop i xs ≡ x ∷ drop (i + 1) xs = rw add-one (drop-cons xs i x lt ∙ ap (λ y. y ∷ drop (suc i) xs) (sym at)) in
    joined-assoc said (the "and" ⋅ basic_phrase live (shown x)) (also live (concepts_from (map shown (drop (i + 1) xs))))
    ∙ (ap (λ ys. said ⋅ also live (concepts_from (map shown ys))) (sym step) ∙ now)

-- a union has a phrase only where it has two members
pub union-other : {X : Type 0} (live : List Word) (shown : X → Concept) (xs : List X) → length xs ≢ 2
    → phrase live (UnionOf (concepts_from (map shown xs))) ≡ None
union-other live shown [] ne = refl
union-other live shown (x ∷ []) ne = refl
union-other live shown (x ∷ y ∷ []) ne = absurd (ne refl)
union-other live shown (x ∷ y ∷ z ∷ zs) ne = refl

-- a union has a phrase for a name only where it has two members
pub membership-other : {X : Type 0} (live : List Word) (shown : X → Concept) (xs : List X) → length xs ≢ 2
    → membership live (UnionOf (concepts_from (map shown xs))) ≡ None
membership-other live shown [] ne = refl
membership-other live shown (x ∷ []) ne = refl
membership-other live shown (x ∷ y ∷ []) ne = absurd (ne refl)
membership-other live shown (x ∷ y ∷ z ∷ zs) ne = refl
