-- Gathering of names, one list after another.
use Rattle.std.proofs.Common.{◌≡◌, ℕ, ◌+◌, ◌<◌, ◌≤◌, Bool, true, false, ◌&&◌, cond, List, [], ◌∷◌, ◌++◌, drop, get_or, length, refl, sym, ap, ◌∙◌}
use Rattle.std.specs.List.{flat_map, list_all}
use Rattle.std.proofs.lemmas.List.{at_drop_more, at_drop_all}
use Rattle.std.proofs.lemmas.List.Concat.{flat_map-append}
use Rattle.std.proofs.lemmas.List.Folds.{list_all-append as all-append}
use Rattle.codeco_numbering.proofs.Gathers.{gathered_append}
use Rattle.codeco_numbering.specs.Numbered.{gathered}
use Rattle.codeco_early_faults.specs.Pairs.{has_pair, gathered_pairs}

pub gathered_pairs-append : (ps : List (List ℕ × List ℕ)) (xs ys : List (List ℕ × List ℕ))
    → gathered_pairs ps (xs ++ ys) ≡ gathered_pairs (gathered_pairs ps xs) ys
gathered_pairs-append ps [] ys = refl
gathered_pairs-append ps (x ∷ xs) ys = gathered_pairs-append (cond (has_pair ps x) ps (ps ++ x ∷ [])) xs ys

-- one turn of a loop that puts the names of each member of a list
pub names_turn : {X : Type 0} (f : X → List (List ℕ)) (old now next : List (List ℕ)) (xs : List X) (i : ℕ) (x : X) → i < length xs → x ≡ get_or xs i x
    → gathered now (flat_map f (drop i xs)) ≡ gathered old (flat_map f xs) → next ≡ gathered now (f x)
    → gathered next (flat_map f (drop (i + 1) xs)) ≡ gathered old (flat_map f xs)
names_turn f old now next xs i x lt is before after =
    ap (λ s. gathered s (flat_map f (drop (i + 1) xs))) after
    ∙ sym (gathered_append now (f x) (flat_map f (drop (i + 1) xs)))
    ∙ ap (λ y. gathered now (f y ++ flat_map f (drop (i + 1) xs))) is
    ∙ sym (at_drop_more (λ ys. gathered now (flat_map f ys)) xs i x lt)
    ∙ before

pub pairs_turn : {X : Type 0} (f : X → List (List ℕ × List ℕ)) (old now next : List (List ℕ × List ℕ)) (xs : List X) (i : ℕ) (x : X) → i < length xs
    → x ≡ get_or xs i x → gathered_pairs now (flat_map f (drop i xs)) ≡ gathered_pairs old (flat_map f xs) → next ≡ gathered_pairs now (f x)
    → gathered_pairs next (flat_map f (drop (i + 1) xs)) ≡ gathered_pairs old (flat_map f xs)
pairs_turn f old now next xs i x lt is before after =
    ap (λ s. gathered_pairs s (flat_map f (drop (i + 1) xs))) after
    ∙ sym (gathered_pairs-append now (f x) (flat_map f (drop (i + 1) xs)))
    ∙ ap (λ y. gathered_pairs now (f y ++ flat_map f (drop (i + 1) xs))) is
    ∙ sym (at_drop_more (λ ys. gathered_pairs now (flat_map f ys)) xs i x lt)
    ∙ before

-- two lists one after the other
pub names_both : {X : Type 0} (f : X → List (List ℕ)) (old mid next : List (List ℕ)) (xs ys : List X) → mid ≡ gathered old (flat_map f xs)
    → next ≡ gathered mid (flat_map f ys) → next ≡ gathered old (flat_map f (xs ++ ys))
names_both f old mid next xs ys first then_ =
    then_ ∙ ap (λ s. gathered s (flat_map f ys)) first ∙ sym (gathered_append old (flat_map f xs) (flat_map f ys))
    ∙ ap (gathered old) (sym (flat_map-append f xs ys))

pub pairs_both : {X : Type 0} (f : X → List (List ℕ × List ℕ)) (old mid next : List (List ℕ × List ℕ)) (xs ys : List X)
    → mid ≡ gathered_pairs old (flat_map f xs) → next ≡ gathered_pairs mid (flat_map f ys) → next ≡ gathered_pairs old (flat_map f (xs ++ ys))
pairs_both f old mid next xs ys first then_ =
    then_ ∙ ap (λ s. gathered_pairs s (flat_map f ys)) first ∙ sym (gathered_pairs-append old (flat_map f xs) (flat_map f ys))
    ∙ ap (gathered_pairs old) (sym (flat_map-append f xs ys))

pub flat_map-flat_map : {X Y Z : Type 0} (f : Y → List Z) (h : X → List Y) (xs : List X) → flat_map f (flat_map h xs) ≡ flat_map (λ x. flat_map f (h x)) xs
flat_map-flat_map f h [] = refl
flat_map-flat_map {X} {Y} {Z} f h (x ∷ xs) = flat_map-append f (h x) (flat_map h xs) ∙ ap (λ (l : List Z). flat_map f (h x) ++ l) (flat_map-flat_map f h xs)

-- what stands first, and then what a list gives
pub pairs_rule : {X : Type 0} (f : X → List (List ℕ × List ℕ)) (old mid next first : List (List ℕ × List ℕ)) (xs : List X) → mid ≡ gathered_pairs old first
    → next ≡ gathered_pairs mid (flat_map f xs) → next ≡ gathered_pairs old (first ++ flat_map f xs)
pairs_rule f old mid next first xs is then_ =
    then_ ∙ ap (λ s. gathered_pairs s (flat_map f xs)) is ∙ sym (gathered_pairs-append old first (flat_map f xs))

-- a test of what stands first, and then of the parts of a list
pub all_rule : {X Y Z : Type 0} (p : Z → Bool) (f : Y → List Z) (h : X → List Y) (first : List Z) (xs : List X) (b : Bool) → list_all p first ≡ true
    → b ≡ list_all p (flat_map (λ x. flat_map f (h x)) xs) → b ≡ list_all p (first ++ flat_map f (flat_map h xs))
all_rule {X} {Y} {Z} p f h first xs b passes is =
    is ∙ ap (list_all p) (sym (flat_map-flat_map f h xs)) ∙ ap (λ c. c && list_all p (flat_map f (flat_map h xs))) (sym passes)
    ∙ sym (all-append p first (flat_map f (flat_map h xs)))

-- one turn of a loop that finds a member that fails
pub all_turn_fails : {X Z : Type 0} (p : Z → Bool) (g : X → List Z) (xs : List X) (i : ℕ) (x : X) → i < length xs → x ≡ get_or xs i x
    → list_all p (flat_map g (drop i xs)) ≡ list_all p (flat_map g xs) → list_all p (g x) ≡ false → false ≡ list_all p (flat_map g xs)
all_turn_fails {X} {Z} p g xs i x lt is left fails =
    let rest = flat_map g (drop (i + 1) xs) in
    sym (ap (λ c. c && list_all p rest) fails) ∙ sym (all-append p (g x) rest) ∙ ap (λ (y : X). list_all p (g y ++ rest)) is
    ∙ sym (at_drop_more (λ ys. list_all p (flat_map g ys)) xs i x lt) ∙ left

pub all_turn_ends : {X Z : Type 0} (p : Z → Bool) (g : X → List Z) (xs : List X) (i : ℕ) → length xs ≤ i
    → list_all p (flat_map g (drop i xs)) ≡ list_all p (flat_map g xs) → true ≡ list_all p (flat_map g xs)
all_turn_ends p g xs i past left = sym (at_drop_all (λ ys. list_all p (flat_map g ys)) xs i past) ∙ left

-- the end of such a loop
pub names_end : {X : Type 0} (f : X → List (List ℕ)) (old now : List (List ℕ)) (xs : List X) (i : ℕ) → length xs ≤ i
    → gathered now (flat_map f (drop i xs)) ≡ gathered old (flat_map f xs) → now ≡ gathered old (flat_map f xs)
names_end f old now xs i past left = sym (at_drop_all (λ ys. gathered now (flat_map f ys)) xs i past) ∙ left

pub pairs_end : {X : Type 0} (f : X → List (List ℕ × List ℕ)) (old now : List (List ℕ × List ℕ)) (xs : List X) (i : ℕ) → length xs ≤ i
    → gathered_pairs now (flat_map f (drop i xs)) ≡ gathered_pairs old (flat_map f xs) → now ≡ gathered_pairs old (flat_map f xs)
pairs_end f old now xs i past left = sym (at_drop_all (λ ys. gathered_pairs now (flat_map f ys)) xs i past) ∙ left

-- what stands first, and then what a list gives
pub names_rule : {X : Type 0} (f : X → List (List ℕ)) (old mid next first : List (List ℕ)) (xs : List X) → mid ≡ gathered old first
    → next ≡ gathered mid (flat_map f xs) → next ≡ gathered old (first ++ flat_map f xs)
names_rule f old mid next first xs is then_ =
    then_ ∙ ap (λ s. gathered s (flat_map f xs)) is ∙ sym (gathered_append old first (flat_map f xs))
