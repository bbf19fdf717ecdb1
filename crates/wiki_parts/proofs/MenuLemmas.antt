-- The tokens of a group, one more entry at a time.
use Rattle.std.proofs.Common.{◌≡◌, ℕ, ◌+◌, List, [], ◌∷◌, ◌++◌, map, take, Some, Bool, true, ◌==◌, if◌then◌else◌, ap, ◌∙◌, append-nil, arith}
use Rattle.std.specs.List.{slice_get}
use Rattle.std.proofs.lemmas.Bool.{ne_eqb}
use Rattle.std.proofs.lemmas.Bool.Decides.{nat_tests}
use Rattle.std.proofs.lemmas.List.{map-append}
use Rattle.std.proofs.lemmas.List.Elements.{filter-append}
use Rattle.wiki_base.proofs.ListLaws.{take_slice_get}
use Rattle.derivation_trees.specs.declared.menus.Group.{Group}
use Rattle.derivation_trees.specs.Menus.{group_number}
use Rattle.plain_wiki.specs.Parsing.{of_group}

-- numbers that are equal pass the test
eqb_from : {a b : ℕ} → a ≡ b → (a == b) ≡ true
eqb_from {a} {b} same = grind (arith, nat_tests)

of_group-append : (group : Group) (xs ys : List (Group × List ℕ)) → of_group group (xs ++ ys) ≡ of_group group xs ++ of_group group ys
of_group-append group xs ys =
    ap (map (λ (entry : Group × List ℕ). entry.1)) (filter-append (λ (entry : Group × List ℕ). group_number entry.0 == group_number group) xs ys)
    ∙ map-append (λ (entry : Group × List ℕ). entry.1) _ _

-- an entry of the group is told after those before it
pub of_group-kept : (group : Group) (menu : List (Group × List ℕ)) (i : ℕ) (other : Group) (text : List ℕ) → slice_get menu i ≡ Some (other, text)
    → group_number other ≡ group_number group → of_group group (take (i + 1) menu) ≡ of_group group (take i menu) ++ text ∷ []
of_group-kept group menu i other text at same =
    ap (of_group group) (take_slice_get menu i (other, text) at) ∙ of_group-append group (take i menu) ((other, text) ∷ [])
    ∙ ap (λ (b : Bool). of_group group (take i menu) ++ map (λ (e : Group × List ℕ). e.1) (if b then (other, text) ∷ [] else [])) (eqb_from same)

-- an entry of another group adds nothing
pub of_group-left : (group : Group) (menu : List (Group × List ℕ)) (i : ℕ) (other : Group) (text : List ℕ) → slice_get menu i ≡ Some (other, text)
    → (group_number other ≡ group_number group → ⊥) → of_group group (take (i + 1) menu) ≡ of_group group (take i menu)
of_group-left group menu i other text at differs =
    ap (of_group group) (take_slice_get menu i (other, text) at) ∙ of_group-append group (take i menu) ((other, text) ∷ [])
    ∙ ap (λ (b : Bool). of_group group (take i menu) ++ map (λ (e : Group × List ℕ). e.1) (if b then (other, text) ∷ [] else [])) (ne_eqb _ _ differs)
    ∙ append-nil _
