-- The code of a skeleton by its parts.
use Rattle.std.proofs.Common.{◌≡◌, ℕ, ◌+◌, List, [], ◌∷◌, ◌++◌, map, refl, sym, ap, ◌∙◌, append_assoc}
use Rattle.std.specs.List.{flat_map}
use Rattle.derivation_trees.specs.declared.skeletons.Skeleton.{Skeleton, out-Skeleton}
use Rattle.derivation_trees.specs.declared.skeletons.Skeleton.TheFolds.{fold_out-Skeleton}
use Rattle.derivation_trees.specs.Codes.{skeleton_code, code_layer}

flat_map-map : {X : Type 0} (f : X → List ℕ) (xs : List X) → flat_map (λ code. code) (map f xs) ≡ flat_map f xs
flat_map-map f [] = refl
flat_map-map f (x ∷ xs) = ap (λ ys. f x ++ ys) (flat_map-map f xs)

pub skeleton_code_is : (sk : Skeleton) → skeleton_code sk
    ≡ (out-Skeleton sk).rule ∷ (out-Skeleton sk).found ++ flat_map skeleton_code (out-Skeleton sk).children
skeleton_code_is sk =
    fold_out-Skeleton (List ℕ) code_layer sk
    ∙ ap (λ ys. (out-Skeleton sk).rule ∷ (out-Skeleton sk).found ++ ys) (flat_map-map skeleton_code (out-Skeleton sk).children)

-- the code of a skeleton, put after others in parts
pub code_whole : (sk : Skeleton) (before code : List ℕ)
    → code ≡ (before ++ (out-Skeleton sk).rule ∷ (out-Skeleton sk).found) ++ flat_map skeleton_code (out-Skeleton sk).children
    → code ≡ before ++ skeleton_code sk
code_whole sk before code h =
    h ∙ append_assoc before ((out-Skeleton sk).rule ∷ (out-Skeleton sk).found) (flat_map skeleton_code (out-Skeleton sk).children)
    ∙ ap (λ ys. before ++ ys) (sym (skeleton_code_is sk))
