-- Sketches of trees, and that they are the skeletons of derivations.
use Rattle.std.proofs.Common.{◌≡◌, ℕ, zero, suc, ◌+◌, List, [], ◌∷◌, ◌++◌, map, drop, Some, refl, sym, ap, ◌∙◌, add-one}
use Rattle.std.specs.Prelude.{slice_get, unwrap_or}
use Rattle.codeco_terms.specs.declared.categories.Category.{Category}
use Rattle.codeco_terms.specs.declared.elements.Element.{Element}
use Rattle.codeco_terms.specs.declared.elements.Element.TheVariants.{Sub}
use Rattle.derivation_trees.specs.declared.skeletons.Skeleton.{Skeleton, out-Skeleton}
use Rattle.derivation_trees.specs.declared.trees.Tree.{Tree, out-Tree}
use Rattle.derivation_trees.specs.Trees.{Node, nodes_from, node_of, nodes_of}
use Rattle.derivation_trees.specs.Settings.{Setting}
use Rattle.derivation_trees.specs.Stands.{found_in}
use Rattle.derivation_trees.specs.Sketches as sketches
use Rattle.derivation_trees.specs.SketchesHeld.{sketch_held, children_held, rule_in}
use Rattle.derivation_trees.specs.declared.sketch.Sketch.{Sketch}
use Rattle.derivation_trees.proofs.StandLemmas.{node_of_is}

sketches_of-from : (s : Setting) (ns : List Node) → sketches.sketches_of s (nodes_from ns) ≡ map (sketches.sketch_of s) ns
sketches_of-from s [] = refl
sketches_of-from s (n ∷ ns) = ap (λ ks. sketches.sketch_of s n ∷ ks) (sketches_of-from s ns)

-- the sketch of a tree by its parts
pub sketch_of_is : (s : Setting) (t : Tree) (place : ℕ)
    → sketches.sketch_of s (node_of t) place
    ≡ sketches.sketched (rule_in t) (found_in t) place
    (sketches.sketch_over s (sketches.body_of s.grammar (rule_in t)) (sketches.sketch_from place (children_held s t)))
sketch_of_is s t place =
    ap (λ n. sketches.sketch_of s n place) (node_of_is t)
    ∙ ap (λ ks. sketches.sketched (rule_in t) (found_in t) place
    (sketches.sketch_over s (sketches.body_of s.grammar (rule_in t)) (sketches.sketch_from place ks))) (sketches_of-from s (nodes_of (out-Tree t).children))

next_of : {X Y : Type 0} (f : X → Y) (xs : List X) (x : X) (used : ℕ) → slice_get xs used ≡ Some x → drop used (map f xs) ≡ f x ∷ drop (suc used) (map f xs)
next_of f [] x used h = cc
next_of f (y ∷ ys) x zero h = ap (λ o. f (unwrap_or o y) ∷ map f ys) h
next_of f (y ∷ ys) x (suc used) h = next_of f ys x used h

-- one child more
pub child_sketched : (s : Setting) (t : Tree) (e : Element) (c : Category) (n : Node) (child : Skeleton) (before after : Sketch) → e ≡ Sub c
    → slice_get (nodes_of (out-Tree t).children) before.used ≡ Some n → child ≡ sketches.sketch_of s n before.place
    → after ≡ record { place = (out-Skeleton child).end; words = before.words; children = before.children ++ child ∷ []; used = before.used + 1 }
    → sketch_held (children_held s t) after ≡ sketches.sketch_on s e (sketch_held (children_held s t) before)
child_sketched s t e c n child before after is has made eq =
    let kids = children_held s t in
    let P : Skeleton → ℕ → sketches.Sketch =
    λ k u. record { place = (out-Skeleton k).end; words = before.words; children = before.children ++ k ∷ []; left = drop u kids } in
    ap (sketch_held kids) eq ∙ ap (P child) (add-one before.used) ∙ ap (λ k. P k (suc before.used)) made
    ∙ ap (λ ks. sketches.sketch_child ks (sketch_held kids before))
    (sym (next_of (sketches.sketch_of s) (nodes_of (out-Tree t).children) n before.used has))
    ∙ ap (λ x. sketches.sketch_on s x (sketch_held kids before)) (sym is)
