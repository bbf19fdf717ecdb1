-- What a branch is after its nodes or their labels grew.
use Rattle.std.proofs.Common.{◌≡◌, ℕ, zero, suc, ◌<◌, Bool, true, false, List, [], ◌∷◌, ◌++◌, map, filter, length, take, get_or, cond, Some, slice_get, refl, sym, ap, ◌∙◌}
use Rattle.std.specs.Prelude.{slice_set}
use Rattle.std.specs.Option.{option_map_or}
use Rattle.std.proofs.lemmas.List.{map-set, set-get_or}
use Rattle.logic_terms.specs.Concept.{Concept}
use Rattle.logic_terms.specs.declared.expressions.Classes.{Classes}
use Rattle.logic_terms.specs.Shown.{concepts_of}
use Rattle.tableau_rules.specs.declared.branch.Node.{Node}
use Rattle.tableau_rules.specs.declared.branch.Edge.{Edge}
use Rattle.tableau_rules.specs.Graph.{Graph, Vertex}
use Rattle.tableau_rules.specs.Rules.{grown, with_class, with_classes}
use Rattle.tableau_rules.specs.Shown.{vertex_of}
use Rattle.tableau_rules.proofs.MapWalks.{stands_at}

-- the graph of these nodes and edges
abbrev pub graph_from : List Node → List Edge → Graph
graph_from nodes edges = record { nodes = map vertex_of nodes; edges = edges }

abbrev pub relabelled : Node → Classes → Node
relabelled old label = record { parent = old.parent; label = label }

grown_at : (nodes : List Node) (edges : List Edge) (i : ℕ) (old : Node) (more : List Concept) → i < length nodes → old ≡ get_or nodes i old
    → grown (graph_from nodes edges) i more
    ≡ (let g : Graph = record {
      nodes = slice_set (map vertex_of nodes) i
          (let v : Vertex = record { parent = old.parent; label = concepts_of old.label ++ more } in v);
      edges = edges;
    } in g)
grown_at nodes edges i old more lt at =
    ap (λ o. option_map_or (λ v. let g : Graph =
    record { nodes = slice_set (map vertex_of nodes) i (let w : Vertex = record { parent = v.parent; label = v.label ++ more } in w); edges = edges } in g)
    o (graph_from nodes edges)) (stands_at vertex_of nodes i old lt at)

-- a node with a longer label
pub grows : (nodes : List Node) (edges : List Edge) (i : ℕ) (old : Node) (label : Classes) (more : List Concept) → i < length nodes → old ≡ get_or nodes i old
    → concepts_of label ≡ concepts_of old.label ++ more → graph_from (slice_set nodes i (relabelled old label)) edges ≡ grown (graph_from nodes edges) i more
grows nodes edges i old label more lt at longer =
    ap (λ vs. let g : Graph = record { nodes = vs; edges = edges } in g)
    (map-set vertex_of nodes i (relabelled old label)
    ∙ ap (λ cs. slice_set (map vertex_of nodes) i (let v : Vertex = record { parent = old.parent; label = cs } in v)) longer)
    ∙ sym (grown_at nodes edges i old more lt at)

-- a node with an equal label
pub stays : (nodes : List Node) (edges : List Edge) (i : ℕ) (old : Node) (label : Classes) → old ≡ get_or nodes i old
    → concepts_of label ≡ concepts_of old.label → graph_from (slice_set nodes i (relabelled old label)) edges ≡ graph_from nodes edges
stays nodes edges i old label at same =
    ap (λ vs. let g : Graph = record { nodes = vs; edges = edges } in g)
    (map-set vertex_of nodes i (relabelled old label)
    ∙ (ap (λ cs. slice_set (map vertex_of nodes) i (let v : Vertex = record { parent = old.parent; label = cs } in v)) same
    ∙ (sym (map-set vertex_of nodes i old)
    ∙ ap (map vertex_of) (ap (slice_set nodes i) at ∙ set-get_or nodes i old))))

-- the first of those that are kept
pub first_kept : {X : Type 0} (keep : X → Bool) (xs : List X) (i : ℕ) (x : X) → filter keep (take i xs) ≡ [] → slice_get xs i ≡ Some x → keep x ≡ true
    → slice_get (filter keep xs) 0 ≡ Some x
first_kept keep [] i x none at is = cc
first_kept keep (y ∷ ys) zero x none at is =
    let same : y ≡ x = cc in
    ap (λ b. slice_get (cond b (y ∷ filter keep ys) (filter keep ys)) 0) (ap keep same ∙ is) ∙ at
first_kept keep (y ∷ ys) (suc i) x none at is = go (λ e. first_kept keep ys i x e at is) (keep y) none
  where
    go : (filter keep (take i ys) ≡ [] → slice_get (filter keep ys) 0 ≡ Some x) → (b : Bool)
        → cond b (y ∷ filter keep (take i ys)) (filter keep (take i ys)) ≡ [] → slice_get (cond b (y ∷ filter keep ys) (filter keep ys)) 0 ≡ Some x
    go rest true e = cc
    go rest false e = rest e

-- the same with two lists, one after the other
pub with_classes-append : (label cs ds : List Concept) → with_classes label (cs ++ ds) ≡ with_classes (with_classes label cs) ds
with_classes-append label [] ds = refl
with_classes-append label (c ∷ cs) ds = with_classes-append (with_class label c) cs ds

-- a label that got two lists, from what the parts say
pub labels_join : (label more slice others cs general : List Concept) → slice ≡ label → slice ++ more ≡ with_classes slice others → others ≡ general
    → label ≡ with_classes [] cs → label ++ more ≡ with_classes [] (cs ++ general)
labels_join label more slice others cs general same longer given first =
    ap (λ l. l ++ more) (sym same)
    ∙ (longer
    ∙ (ap (λ l. with_classes l others) (same ∙ first)
    ∙ (ap (with_classes (with_classes [] cs)) given
    ∙ sym (with_classes-append [] cs general))))
