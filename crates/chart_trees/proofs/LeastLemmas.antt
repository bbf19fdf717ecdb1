-- The least of the derivations among the least trees for `text` is the least of all.
use Rattle.std.proofs.Common.{◌≡◌, ℕ, zero, suc, ◌+◌, ◌<◌, ◌≤◌, List, [], ◌∷◌, ◌++◌, map, take, length, get_or, inl, inr, Option, Some, None, refl, sym, ap, subst, ◌∙◌, arith}
use Rattle.std.specs.Prelude.{IfSome, IfNone, slice_get}
use Rattle.std.proofs.lemmas.List.{take_more, take_all, map-append}
use Rattle.std.specs.declared.cmp.Ordering.TheVariants.{Less}
use Rattle.std.specs.Ordering.{nat_cmp}
use Rattle.std.specs.Cmp.Lexicographic.{slice_cmp, nat_list_cmp_total}
use Rattle.std.proofs.lemmas.Option.{same_Some}
use Rattle.derivation_trees.specs.declared.skeletons.Skeleton.{Skeleton}
use Rattle.derivation_trees.specs.Trees.{Node, node_of}
use Rattle.derivation_trees.specs.Settings.{Setting}
use Rattle.derivation_trees.specs.Derives.{At, text_category, IsDerivation}
use Rattle.derivation_trees.specs.Codes.{skeleton_code}
use Rattle.derivation_trees.specs.Skeletons.{skeleton_of, IsBelow, IsLeast}
use Rattle.derivation_trees.specs.Sketches.{sketch_of}
use Rattle.derivations.specs.Listed.{LeastOf}
use Rattle.derivations.proofs.Members.{Among, among_map}
use Rattle.derivations.proofs.SkeletonLemmas.{skeleton_of_is}
use Rattle.chart_trees.specs.declared.outcomes.Outcome.{Outcome}
use Rattle.chart_trees.specs.Order.{AtMost, node_code}
use Rattle.chart_trees.specs.Outcomes.{IsOutcome, Covers, IsBest}
use Rattle.chart_trees.specs.declared.table.Best.{Best}
use Rattle.chart_trees.specs.Tables.{HasBest}
use Rattle.scopes.specs.declared.entries.Entry.{Entry}
use Rattle.scopes.specs.declared.agreement.Test.{Test}
use Rattle.chart_trees.proofs.OrderLemmas.{lower_less}
use Rattle.chart_trees.proofs.CodeLemmas.{code_is, sketch_code_is}

abbrev pub start_at : At
start_at = record { place = 0; list = [] }

-- the trees of outcomes
abbrev pub trees_in : List Outcome → List Node
trees_in outcomes = map (λ o. node_of o.tree) outcomes

-- an outcome that ends where the tokens end is a derivation, and no other is
pub is_derivation : (s : Setting) (o : Outcome) → IsOutcome s text_category (record { place = 0; list = [] }) o → o.place ≡ length s.tokens
    → IsDerivation s (node_of o.tree)
is_derivation s o is ends = (o.tail, is.led ∙ ap (λ p. Some (record { place = p; list = o.tail })) ends)

pub is_no_derivation : (s : Setting) (o : Outcome) → IsOutcome s text_category (record { place = 0; list = [] }) o → (o.place ≡ length s.tokens → ⊥)
    → IsDerivation s (node_of o.tree) → ⊥
is_no_derivation s o is not d =
    not (ap (λ (a : At). a.place) (same_Some (record { place = o.place; list = o.tail }) (record { place = length s.tokens; list = d.0 }) (sym is.led ∙ d.1)))

pub among_next : (outcomes : List Outcome) (i : ℕ) (o : Outcome) → i < length outcomes → o ≡ get_or outcomes i o → Among outcomes o
among_next [] i o lt is = absurd (omega arith)
among_next (y ∷ ys) zero o lt is = inl is
among_next (y ∷ ys) (suc i) o lt is = inr (among_at ys i o o (omega arith) is)
  where
    among_at : (xs : List Outcome) (i : ℕ) (x d : Outcome) → i < length xs → x ≡ get_or xs i d → Among xs x
    among_at [] i x d lt is = absurd (omega arith)
    among_at (y ∷ ys) zero x d lt is = inl is
    among_at (y ∷ ys) (suc i) x d lt is = inr (among_at ys i x d (omega arith) is)

pub listed_next : (s : Setting) (outcomes : List Outcome) (i : ℕ) (o : Outcome) (next : Option Skeleton) → i < length outcomes → o ≡ get_or outcomes i o
    → LeastOf s (trees_in (take i outcomes) ++ node_of o.tree ∷ []) next → LeastOf s (trees_in (take (i + 1) outcomes)) next
listed_next s outcomes i o next lt is h =
    let whole : trees_in (take (i + 1) outcomes) ≡ trees_in (take i outcomes) ++ node_of o.tree ∷ [] =
    ap trees_in (take_more outcomes i o lt ∙ ap (λ y. take i outcomes ++ y ∷ []) (sym is)) ∙ map-append (λ x. node_of x.tree) (take i outcomes) (o ∷ []) in
    subst (λ ts. LeastOf s ts next) (sym whole) h

pub listed_done : (s : Setting) (outcomes : List Outcome) (i : ℕ) (least : Option Skeleton) → length outcomes ≤ i → LeastOf s (trees_in (take i outcomes)) least
    → LeastOf s (trees_in outcomes) least
listed_done s outcomes i least le h = subst (λ l. LeastOf s (trees_in l) least) (take_all i outcomes le) h

-- each derivation has one among the outcomes whose code is no higher
record Before (s : Setting) (outcomes : List Outcome) (tree : Node) : Type 0 where
  pub outcome : Outcome
  pub among : Among outcomes outcome
  pub derives : IsDerivation s (node_of outcome.tree)
  pub code : AtMost (node_code (node_of outcome.tree)) (node_code tree)

before_of : (s : Setting) (outcomes : List Outcome) → IsBest s text_category (record { place = 0; list = [] }) outcomes → (tree : Node) → IsDerivation s tree
    → Before s outcomes tree
before_of s outcomes best tree d =
    let cover : Covers outcomes [] (record { place = length s.tokens; list = d.0 }) (node_code tree) =
    best.least tree (record { place = length s.tokens; list = d.0 }) d.1 in
    let o = cover.0 in
    let is = best.sound o cover.1 in
    record {
      outcome = o;
      among = cover.1;
      derives = is_derivation s o is (sym (ap (λ (a : At). a.place) cover.2));
      code = subst (λ l. AtMost l (node_code tree)) is.coded cover.3;
    }

-- both facts, as a call tells them
pub record Told (s : Setting) (least : Option Skeleton) : Type 0 where
  pub some : IfSome least (IsLeast s)
  pub none : IfNone least ((tree : Node) → IsDerivation s tree → ⊥)

least_is : (s : Setting) (outcomes : List Outcome) (least : Option Skeleton) → IsBest s text_category (record { place = 0; list = [] }) outcomes
    → LeastOf s (trees_in outcomes) least → (sk : Skeleton) → least ≡ Some sk → IsLeast s sk
least_is s outcomes least best of sk e =
    let one : (tree : Node) × IsDerivation s tree × (sk ≡ sketch_of s tree 0) = of.is sk e in
    record {
      tree = one.0;
      derives = one.1;
      is = one.2 ∙ sym (skeleton_of_is s one.0 one.1);
      none_below = λ other d h. below other d h;
    }
  where
    below : (other : Node) → IsDerivation s other → IsBelow (skeleton_of s other) sk → ⊥
    below other d h =
        let b : Before s outcomes other = before_of s outcomes best other d in
        let tree : Node = node_of b.outcome.tree in
        let kept : (o : Skeleton) × (least ≡ Some o) × (IsBelow (sketch_of s tree 0) o → ⊥) =
        of.none_below tree (among_map (λ o. node_of o.tree) outcomes b.outcome b.among) b.derives in
        let same : kept.0 ≡ sk = same_Some kept.0 sk (sym kept.1 ∙ e) in
        let above : slice_cmp nat_cmp (node_code other) (skeleton_code sk) ≡ Less =
        subst (λ l. slice_cmp nat_cmp l (skeleton_code sk) ≡ Less) (code_is s other d) h in
        kept.2 (subst (IsBelow (sketch_of s tree 0)) (sym same)
        (subst (λ l. slice_cmp nat_cmp l (skeleton_code sk) ≡ Less) (sym (sketch_code_is s tree b.derives))
        (by (node_code tree) (node_code other) b.code above)))
      where
        by : (xs ys : List ℕ) → AtMost xs ys → slice_cmp nat_cmp ys (skeleton_code sk) ≡ Less → slice_cmp nat_cmp xs (skeleton_code sk) ≡ Less
        by xs ys (inl same) k = subst (λ l. slice_cmp nat_cmp l (skeleton_code sk) ≡ Less) (sym same) k
        by xs ys (inr lower) k = nat_list_cmp_total.trans xs ys (skeleton_code sk) (lower_less xs ys lower) k

least_none : (s : Setting) (outcomes : List Outcome) (least : Option Skeleton) → IsBest s text_category (record { place = 0; list = [] }) outcomes
    → LeastOf s (trees_in outcomes) least → least ≡ None → (tree : Node) → IsDerivation s tree → ⊥
least_none s outcomes least best of e tree d =
    let b : Before s outcomes tree = before_of s outcomes best tree d in
    let kept : (o : Skeleton) × (least ≡ Some o) × (IsBelow (sketch_of s (node_of b.outcome.tree) 0) o → ⊥) =
    of.none_below (node_of b.outcome.tree) (among_map (λ o. node_of o.tree) outcomes b.outcome b.among) b.derives in
    none_is_some (sym e ∙ kept.1)
  where
    none_is_some : {sk : Skeleton} {X : Type 0} → None ≡ Some sk → X
    none_is_some w = cc

pub told : (s : Setting) (outcomes : List Outcome) (least : Option Skeleton) → IsBest s text_category (record { place = 0; list = [] }) outcomes
    → LeastOf s (trees_in outcomes) least → Told s least
told s outcomes least best of = by least (least_is s outcomes least best of) (least_none s outcomes least best of)
  where
    by : (o : Option Skeleton) → ((sk : Skeleton) → o ≡ Some sk → IsLeast s sk) → (o ≡ None → (tree : Node) → IsDerivation s tree → ⊥) → Told s o
    by None f g = record { some = tt; none = g refl }
    by (Some sk) f g = record { some = f sk refl; none = tt }

-- a place that is not the number of tokens
pub not_here : (place count n : ℕ) → count ≡ n → (place ≡ count → ⊥) → place ≡ n → ⊥
not_here place count n e not h = not (h ∙ sym e)

-- the least trees of the row for `text`
pub best_in : (s : Setting) (rows : List Best) (number : ℕ) (asked : Test) (list : List Entry) (row : Best) (outcomes : List Outcome) → asked ≡ text_category
    → list ≡ [] → HasBest s rows number asked (record { place = 0; list = list }) → slice_get rows number ≡ Some row → outcomes ≡ row.outcomes
    → IsBest s text_category (record { place = 0; list = [] }) outcomes
best_in s rows number asked list row outcomes a l has at is =
    let same : has.row ≡ row = same_Some has.row row (sym has.is ∙ at) in
    let one : IsBest s asked (record { place = 0; list = list }) outcomes =
    subst (IsBest s asked (record { place = 0; list = list })) (ap (λ (r : Best). r.outcomes) same ∙ sym is) has.best in
    subst (λ x. IsBest s text_category (record { place = 0; list = x }) outcomes) l (subst (λ t. IsBest s t (record { place = 0; list = list }) outcomes) a one)
