-- The least of the skeletons of listed trees.
use Rattle.std.proofs.Common.{◌≡◌, ℕ, ◌+◌, ◌*◌, ◌<◌, List, [], ◌∷◌, ◌++◌, map, take, length, get_or, not, ◌⊎◌, inl, inr, Option, Some, None, refl, sym, ap, subst, ◌∙◌}
use Rattle.std.specs.Prelude.{IfSome, IfNone}
use Rattle.std.proofs.lemmas.List.{take_more, length-map, map-append}
use Rattle.std.specs.declared.cmp.Ordering.{Ordering}
use Rattle.std.specs.declared.cmp.Ordering.TheVariants.{Less, Equal, Greater}
use Rattle.std.specs.Ordering.{nat_cmp, ordering_reverse}
use Rattle.std.specs.Cmp.Lexicographic.{slice_cmp, nat_list_cmp_total}
use Rattle.std.proofs.lemmas.Option.{same_Some}
use Rattle.derivations.proofs.EntryLemmas.{less_greater}
use Rattle.derivation_trees.specs.declared.skeletons.Skeleton.{Skeleton}
use Rattle.derivation_trees.specs.Trees.{Node, node_of}
use Rattle.derivation_trees.specs.Settings.{Setting}
use Rattle.derivation_trees.specs.Derives.{At, text_category, IsDerivation}
use Rattle.derivation_trees.specs.Codes.{skeleton_code}
use Rattle.derivation_trees.specs.Skeletons.{skeleton_of, IsBelow, IsLeast}
use Rattle.derivation_trees.specs.Sketches.{sketch_of}
use Rattle.derivations.specs.declared.paths.Outcome.{Outcome}
use Rattle.derivations.specs.Enumeration as enumeration
use Rattle.derivations.specs.Paths.{outcome_of}
use Rattle.derivations.specs.Listed.{listed, LeastOf, IsLesser}
use Rattle.derivations.proofs.Members.{Among, among_map}
use Rattle.derivations.proofs.ListingLemmas.{tree_has}
use Rattle.derivations.proofs.DepthLemmas.{Ordered, heads, derivation_within}
use Rattle.derivations.proofs.SkeletonLemmas.{skeleton_of_is}

-- the order of codes

pub below_not_itself : (x : Skeleton) → IsBelow x x → ⊥
below_not_itself x h =
    less_greater (sym h ∙ nat_list_cmp_total.antisymm (skeleton_code x) (skeleton_code x) ∙ ap ordering_reverse h)

pub below_not_back : (x y : Skeleton) → IsBelow x y → IsBelow y x → ⊥
below_not_back x y h k =
    less_greater (sym h ∙ nat_list_cmp_total.antisymm (skeleton_code x) (skeleton_code y) ∙ ap ordering_reverse k)

-- what is below one that is not above another is below that other
below_on : (t sk o : Skeleton) → IsBelow t sk → (IsBelow o sk → ⊥) → IsBelow t o
below_on t sk o h not_above = by (slice_cmp nat_cmp (skeleton_code sk) (skeleton_code o)) refl
  where
    by : (r : Ordering) → slice_cmp nat_cmp (skeleton_code sk) (skeleton_code o) ≡ r → IsBelow t o
    by Less e = nat_list_cmp_total.trans (skeleton_code t) (skeleton_code sk) (skeleton_code o) h e
    by Equal e =
        let back : slice_cmp nat_cmp (skeleton_code sk) (skeleton_code t) ≡ Greater =
        nat_list_cmp_total.antisymm (skeleton_code sk) (skeleton_code t) ∙ ap ordering_reverse h in
        let other : slice_cmp nat_cmp (skeleton_code o) (skeleton_code t) ≡ Greater =
        sym (nat_list_cmp_total.congr (skeleton_code sk) (skeleton_code o) (skeleton_code t) e) ∙ back in
        nat_list_cmp_total.antisymm (skeleton_code t) (skeleton_code o) ∙ ap ordering_reverse other
    by Greater e = absurd (not_above (nat_list_cmp_total.antisymm (skeleton_code o) (skeleton_code sk) ∙ ap ordering_reverse e))

pub lesser_none : (other : Skeleton) (least : Option Skeleton) → least ≡ None → IsLesser least other other
lesser_none other least e = record {
  either = inl refl;
  other_not = below_not_itself other;
  least_not = λ old w. some_is_none (sym w ∙ e);
}
  where
    some_is_none : {old : Skeleton} {X : Type 0} → Some old ≡ None → X
    some_is_none w = cc

pub lesser_other : (old other : Skeleton) (least : Option Skeleton) → least ≡ Some old → IsBelow other old → IsLesser least other other
lesser_other old other least e h = record {
  either = inl refl;
  other_not = below_not_itself other;
  least_not = λ o w k. below_not_back other old h (subst (λ x. IsBelow x other) (same_Some o old (sym w ∙ e)) k);
}

pub lesser_old : (old other : Skeleton) (least : Option Skeleton) → least ≡ Some old → (IsBelow other old → ⊥) → IsLesser least other old
lesser_old old other least e h = record {
  either = inr e;
  other_not = h;
  least_not = λ o w k. below_not_itself old (subst (λ x. IsBelow x old) (same_Some o old (sym w ∙ e)) k);
}

-- listing on

pub least_of_none : (s : Setting) (least : Option Skeleton) → least ≡ None → LeastOf s [] least
least_of_none s least e = record { is = λ sk w. none_is_some (sym e ∙ w); none_below = λ tree m d. absurd m }
  where
    none_is_some : {sk : Skeleton} {X : Type 0} → None ≡ Some sk → X
    none_is_some w = cc

among_last : (trees : List Node) (t tree : Node) → Among (trees ++ t ∷ []) tree → Among trees tree ⊎ (tree ≡ t)
among_last [] t tree (inl e) = inr e
among_last [] t tree (inr h) = absurd h
among_last (x ∷ xs) t tree (inl e) = inl (inl e)
among_last (x ∷ xs) t tree (inr h) = elim (among_last xs t tree h) [ inl k ↦ inl (inr k) | inr e ↦ inr e ]

pub least_of_same : (s : Setting) (trees : List Node) (t : Node) (least : Option Skeleton) → (IsDerivation s t → ⊥) → LeastOf s trees least
    → LeastOf s (trees ++ t ∷ []) least
least_of_same s trees t least not old = record {
  is = old.is;
  none_below = λ tree m d. elim (among_last trees t tree m) [ inl k ↦ old.none_below tree k d | inr e ↦ absurd (not (subst (IsDerivation s) e d)) ];
}

pub least_of_more : (s : Setting) (trees : List Node) (t : Node) (least : Option Skeleton) (sk : Skeleton) → IsDerivation s t
    → IsLesser least (sketch_of s t 0) sk → LeastOf s trees least → LeastOf s (trees ++ t ∷ []) (Some sk)
least_of_more s trees t least sk d lesser old = record { is = is; none_below = none_below }
  where
    is : (one : Skeleton) → Some sk ≡ Some one → (tree : Node) × IsDerivation s tree × (one ≡ sketch_of s tree 0)
    is one w = elim lesser.either [
      | inl e ↦ (t, d, sym (same_Some sk one w) ∙ e)
      | inr e ↦ old.is one (e ∙ w)
    ]

    below : (tree : Node) → IsDerivation s tree → Among trees tree → IsBelow (sketch_of s tree 0) sk → ⊥
    below tree dt m h =
        let one : (o : Skeleton) × (least ≡ Some o) × (IsBelow (sketch_of s tree 0) o → ⊥) = old.none_below tree m dt in
        one.2 (below_on (sketch_of s tree 0) sk one.0 h (lesser.least_not one.0 one.1))

    none_below : (tree : Node) → Among (trees ++ t ∷ []) tree → IsDerivation s tree → (o : Skeleton) × (Some sk ≡ Some o) × (IsBelow (sketch_of s tree 0) o → ⊥)
    none_below tree m dt = elim (among_last trees t tree m) [
      | inl k ↦ (sk, refl, below tree dt k)
      | inr e ↦ (sk, refl, λ h. lesser.other_not (subst (λ x. IsBelow (sketch_of s x 0) sk) e h))
    ]

pub listed_next : (s : Setting) (outcomes : List Outcome) (i : ℕ) (o : Outcome) (next : Option Skeleton) → i < length outcomes → o ≡ get_or outcomes i o
    → LeastOf s (listed (take i outcomes) ++ node_of o.tree ∷ []) next → LeastOf s (listed (take (i + 1) outcomes)) next
listed_next s outcomes i o next lt is h =
    let whole : listed (take (i + 1) outcomes) ≡ listed (take i outcomes) ++ node_of o.tree ∷ [] =
    ap listed (take_more outcomes i o lt ∙ ap (λ y. take i outcomes ++ y ∷ []) (sym is)) ∙ map-append (λ x. node_of x.tree) (take i outcomes) (o ∷ []) in
    subst (λ ts. LeastOf s ts next) (sym whole) h

-- all derivations are listed

listed_is : (outcomes : List Outcome) → listed outcomes ≡ map (λ (o : enumeration.Outcome). o.tree) (map outcome_of outcomes)
listed_is [] = refl
listed_is (o ∷ os) = ap (λ ts. node_of o.tree ∷ ts) (listed_is os)

pub start_at : At
start_at = record { place = 0; list = [] }

all_listed : (s : Setting) → Ordered s.grammar → (depth : ℕ) (outcomes : List Outcome) → depth ≡ (length s.tokens + 1) * (length s.grammar.rules + 1)
    → map outcome_of outcomes ≡ enumeration.trees_of s depth text_category (record { place = 0; list = [] }) → (tree : Node) → IsDerivation s tree
    → Among (listed outcomes) tree
all_listed s ordered depth outcomes deep made tree d =
    let count : length (heads s.grammar) ≡ length s.grammar.rules = length-map s.grammar.rules (λ r. r.head.name) in
    let same : (length s.tokens + 1) * (length (heads s.grammar) + 1) ≡ depth = ap (λ n. (length s.tokens + 1) * (n + 1)) count ∙ sym deep in
    let after : At = record { place = length s.tokens; list = d.0 } in
    let among : Among (enumeration.trees_of s depth text_category (record { place = 0; list = [] })) (record { tree = tree; at = after }) =
    tree_has s depth tree text_category (record { place = 0; list = [] }) after
    (subst (λ n. Rattle.derivations.proofs.ListingLemmas.Within n tree) same (derivation_within s ordered tree text_category after d.1 refl)) d.1 in
    subst (λ ts. Among ts tree) (sym (listed_is outcomes))
    (among_map (λ (o : enumeration.Outcome). o.tree) (map outcome_of outcomes) (record { tree = tree; at = after })
    (subst (λ os. Among os (record { tree = tree; at = after })) (sym made) among))

pub least_is : (s : Setting) → Ordered s.grammar → (depth : ℕ) (outcomes : List Outcome) (least : Option Skeleton)
    → depth ≡ (length s.tokens + 1) * (length s.grammar.rules + 1)
    → map outcome_of outcomes ≡ enumeration.trees_of s depth text_category (record { place = 0; list = [] }) → LeastOf s (listed outcomes) least
    → (sk : Skeleton) → least ≡ Some sk → IsLeast s sk
least_is s ordered depth outcomes least deep made of sk e =
    let one : (tree : Node) × IsDerivation s tree × (sk ≡ sketch_of s tree 0) = of.is sk e in
    record {
      tree = one.0;
      derives = one.1;
      is = one.2 ∙ sym (skeleton_of_is s one.0 one.1);
      none_below = λ other d h. below other d h;
    }
  where
    below : (other : Node) → IsDerivation s other → IsBelow (skeleton_of s other) sk → ⊥
    below other d h =
        let one : (o : Skeleton) × (least ≡ Some o) × (IsBelow (sketch_of s other 0) o → ⊥) =
        of.none_below other (all_listed s ordered depth outcomes deep made other d) d in
        one.2 (subst (λ x. IsBelow (sketch_of s other 0) x) (same_Some sk one.0 (sym e ∙ one.1)) (subst (λ x. IsBelow x sk) (skeleton_of_is s other d) h))

pub least_none : (s : Setting) → Ordered s.grammar → (depth : ℕ) (outcomes : List Outcome) (least : Option Skeleton)
    → depth ≡ (length s.tokens + 1) * (length s.grammar.rules + 1)
    → map outcome_of outcomes ≡ enumeration.trees_of s depth text_category (record { place = 0; list = [] }) → LeastOf s (listed outcomes) least → least ≡ None
    → (tree : Node) → IsDerivation s tree → ⊥
least_none s ordered depth outcomes least deep made of e tree d =
    let one : (o : Skeleton) × (least ≡ Some o) × (IsBelow (sketch_of s tree 0) o → ⊥) =
    of.none_below tree (all_listed s ordered depth outcomes deep made tree d) d in
    none_is_some (sym e ∙ one.1)
  where
    none_is_some : {sk : Skeleton} {X : Type 0} → None ≡ Some sk → X
    none_is_some w = cc

-- both facts, as a call tells them
pub record Told (s : Setting) (least : Option Skeleton) : Type 0 where
  pub some : IfSome least (IsLeast s)
  pub none : IfNone least ((tree : Node) → IsDerivation s tree → ⊥)

pub told : (s : Setting) → Ordered s.grammar → (depth : ℕ) (outcomes : List Outcome) (least : Option Skeleton)
    → depth ≡ (length s.tokens + 1) * (length s.grammar.rules + 1)
    → map outcome_of outcomes ≡ enumeration.trees_of s depth text_category (record { place = 0; list = [] }) → LeastOf s (listed outcomes) least → Told s least
told s ordered depth outcomes least deep made of =
    by least (least_is s ordered depth outcomes least deep made of) (least_none s ordered depth outcomes least deep made of)
  where
    by : (o : Option Skeleton) → ((sk : Skeleton) → o ≡ Some sk → IsLeast s sk) → (o ≡ None → (tree : Node) → IsDerivation s tree → ⊥) → Told s o
    by None f g = record { some = tt; none = g refl }
    by (Some sk) f g = record { some = f sk refl; none = tt }

pub none_told : (least : Option Skeleton) (s t : Setting) → s ≡ t → IfNone least ((tree : Node) → IsDerivation s tree → ⊥)
    → IfNone least ((tree : Node) × IsDerivation t tree → ⊥)
none_told None s t e h = λ found. h found.0 (subst (λ x. IsDerivation x found.0) (sym e) found.1)
none_told (Some sk) s t e h = tt
