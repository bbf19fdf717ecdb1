-- The table of a grammar's features.
use Rattle.std.proofs.Common.{◌≡◌, ℕ, zero, suc, ◌+◌, ◌<◌, ◌≤◌, Bool, true, false, ◌&&◌, eqb, ltb, List, [], ◌∷◌, ◌++◌, length, map, get_or, replicate, refl, sym, ap, ◌∙◌, subst, arith, inl, inr}
use Rattle.std.specs.List.{list_all, flat_map}
use Rattle.std.proofs.lemmas.List.{get_or_past, length-replicate, get_or_default}
use Rattle.std.proofs.lemmas.Bool.{cases_lt, and_parts, ltb-true, ne_eqb, or_from}
use Rattle.wiki_base.proofs.ListLaws.{all_split}
use Rattle.codeco_checked.proofs.NumberingLemmas.{counted}
use Rattle.codeco_terms.specs.declared.declarations.Declared.{Declared}
use Rattle.codeco_terms.specs.declared.declarations.Declared.TheVariants as declared
use Rattle.codeco_terms.specs.declared.declarations.Feature.{Feature}
use Rattle.codeco_terms.specs.GrammarParts.{GrammarParts}
use Rattle.codeco_checked.specs.Numbering.{has, declared_atoms, grammar_atoms}
use Rattle.codeco_late_faults.specs.Marks.{marked}
use Rattle.codeco_late_faults.specs.Tables.{CountsAtoms, HoldsAtoms, values_in, AreSets, class_in, AreClasses}
use Rattle.codeco_late_faults.proofs.MarkLemmas.{set_has, length_marked}

values_at : (features : List Feature) (f : ℕ) (x : Feature) → f < length features → x ≡ get_or features f x → values_in features f ≡ x.declared
values_at [] f x lt is = absurd (omega arith)
values_at (y ∷ ys) zero x lt is = ap (λ (z : Feature). z.declared) (sym is)
values_at (y ∷ ys) (suc f) x lt is = values_at ys f x (omega arith) is

-- the set at a place holds the atoms of the feature there
pub holds_at : (features : List Feature) (sets : List (List Bool)) (f : ℕ) (x : Feature) (s : List Bool) → AreSets features sets → f < length features
    → f < length sets → x ≡ get_or features f x → s ≡ get_or sets f s → HoldsAtoms s x.declared
holds_at features sets f x s are lt room x-is s-is = λ a.
    ap (λ z. get_or z a false) (s-is ∙ get_or_default sets f s [] room) ∙ are f a ∙ ap (λ d. has (declared_atoms d) a) (values_at features f x lt x-is)

pub has_at : (features : List Feature) (sets : List (List Bool)) (f a : ℕ) (s : List Bool) → AreSets features sets → f < length sets → s ≡ get_or sets f s
    → get_or s a false ≡ has (declared_atoms (values_in features f)) a
has_at features sets f a s are room s-is = ap (λ z. get_or z a false) (s-is ∙ get_or_default sets f s [] room) ∙ are f a

pub has_past : (features : List Feature) (sets : List (List Bool)) (f a : ℕ) → AreSets features sets → length sets ≤ f
    → false ≡ has (declared_atoms (values_in features f)) a
has_past features sets f a are long = ap (λ z. get_or z a false) (sym (get_or_past sets f [] long)) ∙ are f a

-- a number that all of the list are below isn't in it
not_has : (xs : List ℕ) (n a : ℕ) → list_all (λ x. ltb x n) xs ≡ true → n ≤ a → has xs a ≡ false
not_has [] n a h le = refl
not_has (x ∷ xs) n a h le =
    let parts = and_parts (ltb x n) (list_all (λ y. ltb y n) xs) h in
    let lt = ltb-true x n parts.0 in
    or_from (eqb a x) (has xs a) (ne_eqb a x (λ e. omega arith)) (not_has xs n a parts.1 le)

marks_hold : (n : ℕ) (d : Declared) → list_all (λ x. ltb x n) (declared_atoms d) ≡ true → HoldsAtoms (marked (replicate n false) (declared_atoms d)) d
marks_hold n d h = λ a.
    elim (cases_lt a n) [
      | inl lt ↦ set_has n (marked (replicate n false) (declared_atoms d)) (declared_atoms d) a refl lt
      | inr le ↦ get_or_past (marked (replicate n false) (declared_atoms d)) a false
          (omega (arith, length_marked (replicate n false) (declared_atoms d), length-replicate n false)) ∙ sym (not_has (declared_atoms d) n a h le)
    ]

nothing_holds : HoldsAtoms [] declared.Undeclared
nothing_holds = λ a. refl

sets_hold_from : (n : ℕ) (features : List Feature) → list_all (λ x. ltb x n) (flat_map (λ x. declared_atoms x.declared) features) ≡ true
    → AreSets features (map (λ x. marked (replicate n false) (declared_atoms x.declared)) features)
sets_hold_from n [] h = λ f a. refl
sets_hold_from n (x ∷ xs) h =
    let parts = all_split (λ y. ltb y n) (declared_atoms x.declared) (flat_map (λ (z : Feature). declared_atoms z.declared) xs) h in
    at parts.0 (sets_hold_from n xs parts.1)
  where
    at : list_all (λ y. ltb y n) (declared_atoms x.declared) ≡ true → AreSets xs (map (λ z. marked (replicate n false) (declared_atoms z.declared)) xs)
        → (f : ℕ) → HoldsAtoms (get_or (map (λ z. marked (replicate n false) (declared_atoms z.declared)) (x ∷ xs)) f []) (values_in (x ∷ xs) f)
    at here rest zero = marks_hold n x.declared here
    at here rest (suc f) = rest f

-- the sets of a numbered grammar's features hold their atoms
pub sets_hold : (g : GrammarParts) (n : ℕ) (features : List Feature) (sets : List (List Bool)) → CountsAtoms g → n ≡ length g.atoms → features ≡ g.features
    → sets ≡ map (λ x. marked (replicate n false) (declared_atoms x.declared)) features → AreSets features sets
sets_hold g n features sets numbered size same is =
    let all : list_all (λ x. ltb x n) (flat_map (λ x. declared_atoms x.declared) features) ≡ true =
    ap (λ m. list_all (λ x. ltb x m) (flat_map (λ (x : Feature). declared_atoms x.declared) features)) size
    ∙ ap (λ fs. list_all (λ x. ltb x (length g.atoms)) (flat_map (λ (x : Feature). declared_atoms x.declared) fs)) same
    ∙ (counted 7 (length g.atoms) (grammar_atoms g) numbered).1 in
    subst (λ z. AreSets features z) (sym is) (sets_hold_from n features all)

classes_from : (all features : List Feature) (f : ℕ)
    → get_or (map (λ x. class_in all x.declared) features) f (class_in all declared.Undeclared) ≡ class_in all (values_in features f)
classes_from all [] f = refl
classes_from all (x ∷ xs) zero = refl
classes_from all (x ∷ xs) (suc f) = classes_from all xs f

pub classes_hold : (features : List Feature) (classes : List ℕ) (undeclared : ℕ) → classes ≡ map (λ x. class_in features x.declared) features
    → undeclared ≡ class_in features declared.Undeclared → AreClasses features classes undeclared
classes_hold features classes undeclared is none = λ f.
    ap (λ z. get_or z f undeclared) is ∙ ap (λ u. get_or (map (λ (x : Feature). class_in features x.declared) features) f u) none
    ∙ classes_from features features f
