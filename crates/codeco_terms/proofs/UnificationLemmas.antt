-- Least extensions of a map, one fact after another.
use Rattle.std.proofs.Common.{◌≡◌, ℕ, ◌<◌, ◌≤◌, ◌+◌, List, Some, All, length, get_or, take, sym, subst, arith}
use Rattle.std.proofs.lemmas.List.{get_or-take, length-take-le}
use Rattle.std.proofs.lemmas.List.Elements.{All-more, All-take, All-get_or}
use Rattle.codeco_terms.specs.declared.values.Value.{Value}
use Rattle.codeco_terms.specs.declared.values.Term.{Term}
use Rattle.codeco_terms.specs.declared.values.Term.TheVariants.{Val, Var}
use Rattle.codeco_terms.specs.declared.categories.Category.{Category}
use Rattle.codeco_terms.specs.declared.categories.Ground.{Ground}
use Rattle.codeco_terms.specs.Unification.{Bindings, Extends, Meets, AgreeOnShared, CanEquate, IsLeastExtension, meaning_of}

-- a fact that stays true in each extension
pub record IsKept (P : Bindings → Type 0) : Type 0 where
  pub keeps : (old new : Bindings) → Extends old new → P old → P new

pub least_none : (P : Bindings → Type 0) (e : Bindings) → P e → IsLeastExtension P e e
least_none P e p = record { extends = λ x v h. h; holds = p; least = λ m h q. h }

-- the same fact in other words
pub least_same : (P Q : Bindings → Type 0) (old new : Bindings) → ((m : Bindings) → P m → Q m) → ((m : Bindings) → Q m → P m) → IsLeastExtension P old new
    → IsLeastExtension Q old new
least_same P Q old new to from e = record {
  extends = e.extends;
  holds = to new e.holds;
  least = λ m h q. e.least m h (from m q);
}

-- first one fact, and then another over what it gave
pub least_more : (P Q R : Bindings → Type 0) (old mid new : Bindings) → IsKept P → IsLeastExtension P old mid → IsLeastExtension Q mid new
    → ((m : Bindings) → P m → Q m → R m) → ((m : Bindings) → R m → P m × Q m) → IsLeastExtension R old new
least_more P Q R old mid new kept first then join split = record {
  extends = λ x v h. then.extends x v (first.extends x v h);
  holds = join new (kept.keeps mid new then.extends first.holds) then.holds;
  least = λ m h r. then.least m (first.least m h (split m r).0) (split m r).1;
}

-- what no extension of the later map has, no extension of the first one has with the earlier fact
pub none_more : (P Q R : Bindings → Type 0) (old mid : Bindings) → IsLeastExtension P old mid → ((m : Bindings) → Extends mid m → Q m → ⊥)
    → ((m : Bindings) → R m → P m × Q m) → (m : Bindings) → Extends old m → R m → ⊥
none_more P Q R old mid first none split m h r =
    none m (first.least m h (split m r).0) (split m r).1

pub All-kept : {X : Type 0} (P : X → Bindings → Type 0) (xs : List X) → ((x : X) → IsKept (P x)) → IsKept (λ m. All (λ x. P x m) xs)
All-kept P xs each = record {
  keeps = λ old new h a k d lt. (each (get_or xs k d)).keeps old new h (a k d lt);
}

All-one_less : {X : Type 0} (P : X → Type 0) (xs : List X) (i : ℕ) (d : X) → i < length xs → All P (take (i + 1) xs) → All P (take i xs) × P (get_or xs i d)
All-one_less {X} P xs i d lt a =
    let long : length (take (i + 1) xs) ≡ i + 1 = length-take-le (i + 1) xs (omega arith) in
    let short : length (take i xs) ≡ i = length-take-le i xs (omega arith) in
    let at : (k : ℕ) (e : X) → k < i + 1 → P (get_or xs k e) =
    λ k e h. subst P (get_or-take (i + 1) xs k e h) (a k e (omega arith)) in (
      λ k e h.
          let below : k < i = omega arith in
          let wide : k < i + 1 = omega arith in
          subst P (sym (get_or-take i xs k e below)) (at k e wide),
      at i d (omega arith),
    )

-- the facts of one more element
pub least_take_more : {X : Type 0} (P : X → Bindings → Type 0) (xs : List X) (i : ℕ) (d : X) (old mid new : Bindings) → ((x : X) → IsKept (P x)) → i < length xs
    → IsLeastExtension (λ m. All (λ x. P x m) (take i xs)) old mid → IsLeastExtension (P (get_or xs i d)) mid new
    → IsLeastExtension (λ m. All (λ x. P x m) (take (i + 1) xs)) old new
least_take_more {X} P xs i d old mid new each lt first then =
    least_more (λ m. All (λ x. P x m) (take i xs)) (P (get_or xs i d)) (λ m. All (λ x. P x m) (take (i + 1) xs)) old mid new (All-kept P (take i xs) each) first
    then (λ m p q. All-more (λ x. P x m) xs i d lt p q) (λ m r. All-one_less (λ x. P x m) xs i d lt r)

-- where one element can't be met, not all can
pub none_take_more : {X : Type 0} (P : X → Bindings → Type 0) (xs : List X) (i : ℕ) (d : X) (old mid : Bindings) → i < length xs
    → IsLeastExtension (λ m. All (λ x. P x m) (take i xs)) old mid → ((m : Bindings) → Extends mid m → P (get_or xs i d) m → ⊥) → (m : Bindings) → Extends old m
    → All (λ x. P x m) xs → ⊥
none_take_more {X} P xs i d old mid lt first none m h a =
    none_more (λ n. All (λ x. P x n) (take i xs)) (P (get_or xs i d)) (λ n. All (λ x. P x n) xs) old mid first none
    (λ n r. (All-take (λ x. P x n) i xs r, All-get_or (λ x. P x n) xs i d lt r)) m h a

pub meaning_of-extends : (old new : Bindings) (t : Term) (v : Value) → Extends old new → meaning_of old t ≡ Some v → meaning_of new t ≡ Some v
meaning_of-extends old new (Val w) v h e = e
meaning_of-extends old new (Var x) v h e = h x v e

pub Meets-kept : (f : ℕ) (t : Term) (q : ℕ × Value) → IsKept (λ m. Meets m f t q)
Meets-kept f t q = record { keeps = λ old new h meets same. meaning_of-extends old new t q.1 h (meets same) }

pub Shares-kept : (vals : List (ℕ × Value)) (p : ℕ × Term) → IsKept (λ m. All (Meets m p.0 p.1) vals)
Shares-kept vals p = All-kept (λ q m. Meets m p.0 p.1 q) vals (Meets-kept p.0 p.1)

-- a map that agrees on the shared features makes categories of one name equal
pub CanEquate-from_least : (cat : Category) (ground : Ground) (feats : List (ℕ × Term)) (vals : List (ℕ × Value)) (old start new : Bindings)
    → cat.name ≡ ground.name → feats ≡ cat.feats → vals ≡ ground.vals → start ≡ old → IsLeastExtension (λ m. AgreeOnShared m feats vals) start new
    → CanEquate cat ground old
CanEquate-from_least cat ground feats vals old start new names f v s e =
    record {
      map = new;
      extends = subst (λ m. Extends m new) s e.extends;
      equates = record {
        same_name = names;
        agree = subst (λ xs. AgreeOnShared new xs ground.vals) f (subst (λ ys. AgreeOnShared new feats ys) v e.holds);
      };
    }
