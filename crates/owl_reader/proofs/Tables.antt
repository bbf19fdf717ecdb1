-- What the tables of prefixes and entities find is what their lists say.
use Rattle.std.proofs.Common.{◌≡◌, ℕ, ◌+◌, Bool, true, false, not, cond, ◌&&◌, ◌||◌, eqb, List, [], ◌∷◌, ◌++◌, map, length, Option, Some, None, refl, ap, ◌∙◌, arith}
use Rattle.std.specs.Prelude.{nat_eq}
use Rattle.std.specs.List.{list_any, position_or_len}
use Rattle.std.specs.Map.{lookup}
use Rattle.std.specs.Option.{option_map}
use Rattle.std.specs.Cmp.Lexicographic.{pointwise}
use Rattle.std.proofs.lemmas.List.{map-append}
use Rattle.indexmap.specs.IndexMap.{insert_entry}
use Rattle.owl_reader.specs.Grammar.{same_bytes}
use Rattle.owl_reader.specs.Names.{declare, iri_of, same_entity, entered, place_of}
use Rattle.owl_reader.specs.declared.kinds.Entity.{Entity}

pub pointwise_same : (xs ys : List ℕ) → pointwise nat_eq xs ys ≡ same_bytes xs ys
pointwise_same [] [] = refl
pointwise_same [] (y ∷ ys) = refl
pointwise_same (x ∷ xs) [] = refl
pointwise_same (x ∷ xs) (y ∷ ys) = λ i. eqb x y && pointwise_same xs ys i

module _ {X Y : Type 0} (key : X → List ℕ) (value : Y → List ℕ) where
  -- an entry of a map is a declaration
  pub declared_entry : (es : List (X × Y)) (k : X) (v : Y)
      → map (λ (e : X × Y). (key e.0, value e.1)) (insert_entry (λ a b. pointwise nat_eq (key a) (key b)) es k v)
      ≡ declare (map (λ (e : X × Y). (key e.0, value e.1)) es) (key k) (value v)
  declared_entry [] k v = refl
  declared_entry (e ∷ es) k v =
      ap (λ b. map (λ (e : X × Y). (key e.0, value e.1)) (cond b ((e.0, v) ∷ es) (e ∷ insert_entry (λ a b. pointwise nat_eq (key a) (key b)) es k v)))
      (pointwise_same (key k) (key e.0))
      ∙ by (same_bytes (key k) (key e.0)) (declared_entry es k v)
    where
      by : (b : Bool)
          → map (λ (e : X × Y). (key e.0, value e.1)) (insert_entry (λ a b. pointwise nat_eq (key a) (key b)) es k v)
          ≡ declare (map (λ (e : X × Y). (key e.0, value e.1)) es) (key k) (value v)
          → map (λ (e : X × Y). (key e.0, value e.1)) (cond b ((e.0, v) ∷ es) (e ∷ insert_entry (λ a b. pointwise nat_eq (key a) (key b)) es k v))
          ≡ cond b ((key e.0, value v) ∷ map (λ (e : X × Y). (key e.0, value e.1)) es)
          ((key e.0, value e.1) ∷ declare (map (λ (e : X × Y). (key e.0, value e.1)) es) (key k) (value v))
      by true rest = refl
      by false rest = ap (λ ds. (key e.0, value e.1) ∷ ds) rest

  -- what a map finds is what is declared
  pub iri_found : (es : List (X × Y)) (w : List ℕ)
      → option_map value (lookup (λ k. pointwise nat_eq w (key k)) es) ≡ iri_of (map (λ (e : X × Y). (key e.0, value e.1)) es) w
  iri_found [] w = refl
  iri_found (e ∷ es) w =
      ap (λ b. option_map value (cond b (Some e.1) (lookup (λ k. pointwise nat_eq w (key k)) es))) (pointwise_same w (key e.0))
      ∙ by (same_bytes w (key e.0)) (iri_found es w)
    where
      by : (b : Bool) → option_map value (lookup (λ k. pointwise nat_eq w (key k)) es) ≡ iri_of (map (λ (e : X × Y). (key e.0, value e.1)) es) w
          → option_map value (cond b (Some e.1) (lookup (λ k. pointwise nat_eq w (key k)) es))
          ≡ cond b (Some (value e.1)) (iri_of (map (λ (e : X × Y). (key e.0, value e.1)) es) w)
      by true rest = refl
      by false rest = rest

module _ {X : Type 0} (view : X → Entity) (eq : X → X → Bool) (same : (x y : X) → eq x y ≡ same_entity (view x) (view y)) where
  any_same : (x : X) (xs : List X) → list_any (eq x) xs ≡ list_any (same_entity (view x)) (map view xs)
  any_same x [] = refl
  any_same x (y ∷ ys) = λ i. same x y i || any_same x ys i

  pub key_entered : (x : X) (xs : List X) → map view (cond (list_any (eq x) xs) xs (xs ++ x ∷ [])) ≡ entered (map view xs) (view x)
  key_entered x xs =
      ap (λ b. map view (cond b xs (xs ++ x ∷ []))) (any_same x xs) ∙ by (list_any (same_entity (view x)) (map view xs))
    where
      by : (b : Bool) → map view (cond b xs (xs ++ x ∷ [])) ≡ cond b (map view xs) (map view xs ++ view x ∷ [])
      by true = refl
      by false = map-append view xs (x ∷ [])

  pub place_entered : (x : X) (xs : List X) → position_or_len (eq x) xs ≡ place_of (map view xs) (view x)
  place_entered x [] = refl
  place_entered x (y ∷ ys) =
      ap (λ b. cond (not b) (1 + position_or_len (eq x) ys) 0) (same x y) ∙ by (same_entity (view x) (view y)) (place_entered x ys)
    where
      by : (b : Bool) → position_or_len (eq x) ys ≡ place_of (map view ys) (view x)
          → cond (not b) (1 + position_or_len (eq x) ys) 0 ≡ cond b 0 (1 + place_of (map view ys) (view x))
      by true rest = refl
      by false rest = ap (λ n. 1 + n) rest
