-- The number of an entity stays when more entities come.
use Rattle.std.proofs.Common.{◌≡◌, ℕ, ◌+◌, Bool, true, false, cond, ◌&&◌, ◌||◌, eq-eqb, List, [], ◌∷◌, ◌++◌, refl, sym, ap, ◌∙◌, append_assoc, append-nil}
use Rattle.std.specs.List.{list_any}
use Rattle.wiki_base.specs.declared.numbers.WordId.{WordId}
use Rattle.owl_reader.specs.declared.kinds.EntityKind.{EntityKind}
use Rattle.owl_reader.specs.declared.kinds.EntityKind.TheVariants as kind
use Rattle.owl_reader.specs.declared.kinds.Entity.{Entity}
use Rattle.owl_reader.specs.Grammar.{same_bytes}
use Rattle.owl_reader.specs.Names.{same_kind, same_entity, entered, place_of, word_of}
use Rattle.owl_grammar.specs.Files.{each_once}

pub same_bytes-refl : (xs : List ℕ) → same_bytes xs xs ≡ true
same_bytes-refl [] = refl
same_bytes-refl (x ∷ xs) = λ i. eq-eqb x x refl i && same_bytes-refl xs i

same_kind-refl : (k : EntityKind) → same_kind k k ≡ true
same_kind-refl kind.Class = refl
same_kind-refl kind.Property = refl
same_kind-refl kind.Individual = refl

same_entity-refl : (e : Entity) → same_entity e e ≡ true
same_entity-refl e = λ i. same_kind-refl e.kind i && same_bytes-refl e.iri i

-- these come first among those
pub record Fronts (es all : List Entity) : Type 0 where
  pub more : List Entity
  pub is : all ≡ es ++ more

abbrev pub Extends : List Entity → List Entity → Type 0
Extends es fs = (more : List Entity) × (fs ≡ es ++ more)

entered_extends : (es : List Entity) (e : Entity) → Extends es (entered es e)
entered_extends es e = by (list_any (same_entity e) es)
  where
    by : (b : Bool) → (more : List Entity) × (cond b es (es ++ e ∷ []) ≡ es ++ more)
    by true = ([], sym (append-nil es))
    by false = (e ∷ [], refl)

once_extends : (es ms : List Entity) → Extends es (each_once es ms)
once_extends es [] = ([], sym (append-nil es))
once_extends es (m ∷ ms) =
    let one = entered_extends es m in
    let rest = once_extends (entered es m) ms in
    (one.0 ++ rest.0, rest.1 ∙ (ap (λ (xs : List Entity). xs ++ rest.0) one.1 ∙ append_assoc es one.0 rest.0))

pub once_append : (es ms ns : List Entity) → each_once es (ms ++ ns) ≡ each_once (each_once es ms) ns
once_append es [] ns = refl
once_append es (m ∷ ms) ns = once_append (entered es m) ms ns

-- what comes first stays so when less is taken
pub fronts_before : (es ms all : List Entity) → Fronts (each_once es ms) all → Fronts es all
fronts_before es ms all f =
    let x = once_extends es ms in
    record { more = x.0 ++ f.more; is = f.is ∙ (ap (λ (xs : List Entity). xs ++ f.more) x.1 ∙ append_assoc es x.0 f.more) }

-- the places in a list whose first entity is another one, or this one
behind_other : (b : Bool) (f : Entity) (fs more : List Entity) (e : Entity) → same_entity e f ≡ b
    → place_of fs e ≡ place_of (entered fs e ++ more) e → place_of (f ∷ fs) e ≡ place_of (entered (f ∷ fs) e ++ more) e
behind_other true f fs more e same rest =
    ap (λ b. cond b 0 (1 + place_of fs e)) same
    ∙ sym (ap (λ b. place_of (cond (b || list_any (same_entity e) fs) (f ∷ fs) ((f ∷ fs) ++ e ∷ []) ++ more) e) same
    ∙ ap (λ b. cond b 0 (1 + place_of (fs ++ more) e)) same)
behind_other false f fs more e same rest =
    ap (λ b. cond b 0 (1 + place_of fs e)) same
    ∙ (ap (λ n. 1 + n) rest
    ∙ sym (ap (λ b. place_of (cond (b || list_any (same_entity e) fs) (f ∷ fs) ((f ∷ fs) ++ e ∷ []) ++ more) e) same
    ∙ by (list_any (same_entity e) fs)))
  where
    by : (d : Bool) → place_of (cond d (f ∷ fs) ((f ∷ fs) ++ e ∷ []) ++ more) e ≡ 1 + place_of (cond d fs (fs ++ e ∷ []) ++ more) e
    by true = ap (λ b. cond b 0 (1 + place_of (fs ++ more) e)) same
    by false = ap (λ b. cond b 0 (1 + place_of ((fs ++ e ∷ []) ++ more) e)) same

place_stays : (es more : List Entity) (e : Entity) → place_of es e ≡ place_of (entered es e ++ more) e
place_stays [] more e = sym (ap (λ b. cond b 0 (1 + place_of more e)) (same_entity-refl e))
place_stays (f ∷ fs) more e = behind_other (same_entity e f) f fs more e refl (place_stays fs more e)

pub number_stays : (es all : List Entity) (e : Entity) → Fronts (entered es e) all → word_of es e ≡ word_of all e
number_stays es all e f =
    let place : place_of es e ≡ place_of all e = place_stays es f.more e ∙ ap (λ (xs : List Entity). place_of xs e) (sym f.is) in
    ap (λ (n : ℕ). let w : WordId = record { 0 = n + 1 } in w) place
