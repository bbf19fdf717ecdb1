-- What was read so far, as the part of a file that it spells.
use Rattle.std.proofs.Common.{◌≡◌, ℕ, Bool, true, false, List, [], ◌∷◌, ◌++◌, Option, Some, None, refl, sym, ap, subst, ◌∙◌, append_assoc, append-nil}
use Rattle.std.specs.Prelude.{codes}
use Rattle.std.specs.List.{flat_map, list_all, AllByRecursion}
use Rattle.std.proofs.lemmas.Bool.{and_parts}
use Rattle.std.proofs.lemmas.Option.{same_Some}
use Rattle.owl_tokens.specs.declared.tokens.TokenKind.TheVariants as token
use Rattle.owl_reader.specs.declared.kinds.Construct.{Construct}
use Rattle.owl_reader.specs.declared.kinds.Construct.TheVariants as construct
use Rattle.owl_reader.specs.declared.kinds.Sort.{Sort}
use Rattle.owl_reader.specs.declared.kinds.Sort.TheVariants as sort
use Rattle.owl_reader.specs.Grammar.{keyword, construct_among, item_constructs, sorts, repeats}
use Rattle.owl_reader.specs.Names.{Declared}
use Rattle.owl_reader.specs.Reading.{Frame}
use Rattle.owl_reader.specs.Reading as machine
use Rattle.owl_grammar.specs.Files.{Piece, word, sign, Tree, Named, Built, Trees, no_tree, also_tree, Item, Note, between, spelled, spelled_all, spelled_note, spelled_item, constructs_of, IsOneOf, Fits, Fill, AreMatched, IsItem}
use Rattle.owl_grammar.proofs.Readings.{bottom}

pub never : false ≡ true → ⊥
never h = cc

pub no_some : {X : Type 0} (x : X) → None ≡ Some x → ⊥
no_some x h = cc

abbrev pub join : Trees → Trees → Trees
join no_tree us = us
join (also_tree t ts) us = also_tree t (join ts us)

join_assoc : (ts us vs : Trees) → join (join ts us) vs ≡ join ts (join us vs)
join_assoc no_tree us vs = refl
join_assoc (also_tree t ts) us vs = ap (also_tree t) (join_assoc ts us vs)

pub join_none : (ts : Trees) → join ts no_tree ≡ ts
join_none no_tree = refl
join_none (also_tree t ts) = ap (also_tree t) (join_none ts)

pub spelled_join : (ts us : Trees) → spelled_all (join ts us) ≡ spelled_all ts ++ spelled_all us
spelled_join no_tree us = refl
spelled_join (also_tree t ts) us =
    ap (λ ps. spelled t ++ ps) (spelled_join ts us) ∙ sym (append_assoc (spelled t) (spelled_all ts) (spelled_all us))

-- a frame, apart from what its parts stand for
pub record Bare : Type 0 where
  pub construct : Construct
  pub fresh : Bool
  pub wanted : List Sort

abbrev pub bare : Frame → Bare
bare f = record { construct = f.construct; fresh = f.fresh; wanted = f.wanted }

abbrev pub wanted_sort : Bare → Option Sort
wanted_sort b = machine.first_sort b.wanted (repeats b.construct)

-- with one more part
abbrev pub advanced : Bare → Bare
advanced b = record { construct = b.construct; fresh = false; wanted = machine.behind b.wanted }

abbrev pub can_fill : Sort → Bool
can_fill sort.Item = false
can_fill _ = true

-- these parts stand in a frame, and others may fill it
pub record Filled (declared : Declared) (b : Bare) (ts : Trees) : Type 0 where
  pub leads : (rest : Trees) → Fill declared b.wanted (repeats b.construct) rest → Fill declared (sorts b.construct) (repeats b.construct) (join ts rest)
  pub fillable : list_all can_fill b.wanted ≡ true

-- the ontology's own frame
pub record Bottom (declared : Declared) (head : List Piece) (b : Bare) (ps : List Piece) : Type 0 where
  pub is : b ≡ bare bottom
  pub items : List Item
  pub all : AllByRecursion (IsItem declared) items
  pub spelled : ps ≡ head ++ flat_map spelled_item items

-- the frame of a declaration or an axiom
pub record First (declared : Declared) (head : List Piece) (b g : Bare) (ps : List Piece) : Type 0 where
  pub under : List Piece
  pub bottom : Bottom declared head g under
  pub one : IsOneOf item_constructs b.construct
  pub notes : List (List Piece)
  pub matched : AllByRecursion AreMatched notes
  pub parts : Trees
  pub filled : Filled declared b parts
  pub fresh : b.fresh ≡ true → parts ≡ no_tree
  pub spelled : ps ≡ under ++ word (keyword b.construct) ∷ sign token.OpenParen ∷ (flat_map spelled_note notes ++ spelled_all parts)

-- the frame of a part
pub record Deeper (declared : Declared) (b g : Bare) (Below : List Piece → Type 0) (ps : List Piece) : Type 0 where
  pub under : List Piece
  pub below : Below under
  pub place : Sort
  pub wants : wanted_sort g ≡ Some place
  pub one : IsOneOf (constructs_of place) b.construct
  pub parts : Trees
  pub filled : Filled declared b parts
  pub spelled : ps ≡ under ++ word (keyword b.construct) ∷ sign token.OpenParen ∷ spelled_all parts

-- open frames spell these tokens behind a file's head
abbrev pub Stack : Declared → List Piece → Bare → List Bare → List Piece → Type 0
Stack declared head b [] ps = Bottom declared head b ps
Stack declared head b (g ∷ []) ps = First declared head b g ps
Stack declared head b (g ∷ h ∷ gs) ps = Deeper declared b g (Stack declared head g (h ∷ gs)) ps

-- Parts

pub no_item_fits : (declared : Declared) (t : Tree) → Fits declared sort.Item t → ⊥
no_item_fits declared (Named n) fits = never fits.0
no_item_fits declared (Built c ts) fits = no_some c fits.0

fill_more : (declared : Declared) (ws : List Sort) (more : Option Sort) (s : Sort) (t : Tree) (rest : Trees) → machine.first_sort ws more ≡ Some s
    → Fits declared s t → Fill declared (machine.behind ws) more rest → Fill declared ws more (also_tree t rest)
fill_more declared [] None s t rest wants fits fill = absurd (no_some s wants)
fill_more declared [] (Some w) s t rest wants fits fill = (subst (λ x. Fits declared x t) (sym (same_Some w s wants)) fits, fill)
fill_more declared (w ∷ ws) more s t rest wants fits fill = (subst (λ x. Fits declared x t) (sym (same_Some w s wants)) fits, fill)

behind_fillable : (ws : List Sort) → list_all can_fill ws ≡ true → list_all can_fill (machine.behind ws) ≡ true
behind_fillable [] h = refl
behind_fillable (w ∷ ws) h = let both = and_parts (can_fill w) (list_all can_fill ws) h in both.1

abbrev one_tree : Tree → Trees
one_tree t = also_tree t no_tree

pub filled_more : (declared : Declared) (b : Bare) (ts : Trees) (s : Sort) (t : Tree) → wanted_sort b ≡ Some s → Fits declared s t → Filled declared b ts
    → Filled declared (advanced b) (join ts (one_tree t))
filled_more declared b ts s t wants fits filled = record {
  leads = λ rest fill.
      subst (λ us. Fill declared (sorts b.construct) (repeats b.construct) us) (sym (join_assoc ts (one_tree t) rest))
      (filled.leads (also_tree t rest) (fill_more declared b.wanted (repeats b.construct) s t rest wants fits fill));
  fillable = behind_fillable b.wanted filled.fillable;
}

spelled_more : (ts : Trees) (t : Tree) → spelled_all ts ++ spelled t ≡ spelled_all (join ts (one_tree t))
spelled_more ts t = ap (λ ps. spelled_all ts ++ ps) (sym (append-nil (spelled t))) ∙ sym (spelled_join ts (one_tree t))

-- one more part in the innermost frame
pub grow : (declared : Declared) (head : List Piece) (b : Bare) (gs : List Bare) (ps : List Piece) (s : Sort) (t : Tree) → wanted_sort b ≡ Some s
    → Fits declared s t → Stack declared head b gs ps → Stack declared head (advanced b) gs (ps ++ spelled t)
grow declared head b [] ps s t wants fits st =
    let place : sort.Item ≡ s = same_Some sort.Item s (ap wanted_sort (sym st.is) ∙ wants) in
    absurd (no_item_fits declared t (subst (λ x. Fits declared x t) (sym place) fits))
grow declared head b (g ∷ []) ps s t wants fits st =
    let front : List Piece = word (keyword b.construct) ∷ sign token.OpenParen ∷ [] in
    let notes : List Piece = flat_map spelled_note st.notes in
    record {
      under = st.under;
      bottom = st.bottom;
      one = st.one;
      notes = st.notes;
      matched = st.matched;
      parts = join st.parts (one_tree t);
      filled = filled_more declared b st.parts s t wants fits st.filled;
      fresh = λ h. absurd (never h);
      spelled = ap (λ qs. qs ++ spelled t) st.spelled
          ∙ (append_assoc st.under (front ++ (notes ++ spelled_all st.parts)) (spelled t)
          ∙ (ap (λ qs. st.under ++ (front ++ qs)) (append_assoc notes (spelled_all st.parts) (spelled t))
          ∙ ap (λ qs. st.under ++ (front ++ (notes ++ qs))) (spelled_more st.parts t)));
    }
grow declared head b (g ∷ h ∷ gs) ps s t wants fits st =
    let front : List Piece = word (keyword b.construct) ∷ sign token.OpenParen ∷ [] in
    record {
      under = st.under;
      below = st.below;
      place = st.place;
      wants = st.wants;
      one = st.one;
      parts = join st.parts (one_tree t);
      filled = filled_more declared b st.parts s t wants fits st.filled;
      spelled = ap (λ qs. qs ++ spelled t) st.spelled
          ∙ (append_assoc st.under (front ++ spelled_all st.parts) (spelled t)
          ∙ ap (λ qs. st.under ++ (front ++ qs)) (spelled_more st.parts t));
    }

-- a frame that has all its parts
pub whole : (declared : Declared) (b : Bare) (ts : Trees) → b.wanted ≡ [] → Filled declared b ts → Fill declared (sorts b.construct) (repeats b.construct) ts
whole declared b ts none filled =
    subst (λ us. Fill declared (sorts b.construct) (repeats b.construct) us) (join_none ts)
    (filled.leads no_tree (subst (λ ws. Fill declared ws (repeats b.construct) no_tree) (sym none) tt))

-- a new frame
sorts_fillable : (c : Construct) → list_all can_fill (sorts c) ≡ true
sorts_fillable construct.Ontology = refl
sorts_fillable construct.Declaration = refl
sorts_fillable (construct.Entity k) = refl
sorts_fillable construct.AnnotationProperty = refl
sorts_fillable construct.SubClassOf = refl
sorts_fillable construct.EquivalentClasses = refl
sorts_fillable construct.DisjointClasses = refl
sorts_fillable construct.SubObjectPropertyOf = refl
sorts_fillable construct.EquivalentObjectProperties = refl
sorts_fillable construct.ObjectPropertyDomain = refl
sorts_fillable construct.ObjectPropertyRange = refl
sorts_fillable construct.InverseObjectProperties = refl
sorts_fillable construct.SymmetricObjectProperty = refl
sorts_fillable construct.TransitiveObjectProperty = refl
sorts_fillable construct.SameIndividual = refl
sorts_fillable construct.DifferentIndividuals = refl
sorts_fillable construct.ClassAssertion = refl
sorts_fillable construct.ObjectPropertyAssertion = refl
sorts_fillable construct.NegativeObjectPropertyAssertion = refl
sorts_fillable construct.ObjectIntersectionOf = refl
sorts_fillable construct.ObjectUnionOf = refl
sorts_fillable construct.ObjectComplementOf = refl
sorts_fillable construct.ObjectSomeValuesFrom = refl
sorts_fillable construct.ObjectAllValuesFrom = refl
sorts_fillable construct.ObjectHasValue = refl
sorts_fillable construct.ObjectInverseOf = refl

abbrev pub new_bare : Construct → Bare
new_bare c = record { construct = c; fresh = true; wanted = sorts c }

pub filled_new : (declared : Declared) (c : Construct) → Filled declared (new_bare c) no_tree
filled_new declared c = record { leads = λ rest fill. fill; fillable = sorts_fillable c }

-- what may stand above a stack: an item on the ontology's frame, a part on another
abbrev pub MayOpen : Bare → List Bare → Construct → Type 0
MayOpen b [] c = IsOneOf item_constructs c
MayOpen b (g ∷ gs) c = (s : Sort) × (wanted_sort b ≡ Some s) × IsOneOf (constructs_of s) c

pub opened : (declared : Declared) (head : List Piece) (b : Bare) (gs : List Bare) (ps : List Piece) (c : Construct) → MayOpen b gs c
    → Stack declared head b gs ps → Stack declared head (new_bare c) (b ∷ gs) (ps ++ word (keyword c) ∷ sign token.OpenParen ∷ [])
opened declared head b [] ps c may st = record {
  under = ps;
  bottom = st;
  one = may;
  notes = [];
  matched = tt;
  parts = no_tree;
  filled = filled_new declared c;
  fresh = λ h. refl;
  spelled = refl;
}
opened declared head b (g ∷ gs) ps c may st = record {
  under = ps;
  below = st;
  place = may.0;
  wants = may.1;
  one = may.2;
  parts = no_tree;
  filled = filled_new declared c;
  spelled = refl;
}

-- an annotation may stand next: on the ontology's frame, or in front of the parts of a declaration or an axiom
abbrev pub MayNote : Bare → List Bare → List ℕ → Type 0
MayNote b [] text = Rattle.owl_reader.specs.Grammar.is_annotation text ≡ true
MayNote b (g ∷ []) text = (b.fresh ≡ true) × (text ≡ codes "Annotation")
MayNote b (g ∷ h ∷ gs) text = ⊥

flat_more : {X : Type 0} (f : X → List Piece) (xs : List X) (x : X) → flat_map f xs ++ f x ≡ flat_map f (xs ++ x ∷ [])
flat_more f [] x = sym (append-nil (f x))
flat_more f (y ∷ ys) x = append_assoc (f y) (flat_map f ys) (f x) ∙ ap (λ ps. f y ++ ps) (flat_more f ys x)

all_more : {X : Type 0} (P : X → Type 0) (xs : List X) (x : X) → AllByRecursion P xs → P x → AllByRecursion P (xs ++ x ∷ [])
all_more P [] x all one = (one, tt)
all_more P (y ∷ ys) x all one = (all.0, all_more P ys x all.1 one)

-- one more item
pub bottom_more : (declared : Declared) (head : List Piece) (b : Bare) (ps : List Piece) (item : Item) → IsItem declared item → Bottom declared head b ps
    → Bottom declared head b (ps ++ spelled_item item)
bottom_more declared head b ps item is st = record {
  is = st.is;
  items = st.items ++ item ∷ [];
  all = all_more (IsItem declared) st.items item st.all is;
  spelled = ap (λ qs. qs ++ spelled_item item) st.spelled
      ∙ (append_assoc head (flat_map spelled_item st.items) (spelled_item item) ∙ ap (λ qs. head ++ qs) (flat_more spelled_item st.items item));
}

-- one more annotation
pub noted : (declared : Declared) (head : List Piece) (b : Bare) (gs : List Bare) (ps : List Piece) (text : List ℕ) (inside : List Piece) → MayNote b gs text
    → AreMatched inside → Stack declared head b gs ps
    → Stack declared head b gs (ps ++ between text inside)
noted declared head b [] ps text inside may match st = bottom_more declared head b ps (Note text inside) (may, match) st
noted declared head b (g ∷ []) ps text inside may match st =
    let front : List Piece = word (keyword b.construct) ∷ sign token.OpenParen ∷ [] in
    let notes : List Piece = flat_map spelled_note st.notes in
    let empty : st.parts ≡ no_tree = st.fresh may.0 in
    let none : notes ++ spelled_all st.parts ≡ notes = ap (λ us. notes ++ spelled_all us) empty ∙ append-nil notes in
    let more : List (List Piece) = st.notes ++ inside ∷ [] in
    record {
      under = st.under;
      bottom = st.bottom;
      one = st.one;
      notes = more;
      matched = all_more AreMatched st.notes inside st.matched match;
      parts = st.parts;
      filled = st.filled;
      fresh = st.fresh;
      spelled = (λ i. st.spelled i ++ between (may.1 i) inside)
          ∙ (append_assoc st.under (front ++ (notes ++ spelled_all st.parts)) (spelled_note inside)
          ∙ (ap (λ qs. st.under ++ (front ++ (qs ++ spelled_note inside))) none
          ∙ (ap (λ qs. st.under ++ (front ++ qs)) (flat_more spelled_note st.notes inside)
          ∙ (ap (λ qs. st.under ++ (front ++ qs)) (sym (append-nil (flat_map spelled_note more)))
          ∙ ap (λ us. st.under ++ (front ++ (flat_map spelled_note more ++ spelled_all us))) (sym empty)))));
    }
noted declared head b (g ∷ h ∷ gs) ps text inside may match st = absurd may
