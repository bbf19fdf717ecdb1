-- What names and keywords are to the reading.
use Rattle.std.proofs.Common.{◌≡◌, ℕ, ◌+◌, Bool, true, false, cond, not, ◌&&◌, ◌||◌, eqb, List, [], ◌∷◌, ◌++◌, length, Option, Some, None, refl, sym, ap, subst, ◌∙◌, arith}
use Rattle.std.specs.Prelude.{codes, unwrap_or}
use Rattle.std.specs.List.{list_any, list_all}
use Rattle.std.proofs.Math.Seq.{take-append_seam, drop-append-add}
use Rattle.std.proofs.lemmas.Bool.{and_parts, or_parts, eqb-true}
use Rattle.std.proofs.lemmas.Option.{same_Some}
use Rattle.owl_reader.specs.declared.kinds.Construct.{Construct}
use Rattle.owl_reader.specs.declared.kinds.Construct.TheVariants as construct
use Rattle.owl_reader.specs.declared.kinds.EntityKind.TheVariants as kind
use Rattle.owl_reader.specs.declared.kinds.Sort.{Sort}
use Rattle.owl_reader.specs.declared.kinds.Sort.TheVariants as sort
use Rattle.owl_reader.specs.declared.kinds.Makes.{Makes}
use Rattle.owl_reader.specs.declared.kinds.Makes.TheVariants as makes
use Rattle.owl_reader.specs.declared.stand.Stand.{Stand}
use Rattle.owl_reader.specs.declared.stand.Stand.TheVariants as stand
use Rattle.owl_reader.specs.Grammar.{same_bytes, is_among, keyword, construct_among, item_constructs, makes_of, is_annotation}
use Rattle.owl_reader.specs.Names.{colon_at, Declared, iri_of, is_top_property, is_bottom_property}
use Rattle.owl_reader.specs.Reading.{State}
use Rattle.owl_reader.specs.Reading as machine
use Rattle.owl_grammar.specs.Files.{Name, is_name, is_prefix, is_in_profile, is_in_profile_with, full_iri, constructs_of}

-- Bytes

pub same_bytes-true : (xs ys : List ℕ) → same_bytes xs ys ≡ true → xs ≡ ys
same_bytes-true [] [] h = refl
same_bytes-true [] (y ∷ ys) h = cc
same_bytes-true (x ∷ xs) [] h = cc
same_bytes-true (x ∷ xs) (y ∷ ys) h =
    let both = and_parts (eqb x y) (same_bytes xs ys) h in
    λ i. eqb-true x y both.0 i ∷ same_bytes-true xs ys both.1 i

pub not_true : (b : Bool) → not b ≡ true → b ≡ false
not_true true h = cc
not_true false h = refl

-- Names

abbrev pub has_colon : List ℕ → Bool
has_colon text = list_any (λ b. eqb b 58) text

colon_behind : (n : ℕ) (p rest : List ℕ) → has_colon p ≡ false → colon_at n (p ++ 58 ∷ rest) ≡ Some (n + length p)
colon_behind n [] rest h = ap Some (let e : n ≡ n + 0 = omega arith in e)
colon_behind n (b ∷ bs) rest h =
    let both = or_parts (eqb b 58) (has_colon bs) h in
    ap (λ t. cond t (Some n) (colon_at (n + 1) (bs ++ 58 ∷ rest))) both.0
    ∙ (colon_behind (n + 1) bs rest both.1 ∙ ap Some (let e : n + 1 + length bs ≡ n + length (b ∷ bs) = omega arith in e))

pub colon_of : (p rest : List ℕ) → has_colon p ≡ false → colon_at 0 (p ++ 58 ∷ rest) ≡ Some (length p)
colon_of p rest h = colon_behind 0 p rest h ∙ ap Some (let e : 0 + length p ≡ length p = omega arith in e)

-- a word with a colon is read as a name
pub named_word : (s : State) (p rest : List ℕ) → has_colon p ≡ false
    → machine.word_by (colon_at 0 (p ++ 58 ∷ rest)) s (p ++ 58 ∷ rest) ≡ machine.name s p rest
named_word s p rest h =
    ap (λ o. machine.word_by o s (p ++ 58 ∷ rest)) (colon_of p rest h)
    ∙ (λ i. machine.name s (take-append_seam p (58 ∷ rest) i) (drop-append-add p (58 ∷ rest) 1 i))

-- what is known of a name whose prefix is declared
pub record NameFacts (declared : Declared) (n : Name) : Type 0 where
  pub no_colon : has_colon n.prefix ≡ false
  pub no_blank : same_bytes n.prefix (codes "_") ≡ false
  pub front : List ℕ
  pub found : iri_of declared n.prefix ≡ Some front
  pub no_top : is_top_property (front ++ n.local) ≡ false
  pub no_bottom : is_bottom_property (front ++ n.local) ≡ false
  pub full : full_iri declared n ≡ front ++ n.local

pub profile_parts : (iri : List ℕ) → is_in_profile iri ≡ true → (is_top_property iri ≡ false) × (is_bottom_property iri ≡ false)
profile_parts iri h = or_parts (is_top_property iri) (is_bottom_property iri) (not_true (is_top_property iri || is_bottom_property iri) h)

pub prefix_parts : (p : List ℕ) → is_prefix p ≡ true → (has_colon p ≡ false) × (same_bytes p (codes "_") ≡ false)
prefix_parts p h = or_parts (has_colon p) (same_bytes p (codes "_")) (not_true (has_colon p || same_bytes p (codes "_")) h)

pub name_facts : (declared : Declared) (n : Name) → is_name declared n ≡ true → NameFacts declared n
name_facts declared n h =
    let both = and_parts (is_prefix n.prefix) (is_in_profile_with (iri_of declared n.prefix) n.local false) h in
    by (iri_of declared n.prefix) refl both.0 both.1
  where
    by : (o : Option (List ℕ)) → iri_of declared n.prefix ≡ o → is_prefix n.prefix ≡ true → is_in_profile_with o n.local false ≡ true → NameFacts declared n
    by None found plain fits = cc
    by (Some front) found plain fits =
        let p = prefix_parts n.prefix plain in
        let q = profile_parts (front ++ n.local) fits in
        record {
          no_colon = p.0;
          no_blank = p.1;
          front = front;
          found = found;
          no_top = q.0;
          no_bottom = q.1;
          full = ap (λ o. unwrap_or o [] ++ n.local) found;
        }

-- Keywords

pub keyword_has_no_colon : (c : Construct) → colon_at 0 (keyword c) ≡ None
keyword_has_no_colon construct.Ontology = refl
keyword_has_no_colon construct.Declaration = refl
keyword_has_no_colon (construct.Entity kind.Class) = refl
keyword_has_no_colon (construct.Entity kind.Property) = refl
keyword_has_no_colon (construct.Entity kind.Individual) = refl
keyword_has_no_colon construct.AnnotationProperty = refl
keyword_has_no_colon construct.SubClassOf = refl
keyword_has_no_colon construct.EquivalentClasses = refl
keyword_has_no_colon construct.DisjointClasses = refl
keyword_has_no_colon construct.SubObjectPropertyOf = refl
keyword_has_no_colon construct.EquivalentObjectProperties = refl
keyword_has_no_colon construct.ObjectPropertyDomain = refl
keyword_has_no_colon construct.ObjectPropertyRange = refl
keyword_has_no_colon construct.InverseObjectProperties = refl
keyword_has_no_colon construct.SymmetricObjectProperty = refl
keyword_has_no_colon construct.TransitiveObjectProperty = refl
keyword_has_no_colon construct.SameIndividual = refl
keyword_has_no_colon construct.DifferentIndividuals = refl
keyword_has_no_colon construct.ClassAssertion = refl
keyword_has_no_colon construct.ObjectPropertyAssertion = refl
keyword_has_no_colon construct.NegativeObjectPropertyAssertion = refl
keyword_has_no_colon construct.ObjectIntersectionOf = refl
keyword_has_no_colon construct.ObjectUnionOf = refl
keyword_has_no_colon construct.ObjectComplementOf = refl
keyword_has_no_colon construct.ObjectSomeValuesFrom = refl
keyword_has_no_colon construct.ObjectAllValuesFrom = refl
keyword_has_no_colon construct.ObjectHasValue = refl
keyword_has_no_colon construct.ObjectInverseOf = refl

-- what is true of each of some constructs is true of the one that a keyword names
pub of_each : (P : Construct → Bool) (cs : List Construct) (text : List ℕ) (c : Construct) → construct_among cs text ≡ Some c → list_all P cs ≡ true
    → P c ≡ true
of_each P [] text c h all = cc
of_each P (d ∷ ds) text c h all =
    let both = and_parts (P d) (list_all P ds) all in
    by (same_bytes text (keyword d)) h both.0 (λ same. of_each P ds text c same both.1)
  where
    by : (b : Bool) → cond b (Some d) (construct_among ds text) ≡ Some c → P d ≡ true → (construct_among ds text ≡ Some c → P c ≡ true) → P c ≡ true
    by true same here later = subst (λ x. P x ≡ true) (same_Some d c same) here
    by false same here later = later same

-- a keyword's construct has that keyword
pub keyword_of : (cs : List Construct) (text : List ℕ) (c : Construct) → construct_among cs text ≡ Some c → text ≡ keyword c
keyword_of [] text c h = cc
keyword_of (d ∷ ds) text c h = by (same_bytes text (keyword d)) refl h (λ same. keyword_of ds text c same)
  where
    by : (b : Bool) → same_bytes text (keyword d) ≡ b → cond b (Some d) (construct_among ds text) ≡ Some c
        → (construct_among ds text ≡ Some c → text ≡ keyword c) → text ≡ keyword c
    by true is same later = same_bytes-true text (keyword d) is ∙ ap keyword (same_Some d c same)
    by false is same later = later same

abbrev is_no_annotation : Construct → Bool
is_no_annotation c = not (same_bytes (keyword c) (codes "Annotation"))

abbrev pub makes_a_part : Makes → Bool
makes_a_part makes.Class = true
makes_a_part makes.Property = true
makes_a_part makes.Declared = true
makes_a_part _ = false

abbrev pub is_within : Stand → Bool
is_within stand.Within = true
is_within _ = false

pub within_is : (s : Stand) → is_within s ≡ true → s ≡ stand.Within
within_is stand.Within h = refl
within_is stand.Lines h = cc
within_is stand.PrefixOpening h = cc
within_is stand.PrefixName h = cc
within_is stand.PrefixEquals h = cc
within_is stand.PrefixIri h = cc
within_is stand.PrefixClose h = cc
within_is (stand.Opening c) h = cc
within_is (stand.Heading n) h = cc
within_is stand.AnnotationOpening h = cc
within_is (stand.Passing n) h = cc
within_is stand.Closed h = cc

-- what is true of the constructs that are parts
abbrev is_part : Construct → Bool
is_part c = is_no_annotation c && (is_within (machine.begun c) && makes_a_part (makes_of c))

parts_of : (s : Sort) → list_all is_part (constructs_of s) ≡ true
parts_of sort.Item = refl
parts_of sort.Class = refl
parts_of sort.Property = refl
parts_of sort.Individual = refl
parts_of sort.Declared = refl
parts_of (sort.Name k) = refl
parts_of sort.PropertyName = refl
parts_of sort.AnnotationName = refl

pub record PartFacts (c : Construct) : Type 0 where
  pub no_annotation : same_bytes (keyword c) (codes "Annotation") ≡ false
  pub begun : machine.begun c ≡ stand.Within
  pub makes : makes_a_part (makes_of c) ≡ true

pub part_facts : (s : Sort) (c : Construct) (text : List ℕ) → construct_among (constructs_of s) text ≡ Some c → PartFacts c
part_facts s c text h =
    let all = of_each is_part (constructs_of s) text c h (parts_of s) in
    let one = and_parts (is_no_annotation c) (is_within (machine.begun c) && makes_a_part (makes_of c)) all in
    let two = and_parts (is_within (machine.begun c)) (makes_a_part (makes_of c)) one.1 in
    record {
      no_annotation = not_true (same_bytes (keyword c) (codes "Annotation")) one.0;
      begun = within_is (machine.begun c) two.0;
      makes = two.1;
    }

abbrev pub makes_axioms : Makes → Bool
makes_axioms makes.Axioms = true
makes_axioms _ = false

pub axioms_is : (m : Makes) → makes_axioms m ≡ true → m ≡ makes.Axioms
axioms_is makes.Axioms h = refl
axioms_is makes.Class h = cc
axioms_is makes.Property h = cc
axioms_is makes.Declared h = cc
axioms_is makes.End h = cc

-- what is true of the constructs that are items
abbrev is_item : Construct → Bool
is_item c = not (is_annotation (keyword c)) && (is_within (machine.begun c) && makes_axioms (makes_of c))

pub record ItemFacts (c : Construct) : Type 0 where
  pub no_annotation : is_annotation (keyword c) ≡ false
  pub begun : machine.begun c ≡ stand.Within
  pub makes : makes_of c ≡ makes.Axioms

items_are : list_all is_item item_constructs ≡ true
items_are = refl

pub item_facts : (c : Construct) (text : List ℕ) → construct_among item_constructs text ≡ Some c → ItemFacts c
item_facts c text h =
    let all = of_each is_item item_constructs text c h items_are in
    let one = and_parts (not (is_annotation (keyword c))) (is_within (machine.begun c) && makes_axioms (makes_of c)) all in
    let two = and_parts (is_within (machine.begun c)) (makes_axioms (makes_of c)) one.1 in
    record {
      no_annotation = not_true (is_annotation (keyword c)) one.0;
      begun = within_is (machine.begun c) two.0;
      makes = axioms_is (makes_of c) two.1;
    }

-- the keywords of annotations

abbrev pub is_missing : Option ℕ → Bool
is_missing None = true
is_missing (Some n) = false

missing_is : (o : Option ℕ) → is_missing o ≡ true → o ≡ None
missing_is None h = refl
missing_is (Some n) h = cc

among_these : (P : List ℕ → Bool) (texts : List (List ℕ)) (text : List ℕ) → is_among texts text ≡ true → list_all P texts ≡ true → P text ≡ true
among_these P [] text h all = cc
among_these P (t ∷ ts) text h all =
    let both = and_parts (P t) (list_all P ts) all in
    by (same_bytes text t) refl h both.0 (λ later. among_these P ts text later both.1)
  where
    by : (b : Bool) → same_bytes text t ≡ b → (b || is_among ts text) ≡ true → P t ≡ true → (is_among ts text ≡ true → P text ≡ true) → P text ≡ true
    by true is h here later = subst (λ x. P x ≡ true) (sym (same_bytes-true text t is)) here
    by false is h here later = later h

abbrev is_colonless : List ℕ → Bool
is_colonless text = is_missing (colon_at 0 text)

pub annotation_has_no_colon : (text : List ℕ) → is_annotation text ≡ true → colon_at 0 text ≡ None
annotation_has_no_colon text h =
    missing_is (colon_at 0 text) (among_these is_colonless (codes "Annotation" ∷ codes "AnnotationAssertion" ∷ codes "SubAnnotationPropertyOf"
    ∷ codes "AnnotationPropertyDomain" ∷ codes "AnnotationPropertyRange" ∷ []) text h refl)
