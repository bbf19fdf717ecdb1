-- The entities of the file: those of the live words, each once and in order, and none besides.
use Rattle.std.proofs.Common.{◌≡◌, ℕ, ◌+◌, Bool, true, false, not, cond, if◌then◌else◌, ◌&&◌, ◌||◌, List, [], ◌∷◌, ◌++◌, map, Option, Some, unwrap_or, refl, sym, ap, ◌∙◌, codes, append_assoc, append-nil}
use Rattle.std.specs.Prelude.{find, slice_get, option_map}
use Rattle.std.specs.Option.{option_and_then, option_map_or}
use Rattle.std.specs.List.{flat_map, list_all, list_any, position_or_len, AllByRecursion}
use Rattle.std.proofs.lemmas.Bool.{and_from}
use Rattle.wiki_base.specs.declared.numbers.WordId.{WordId}
use Rattle.wiki_base.proofs.BoolLaws.{and_first, and_second}
use Rattle.wiki_base.proofs.ListLaws.{all_append}
use Rattle.logic_terms.specs.declared.expressions.Role.{Role}
use Rattle.logic_terms.specs.Concept.{Concept, Concepts, Everything, Atomic, ComplementOf, IntersectionOf, UnionOf, SomeValuesFrom, AllValuesFrom, HasValue, no_concept, also_concept, Claim, SubPropertyOf, PropertyAssertion, NegativePropertyAssertion, TransitiveProperty}
use Rattle.logic_terms.specs.Concept as claim
use Rattle.lexicon.specs.declared.words.Word.{Word}
use Rattle.lexicon.specs.Kinds.{canonical_place}
use Rattle.lexicon.specs.Words.{has_number, canonical_form_of}
use Rattle.owl_reader.specs.declared.kinds.Construct.TheVariants as construct
use Rattle.owl_reader.specs.declared.kinds.Entity.{Entity}
use Rattle.owl_reader.specs.declared.kinds.EntityKind.{EntityKind}
use Rattle.owl_reader.specs.declared.kinds.EntityKind.TheVariants as kind
use Rattle.owl_reader.specs.declared.kinds.Sort.TheVariants as sort
use Rattle.owl_reader.specs.Grammar.{same_bytes}
use Rattle.owl_reader.specs.Names.{is_thing, is_nothing, same_kind, same_entity, place_of}
use Rattle.owl_grammar.specs.Files.{Built, Item, entity, named_entity, mentioned, mentioned_in, mentioned_by, each_once}
use Rattle.owl_grammar.proofs.Numbers.{same_bytes-refl, once_append}
use Rattle.owl_file.specs.Written.{canonical_text}
use Rattle.owl_file.specs.ReadBack.{kind_of, entity_of, is_live_as, class_fits, classes_fit, names_fit, claim_fits, claims_fit}
use Rattle.owl_file.proofs.SpellingLemmas.{one, word_tree, role_tree, class_tree, class_trees, claim_item, word_item}
use Rattle.owl_file.proofs.FitLemmas.{prefixes, local_iri, thing_iri}
use Rattle.owl_file.proofs.SayingLemmas.{word_iri}

-- ---- words that are apart

-- no canonical form comes twice
abbrev pub Apart : List Word → Type 0
Apart [] = Unit {0}
Apart (x ∷ xs) = AllByRecursion (λ y. same_bytes (canonical_text y) (canonical_text x) ≡ false) xs × Apart xs

-- the kind and the canonical form of a word that is found
abbrev is_as : EntityKind → Option Word → Bool
is_as k found = option_map_or (λ forms. same_kind (kind_of forms.kind) k) (option_map (λ word. word.forms) found) false

abbrev pub found_text : Option Word → List ℕ
found_text found = unwrap_or (option_and_then (λ forms. slice_get forms.texts (canonical_place forms.kind)) (option_map (λ word. word.forms) found)) []

module _ (k : EntityKind) (a : WordId) where
  -- what is true of each word's canonical form, is true of that of a live one
  chosen : (P : List ℕ → Type 0) (xs : List Word) → AllByRecursion (λ y. P (canonical_text y)) xs → is_live_as xs k a ≡ true
      → P (unwrap_or (canonical_form_of xs a) [])
  chosen P [] all h = cc
  chosen P (x ∷ xs) all h = by (has_number a x) h (chosen P xs all.1)
    where
      by : (b : Bool) → is_as k (cond b (Some x) (find (has_number a) xs)) ≡ true
          → (is_as k (find (has_number a) xs) ≡ true → P (found_text (find (has_number a) xs)))
          → P (found_text (cond b (Some x) (find (has_number a) xs)))
      by true h later = all.0
      by false h later = later h

  same_kind_turned : (j l : EntityKind) → same_kind j l ≡ true → same_kind l j ≡ true
  same_kind_turned kind.Class kind.Class h = refl
  same_kind_turned kind.Property kind.Property h = refl
  same_kind_turned kind.Individual kind.Individual h = refl
  same_kind_turned kind.Class kind.Property h = h
  same_kind_turned kind.Class kind.Individual h = h
  same_kind_turned kind.Property kind.Class h = h
  same_kind_turned kind.Property kind.Individual h = h
  same_kind_turned kind.Individual kind.Class h = h
  same_kind_turned kind.Individual kind.Property h = h

  -- a word's entity
  same_here : (x : Word) → same_kind (kind_of x.forms.kind) k ≡ true
      → same_entity (entity k (codes "urn:acewiki:" ++ canonical_text x)) (entity_of x) ≡ true
  same_here x h =
      and_from (same_kind k (kind_of x.forms.kind)) (same_bytes (canonical_text x) (canonical_text x)) (same_kind_turned (kind_of x.forms.kind) k h)
      (same_bytes-refl (canonical_text x))

  -- and another's
  other_here : (x : Word) (text : List ℕ) → same_bytes text (canonical_text x) ≡ false
      → same_entity (entity k (codes "urn:acewiki:" ++ text)) (entity_of x) ≡ false
  other_here x text h = ap (λ b. same_kind k (kind_of x.forms.kind) && b) h ∙ none (same_kind k (kind_of x.forms.kind))
    where
      none : (b : Bool) → (b && false) ≡ false
      none true = refl
      none false = refl

  -- a live word's entity has the word's place
  pub place_found : (live : List Word) → Apart live → is_live_as live k a ≡ true
      → place_of (map entity_of live) (entity k (word_iri live a)) ≡ position_or_len (has_number a) live
  place_found [] apart h = cc
  place_found (x ∷ xs) apart h = by (has_number a x) h (place_found xs apart.1)
    where
      by : (b : Bool) → is_as k (cond b (Some x) (find (has_number a) xs)) ≡ true
          → (is_as k (find (has_number a) xs) ≡ true
          → place_of (map entity_of xs) (entity k (codes "urn:acewiki:" ++ found_text (find (has_number a) xs))) ≡ position_or_len (has_number a) xs)
          → place_of (entity_of x ∷ map entity_of xs) (entity k (codes "urn:acewiki:" ++ found_text (cond b (Some x) (find (has_number a) xs))))
          ≡ cond (not b) (1 + position_or_len (has_number a) xs) 0
      by true h later =
          ap (λ (b : Bool). if b then 0 else 1 + place_of (map entity_of xs) (entity k (codes "urn:acewiki:" ++ canonical_text x))) (same_here x h)
      by false h later =
          let text : List ℕ = found_text (find (has_number a) xs) in
          ap (λ (b : Bool). if b then 0 else 1 + place_of (map entity_of xs) (entity k (codes "urn:acewiki:" ++ text)))
          (other_here x text (chosen (λ t. same_bytes t (canonical_text x) ≡ false) xs apart.0 h))
          ∙ ap (λ n. 1 + n) (later h)

  or_true : (b : Bool) → (b || true) ≡ true
  or_true true = refl
  or_true false = refl

  -- it is among the words' entities
  pub among_words : (live : List Word) → is_live_as live k a ≡ true → list_any (same_entity (entity k (word_iri live a))) (map entity_of live) ≡ true
  among_words [] h = cc
  among_words (x ∷ xs) h = by (has_number a x) h (among_words xs)
    where
      by : (b : Bool) → is_as k (cond b (Some x) (find (has_number a) xs)) ≡ true
          → (is_as k (find (has_number a) xs) ≡ true
          → list_any (same_entity (entity k (codes "urn:acewiki:" ++ found_text (find (has_number a) xs)))) (map entity_of xs) ≡ true)
          → list_any (same_entity (entity k (codes "urn:acewiki:" ++ found_text (cond b (Some x) (find (has_number a) xs))))) (entity_of x ∷ map entity_of xs)
          ≡ true
      by true h later =
          ap (λ (b : Bool). b || list_any (same_entity (entity k (codes "urn:acewiki:" ++ canonical_text x))) (map entity_of xs)) (same_here x h)
      by false h later =
          let e : Entity = entity k (codes "urn:acewiki:" ++ found_text (find (has_number a) xs)) in
          ap (λ (b : Bool). same_entity e (entity_of x) || b) (later h) ∙ or_true (same_entity e (entity_of x))

-- ---- each once

any_push : {X : Type 0} (p : X → Bool) (xs : List X) (x : X) → list_any p xs ≡ false → p x ≡ false → list_any p (xs ++ x ∷ []) ≡ false
any_push p [] x h k = ap (λ b. b || false) k
any_push p (y ∷ ys) x h k = by (p y) h (any_push p ys x)
  where
    by : (b : Bool) → (b || list_any p ys) ≡ false → (list_any p ys ≡ false → p x ≡ false → list_any p (ys ++ x ∷ []) ≡ false)
        → (b || list_any p (ys ++ x ∷ [])) ≡ false
    by true h later = cc
    by false h later = later h k

abbrev AreNew : List Entity → List Word → Type 0
AreNew es xs = AllByRecursion (λ w. list_any (same_entity (entity_of w)) es ≡ false) xs

still_new : (es : List Entity) (x : Word) (ys : List Word) → AllByRecursion (λ y. same_bytes (canonical_text y) (canonical_text x) ≡ false) ys
    → AreNew es ys → AreNew (es ++ entity_of x ∷ []) ys
still_new es x [] apart new = tt
still_new es x (y ∷ ys) apart new = (
  any_push (same_entity (entity_of y)) es (entity_of x) new.0 (other_here (kind_of y.forms.kind) y.id x (canonical_text y) apart.0),
  still_new es x ys apart.1 new.1,
)

words_once : (es : List Entity) (xs : List Word) → Apart xs → AreNew es xs → each_once es (map entity_of xs) ≡ es ++ map entity_of xs
words_once es [] apart new = sym (append-nil es)
words_once es (x ∷ xs) apart new =
    ap (λ (b : Bool). each_once (if b then es else es ++ entity_of x ∷ []) (map entity_of xs)) new.0
    ∙ words_once (es ++ entity_of x ∷ []) xs apart.1 (still_new es x xs apart.0 new.1)
    ∙ append_assoc es (entity_of x ∷ []) (map entity_of xs)

none_yet : (xs : List Word) → AreNew [] xs
none_yet [] = tt
none_yet (x ∷ xs) = (refl, none_yet xs)

-- entities that came already
none_new : (es ms : List Entity) → list_all (λ e. list_any (same_entity e) es) ms ≡ true → each_once es ms ≡ es
none_new es [] h = refl
none_new es (m ∷ ms) h =
    ap (λ (b : Bool). each_once (if b then es else es ++ m ∷ []) ms)
    (and_first (list_any (same_entity m) es) (list_all (λ e. list_any (same_entity e) es) ms) h)
    ∙ none_new es ms (and_second (list_any (same_entity m) es) (list_all (λ e. list_any (same_entity e) es) ms) h)

-- ---- what is named

class_mentioned : (text : List ℕ) → named_entity sort.Class (codes "urn:acewiki:" ++ text) ≡ entity kind.Class (codes "urn:acewiki:" ++ text) ∷ []
unfolding is_thing is_nothing
class_mentioned text = refl

thing_mentioned : named_entity sort.Class (codes "http://www.w3.org/2002/07/owl#Thing") ≡ []
unfolding is_thing is_nothing
thing_mentioned = refl

module _ (live : List Word) (there : Entity → Bool)
    (known : (k : EntityKind) (a : WordId) → is_live_as live k a ≡ true → there (entity k (word_iri live a)) ≡ true)
  where
    abbrev form : WordId → Option (List ℕ)
    form = canonical_form_of live

    abbrev AreThere : List Entity → Type 0
    AreThere es = list_all there es ≡ true

    entity_there : (k : EntityKind) (a : WordId) → is_live_as live k a ≡ true → AreThere (entity k (word_iri live a) ∷ [])
    entity_there k a h = and_from (there (entity k (word_iri live a))) true (known k a h) refl

    name_there : (a : WordId) → is_live_as live kind.Individual a ≡ true → AreThere (mentioned prefixes sort.Individual (word_tree form a))
    name_there a h =
        ap (λ iri. list_all there (named_entity sort.Individual iri)) (local_iri (unwrap_or (canonical_form_of live a) [])) ∙ entity_there kind.Individual a h

    property_there : (a : WordId) → is_live_as live kind.Property a ≡ true → AreThere (mentioned prefixes sort.Property (word_tree form a))
    property_there a h =
        ap (λ iri. list_all there (named_entity sort.Property iri)) (local_iri (unwrap_or (canonical_form_of live a) [])) ∙ entity_there kind.Property a h

    -- one, two, three trees
    one_there : (es : List Entity) → AreThere es → AreThere (es ++ [])
    one_there es h = all_append there es [] h refl

    two_there : (es fs : List Entity) → AreThere es → AreThere fs → AreThere (es ++ (fs ++ []))
    two_there es fs h k = all_append there es (fs ++ []) h (one_there fs k)

    three_there : (es fs gs : List Entity) → AreThere es → AreThere fs → AreThere gs → AreThere (es ++ (fs ++ (gs ++ [])))
    three_there es fs gs h k l = all_append there es (fs ++ (gs ++ [])) h (two_there fs gs k l)

    role_there : (role : Role) → is_live_as live kind.Property role.id ≡ true → AreThere (mentioned prefixes sort.Property (role_tree form role))
    role_there role h = by role.inverted
      where
        by : (b : Bool)
            → AreThere (mentioned prefixes sort.Property (if b then Built construct.ObjectInverseOf (one (word_tree form role.id)) else word_tree form role.id))
        by true = one_there (mentioned prefixes sort.PropertyName (word_tree form role.id)) (property_there role.id h)
        by false = property_there role.id h

    mutual
      class_there : (c : Concept) → class_fits live c ≡ true → AreThere (mentioned prefixes sort.Class (class_tree form c))
      class_there Everything h = ap (λ iri. list_all there (named_entity sort.Class iri)) thing_iri ∙ ap (list_all there) thing_mentioned
      class_there (Atomic a) h =
          ap (λ iri. list_all there (named_entity sort.Class iri)) (local_iri (unwrap_or (canonical_form_of live a) []))
          ∙ ap (list_all there) (class_mentioned (unwrap_or (canonical_form_of live a) []))
          ∙ entity_there kind.Class a h
      class_there (ComplementOf c) h = one_there (mentioned prefixes sort.Class (class_tree form c)) (class_there c h)
      class_there (IntersectionOf cs) h = members_there cs h
      class_there (UnionOf cs) h = members_there cs h
      class_there (SomeValuesFrom role c) h =
          two_there (mentioned prefixes sort.Property (role_tree form role)) (mentioned prefixes sort.Class (class_tree form c))
          (role_there role (and_first (is_live_as live kind.Property role.id) (class_fits live c) h))
          (class_there c (and_second (is_live_as live kind.Property role.id) (class_fits live c) h))
      class_there (AllValuesFrom role c) h =
          two_there (mentioned prefixes sort.Property (role_tree form role)) (mentioned prefixes sort.Class (class_tree form c))
          (role_there role (and_first (is_live_as live kind.Property role.id) (class_fits live c) h))
          (class_there c (and_second (is_live_as live kind.Property role.id) (class_fits live c) h))
      class_there (HasValue role name) h =
          two_there (mentioned prefixes sort.Property (role_tree form role)) (mentioned prefixes sort.Individual (word_tree form name))
          (role_there role (and_first (is_live_as live kind.Property role.id) (is_live_as live kind.Individual name) h))
          (name_there name (and_second (is_live_as live kind.Property role.id) (is_live_as live kind.Individual name) h))

      members_there : (cs : Concepts) → classes_fit live cs ≡ true
          → AreThere (mentioned_in prefixes (sort.Class ∷ sort.Class ∷ []) (Some sort.Class) (class_trees form cs))
      members_there no_concept h = refl
      members_there (also_concept c no_concept) h =
          one_there (mentioned prefixes sort.Class (class_tree form c)) (class_there c (and_first (class_fits live c) true h))
      members_there (also_concept c (also_concept d cs)) h =
          let more = and_second (class_fits live c) (class_fits live d && classes_fit live cs) h in
          all_append there (mentioned prefixes sort.Class (class_tree form c))
          (mentioned prefixes sort.Class (class_tree form d) ++ mentioned_in prefixes [] (Some sort.Class) (class_trees form cs))
          (class_there c (and_first (class_fits live c) (class_fits live d && classes_fit live cs) h))
          (all_append there (mentioned prefixes sort.Class (class_tree form d)) (mentioned_in prefixes [] (Some sort.Class) (class_trees form cs))
          (class_there d (and_first (class_fits live d) (classes_fit live cs) more))
          (more_there cs (and_second (class_fits live d) (classes_fit live cs) more)))

      more_there : (cs : Concepts) → classes_fit live cs ≡ true → AreThere (mentioned_in prefixes [] (Some sort.Class) (class_trees form cs))
      more_there no_concept h = refl
      more_there (also_concept c cs) h =
          all_append there (mentioned prefixes sort.Class (class_tree form c)) (mentioned_in prefixes [] (Some sort.Class) (class_trees form cs))
          (class_there c (and_first (class_fits live c) (classes_fit live cs) h)) (more_there cs (and_second (class_fits live c) (classes_fit live cs) h))

    names_there : (a b : WordId) → names_fit live a b ≡ true
        → AreThere (mentioned prefixes sort.Individual (word_tree form a) ++ (mentioned prefixes sort.Individual (word_tree form b) ++ []))
    names_there a b h =
        two_there (mentioned prefixes sort.Individual (word_tree form a)) (mentioned prefixes sort.Individual (word_tree form b))
        (name_there a (and_first (is_live_as live kind.Individual a) (is_live_as live kind.Individual b) h))
        (name_there b (and_second (is_live_as live kind.Individual a) (is_live_as live kind.Individual b) h))

    related_there : (r : Role) (a b : WordId) → (is_live_as live kind.Property r.id && names_fit live a b) ≡ true
        → AreThere (mentioned prefixes sort.Property (role_tree form r)
        ++ (mentioned prefixes sort.Individual (word_tree form a) ++ (mentioned prefixes sort.Individual (word_tree form b) ++ [])))
    related_there r a b h =
        all_append there (mentioned prefixes sort.Property (role_tree form r))
        (mentioned prefixes sort.Individual (word_tree form a) ++ (mentioned prefixes sort.Individual (word_tree form b) ++ []))
        (role_there r (and_first (is_live_as live kind.Property r.id) (names_fit live a b) h))
        (names_there a b (and_second (is_live_as live kind.Property r.id) (names_fit live a b) h))

    claim_there : (c : Claim) → claim_fits live c ≡ true → AreThere (mentioned_by prefixes (claim_item form c))
    claim_there (claim.SubClassOf c d) h =
        two_there (mentioned prefixes sort.Class (class_tree form c)) (mentioned prefixes sort.Class (class_tree form d))
        (class_there c (and_first (class_fits live c) (class_fits live d) h)) (class_there d (and_second (class_fits live c) (class_fits live d) h))
    claim_there (SubPropertyOf r s) h =
        two_there (mentioned prefixes sort.Property (role_tree form r)) (mentioned prefixes sort.Property (role_tree form s))
        (role_there r (and_first (is_live_as live kind.Property r.id) (is_live_as live kind.Property s.id) h))
        (role_there s (and_second (is_live_as live kind.Property r.id) (is_live_as live kind.Property s.id) h))
    claim_there (claim.ClassAssertion c name) h =
        two_there (mentioned prefixes sort.Class (class_tree form c)) (mentioned prefixes sort.Individual (word_tree form name))
        (class_there c (and_first (class_fits live c) (is_live_as live kind.Individual name) h))
        (name_there name (and_second (class_fits live c) (is_live_as live kind.Individual name) h))
    claim_there (PropertyAssertion r from to) h = related_there r from to h
    claim_there (NegativePropertyAssertion r from to) h = related_there r from to h
    claim_there (claim.SameIndividual a b) h = names_there a b h
    claim_there (claim.DifferentIndividuals a b) h = names_there a b h
    claim_there (TransitiveProperty a) h = one_there (mentioned prefixes sort.Property (word_tree form a)) (property_there a h)

    claims_there : (claims : List Claim) → claims_fit live claims ≡ true → AreThere (flat_map (mentioned_by prefixes) (map (claim_item form) claims))
    claims_there [] h = refl
    claims_there (c ∷ cs) h =
        all_append there (mentioned_by prefixes (claim_item form c)) (flat_map (mentioned_by prefixes) (map (claim_item form) cs))
        (claim_there c (and_first (claim_fits live c) (claims_fit live cs) h)) (claims_there cs (and_second (claim_fits live c) (claims_fit live cs) h))

-- ---- all entities

-- the words' own declarations come first
words_mentioned : (live : List Word) (items : List Item)
    → flat_map (mentioned_by prefixes) (map word_item live ++ items) ≡ map entity_of live ++ flat_map (mentioned_by prefixes) items
words_mentioned [] items = refl
words_mentioned (w ∷ ws) items = λ i.
    (entity (kind_of w.forms.kind) (local_iri (canonical_text w) i) ∷ []) ++ words_mentioned ws items i

pub all_entities : (live : List Word) (claims : List Claim) → Apart live → claims_fit live claims ≡ true
    → each_once [] (flat_map (mentioned_by prefixes) (map word_item live ++ map (claim_item (canonical_form_of live)) claims)) ≡ map entity_of live
all_entities live claims apart h =
    let all : List Entity = map entity_of live in
    let more : List Entity = flat_map (mentioned_by prefixes) (map (claim_item (canonical_form_of live)) claims) in
    let once : each_once [] all ≡ all = words_once [] live apart (none_yet live) in
    ap (each_once []) (words_mentioned live (map (claim_item (canonical_form_of live)) claims))
    ∙ once_append [] all more
    ∙ ap (λ (es : List Entity). each_once es more) once
    ∙ none_new all more (claims_there live (λ e. list_any (same_entity e) all) (λ k a. among_words k a live) claims h)
