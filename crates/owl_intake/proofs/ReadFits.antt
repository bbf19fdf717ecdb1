-- What a file is read as fits its entities: its axioms are plain, and each name in them is one of its individuals.
use Rattle.std.proofs.Common.{◌≡◌, ◌==◌, ◌&&◌, ◌||◌, ◌+◌, ℕ, Bool, true, false, if◌then◌else◌, List, [], ◌∷◌, ◌++◌, Option, Some, None, Result, Ok, Err, IfOk, refl, sym, ap, subst, ◌∙◌, arith, codes, take, drop, ◌-◌}
use Rattle.std.specs.Prelude.{nat_le}
use Rattle.std.specs.List.{list_any, list_all}
use Rattle.std.proofs.lemmas.Bool.{and_from, eq-eqb}
use Rattle.std.proofs.lemmas.Option.{same_Some}
use Rattle.wiki_base.specs.declared.numbers.WordId.{WordId}
use Rattle.wiki_base.proofs.BoolLaws.{and_first, and_second}
use Rattle.wiki_base.proofs.ListLaws.{all_append, all_weaken}
use Rattle.logic_terms.specs.declared.expressions.Role.{Role}
use Rattle.logic_terms.specs.Concept.{Concept, Everything, Atomic, ComplementOf, Claim}
use Rattle.logic_terms.specs.Interpretation.{is_word}
use Rattle.logic_terms.specs.Complement.{is_wide}
use Rattle.logic_terms.specs.Plain.{is_plain_claim, are_plain}
use Rattle.logic_terms.specs.Same.{inverse}
use Rattle.absorb.specs.Mentioned.{names_in, names_in_claim, is_among, are_over}
use Rattle.owl_tokens.specs.declared.tokens.TokenKind.{TokenKind}
use Rattle.owl_tokens.specs.declared.tokens.TokenKind.TheVariants as token
use Rattle.owl_tokens.specs.Tokens.{Token, Ending, Whole, Cut_off}
use Rattle.owl_reader.specs.declared.faults.OwlFault.{OwlFault}
use Rattle.owl_reader.specs.declared.faults.OwlFault.TheVariants as fault
use Rattle.owl_reader.specs.declared.faults.TheConstants.{MOST_OPEN}
use Rattle.owl_reader.specs.declared.faults.Trouble.{Trouble}
use Rattle.owl_reader.specs.declared.faults.Trouble.TheVariants as trouble
use Rattle.owl_reader.specs.declared.kinds.Construct.{Construct}
use Rattle.owl_reader.specs.declared.kinds.Construct.TheVariants as construct
use Rattle.owl_reader.specs.declared.kinds.Entity.{Entity}
use Rattle.owl_reader.specs.declared.kinds.EntityKind.{EntityKind}
use Rattle.owl_reader.specs.declared.kinds.EntityKind.TheVariants as kind
use Rattle.owl_reader.specs.declared.kinds.Makes.{Makes}
use Rattle.owl_reader.specs.declared.kinds.Makes.TheVariants as makes
use Rattle.owl_reader.specs.declared.kinds.Sort.{Sort}
use Rattle.owl_reader.specs.declared.kinds.Sort.TheVariants as sort
use Rattle.owl_reader.specs.declared.stand.Stand.{Stand}
use Rattle.owl_reader.specs.declared.stand.Stand.TheVariants as stand
use Rattle.owl_reader.specs.Grammar.{same_bytes, item_constructs, class_constructs, property_constructs, declared_constructs, keyword, construct_among, makes_of, is_annotation}
use Rattle.owl_reader.specs.Names.{colon_at, iri_of, is_thing, is_nothing, is_top_property, is_bottom_property, same_kind, same_entity, entered, place_of, word_of}
use Rattle.owl_reader.specs.Claims.{class_by, claims_by, first_role}
use Rattle.owl_reader.specs.Reading.{Frame, State, fresh_state, new_frame, next_sort, with_any, with_class, with_role, with_name, moved, given_to, given, enter, entity, class_named, property_named, individual_named, name_by, top_sort, prefix_named, is_inside, is_prefix_name, name_in_place, name_with, name, begin, keyword_by, may_annotate, keyword_inside, keyword_of_line, is_lines, keyword_word, word_by, word, begun, opened_by, finished, is_nil, closed_top, passed, closed_by, equals_by, heading, iri_by, quoted_by, step, is_closed, ended, carry, reading}
use Rattle.owl_intake.specs.Checked.{is_individual, individuals_from, individuals}
use Rattle.owl_intake.proofs.ClassFits.{fits_class, fits_claim, claims_fit}
use Rattle.owl_intake.proofs.FrameFits.{is_unkept, has_enough, fits_frame, classes_of, names_of, enough_of, new_fits, with_class_fits, with_name_fits, with_role_fits, with_any_fits, class_fits}

-- ---- entities

-- whether a word is an individual's
abbrev pub is_known : List Entity → WordId → Bool
is_known es a = is_among (individuals es) a

-- more entities have all individuals of fewer
known_later : (n : ℕ) (es more : List Entity) (a : WordId) → is_among (individuals_from n es) a ≡ true → is_among (individuals_from n (es ++ more)) a ≡ true
known_later n [] more a h = cc
known_later n (e ∷ es) more a h = by (is_individual e.kind) (known_later (n + 1) es more a) h
  where
    or_later : (p q r : Bool) → (q ≡ true → r ≡ true) → (p || q) ≡ true → (p || r) ≡ true
    or_later true q r later h = refl
    or_later false q r later h = later h

    by : (b : Bool) → (is_among (individuals_from (n + 1) es) a ≡ true → is_among (individuals_from (n + 1) (es ++ more)) a ≡ true)
        → is_among (if b then record { 0 = n } ∷ individuals_from (n + 1) es else individuals_from (n + 1) es) a ≡ true
        → is_among (if b then record { 0 = n } ∷ individuals_from (n + 1) (es ++ more) else individuals_from (n + 1) (es ++ more)) a ≡ true
    by true later h =
        or_later (is_word a (record { 0 = n })) (is_among (individuals_from (n + 1) es) a) (is_among (individuals_from (n + 1) (es ++ more)) a) later h
    by false later h = later h

known_entered : (es : List Entity) (e : Entity) (a : WordId) → is_known es a ≡ true → is_known (entered es e) a ≡ true
known_entered es e a h = by (list_any (same_entity e) es)
  where
    by : (b : Bool) → is_known (if b then es else es ++ e ∷ []) a ≡ true
    by true = h
    by false = known_later 1 es (e ∷ []) a h

-- entities that are one are of one kind
same_kind_individual : (e f : Entity) → is_individual e.kind ≡ true → same_entity e f ≡ true → is_individual f.kind ≡ true
same_kind_individual e f i h = by e.kind f.kind i (and_first (same_kind e.kind f.kind) (same_bytes e.iri f.iri) h)
  where
    by : (k l : EntityKind) → is_individual k ≡ true → same_kind k l ≡ true → is_individual l ≡ true
    by kind.Individual kind.Individual i h = refl
    by kind.Individual kind.Class i h = cc
    by kind.Individual kind.Property i h = cc
    by kind.Class l i h = cc
    by kind.Property l i h = cc

among_here : (b : Bool) (a w : WordId) (rest : List WordId) → b ≡ true → a.0 ≡ w.0 → is_among (if b then w ∷ rest else rest) a ≡ true
among_here true a w rest b e = ap (λ t. t || is_among rest a) (eq-eqb a.0 w.0 e)
among_here false a w rest b e = cc

among_later : (b : Bool) (a w : WordId) (rest : List WordId) → is_among rest a ≡ true → is_among (if b then w ∷ rest else rest) a ≡ true
among_later true a w rest h = ap (λ t. is_word a w || t) h ∙ or_true (is_word a w)
  where
    or_true : (t : Bool) → (t || true) ≡ true
    or_true true = refl
    or_true false = refl
among_later false a w rest h = h

-- an individual has its word among those of the entities, where it is one of them and where it comes behind them
known_there : (n : ℕ) (es : List Entity) (e : Entity) (a : WordId) → is_individual e.kind ≡ true → list_any (same_entity e) es ≡ true
    → a.0 ≡ place_of es e + n → is_among (individuals_from n es) a ≡ true
known_there n [] e a i found is = cc
known_there n (f ∷ fs) e a i found is = by (same_entity e f) refl (known_there (n + 1) fs e a i) found is
  where
    by : (b : Bool) → same_entity e f ≡ b
        → (list_any (same_entity e) fs ≡ true → a.0 ≡ place_of fs e + (n + 1) → is_among (individuals_from (n + 1) fs) a ≡ true)
        → (b || list_any (same_entity e) fs) ≡ true → a.0 ≡ (if b then 0 else 1 + place_of fs e) + n → is_among (individuals_from n (f ∷ fs)) a ≡ true
    by true same later found is =
        let here : a.0 ≡ n = omega (arith, is) in
        among_here (is_individual f.kind) a (record { 0 = n }) (individuals_from (n + 1) fs) (same_kind_individual e f i same) here
    by false same later found is =
        let behind : a.0 ≡ place_of fs e + (n + 1) = omega (arith, is) in
        among_later (is_individual f.kind) a (record { 0 = n }) (individuals_from (n + 1) fs) (later found behind)

known_behind : (n : ℕ) (es : List Entity) (e : Entity) (a : WordId) → is_individual e.kind ≡ true → list_any (same_entity e) es ≡ false
    → a.0 ≡ place_of es e + n → is_among (individuals_from n (es ++ e ∷ [])) a ≡ true
known_behind n [] e a i none is =
    let here : a.0 ≡ n = omega (arith, is) in
    among_here (is_individual e.kind) a (record { 0 = n }) [] i here
known_behind n (f ∷ fs) e a i none is = by (same_entity e f) (known_behind (n + 1) fs e a i) none is
  where
    by : (b : Bool)
        → (list_any (same_entity e) fs ≡ false → a.0 ≡ place_of fs e + (n + 1) → is_among (individuals_from (n + 1) (fs ++ e ∷ [])) a ≡ true)
        → (b || list_any (same_entity e) fs) ≡ false → a.0 ≡ (if b then 0 else 1 + place_of fs e) + n
        → is_among (individuals_from n (f ∷ (fs ++ e ∷ []))) a ≡ true
    by true later none is = cc
    by false later none is =
        let behind : a.0 ≡ place_of fs e + (n + 1) = omega (arith, is) in
        among_later (is_individual f.kind) a (record { 0 = n }) (individuals_from (n + 1) (fs ++ e ∷ [])) (later none behind)

known_word : (es : List Entity) (e : Entity) → is_individual e.kind ≡ true → is_known (entered es e) (word_of es e) ≡ true
known_word es e i = by (list_any (same_entity e) es) refl
  where
    by : (b : Bool) → list_any (same_entity e) es ≡ b → is_known (if b then es else es ++ e ∷ []) (word_of es e) ≡ true
    by true found = known_there 1 es e (word_of es e) i found refl
    by false none = known_behind 1 es e (word_of es e) i none refl

-- ---- what fits, fits where more is known

module _ (known later : WordId → Bool) (more : (a : WordId) → known a ≡ true → later a ≡ true) where
  class_later : (c : Concept) → fits_class known c ≡ true → fits_class later c ≡ true
  class_later c h =
      and_from (is_wide c) (list_all later (names_in c)) (and_first (is_wide c) (list_all known (names_in c)) h)
      (all_weaken known later more (names_in c) (and_second (is_wide c) (list_all known (names_in c)) h))

  claim_later : (c : Claim) → fits_claim known c ≡ true → fits_claim later c ≡ true
  claim_later c h =
      and_from (is_plain_claim c) (list_all later (names_in_claim c)) (and_first (is_plain_claim c) (list_all known (names_in_claim c)) h)
      (all_weaken known later more (names_in_claim c) (and_second (is_plain_claim c) (list_all known (names_in_claim c)) h))

  frame_later : (f : Frame) → fits_frame known f ≡ true → fits_frame later f ≡ true
  frame_later f h =
      and_from (list_all (fits_class later) f.classes) (list_all later f.names && has_enough f.construct f.wanted f.classes f.names)
      (all_weaken (fits_class known) (fits_class later) class_later f.classes (classes_of known f h))
      (and_from (list_all later f.names) (has_enough f.construct f.wanted f.classes f.names) (all_weaken known later more f.names (names_of known f h))
      (enough_of known f h))

-- ---- frames, one in the other

-- what a construct makes goes where something of a sort may come
abbrev pub goes_in : Makes → Option Sort → Bool
goes_in makes.Class (Some sort.Class) = true
goes_in makes.Class other = false
goes_in makes.Property (Some sort.Property) = true
goes_in makes.Property other = false
goes_in makes.Declared (Some sort.Declared) = true
goes_in makes.Declared other = false
goes_in _ other = true

abbrev pub fits_below : Makes → List Frame → Bool
fits_below m [] = true
fits_below m (g ∷ gs) = goes_in m (next_sort g)

abbrev pub are_linked : List Frame → Bool
are_linked [] = true
are_linked (f ∷ fs) = fits_below (makes_of f.construct) fs && are_linked fs

abbrev pub is_opening : Stand → List Frame → Bool
is_opening (stand.Opening c) fs = fits_below (makes_of c) fs
is_opening _ fs = true

below_by : (m : Makes) (fs : List Frame) (next : Option Sort) → top_sort fs ≡ next → goes_in m next ≡ true → fits_below m fs ≡ true
below_by m [] next e h = refl
below_by m (g ∷ gs) next e h = ap (goes_in m) e ∙ h

-- what was read fits
pub record Fits (s : State) : Type 0 where
  pub claims : list_all (fits_claim (is_known s.entities)) s.claims ≡ true
  pub frames : list_all (fits_frame (is_known s.entities)) s.frames ≡ true
  pub linked : are_linked s.frames ≡ true
  pub opening : is_opening s.stand s.frames ≡ true

fresh_fits : Fits fresh_state
fresh_fits = record { claims = refl; frames = refl; linked = refl; opening = refl }

moved_fits : (s : State) (to : Stand) → is_opening to s.frames ≡ true → Fits s → Fits (moved s to)
moved_fits s to opening fits = record { claims = fits.claims; frames = fits.frames; linked = fits.linked; opening = opening }

enter_fits : (s : State) (e : Entity) → Fits s → Fits (enter s e)
enter_fits s e fits = record {
  claims = all_weaken (fits_claim known) (fits_claim later) (claim_later known later more) s.claims fits.claims;
  frames = all_weaken (fits_frame known) (fits_frame later) (frame_later known later more) s.frames fits.frames;
  linked = fits.linked;
  opening = fits.opening;
}
  where
    known : WordId → Bool
    known = is_known s.entities

    later : WordId → Bool
    later = is_known (entered s.entities e)

    more : (a : WordId) → known a ≡ true → later a ≡ true
    more = known_entered s.entities e

-- the innermost frame gets something
given_fits : (s : State) (give : Frame → Frame) → Fits s → ((f : Frame) → (give f).construct ≡ f.construct)
    → ((f : Frame) → top_sort s.frames ≡ next_sort f → fits_frame (is_known s.entities) f ≡ true → fits_frame (is_known s.entities) (give f) ≡ true)
    → IfOk (given s give) Fits
given_fits s give fits same gives = go s.frames refl
  where
    known : WordId → Bool
    known = is_known s.entities

    go : (fs : List Frame) → s.frames ≡ fs → IfOk (given_to fs s give) Fits
    go [] e = tt
    go (f ∷ fs) e =
        let frames : list_all (fits_frame known) (f ∷ fs) ≡ true = subst (λ (l : List Frame). list_all (fits_frame known) l ≡ true) e fits.frames in
        let linked : are_linked (f ∷ fs) ≡ true = subst (λ (l : List Frame). are_linked l ≡ true) e fits.linked in
        record {
          claims = fits.claims;
          frames = and_from (fits_frame known (give f)) (list_all (fits_frame known) fs)
              (gives f (ap top_sort e) (and_first (fits_frame known f) (list_all (fits_frame known) fs) frames))
              (and_second (fits_frame known f) (list_all (fits_frame known) fs) frames);
          linked = ap (λ k. fits_below (makes_of k) fs && are_linked fs) (same f) ∙ linked;
          opening = refl;
        }

-- ---- names

given_class : (s : State) (c : Concept) → Fits s → top_sort s.frames ≡ Some sort.Class → fits_class (is_known s.entities) c ≡ true
    → IfOk (given s (with_class c)) Fits
given_class s c fits next good =
    given_fits s (with_class c) fits (λ f. refl) (λ f e k. with_class_fits (is_known s.entities) f c good (sym e ∙ next) k)

given_other : (s : State) (r : Option Sort) (give : Frame → Frame) → Fits s → top_sort s.frames ≡ r → is_unkept r ≡ true
    → ((f : Frame) → (give f).construct ≡ f.construct)
    → ((f : Frame) → is_unkept (next_sort f) ≡ true → fits_frame (is_known s.entities) f ≡ true → fits_frame (is_known s.entities) (give f) ≡ true)
    → IfOk (given s give) Fits
given_other s r give fits next unkept same gives = given_fits s give fits same (λ f e k. gives f (ap is_unkept (sym e ∙ next) ∙ unkept) k)

class_named_fits : (s : State) (iri : List ℕ) → Fits s → top_sort s.frames ≡ Some sort.Class → IfOk (class_named s iri) Fits
class_named_fits s iri fits next = by (is_thing iri) (is_nothing iri)
  where
    e : Entity
    e = entity kind.Class iri

    by : (thing nothing : Bool)
        → IfOk (if thing then given s (with_class Everything) else (if nothing then given s (with_class (ComplementOf Everything))
        else given (enter s (entity kind.Class iri)) (with_class (Atomic (word_of s.entities (entity kind.Class iri)))))) Fits
    by true nothing = given_class s Everything fits next refl
    by false true = given_class s (ComplementOf Everything) fits next refl
    by false false = given_class (enter s e) (Atomic (word_of s.entities e)) (enter_fits s e fits) next refl

property_named_fits : (s : State) (iri : List ℕ) (r : Option Sort) → Fits s → top_sort s.frames ≡ r → is_unkept r ≡ true → IfOk (property_named s iri) Fits
property_named_fits s iri r fits next unkept =
    given_other (enter s e) r (with_role role) (enter_fits s e fits) next unkept (λ f. refl)
    (λ f k l. with_role_fits (is_known (entered s.entities e)) f role k l)
  where
    e : Entity
    e = entity kind.Property iri

    role : Role
    role = record { id = word_of s.entities e; inverted = false }

individual_named_fits : (s : State) (iri : List ℕ) → Fits s → top_sort s.frames ≡ Some sort.Individual → IfOk (individual_named s iri) Fits
individual_named_fits s iri fits next =
    given_fits (enter s e) (with_name (word_of s.entities e)) (enter_fits s e fits) (λ f. refl)
    (λ f top k. with_name_fits (is_known (entered s.entities e)) f (word_of s.entities e) (known_word s.entities e refl) (sym top ∙ next) k)
  where
    e : Entity
    e = entity kind.Individual iri

name_by_fits : (next : Option Sort) (s : State) (iri : List ℕ) → Fits s → top_sort s.frames ≡ next → IfOk (name_by next s iri) Fits
name_by_fits (Some sort.Class) s iri fits next = class_named_fits s iri fits next
name_by_fits (Some sort.Property) s iri fits next = property_named_fits s iri (Some sort.Property) fits next refl
name_by_fits (Some sort.PropertyName) s iri fits next = property_named_fits s iri (Some sort.PropertyName) fits next refl
name_by_fits (Some sort.Individual) s iri fits next = individual_named_fits s iri fits next
name_by_fits (Some (sort.Name k)) s iri fits next =
    given_other (enter s (entity k iri)) (Some (sort.Name k)) with_any (enter_fits s (entity k iri) fits) next refl (λ f. refl)
    (with_any_fits (is_known (entered s.entities (entity k iri))))
name_by_fits (Some sort.AnnotationName) s iri fits next =
    given_other s (Some sort.AnnotationName) with_any fits next refl (λ f. refl) (with_any_fits (is_known s.entities))
name_by_fits _ s iri fits next = tt

prefix_named_fits : (s : State) (prefix local : List ℕ) → Fits s → IfOk (prefix_named s prefix local) Fits
prefix_named_fits s prefix [] fits = record { claims = fits.claims; frames = fits.frames; linked = fits.linked; opening = refl }
prefix_named_fits s prefix (b ∷ bs) fits = tt

name_in_place_fits : (s : State) (prefix local iri : List ℕ) → Fits s → IfOk (name_in_place s prefix local iri) Fits
name_in_place_fits s prefix local iri fits = by (is_prefix_name s.stand) (is_inside s.stand)
  where
    by : (is_prefix inside : Bool)
        → IfOk (if is_prefix then prefix_named s prefix local else (if inside then name_by (top_sort s.frames) s iri else Err trouble.Syntax)) Fits
    by true inside = prefix_named_fits s prefix local fits
    by false true = name_by_fits (top_sort s.frames) s iri fits refl
    by false false = tt

name_with_fits : (front : Option (List ℕ)) (s : State) (prefix local : List ℕ) → Fits s → IfOk (name_with front s prefix local) Fits
name_with_fits (Some front) s prefix local fits = by (is_top_property (front ++ local)) (is_bottom_property (front ++ local))
  where
    by : (top bottom : Bool)
        → IfOk (if top then Err trouble.Unsupported else (if bottom then Err trouble.Unsupported else name_in_place s prefix local (front ++ local))) Fits
    by true bottom = tt
    by false true = tt
    by false false = name_in_place_fits s prefix local (front ++ local) fits
name_with_fits None s prefix local fits = by (is_prefix_name s.stand)
  where
    by : (b : Bool) → IfOk (if b then prefix_named s prefix local else Err trouble.Prefix) Fits
    by true = prefix_named_fits s prefix local fits
    by false = tt

name_fits : (s : State) (prefix local : List ℕ) → Fits s → IfOk (name s prefix local) Fits
name_fits s prefix local fits = by (same_bytes prefix (codes "_"))
  where
    by : (b : Bool) → IfOk (if b then Err trouble.Unsupported else name_with (iri_of s.prefixes prefix) s prefix local) Fits
    by true = tt
    by false = name_with_fits (iri_of s.prefixes prefix) s prefix local fits

-- ---- keywords

begin_fits : (s : State) (o : Option Construct) → Fits s → ((c : Construct) → o ≡ Some c → fits_below (makes_of c) s.frames ≡ true) → IfOk (begin s o) Fits
begin_fits s None fits goes = tt
begin_fits s (Some c) fits goes = moved_fits s (stand.Opening c) (goes c refl) fits

-- one of these constructs
one_among : (p : Construct → Bool) (cs : List Construct) (text : List ℕ) (c : Construct) → list_all p cs ≡ true → construct_among cs text ≡ Some c → p c ≡ true
one_among p [] text c all h = cc
one_among p (d ∷ ds) text c all h = by (same_bytes text (keyword d)) (one_among p ds text c (and_second (p d) (list_all p ds) all)) h
  where
    by : (b : Bool) → (construct_among ds text ≡ Some c → p c ≡ true) → (if b then Some d else construct_among ds text) ≡ Some c → p c ≡ true
    by true later h = subst (λ (k : Construct). p k ≡ true) (same_Some d c h) (and_first (p d) (list_all p ds) all)
    by false later h = later h

begin_among : (s : State) (next : Option Sort) (cs : List Construct) (text : List ℕ) → Fits s → top_sort s.frames ≡ next
    → list_all (λ c. goes_in (makes_of c) next) cs ≡ true → IfOk (begin s (construct_among cs text)) Fits
begin_among s next cs text fits top all =
    begin_fits s (construct_among cs text) fits
    (λ c is. below_by (makes_of c) s.frames next top (one_among (λ d. goes_in (makes_of d) next) cs text c all is))

keyword_by_fits : (next : Option Sort) (s : State) (text : List ℕ) → Fits s → top_sort s.frames ≡ next → IfOk (keyword_by next s text) Fits
keyword_by_fits (Some sort.Item) s text fits next = by (is_annotation text)
  where
    by : (b : Bool) → IfOk (if b then Ok (moved s stand.AnnotationOpening) else begin s (construct_among item_constructs text)) Fits
    by true = moved_fits s stand.AnnotationOpening refl fits
    by false = begin_among s (Some sort.Item) item_constructs text fits next refl
keyword_by_fits (Some sort.Class) s text fits next = begin_among s (Some sort.Class) class_constructs text fits next refl
keyword_by_fits (Some sort.Property) s text fits next = begin_among s (Some sort.Property) property_constructs text fits next refl
keyword_by_fits (Some sort.Declared) s text fits next = begin_among s (Some sort.Declared) declared_constructs text fits next refl
keyword_by_fits _ s text fits next = tt

keyword_inside_fits : (s : State) (text : List ℕ) → Fits s → IfOk (keyword_inside s text) Fits
keyword_inside_fits s text fits = by (may_annotate s.frames && same_bytes text (codes "Annotation"))
  where
    by : (b : Bool) → IfOk (if b then Ok (moved s stand.AnnotationOpening) else keyword_by (top_sort s.frames) s text) Fits
    by true = moved_fits s stand.AnnotationOpening refl fits
    by false = keyword_by_fits (top_sort s.frames) s text fits refl

-- what ends the file goes anywhere
end_below : (fs : List Frame) → fits_below makes.End fs ≡ true
end_below [] = refl
end_below (f ∷ fs) = refl

keyword_of_line_fits : (s : State) (text : List ℕ) → Fits s → IfOk (keyword_of_line s text) Fits
keyword_of_line_fits s text fits = by (same_bytes text (codes "Prefix")) (same_bytes text (codes "Ontology"))
  where
    by : (p o : Bool)
        → IfOk (if p then Ok (moved s stand.PrefixOpening) else (if o then Ok (moved s (stand.Opening construct.Ontology)) else Err trouble.Syntax)) Fits
    by true o = moved_fits s stand.PrefixOpening refl fits
    by false true = moved_fits s (stand.Opening construct.Ontology) (end_below s.frames) fits
    by false false = tt

keyword_word_fits : (s : State) (text : List ℕ) → Fits s → IfOk (keyword_word s text) Fits
keyword_word_fits s text fits = by (is_lines s.stand) (is_inside s.stand)
  where
    by : (l i : Bool) → IfOk (if l then keyword_of_line s text else (if i then keyword_inside s text else Err trouble.Syntax)) Fits
    by true i = keyword_of_line_fits s text fits
    by false true = keyword_inside_fits s text fits
    by false false = tt

word_by_fits : (o : Option ℕ) (s : State) (text : List ℕ) → Fits s → IfOk (word_by o s text) Fits
word_by_fits None s text fits = keyword_word_fits s text fits
word_by_fits (Some k) s text fits = name_fits s (take k text) (drop (k + 1) text) fits

word_fits : (st : Stand) (s : State) (text : List ℕ) → Fits s → IfOk (word st s text) Fits
word_fits (stand.Passing base) s text fits = fits
word_fits _ s text fits = word_by_fits (colon_at 0 text) s text fits

-- ---- parentheses

-- the same, with another place to stand at and another number of open parentheses
turned : (s : State) (to : Stand) (k : ℕ) → is_opening to s.frames ≡ true → Fits s → Fits (record s { stand = to; open_count = k })
turned s to k opening fits = record { claims = fits.claims; frames = fits.frames; linked = fits.linked; opening = opening }

not_opening : (c : Construct) (fs : List Frame) → is_opening (begun c) fs ≡ true
not_opening construct.Ontology fs = refl
not_opening _ fs = refl

opened_fits : (st : Stand) (s : State) → s.stand ≡ st → Fits s → IfOk (opened_by st s) Fits
opened_fits stand.PrefixOpening s e fits = turned s stand.PrefixName (s.open_count + 1) refl fits
opened_fits (stand.Opening c) s e fits = record {
  claims = fits.claims;
  frames = and_from (fits_frame (is_known s.entities) (new_frame c)) (list_all (fits_frame (is_known s.entities)) s.frames)
      (new_fits (is_known s.entities) c) fits.frames;
  linked = and_from (fits_below (makes_of c) s.frames) (are_linked s.frames) (subst (λ (to : Stand). is_opening to s.frames ≡ true) e fits.opening)
      fits.linked;
  opening = not_opening c (new_frame c ∷ s.frames);
}
opened_fits stand.AnnotationOpening s e fits = turned s (stand.Passing s.open_count) (s.open_count + 1) refl fits
opened_fits (stand.Passing base) s e fits = turned s (stand.Passing base) (s.open_count + 1) refl fits
opened_fits _ s e fits = tt

-- a frame is closed
no_more : (wanted : List Sort) → is_nil wanted ≡ true → wanted ≡ []
no_more [] h = refl
no_more (w ∷ ws) h = cc

is_class : (next : Option Sort) → goes_in makes.Class next ≡ true → next ≡ Some sort.Class
is_class (Some sort.Class) h = refl
is_class _ h = cc

is_property : (next : Option Sort) → goes_in makes.Property next ≡ true → is_unkept next ≡ true
is_property (Some sort.Property) h = refl
is_property _ h = cc

is_declared : (next : Option Sort) → goes_in makes.Declared next ≡ true → is_unkept next ≡ true
is_declared (Some sort.Declared) h = refl
is_declared _ h = cc

-- what a frame makes goes to the one below, if there is one
to_below : (m : Makes) (s : State) (give : Frame → Frame) → fits_below m s.frames ≡ true
    → ((next : Option Sort) → top_sort s.frames ≡ next → goes_in m next ≡ true → IfOk (given s give) Fits) → IfOk (given s give) Fits
to_below m s give goes gives = go s.frames refl
  where
    go : (fs : List Frame) → s.frames ≡ fs → IfOk (given s give) Fits
    go [] e = subst (λ (l : List Frame). IfOk (given_to l s give) Fits) (sym e) tt
    go (g ∷ gs) e = gives (next_sort g) (ap top_sort e) (subst (λ (l : List Frame). fits_below m l ≡ true) e goes)

finished_fits : (m : Makes) (s : State) (f : Frame) → Fits s → fits_frame (is_known s.entities) f ≡ true → f.wanted ≡ []
    → fits_below m s.frames ≡ true → IfOk (finished m s f) Fits
finished_fits makes.Class s f fits good nil goes =
    to_below makes.Class s (with_class (class_by f.construct f.classes f.roles f.names)) goes
    (λ next top in_place. given_class s (class_by f.construct f.classes f.roles f.names) fits (top ∙ is_class next in_place)
    (class_fits (is_known s.entities) f.construct f.classes f.roles f.names (classes_of (is_known s.entities) f good) (names_of (is_known s.entities) f good)
    (subst (λ (ws : List Sort). has_enough f.construct ws f.classes f.names ≡ true) nil (enough_of (is_known s.entities) f good))))
finished_fits makes.Property s f fits good nil goes =
    to_below makes.Property s (with_role (inverse (first_role f.roles))) goes
    (λ next top in_place. given_other s next (with_role (inverse (first_role f.roles))) fits top (is_property next in_place) (λ g. refl)
    (λ g k l. with_role_fits (is_known s.entities) g (inverse (first_role f.roles)) k l))
finished_fits makes.Declared s f fits good nil goes =
    to_below makes.Declared s with_any goes
    (λ next top in_place. given_other s next with_any fits top (is_declared next in_place) (λ g. refl) (with_any_fits (is_known s.entities)))
finished_fits makes.Axioms s f fits good nil goes = record {
  claims = all_append (fits_claim (is_known s.entities)) s.claims (claims_by f.construct f.classes f.roles f.names) fits.claims
      (claims_fit (is_known s.entities) f.construct f.classes f.roles f.names (classes_of (is_known s.entities) f good)
      (names_of (is_known s.entities) f good));
  frames = fits.frames;
  linked = fits.linked;
  opening = refl;
}
finished_fits makes.End s f fits good nil goes = moved_fits s stand.Closed refl fits

closed_top_fits : (fs : List Frame) (s : State) → s.frames ≡ fs → ((l : List Frame) → is_opening s.stand l ≡ true) → Fits s → IfOk (closed_top fs s) Fits
closed_top_fits [] s e stands fits = tt
closed_top_fits (f ∷ fs) s e stands fits = by (is_nil f.wanted) refl
  where
    known : WordId → Bool
    known = is_known s.entities

    rest : State
    rest = record s { frames = fs; open_count = s.open_count - 1 }

    frames : list_all (fits_frame known) (f ∷ fs) ≡ true
    frames = subst (λ (l : List Frame). list_all (fits_frame known) l ≡ true) e fits.frames

    linked : are_linked (f ∷ fs) ≡ true
    linked = subst (λ (l : List Frame). are_linked l ≡ true) e fits.linked

    rest_fits : Fits rest
    rest_fits = record {
      claims = fits.claims;
      frames = and_second (fits_frame known f) (list_all (fits_frame known) fs) frames;
      linked = and_second (fits_below (makes_of f.construct) fs) (are_linked fs) linked;
      opening = stands fs;
    }

    by : (b : Bool) → is_nil f.wanted ≡ b → IfOk (if b then finished (makes_of f.construct) rest f else Err trouble.Syntax) Fits
    by true nil =
        finished_fits (makes_of f.construct) rest f rest_fits (and_first (fits_frame known f) (list_all (fits_frame known) fs) frames)
        (no_more f.wanted nil) (and_first (fits_below (makes_of f.construct) fs) (are_linked fs) linked)
    by false more = tt

passed_fits : (s : State) (base : ℕ) → Fits s → Fits (passed s base)
passed_fits s base fits =
    turned s (if s.open_count - 1 == base then stand.Within else stand.Passing base) (s.open_count - 1) (by (s.open_count - 1 == base)) fits
  where
    by : (b : Bool) → is_opening (if b then stand.Within else stand.Passing base) s.frames ≡ true
    by true = refl
    by false = refl

closed_fits : (st : Stand) (s : State) → s.stand ≡ st → Fits s → IfOk (closed_by st s) Fits
closed_fits stand.PrefixClose s e fits = record { claims = fits.claims; frames = fits.frames; linked = fits.linked; opening = refl }
closed_fits stand.Within s e fits = closed_top_fits s.frames s refl (λ l. subst (λ (to : Stand). is_opening to l ≡ true) (sym e) refl) fits
closed_fits (stand.Heading k) s e fits = closed_top_fits s.frames s refl (λ l. subst (λ (to : Stand). is_opening to l ≡ true) (sym e) refl) fits
closed_fits (stand.Passing base) s e fits = passed_fits s base fits
closed_fits _ s e fits = tt

-- ---- the other tokens

equals_fits : (st : Stand) (s : State) → Fits s → IfOk (equals_by st s) Fits
equals_fits stand.PrefixEquals s fits = moved_fits s stand.PrefixIri refl fits
equals_fits (stand.Passing base) s fits = fits
equals_fits _ s fits = tt

heading_fits : (s : State) (k : ℕ) → Fits s → IfOk (heading s k) Fits
heading_fits s k fits = by (k == 0)
  where
    by : (b : Bool) → IfOk (if b then Err trouble.Syntax else Ok (moved s (stand.Heading (k - 1)))) Fits
    by true = tt
    by false = moved_fits s (stand.Heading (k - 1)) refl fits

iri_fits : (st : Stand) (s : State) (iri : List ℕ) → Fits s → IfOk (iri_by st s iri) Fits
iri_fits stand.PrefixIri s iri fits = record { claims = fits.claims; frames = fits.frames; linked = fits.linked; opening = refl }
iri_fits (stand.Heading k) s iri fits = heading_fits s k fits
iri_fits (stand.Passing base) s iri fits = fits
iri_fits _ s iri fits = tt

quoted_fits : (st : Stand) (s : State) → Fits s → IfOk (quoted_by st s) Fits
quoted_fits (stand.Passing base) s fits = fits
quoted_fits _ s fits = tt

step_fits : (s : State) (k : TokenKind) (text : List ℕ) → Fits s → IfOk (step s k text) Fits
step_fits s token.OpenParen text fits = by (nat_le MOST_OPEN s.open_count)
  where
    by : (b : Bool) → IfOk (if b then Err trouble.TooDeep else opened_by s.stand s) Fits
    by true = tt
    by false = opened_fits s.stand s refl fits
step_fits s token.CloseParen text fits = closed_fits s.stand s refl fits
step_fits s token.Equals text fits = equals_fits s.stand s fits
step_fits s token.Iri text fits = iri_fits s.stand s text fits
step_fits s token.Quoted text fits = quoted_fits s.stand s fits
step_fits s token.Word text fits = word_fits s.stand s text fits

-- ---- the whole file

abbrev pub FitsIn : List Entity × List Claim → Type 0
FitsIn read = list_all (fits_claim (is_known read.0)) read.1 ≡ true

ended_fits : (s : State) (ending : Ending) → Fits s → IfOk (ended s ending) FitsIn
ended_fits s (Whole at) fits = by (is_closed s.stand)
  where
    by : (b : Bool) → IfOk (if b then Ok (s.entities, s.claims) else Err (fault.Syntax at)) FitsIn
    by true = fits.claims
    by false = tt
ended_fits s (Cut_off at) fits = tt

read_fits : (tokens : List Token) (s : State) (ending : Ending) → Fits s → IfOk (reading s tokens ending) FitsIn
read_fits [] s ending fits = ended_fits s ending fits
read_fits (t ∷ ts) s ending fits = by (step s t.kind t.text) (step_fits s t.kind t.text fits) (λ n good. read_fits ts n ending good)
  where
    by : (r : Result State Trouble) → IfOk r Fits → ((n : State) → Fits n → IfOk (reading n ts ending) FitsIn)
        → IfOk (carry r t.at (λ next. reading next ts ending)) FitsIn
    by (Err e) good more = tt
    by (Ok n) good more = more n good

module _ (tokens : List Token) (ending : Ending) (es : List Entity) (claims : List Claim) (h : reading fresh_state tokens ending ≡ Ok (es, claims)) where
  fits_all : list_all (fits_claim (is_known es)) claims ≡ true
  fits_all = subst (λ (r : Result (List Entity × List Claim) OwlFault). IfOk r FitsIn) h (read_fits tokens fresh_state ending fresh_fits)

  pub read_plain : are_plain claims ≡ true
  read_plain =
      all_weaken (fits_claim (is_known es)) is_plain_claim (λ c k. and_first (is_plain_claim c) (list_all (is_known es) (names_in_claim c)) k) claims fits_all

  pub read_over : are_over (individuals es) claims ≡ true
  read_over =
      all_weaken (fits_claim (is_known es)) (λ c. list_all (is_among (individuals es)) (names_in_claim c))
      (λ c k. and_second (is_plain_claim c) (list_all (is_known es) (names_in_claim c)) k) claims fits_all
