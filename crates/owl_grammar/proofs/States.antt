-- What was read so far is the beginning of a file, at each place where the reading stands.
use Rattle.std.proofs.Common.{◌≡◌, ℕ, ◌+◌, ◌-◌, ◌<◌, ◌≤◌, suc, ◌⊎◌, inl, inr, Bool, true, false, cond, not, ◌&&◌, ◌||◌, eqb, eq-eqb, ltb, List, [], ◌∷◌, ◌++◌, map, length, take, drop, Option, Some, None, Ok, Err, refl, sym, ap, subst, ◌∙◌, append_assoc, append-nil, arith}
use Rattle.std.specs.Prelude.{Result, codes}
use Rattle.std.specs.List.{flat_map, list_all, AllByRecursion}
use Rattle.std.proofs.lemmas.Bool.{and_parts, and_from, eqb-true, eqb-false, lt-ltb}
use Rattle.std.proofs.lemmas.Option.{same_Some}
use Rattle.std.proofs.lemmas.List.{map-append, length-append}
use Rattle.logic_terms.specs.Concept.{Everything, Atomic, ComplementOf}
use Rattle.owl_tokens.specs.declared.tokens.TokenKind.{TokenKind}
use Rattle.owl_tokens.specs.declared.tokens.TokenKind.TheVariants as token
use Rattle.owl_reader.specs.declared.faults.Trouble.{Trouble}
use Rattle.owl_reader.specs.declared.kinds.Construct.{Construct}
use Rattle.owl_reader.specs.declared.kinds.Construct.TheVariants as construct
use Rattle.owl_reader.specs.declared.kinds.EntityKind.TheVariants as kind
use Rattle.owl_reader.specs.declared.kinds.Sort.{Sort}
use Rattle.owl_reader.specs.declared.kinds.Sort.TheVariants as sort
use Rattle.owl_reader.specs.declared.kinds.Makes.{Makes}
use Rattle.owl_reader.specs.declared.kinds.Makes.TheVariants as makes
use Rattle.owl_reader.specs.declared.stand.Stand.{Stand}
use Rattle.owl_reader.specs.declared.stand.Stand.TheVariants as stand
use Rattle.owl_reader.specs.Grammar.{same_bytes, keyword, construct_among, item_constructs, class_constructs, property_constructs, declared_constructs, repeats, makes_of, takes_annotations, is_annotation}
use Rattle.owl_reader.specs.Names.{colon_at, Declared, declare, iri_of, is_thing, is_nothing, is_top_property, is_bottom_property, first_prefixes, word_of}
use Rattle.owl_reader.specs.Reading.{State, Frame}
use Rattle.owl_reader.specs.Reading as machine
use Rattle.owl_grammar.specs.Files.{Piece, piece, word, iri_piece, sign, Name, Tree, Named, Built, Trees, Item, Statement, Line, File, between, name_text, spelled, spelled_all, spelled_note, spelled_item, spelled_line, spelled_file, are_matched, is_prefix, is_in_profile, is_in_profile_with, is_name, constructs_of, IsOneOf, Fits, AreMatched, IsItem, declared_by, AreLines, prefixes_of, IsFile}
use Rattle.owl_grammar.proofs.Machine.{free}
use Rattle.owl_grammar.proofs.Words.{not_true, of_each, same_bytes-true, has_colon, keyword_of, part_facts, makes_a_part, item_facts}
use Rattle.owl_grammar.proofs.Readings.{bottom}
use Rattle.owl_grammar.proofs.Stacks.{Filled, can_fill, never, no_some, Bare, bare, wanted_sort, advanced, Bottom, Stack, grow, whole, opened, MayOpen, MayNote, noted, bottom_more, new_bare}

-- The places

abbrev pub lines_text : List Line → List Piece
lines_text ls = flat_map spelled_line ls

-- lines that were read
pub record Lined (prefixes : Declared) : Type 0 where
  pub lines : List Line
  pub are : AreLines first_prefixes lines
  pub declared : prefixes ≡ declared_by first_prefixes lines

-- an ontology's head: the lines, the keyword, the parenthesis and IRIs
abbrev pub head_text : List Line → List (List ℕ) → List Piece
head_text ls iris = lines_text ls ++ word (codes "Ontology") ∷ sign token.OpenParen ∷ map iri_piece iris

abbrev pub Stacked : Declared → List Piece → List Bare → List Piece → Type 0
Stacked declared head [] ps = ⊥
Stacked declared head (b ∷ bs) ps = Stack declared head b bs ps

-- between an ontology's parentheses these tokens were read
pub record Inside (prefixes : Declared) (bs : List Bare) (ps : List Piece) : Type 0 where
  pub lined : Lined prefixes
  pub iris : List (List ℕ)
  pub few : length iris ≤ 2
  pub stacked : Stacked prefixes (head_text lined.lines iris) bs ps

abbrev pub MayNoteIn : List Bare → List ℕ → Type 0
MayNoteIn [] text = ⊥
MayNoteIn (b ∷ bs) text = MayNote b bs text

abbrev pub MayOpenIn : List Bare → Construct → Type 0
MayOpenIn [] c = ⊥
MayOpenIn (b ∷ bs) c = MayOpen b bs c

-- behind the keyword of an annotation, and what of it was read
pub record Noting (prefixes : Declared) (bs : List Bare) (ps : List Piece) : Type 0 where
  pub before : List Piece
  pub inside : Inside prefixes bs before
  pub text : List ℕ
  pub may : MayNoteIn bs text
  pub spelled : ps ≡ before ++ word text ∷ []

pub record Passing (base count : ℕ) (prefixes : Declared) (bs : List Bare) (ps : List Piece) : Type 0 where
  pub before : List Piece
  pub inside : Inside prefixes bs before
  pub text : List ℕ
  pub may : MayNoteIn bs text
  pub content : List Piece
  pub depth : ℕ
  pub counted : count ≡ base + 1 + depth
  pub leads : (rest : List Piece) → are_matched depth rest ≡ true → are_matched 0 (content ++ rest) ≡ true
  pub spelled : ps ≡ before ++ word text ∷ sign token.OpenParen ∷ content

-- behind the keyword of a construct
pub record Opening (c : Construct) (prefixes : Declared) (bs : List Bare) (ps : List Piece) : Type 0 where
  pub before : List Piece
  pub inside : Inside prefixes bs before
  pub may : MayOpenIn bs c
  pub spelled : ps ≡ before ++ word (keyword c) ∷ []

-- in a line of a prefix, and behind its name
pub record InLine (prefixes : Declared) (bs : List Bare) (ps more : List Piece) : Type 0 where
  pub lined : Lined prefixes
  pub none : bs ≡ []
  pub spelled : ps ≡ lines_text lined.lines ++ more

abbrev pub named_line : List ℕ → List Piece → List Piece
named_line prefix more = word (codes "Prefix") ∷ sign token.OpenParen ∷ word (prefix ++ 58 ∷ []) ∷ more

pub record BehindName (prefixes : Declared) (bs : List Bare) (prefix : List ℕ) (ps more : List Piece) : Type 0 where
  pub line : InLine prefixes bs ps (named_line prefix more)
  pub plain : is_prefix prefix ≡ true
  pub fits : is_in_profile_with (iri_of prefixes prefix) [] true ≡ true

-- behind the ontology's parenthesis and some IRIs
pub record Heading (n : ℕ) (prefixes : Declared) (bs : List Bare) (ps : List Piece) : Type 0 where
  pub lined : Lined prefixes
  pub only : bs ≡ bare bottom ∷ []
  pub iris : List (List ℕ)
  pub few : length iris + n ≡ 2
  pub spelled : ps ≡ head_text lined.lines iris

-- these tokens lead to this place
abbrev pub Stands : Stand → State → List Piece → Type 0
Stands stand.Lines s ps = InLine s.prefixes (map bare s.frames) ps []
Stands stand.PrefixOpening s ps = InLine s.prefixes (map bare s.frames) ps (word (codes "Prefix") ∷ [])
Stands stand.PrefixName s ps = InLine s.prefixes (map bare s.frames) ps (word (codes "Prefix") ∷ sign token.OpenParen ∷ [])
Stands stand.PrefixEquals s ps = BehindName s.prefixes (map bare s.frames) s.prefix ps []
Stands stand.PrefixIri s ps = BehindName s.prefixes (map bare s.frames) s.prefix ps (sign token.Equals ∷ [])
Stands stand.PrefixClose s ps = BehindName s.prefixes (map bare s.frames) s.prefix ps (sign token.Equals ∷ iri_piece s.iri ∷ [])
Stands (stand.Opening c) s ps =
    (InLine s.prefixes (map bare s.frames) ps (word (codes "Ontology") ∷ []) × (c ≡ construct.Ontology)) ⊎ Opening c s.prefixes (map bare s.frames) ps
Stands (stand.Heading n) s ps = Heading n s.prefixes (map bare s.frames) ps
Stands stand.Within s ps = Inside s.prefixes (map bare s.frames) ps
Stands stand.AnnotationOpening s ps = Noting s.prefixes (map bare s.frames) ps
Stands (stand.Passing base) s ps = Passing base s.open_count s.prefixes (map bare s.frames) ps
Stands stand.Closed s ps = (f : File) × IsFile f × (ps ≡ spelled_file f) × (s.prefixes ≡ prefixes_of f)

abbrev pub At : State → List Piece → Type 0
At s ps = Stands s.stand s ps

-- what one more token leads to
abbrev pub Leads : List Piece → Result State Trouble → Type 0
Leads ps (Ok m) = At m ps
Leads ps (Err x) = Unit {0}

pub choose : (ps : List Piece) (b : Bool) (x y : Result State Trouble) → (b ≡ true → Leads ps x) → (b ≡ false → Leads ps y) → Leads ps (cond b x y)
choose ps true x y p q = p refl
choose ps false x y p q = q refl

pub true_false : (b : Bool) → b ≡ true → b ≡ false → ⊥
true_false b p q = never (sym q ∙ p)

-- behind the ontology's head an item may come at once
pub headed : (n : ℕ) (prefixes : Declared) (bs : List Bare) (ps : List Piece) → Heading n prefixes bs ps → Inside prefixes bs ps
headed n prefixes bs ps h =
    let few : length h.iris ≤ 2 = omega (arith, h.few) in
    record {
      lined = h.lined;
      iris = h.iris;
      few = few;
      stacked = subst (λ xs. Stacked prefixes (head_text h.lined.lines h.iris) xs ps) (sym h.only)
          (record { is = refl; items = []; all = tt; spelled = h.spelled ∙ sym (append-nil (head_text h.lined.lines h.iris)) });
    }

-- Names

pub record Split (text : List ℕ) (m : ℕ) : Type 0 where
  pub is : text ≡ take m text ++ 58 ∷ drop (m + 1) text
  pub plain : has_colon (take m text) ≡ false

colon_split : (k n : ℕ) (text : List ℕ) → colon_at k text ≡ Some n → (m : ℕ) × (n ≡ k + m) × Split text m
colon_split k n [] h = absurd (no_some n h)
colon_split k n (b ∷ bs) h = by (eqb b 58) refl h (λ later. colon_split (k + 1) n bs later)
  where
    by : (t : Bool) → eqb b 58 ≡ t → cond t (Some k) (colon_at (k + 1) bs) ≡ Some n
        → (colon_at (k + 1) bs ≡ Some n → (m : ℕ) × (n ≡ k + 1 + m) × Split bs m) → (m : ℕ) × (n ≡ k + m) × Split (b ∷ bs) m
    by true is same later =
        let found : k ≡ n = same_Some k n same in
        let place : n ≡ k + 0 = omega (arith, found) in
        (0, place, record { is = ap (λ x. x ∷ bs) (eqb-true b 58 is); plain = refl })
    by false is same later =
        let more = later same in
        let m : ℕ = more.0 in
        let place : n ≡ k + suc m = omega (arith, more.1) in
        let behind : suc (m + 1) ≡ suc m + 1 = omega arith in (
          suc m,
          place,
          record {
            is = ap (λ xs. b ∷ xs) more.2.is ∙ ap (λ j. b ∷ (take m bs ++ 58 ∷ drop j (b ∷ bs))) behind;
            plain = ap (λ t. t || has_colon (take m bs)) is ∙ more.2.plain;
          },
        )

-- a word with a colon is a name
pub colon_parts : (n : ℕ) (text : List ℕ) → colon_at 0 text ≡ Some n → Split text n
colon_parts n text h =
    let parts = colon_split 0 n text h in
    let same : parts.0 ≡ n = omega (arith, parts.1) in
    subst (λ m. Split text m) same parts.2

prefix_is : (p : List ℕ) → has_colon p ≡ false → same_bytes p (codes "_") ≡ false → is_prefix p ≡ true
prefix_is p colon blank = λ i. not (colon i || blank i)

profile_is : (iri : List ℕ) → is_top_property iri ≡ false → is_bottom_property iri ≡ false → is_in_profile iri ≡ true
profile_is iri top low = λ i. not (top i || low i)

name_is : (declared : Declared) (n : Name) (front : List ℕ) → is_prefix n.prefix ≡ true → iri_of declared n.prefix ≡ Some front
    → is_in_profile (front ++ n.local) ≡ true → is_name declared n ≡ true
name_is declared n front plain found fits =
    and_from (is_prefix n.prefix) (is_in_profile_with (iri_of declared n.prefix) n.local false) plain
    (ap (λ o. is_in_profile_with o n.local false) found ∙ fits)

given_leads : (fs : List Frame) (s : State) (give : Frame → Frame) (ps : List Piece) (place : Sort) (t : Tree)
    → ((f : Frame) → bare (give f) ≡ advanced (bare f)) → machine.top_sort fs ≡ Some place → Fits s.prefixes place t → Inside s.prefixes (map bare fs) ps
    → Leads (ps ++ spelled t) (machine.given_to fs s give)
given_leads [] s give ps place t same top fits inside = tt
given_leads (f ∷ fs) s give ps place t same top fits inside = record {
  lined = inside.lined;
  iris = inside.iris;
  few = inside.few;
  stacked = subst (λ b. Stack s.prefixes (head_text inside.lined.lines inside.iris) b (map bare fs) (ps ++ spelled t)) (sym (same f))
      (grow s.prefixes (head_text inside.lined.lines inside.iris) (bare f) (map bare fs) ps place t top fits inside.stacked);
}

name_by_leads : (o : Option Sort) (s : State) (ps : List Piece) (n : Name) (iri : List ℕ) → machine.top_sort s.frames ≡ o → is_name s.prefixes n ≡ true
    → Inside s.prefixes (map bare s.frames) ps → Leads (ps ++ word (name_text n) ∷ []) (machine.name_by o s iri)
name_by_leads None s ps n iri top is inside = tt
name_by_leads (Some sort.Item) s ps n iri top is inside = tt
name_by_leads (Some sort.Declared) s ps n iri top is inside = tt
name_by_leads (Some sort.Class) s ps n iri top is inside =
    let more : List Piece = ps ++ word (name_text n) ∷ [] in
    choose more (is_thing iri) _ _ (λ h. given_leads s.frames s (machine.with_class Everything) ps sort.Class (Named n) (λ f. refl) top (refl, is) inside)
    (λ h. choose more (is_nothing iri) _ _
    (λ h. given_leads s.frames s (machine.with_class (ComplementOf Everything)) ps sort.Class (Named n) (λ f. refl) top (refl, is) inside)
    (λ h. given_leads s.frames (machine.enter s (machine.entity kind.Class iri))
    (machine.with_class (Atomic (word_of s.entities (machine.entity kind.Class iri)))) ps sort.Class (Named n) (λ f. refl) top (refl, is) inside))
name_by_leads (Some sort.Property) s ps n iri top is inside =
    given_leads s.frames (machine.enter s (machine.entity kind.Property iri))
    (machine.with_role (record { id = word_of s.entities (machine.entity kind.Property iri); inverted = false })) ps sort.Property (Named n) (λ f. refl) top
    (refl, is) inside
name_by_leads (Some sort.PropertyName) s ps n iri top is inside =
    given_leads s.frames (machine.enter s (machine.entity kind.Property iri))
    (machine.with_role (record { id = word_of s.entities (machine.entity kind.Property iri); inverted = false })) ps sort.PropertyName (Named n) (λ f. refl)
    top (refl, is) inside
name_by_leads (Some sort.Individual) s ps n iri top is inside =
    given_leads s.frames (machine.enter s (machine.entity kind.Individual iri))
    (machine.with_name (word_of s.entities (machine.entity kind.Individual iri))) ps sort.Individual (Named n) (λ f. refl) top (refl, is) inside
name_by_leads (Some (sort.Name k)) s ps n iri top is inside =
    given_leads s.frames (machine.enter s (machine.entity k iri)) machine.with_any ps (sort.Name k) (Named n) (λ f. refl) top (refl, is) inside
name_by_leads (Some sort.AnnotationName) s ps n iri top is inside =
    given_leads s.frames s machine.with_any ps sort.AnnotationName (Named n) (λ f. refl) top (refl, is) inside

pub prefix_leads : (s : State) (ps : List Piece) (p local : List ℕ)
    → InLine s.prefixes (map bare s.frames) ps (word (codes "Prefix") ∷ sign token.OpenParen ∷ []) → is_prefix p ≡ true
    → is_in_profile_with (iri_of s.prefixes p) [] true ≡ true → Leads (ps ++ word (p ++ 58 ∷ local) ∷ []) (machine.prefix_named s p local)
prefix_leads s ps p [] line plain fits =
    let front : List Piece = word (codes "Prefix") ∷ sign token.OpenParen ∷ [] in
    let here : List Piece = word (p ++ 58 ∷ []) ∷ [] in
    record {
      line = record {
        lined = line.lined;
        none = line.none;
        spelled = ap (λ qs. qs ++ here) line.spelled ∙ append_assoc (lines_text line.lined.lines) front here;
      };
      plain = plain;
      fits = fits;
    }
prefix_leads s ps p (b ∷ bs) line plain fits = tt

placed_leads : (s : State) (ps : List Piece) (p local front : List ℕ) → iri_of s.prefixes p ≡ Some front → is_prefix p ≡ true
    → is_top_property (front ++ local) ≡ false → is_bottom_property (front ++ local) ≡ false
    → InLine s.prefixes (map bare s.frames) ps (word (codes "Prefix") ∷ sign token.OpenParen ∷ [])
    → Leads (ps ++ word (p ++ 58 ∷ local) ∷ []) (machine.prefix_named s p local)
placed_leads s ps p [] front found plain top low line =
    prefix_leads s ps p [] line plain (ap (λ o. is_in_profile_with o [] true) found ∙ profile_is (front ++ []) top low)
placed_leads s ps p (b ∷ bs) front found plain top low line = tt

-- a name, where it stands for a prefix that is to be declared, and else
name_leads : (s : State) (ps : List Piece) (n : Name) → has_colon n.prefix ≡ false
    → (machine.is_prefix_name s.stand ≡ true → InLine s.prefixes (map bare s.frames) ps (word (codes "Prefix") ∷ sign token.OpenParen ∷ []))
    → (machine.is_inside s.stand ≡ true → Inside s.prefixes (map bare s.frames) ps)
    → Leads (ps ++ word (name_text n) ∷ []) (machine.name s n.prefix n.local)
name_leads s ps n colon in_line inside =
    choose (ps ++ word (name_text n) ∷ []) (same_bytes n.prefix (codes "_")) _ _ (λ h. tt)
    (λ blank. by (iri_of s.prefixes n.prefix) refl (prefix_is n.prefix colon blank))
  where
    by : (o : Option (List ℕ)) → iri_of s.prefixes n.prefix ≡ o → is_prefix n.prefix ≡ true
        → Leads (ps ++ word (name_text n) ∷ []) (machine.name_with o s n.prefix n.local)
    by None found plain =
        choose (ps ++ word (name_text n) ∷ []) (machine.is_prefix_name s.stand) _ _
        (λ h. prefix_leads s ps n.prefix n.local (in_line h) plain (ap (λ o. is_in_profile_with o [] true) found)) (λ h. tt)
    by (Some front) found plain =
        let full : List ℕ = front ++ n.local in
        let all : List Piece = ps ++ word (name_text n) ∷ [] in
        choose all (is_top_property full) _ _ (λ h. tt) (λ top.
        choose all (is_bottom_property full) _ _ (λ h. tt) (λ low.
        choose all (machine.is_prefix_name s.stand) _ _ (λ h. placed_leads s ps n.prefix n.local front found plain top low (in_line h))
        (λ h. choose all (machine.is_inside s.stand) _ _
        (λ h. name_by_leads (machine.top_sort s.frames) s ps n full refl (name_is s.prefixes n front plain found (profile_is full top low)) (inside h))
        (λ h. tt))))

-- Keywords

takes_is : (m : Makes) → takes_annotations m ≡ true → m ≡ makes.Axioms
takes_is makes.Axioms h = refl
takes_is makes.Class h = cc
takes_is makes.Property h = cc
takes_is makes.Declared h = cc
takes_is makes.End h = cc

no_axioms_part : (m : Makes) → m ≡ makes.Axioms → makes_a_part m ≡ true → ⊥
no_axioms_part m is part = never (sym (ap makes_a_part is) ∙ part)

note_may : (prefixes : Declared) (head : List Piece) (fs : List Frame) (ps : List Piece) (text : List ℕ) → Stacked prefixes head (map bare fs) ps
    → machine.may_annotate fs ≡ true → text ≡ codes "Annotation" → MayNoteIn (map bare fs) text
note_may prefixes head [] ps text st may is = absurd st
note_may prefixes head (f ∷ []) ps text st may is =
    let both = and_parts f.fresh (takes_annotations (makes_of f.construct)) may in
    let ontology : f.construct ≡ construct.Ontology = ap (λ (b : Bare). b.construct) st.is in
    absurd (never (sym (ap (λ c. takes_annotations (makes_of c)) ontology) ∙ both.1))
note_may prefixes head (f ∷ g ∷ []) ps text st may is =
    let both = and_parts f.fresh (takes_annotations (makes_of f.construct)) may in
    (both.0, is)
note_may prefixes head (f ∷ g ∷ h ∷ gs) ps text st may is =
    let both = and_parts f.fresh (takes_annotations (makes_of f.construct)) may in
    absurd (no_axioms_part (makes_of f.construct) (takes_is (makes_of f.construct) both.1) (part_facts st.place f.construct (keyword f.construct) st.one).makes)

-- only the ontology's frame wants items
abbrev pub is_item_sort : Option Sort → Bool
is_item_sort (Some sort.Item) = true
is_item_sort _ = false

wants_no_item : (declared : Declared) (b : Bare) (ts : Trees) → Filled declared b ts → is_item_sort (repeats b.construct) ≡ false
    → wanted_sort b ≡ Some sort.Item → ⊥
wants_no_item declared b ts filled none wants = by b.wanted filled.fillable wants
  where
    by : (ws : List Sort) → list_all can_fill ws ≡ true → machine.first_sort ws (repeats b.construct) ≡ Some sort.Item → ⊥
    by [] fillable is = never (sym none ∙ ap is_item_sort is)
    by (w ∷ ws) fillable is =
        let item : w ≡ sort.Item = same_Some w sort.Item is in
        let both = and_parts (can_fill w) (list_all can_fill ws) fillable in
        never (sym (ap can_fill item) ∙ both.0)

abbrev repeats_no_item : Construct → Bool
repeats_no_item c = not (is_item_sort (repeats c))

item_repeats : list_all repeats_no_item item_constructs ≡ true
item_repeats = refl

part_repeats : (s : Sort) → list_all repeats_no_item (constructs_of s) ≡ true
part_repeats sort.Item = refl
part_repeats sort.Class = refl
part_repeats sort.Property = refl
part_repeats sort.Individual = refl
part_repeats sort.Declared = refl
part_repeats (sort.Name k) = refl
part_repeats sort.PropertyName = refl
part_repeats sort.AnnotationName = refl

level_item : (prefixes : Declared) (head : List Piece) (f g : Frame) (gs : List Frame) (ps : List Piece) → Stacked prefixes head (map bare (f ∷ g ∷ gs)) ps
    → machine.next_sort f ≡ Some sort.Item → ⊥
level_item prefixes head f g [] ps st wants =
    wants_no_item prefixes (bare f) st.parts st.filled
    (not_true (is_item_sort (repeats f.construct))
    (of_each repeats_no_item item_constructs (keyword f.construct) f.construct st.one item_repeats)) wants
level_item prefixes head f g (h ∷ gs) ps st wants =
    wants_no_item prefixes (bare f) st.parts st.filled
    (not_true (is_item_sort (repeats f.construct))
    (of_each repeats_no_item (constructs_of st.place) (keyword f.construct) f.construct st.one (part_repeats st.place))) wants

note_item : (prefixes : Declared) (head : List Piece) (fs : List Frame) (ps : List Piece) (text : List ℕ) → Stacked prefixes head (map bare fs) ps
    → machine.top_sort fs ≡ Some sort.Item → is_annotation text ≡ true → MayNoteIn (map bare fs) text
note_item prefixes head [] ps text st top is = absurd st
note_item prefixes head (f ∷ []) ps text st top is = is
note_item prefixes head (f ∷ g ∷ gs) ps text st top is = absurd (level_item prefixes head f g gs ps st top)

open_item : (prefixes : Declared) (head : List Piece) (fs : List Frame) (ps : List Piece) (c : Construct) → Stacked prefixes head (map bare fs) ps
    → machine.top_sort fs ≡ Some sort.Item → IsOneOf item_constructs c → MayOpenIn (map bare fs) c
open_item prefixes head [] ps c st top is = absurd st
open_item prefixes head (f ∷ []) ps c st top is = is
open_item prefixes head (f ∷ g ∷ gs) ps c st top is = absurd (level_item prefixes head f g gs ps st top)

open_part : (prefixes : Declared) (head : List Piece) (fs : List Frame) (ps : List Piece) (place : Sort) (c : Construct)
    → Stacked prefixes head (map bare fs) ps → machine.top_sort fs ≡ Some place → IsOneOf (constructs_of place) c → MayOpenIn (map bare fs) c
open_part prefixes head [] ps place c st top is = absurd st
open_part prefixes head (f ∷ []) ps place c st top is =
    let item : sort.Item ≡ place = same_Some sort.Item place (ap wanted_sort (sym st.is) ∙ top) in
    absurd (no_some c (subst (λ s. IsOneOf (constructs_of s) c) (sym item) is))
open_part prefixes head (f ∷ g ∷ gs) ps place c st top is = (place, top, is)

-- a keyword that begins a construct
begin_leads : (cs : List Construct) (s : State) (ps : List Piece) (text : List ℕ) → Inside s.prefixes (map bare s.frames) ps
    → ((c : Construct) → IsOneOf cs c → MayOpenIn (map bare s.frames) c) → Leads (ps ++ word text ∷ []) (machine.begin s (construct_among cs text))
begin_leads cs s ps text inside may = by (construct_among cs text) refl
  where
    by : (o : Option Construct) → construct_among cs text ≡ o → Leads (ps ++ word text ∷ []) (machine.begin s o)
    by None is = tt
    by (Some c) is =
        let same : text ≡ keyword c = keyword_of cs text c is in
        inr (record {
          before = ps;
          inside = inside;
          may = may c (ap (construct_among cs) (sym same) ∙ is);
          spelled = ap (λ t. ps ++ word t ∷ []) same;
        })

keyword_by_leads : (o : Option Sort) (s : State) (ps : List Piece) (text : List ℕ) → machine.top_sort s.frames ≡ o
    → Inside s.prefixes (map bare s.frames) ps → Leads (ps ++ word text ∷ []) (machine.keyword_by o s text)
keyword_by_leads None s ps text top inside = tt
keyword_by_leads (Some sort.Item) s ps text top inside =
    let head : List Piece = head_text inside.lined.lines inside.iris in
    choose (ps ++ word text ∷ []) (is_annotation text) _ _
    (λ is. record { before = ps; inside = inside; text = text; may = note_item s.prefixes head s.frames ps text inside.stacked top is; spelled = refl })
    (λ is. begin_leads item_constructs s ps text inside (λ c one. open_item s.prefixes head s.frames ps c inside.stacked top one))
keyword_by_leads (Some sort.Class) s ps text top inside =
    begin_leads class_constructs s ps text inside
    (λ c one. open_part s.prefixes (head_text inside.lined.lines inside.iris) s.frames ps sort.Class c inside.stacked top one)
keyword_by_leads (Some sort.Property) s ps text top inside =
    begin_leads property_constructs s ps text inside
    (λ c one. open_part s.prefixes (head_text inside.lined.lines inside.iris) s.frames ps sort.Property c inside.stacked top one)
keyword_by_leads (Some sort.Declared) s ps text top inside =
    begin_leads declared_constructs s ps text inside
    (λ c one. open_part s.prefixes (head_text inside.lined.lines inside.iris) s.frames ps sort.Declared c inside.stacked top one)
keyword_by_leads (Some sort.Individual) s ps text top inside = tt
keyword_by_leads (Some (sort.Name k)) s ps text top inside = tt
keyword_by_leads (Some sort.PropertyName) s ps text top inside = tt
keyword_by_leads (Some sort.AnnotationName) s ps text top inside = tt

line_more : (s : State) (ps : List Piece) (text before : List ℕ) → InLine s.prefixes (map bare s.frames) ps [] → text ≡ before
    → InLine s.prefixes (map bare s.frames) (ps ++ word text ∷ []) (word before ∷ [])
line_more s ps text before line same = record {
  lined = line.lined;
  none = line.none;
  spelled = λ i. (line.spelled ∙ append-nil (lines_text line.lined.lines)) i ++ word (same i) ∷ [];
}

keyword_leads : (s : State) (ps : List Piece) (text : List ℕ) → (machine.is_lines s.stand ≡ true → InLine s.prefixes (map bare s.frames) ps [])
    → (machine.is_inside s.stand ≡ true → Inside s.prefixes (map bare s.frames) ps) → Leads (ps ++ word text ∷ []) (machine.keyword_word s text)
keyword_leads s ps text in_lines inside =
    let more : List Piece = ps ++ word text ∷ [] in
    choose more (machine.is_lines s.stand) _ _
    (λ lines. choose more (same_bytes text (codes "Prefix")) _ _
    (λ is. line_more s ps text (codes "Prefix") (in_lines lines) (same_bytes-true text (codes "Prefix") is))
    (λ h. choose more (same_bytes text (codes "Ontology")) _ _
    (λ is. inl (line_more s ps text (codes "Ontology") (in_lines lines) (same_bytes-true text (codes "Ontology") is), refl)) (λ h. tt)))
    (λ h. choose more (machine.is_inside s.stand) _ _
    (λ here. choose more (machine.may_annotate s.frames && same_bytes text (codes "Annotation")) _ _
    (λ is.
    let at : Inside s.prefixes (map bare s.frames) ps = inside here in
    let both = and_parts (machine.may_annotate s.frames) (same_bytes text (codes "Annotation")) is in
    record {
      before = ps;
      inside = at;
      text = text;
      may = note_may s.prefixes (head_text at.lined.lines at.iris) s.frames ps text at.stacked both.0
          (same_bytes-true text (codes "Annotation") both.1);
      spelled = refl;
    })
    (λ h. keyword_by_leads (machine.top_sort s.frames) s ps text refl (inside here)))
    (λ h. tt))

word_by_leads : (s : State) (ps : List Piece) (text : List ℕ)
    → (machine.is_prefix_name s.stand ≡ true → InLine s.prefixes (map bare s.frames) ps (word (codes "Prefix") ∷ sign token.OpenParen ∷ []))
    → (machine.is_lines s.stand ≡ true → InLine s.prefixes (map bare s.frames) ps [])
    → (machine.is_inside s.stand ≡ true → Inside s.prefixes (map bare s.frames) ps)
    → Leads (ps ++ word text ∷ []) (machine.word_by (colon_at 0 text) s text)
word_by_leads s ps text in_line in_lines inside = by (colon_at 0 text) refl
  where
    by : (o : Option ℕ) → colon_at 0 text ≡ o → Leads (ps ++ word text ∷ []) (machine.word_by o s text)
    by None is = keyword_leads s ps text in_lines inside
    by (Some n) is =
        let parts = colon_parts n text is in
        let name : Name = record { prefix = take n text; local = drop (n + 1) text } in
        subst (λ t. Leads (ps ++ word t ∷ []) (machine.name s (take n text) (drop (n + 1) text))) (sym parts.is)
        (name_leads s ps name parts.plain in_line inside)

-- One token

-- one more token in an annotation
passing_more : (base count next : ℕ) (prefixes : Declared) (bs : List Bare) (ps : List Piece) (p : Piece) (at : Passing base count prefixes bs ps) (deep : ℕ)
    → next ≡ base + 1 + deep → ((rest : List Piece) → are_matched deep rest ≡ true → are_matched at.depth (p ∷ rest) ≡ true)
    → Passing base next prefixes bs (ps ++ p ∷ [])
passing_more base count next prefixes bs ps p at deep counted leads =
    let front : List Piece = word at.text ∷ sign token.OpenParen ∷ [] in
    record {
      before = at.before;
      inside = at.inside;
      text = at.text;
      may = at.may;
      content = at.content ++ p ∷ [];
      depth = deep;
      counted = counted;
      leads = λ rest h. ap (are_matched 0) (append_assoc at.content (p ∷ []) rest) ∙ at.leads (p ∷ rest) (leads rest h);
      spelled = ap (λ qs. qs ++ p ∷ []) at.spelled ∙ append_assoc at.before (front ++ at.content) (p ∷ []);
    }

pub no_case : {X : Type 0} → false ≡ true → X
no_case h = absurd (never h)

pub word_leads : (st : Stand) (s : State) (ps : List Piece) (text : List ℕ) → s.stand ≡ st → Stands st s ps
    → Leads (ps ++ word text ∷ []) (machine.word st s text)
word_leads (stand.Passing base) s ps text is at =
    subst (λ st. Stands st s (ps ++ word text ∷ [])) (sym is)
    (passing_more base s.open_count s.open_count s.prefixes (map bare s.frames) ps (word text) at at.depth at.counted (λ rest h. h))
word_leads stand.Lines s ps text is at =
    word_by_leads s ps text (λ h. no_case (sym (ap machine.is_prefix_name is) ∙ h)) (λ h. at) (λ h. no_case (sym (ap machine.is_inside is) ∙ h))
word_leads stand.PrefixOpening s ps text is at =
    word_by_leads s ps text (λ h. no_case (sym (ap machine.is_prefix_name is) ∙ h)) (λ h. no_case (sym (ap machine.is_lines is) ∙ h))
    (λ h. no_case (sym (ap machine.is_inside is) ∙ h))
word_leads stand.PrefixName s ps text is at =
    word_by_leads s ps text (λ h. at) (λ h. no_case (sym (ap machine.is_lines is) ∙ h)) (λ h. no_case (sym (ap machine.is_inside is) ∙ h))
word_leads stand.PrefixEquals s ps text is at =
    word_by_leads s ps text (λ h. no_case (sym (ap machine.is_prefix_name is) ∙ h)) (λ h. no_case (sym (ap machine.is_lines is) ∙ h))
    (λ h. no_case (sym (ap machine.is_inside is) ∙ h))
word_leads stand.PrefixIri s ps text is at =
    word_by_leads s ps text (λ h. no_case (sym (ap machine.is_prefix_name is) ∙ h)) (λ h. no_case (sym (ap machine.is_lines is) ∙ h))
    (λ h. no_case (sym (ap machine.is_inside is) ∙ h))
word_leads stand.PrefixClose s ps text is at =
    word_by_leads s ps text (λ h. no_case (sym (ap machine.is_prefix_name is) ∙ h)) (λ h. no_case (sym (ap machine.is_lines is) ∙ h))
    (λ h. no_case (sym (ap machine.is_inside is) ∙ h))
word_leads (stand.Opening c) s ps text is at =
    word_by_leads s ps text (λ h. no_case (sym (ap machine.is_prefix_name is) ∙ h)) (λ h. no_case (sym (ap machine.is_lines is) ∙ h))
    (λ h. no_case (sym (ap machine.is_inside is) ∙ h))
word_leads (stand.Heading n) s ps text is at =
    word_by_leads s ps text (λ h. no_case (sym (ap machine.is_prefix_name is) ∙ h)) (λ h. no_case (sym (ap machine.is_lines is) ∙ h))
    (λ h. headed n s.prefixes (map bare s.frames) ps at)
word_leads stand.Within s ps text is at =
    word_by_leads s ps text (λ h. no_case (sym (ap machine.is_prefix_name is) ∙ h)) (λ h. no_case (sym (ap machine.is_lines is) ∙ h)) (λ h. at)
word_leads stand.AnnotationOpening s ps text is at =
    word_by_leads s ps text (λ h. no_case (sym (ap machine.is_prefix_name is) ∙ h)) (λ h. no_case (sym (ap machine.is_lines is) ∙ h))
    (λ h. no_case (sym (ap machine.is_inside is) ∙ h))
word_leads stand.Closed s ps text is at =
    word_by_leads s ps text (λ h. no_case (sym (ap machine.is_prefix_name is) ∙ h)) (λ h. no_case (sym (ap machine.is_lines is) ∙ h))
    (λ h. no_case (sym (ap machine.is_inside is) ∙ h))

pub opened_in : (prefixes : Declared) (head : List Piece) (bs : List Bare) (ps : List Piece) (c : Construct) → MayOpenIn bs c → Stacked prefixes head bs ps
    → Stacked prefixes head (new_bare c ∷ bs) (ps ++ word (keyword c) ∷ sign token.OpenParen ∷ [])
opened_in prefixes head [] ps c may st = absurd st
opened_in prefixes head (b ∷ bs) ps c may st = opened prefixes head b bs ps c may st

begun_in : (bs : List Bare) (c : Construct) → MayOpenIn bs c → machine.begun c ≡ stand.Within
begun_in [] c may = absurd may
begun_in (b ∷ []) c may = (item_facts c (keyword c) may).begun
begun_in (b ∷ g ∷ gs) c may = (part_facts may.0 c (keyword c) may.2).begun

pub open_leads : (st : Stand) (s : State) (ps : List Piece) → s.stand ≡ st → Stands st s ps → Leads (ps ++ sign token.OpenParen ∷ []) (machine.opened_by st s)
open_leads stand.PrefixOpening s ps is at =
    let front : List Piece = word (codes "Prefix") ∷ [] in
    record {
      lined = at.lined;
      none = at.none;
      spelled = ap (λ qs. qs ++ sign token.OpenParen ∷ []) at.spelled ∙ append_assoc (lines_text at.lined.lines) front (sign token.OpenParen ∷ []);
    }
open_leads (stand.Opening c) s ps is (inl at) =
    let last : List Piece = sign token.OpenParen ∷ [] in
    let m : Construct → State = λ c. record s { frames = machine.new_frame c ∷ s.frames; stand = machine.begun c; open_count = s.open_count + 1 } in
    subst (λ x. At (m x) (ps ++ last)) (sym at.1)
    (record {
      lined = at.0.lined;
      only = ap (λ bs. bare bottom ∷ bs) at.0.none;
      iris = [];
      few = refl;
      spelled = ap (λ qs. qs ++ last) at.0.spelled ∙ append_assoc (lines_text at.0.lined.lines) (word (codes "Ontology") ∷ []) last;
    })
open_leads (stand.Opening c) s ps is (inr at) =
    let last : List Piece = sign token.OpenParen ∷ [] in
    let bs : List Bare = map bare s.frames in
    let m : State = record s { frames = machine.new_frame c ∷ s.frames; stand = machine.begun c; open_count = s.open_count + 1 } in
    let head : List Piece = head_text at.inside.lined.lines at.inside.iris in
    let same : ps ++ last ≡ at.before ++ word (keyword c) ∷ sign token.OpenParen ∷ [] =
    ap (λ qs. qs ++ last) at.spelled ∙ append_assoc at.before (word (keyword c) ∷ []) last in
    subst (λ st. Stands st m (ps ++ last)) (sym (begun_in bs c at.may))
    (record {
      lined = at.inside.lined;
      iris = at.inside.iris;
      few = at.inside.few;
      stacked = subst (λ qs. Stacked s.prefixes head (new_bare c ∷ bs) qs) (sym same)
          (opened_in s.prefixes head bs at.before c at.may at.inside.stacked);
    })
open_leads stand.AnnotationOpening s ps is at =
    let last : List Piece = sign token.OpenParen ∷ [] in
    let counted : s.open_count + 1 ≡ s.open_count + 1 + 0 = omega arith in
    record {
      before = at.before;
      inside = at.inside;
      text = at.text;
      may = at.may;
      content = [];
      depth = 0;
      counted = counted;
      leads = λ rest h. h;
      spelled = ap (λ qs. qs ++ last) at.spelled ∙ append_assoc at.before (word at.text ∷ []) last;
    }
open_leads (stand.Passing base) s ps is at =
    let counted : s.open_count + 1 ≡ base + 1 + (at.depth + 1) = omega (arith, at.counted) in
    passing_more base s.open_count (s.open_count + 1) s.prefixes (map bare s.frames) ps (sign token.OpenParen) at (at.depth + 1) counted (λ rest h. h)
open_leads stand.Lines s ps is at = tt
open_leads stand.PrefixName s ps is at = tt
open_leads stand.PrefixEquals s ps is at = tt
open_leads stand.PrefixIri s ps is at = tt
open_leads stand.PrefixClose s ps is at = tt
open_leads (stand.Heading n) s ps is at = tt
open_leads stand.Within s ps is at = tt
open_leads stand.Closed s ps is at = tt

-- Closing

nil_is : (ws : List Sort) → machine.is_nil ws ≡ true → ws ≡ []
nil_is [] h = refl
nil_is (w ∷ ws) h = cc

-- a part is given to the frame around it
part_leads : (m : Makes) (s : State) (f : Frame) (ps : List Piece) (place : Sort) (t : Tree) → makes_a_part m ≡ true
    → machine.top_sort s.frames ≡ Some place → Fits s.prefixes place t → Inside s.prefixes (map bare s.frames) ps
    → Leads (ps ++ spelled t) (machine.finished m s f)
part_leads makes.Class s f ps place t h top fits inside =
    given_leads s.frames s (machine.with_class (Rattle.owl_reader.specs.Claims.class_by f.construct f.classes f.roles f.names)) ps place t (λ g. refl) top fits
    inside
part_leads makes.Property s f ps place t h top fits inside =
    given_leads s.frames s (machine.with_role (Rattle.logic_terms.specs.Same.inverse (Rattle.owl_reader.specs.Claims.first_role f.roles))) ps place t
    (λ g. refl)
    top fits inside
part_leads makes.Declared s f ps place t h top fits inside = given_leads s.frames s machine.with_any ps place t (λ g. refl) top fits inside
part_leads makes.Axioms s f ps place t h top fits inside = no_case h
part_leads makes.End s f ps place t h top fits inside = no_case h

top_leads : (fs : List Frame) (s : State) (ps : List Piece) → Inside s.prefixes (map bare fs) ps
    → Leads (ps ++ sign token.CloseParen ∷ []) (machine.closed_top fs s)
top_leads [] s ps inside = tt
top_leads (f ∷ []) s ps inside =
    let last : List Piece = sign token.CloseParen ∷ [] in
    let st = inside.stacked in
    let ontology : f.construct ≡ construct.Ontology = ap (λ (b : Bare). b.construct) st.is in
    let next : State = record s { frames = []; open_count = s.open_count - 1 } in
    let file : File = record { lines = inside.lined.lines; iris = inside.iris; items = st.items } in
    let head : List Piece = head_text inside.lined.lines inside.iris in
    let front : List Piece = word (codes "Ontology") ∷ sign token.OpenParen ∷ [] in
    let iris : List Piece = map iri_piece inside.iris in
    let items : List Piece = flat_map spelled_item st.items in
    let lines : List Piece = lines_text inside.lined.lines in
    choose (ps ++ last) (machine.is_nil f.wanted) _ _
    (λ h. subst (λ c. Leads (ps ++ last) (machine.finished (makes_of c) next f)) (sym ontology) (
      file,
      record {
        lines = inside.lined.are;
        iris = inside.few;
        items = subst (λ d. AllByRecursion (IsItem d) st.items) inside.lined.declared st.all;
      },
      ap (λ qs. qs ++ last) st.spelled
          ∙ (ap (λ qs. qs ++ last) (append_assoc lines (front ++ iris) items)
          ∙ append_assoc lines ((front ++ iris) ++ items) last),
      inside.lined.declared,
    ))
    (λ h. tt)
top_leads (f ∷ g ∷ []) s ps inside =
    let last : List Piece = sign token.CloseParen ∷ [] in
    let st = inside.stacked in
    let next : State = record s { frames = g ∷ []; open_count = s.open_count - 1 } in
    let front : List Piece = word (keyword f.construct) ∷ sign token.OpenParen ∷ [] in
    let parts : List Piece = flat_map spelled_note st.notes ++ spelled_all st.parts in
    let item : Item = Statement f.construct st.notes st.parts in
    let head : List Piece = head_text inside.lined.lines inside.iris in
    choose (ps ++ last) (machine.is_nil f.wanted) _ _
    (λ h. subst (λ m. Leads (ps ++ last) (machine.finished m next f)) (sym (item_facts f.construct (keyword f.construct) st.one).makes)
    (record {
      lined = inside.lined;
      iris = inside.iris;
      few = inside.few;
      stacked = subst (λ qs. Bottom s.prefixes head (bare g) qs)
          (sym (ap (λ qs. qs ++ last) st.spelled ∙ append_assoc st.under (front ++ parts) last))
          (bottom_more s.prefixes head (bare g) st.under item
          (st.one, st.matched, whole s.prefixes (bare f) st.parts (nil_is f.wanted h) st.filled) st.bottom);
    }))
    (λ h. tt)
top_leads (f ∷ g ∷ k ∷ gs) s ps inside =
    let last : List Piece = sign token.CloseParen ∷ [] in
    let st = inside.stacked in
    let next : State = record s { frames = g ∷ k ∷ gs; open_count = s.open_count - 1 } in
    let front : List Piece = word (keyword f.construct) ∷ sign token.OpenParen ∷ [] in
    let tree : Tree = Built f.construct st.parts in
    choose (ps ++ last) (machine.is_nil f.wanted) _ _
    (λ h. subst (λ qs. Leads qs (machine.finished (makes_of f.construct) next f))
    (sym (ap (λ qs. qs ++ last) st.spelled ∙ append_assoc st.under (front ++ spelled_all st.parts) last))
    (part_leads (makes_of f.construct) next f st.under st.place tree (part_facts st.place f.construct (keyword f.construct) st.one).makes st.wants
    (st.one, whole s.prefixes (bare f) st.parts (nil_is f.wanted h) st.filled)
    (record { lined = inside.lined; iris = inside.iris; few = inside.few; stacked = st.below })))
    (λ h. tt)

pub noted_in : (prefixes : Declared) (head : List Piece) (bs : List Bare) (ps : List Piece) (text : List ℕ) (content : List Piece) → MayNoteIn bs text
    → AreMatched content → Stacked prefixes head bs ps → Stacked prefixes head bs (ps ++ between text content)
noted_in prefixes head [] ps text content may match st = absurd st
noted_in prefixes head (b ∷ bs) ps text content may match st = noted prefixes head b bs ps text content may match st

passed_leads : (base : ℕ) (s : State) (ps : List Piece) → Passing base s.open_count s.prefixes (map bare s.frames) ps
    → At (machine.passed s base) (ps ++ sign token.CloseParen ∷ [])
passed_leads base s ps at = by (eqb (s.open_count - 1) base) refl
  where
    by : (b : Bool) → eqb (s.open_count - 1) base ≡ b
        → Stands (cond b stand.Within (stand.Passing base)) (machine.passed s base) (ps ++ sign token.CloseParen ∷ [])
    by true is =
        let last : List Piece = sign token.CloseParen ∷ [] in
        let front : List Piece = word at.text ∷ sign token.OpenParen ∷ [] in
        let back : s.open_count - 1 ≡ base = eqb-true (s.open_count - 1) base is in
        let flat : at.depth ≡ 0 = omega (arith, back, at.counted) in
        let match : are_matched 0 at.content ≡ true =
        ap (are_matched 0) (sym (append-nil at.content)) ∙ at.leads [] (eq-eqb at.depth 0 flat) in
        let head : List Piece = head_text at.inside.lined.lines at.inside.iris in
        record {
          lined = at.inside.lined;
          iris = at.inside.iris;
          few = at.inside.few;
          stacked = subst (λ qs. Stacked s.prefixes head (map bare s.frames) qs)
              (sym (ap (λ qs. qs ++ last) at.spelled ∙ append_assoc at.before (front ++ at.content) last))
              (noted_in s.prefixes head (map bare s.frames) at.before at.text at.content at.may match at.inside.stacked);
        }
    by false is =
        let other : s.open_count - 1 ≡ base → ⊥ = eqb-false (s.open_count - 1) base is in
        let some : 0 < at.depth = omega (arith, other, at.counted) in
        let counted : s.open_count - 1 ≡ base + 1 + (at.depth - 1) = omega (arith, some, at.counted) in
        passing_more base s.open_count (s.open_count - 1) s.prefixes (map bare s.frames) ps (sign token.CloseParen) at (at.depth - 1) counted
        (λ rest h. and_from (ltb 0 at.depth) (are_matched (at.depth - 1) rest) (lt-ltb 0 at.depth some) h)

are_more : (before : Declared) (ls : List Line) (l : Line) → AreLines before ls → is_prefix l.prefix ≡ true
    → is_in_profile_with (iri_of (declared_by before ls) l.prefix) [] true ≡ true → AreLines before (ls ++ l ∷ [])
are_more before [] l are plain fits = (plain, fits, tt)
are_more before (k ∷ ks) l are plain fits = (are.0, are.1, are_more (declare before k.prefix k.iri) ks l are.2 plain fits)

declared_more : (before : Declared) (ls : List Line) (l : Line) → declared_by before (ls ++ l ∷ []) ≡ declare (declared_by before ls) l.prefix l.iri
declared_more before [] l = refl
declared_more before (k ∷ ks) l = declared_more (declare before k.prefix k.iri) ks l

lines_more : (ls : List Line) (l : Line) → lines_text ls ++ spelled_line l ≡ lines_text (ls ++ l ∷ [])
lines_more [] l = sym (append-nil (spelled_line l))
lines_more (k ∷ ks) l = append_assoc (spelled_line k) (lines_text ks) (spelled_line l) ∙ ap (λ ps. spelled_line k ++ ps) (lines_more ks l)

pub close_leads : (st : Stand) (s : State) (ps : List Piece) → s.stand ≡ st → Stands st s ps → Leads (ps ++ sign token.CloseParen ∷ []) (machine.closed_by st s)
close_leads stand.PrefixClose s ps is at =
    let last : List Piece = sign token.CloseParen ∷ [] in
    let ls : List Line = at.line.lined.lines in
    let l : Line = record { prefix = s.prefix; iri = s.iri } in
    let more : List Piece = sign token.Equals ∷ iri_piece s.iri ∷ [] in
    record {
      lined = record {
        lines = ls ++ l ∷ [];
        are = are_more first_prefixes ls l at.line.lined.are at.plain
            (ap (λ d. is_in_profile_with (iri_of d s.prefix) [] true) (sym at.line.lined.declared) ∙ at.fits);
        declared = ap (λ d. declare d s.prefix s.iri) at.line.lined.declared ∙ sym (declared_more first_prefixes ls l);
      };
      none = at.line.none;
      spelled = ap (λ qs. qs ++ last) at.line.spelled
          ∙ (append_assoc (lines_text ls) (named_line s.prefix more) last
          ∙ (lines_more ls l ∙ sym (append-nil (lines_text (ls ++ l ∷ [])))));
    }
close_leads stand.Within s ps is at = top_leads s.frames s ps at
close_leads (stand.Heading n) s ps is at = top_leads s.frames s ps (headed n s.prefixes (map bare s.frames) ps at)
close_leads (stand.Passing base) s ps is at = passed_leads base s ps at
close_leads stand.Lines s ps is at = tt
close_leads stand.PrefixOpening s ps is at = tt
close_leads stand.PrefixName s ps is at = tt
close_leads stand.PrefixEquals s ps is at = tt
close_leads stand.PrefixIri s ps is at = tt
close_leads (stand.Opening c) s ps is at = tt
close_leads stand.AnnotationOpening s ps is at = tt
close_leads stand.Closed s ps is at = tt

pub equals_leads : (st : Stand) (s : State) (ps : List Piece) → s.stand ≡ st → Stands st s ps → Leads (ps ++ sign token.Equals ∷ []) (machine.equals_by st s)
equals_leads stand.PrefixEquals s ps is at =
    let last : List Piece = sign token.Equals ∷ [] in
    record {
      line = record {
        lined = at.line.lined;
        none = at.line.none;
        spelled = ap (λ qs. qs ++ last) at.line.spelled ∙ append_assoc (lines_text at.line.lined.lines) (named_line s.prefix []) last;
      };
      plain = at.plain;
      fits = at.fits;
    }
equals_leads (stand.Passing base) s ps is at =
    subst (λ st. Stands st s (ps ++ sign token.Equals ∷ [])) (sym is)
    (passing_more base s.open_count s.open_count s.prefixes (map bare s.frames) ps (sign token.Equals) at at.depth at.counted (λ rest h. h))
equals_leads stand.Lines s ps is at = tt
equals_leads stand.PrefixOpening s ps is at = tt
equals_leads stand.PrefixName s ps is at = tt
equals_leads stand.PrefixIri s ps is at = tt
equals_leads stand.PrefixClose s ps is at = tt
equals_leads (stand.Opening c) s ps is at = tt
equals_leads (stand.Heading n) s ps is at = tt
equals_leads stand.Within s ps is at = tt
equals_leads stand.AnnotationOpening s ps is at = tt
equals_leads stand.Closed s ps is at = tt

pub iri_leads : (st : Stand) (s : State) (ps : List Piece) (iri : List ℕ) → s.stand ≡ st → Stands st s ps
    → Leads (ps ++ iri_piece iri ∷ []) (machine.iri_by st s iri)
iri_leads stand.PrefixIri s ps iri is at =
    let last : List Piece = iri_piece iri ∷ [] in
    record {
      line = record {
        lined = at.line.lined;
        none = at.line.none;
        spelled = ap (λ qs. qs ++ last) at.line.spelled ∙ append_assoc (lines_text at.line.lined.lines) (named_line s.prefix (sign token.Equals ∷ [])) last;
      };
      plain = at.plain;
      fits = at.fits;
    }
iri_leads (stand.Heading n) s ps iri is at =
    let last : List Piece = iri_piece iri ∷ [] in
    choose (ps ++ last) (eqb n 0) _ _ (λ h. tt) (λ h.
    let other : n ≡ 0 → ⊥ = eqb-false n 0 h in
    let more : List (List ℕ) = at.iris ++ iri ∷ [] in
    let longer : length more ≡ length at.iris + 1 = length-append at.iris (iri ∷ []) in
    let few : length more + (n - 1) ≡ 2 = omega (arith, other, longer, at.few) in
    let front : List Piece = word (codes "Ontology") ∷ sign token.OpenParen ∷ [] in
    let lines : List Piece = lines_text at.lined.lines in
    record {
      lined = at.lined;
      only = at.only;
      iris = more;
      few = few;
      spelled = ap (λ qs. qs ++ last) at.spelled
          ∙ (append_assoc lines (front ++ map iri_piece at.iris) last
          ∙ ap (λ qs. lines ++ (front ++ qs)) (sym (map-append iri_piece at.iris (iri ∷ []))));
    })
iri_leads (stand.Passing base) s ps iri is at =
    subst (λ st. Stands st s (ps ++ iri_piece iri ∷ [])) (sym is)
    (passing_more base s.open_count s.open_count s.prefixes (map bare s.frames) ps (iri_piece iri) at at.depth at.counted (λ rest h. h))
iri_leads stand.Lines s ps iri is at = tt
iri_leads stand.PrefixOpening s ps iri is at = tt
iri_leads stand.PrefixName s ps iri is at = tt
iri_leads stand.PrefixEquals s ps iri is at = tt
iri_leads stand.PrefixClose s ps iri is at = tt
iri_leads (stand.Opening c) s ps iri is at = tt
iri_leads stand.Within s ps iri is at = tt
iri_leads stand.AnnotationOpening s ps iri is at = tt
iri_leads stand.Closed s ps iri is at = tt

quoted_leads : (st : Stand) (s : State) (ps : List Piece) (text : List ℕ) → s.stand ≡ st → Stands st s ps
    → Leads (ps ++ piece token.Quoted text ∷ []) (machine.quoted_by st s)
quoted_leads (stand.Passing base) s ps text is at =
    subst (λ st. Stands st s (ps ++ piece token.Quoted text ∷ [])) (sym is)
    (passing_more base s.open_count s.open_count s.prefixes (map bare s.frames) ps (piece token.Quoted text) at at.depth at.counted (λ rest h. h))
quoted_leads stand.Lines s ps text is at = tt
quoted_leads stand.PrefixOpening s ps text is at = tt
quoted_leads stand.PrefixName s ps text is at = tt
quoted_leads stand.PrefixEquals s ps text is at = tt
quoted_leads stand.PrefixIri s ps text is at = tt
quoted_leads stand.PrefixClose s ps text is at = tt
quoted_leads (stand.Opening c) s ps text is at = tt
quoted_leads (stand.Heading n) s ps text is at = tt
quoted_leads stand.Within s ps text is at = tt
quoted_leads stand.AnnotationOpening s ps text is at = tt
quoted_leads stand.Closed s ps text is at = tt

-- one token leads from one place to another
pub leads_on : (k : TokenKind) (text : List ℕ) (s : State) (ps : List Piece) → At s ps → Leads (ps ++ piece k text ∷ []) (free s (piece k text))
leads_on token.OpenParen text s ps at = open_leads s.stand s ps refl at
leads_on token.CloseParen text s ps at = close_leads s.stand s ps refl at
leads_on token.Equals text s ps at = equals_leads s.stand s ps refl at
leads_on token.Iri text s ps at = iri_leads s.stand s ps text refl at
leads_on token.Quoted text s ps at = quoted_leads s.stand s ps text refl at
leads_on token.Word text s ps at = word_leads s.stand s ps text refl at

pub at_start : At machine.fresh_state []
at_start = record { lined = record { lines = []; are = tt; declared = refl }; none = refl; spelled = refl }
