-- What was read so far goes on to a file.
use Rattle.std.proofs.Common.{◌≡◌, ℕ, ◌+◌, ◌-◌, ◌<◌, ◌≤◌, suc, zero, inl, inr, Bool, true, false, cond, not, ◌||◌, ltb, List, [], ◌∷◌, ◌++◌, map, length, Option, Some, None, refl, sym, ap, subst, ◌∙◌, append_assoc, append-nil, arith}
use Rattle.std.specs.Prelude.{codes}
use Rattle.std.specs.List.{flat_map, list_all, AllByRecursion}
use Rattle.std.proofs.lemmas.Bool.{and_parts, and_from, lt-ltb}
use Rattle.std.proofs.lemmas.List.{length-append}
use Rattle.owl_tokens.specs.declared.tokens.TokenKind.TheVariants as token
use Rattle.owl_reader.specs.declared.kinds.Construct.{Construct}
use Rattle.owl_reader.specs.declared.kinds.Construct.TheVariants as construct
use Rattle.owl_reader.specs.declared.kinds.Sort.{Sort}
use Rattle.owl_reader.specs.declared.kinds.Sort.TheVariants as sort
use Rattle.owl_reader.specs.declared.stand.Stand.{Stand}
use Rattle.owl_reader.specs.declared.stand.Stand.TheVariants as stand
use Rattle.owl_reader.specs.Grammar.{same_bytes, keyword, sorts, repeats}
use Rattle.owl_reader.specs.Names.{Declared, declare, iri_of, is_top_property, is_bottom_property, first_prefixes}
use Rattle.owl_reader.specs.Reading.{State}
use Rattle.owl_grammar.specs.Files.{Piece, word, iri_piece, sign, Name, Tree, Named, Built, Trees, no_tree, also_tree, Item, Statement, Line, between, spelled, spelled_all, spelled_note, spelled_item, are_matched, is_prefix, is_in_profile, is_in_profile_with, is_name, Fits, Fill, IsItem, declared_by}
use Rattle.owl_grammar.specs.Faults.{CanGoOn}
use Rattle.owl_grammar.proofs.Words.{same_bytes-true, has_colon}
use Rattle.owl_grammar.proofs.Stacks.{Bare, bare, join, spelled_join, can_fill, Filled, advanced, Stack, grow, bottom_more, new_bare}
use Rattle.owl_grammar.proofs.States.{lines_text, head_text, Stacked, Inside, Passing, Opening, InLine, Stands, headed, no_case, opened_in, noted_in, open_leads, close_leads, equals_leads, iri_leads, prefix_leads}

-- A name that is in the profile whatever its prefix means

longer_differs : (xs ys : List ℕ) (n : ℕ) → length ys ≡ n → n < length xs → same_bytes xs ys ≡ false
longer_differs xs ys n is lt = by (same_bytes xs ys) refl
  where
    by : (b : Bool) → same_bytes xs ys ≡ b → same_bytes xs ys ≡ false
    by false h = h
    by true h =
        let same : length xs ≡ length ys = ap length (same_bytes-true xs ys h) in
        absurd (let none : ⊥ = omega (arith, same, is) in none)

no_top : (iri : List ℕ) → 47 < length iri → is_top_property iri ≡ false
unfolding is_top_property
no_top iri lt = longer_differs iri (codes "http://www.w3.org/2002/07/owl#topObjectProperty") 47 refl lt

no_bottom : (iri : List ℕ) → 50 < length iri → is_bottom_property iri ≡ false
unfolding is_bottom_property
no_bottom iri lt = longer_differs iri (codes "http://www.w3.org/2002/07/owl#bottomObjectProperty") 50 refl lt

long_fits : (front local : List ℕ) → 50 < length local → is_in_profile (front ++ local) ≡ true
long_fits front local lt =
    let all : length (front ++ local) ≡ length front + length local = length-append front local in
    let top : 47 < length (front ++ local) = omega (arith, all) in
    let low : 50 < length (front ++ local) = omega (arith, all) in
    λ i. not (no_top (front ++ local) top i || no_bottom (front ++ local) low i)

abbrev is_there : Option (List ℕ) → Bool
is_there None = false
is_there (Some iri) = true

keeps : (ds : Declared) (p i q : List ℕ) → is_there (iri_of ds q) ≡ true → is_there (iri_of (declare ds p i) q) ≡ true
keeps [] p i q h = no_case h
keeps (d ∷ ds) p i q h = by (same_bytes p d.0) h (keeps ds p i q)
  where
    told : (b : Bool) → is_there (cond b (Some d.1) (iri_of ds q)) ≡ true → is_there (cond b (Some i) (iri_of ds q)) ≡ true
    told true h = refl
    told false h = h

    later : (b : Bool) → is_there (cond b (Some d.1) (iri_of ds q)) ≡ true → (is_there (iri_of ds q) ≡ true → is_there (iri_of (declare ds p i) q) ≡ true)
        → is_there (cond b (Some d.1) (iri_of (declare ds p i) q)) ≡ true
    later true h more = refl
    later false h more = more h

    by : (a : Bool) → is_there (cond (same_bytes q d.0) (Some d.1) (iri_of ds q)) ≡ true
        → (is_there (iri_of ds q) ≡ true → is_there (iri_of (declare ds p i) q) ≡ true)
        → is_there (iri_of (cond a ((d.0, i) ∷ ds) (d ∷ declare ds p i)) q) ≡ true
    by true h more = told (same_bytes q d.0) h
    by false h more = later (same_bytes q d.0) h more

all_keep : (ls : List Line) (ds : Declared) (q : List ℕ) → is_there (iri_of ds q) ≡ true → is_there (iri_of (declared_by ds ls) q) ≡ true
all_keep [] ds q h = h
all_keep (l ∷ ls) ds q h = all_keep ls (declare ds l.prefix l.iri) q (keeps ds l.prefix l.iri q h)

first_has : is_there (iri_of first_prefixes (codes "xsd")) ≡ true
unfolding first_prefixes
first_has = refl

abbrev some_name : Name
some_name = record { prefix = codes "xsd"; local = codes "aaaaaaaaaaaaaaaaaaaaaaaaaaaaaaaaaaaaaaaaaaaaaaaaaaaaaaaaaaaa" }

some_is_name : (ds : Declared) (ls : List Line) → ds ≡ declared_by first_prefixes ls → is_name ds some_name ≡ true
some_is_name ds ls is =
    by (iri_of ds (codes "xsd")) (ap (λ d. is_there (iri_of d (codes "xsd"))) is ∙ all_keep ls first_prefixes (codes "xsd") first_has)
  where
    by : (o : Option (List ℕ)) → is_there o ≡ true → is_in_profile_with o some_name.local false ≡ true
    by None h = no_case h
    by (Some front) h =
        let size : length some_name.local ≡ 60 = refl in
        let big : 50 < length some_name.local = omega (arith, size) in
        long_fits front some_name.local big

-- A prefix that nothing declares

abbrev longest : Declared → ℕ
longest [] = 0
longest (d ∷ ds) = length d.0 + longest ds

undeclared : (ds : Declared) (p : List ℕ) → longest ds < length p → iri_of ds p ≡ None
undeclared [] p lt = refl
undeclared (d ∷ ds) p lt =
    let here : length d.0 < length p = omega arith in
    let rest : longest ds < length p = omega arith in
    ap (λ b. cond b (Some d.1) (iri_of ds p)) (longer_differs p d.0 (length d.0) refl here) ∙ undeclared ds p rest

abbrev letters : ℕ → List ℕ
letters zero = 97 ∷ []
letters (suc n) = 97 ∷ letters n

letters_length : (n : ℕ) → n < length (letters n)
letters_length zero = omega arith
letters_length (suc n) = let more : n < length (letters n) = letters_length n in omega (arith, more)

no_colon : (n : ℕ) → has_colon (letters n) ≡ false
no_colon zero = refl
no_colon (suc n) = no_colon n

no_blank : (n : ℕ) → same_bytes (letters n) (codes "_") ≡ false
no_blank zero = refl
no_blank (suc n) = refl

letters_plain : (n : ℕ) → is_prefix (letters n) ≡ true
letters_plain n = λ i. not (no_colon n i || no_blank n i)

-- Parts that are still wanted

abbrev filler : Sort → Tree
filler sort.Declared = Built construct.AnnotationProperty (also_tree (Named some_name) no_tree)
filler _ = Named some_name

filler_fits : (ds : Declared) (s : Sort) → can_fill s ≡ true → is_name ds some_name ≡ true → Fits ds s (filler s)
filler_fits ds sort.Item h is = no_case h
filler_fits ds sort.Declared h is = (refl, ((refl, is), tt))
filler_fits ds sort.Class h is = (refl, is)
filler_fits ds sort.Property h is = (refl, is)
filler_fits ds sort.Individual h is = (refl, is)
filler_fits ds (sort.Name k) h is = (refl, is)
filler_fits ds sort.PropertyName h is = (refl, is)
filler_fits ds sort.AnnotationName h is = (refl, is)

abbrev fillers : List Sort → Trees
fillers [] = no_tree
fillers (s ∷ ss) = also_tree (filler s) (fillers ss)

fillers_fill : (ds : Declared) (ss : List Sort) (more : Option Sort) → list_all can_fill ss ≡ true → is_name ds some_name ≡ true → Fill ds ss more (fillers ss)
fillers_fill ds [] more h is = tt
fillers_fill ds (s ∷ ss) more h is =
    let both = and_parts (can_fill s) (list_all can_fill ss) h in
    (filler_fits ds s both.0 is, fillers_fill ds ss more both.1 is)

abbrev last : List Piece
last = sign token.CloseParen ∷ []

-- what open frames go on to
record Completed (ds : Declared) (head ps : List Piece) : Type 0 where
  items : List Item
  all : AllByRecursion (IsItem ds) items
  rest : List Piece
  spelled : ps ++ rest ≡ head ++ flat_map spelled_item items

filled_fill : (ds : Declared) (b : Bare) (ts : Trees) → is_name ds some_name ≡ true → Filled ds b ts
    → Fill ds (sorts b.construct) (repeats b.construct) (join ts (fillers b.wanted))
filled_fill ds b ts is filled = filled.leads (fillers b.wanted) (fillers_fill ds b.wanted (repeats b.construct) filled.fillable is)

complete : (ds : Declared) (head : List Piece) (b : Bare) (gs : List Bare) (ps : List Piece) → is_name ds some_name ≡ true → Stack ds head b gs ps
    → Completed ds head ps
complete ds head b [] ps is st = record { items = st.items; all = st.all; rest = []; spelled = append-nil ps ∙ st.spelled }
complete ds head b (g ∷ []) ps is st =
    let ts : Trees = join st.parts (fillers b.wanted) in
    let item : Item = Statement b.construct st.notes ts in
    let under = bottom_more ds head g st.under item (st.one, st.matched, filled_fill ds b st.parts is st.filled) st.bottom in
    let front : List Piece = word (keyword b.construct) ∷ sign token.OpenParen ∷ [] in
    let notes : List Piece = flat_map spelled_note st.notes in
    let here : List Piece = spelled_all st.parts in
    let more : List Piece = spelled_all (fillers b.wanted) in
    record {
      items = under.items;
      all = under.all;
      rest = more ++ last;
      spelled = ap (λ qs. qs ++ (more ++ last)) st.spelled
          ∙ (append_assoc st.under (front ++ (notes ++ here)) (more ++ last)
          ∙ (ap (λ qs. st.under ++ (front ++ qs)) (sym (append_assoc (notes ++ here) more last))
          ∙ (ap (λ qs. st.under ++ (front ++ (qs ++ last))) (append_assoc notes here more)
          ∙ (ap (λ qs. st.under ++ (front ++ ((notes ++ qs) ++ last))) (sym (spelled_join st.parts (fillers b.wanted)))
          ∙ under.spelled))));
    }
complete ds head b (g ∷ h ∷ gs) ps is st =
    let ts : Trees = join st.parts (fillers b.wanted) in
    let tree : Tree = Built b.construct ts in
    let next = complete ds head (advanced g) (h ∷ gs) (st.under ++ spelled tree) is
    (grow ds head g (h ∷ gs) st.under st.place tree st.wants (st.one, filled_fill ds b st.parts is st.filled) st.below) in
    let front : List Piece = word (keyword b.construct) ∷ sign token.OpenParen ∷ [] in
    let here : List Piece = spelled_all st.parts in
    let more : List Piece = spelled_all (fillers b.wanted) in
    let closed : ps ++ (more ++ last) ≡ st.under ++ spelled tree =
    ap (λ qs. qs ++ (more ++ last)) st.spelled
    ∙ (append_assoc st.under (front ++ here) (more ++ last)
    ∙ (ap (λ qs. st.under ++ (front ++ qs)) (sym (append_assoc here more last))
    ∙ ap (λ qs. st.under ++ (front ++ (qs ++ last))) (sym (spelled_join st.parts (fillers b.wanted))))) in
    record {
      items = next.items;
      all = next.all;
      rest = (more ++ last) ++ next.rest;
      spelled = sym (append_assoc ps (more ++ last) next.rest) ∙ (ap (λ qs. qs ++ next.rest) closed ∙ next.spelled);
    }

-- The places

-- a front of what goes on goes on
pub front_goes : (ps qs : List Piece) → CanGoOn (ps ++ qs) → CanGoOn ps
front_goes ps qs go = (go.0, qs ++ go.1, go.2, sym (append_assoc ps qs go.1) ∙ go.3)

inside_goes : (ds : Declared) (bs : List Bare) (ps : List Piece) → Inside ds bs ps → CanGoOn ps
inside_goes ds [] ps at = absurd at.stacked
inside_goes ds (b ∷ gs) ps at =
    let ls : List Line = at.lined.lines in
    let lines : List Piece = lines_text ls in
    let done = complete ds (head_text ls at.iris) b gs ps (some_is_name ds ls at.lined.declared) at.stacked in
    let front : List Piece = word (codes "Ontology") ∷ sign token.OpenParen ∷ [] in
    let iris : List Piece = map iri_piece at.iris in
    let items : List Piece = flat_map spelled_item done.items in (
      record { lines = ls; iris = at.iris; items = done.items },
      done.rest ++ last,
      record {
        lines = at.lined.are;
        iris = at.few;
        items = subst (λ d. AllByRecursion (IsItem d) done.items) at.lined.declared done.all;
      },
      sym (append_assoc ps done.rest last)
          ∙ (ap (λ qs. qs ++ last) done.spelled
          ∙ (ap (λ qs. qs ++ last) (append_assoc lines (front ++ iris) items)
          ∙ append_assoc lines ((front ++ iris) ++ items) last)),
    )

line_goes : (ds : Declared) (bs : List Bare) (ps : List Piece) → InLine ds bs ps [] → CanGoOn ps
line_goes ds bs ps at =
    let few : 0 ≤ 2 = omega arith in (
      record { lines = at.lined.lines; iris = []; items = [] },
      between (codes "Ontology") [],
      record { lines = at.lined.are; iris = few; items = tt },
      ap (λ qs. qs ++ between (codes "Ontology") []) (at.spelled ∙ append-nil (lines_text at.lined.lines)),
    )

abbrev standing_at : Stand → State → State
standing_at st s = record s { stand = st }

close_goes : (s : State) (ps : List Piece) → Stands stand.PrefixClose s ps → CanGoOn ps
close_goes s ps at = front_goes ps last (line_goes (declare s.prefixes s.prefix s.iri) (map bare s.frames) (ps ++ last)
    (close_leads stand.PrefixClose (standing_at stand.PrefixClose s) ps refl at))

iri_goes : (s : State) (ps : List Piece) → Stands stand.PrefixIri s ps → CanGoOn ps
iri_goes s ps at =
    front_goes ps (iri_piece [] ∷ [])
    (close_goes (record s { stand = stand.PrefixClose; iri = [] }) (ps ++ iri_piece [] ∷ [])
    (iri_leads stand.PrefixIri (standing_at stand.PrefixIri s) ps [] refl at))

equals_goes : (s : State) (ps : List Piece) → Stands stand.PrefixEquals s ps → CanGoOn ps
equals_goes s ps at =
    front_goes ps (sign token.Equals ∷ [])
    (iri_goes (standing_at stand.PrefixIri s) (ps ++ sign token.Equals ∷ []) (equals_leads stand.PrefixEquals (standing_at stand.PrefixEquals s) ps refl at))

name_goes : (s : State) (ps : List Piece) → Stands stand.PrefixName s ps → CanGoOn ps
name_goes s ps at =
    let p : List ℕ = letters (longest s.prefixes) in
    let none : iri_of s.prefixes p ≡ None = undeclared s.prefixes p (letters_length (longest s.prefixes)) in
    let next : List Piece = word (p ++ 58 ∷ []) ∷ [] in
    front_goes ps next
    (equals_goes (record s { stand = stand.PrefixEquals; prefix = p }) (ps ++ next)
    (prefix_leads s ps p [] at (letters_plain (longest s.prefixes)) (ap (λ o. is_in_profile_with o [] true) none)))

prefix_goes : (s : State) (ps : List Piece) → Stands stand.PrefixOpening s ps → CanGoOn ps
prefix_goes s ps at =
    front_goes ps (sign token.OpenParen ∷ [])
    (name_goes (record s { stand = stand.PrefixName; open_count = s.open_count + 1 }) (ps ++ sign token.OpenParen ∷ [])
    (open_leads stand.PrefixOpening (standing_at stand.PrefixOpening s) ps refl at))

opening_goes : (c : Construct) (ds : Declared) (bs : List Bare) (ps : List Piece) → Opening c ds bs ps → CanGoOn ps
opening_goes c ds bs ps at =
    let next : List Piece = sign token.OpenParen ∷ [] in
    let head : List Piece = head_text at.inside.lined.lines at.inside.iris in
    front_goes ps next
    (inside_goes ds (new_bare c ∷ bs) (ps ++ next) (record {
      lined = at.inside.lined;
      iris = at.inside.iris;
      few = at.inside.few;
      stacked = subst (λ qs. Stacked ds head (new_bare c ∷ bs) qs)
          (sym (ap (λ qs. qs ++ next) at.spelled ∙ append_assoc at.before (word (keyword c) ∷ []) next))
          (opened_in ds head bs at.before c at.may at.inside.stacked);
    }))

ontology_goes : (ds : Declared) (bs : List Bare) (ps : List Piece) → InLine ds bs ps (word (codes "Ontology") ∷ []) → CanGoOn ps
ontology_goes ds bs ps at =
    let few : 0 ≤ 2 = omega arith in
    let rest : List Piece = sign token.OpenParen ∷ last in (
      record { lines = at.lined.lines; iris = []; items = [] },
      rest,
      record { lines = at.lined.are; iris = few; items = tt },
      ap (λ qs. qs ++ rest) at.spelled ∙ append_assoc (lines_text at.lined.lines) (word (codes "Ontology") ∷ []) rest,
    )

abbrev closes : ℕ → List Piece
closes zero = []
closes (suc n) = sign token.CloseParen ∷ closes n

closes_match : (n : ℕ) → are_matched n (closes n) ≡ true
closes_match zero = refl
closes_match (suc n) =
    let some : 0 < suc n = omega arith in
    let less : suc n - 1 ≡ n = omega arith in
    and_from (ltb 0 (suc n)) (are_matched (suc n - 1) (closes n)) (lt-ltb 0 (suc n) some) (ap (λ k. are_matched k (closes n)) less ∙ closes_match n)

passing_goes : (base count : ℕ) (ds : Declared) (bs : List Bare) (ps : List Piece) → Passing base count ds bs ps → CanGoOn ps
passing_goes base count ds bs ps at =
    let head : List Piece = head_text at.inside.lined.lines at.inside.iris in
    let front : List Piece = word at.text ∷ sign token.OpenParen ∷ [] in
    let ends : List Piece = closes at.depth in
    let rest : List Piece = ends ++ last in
    let whole : List Piece = at.content ++ ends in
    front_goes ps rest
    (inside_goes ds bs (ps ++ rest) (record {
      lined = at.inside.lined;
      iris = at.inside.iris;
      few = at.inside.few;
      stacked = subst (λ qs. Stacked ds head bs qs)
          (sym (ap (λ qs. qs ++ rest) at.spelled
          ∙ (append_assoc at.before (front ++ at.content) rest
          ∙ ap (λ qs. at.before ++ (front ++ qs)) (sym (append_assoc at.content ends last)))))
          (noted_in ds head bs at.before at.text whole at.may (at.leads ends (closes_match at.depth)) at.inside.stacked);
    }))

noting_goes : (s : State) (ps : List Piece) → Stands stand.AnnotationOpening s ps → CanGoOn ps
noting_goes s ps at =
    let next : List Piece = sign token.OpenParen ∷ [] in
    front_goes ps next
    (passing_goes s.open_count (s.open_count + 1) s.prefixes (map bare s.frames) (ps ++ next)
    (open_leads stand.AnnotationOpening (standing_at stand.AnnotationOpening s) ps refl at))

-- what was read so far goes on to a file
pub goes : (st : Stand) (s : State) (ps : List Piece) → Stands st s ps → CanGoOn ps
goes stand.Lines s ps at = line_goes s.prefixes (map bare s.frames) ps at
goes stand.PrefixOpening s ps at = prefix_goes s ps at
goes stand.PrefixName s ps at = name_goes s ps at
goes stand.PrefixEquals s ps at = equals_goes s ps at
goes stand.PrefixIri s ps at = iri_goes s ps at
goes stand.PrefixClose s ps at = close_goes s ps at
goes (stand.Opening c) s ps (inl at) = ontology_goes s.prefixes (map bare s.frames) ps at.0
goes (stand.Opening c) s ps (inr at) = opening_goes c s.prefixes (map bare s.frames) ps at
goes (stand.Heading n) s ps at = inside_goes s.prefixes (map bare s.frames) ps (headed n s.prefixes (map bare s.frames) ps at)
goes stand.Within s ps at = inside_goes s.prefixes (map bare s.frames) ps at
goes stand.AnnotationOpening s ps at = noting_goes s ps at
goes (stand.Passing base) s ps at = passing_goes base s.open_count s.prefixes (map bare s.frames) ps at
goes stand.Closed s ps at = (at.0, [], at.1, append-nil ps ∙ at.2)
