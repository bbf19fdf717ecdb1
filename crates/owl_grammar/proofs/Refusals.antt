-- Which fault a token has that the reading refuses.
use Rattle.std.proofs.Common.{◌≡◌, ℕ, ◌+◌, ◌-◌, ◌<◌, suc, inl, inr, Bool, true, false, cond, not, ◌&&◌, ◌||◌, eqb, List, [], ◌∷◌, ◌++◌, map, length, take, drop, Option, Some, None, Ok, Err, refl, sym, ap, subst, ◌∙◌, append_assoc, append-nil, arith}
use Rattle.std.specs.Prelude.{Result, codes}
use Rattle.std.specs.List.{flat_map, list_all}
use Rattle.std.proofs.lemmas.Bool.{and_parts}
use Rattle.std.proofs.Math.Bool.{and-false}
use Rattle.owl_tokens.specs.declared.tokens.TokenKind.{TokenKind}
use Rattle.owl_tokens.specs.declared.tokens.TokenKind.TheVariants as token
use Rattle.owl_reader.specs.declared.faults.Trouble.{Trouble}
use Rattle.owl_reader.specs.declared.faults.Trouble.TheVariants as trouble
use Rattle.owl_reader.specs.declared.kinds.Construct.{Construct}
use Rattle.owl_reader.specs.declared.kinds.Construct.TheVariants as construct
use Rattle.owl_reader.specs.declared.kinds.EntityKind.TheVariants as kind
use Rattle.owl_reader.specs.declared.kinds.Sort.{Sort}
use Rattle.owl_reader.specs.declared.kinds.Sort.TheVariants as sort
use Rattle.owl_reader.specs.declared.kinds.Makes.{Makes}
use Rattle.owl_reader.specs.declared.kinds.Makes.TheVariants as makes
use Rattle.owl_reader.specs.declared.stand.Stand.{Stand}
use Rattle.owl_reader.specs.declared.stand.Stand.TheVariants as stand
use Rattle.owl_reader.specs.Grammar.{same_bytes, keyword, construct_among, item_constructs, class_constructs, property_constructs, declared_constructs, makes_of, is_annotation}
use Rattle.owl_reader.specs.Names.{colon_at, Declared, iri_of, is_thing, is_nothing, is_top_property, is_bottom_property}
use Rattle.owl_reader.specs.Reading.{State, Frame}
use Rattle.owl_reader.specs.Reading as machine
use Rattle.owl_grammar.specs.Files.{Piece, piece, word, iri_piece, sign, Line, File, between, spelled_all, spelled_note, spelled_line, spelled_item, is_in_profile_with, IsOneOf}
use Rattle.owl_grammar.specs.Faults.{CanGoOn, LinesInFront, is_left_out, UndeclaredFault, LeftOutFault, NameFault, all_constructs, KeywordFault, WordFault, KindFault, NoPlace}
use Rattle.owl_grammar.proofs.Machine.{free, onward, runs, runs_append}
use Rattle.owl_grammar.proofs.Words.{not_true, of_each, has_colon, named_word, keyword_has_no_colon}
use Rattle.owl_grammar.proofs.Readings.{ok, err, file_runs}
use Rattle.owl_grammar.proofs.Stacks.{never, Bare, bare, Stack}
use Rattle.owl_grammar.proofs.States.{Lined, lines_text, head_text, Inside, InLine, Stands, At, Leads, leads_on, headed, colon_parts}
use Rattle.owl_grammar.proofs.Goes.{goes}

-- The lines in front

pub record Front (prefixes : Declared) (ps : List Piece) : Type 0 where
  pub lined : Lined prefixes
  pub in_front : LinesInFront ps lined.lines

line_front : (n : ℕ) (ds : Declared) (bs : List Bare) (ps more : List Piece) → InLine ds bs ps more → length more ≡ n → n < 6 → Front ds ps
line_front n ds bs ps more at is few = record {
  lined = at.lined;
  in_front = record {
    more = more;
    spelled = at.spelled;
    all = λ l rest h.
        let sizes : length more ≡ suc (suc (suc (suc (suc (suc (length rest)))))) = ap length h in
        let none : ⊥ = omega (arith, sizes, is, few) in
        none;
  };
}

abbrev first_text : List Piece → List ℕ
first_text [] = []
first_text (p ∷ ps) = p.text

no_line : (xs : List Piece) (l : Line) (rest : List Piece) → word (codes "Ontology") ∷ xs ≡ spelled_line l ++ rest → ⊥
no_line xs l rest h = never (ap (λ qs. same_bytes (first_text qs) (codes "Prefix")) h)

stack_front : (ds : Declared) (head : List Piece) (b : Bare) (gs : List Bare) (ps : List Piece) → Stack ds head b gs ps → (xs : List Piece) × (ps ≡ head ++ xs)
stack_front ds head b [] ps st = (flat_map spelled_item st.items, st.spelled)
stack_front ds head b (g ∷ []) ps st =
    let items : List Piece = flat_map spelled_item st.bottom.items in
    let more : List Piece = word (keyword b.construct) ∷ sign token.OpenParen ∷ (flat_map spelled_note st.notes ++ spelled_all st.parts) in
    (items ++ more, st.spelled ∙ (ap (λ qs. qs ++ more) st.bottom.spelled ∙ append_assoc head items more))
stack_front ds head b (g ∷ h ∷ gs) ps st =
    let under = stack_front ds head g (h ∷ gs) st.under st.below in
    let more : List Piece = word (keyword b.construct) ∷ sign token.OpenParen ∷ spelled_all st.parts in
    (under.0 ++ more, st.spelled ∙ (ap (λ qs. qs ++ more) under.1 ∙ append_assoc head under.0 more))

inside_front : (ds : Declared) (bs : List Bare) (before ps more : List Piece) → Inside ds bs before → ps ≡ before ++ more → Front ds ps
inside_front ds [] before ps more at is = absurd at.stacked
inside_front ds (b ∷ gs) before ps more at is =
    let lines : List Piece = lines_text at.lined.lines in
    let start : List Piece = sign token.OpenParen ∷ map iri_piece at.iris in
    let ontology : List Piece = word (codes "Ontology") ∷ start in
    let found = stack_front ds (head_text at.lined.lines at.iris) b gs before at.stacked in
    record {
      lined = at.lined;
      in_front = record {
        more = (ontology ++ found.0) ++ more;
        spelled = is ∙ (ap (λ qs. qs ++ more) (found.1 ∙ append_assoc lines ontology found.0) ∙ append_assoc lines (ontology ++ found.0) more);
        all = no_line ((start ++ found.0) ++ more);
      };
    }

pub fronts : (st : Stand) (s : State) (ps : List Piece) → Stands st s ps → Front s.prefixes ps
fronts stand.Lines s ps at = line_front 0 s.prefixes (map bare s.frames) ps _ at refl (omega arith)
fronts stand.PrefixOpening s ps at = line_front 1 s.prefixes (map bare s.frames) ps _ at refl (omega arith)
fronts stand.PrefixName s ps at = line_front 2 s.prefixes (map bare s.frames) ps _ at refl (omega arith)
fronts stand.PrefixEquals s ps at = line_front 3 s.prefixes (map bare s.frames) ps _ at.line refl (omega arith)
fronts stand.PrefixIri s ps at = line_front 4 s.prefixes (map bare s.frames) ps _ at.line refl (omega arith)
fronts stand.PrefixClose s ps at = line_front 5 s.prefixes (map bare s.frames) ps _ at.line refl (omega arith)
fronts (stand.Opening c) s ps (inl at) = line_front 1 s.prefixes (map bare s.frames) ps _ at.0 refl (omega arith)
fronts (stand.Opening c) s ps (inr at) = inside_front s.prefixes (map bare s.frames) at.before ps (word (keyword c) ∷ []) at.inside at.spelled
fronts (stand.Heading n) s ps at =
    inside_front s.prefixes (map bare s.frames) ps ps [] (headed n s.prefixes (map bare s.frames) ps at) (sym (append-nil ps))
fronts stand.Within s ps at = inside_front s.prefixes (map bare s.frames) ps ps [] at (sym (append-nil ps))
fronts stand.AnnotationOpening s ps at = inside_front s.prefixes (map bare s.frames) at.before ps (word at.text ∷ []) at.inside at.spelled
fronts (stand.Passing base) s ps at =
    inside_front s.prefixes (map bare s.frames) at.before ps (word at.text ∷ sign token.OpenParen ∷ at.content) at.inside at.spelled
fronts stand.Closed s ps at =
    let f : File = at.0 in
    record {
      lined = record { lines = f.lines; are = at.1.lines; declared = at.3 };
      in_front = record {
        more = between (codes "Ontology") (map iri_piece f.iris ++ flat_map spelled_item f.items);
        spelled = at.2;
        all = no_line (sign token.OpenParen ∷ (map iri_piece f.iris ++ flat_map spelled_item f.items) ++ sign token.CloseParen ∷ []);
      };
    }

-- What goes on and what doesn't

abbrev trouble_or : Trouble → Result State Trouble → Trouble
trouble_or y (Ok m) = y
trouble_or y (Err x) = x

same_err : (x y : Trouble) → err x ≡ err y → x ≡ y
same_err x y h = ap (trouble_or x) h

no_err : (x : Trouble) (m : State) → err x ≡ ok m → ⊥
no_err x m h = cc

pub blocked : (ps : List Piece) (p : Piece) (s : State) (x : Trouble) → runs machine.fresh_state ps ≡ ok s → free s p ≡ err x → CanGoOn (ps ++ p ∷ []) → ⊥
blocked ps p s x run is go =
    let start : State = machine.fresh_state in
    let file = file_runs go.0 go.2 in
    let one : runs start (ps ++ p ∷ []) ≡ err x =
    runs_append start ps (p ∷ []) ∙ (ap (λ r. onward r (λ m. runs m (p ∷ []))) run ∙ ap (λ r. onward r (λ n. Ok n)) is) in
    let all : runs start ((ps ++ p ∷ []) ++ go.1) ≡ err x = runs_append start (ps ++ p ∷ []) go.1 ∙ ap (λ r. onward r (λ m. runs m go.1)) one in
    no_err x file.end (sym all ∙ (ap (λ qs. runs start qs) go.3 ∙ file.run))

pub goes_on : (k : TokenKind) (text : List ℕ) (s m : State) (ps : List Piece) → At s ps → free s (piece k text) ≡ ok m → CanGoOn (ps ++ piece k text ∷ [])
goes_on k text s m ps at is =
    goes m.stand m (ps ++ piece k text ∷ []) (subst (Leads (ps ++ piece k text ∷ [])) is (leads_on k text s ps at))

-- Signs, IRIs and strings

abbrev OnlySyntax : Result State Trouble → Type 0
OnlySyntax (Ok m) = Unit {0}
OnlySyntax (Err x) = x ≡ trouble.Syntax

one_of : (b : Bool) (x y : Result State Trouble) → OnlySyntax x → OnlySyntax y → OnlySyntax (cond b x y)
one_of true x y p q = p
one_of false x y p q = q

given_only : (fs : List Frame) (s : State) (give : Frame → Frame) → OnlySyntax (machine.given_to fs s give)
given_only [] s give = refl
given_only (f ∷ fs) s give = tt

name_by_only : (o : Option Sort) (s : State) (iri : List ℕ) → OnlySyntax (machine.name_by o s iri)
name_by_only None s iri = refl
name_by_only (Some sort.Item) s iri = refl
name_by_only (Some sort.Declared) s iri = refl
name_by_only (Some sort.Class) s iri =
    one_of (is_thing iri) _ _ (given_only s.frames s _)
    (one_of (is_nothing iri) _ _ (given_only s.frames s _) (given_only s.frames (machine.enter s (machine.entity kind.Class iri)) _))
name_by_only (Some sort.Property) s iri = given_only s.frames (machine.enter s (machine.entity kind.Property iri)) _
name_by_only (Some sort.PropertyName) s iri = given_only s.frames (machine.enter s (machine.entity kind.Property iri)) _
name_by_only (Some sort.Individual) s iri = given_only s.frames (machine.enter s (machine.entity kind.Individual iri)) _
name_by_only (Some (sort.Name k)) s iri = given_only s.frames (machine.enter s (machine.entity k iri)) _
name_by_only (Some sort.AnnotationName) s iri = given_only s.frames s _

prefix_only : (s : State) (prefix local : List ℕ) → OnlySyntax (machine.prefix_named s prefix local)
prefix_only s prefix [] = tt
prefix_only s prefix (b ∷ bs) = refl

placed_only : (s : State) (prefix local iri : List ℕ) → OnlySyntax (machine.name_in_place s prefix local iri)
placed_only s prefix local iri =
    one_of (machine.is_prefix_name s.stand) _ _ (prefix_only s prefix local)
    (one_of (machine.is_inside s.stand) _ _ (name_by_only (machine.top_sort s.frames) s iri) refl)

opened_only : (st : Stand) (s : State) → OnlySyntax (machine.opened_by st s)
opened_only stand.PrefixOpening s = tt
opened_only (stand.Opening c) s = tt
opened_only stand.AnnotationOpening s = tt
opened_only (stand.Passing base) s = tt
opened_only _ s = refl

finished_only : (m : Makes) (s : State) (f : Frame) → OnlySyntax (machine.finished m s f)
finished_only makes.Class s f = given_only s.frames s _
finished_only makes.Property s f = given_only s.frames s _
finished_only makes.Declared s f = given_only s.frames s _
finished_only makes.Axioms s f = tt
finished_only makes.End s f = tt

top_only : (fs : List Frame) (s : State) → OnlySyntax (machine.closed_top fs s)
top_only [] s = refl
top_only (f ∷ fs) s =
    one_of (machine.is_nil f.wanted) _ _ (finished_only (makes_of f.construct) (record s { frames = fs; open_count = s.open_count - 1 }) f) refl

closed_only : (st : Stand) (s : State) → OnlySyntax (machine.closed_by st s)
closed_only stand.PrefixClose s = tt
closed_only stand.Within s = top_only s.frames s
closed_only (stand.Heading n) s = top_only s.frames s
closed_only (stand.Passing base) s = tt
closed_only _ s = refl

equals_only : (st : Stand) (s : State) → OnlySyntax (machine.equals_by st s)
equals_only stand.PrefixEquals s = tt
equals_only (stand.Passing base) s = tt
equals_only _ s = refl

iri_only : (st : Stand) (s : State) (iri : List ℕ) → OnlySyntax (machine.iri_by st s iri)
iri_only stand.PrefixIri s iri = tt
iri_only (stand.Heading n) s iri = one_of (eqb n 0) _ _ refl tt
iri_only (stand.Passing base) s iri = tt
iri_only _ s iri = refl

quoted_only : (st : Stand) (s : State) → OnlySyntax (machine.quoted_by st s)
quoted_only (stand.Passing base) s = tt
quoted_only _ s = refl

only_is : (r : Result State Trouble) (x : Trouble) → OnlySyntax r → r ≡ err x → x ≡ trouble.Syntax
only_is r x only is = subst OnlySyntax is only

-- Names

-- what is known where a word is no part of an annotation
pub record Place (s : State) (ps : List Piece) : Type 0 where
  pub run : runs machine.fresh_state ps ≡ ok s
  pub at : At s ps
  pub plain : (text : List ℕ) → free s (word text) ≡ machine.word_by (colon_at 0 text) s text

named_as : (s : State) (ps : List Piece) (here : Place s ps) (prefix : List ℕ) → has_colon prefix ≡ false
    → free s (word (prefix ++ 58 ∷ [])) ≡ machine.name s prefix []
named_as s ps here prefix colon = here.plain (prefix ++ 58 ∷ []) ∙ named_word s prefix [] colon

-- a prefix that isn't declared
undeclared_kind : (s : State) (ps : List Piece) (here : Place s ps) (prefix local : List ℕ) (x : Trouble) → has_colon prefix ≡ false
    → same_bytes prefix (codes "_") ≡ false → iri_of s.prefixes prefix ≡ None → machine.name_with None s prefix local ≡ err x → UndeclaredFault ps prefix x
undeclared_kind s ps here prefix local x colon blank none h = by (machine.is_prefix_name s.stand) refl local h
  where
    bare_name : machine.name s prefix [] ≡ machine.name_with None s prefix []
    bare_name =
        ap (λ b. cond b (err trouble.Unsupported) (machine.name_with (iri_of s.prefixes prefix) s prefix [])) blank
        ∙ ap (λ o. machine.name_with o s prefix []) none

    by : (b : Bool) → machine.is_prefix_name s.stand ≡ b → (local : List ℕ) → cond b (machine.prefix_named s prefix local) (err trouble.Prefix) ≡ err x
        → UndeclaredFault ps prefix x
    by false is local h =
        subst (UndeclaredFault ps prefix) (same_err trouble.Prefix x h)
        (blocked ps (word (prefix ++ 58 ∷ [])) s trouble.Prefix here.run
        (named_as s ps here prefix colon ∙ (bare_name ∙ ap (λ b. cond b (machine.prefix_named s prefix []) (err trouble.Prefix)) is)))
    by true is [] h = absurd (no_err x (record s { stand = stand.PrefixEquals; prefix = prefix }) (sym h))
    by true is (c ∷ cs) h =
        subst (UndeclaredFault ps prefix) (same_err trouble.Syntax x h)
        (goes_on token.Word (prefix ++ 58 ∷ []) s (record s { stand = stand.PrefixEquals; prefix = prefix }) ps here.at
        (named_as s ps here prefix colon ∙ (bare_name ∙ ap (λ b. cond b (machine.prefix_named s prefix []) (err trouble.Prefix)) is)))

-- a name whose prefix means this
full_kind : (s : State) (ps : List Piece) (prefix local front : List ℕ) (x : Trouble) (a b : Bool) → is_top_property (front ++ local) ≡ a
    → is_bottom_property (front ++ local) ≡ b → same_bytes prefix (codes "_") ≡ false
    → cond a (err trouble.Unsupported) (cond b (err trouble.Unsupported) (machine.name_in_place s prefix local (front ++ local))) ≡ err x
    → NameFault (Some front) ps prefix local x
full_kind s ps prefix local front x true b top low blank h =
    let out : is_left_out (Some front) prefix local ≡ true = λ i. blank i || not (not (top i || low i)) in
    subst (λ t. LeftOutFault t (Some front) ps prefix x) (sym out) (sym (same_err trouble.Unsupported x h))
full_kind s ps prefix local front x false true top low blank h =
    let out : is_left_out (Some front) prefix local ≡ true = λ i. blank i || not (not (top i || low i)) in
    subst (λ t. LeftOutFault t (Some front) ps prefix x) (sym out) (sym (same_err trouble.Unsupported x h))
full_kind s ps prefix local front x false false top low blank h =
    let out : is_left_out (Some front) prefix local ≡ false = λ i. blank i || not (not (top i || low i)) in
    subst (λ t. LeftOutFault t (Some front) ps prefix x) (sym out)
    (only_is (machine.name_in_place s prefix local (front ++ local)) x (placed_only s prefix local (front ++ local)) h)

told_kind : (s : State) (ps : List Piece) (here : Place s ps) (prefix local : List ℕ) (x : Trouble) (o : Option (List ℕ)) → has_colon prefix ≡ false
    → iri_of s.prefixes prefix ≡ o → same_bytes prefix (codes "_") ≡ false → machine.name_with o s prefix local ≡ err x → NameFault o ps prefix local x
told_kind s ps here prefix local x None colon none blank h =
    subst (λ b. LeftOutFault (b || false) None ps prefix x) (sym blank) (undeclared_kind s ps here prefix local x colon blank none h)
told_kind s ps here prefix local x (Some front) colon found blank h =
    full_kind s ps prefix local front x (is_top_property (front ++ local)) (is_bottom_property (front ++ local)) refl refl blank h

name_kind : (s : State) (ps : List Piece) (here : Place s ps) (prefix local : List ℕ) (x : Trouble) → has_colon prefix ≡ false
    → machine.name s prefix local ≡ err x → NameFault (iri_of s.prefixes prefix) ps prefix local x
name_kind s ps here prefix local x colon h = by (same_bytes prefix (codes "_")) refl h
  where
    by : (b : Bool) → same_bytes prefix (codes "_") ≡ b → cond b (err trouble.Unsupported) (machine.name_with (iri_of s.prefixes prefix) s prefix local) ≡ err x
        → NameFault (iri_of s.prefixes prefix) ps prefix local x
    by true blank h =
        subst (λ b. LeftOutFault (b || not (is_in_profile_with (iri_of s.prefixes prefix) local true)) (iri_of s.prefixes prefix) ps prefix x) (sym blank)
        (sym (same_err trouble.Unsupported x h))
    by false blank h = told_kind s ps here prefix local x (iri_of s.prefixes prefix) colon refl blank h

-- Keywords

abbrev is_begun_apart : Construct → Bool
is_begun_apart c =
    not (same_bytes (keyword c) (codes "Prefix")) && (not (same_bytes (keyword c) (codes "Ontology")) && not (same_bytes (keyword c) (codes "Annotation")))

all_apart : list_all is_begun_apart all_constructs ≡ true
all_apart = refl

-- a keyword of the tables, where a word is no part of an annotation
begun_word : (s : State) (ps : List Piece) (here : Place s ps) (c : Construct) → IsOneOf all_constructs c
    → free s (word (keyword c))
    ≡ cond (machine.is_lines s.stand) (err trouble.Syntax)
    (cond (machine.is_inside s.stand) (machine.keyword_by (machine.top_sort s.frames) s (keyword c)) (err trouble.Syntax))
begun_word s ps here c one =
    let apart = of_each is_begun_apart all_constructs (keyword c) c one all_apart in
    let first = and_parts (not (same_bytes (keyword c) (codes "Prefix")))
    (not (same_bytes (keyword c) (codes "Ontology")) && not (same_bytes (keyword c) (codes "Annotation"))) apart in
    let second = and_parts (not (same_bytes (keyword c) (codes "Ontology"))) (not (same_bytes (keyword c) (codes "Annotation"))) first.1 in
    let prefix : same_bytes (keyword c) (codes "Prefix") ≡ false = not_true (same_bytes (keyword c) (codes "Prefix")) first.0 in
    let ontology : same_bytes (keyword c) (codes "Ontology") ≡ false = not_true (same_bytes (keyword c) (codes "Ontology")) second.0 in
    let note : same_bytes (keyword c) (codes "Annotation") ≡ false = not_true (same_bytes (keyword c) (codes "Annotation")) second.1 in
    let annotates : Bool = machine.may_annotate s.frames in
    here.plain (keyword c)
    ∙ (ap (λ o. machine.word_by o s (keyword c)) (keyword_has_no_colon c)
    ∙ ((λ i. cond (machine.is_lines s.stand)
    (cond (prefix i) (ok (machine.moved s stand.PrefixOpening))
    (cond (ontology i) (ok (machine.moved s (stand.Opening construct.Ontology))) (err trouble.Syntax)))
    (cond (machine.is_inside s.stand)
    (cond (annotates && note i) (ok (machine.moved s stand.AnnotationOpening)) (machine.keyword_by (machine.top_sort s.frames) s (keyword c)))
    (err trouble.Syntax)))
    ∙ ap (λ b. cond (machine.is_lines s.stand) (err trouble.Syntax)
    (cond (machine.is_inside s.stand)
    (cond b (ok (machine.moved s stand.AnnotationOpening)) (machine.keyword_by (machine.top_sort s.frames) s (keyword c)))
    (err trouble.Syntax))) (and-false annotates)))

-- nothing of the tables begins where each of their keywords is refused
none_begins : (s : State) (ps : List Piece) (here : Place s ps) (x : Trouble) → trouble.Syntax ≡ x
    → ((c : Construct) → cond (machine.is_lines s.stand) (err trouble.Syntax)
    (cond (machine.is_inside s.stand) (machine.keyword_by (machine.top_sort s.frames) s (keyword c)) (err trouble.Syntax)) ≡ err trouble.Syntax)
    → KeywordFault ps x
none_begins s ps here x is none =
    subst (KeywordFault ps) is
    (λ may. blocked ps (word (keyword may.construct)) s trouble.Syntax here.run (begun_word s ps here may.construct may.one ∙ none may.construct) may.fine)

-- one of the tables does
one_begins : (s : State) (ps : List Piece) (here : Place s ps) (x : Trouble) (c : Construct) → trouble.Unsupported ≡ x → IsOneOf all_constructs c
    → machine.is_lines s.stand ≡ false → machine.is_inside s.stand ≡ true
    → machine.keyword_by (machine.top_sort s.frames) s (keyword c) ≡ ok (machine.moved s (stand.Opening c)) → KeywordFault ps x
one_begins s ps here x c is one lines inside begins =
    subst (KeywordFault ps) is (record {
      construct = c;
      one = one;
      fine = goes_on token.Word (keyword c) s (machine.moved s (stand.Opening c)) ps here.at
          (begun_word s ps here c one
          ∙ ((λ i. cond (lines i) (err trouble.Syntax)
          (cond (inside i) (machine.keyword_by (machine.top_sort s.frames) s (keyword c)) (err trouble.Syntax))) ∙ begins));
    })

abbrev OnlyUnsupported : Result State Trouble → Type 0
OnlyUnsupported (Ok m) = Unit {0}
OnlyUnsupported (Err x) = trouble.Unsupported ≡ x

begin_only : (s : State) (o : Option Construct) → OnlyUnsupported (machine.begin s o)
begin_only s None = refl
begin_only s (Some c) = tt

item_only : (s : State) (b : Bool) (o : Option Construct) → OnlyUnsupported (cond b (ok (machine.moved s stand.AnnotationOpening)) (machine.begin s o))
item_only s true o = tt
item_only s false o = begin_only s o

unsupported_is : (r : Result State Trouble) (x : Trouble) → OnlyUnsupported r → r ≡ err x → trouble.Unsupported ≡ x
unsupported_is r x only is = subst OnlyUnsupported is only

sort_kind : (o : Option Sort) (s : State) (ps : List Piece) (here : Place s ps) (text : List ℕ) (x : Trouble) → machine.top_sort s.frames ≡ o
    → machine.is_lines s.stand ≡ false → machine.is_inside s.stand ≡ true → machine.keyword_by o s text ≡ err x → KeywordFault ps x
sort_kind (Some sort.Item) s ps here text x top lines inside h =
    one_begins s ps here x construct.SubClassOf (unsupported_is _ x (item_only s (is_annotation text) (construct_among item_constructs text)) h) refl lines
    inside
    (ap (λ o. machine.keyword_by o s (keyword construct.SubClassOf)) top)
sort_kind (Some sort.Class) s ps here text x top lines inside h =
    one_begins s ps here x construct.ObjectComplementOf (unsupported_is _ x (begin_only s (construct_among class_constructs text)) h) refl lines inside
    (ap (λ o. machine.keyword_by o s (keyword construct.ObjectComplementOf)) top)
sort_kind (Some sort.Property) s ps here text x top lines inside h =
    one_begins s ps here x construct.ObjectInverseOf (unsupported_is _ x (begin_only s (construct_among property_constructs text)) h) refl lines inside
    (ap (λ o. machine.keyword_by o s (keyword construct.ObjectInverseOf)) top)
sort_kind (Some sort.Declared) s ps here text x top lines inside h =
    one_begins s ps here x construct.AnnotationProperty (unsupported_is _ x (begin_only s (construct_among declared_constructs text)) h) refl lines inside
    (ap (λ o. machine.keyword_by o s (keyword construct.AnnotationProperty)) top)
sort_kind None s ps here text x top lines inside h =
    none_begins s ps here x (same_err trouble.Syntax x h)
    (λ c i. cond (lines i) (err trouble.Syntax) (cond (inside i) (machine.keyword_by (top i) s (keyword c)) (err trouble.Syntax)))
sort_kind (Some sort.Individual) s ps here text x top lines inside h =
    none_begins s ps here x (same_err trouble.Syntax x h)
    (λ c i. cond (lines i) (err trouble.Syntax) (cond (inside i) (machine.keyword_by (top i) s (keyword c)) (err trouble.Syntax)))
sort_kind (Some (sort.Name k)) s ps here text x top lines inside h =
    none_begins s ps here x (same_err trouble.Syntax x h)
    (λ c i. cond (lines i) (err trouble.Syntax) (cond (inside i) (machine.keyword_by (top i) s (keyword c)) (err trouble.Syntax)))
sort_kind (Some sort.PropertyName) s ps here text x top lines inside h =
    none_begins s ps here x (same_err trouble.Syntax x h)
    (λ c i. cond (lines i) (err trouble.Syntax) (cond (inside i) (machine.keyword_by (top i) s (keyword c)) (err trouble.Syntax)))
sort_kind (Some sort.AnnotationName) s ps here text x top lines inside h =
    none_begins s ps here x (same_err trouble.Syntax x h)
    (λ c i. cond (lines i) (err trouble.Syntax) (cond (inside i) (machine.keyword_by (top i) s (keyword c)) (err trouble.Syntax)))

no_ok : (m : State) (x : Trouble) → ok m ≡ err x → ⊥
no_ok m x h = cc

lines_kind : (s : State) (a b : Bool) (x : Trouble)
    → cond a (ok (machine.moved s stand.PrefixOpening)) (cond b (ok (machine.moved s (stand.Opening construct.Ontology))) (err trouble.Syntax)) ≡ err x
    → trouble.Syntax ≡ x
lines_kind s true b x h = absurd (no_ok (machine.moved s stand.PrefixOpening) x h)
lines_kind s false true x h = absurd (no_ok (machine.moved s (stand.Opening construct.Ontology)) x h)
lines_kind s false false x h = same_err trouble.Syntax x h

inside_kind : (s : State) (a : Bool) (r : Result State Trouble) (x : Trouble) → cond a (ok (machine.moved s stand.AnnotationOpening)) r ≡ err x → r ≡ err x
inside_kind s true r x h = absurd (no_ok (machine.moved s stand.AnnotationOpening) x h)
inside_kind s false r x h = h

keyword_kind : (s : State) (ps : List Piece) (here : Place s ps) (text : List ℕ) (x : Trouble) → machine.keyword_word s text ≡ err x → KeywordFault ps x
keyword_kind s ps here text x h = by (machine.is_lines s.stand) (machine.is_inside s.stand) refl refl h
  where
    by : (a b : Bool) → machine.is_lines s.stand ≡ a → machine.is_inside s.stand ≡ b
        → cond a (machine.keyword_of_line s text) (cond b (machine.keyword_inside s text) (err trouble.Syntax)) ≡ err x → KeywordFault ps x
    by true b lines inside h =
        none_begins s ps here x (lines_kind s (same_bytes text (codes "Prefix")) (same_bytes text (codes "Ontology")) x h)
        (λ c i. cond (lines i) (err trouble.Syntax)
        (cond (machine.is_inside s.stand) (machine.keyword_by (machine.top_sort s.frames) s (keyword c)) (err trouble.Syntax)))
    by false true lines inside h =
        sort_kind (machine.top_sort s.frames) s ps here text x refl lines inside
        (inside_kind s (machine.may_annotate s.frames && same_bytes text (codes "Annotation")) (machine.keyword_by (machine.top_sort s.frames) s text) x h)
    by false false lines inside h =
        none_begins s ps here x (same_err trouble.Syntax x h)
        (λ c i. cond (lines i) (err trouble.Syntax) (cond (inside i) (machine.keyword_by (machine.top_sort s.frames) s (keyword c)) (err trouble.Syntax)))

-- One token

word_kind : (s : State) (ps : List Piece) (here : Place s ps) (text : List ℕ) (x : Trouble) → free s (word text) ≡ err x
    → WordFault (colon_at 0 text) s.prefixes ps text x
word_kind s ps here text x h = by (colon_at 0 text) refl (sym (here.plain text) ∙ h)
  where
    by : (o : Option ℕ) → colon_at 0 text ≡ o → machine.word_by o s text ≡ err x → WordFault o s.prefixes ps text x
    by None is h = keyword_kind s ps here text x h
    by (Some n) is h = name_kind s ps here (take n text) (drop (n + 1) text) x (colon_parts n text is).plain h

-- outside of annotations, or where every word is passed over
place_of : (st : Stand) (s : State) (ps : List Piece) → s.stand ≡ st → runs machine.fresh_state ps ≡ ok s → At s ps → (text : List ℕ) (x : Trouble)
    → free s (word text) ≡ err x → Place s ps
place_of (stand.Passing base) s ps is run at text x h = absurd (no_ok s x (sym (ap (λ st. machine.word st s text) is) ∙ h))
place_of stand.Lines s ps is run at text x h = record { run = run; at = at; plain = λ t. ap (λ st. machine.word st s t) is }
place_of stand.PrefixOpening s ps is run at text x h = record { run = run; at = at; plain = λ t. ap (λ st. machine.word st s t) is }
place_of stand.PrefixName s ps is run at text x h = record { run = run; at = at; plain = λ t. ap (λ st. machine.word st s t) is }
place_of stand.PrefixEquals s ps is run at text x h = record { run = run; at = at; plain = λ t. ap (λ st. machine.word st s t) is }
place_of stand.PrefixIri s ps is run at text x h = record { run = run; at = at; plain = λ t. ap (λ st. machine.word st s t) is }
place_of stand.PrefixClose s ps is run at text x h = record { run = run; at = at; plain = λ t. ap (λ st. machine.word st s t) is }
place_of (stand.Opening c) s ps is run at text x h = record { run = run; at = at; plain = λ t. ap (λ st. machine.word st s t) is }
place_of (stand.Heading n) s ps is run at text x h = record { run = run; at = at; plain = λ t. ap (λ st. machine.word st s t) is }
place_of stand.Within s ps is run at text x h = record { run = run; at = at; plain = λ t. ap (λ st. machine.word st s t) is }
place_of stand.AnnotationOpening s ps is run at text x h = record { run = run; at = at; plain = λ t. ap (λ st. machine.word st s t) is }
place_of stand.Closed s ps is run at text x h = record { run = run; at = at; plain = λ t. ap (λ st. machine.word st s t) is }

kind_of : (k : TokenKind) (text : List ℕ) (s : State) (ps : List Piece) (x : Trouble) → runs machine.fresh_state ps ≡ ok s → At s ps
    → free s (piece k text) ≡ err x → KindFault (piece k text).kind s.prefixes ps (piece k text).text x
kind_of token.OpenParen text s ps x run at h = only_is (machine.opened_by s.stand s) x (opened_only s.stand s) h
kind_of token.CloseParen text s ps x run at h = only_is (machine.closed_by s.stand s) x (closed_only s.stand s) h
kind_of token.Equals text s ps x run at h = only_is (machine.equals_by s.stand s) x (equals_only s.stand s) h
kind_of token.Iri text s ps x run at h = only_is (machine.iri_by s.stand s text) x (iri_only s.stand s text) h
kind_of token.Quoted text s ps x run at h = only_is (machine.quoted_by s.stand s) x (quoted_only s.stand s) h
kind_of token.Word text s ps x run at h = word_kind s ps (place_of s.stand s ps refl run at text x h) text x h

-- a token that is refused has no place, and has this fault
pub no_place : (k : TokenKind) (text : List ℕ) (s : State) (ps : List Piece) (x : Trouble) → runs machine.fresh_state ps ≡ ok s → At s ps
    → free s (piece k text) ≡ err x → NoPlace ps (piece k text) x
no_place k text s ps x run at h =
    let front = fronts s.stand s ps at in
    record {
      lines = front.lined.lines;
      in_front = front.in_front;
      no_place = blocked ps (piece k text) s x run h;
      kind = subst (λ d. KindFault (piece k text).kind d ps (piece k text).text x) front.lined.declared (kind_of k text s ps x run at h);
    }
