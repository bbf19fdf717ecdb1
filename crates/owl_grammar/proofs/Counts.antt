-- How many parentheses are open behind each token.
use Rattle.std.proofs.Common.{◌≡◌, ℕ, ◌+◌, ◌-◌, ◌<◌, Bool, true, false, cond, ◌&&◌, eqb, ltb, List, [], ◌∷◌, ◌++◌, map, take, drop, Option, Some, None, Ok, Err, refl, sym, ap, subst, ◌∙◌}
use Rattle.std.specs.Prelude.{Result, codes}
use Rattle.std.proofs.lemmas.Bool.{and_parts, ltb-true, lt-leb}
use Rattle.logic_terms.specs.Concept.{Claim}
use Rattle.owl_tokens.specs.declared.tokens.TokenKind.{TokenKind}
use Rattle.owl_tokens.specs.declared.tokens.TokenKind.TheVariants as token
use Rattle.owl_tokens.specs.Tokens.{Token, Ending, Whole}
use Rattle.owl_reader.specs.declared.faults.Trouble.{Trouble}
use Rattle.owl_reader.specs.declared.faults.Trouble.TheVariants as trouble
use Rattle.owl_reader.specs.declared.kinds.Construct.{Construct}
use Rattle.owl_reader.specs.declared.kinds.EntityKind.TheVariants as kind
use Rattle.owl_reader.specs.declared.kinds.Entity.{Entity}
use Rattle.owl_reader.specs.declared.kinds.Sort.{Sort}
use Rattle.owl_reader.specs.declared.kinds.Sort.TheVariants as sort
use Rattle.owl_reader.specs.declared.kinds.Makes.{Makes}
use Rattle.owl_reader.specs.declared.kinds.Makes.TheVariants as makes
use Rattle.owl_reader.specs.declared.stand.Stand.{Stand}
use Rattle.owl_reader.specs.declared.stand.Stand.TheVariants as stand
use Rattle.owl_reader.specs.Grammar.{same_bytes, construct_among, item_constructs, class_constructs, property_constructs, declared_constructs, makes_of, is_annotation}
use Rattle.owl_reader.specs.Names.{colon_at, iri_of, is_thing, is_nothing, is_top_property, is_bottom_property}
use Rattle.owl_reader.specs.Reading.{State, Frame}
use Rattle.owl_reader.specs.Reading as machine
use Rattle.owl_reader.specs.declared.faults.OwlFault.{OwlFault}
use Rattle.owl_reader.specs.declared.faults.OwlFault.TheVariants as fault
use Rattle.owl_reader.specs.declared.reading.OwlDoc.{OwlDoc}
use Rattle.owl_reader.specs.Shown.{Answers, Reads}
use Rattle.owl_tokens.proofs.Cutting.{one_cut}
use Rattle.owl_grammar.specs.Files.{Piece, piece, piece_of, File, is_open, is_close, is_shallow, IsOwlFile}
use Rattle.owl_grammar.proofs.Machine.{free, free_by, onward, runs}
use Rattle.owl_grammar.proofs.Readings.{ok, err, file_runs}

-- a step leaves so many open
abbrev pub Counts : ℕ → Result State Trouble → Type 0
Counts n (Ok m) = m.open_count ≡ n
Counts n (Err x) = Unit {0}

either : (n : ℕ) (b : Bool) (x y : Result State Trouble) → Counts n x → Counts n y → Counts n (cond b x y)
either n true x y p q = p
either n false x y p q = q

given_counts : (fs : List Frame) (s : State) (give : Frame → Frame) → Counts s.open_count (machine.given_to fs s give)
given_counts [] s give = tt
given_counts (f ∷ fs) s give = refl

class_counts : (s : State) (iri : List ℕ) → Counts s.open_count (machine.class_named s iri)
class_counts s iri =
    either s.open_count (is_thing iri) _ _ (given_counts s.frames s _)
    (either s.open_count (is_nothing iri) _ _ (given_counts s.frames s _) (given_counts s.frames (machine.enter s (machine.entity kind.Class iri)) _))

name_by_counts : (o : Option Sort) (s : State) (iri : List ℕ) → Counts s.open_count (machine.name_by o s iri)
name_by_counts None s iri = tt
name_by_counts (Some sort.Item) s iri = tt
name_by_counts (Some sort.Declared) s iri = tt
name_by_counts (Some sort.Class) s iri = class_counts s iri
name_by_counts (Some sort.Property) s iri = given_counts s.frames (machine.enter s (machine.entity kind.Property iri)) _
name_by_counts (Some sort.PropertyName) s iri = given_counts s.frames (machine.enter s (machine.entity kind.Property iri)) _
name_by_counts (Some sort.Individual) s iri = given_counts s.frames (machine.enter s (machine.entity kind.Individual iri)) _
name_by_counts (Some (sort.Name k)) s iri = given_counts s.frames (machine.enter s (machine.entity k iri)) _
name_by_counts (Some sort.AnnotationName) s iri = given_counts s.frames s _

prefix_counts : (s : State) (prefix local : List ℕ) → Counts s.open_count (machine.prefix_named s prefix local)
prefix_counts s prefix [] = refl
prefix_counts s prefix (b ∷ bs) = tt

placed_counts : (s : State) (prefix local iri : List ℕ) → Counts s.open_count (machine.name_in_place s prefix local iri)
placed_counts s prefix local iri =
    either s.open_count (machine.is_prefix_name s.stand) _ _ (prefix_counts s prefix local)
    (either s.open_count (machine.is_inside s.stand) _ _ (name_by_counts (machine.top_sort s.frames) s iri) tt)

found_counts : (o : Option (List ℕ)) (s : State) (prefix local : List ℕ) → Counts s.open_count (machine.name_with o s prefix local)
found_counts (Some front) s prefix local =
    either s.open_count (is_top_property (front ++ local)) _ _ tt
    (either s.open_count (is_bottom_property (front ++ local)) _ _ tt (placed_counts s prefix local (front ++ local)))
found_counts None s prefix local = either s.open_count (machine.is_prefix_name s.stand) _ _ (prefix_counts s prefix local) tt

name_counts : (s : State) (prefix local : List ℕ) → Counts s.open_count (machine.name s prefix local)
name_counts s prefix local = either s.open_count (same_bytes prefix (codes "_")) _ _ tt (found_counts (iri_of s.prefixes prefix) s prefix local)

begin_counts : (s : State) (o : Option Construct) → Counts s.open_count (machine.begin s o)
begin_counts s None = tt
begin_counts s (Some c) = refl

keyword_by_counts : (o : Option Sort) (s : State) (text : List ℕ) → Counts s.open_count (machine.keyword_by o s text)
keyword_by_counts None s text = tt
keyword_by_counts (Some sort.Item) s text =
    either s.open_count (is_annotation text) _ _ refl (begin_counts s (construct_among item_constructs text))
keyword_by_counts (Some sort.Class) s text = begin_counts s (construct_among class_constructs text)
keyword_by_counts (Some sort.Property) s text = begin_counts s (construct_among property_constructs text)
keyword_by_counts (Some sort.Declared) s text = begin_counts s (construct_among declared_constructs text)
keyword_by_counts (Some sort.Individual) s text = tt
keyword_by_counts (Some (sort.Name k)) s text = tt
keyword_by_counts (Some sort.PropertyName) s text = tt
keyword_by_counts (Some sort.AnnotationName) s text = tt

keyword_counts : (s : State) (text : List ℕ) → Counts s.open_count (machine.keyword_word s text)
keyword_counts s text =
    either s.open_count (machine.is_lines s.stand) _ _
    (either s.open_count (same_bytes text (codes "Prefix")) _ _ refl (either s.open_count (same_bytes text (codes "Ontology")) _ _ refl tt))
    (either s.open_count (machine.is_inside s.stand) _ _
    (either s.open_count (machine.may_annotate s.frames && same_bytes text (codes "Annotation")) _ _ refl
    (keyword_by_counts (machine.top_sort s.frames) s text)) tt)

word_by_counts : (o : Option ℕ) (s : State) (text : List ℕ) → Counts s.open_count (machine.word_by o s text)
word_by_counts None s text = keyword_counts s text
word_by_counts (Some n) s text = name_counts s (take n text) (drop (n + 1) text)

word_counts : (st : Stand) (s : State) (text : List ℕ) → Counts s.open_count (machine.word st s text)
word_counts (stand.Passing base) s text = refl
word_counts stand.Lines s text = word_by_counts (colon_at 0 text) s text
word_counts stand.PrefixOpening s text = word_by_counts (colon_at 0 text) s text
word_counts stand.PrefixName s text = word_by_counts (colon_at 0 text) s text
word_counts stand.PrefixEquals s text = word_by_counts (colon_at 0 text) s text
word_counts stand.PrefixIri s text = word_by_counts (colon_at 0 text) s text
word_counts stand.PrefixClose s text = word_by_counts (colon_at 0 text) s text
word_counts (stand.Opening c) s text = word_by_counts (colon_at 0 text) s text
word_counts (stand.Heading n) s text = word_by_counts (colon_at 0 text) s text
word_counts stand.Within s text = word_by_counts (colon_at 0 text) s text
word_counts stand.AnnotationOpening s text = word_by_counts (colon_at 0 text) s text
word_counts stand.Closed s text = word_by_counts (colon_at 0 text) s text

opened_counts : (st : Stand) (s : State) → Counts (s.open_count + 1) (machine.opened_by st s)
opened_counts stand.PrefixOpening s = refl
opened_counts (stand.Opening c) s = refl
opened_counts stand.AnnotationOpening s = refl
opened_counts (stand.Passing base) s = refl
opened_counts _ s = tt

finished_counts : (m : Makes) (s : State) (f : Frame) → Counts s.open_count (machine.finished m s f)
finished_counts makes.Class s f = given_counts s.frames s _
finished_counts makes.Property s f = given_counts s.frames s _
finished_counts makes.Declared s f = given_counts s.frames s _
finished_counts makes.Axioms s f = refl
finished_counts makes.End s f = refl

top_counts : (fs : List Frame) (s : State) → Counts (s.open_count - 1) (machine.closed_top fs s)
top_counts [] s = tt
top_counts (f ∷ fs) s =
    either (s.open_count - 1) (machine.is_nil f.wanted) _ _
    (finished_counts (makes_of f.construct) (record s { frames = fs; open_count = s.open_count - 1 }) f) tt

closed_counts : (st : Stand) (s : State) → Counts (s.open_count - 1) (machine.closed_by st s)
closed_counts stand.PrefixClose s = refl
closed_counts stand.Within s = top_counts s.frames s
closed_counts (stand.Heading n) s = top_counts s.frames s
closed_counts (stand.Passing base) s = refl
closed_counts _ s = tt

equals_counts : (st : Stand) (s : State) → Counts s.open_count (machine.equals_by st s)
equals_counts stand.PrefixEquals s = refl
equals_counts (stand.Passing base) s = refl
equals_counts _ s = tt

iri_counts : (st : Stand) (s : State) (iri : List ℕ) → Counts s.open_count (machine.iri_by st s iri)
iri_counts stand.PrefixIri s iri = refl
iri_counts (stand.Heading n) s iri = either s.open_count (eqb n 0) _ _ tt refl
iri_counts (stand.Passing base) s iri = refl
iri_counts _ s iri = tt

quoted_counts : (st : Stand) (s : State) → Counts s.open_count (machine.quoted_by st s)
quoted_counts (stand.Passing base) s = refl
quoted_counts _ s = tt

abbrev pub after : TokenKind → ℕ → ℕ
after token.OpenParen n = n + 1
after token.CloseParen n = n - 1
after _ n = n

pub free_counts : (k : TokenKind) (s : State) (text : List ℕ) → Counts (after k s.open_count) (free_by k s text)
free_counts token.OpenParen s text = opened_counts s.stand s
free_counts token.CloseParen s text = closed_counts s.stand s
free_counts token.Equals s text = equals_counts s.stand s
free_counts token.Iri s text = iri_counts s.stand s text
free_counts token.Quoted s text = quoted_counts s.stand s
free_counts token.Word s text = word_counts s.stand s text

-- where no parenthesis is one too many, the bound is not met
pub record Shallow (k : TokenKind) (s : State) (text : List ℕ) (ps : List Piece) : Type 0 where
  pub step : machine.step s k text ≡ free_by k s text
  pub rest : is_shallow 200 (after k s.open_count) ps ≡ true

pub shallow_step : (k : TokenKind) (s : State) (text : List ℕ) (ps : List Piece)
    → cond (is_open k) (ltb s.open_count 200 && is_shallow 200 (s.open_count + 1) ps)
    (cond (is_close k) (is_shallow 200 (s.open_count - 1) ps) (is_shallow 200 s.open_count ps)) ≡ true
    → Shallow k s text ps
shallow_step token.OpenParen s text ps h =
    let both = and_parts (ltb s.open_count 200) (is_shallow 200 (s.open_count + 1) ps) h in
    let small : s.open_count < 200 = ltb-true s.open_count 200 both.0 in
    record {
      step = ap (λ b. cond b (err trouble.TooDeep) (machine.opened_by s.stand s)) (lt-leb 200 s.open_count small);
      rest = both.1;
    }
shallow_step token.CloseParen s text ps h = record { step = refl; rest = h }
shallow_step token.Equals s text ps h = record { step = refl; rest = h }
shallow_step token.Iri s text ps h = record { step = refl; rest = h }
shallow_step token.Quoted s text ps h = record { step = refl; rest = h }
shallow_step token.Word s text ps h = record { step = refl; rest = h }

abbrev pub done : List Entity → List Claim → Result (List Entity × List Claim) OwlFault
done entities claims = Ok (entities, claims)

abbrev pub state_or : State → Result State Trouble → State
state_or s (Ok m) = m
state_or s (Err x) = s

pub same_free : (k : TokenKind) (s : State) (text : List ℕ) → free s (piece k text) ≡ free_by k s text
same_free token.OpenParen s text = refl
same_free token.CloseParen s text = refl
same_free token.Equals s text = refl
same_free token.Iri s text = refl
same_free token.Quoted s text = refl
same_free token.Word s text = refl

pub same_kind : (k : TokenKind) (text : List ℕ) → (piece k text).kind ≡ k
same_kind token.OpenParen text = refl
same_kind token.CloseParen text = refl
same_kind token.Equals text = refl
same_kind token.Iri text = refl
same_kind token.Quoted text = refl
same_kind token.Word text = refl

-- what is read of tokens that run is what the state behind them says
pub reading_runs : (ts : List Token) (s m : State) (e : Ending) → runs s (map piece_of ts) ≡ ok m
    → is_shallow 200 s.open_count (map piece_of ts) ≡ true → machine.reading s ts e ≡ machine.ended m e
reading_runs [] s m e h deep = ap (λ r. machine.ended (state_or s r) e) h
reading_runs (t ∷ ts) s m e h deep =
    let ps : List Piece = map piece_of ts in
    let count : ℕ = s.open_count in
    let kind : (piece t.kind t.text).kind ≡ t.kind = same_kind t.kind t.text in
    let shallow = ap (λ k. cond (is_open k) (ltb count 200 && is_shallow 200 (count + 1) ps)
    (cond (is_close k) (is_shallow 200 (count - 1) ps) (is_shallow 200 count ps))) (sym kind) ∙ deep in
    let step = shallow_step t.kind s t.text ps shallow in
    by (free_by t.kind s t.text) refl (ap (λ r. onward r (λ n. runs n ps)) (sym (same_free t.kind s t.text)) ∙ h) (free_counts t.kind s t.text)
    (λ n count run. reading_runs ts n m e run (ap (λ k. is_shallow 200 k (map piece_of ts)) count ∙ step.rest)) step.step
  where
    by : (r : Result State Trouble) → free_by t.kind s t.text ≡ r → onward r (λ n. runs n (map piece_of ts)) ≡ ok m → Counts (after t.kind s.open_count) r
        → ((n : State) → n.open_count ≡ after t.kind s.open_count → runs n (map piece_of ts) ≡ ok m → machine.reading n ts e ≡ machine.ended m e)
        → machine.step s t.kind t.text ≡ free_by t.kind s t.text
        → machine.carry (machine.step s t.kind t.text) t.at (λ next. machine.reading next ts e) ≡ machine.ended m e
    by (Ok n) is run count later same = ap (λ r. machine.carry r t.at (λ next. machine.reading next ts e)) (same ∙ is) ∙ later n count run
    by (Err x) is run count later same = cc

end_of : (s : State) (at : ℕ) (entities : List Entity) (claims : List Claim) → machine.is_closed s.stand ≡ true → s.entities ≡ entities → s.claims ≡ claims
    → machine.ended s (Whole at) ≡ Ok (entities, claims)
end_of s at entities claims closed es cs =
    ap (λ b. cond b (done s.entities s.claims) (Err (fault.Syntax at))) closed ∙ (λ i. done (es i) (cs i))

-- a file is read as what it says
pub told : (text : List ℕ) (result : Result OwlDoc OwlFault) → Reads text result → (entities : List Entity) (claims : List Claim)
    → IsOwlFile text entities claims → Answers (Ok (entities, claims)) result
told text result reads entities claims file =
    let f : File = file.0 in
    let spells = file.1 in
    let same = one_cut text reads.0 spells.tokens reads.1 (Whole spells.end) reads.2 spells.cut in
    let fr = file_runs f spells.is_file in
    let start : State = machine.fresh_state in
    let run : runs start (map piece_of spells.tokens) ≡ ok fr.end = ap (λ ps. runs start ps) spells.spelled ∙ fr.run in
    let deep : is_shallow 200 0 (map piece_of spells.tokens) ≡ true = ap (λ ps. is_shallow 200 0 ps) spells.spelled ∙ spells.shallow in
    let es : fr.end.entities ≡ entities = fr.entities ∙ sym file.2 in
    let cs : fr.end.claims ≡ claims = fr.claims ∙ sym file.3 in
    let ended : machine.ended fr.end (Whole spells.end) ≡ Ok (entities, claims) =
    end_of fr.end spells.end entities claims fr.closed es cs in
    let read : machine.reading start reads.0 reads.1 ≡ Ok (entities, claims) =
    (λ i. machine.reading start (same.0 i) (same.1 i)) ∙ (reading_runs spells.tokens start fr.end (Whole spells.end) run deep ∙ ended) in
    subst (λ r. Answers r result) read reads.3
