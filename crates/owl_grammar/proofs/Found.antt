-- What is read is a file.
use Rattle.std.proofs.Common.{◌≡◌, ℕ, ◌+◌, ◌-◌, Bool, true, false, cond, ◌&&◌, ltb, leb, List, [], ◌∷◌, ◌++◌, map, Ok, Err, refl, sym, ap, subst, ◌∙◌, append_assoc, append-nil}
use Rattle.std.specs.Prelude.{Result, IfOk}
use Rattle.std.proofs.lemmas.Bool.{and_from, lt-ltb, leb-false}
use Rattle.logic_terms.specs.Concept.{Claim}
use Rattle.logic_terms.specs.Shown.{claims_of}
use Rattle.owl_tokens.specs.declared.tokens.TokenKind.{TokenKind}
use Rattle.owl_tokens.specs.declared.tokens.TokenKind.TheVariants as token
use Rattle.owl_tokens.specs.Tokens.{Token, Ending, Whole, Cut_off, IsCut}
use Rattle.owl_reader.specs.declared.faults.Trouble.{Trouble}
use Rattle.owl_reader.specs.declared.faults.Trouble.TheVariants as trouble
use Rattle.owl_reader.specs.declared.faults.OwlFault.{OwlFault}
use Rattle.owl_reader.specs.declared.kinds.Entity.{Entity}
use Rattle.owl_reader.specs.declared.stand.Stand.{Stand}
use Rattle.owl_reader.specs.declared.stand.Stand.TheVariants as stand
use Rattle.owl_reader.specs.declared.reading.OwlDoc.{OwlDoc}
use Rattle.owl_reader.specs.Shown.{Reads}
use Rattle.owl_reader.specs.Reading.{State}
use Rattle.owl_reader.specs.Reading as machine
use Rattle.owl_grammar.specs.Files.{Piece, piece_of, File, is_open, is_close, is_shallow, IsOwlFile}
use Rattle.owl_grammar.proofs.Machine.{free, free_by, onward, runs}
use Rattle.owl_grammar.proofs.Readings.{ok, file_runs}
use Rattle.owl_grammar.proofs.Counts.{Counts, after, free_counts, same_free, same_kind, state_or}
use Rattle.owl_grammar.proofs.States.{At, Stands, Leads, leads_on, at_start}

-- tokens lead from one place to another
pub runs_at : (ts : List Token) (s m : State) (qs : List Piece) → At s qs → runs s (map piece_of ts) ≡ ok m → At m (qs ++ map piece_of ts)
runs_at [] s m qs at h = subst (λ x. At x (qs ++ [])) (ap (state_or s) h) (subst (At s) (sym (append-nil qs)) at)
runs_at (t ∷ ts) s m qs at h =
    by (free s (piece_of t)) (leads_on t.kind t.text s qs at) h (λ n here run. runs_at ts n m (qs ++ piece_of t ∷ []) here run)
  where
    by : (r : Result State Trouble) → Leads (qs ++ piece_of t ∷ []) r → onward r (λ n. runs n (map piece_of ts)) ≡ ok m
        → ((n : State) → At n (qs ++ piece_of t ∷ []) → runs n (map piece_of ts) ≡ ok m → At m ((qs ++ piece_of t ∷ []) ++ map piece_of ts))
        → At m (qs ++ piece_of t ∷ map piece_of ts)
    by (Ok n) here run later = subst (At m) (append_assoc qs (piece_of t ∷ []) (map piece_of ts)) (later n here run)
    by (Err x) here run later = cc

-- a step that was taken is one without the bound, and no parenthesis was one too many
pub record Taken (k : TokenKind) (s n : State) (text : List ℕ) : Type 0 where
  pub free : free_by k s text ≡ ok n
  pub small : cond (is_open k) (ltb s.open_count 200) true ≡ true

pub taken : (k : TokenKind) (s n : State) (text : List ℕ) → machine.step s k text ≡ ok n → Taken k s n text
taken token.OpenParen s n text h = by (leb 200 s.open_count) refl h
  where
    by : (b : Bool) → leb 200 s.open_count ≡ b → cond b (Err trouble.TooDeep) (machine.opened_by s.stand s) ≡ ok n → Taken token.OpenParen s n text
    by true is h = cc
    by false is h = record { free = h; small = lt-ltb s.open_count 200 (leb-false 200 s.open_count is) }
taken token.CloseParen s n text h = record { free = h; small = refl }
taken token.Equals s n text h = record { free = h; small = refl }
taken token.Iri s n text h = record { free = h; small = refl }
taken token.Quoted s n text h = record { free = h; small = refl }
taken token.Word s n text h = record { free = h; small = refl }

shallow_on : (k : TokenKind) (count : ℕ) (ps : List Piece) → cond (is_open k) (ltb count 200) true ≡ true → is_shallow 200 (after k count) ps ≡ true
    → cond (is_open k) (ltb count 200 && is_shallow 200 (count + 1) ps)
    (cond (is_close k) (is_shallow 200 (count - 1) ps) (is_shallow 200 count ps)) ≡ true
shallow_on token.OpenParen count ps small rest = and_from (ltb count 200) (is_shallow 200 (count + 1) ps) small rest
shallow_on token.CloseParen count ps small rest = rest
shallow_on token.Equals count ps small rest = rest
shallow_on token.Iri count ps small rest = rest
shallow_on token.Quoted count ps small rest = rest
shallow_on token.Word count ps small rest = rest

pub shallow_more : (s n : State) (t : Token) (ps : List Piece) → Taken t.kind s n t.text → is_shallow 200 n.open_count ps ≡ true
    → is_shallow 200 s.open_count (piece_of t ∷ ps) ≡ true
shallow_more s n t ps step rest =
    let count : n.open_count ≡ after t.kind s.open_count = subst (Counts (after t.kind s.open_count)) step.free (free_counts t.kind s t.text) in
    ap (λ k. cond (is_open k) (ltb s.open_count 200 && is_shallow 200 (s.open_count + 1) ps)
    (cond (is_close k) (is_shallow 200 (s.open_count - 1) ps) (is_shallow 200 s.open_count ps))) (same_kind t.kind t.text)
    ∙ shallow_on t.kind s.open_count ps step.small (ap (λ k. is_shallow 200 k ps) (sym count) ∙ rest)

-- what was read to the end
pub record Done (s : State) (ts : List Token) (e : Ending) (x : List Entity × List Claim) : Type 0 where
  pub end : State
  pub run : runs s (map piece_of ts) ≡ ok end
  pub deep : is_shallow 200 s.open_count (map piece_of ts) ≡ true
  pub ended : machine.ended end e ≡ Ok x

reading_done : (ts : List Token) (s : State) (e : Ending) (x : List Entity × List Claim) → machine.reading s ts e ≡ Ok x → Done s ts e x
reading_done [] s e x h = record { end = s; run = refl; deep = refl; ended = h }
reading_done (t ∷ ts) s e x h = by (machine.step s t.kind t.text) refl h (λ n read. reading_done ts n e x read)
  where
    by : (r : Result State Trouble) → machine.step s t.kind t.text ≡ r → machine.carry r t.at (λ n. machine.reading n ts e) ≡ Ok x
        → ((n : State) → machine.reading n ts e ≡ Ok x → Done n ts e x) → Done s (t ∷ ts) e x
    by (Err y) is read later = cc
    by (Ok n) is read later =
        let step = taken t.kind s n t.text is in
        let rest = later n read in
        record {
          end = rest.end;
          run = ap (λ r. onward r (λ n. runs n (map piece_of ts))) (same_free t.kind s t.text ∙ step.free) ∙ rest.run;
          deep = shallow_more s n t (map piece_of ts) step rest.deep;
          ended = rest.ended;
        }

closed_is : (st : Stand) → machine.is_closed st ≡ true → st ≡ stand.Closed
closed_is stand.Closed h = refl
closed_is stand.Lines h = cc
closed_is stand.PrefixOpening h = cc
closed_is stand.PrefixName h = cc
closed_is stand.PrefixEquals h = cc
closed_is stand.PrefixIri h = cc
closed_is stand.PrefixClose h = cc
closed_is (stand.Opening c) h = cc
closed_is (stand.Heading n) h = cc
closed_is stand.Within h = cc
closed_is stand.AnnotationOpening h = cc
closed_is (stand.Passing n) h = cc

-- a state in which a text may end
record Ends (s : State) (e : Ending) (x : List Entity × List Claim) : Type 0 where
  place : ℕ
  whole : e ≡ Whole place
  closed : s.stand ≡ stand.Closed
  entities : s.entities ≡ x.0
  claims : s.claims ≡ x.1

abbrev result_or : List Entity × List Claim → Result (List Entity × List Claim) OwlFault → List Entity × List Claim
result_or y (Ok x) = x
result_or y (Err e) = y

ends : (s : State) (e : Ending) (x : List Entity × List Claim) → machine.ended s e ≡ Ok x → Ends s e x
ends s (Cut_off at) x h = cc
ends s (Whole at) x h = by (machine.is_closed s.stand) refl h
  where
    by : (b : Bool) → machine.is_closed s.stand ≡ b
        → cond b (Ok (s.entities, s.claims)) (Err (Rattle.owl_reader.specs.declared.faults.OwlFault.TheVariants.Syntax at)) ≡ Ok x
        → Ends s (Whole at) x
    by false is h = cc
    by true is h = record {
      place = at;
      whole = refl;
      closed = closed_is s.stand is;
      entities = ap (λ r. (result_or x r).0) h;
      claims = ap (λ r. (result_or x r).1) h;
    }

-- a text that is read is a file, and says what was read
pub found : (text : List ℕ) (result : Result OwlDoc OwlFault) → Reads text result → IfOk result (λ doc. IsOwlFile text doc.entities (claims_of doc.axioms))
found text (Err e) reads = tt
found text (Ok doc) reads =
    let tokens : List Token = reads.0 in
    let start : State = machine.fresh_state in
    let x : List Entity × List Claim = (doc.entities, claims_of doc.axioms) in
    let done = reading_done tokens start reads.1 x reads.3 in
    let end = ends done.end reads.1 x done.ended in
    let at : At done.end (map piece_of tokens) = runs_at tokens start done.end [] at_start done.run in
    let closed : Stands stand.Closed done.end (map piece_of tokens) = subst (λ st. Stands st done.end (map piece_of tokens)) end.closed at in
    let f : File = closed.0 in
    let fr = file_runs f closed.1 in
    let same : ok done.end ≡ ok fr.end = sym done.run ∙ (ap (λ ps. runs start ps) closed.2 ∙ fr.run) in (
      f,
      record {
        is_file = closed.1;
        tokens = tokens;
        end = end.place;
        cut = subst (λ e. IsCut text tokens e) end.whole reads.2;
        spelled = closed.2;
        shallow = ap (is_shallow 200 0) (sym closed.2) ∙ done.deep;
      },
      sym end.entities ∙ (ap (λ r. (state_or start r).entities) same ∙ fr.entities),
      sym end.claims ∙ (ap (λ r. (state_or start r).claims) same ∙ fr.claims),
    )
