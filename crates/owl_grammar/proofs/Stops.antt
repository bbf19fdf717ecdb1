-- A text that is refused has its first fault where it is told.
use Rattle.std.proofs.Common.{◌≡◌, ℕ, ◌+◌, ◌-◌, ◌⊎◌, inl, inr, Bool, true, false, cond, leb, List, [], ◌∷◌, ◌++◌, map, Ok, Err, refl, sym, ap, subst, ◌∙◌}
use Rattle.std.specs.Prelude.{Result, IfErr}
use Rattle.logic_terms.specs.Concept.{Claim}
use Rattle.owl_tokens.specs.declared.tokens.TokenKind.{TokenKind}
use Rattle.owl_tokens.specs.declared.tokens.TokenKind.TheVariants as token
use Rattle.owl_tokens.specs.Tokens.{Token, Ending, Whole, Cut_off}
use Rattle.owl_reader.specs.declared.faults.Trouble.{Trouble}
use Rattle.owl_reader.specs.declared.faults.Trouble.TheVariants as trouble
use Rattle.owl_reader.specs.declared.faults.OwlFault.{OwlFault}
use Rattle.owl_reader.specs.declared.faults.OwlFault.TheVariants as fault
use Rattle.owl_reader.specs.declared.kinds.Entity.{Entity}
use Rattle.owl_reader.specs.declared.reading.OwlDoc.{OwlDoc}
use Rattle.owl_reader.specs.Shown.{Reads}
use Rattle.owl_reader.specs.Reading.{State}
use Rattle.owl_reader.specs.Reading as machine
use Rattle.owl_grammar.specs.Files.{Piece, piece, piece_of, sign, is_open, is_close, is_shallow}
use Rattle.owl_grammar.specs.Faults.{open_behind, DepthFault, HasFault, AreFine, EndsAt, FirstFault, IsFault}
use Rattle.owl_grammar.proofs.Machine.{free, onward, runs}
use Rattle.owl_grammar.proofs.Readings.{ok, err, file_runs}
use Rattle.owl_grammar.proofs.Counts.{done, Counts, after, free_counts, same_free, same_kind, state_or}
use Rattle.owl_grammar.proofs.Stacks.{never}
use Rattle.owl_grammar.proofs.States.{At, at_start}
use Rattle.owl_grammar.proofs.Found.{taken, shallow_more, runs_at}
use Rattle.owl_grammar.proofs.Goes.{goes}
use Rattle.owl_grammar.proofs.Refusals.{no_place}

behind_one : (k : TokenKind) (count : ℕ) (ps : List Piece)
    → cond (is_open k) (open_behind (count + 1) ps) (cond (is_close k) (open_behind (count - 1) ps) (open_behind count ps)) ≡ open_behind (after k count) ps
behind_one token.OpenParen count ps = refl
behind_one token.CloseParen count ps = refl
behind_one token.Equals count ps = refl
behind_one token.Iri count ps = refl
behind_one token.Quoted count ps = refl
behind_one token.Word count ps = refl

-- as many parentheses are open as a state says
count_runs : (ts : List Token) (s m : State) → runs s (map piece_of ts) ≡ ok m → open_behind s.open_count (map piece_of ts) ≡ m.open_count
count_runs [] s m h = ap (λ r. (state_or s r).open_count) h
count_runs (t ∷ ts) s m h = by (free s (piece_of t)) refl h (λ n run. count_runs ts n m run)
  where
    by : (r : Result State Trouble) → free s (piece_of t) ≡ r → onward r (λ n. runs n (map piece_of ts)) ≡ ok m
        → ((n : State) → runs n (map piece_of ts) ≡ ok m → open_behind n.open_count (map piece_of ts) ≡ m.open_count)
        → open_behind s.open_count (piece_of t ∷ map piece_of ts) ≡ m.open_count
    by (Err x) is h later = cc
    by (Ok n) is h later =
        let ps : List Piece = map piece_of ts in
        let count : n.open_count ≡ after t.kind s.open_count =
        subst (Counts (after t.kind s.open_count)) (sym (same_free t.kind s t.text) ∙ is) (free_counts t.kind s t.text) in
        ap (λ k. cond (is_open k) (open_behind (s.open_count + 1) ps) (cond (is_close k) (open_behind (s.open_count - 1) ps) (open_behind s.open_count ps)))
        (same_kind t.kind t.text)
        ∙ (behind_one t.kind s.open_count ps ∙ (ap (λ k. open_behind k ps) (sym count) ∙ later n h))

-- Where a reading stops

record AtToken (ts before : List Token) (mid : State) (f : OwlFault) : Type 0 where
  first : Token
  after_it : List Token
  trouble : Trouble
  split : ts ≡ before ++ first ∷ after_it
  step : machine.step mid first.kind first.text ≡ err trouble
  fault : f ≡ machine.fault_at trouble first.at

record AtEnd (ts before : List Token) (mid : State) (e : Ending) (f : OwlFault) : Type 0 where
  whole : ts ≡ before
  ended : machine.ended mid e ≡ Err f

record Stop (s : State) (ts : List Token) (e : Ending) (f : OwlFault) : Type 0 where
  before : List Token
  mid : State
  run : runs s (map piece_of before) ≡ ok mid
  deep : is_shallow 200 s.open_count (map piece_of before) ≡ true
  stops : AtToken ts before mid f ⊎ AtEnd ts before mid e f

abbrev fault_or : OwlFault → Result (List Entity × List Claim) OwlFault → OwlFault
fault_or g (Ok x) = g
fault_or g (Err f) = f

one_before : (t : Token) (ts before : List Token) (mid : State) (e : Ending) (f : OwlFault) → AtToken ts before mid f ⊎ AtEnd ts before mid e f
    → AtToken (t ∷ ts) (t ∷ before) mid f ⊎ AtEnd (t ∷ ts) (t ∷ before) mid e f
one_before t ts before mid e f (inl a) = inl (record {
  first = a.first;
  after_it = a.after_it;
  trouble = a.trouble;
  split = ap (λ xs. t ∷ xs) a.split;
  step = a.step;
  fault = a.fault;
})
one_before t ts before mid e f (inr b) = inr (record { whole = ap (λ xs. t ∷ xs) b.whole; ended = b.ended })

stop_of : (ts : List Token) (s : State) (e : Ending) (f : OwlFault) → machine.reading s ts e ≡ Err f → Stop s ts e f
stop_of [] s e f h = record { before = []; mid = s; run = refl; deep = refl; stops = inr (record { whole = refl; ended = h }) }
stop_of (t ∷ ts) s e f h = by (machine.step s t.kind t.text) refl h (λ n read. stop_of ts n e f read)
  where
    by : (r : Result State Trouble) → machine.step s t.kind t.text ≡ r → machine.carry r t.at (λ n. machine.reading n ts e) ≡ Err f
        → ((n : State) → machine.reading n ts e ≡ Err f → Stop n ts e f) → Stop s (t ∷ ts) e f
    by (Err x) is read later = record {
      before = [];
      mid = s;
      run = refl;
      deep = refl;
      stops = inl (record { first = t; after_it = ts; trouble = x; split = refl; step = is; fault = sym (ap (fault_or f) read) });
    }
    by (Ok n) is read later =
        let step = taken t.kind s n t.text is in
        let rest = later n read in
        record {
          before = t ∷ rest.before;
          mid = rest.mid;
          run = ap (λ r. onward r (λ n. runs n (map piece_of rest.before))) (same_free t.kind s t.text ∙ step.free) ∙ rest.run;
          deep = shallow_more s n t (map piece_of rest.before) step rest.deep;
          stops = one_before t ts rest.before rest.mid e f rest.stops;
        }

-- The fault there

deep_fault : (text : List ℕ) (mid : State) (ps : List Piece) (x : Trouble) → runs machine.fresh_state ps ≡ ok mid → At mid ps → (b : Bool)
    → leb 200 mid.open_count ≡ b → cond b (err trouble.TooDeep) (machine.opened_by mid.stand mid) ≡ err x → DepthFault b ps (sign token.OpenParen) x
deep_fault text mid ps x run at true is h = sym (ap told h)
  where
    told : Result State Trouble → Trouble
    told (Ok m) = trouble.TooDeep
    told (Err y) = y
deep_fault text mid ps x run at false is h = no_place token.OpenParen text mid ps x run at h

has_fault : (k : TokenKind) (text : List ℕ) (mid : State) (ps : List Piece) (x : Trouble) → runs machine.fresh_state ps ≡ ok mid → At mid ps
    → open_behind 0 ps ≡ mid.open_count → machine.step mid k text ≡ err x → HasFault ps (piece k text) x
has_fault token.OpenParen text mid ps x run at count h =
    subst (λ n. DepthFault (leb 200 n) ps (sign token.OpenParen) x) (sym count) (deep_fault text mid ps x run at (leb 200 mid.open_count) refl h)
has_fault token.CloseParen text mid ps x run at count h = no_place token.CloseParen text mid ps x run at h
has_fault token.Equals text mid ps x run at count h = no_place token.Equals text mid ps x run at h
has_fault token.Iri text mid ps x run at count h = no_place token.Iri text mid ps x run at h
has_fault token.Quoted text mid ps x run at count h = no_place token.Quoted text mid ps x run at h
has_fault token.Word text mid ps x run at count h = no_place token.Word text mid ps x run at h

is_fault : (text : List ℕ) (x : Trouble) (at : ℕ) → FirstFault text at x → IsFault text (machine.fault_at x at)
is_fault text trouble.Syntax at h = h
is_fault text trouble.Unsupported at h = h
is_fault text trouble.Prefix at h = h
is_fault text trouble.TooDeep at h = h

-- the end of a text that has no fault before it
record Early (tokens : List Token) (e : Ending) (f : OwlFault) : Type 0 where
  place : ℕ
  fault : f ≡ machine.fault_at trouble.Syntax place
  ends : EndsAt e tokens place

early : (tokens : List Token) (mid : State) (e : Ending) (f : OwlFault) → runs machine.fresh_state (map piece_of tokens) ≡ ok mid → machine.ended mid e ≡ Err f
    → Early tokens e f
early tokens mid (Cut_off at) f run h = record { place = at; fault = sym (ap (fault_or f) h); ends = refl }
early tokens mid (Whole at) f run h = by (machine.is_closed mid.stand) refl h
  where
    by : (b : Bool) → machine.is_closed mid.stand ≡ b → cond b (done mid.entities mid.claims) (Err (fault.Syntax at)) ≡ Err f → Early tokens (Whole at) f
    by true is h = cc
    by false is h = record {
      place = at;
      fault = sym (ap (fault_or f) h);
      ends = (
        refl,
        λ g fits same.
            let file = file_runs g fits in
            let end : ok mid ≡ ok file.end = sym run ∙ (ap (λ ps. runs machine.fresh_state ps) same ∙ file.run) in
            never (sym is ∙ (ap (λ r. machine.is_closed (state_or mid r).stand) end ∙ file.closed)),
      );
    }

first_fault : (text : List ℕ) (f : OwlFault) (ts : List Token) (e : Ending) → Rattle.owl_tokens.specs.Tokens.IsCut text ts e
    → machine.reading machine.fresh_state ts e ≡ Err f → IsFault text f
first_fault text f ts e cut read =
    let start : State = machine.fresh_state in
    let stop = stop_of ts start e f read in
    let ps : List Piece = map piece_of stop.before in
    let at : At stop.mid ps = runs_at stop.before start stop.mid [] at_start stop.run in
    let fine : AreFine ps = record { fine = goes stop.mid.stand stop.mid ps at; shallow = stop.deep } in
    by stop.before stop.mid stop.run at fine stop.stops
  where
    by : (before : List Token) (mid : State) → runs machine.fresh_state (map piece_of before) ≡ ok mid → At mid (map piece_of before)
        → AreFine (map piece_of before) → AtToken ts before mid f ⊎ AtEnd ts before mid e f → IsFault text f
    by before mid run at fine (inl a) =
        subst (IsFault text) (sym a.fault) (is_fault text a.trouble a.first.at (record {
          tokens = ts;
          ending = e;
          cut = cut;
          fault = inl (record {
            before = before;
            first = a.first;
            after = a.after_it;
            split = a.split;
            place = refl;
            fine = fine;
            fault = has_fault a.first.kind a.first.text mid (map piece_of before) a.trouble run at (count_runs before machine.fresh_state mid run) a.step;
          });
        }))
    by before mid run at fine (inr b) =
        let end = early before mid e f run b.ended in
        subst (IsFault text) (sym end.fault) (is_fault text trouble.Syntax end.place (record {
          tokens = ts;
          ending = e;
          cut = cut;
          fault = inr (record {
            is = refl;
            fine = subst (λ xs. AreFine (map piece_of xs)) (sym b.whole) fine;
            ends = subst (λ xs. EndsAt e xs end.place) (sym b.whole) end.ends;
          });
        }))

-- a refused text has the fault that is told
pub fault_told : (text : List ℕ) (result : Result OwlDoc OwlFault) → Reads text result → IfErr result (IsFault text)
fault_told text (Ok doc) reads = tt
fault_told text (Err fault.Memory) reads = tt
fault_told text (Err (fault.Syntax at)) reads = first_fault text (fault.Syntax at) reads.0 reads.1 reads.2 reads.3
fault_told text (Err (fault.Unsupported at)) reads = first_fault text (fault.Unsupported at) reads.0 reads.1 reads.2 reads.3
fault_told text (Err (fault.Prefix at)) reads = first_fault text (fault.Prefix at) reads.0 reads.1 reads.2 reads.3
fault_told text (Err (fault.TooDeep at)) reads = first_fault text (fault.TooDeep at) reads.0 reads.1 reads.2 reads.3
