-- A reading that came to a place leads to what the whole text says.
use Rattle.std.proofs.Common.{◌≡◌, ℕ, ◌≤◌, Bool, true, false, eqb, List, [], ◌∷◌, length, Ok, Err, refl, sym, ap, subst, ◌∙◌, arith}
use Rattle.owl_tokens.specs.Tokens.{Token, Found, Ends, Broken, Ending, Whole, Cut_off, next, Cuts, ending_of, utf8_front, has_mark, FileCuts}
use Rattle.std.specs.Str.Lossy.{utf8_valid_len}
use Rattle.std.proofs.lemmas.Str.{utf8_valid_len_le}
use Rattle.std.proofs.lemmas.List.{length-take-le}
use Rattle.owl_tokens.proofs.Cutting.{cut_from}
use Rattle.owl_reader.specs.declared.faults.Trouble.{Trouble}
use Rattle.owl_reader.specs.declared.faults.Trouble.TheVariants as trouble
use Rattle.owl_reader.specs.declared.faults.OwlFault.{OwlFault}
use Rattle.owl_reader.specs.declared.faults.OwlFault.TheVariants as fault
use Rattle.owl_reader.specs.declared.reading.OwlDoc.{OwlDoc}
use Rattle.owl_reader.specs.Reading.{State, fresh_state, step, reading, carry, ended, fault_at}
use Rattle.owl_reader.specs.Outcomes.{RefusesAt}
use Rattle.owl_reader.specs.Shown.{Answers, Fails, ReadsFront, Reads}
use Rattle.std.specs.Prelude.{Result}
use Rattle.logic_terms.specs.Concept.{Claim}
use Rattle.owl_reader.specs.declared.kinds.Entity.{Entity}

-- what is left of the text from a place on decides, read from a state
pub record Leads (front : List ℕ) (at : ℕ) (s : State) : Type 0 where
  pub whole : (ts : List Token) (e : Ending) → Cuts front at ts e
      → (all : List Token) × Cuts front 0 all e × ((f : Ending) → reading fresh_state all f ≡ reading s ts f)

pub leads_start : (front : List ℕ) → Leads front 0 fresh_state
leads_start front = record { whole = λ ts e cut. (ts, cut, λ f. refl) }

pub leads_on : (front : List ℕ) (at : ℕ) (s new : State) (t : Token) → Leads front at s → next front at ≡ Found t → step s t.kind t.text ≡ Ok new
    → Leads front t.end new
leads_on front at s new t before is ok = record {
  whole = λ ts e cut.
      let all = before.whole (t ∷ ts) e (is, cut) in
      (all.0, all.1, λ f. all.2 f ∙ ap (λ r. carry r t.at (λ n. reading n ts f)) ok);
}

fails_at : (read : Result (List Entity × List Claim) OwlFault) (x : Trouble) (at : ℕ) → read ≡ Err (fault_at x at) → Fails read (fault_at x at)
fails_at read trouble.Syntax at h = h
fails_at read trouble.Unsupported at h = h
fails_at read trouble.Prefix at h = h
fails_at read trouble.TooDeep at h = h

pub no_memory : (front : List ℕ) (whole : Bool) → ReadsFront front whole (Err fault.Memory)
no_memory front whole = let cut = cut_from front 0 (omega arith) in (cut.0, cut.1, cut.2, tt)

stops_at : (front : List ℕ) (whole : Bool) (at : ℕ) (s : State) (t : Token) (x : Trouble) → Leads front at s → next front at ≡ Found t
    → t.end ≤ length front → step s t.kind t.text ≡ Err x → ReadsFront front whole (Err (fault_at x t.at))
stops_at front whole at s t x before is within err =
    let cut = cut_from front t.end within in
    let all = before.whole (t ∷ cut.0) cut.1 (is, cut.2) in
    let f = ending_of whole cut.1 in
    (all.0, cut.1, all.1, fails_at (reading fresh_state all.0 f) x t.at (all.2 f ∙ ap (λ r. carry r t.at (λ n. reading n cut.0 f)) err))

pub refused : (front : List ℕ) (whole : Bool) (at : ℕ) (s : State) (t : Token) (e : OwlFault) → Leads front at s → next front at ≡ Found t
    → t.end ≤ length front → RefusesAt (step s t.kind t.text) t.at e → ReadsFront front whole (Err e)
refused front whole at s t fault.Memory before is within h = no_memory front whole
refused front whole at s t (fault.Syntax p) before is within h =
    subst (λ d. ReadsFront front whole (Err d)) (sym h.2) (stops_at front whole at s t h.0 before is within h.1)
refused front whole at s t (fault.Unsupported p) before is within h =
    subst (λ d. ReadsFront front whole (Err d)) (sym h.2) (stops_at front whole at s t h.0 before is within h.1)
refused front whole at s t (fault.Prefix p) before is within h =
    subst (λ d. ReadsFront front whole (Err d)) (sym h.2) (stops_at front whole at s t h.0 before is within h.1)
refused front whole at s t (fault.TooDeep p) before is within h =
    subst (λ d. ReadsFront front whole (Err d)) (sym h.2) (stops_at front whole at s t h.0 before is within h.1)

pub comes_to_end : (front : List ℕ) (at place : ℕ) (s : State) (result : Result OwlDoc OwlFault) → Leads front at s → next front at ≡ Ends place
    → Answers (ended s (Whole place)) result → ReadsFront front true result
comes_to_end front at place s result before is answers =
    let all = before.whole [] (Whole place) is in
    (all.0, Whole place, all.1, subst (λ r. Answers r result) (sym (all.2 (Whole place))) answers)

pub ends_early : (front : List ℕ) (at place : ℕ) (s : State) → Leads front at s → next front at ≡ Ends place
    → ReadsFront front false (Err (fault.Syntax place))
ends_early front at place s before is = let all = before.whole [] (Whole place) is in (all.0, Whole place, all.1, all.2 (Cut_off place))

pub breaks_off : (front : List ℕ) (whole : Bool) (at place : ℕ) (s : State) → Leads front at s → next front at ≡ Broken place
    → ReadsFront front whole (Err (fault.Syntax place))
breaks_off front true at place s before is = let all = before.whole [] (Cut_off place) is in (all.0, Cut_off place, all.1, all.2 (Cut_off place))
breaks_off front false at place s before is = let all = before.whole [] (Cut_off place) is in (all.0, Cut_off place, all.1, all.2 (Cut_off place))

-- The whole text

pub marked : (text : List ℕ) → has_mark text ≡ true → Reads text (Err (fault.Syntax 0))
marked text mark = ([], Cut_off 0, subst (λ b. FileCuts b text [] (Cut_off 0)) (sym mark) (refl, refl), refl)

pub front_length : (text : List ℕ) → length (utf8_front text) ≡ utf8_valid_len text
front_length text = length-take-le (utf8_valid_len text) text (utf8_valid_len_le text)

pub whole_front : (text front : List ℕ) (result : Result OwlDoc OwlFault) → has_mark text ≡ false → front ≡ utf8_front text
    → ReadsFront front (eqb (length front) (length text)) result → Reads text result
whole_front text front result mark is read =
    let whole = eqb (length front) (length text) in
    let same : whole ≡ eqb (utf8_valid_len text) (length text) = ap (λ n. eqb n (length text)) (ap length is ∙ front_length text) in (
      read.0,
      ending_of whole read.1,
      subst (λ b. FileCuts b text read.0 (ending_of whole read.1)) (sym mark)
          (read.1, subst (λ f. Cuts f 0 read.0 read.1) is read.2, ap (λ b. ending_of b read.1) same),
      read.3,
    )
