-- For whoever reads all lines of a source: what was given since the reader was fresh.
use Rattle.std.proofs.Common.{◌≡◌, ◌≢◌, ◌≤◌, ℕ, true, false, IsTrue, List, [], ◌∷◌, ◌++◌, length, map, Option, Some, None, refl, sym, ◌∙◌, ap, inl, inr, arith, replicate, subst}
use Rattle.std.specs.Io.KnownBytes.{Consumes, IsAtEnd}
use Rattle.std.proofs.lemmas.Bool.{false≢true}
use Rattle.std.proofs.lemmas.List.{append_assoc, append-nil, length-append, length-replicate, same_from_push}
use Rattle.std.proofs.lemmas.List.Elements.{All-replicate}
use Rattle.wiki_io.specs.Lines.{after_newline, HasNoNewline, InputLine, text, too_long, line_of, input_lines, whole_lines, Begins, AreKnown, AreReadLines}
use Rattle.wiki_io.specs.Reading.{Reading, unread, lines_to_come, CanFollow, ReadsLine, HasNoLine, HasGiven, HasGivenFrom, answered}
use Rattle.wiki_io.specs.declared.limits.TheConstants.{NEWLINE, MAX_LINE}
use Rattle.wiki_io.specs.declared.reader.Line.{Line}
use Rattle.wiki_io.proofs.KnownLemmas.{Consumes-trans, Consumes-nil}
use Rattle.wiki_io.proofs.LineLemmas.{last_part, input_lines-ended, cut_lines-line, after_newline-part, line_of-short, line_of-long}
use Rattle.wiki_io.proofs.StepLemmas.{bytes_to_come-given, bytes_to_come-skipped, lines_to_come-none}

-- a fresh reader has given nothing
pub HasGivenFrom-unread : (first : Option (List ℕ)) → HasGivenFrom first [] unread first
HasGivenFrom-unread first = record { bytes = []; source = Consumes-nil first; count = refl; lines = λ rest follows. refl }

-- each call gives the next line
pub HasGiven-call : (bytes : List ℕ) (given : List InputLine) (old new : Reading) (left after : Option (List ℕ)) (answer : Line) → HasGiven bytes given old
    → (call : ReadsLine left old answer new after) → HasGiven (bytes ++ call.got) (given ++ answered answer new.line) new
HasGiven-call bytes given old new left after answer had call = λ rest follows.
    let can : CanFollow old (call.got ++ rest) = λ ended.
    ap (λ (l : List ℕ). l ++ rest) (call.at_end ended).0 ∙ follows (call.at_end ended).1 in
    ap input_lines (append_assoc bytes call.got rest) ∙ had (call.got ++ rest) can ∙ ap (λ (l : List InputLine). given ++ l) (call.lines rest follows)
    ∙ sym (append_assoc given (answered answer new.line) (lines_to_come new rest))

pub HasGivenFrom-call : (first : Option (List ℕ)) (given : List InputLine) (old new : Reading) (left after : Option (List ℕ)) (answer : Line)
    → HasGivenFrom first given old left → ReadsLine left old answer new after → HasGivenFrom first (given ++ answered answer new.line) new after
HasGivenFrom-call first given old new left after answer had call = record {
  bytes = had.bytes ++ call.got;
  source = Consumes-trans first left after had.bytes call.got had.source call.source;
  count = omega (arith, call.count, had.count, length-append had.bytes call.got);
  lines = HasGiven-call had.bytes given old new left after answer had.lines call;
}

-- at the end, all lines
pub HasGiven-end : (bytes : List ℕ) (given : List InputLine) (reader : Reading) → HasGiven bytes given reader → reader.pending ≡ [] → given ≡ input_lines bytes
HasGiven-end bytes given reader had pending =
    sym (append-nil given) ∙ ap (λ (l : List InputLine). given ++ l) (sym (lines_to_come-none reader pending)) ∙ sym (had [] (λ _. refl))
    ∙ ap input_lines (append-nil bytes)

-- of a source that told its bytes
told_end : (bytes all : List ℕ) (left : Option (List ℕ)) → Consumes (Some all) left bytes → IsAtEnd left → all ≡ bytes
told_end bytes all None is end = absurd is
told_end bytes all (Some rest) is end =
    is ∙ ap (λ (l : List ℕ). bytes ++ l) end ∙ append-nil bytes

pub HasGivenFrom-end : (first : Option (List ℕ)) (given : List InputLine) (reader : Reading) (left : Option (List ℕ)) (all : List ℕ)
    → HasGivenFrom first given reader left
    → reader.pending ≡ [] → IsAtEnd left → first ≡ Some all → given ≡ input_lines all
HasGivenFrom-end first given reader left all had pending end told =
    HasGiven-end had.bytes given reader had.lines pending
    ∙ ap input_lines (sym (told_end had.bytes all left (subst (λ (o : Option (List ℕ)). Consumes o left had.bytes) told had.source) end))

-- whenever, the lines given are the first ones
told_left : (bytes all : List ℕ) (left : Option (List ℕ)) → Consumes (Some all) left bytes → (rest : List ℕ) × (left ≡ Some rest) × (all ≡ bytes ++ rest)
told_left bytes all None is = absurd is
told_left bytes all (Some rest) is = (rest, refl, is)

pub HasGivenFrom-front : (first : Option (List ℕ)) (given : List InputLine) (reader : Reading) (left : Option (List ℕ)) (all : List ℕ)
    → HasGivenFrom first given reader left
    → (IsTrue reader.ended → IsAtEnd left) → first ≡ Some all → (more : List InputLine) × (input_lines all ≡ given ++ more)
HasGivenFrom-front first given reader left all had end told =
    let known = told_left had.bytes all left (subst (λ (o : Option (List ℕ)). Consumes o left had.bytes) told had.source) in
    let can : CanFollow reader known.0 = λ ended. subst IsAtEnd known.1 (end ended) in
    (lines_to_come reader known.0, ap input_lines known.2 ∙ had.lines known.0 can)

-- the lines given are known from what was read
pub HasGiven-known : (bytes : List ℕ) (given : List InputLine) (reader : Reading) (left : Option (List ℕ)) → HasGiven bytes given reader
    → (IsTrue reader.ended → IsAtEnd left) → AreKnown bytes left given
HasGiven-known bytes given reader left had end = elim reader.ended as (λ b. reader.ended ≡ b → AreKnown bytes left given) [
  | true ↦ λ ended. inr (end ended, (lines_to_come reader [], ap input_lines (sym (append-nil bytes)) ∙ had [] (λ _. refl)))
  | false ↦ λ goes_on. inl (λ rest. (lines_to_come reader rest, had rest (λ ended. absurd (false≢true (sym goes_on ∙ ended)))))
] refl

Begins-front : {X : Type 0} (front more whole : List X) → Begins (front ++ more) whole → Begins front whole
Begins-front front more whole begins = (more ++ begins.0, begins.1 ∙ append_assoc front more begins.0)

-- and so are the first of them
pub AreKnown-front : (bytes : List ℕ) (left : Option (List ℕ)) (front more : List InputLine) → AreKnown bytes left (front ++ more) → AreKnown bytes left front
AreKnown-front bytes left front more (inl known) = inl (λ rest. Begins-front front more (input_lines (bytes ++ rest)) (known rest))
AreKnown-front bytes left front more (inr known) = inr (known.0, Begins-front front more (input_lines bytes) known.1)

-- where a read failed: the whole lines
module _ (bytes : List ℕ) (given : List InputLine) (reader : Reading) (had : HasGiven bytes given reader) (no_line : HasNoLine reader) where
  can : (rest : List ℕ) → CanFollow reader rest
  can rest ended = absurd (false≢true (sym no_line.goes_on ∙ ended))

  given_whole : reader.skips ≡ false → given ≡ whole_lines bytes
  given_whole skips =
      let last : lines_to_come reader (NEWLINE ∷ []) ≡ text reader.pending ∷ [] =
      ap input_lines (bytes_to_come-given reader (NEWLINE ∷ []) skips) ∙ ap (map line_of) (cut_lines-line reader.pending [] no_line.no_newline)
      ∙ ap (λ (l : InputLine). l ∷ []) (line_of-short reader.pending no_line.short) in
      let ended = input_lines-ended bytes [] (λ k d lt. absurd (omega arith)) in
      let same : given ++ text reader.pending ∷ [] ≡ whole_lines bytes ++ line_of (last_part bytes ++ []) ∷ [] =
      ap (λ (l : List InputLine). given ++ l) (sym last) ∙ sym (had (NEWLINE ∷ []) (can (NEWLINE ∷ [])))
      ∙ ap (λ (l : List ℕ). input_lines (l ++ NEWLINE ∷ [])) (sym (append-nil bytes)) ∙ ended in
      (same_from_push given (whole_lines bytes) (text reader.pending) (line_of (last_part bytes ++ [])) same).0

  given_too_long : (n : ℕ) → MAX_LINE ≤ n → reader.skips ≡ true → given ≡ whole_lines bytes ++ too_long ∷ []
  given_too_long n long skips =
      let more : List ℕ = replicate n 0 in
      let none : HasNoNewline more = All-replicate (λ b. b ≢ NEWLINE) n 0 (λ is. absurd (omega arith)) in
      let size : MAX_LINE ≤ length (last_part bytes ++ more) = omega (arith, length-append (last_part bytes) more, length-replicate {A = ℕ} n 0) in
      let skipped : lines_to_come reader (more ++ NEWLINE ∷ []) ≡ [] =
      ap input_lines (bytes_to_come-skipped reader (more ++ NEWLINE ∷ []) skips
      ∙ ap (λ (l : List ℕ). after_newline (l ++ (more ++ NEWLINE ∷ []))) (no_line.skipped skips) ∙ after_newline-part more (NEWLINE ∷ []) none) in
      sym (append-nil given) ∙ ap (λ (l : List InputLine). given ++ l) (sym skipped) ∙ sym (had (more ++ NEWLINE ∷ []) (can (more ++ NEWLINE ∷ [])))
      ∙ ap input_lines (sym (append_assoc bytes more (NEWLINE ∷ []))) ∙ input_lines-ended bytes more none
      ∙ ap (λ (l : InputLine). whole_lines bytes ++ l ∷ []) (line_of-long (last_part bytes ++ more) size)

  given_all : reader.skips ≡ true → given ≡ input_lines bytes
  given_all skips = HasGiven-end bytes given reader had (no_line.skipped skips)

  pub HasGiven-fault : AreReadLines bytes given
  HasGiven-fault = elim reader.skips as (λ b. reader.skips ≡ b → AreReadLines bytes given) [
    | true ↦ λ skips. inr (given_too_long MAX_LINE (omega arith) skips, given_all skips)
    | false ↦ λ skips. inl (given_whole skips)
  ] refl
