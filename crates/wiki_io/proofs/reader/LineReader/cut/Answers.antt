use Rattle.std.proofs.Common.{arith, ◌≡◌, ◌+◌, ◌-◌, List, ℕ, Some, false, take, sym, ap, ◌∙◌, subst}
use Rattle.std.specs.List.{slice_range, slice_get}
use Rattle.std.proofs.lemmas.Bool.{false≢true}
use Rattle.wiki_io.specs.Lines.{HasNoNewline}
use Rattle.wiki_io.specs.Reading.{Reading, bytes_to_come}
use Rattle.wiki_io.specs.declared.limits.TheConstants.{NEWLINE}
use Rattle.wiki_io.proofs.PartLemmas.{Found, found, not_found, length-part, take-part-is}
use Rattle.wiki_io.proofs.reader.LineReader.cut.Goals as goal
use Rattle.wiki_io.proofs.reader.LineReader.cut.Goals.{In-Some}

-- the newline byte that was found
found_in : (c : In-Some) → Found c.self.inside.buffer.items c.self.inside.start c.min-window.result c.self.inside.end (c.self.inside.searched + c.in-Some.at)
found_in c =
    let f = c.self.inside in
    let w = c.min-window.result in
    let mid = f.start + f.searched in
    let at = c.in-Some.at in
    let place : (mid - f.start) + at ≡ f.searched + at = omega arith in
    let none = subst (λ (b : List ℕ). HasNoNewline (take at (slice_range b mid w))) c.deref.ensures.value c.in-Some.ensures.some.0 in
    let newline = subst (λ (b : List ℕ). slice_get (slice_range b mid w) at ≡ Some NEWLINE) c.deref.ensures.value c.in-Some.ensures.some.1 in
    subst (λ (k : ℕ). Found f.buffer.items f.start w f.end k) place
    (found f.buffer.items f.start mid w f.end (omega arith) (omega arith) (omega arith) (omega (arith, f.buffer.ok.0)) c.self.invariant.no_newline at none
    newline)

pub text-requires-clause-no_newline : goal.text-requires-clause-no_newline
text-requires-clause-no_newline c =
    let at = c.self.inside.searched + c.in-Some.at in
    subst (λ (r : Reading). HasNoNewline (take at r.pending)) c.self.view_is (found_in (goal.at.text-requires-clause-no_newline c).In-Some).no_newline

pub text-requires-clause-newline : goal.text-requires-clause-newline
text-requires-clause-newline c =
    let at = c.self.inside.searched + c.in-Some.at in
    subst (λ (r : Reading). slice_get r.pending at ≡ Some NEWLINE) c.self.view_is (found_in (goal.at.text-requires-clause-newline c).In-Some).newline

pub too_long-requires-clause-no_newline : goal.too_long-requires-clause-no_newline
too_long-requires-clause-no_newline c =
    let f = c.self.inside in
    let w = c.min-window.result in
    let pending = ap (λ (r : Reading). r.pending) c.self.view_is in
    let none = subst (λ (b : List ℕ). HasNoNewline (slice_range b (f.start + f.searched) w)) c.deref.ensures.value c.in-None.ensures.none in
    let all = not_found f.buffer.items f.start (f.start + f.searched) w f.end (omega arith) (omega arith) (omega arith) (omega (arith, f.buffer.ok.0))
    c.self.invariant.no_newline none in
    let size : f.start + 65536 ≡ w = omega arith in
    subst (λ (l : List ℕ). HasNoNewline (take 65536 l)) pending
    (subst HasNoNewline (sym (take-part-is f.buffer.items f.start f.end 65536 (omega arith) ∙ ap (λ (k : ℕ). slice_range f.buffer.items f.start k) size)) all)

pub invariant_of-self : goal.invariant_of-self
invariant_of-self c =
    let f = c.self.inside in
    let w = c.min-window.result in
    let none = subst (λ (b : List ℕ). HasNoNewline (slice_range b (f.start + f.searched) w)) c.deref.ensures.value c.in-None.ensures.none in
    let all = not_found f.buffer.items f.start (f.start + f.searched) w f.end (omega arith) (omega arith) (omega arith) (omega (arith, f.buffer.ok.0))
    c.self.invariant.no_newline none in
    let size : w ≡ f.start + (w - f.start) = omega arith in
    record {
      room = c.self.invariant.room;
      order = c.self.invariant.order;
      end = c.self.invariant.end;
      line = c.self.invariant.line;
      searched = omega arith;
      window = omega arith;
      no_newline = subst (λ (k : ℕ). HasNoNewline (slice_range f.buffer.items f.start k)) size all;
      nothing_pending = c.self.invariant.nothing_pending;
    }

pub returns-in-None-2-clause-none : goal.returns-in-None-2-clause-none
returns-in-None-2-clause-none c =
    let f = c.self.inside in
    let w = c.min-window.result in
    let none = subst (λ (b : List ℕ). HasNoNewline (slice_range b (f.start + f.searched) w)) c.deref.ensures.value c.in-None.ensures.none in
    let all = not_found f.buffer.items f.start (f.start + f.searched) w f.end (omega arith) (omega arith) (omega arith) (omega (arith, f.buffer.ok.0))
    c.self.invariant.no_newline none in
    let size : w ≡ f.end = omega arith in
    let skips : f.skips ≡ false = ap (λ (r : Reading). r.skips) c.self.view_is ∙ c.if-not-skip.ensures.done in (
      record {
        no_newline = subst (λ (k : ℕ). HasNoNewline (slice_range f.buffer.items f.start k)) size all;
        short = omega (arith, length-part f.buffer.items f.start f.end (omega (arith, f.buffer.ok.0)));
        skipped = λ is. absurd (false≢true (sym skips ∙ is));
        goes_on = ap (λ (r : Reading). r.ended) c.self.view_is ∙ c.skip.ensures.ended;
      },
      λ rest. c.skip.ensures.kept rest ∙ ap (λ (r : Reading). bytes_to_come r rest) (sym c.self.view_is),
    )
