use Rattle.std.proofs.Common.{arith, length, ap, ◌∙◌, sym, refl, inl, inr}
use Rattle.std.proofs.lemmas.Bool.{cases_lt, false≢true}
use Rattle.std.proofs.lemmas.List.{length-append}
use Rattle.wiki_io.specs.Reading.{Reading}
use Rattle.wiki_io.specs.declared.reader.Line.TheVariants.{TooMuch}
use Rattle.wiki_io.proofs.StepLemmas.{HasRead-step, ReadsLine-none, none_there, short_there}
use Rattle.wiki_io.proofs.reader.LineReader.next_line.Goals as goal

pub returns-then-is_over-clause-lines : goal.returns-then-is_over-clause-lines
returns-then-is_over-clause-lines g c =
    let goes_on = sym (ap (λ (r : Reading). r.ended) c.self.view_is) ∙ c.if-self.false in
    let read = HasRead-step _ _ c.loop-line.self c.cut.new.self c.fill.new.self _ _ _ c.loop-line.invariant.read c.in_default.ensures.none c.cut.ensures.count
    c.in-Bytes.ensures.bytes in
    ReadsLine-none _ c.args.self.now c.fill.new.self _ TooMuch goes_on read refl

pub returns-then-is_over-clause-at_once : goal.returns-then-is_over-clause-at_once
returns-then-is_over-clause-at_once g c = λ some.
    absurd (some (none_there c.args.self.now c.loop-line.self c.cut.new.self (c.loop-line.invariant.at_once some).1 c.in_default.ensures.none))

pub loop-line-preserved : goal.loop-line-preserved
loop-line-preserved g c = record {
  read = HasRead-step _ _ c.loop-line.self c.cut.new.self c.fill.new.self _ _ _ c.loop-line.invariant.read c.in_default.ensures.none c.cut.ensures.count
      c.in-Bytes.ensures.bytes;
  small = elim (cases_lt 4294967296 c.fill.new.self.count) [ inl over ↦ absurd (false≢true (c.if-is_over.ensures.1 over)) | inr fits ↦ fits ];
  faults = omega (arith, c.loop-line.invariant.faults, c.fill.ensures.faults);
  keeps = omega (
    arith,
    c.loop-line.invariant.keeps,
    c.cut.ensures.keeps,
    c.cut.ensures.count,
    ap length c.in-Bytes.ensures.bytes.pending,
    length-append c.cut.new.self.pending c.in-Bytes.ensures.bytes.got,
    c.in-Bytes.ensures.bytes.count,
  );
  at_once_too_long = λ long.
      let short = short_there c.args.self.now c.loop-line.self c.cut.new.self (c.loop-line.invariant.at_once_too_long long).1 c.in_default.ensures.none in
      absurd (omega arith);
  at_once = λ some.
      absurd (some (none_there c.args.self.now c.loop-line.self c.cut.new.self (c.loop-line.invariant.at_once some).1 c.in_default.ensures.none));
}

pub returns-in-End-clause-at_once : goal.returns-in-End-clause-at_once
returns-in-End-clause-at_once g c = λ some.
    absurd (some (none_there c.args.self.now c.loop-line.self c.cut.new.self (c.loop-line.invariant.at_once some).1 c.in_default.ensures.none))

pub returns-in-Failed-clause-at_once : goal.returns-in-Failed-clause-at_once
returns-in-Failed-clause-at_once g c = λ some.
    absurd (some (none_there c.args.self.now c.loop-line.self c.cut.new.self (c.loop-line.invariant.at_once some).1 c.in_default.ensures.none))

pub returns-then-is_over-clause-at_once_too_long : goal.returns-then-is_over-clause-at_once_too_long
returns-then-is_over-clause-at_once_too_long g c = λ long.
    let short = short_there c.args.self.now c.loop-line.self c.cut.new.self (c.loop-line.invariant.at_once_too_long long).1 c.in_default.ensures.none in
    absurd (omega arith)

pub returns-in-End-clause-at_once_too_long : goal.returns-in-End-clause-at_once_too_long
returns-in-End-clause-at_once_too_long g c = λ long.
    let short = short_there c.args.self.now c.loop-line.self c.cut.new.self (c.loop-line.invariant.at_once_too_long long).1 c.in_default.ensures.none in
    absurd (omega arith)

pub returns-in-Failed-clause-at_once_too_long : goal.returns-in-Failed-clause-at_once_too_long
returns-in-Failed-clause-at_once_too_long g c = λ long.
    let short = short_there c.args.self.now c.loop-line.self c.cut.new.self (c.loop-line.invariant.at_once_too_long long).1 c.in_default.ensures.none in
    absurd (omega arith)
