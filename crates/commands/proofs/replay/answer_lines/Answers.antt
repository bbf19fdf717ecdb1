use Rattle.std.proofs.Common.{◌≡◌, ℕ, List, [], ◌∷◌, refl, ap, sym}
use Rattle.wiki_io.specs.Lines.{text}
use Rattle.wiki_io.specs.Reading.{answered}
use Rattle.wiki_io.specs.declared.reader.Line.{Line}
use Rattle.commands.specs.Lines.{line_handed}
use Rattle.commands.proofs.RunLemmas.{Running-first, Running-line, at_end-call, within-call, within-end, Replays-end, Replays-fault, Replays-too_large, Replays-cut, Rose-later}
use Rattle.commands.proofs.replay.answer_lines.Goals as goal
use Rattle.commands.proofs.replay.answer_lines.Goals.{in-Text, in-TooLong}

pub lines-init : goal.lines-init
lines-init g c = Running-first _ _ _ _ _ _ _ c.requires refl

pub returns-in-End-clause-replays : goal.returns-in-End-clause-replays
returns-in-End-clause-replays g c =
    let call = c.next_line.ensures in
    let ended = call.end c.in-End.is in
    let end = at_end-call (g.S.Source.left c.lines.input) (g.S.Source.left c.next_line.new.source) c.lines.reader c.next_line.new.self c.lines.invariant.at_end
    call.nothing_left (λ was. ap g.S.Source.left (call.ended was).1) in
    let within = within-end _ _ c.in-End.is call.too_much in
    Replays-end _ _ _ _ _ _ _ _ _ _ _ c.lines.invariant _ _ _ call.lines end (ap (λ (said : Line). answered said c.next_line.new.self.line) c.in-End.is)
    (call.nothing_pending ended) within (end ended)

pub returns-in-ReadFault-clause-replays : goal.returns-in-ReadFault-clause-replays
returns-in-ReadFault-clause-replays g c =
    let call = c.next_line.ensures in
    let end = at_end-call (g.S.Source.left c.lines.input) (g.S.Source.left c.next_line.new.source) c.lines.reader c.next_line.new.self c.lines.invariant.at_end
    call.nothing_left (λ was. ap g.S.Source.left (call.ended was).1) in
    Replays-fault _ _ _ _ _ _ _ _ _ _ _ c.lines.invariant _ _ _ call.lines end (ap (λ (said : Line). answered said c.next_line.new.self.line) c.in-ReadFault.is)
    (call.given c.in-ReadFault.is)

pub returns-in-ReadFault-clause-read_fault : goal.returns-in-ReadFault-clause-read_fault
returns-in-ReadFault-clause-read_fault g c = λ _. Rose-later _ _ _ c.lines.invariant.input_faults (c.next_line.ensures.read_fault c.in-ReadFault.is)

pub returns-in-TooMuch-clause-replays : goal.returns-in-TooMuch-clause-replays
returns-in-TooMuch-clause-replays g c =
    let call = c.next_line.ensures in
    let end = at_end-call (g.S.Source.left c.lines.input) (g.S.Source.left c.next_line.new.source) c.lines.reader c.next_line.new.self c.lines.invariant.at_end
    call.nothing_left (λ was. ap g.S.Source.left (call.ended was).1) in
    Replays-too_large _ _ _ _ _ _ _ _ _ _ _ c.lines.invariant _ _ _ call.lines end (call.too_much.0 c.in-TooMuch.is)

pub returns-in-Err-clause-replays : goal.returns-in-Err-clause-replays
returns-in-Err-clause-replays g c =
    let call = c.next_line.ensures in
    let end = at_end-call (g.S.Source.left c.lines.input) (g.S.Source.left c.next_line.new.source) c.lines.reader c.next_line.new.self c.lines.invariant.at_end
    call.nothing_left (λ was. ap g.S.Source.left (call.ended was).1) in
    let gives = elim c.match-next_line.branch as (λ _. answered c.next_line.result c.next_line.new.self.line ≡ line_handed c.match-next_line.line ∷ []) [
      | in-Text w ↦ rw (w.in-Text.is, w.line-is) (ap (λ (line : List ℕ). text line ∷ []) (sym w.line.ensures))
      | in-TooLong w ↦ rw (w.in-TooLong.is, w.line-is) refl
    ] in
    Replays-cut _ _ _ _ _ _ _ _ _ _ _ c.lines.invariant _ _ _ call.lines end _ gives _ _ _ c.in-Err.ensures.cut

pub lines-preserved : goal.lines-preserved
lines-preserved g c =
    let call = c.next_line.ensures in
    let end = at_end-call (g.S.Source.left c.lines.input) (g.S.Source.left c.next_line.new.source) c.lines.reader c.next_line.new.self c.lines.invariant.at_end
    call.nothing_left (λ was. ap g.S.Source.left (call.ended was).1) in
    let gives = elim c.match-next_line.branch as (λ _. answered c.next_line.result c.next_line.new.self.line ≡ line_handed c.match-next_line.line ∷ []) [
      | in-Text w ↦ rw (w.in-Text.is, w.line-is) (ap (λ (line : List ℕ). text line ∷ []) (sym w.line.ensures))
      | in-TooLong w ↦ rw (w.in-TooLong.is, w.line-is) refl
    ] in
    Running-line _ _ _ _ _ _ _ _ _ _ _ c.lines.invariant _ _ _ call.lines end _ gives _ _ _ _ (within-call _ _ _ _ gives call.too_much)
    c.in_default.ensures.answered call.faults c.answer_line.ensures.faults
