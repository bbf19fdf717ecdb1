use Rattle.std.proofs.Common.{refl}
use Rattle.command_line.specs.declared.command.Outcome.TheVariants as outcomes
use Rattle.commands.proofs.StatusLemmas.{asked_so, asked_none, no_link_fault, performed, performed_quietly, makes_not, helps_not}
use Rattle.commands.proofs.running.perform.Goals as goal

pub returns-in-Some-Replay : goal.returns-in-Some-Replay
returns-in-Some-Replay g c =
    let ran = c.replay.ensures in
    let is = asked_so _ _ _ _ c.from_words.ensures c.in-Some-Replay.is c.in-Some-Replay.field-0-is in
    let quiet = c.quiet.ensures in
    record {
      performs = performed_quietly _ _ _ _ _ _ _ quiet.outcome quiet.remarks is (ran.replays, refl) ran.read_fault ran.write_fault
          (λ is. absurd (no_link_fault _ _ _ _ ran.replays.reads is));
    }

pub returns-in-Some-Serve : goal.returns-in-Some-Serve
returns-in-Some-Serve g c =
    let ran = c.serve.ensures in
    let is = asked_so _ _ _ _ c.from_words.ensures c.in-Some-Serve.is c.in-Some-Serve.field-0-is in
    let quiet = c.quiet-in-Some-Serve.ensures in
    record { performs = performed_quietly _ _ _ _ _ _ _ quiet.outcome quiet.remarks is ran.serves ran.read_fault ran.write_fault ran.link_fault }

pub returns-in-Some-Make : goal.returns-in-Some-Make
returns-in-Some-Make g c =
    let ran = c.make.ensures in
    let is = asked_so _ _ _ _ c.from_words.ensures c.in-Some-Make.is c.in-Some-Make.field-0-is in
    let quiet = c.quiet-in-Some-Make.ensures in
    record {
      performs = performed_quietly _ _ _ _ _ _ _ quiet.outcome quiet.remarks is (ran.makes, refl, refl)
          (λ is. absurd (makes_not _ _ _ _ _ outcomes.ReadFault _ ran.makes is)) ran.write_fault
          (λ is. absurd (makes_not _ _ _ _ _ outcomes.LinkFault _ ran.makes is));
    }

pub returns-in-Some-Help : goal.returns-in-Some-Help
returns-in-Some-Help g c =
    let ran = c.help.ensures in
    let is = asked_so _ _ _ _ c.from_words.ensures c.in-Some-Help.is c.in-Some-Help.field-0-is in
    let quiet = c.quiet-in-Some-Help.ensures in
    record {
      performs = performed_quietly _ _ _ _ _ _ _ quiet.outcome quiet.remarks is (ran.helps, refl, refl)
          (λ is. absurd (helps_not _ outcomes.ReadFault _ _ ran.helps is)) ran.write_fault
          (λ is. absurd (helps_not _ outcomes.LinkFault _ _ ran.helps is));
    }

pub returns-in-Some-Say : goal.returns-in-Some-Say
returns-in-Some-Say g c =
    let ran = c.say.ensures in
    let is = asked_so _ _ _ _ c.from_words.ensures c.in-Some-Say.is c.in-Some-Say.field-0-is in
    let quiet = c.quiet-in-Some-Say.ensures in
    record {
      performs = performed_quietly _ _ _ _ _ _ _ quiet.outcome quiet.remarks is (ran.retells, refl) ran.read_fault ran.write_fault
          (λ is. absurd (ran.link_fault is));
    }

pub returns-in-Some-Export : goal.returns-in-Some-Export
returns-in-Some-Export g c =
    let ran = c.export.ensures in
    let is = asked_so _ _ _ _ c.from_words.ensures c.in-Some-Export.is c.in-Some-Export.field-0-is in
    let quiet = c.quiet-in-Some-Export.ensures in
    record {
      performs = performed_quietly _ _ _ _ _ _ _ quiet.outcome quiet.remarks is (ran.retells, refl) ran.read_fault ran.write_fault
          (λ is. absurd (ran.link_fault is));
    }

pub returns-in-Some-Check : goal.returns-in-Some-Check
returns-in-Some-Check g c =
    let ran = c.check.ensures in
    let is = asked_so _ _ _ _ c.from_words.ensures c.in-Some-Check.is c.in-Some-Check.field-0-is in
    let quiet = c.quiet-in-Some-Check.ensures in
    record {
      performs = performed_quietly _ _ _ _ _ _ _ quiet.outcome quiet.remarks is (ran.tells, refl) ran.read_fault ran.write_fault
          (λ is. absurd (ran.link_fault is));
    }

pub returns-in-Some-Import : goal.returns-in-Some-Import
returns-in-Some-Import g c =
    let ran = c.import.ensures in
    let is = asked_so _ _ _ _ c.from_words.ensures c.in-Some-Import.is c.in-Some-Import.field-0-is in
    record { performs = performed _ _ _ _ _ _ is (ran.tells, refl) tt ran.read_fault ran.write_fault (λ is. absurd (ran.link_fault is)) }

pub returns-in-Some-Why : goal.returns-in-Some-Why
returns-in-Some-Why g c =
    let ran = c.why.ensures in
    let is = asked_so _ _ _ _ c.from_words.ensures c.in-Some-Why.is c.in-Some-Why.field-0-is in
    let quiet = c.quiet-in-Some-Why.ensures in
    record {
      performs = performed_quietly _ _ _ _ _ _ _ quiet.outcome quiet.remarks is (ran.retells, refl) ran.read_fault ran.write_fault
          (λ is. absurd (ran.link_fault is));
    }

pub returns-in-None : goal.returns-in-None
returns-in-None g c =
    let quiet = c.quiet-in-None.ensures in
    record {
      performs = performed_quietly _ _ _ _ _ _ _ quiet.outcome quiet.remarks (asked_none _ _ c.from_words.ensures c.in-None.is) (refl, refl)
          (λ is. absurd (cc is))
          (λ is. absurd (cc is))
          (λ is. absurd (cc is));
    }
