use Rattle.std.proofs.Common.{inl, inr, ◌∙◌}
use Rattle.commands.proofs.import.told_of.Goals as goal

pub returns-in-Ok : goal.returns-in-Ok
returns-in-Ok c = inl c.in-Ok.ensures.made

pub returns-in_ok-from_slice-in-Err : goal.returns-in_ok-from_slice-in-Err
returns-in_ok-from_slice-in-Err c =
    let line = c.in_ok-line-in-Err.ensures in
    inr (
      c.in-Err.fault,
      line.memory,
      c.in-Err.ensures.fault,
      c.new.ensures,
      c.in_ok-from_slice-in-Err.ensures ∙ (c.as_bytes.ensures.value ∙ line.line),
    )
