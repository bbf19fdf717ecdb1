use Rattle.std.proofs.Common.{refl}
use Rattle.serving.proofs.ServeLemmas.{comes_so, connections_so, piece_came, piece_is, piece_not_over, piece_not_failed}
use Rattle.serving.proofs.serving.next_event.Goals as goal

pub returns-in-Opened-clause-handed : goal.returns-in-Opened-clause-handed
returns-in-Opened-clause-handed g c = (_, c.in-Opened.ensures.handed, refl)

pub returns-in-Opened-clause-comes : goal.returns-in-Opened-clause-comes
returns-in-Opened-clause-comes g c = λ event is. comes_so _ _ event c.in-Opened.ensures.comes is

pub returns-in-Opened-clause-connections : goal.returns-in-Opened-clause-connections
returns-in-Opened-clause-connections g c = λ event is. connections_so _ _ _ event c.in-Opened.ensures.connections is

pub returns-in-Ended-clause-handed : goal.returns-in-Ended-clause-handed
returns-in-Ended-clause-handed g c = (_, c.in-Ended.ensures.handed, refl)

pub returns-in-Ended-clause-comes : goal.returns-in-Ended-clause-comes
returns-in-Ended-clause-comes g c = λ event is. comes_so _ _ event c.in-Ended.ensures.comes is

pub returns-in-Ended-clause-connections : goal.returns-in-Ended-clause-connections
returns-in-Ended-clause-connections g c = λ event is. connections_so _ _ _ event c.in-Ended.ensures.connections is

pub returns-in-Over-clause-handed : goal.returns-in-Over-clause-handed
returns-in-Over-clause-handed g c = (_, c.in-Over.ensures.handed, refl)

pub returns-in-Failed-clause-handed : goal.returns-in-Failed-clause-handed
returns-in-Failed-clause-handed g c = (_, c.in-Failed.ensures.handed, refl)

pub returns-in-Bytes-clause-handed : goal.returns-in-Bytes-clause-handed
returns-in-Bytes-clause-handed g c = (
  _,
  c.in-Bytes.ensures.handed,
  piece_came c.in-Bytes.connection c.in-Bytes.size c.next.new.buf c.piece_come.result c.piece_come.ensures,
)

pub returns-in-Bytes-clause-comes : goal.returns-in-Bytes-clause-comes
returns-in-Bytes-clause-comes g c =
    λ event is. comes_so _ _ event c.in-Bytes.ensures.comes
    (piece_is c.in-Bytes.connection c.in-Bytes.size c.next.new.buf c.piece_come.result c.piece_come.ensures event is)

pub returns-in-Bytes-clause-connections : goal.returns-in-Bytes-clause-connections
returns-in-Bytes-clause-connections g c =
    λ event is. connections_so _ _ _ event c.in-Bytes.ensures.connections
    (piece_is c.in-Bytes.connection c.in-Bytes.size c.next.new.buf c.piece_come.result c.piece_come.ensures event is)

pub returns-in-Bytes-clause-over : goal.returns-in-Bytes-clause-over
returns-in-Bytes-clause-over g c = λ is.
    absurd (piece_not_over c.in-Bytes.connection c.in-Bytes.size c.next.new.buf c.piece_come.result c.piece_come.ensures is)

pub returns-in-Bytes-clause-failed : goal.returns-in-Bytes-clause-failed
returns-in-Bytes-clause-failed g c = λ is.
    absurd (piece_not_failed c.in-Bytes.connection c.in-Bytes.size c.next.new.buf c.piece_come.result c.piece_come.ensures is)
