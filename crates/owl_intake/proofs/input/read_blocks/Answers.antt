use Rattle.std.proofs.Common.{◌≡◌, length, take, Err, length-take, ap, ◌∙◌, arith}
use Rattle.owl_intake.proofs.InputLemmas.{HasRead-none, ReadsInput-cut}
use Rattle.owl_intake.proofs.input.read_blocks.Goals as goal

pub reads-init : goal.reads-init
reads-init g c = HasRead-none _ _ _ c.new-bytes.ensures.items

pub returns-in-Err-clause-reads : goal.returns-in-Err-clause-reads
returns-in-Err-clause-reads g c =
    let bytes = c.reads.bytes.items in
    let got = take c.in-Bytes.count c.read.new.buf in
    let lengths : length got ≡ c.in-Bytes.count = omega (arith, length-take c.in-Bytes.count c.read.new.buf, c.in-Bytes.ensures.fits.1, c.read.auto.buf) in
    ReadsInput-cut (g.S.Source.left c.args.input.now) (g.S.Source.left c.reads.input) (g.S.Source.left c.read.new.self) bytes got
    (g.S.Source.faults c.args.input.now) (g.S.Source.faults c.reads.input) c.in-Err.cut c.reads.invariant c.in-Bytes.ensures.bytes
    (λ is. let many = c.add_front.ensures.too_much (c.in-Err.is ∙ ap Err is) in omega (arith, lengths, many))
    (λ is. let few = c.add_front.ensures.memory (c.in-Err.is ∙ ap Err is) in omega (arith, lengths, few))
    (λ is. c.add_front.ensures.read_fault (c.in-Err.is ∙ ap Err is))
