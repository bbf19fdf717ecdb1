use Rattle.std.proofs.Common.{◌∙◌}
use Rattle.logic_terms.specs.Known.{theory_of}
use Rattle.tableau_rules.specs.Shown.{graph_of}
use Rattle.agenda.proofs.Queueing.{settled, other_key}
use Rattle.agenda.proofs.queue.Queue.settle.Goals as goal

pub returns-clause-fits : goal.returns-clause-fits
returns-clause-fits c =
    settled (theory_of c.args.k.now) (graph_of c.args.b.now) c.args.rule c.args.self.now c.remove.new.self c.rest.new.waiting.items c.args.node
    c.requires.branch c.requires.fits c.in_ok-rest.ensures.more c.in_ok-rest.ensures.there
    (λ x other on. c.remove.ensures.updates.2 x (other_key c.args.node x other) ∙ on)
