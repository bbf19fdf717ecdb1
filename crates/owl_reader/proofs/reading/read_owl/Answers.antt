use Rattle.std.proofs.Common.{◌≡◌, sym, ◌∙◌}
use Rattle.owl_reader.proofs.Runs.{marked, whole_front}
use Rattle.owl_reader.proofs.reading.read_owl.Goals as goal

pub returns-then-has_mark : goal.returns-then-has_mark
returns-then-has_mark c = marked c.args.text.now (sym c.has_mark.ensures ∙ c.if-has_mark.true)

pub returns : goal.returns
returns c =
    whole_front c.args.text.now c.utf8_front-front.result.now c.read_front.result (sym c.has_mark.ensures ∙ c.if-has_mark.false)
    c.utf8_front-front.ensures c.read_front.ensures
