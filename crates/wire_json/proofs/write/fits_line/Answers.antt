use Rattle.std.proofs.Common.{◌∙◌}
use Rattle.wire_json.proofs.LengthLemmas.{line_fits}
use Rattle.wire_json.proofs.write.fits_line.Goals as goal

pub returns : goal.returns
returns c = line_fits c.args.request.now c.as_bytes.result.now (c.as_bytes.ensures.value ∙ c.in_ok-line.ensures)
