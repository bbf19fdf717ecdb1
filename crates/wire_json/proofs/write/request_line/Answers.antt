use Rattle.std.proofs.Common.{ap, ◌∙◌}
use Rattle.serde_json.specs.Written.{has_float}
use Rattle.wire_json.proofs.FloatLemmas.{has_float-request}
use Rattle.wire_json.proofs.write.request_line.Goals as goal

pub line_of-requires : goal.line_of-requires
line_of-requires c = ap has_float c.in_ok-request_value.ensures ∙ has_float-request c.args.request.now
