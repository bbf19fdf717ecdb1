use Rattle.std.proofs.Common.{◌≡◌}
use Rattle.form_urlencoded.specs.Parse.{raw_pairs_left}
use Rattle.http_front.specs.Forms.{field}
use Rattle.http_front.proofs.FormLemmas.{value_in}
use Rattle.http_front.proofs.forms.field.Given as goal

-- what is left has the value
abbrev pub invariant-loop-key : goal.invariant-loop-key
invariant-loop-key l = value_in l.name (raw_pairs_left l.key-iterator) ≡ field l.name l.body
