use Rattle.owl_tokens.proofs.Cutting.{is_cut, one_cut}
use Rattle.owl_tokens.proofs.laws.one_cut.Goals as goal

pub returns : goal.returns
returns c = record { exists = is_cut; unique = one_cut }
