use Rattle.std.proofs.lemmas.Str.{IsUtf8-string_bytes}
use Rattle.wiki_base.proofs.bytes.Text8.push_str.Goals as goal

pub invariant_of-self-2 : goal.invariant_of-self-2
invariant_of-self-2 c = IsUtf8-string_bytes c.push_str.new.self
