use Rattle.std.proofs.Common.{◌≡◌, ◌++◌, codes}
use Rattle.std.specs.String.{string_bytes}
use Rattle.form_urlencoded.specs.Form.{byte_serialize}
use Rattle.form_urlencoded.specs.Serialize.{serialized_text}
use Rattle.server.proofs.responses.article_path.Given as goal

-- the path so far, and what is left of the word
abbrev pub invariant-loop-piece : goal.invariant-loop-piece
invariant-loop-piece l = string_bytes l.path ++ serialized_text l.piece-iterator ≡ codes "/article/" ++ byte_serialize l.word
