-- What a contract sees of tokens, apart from the text that they lie in.
use Rattle.owl_tokens.specs.declared.tokens.Token.{Token}
use Rattle.owl_tokens.specs.declared.tokens.Next.{Next}
use Rattle.owl_tokens.specs.declared.tokens.Next.TheVariants as found
use Rattle.owl_tokens.specs.Tokens.{Token as Piece, Next as Piece_next, Found, Ends, Broken}

abbrev pub token_of : Token → Piece
token_of t = record { kind = t.kind; text = t.text.now; at = t.at; end = t.end }

abbrev pub shown : Next → Piece_next
shown (found.Found t) = Found (token_of t)
shown (found.Ends at) = Ends at
shown (found.Broken at) = Broken at
