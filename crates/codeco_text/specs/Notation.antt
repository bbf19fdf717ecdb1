-- The notation: what a text spells.
use Rattle.std.specs.Prelude.{◌≡◌, ℕ, Bool, true, false, not, ◌&&◌, ◌||◌, ◌==◌, List, [], ◌∷◌, ◌++◌, map, flat_map, codes, Option, Some, None, Result, Ok, Err, if◌then◌else◌, length, take, ◌<◌, ◌≤◌, ◌+◌}
use Rattle.std.specs.List.{list_all}
use Rattle.codeco_text.specs.declared.symbols.Sign.{Sign}
use Rattle.codeco_text.specs.declared.symbols.Sign.TheVariants as sign
use Rattle.codeco_text.specs.declared.symbols.Lexeme.{Lexeme}
use Rattle.codeco_text.specs.declared.symbols.Lexeme.TheVariants as lexeme
use Rattle.codeco_text.specs.declared.written.WrittenTerm.{WrittenTerm}
use Rattle.codeco_text.specs.declared.written.WrittenTerm.TheVariants as term
use Rattle.codeco_text.specs.declared.written.WrittenFeat.{WrittenFeat}
use Rattle.codeco_text.specs.declared.written.WrittenCategory.{WrittenCategory}
use Rattle.codeco_text.specs.declared.written.WrittenElement.{WrittenElement}
use Rattle.codeco_text.specs.declared.written.WrittenElement.TheVariants as element
use Rattle.codeco_text.specs.declared.written.Domain.{Domain}
use Rattle.codeco_text.specs.declared.written.Domain.TheVariants as domain
use Rattle.codeco_text.specs.declared.written.WrittenItem.{WrittenItem}
use Rattle.codeco_text.specs.declared.written.WrittenItem.TheVariants as item
use Rattle.codeco_text.specs.declared.syntax_fault.SyntaxFault.{SyntaxFault}
use Rattle.codeco_text.specs.declared.syntax_fault.SyntaxFault.TheVariants as fault
use Rattle.codeco_text.specs.Names.{is_space, is_word_byte, is_identifier, is_variable, is_terminal, is_among, keywords}

-- the thirty labels
abbrev pub labels : List (List ℕ)
labels = codes "statement" ∷ codes "ask" ∷ codes "if" ∷ codes "say" ∷ codes "and" ∷ codes "or" ∷ codes "pass" ∷ codes "not"
    ∷ codes "does" ∷ codes "done" ∷ codes "class" ∷ codes "top" ∷ codes "same" ∷ codes "only" ∷ codes "gap" ∷ codes "name"
    ∷ codes "refer" ∷ codes "var" ∷ codes "noun" ∷ codes "part" ∷ codes "some" ∷ codes "every" ∷ codes "no" ∷ codes "something"
    ∷ codes "everything" ∷ codes "nothing" ∷ codes "what" ∷ codes "which" ∷ codes "whichobj" ∷ codes "mark" ∷ []

-- the five preterminals
abbrev pub kinds : List (List ℕ)
kinds = codes "name" ∷ codes "noun" ∷ codes "of" ∷ codes "verb" ∷ codes "adj" ∷ []

abbrev pub sign_bytes : Sign → List ℕ
sign_bytes sign.Colon = codes ":"
sign_bytes sign.Comma = codes ","
sign_bytes sign.Stop = codes "."
sign_bytes sign.OpenBrace = codes "{"
sign_bytes sign.CloseBrace = codes "}"
sign_bytes sign.OpenParen = codes "("
sign_bytes sign.CloseParen = codes ")"
sign_bytes sign.Normal = codes "-->"
sign_bytes sign.Closing = codes "~~>"
sign_bytes sign.Dollar = codes "$"
sign_bytes sign.Hash = codes "#"
sign_bytes sign.Scope = codes "//"
sign_bytes sign.Weak = codes ">"
sign_bytes sign.Strong = codes ">>"
sign_bytes sign.Back = codes "<"
sign_bytes sign.NoBack = codes "/<"
sign_bytes sign.Plus = codes "+"
sign_bytes sign.Minus = codes "-"
sign_bytes sign.Question = codes "?"

-- the bytes of a symbol: a terminal has its brackets
abbrev pub lexeme_bytes : Lexeme → List ℕ
lexeme_bytes (lexeme.Identifier w) = w
lexeme_bytes (lexeme.Variable w) = w
lexeme_bytes (lexeme.Keyword w) = w
lexeme_bytes (lexeme.Label w) = w
lexeme_bytes (lexeme.Kind w) = w
lexeme_bytes (lexeme.Terminal t) = 91 ∷ t ++ 93 ∷ []
lexeme_bytes (lexeme.Sign s) = sign_bytes s

-- the bytes are those of a symbol of its kind
abbrev pub is_symbol : Lexeme → Bool
is_symbol (lexeme.Identifier w) = is_identifier w
is_symbol (lexeme.Variable w) = is_variable w
is_symbol (lexeme.Keyword w) = is_among keywords w
is_symbol (lexeme.Label w) = is_among labels w
is_symbol (lexeme.Kind w) = is_among kinds w
is_symbol (lexeme.Terminal t) = is_terminal t
is_symbol (lexeme.Sign s) = true

abbrev pub begins_by : (ℕ → Bool) → List ℕ → Bool
begins_by test [] = false
begins_by test (b ∷ bs) = test b

-- the text has the front at its front
abbrev pub has_front : List ℕ → List ℕ → Bool
has_front [] text = true
has_front (x ∷ xs) [] = false
has_front (x ∷ xs) (y ∷ ys) = (x == y) && has_front xs ys

-- whether the sign goes on to a longer one: > to >>, and - to -->
abbrev pub sign_goes_on : Sign → List ℕ → Bool
sign_goes_on sign.Weak rest = has_front (codes ">") rest
sign_goes_on sign.Minus rest = has_front (codes "->") rest
sign_goes_on _ rest = false

-- whether a longer symbol stands where this one does, with the rest behind it
abbrev pub goes_on : Lexeme → List ℕ → Bool
goes_on (lexeme.Terminal t) rest = false
goes_on (lexeme.Sign s) rest = sign_goes_on s rest
goes_on _ rest = begins_by is_word_byte rest

-- White space and comments. A comment is open at the front where `comment` says so; one that is open at the end is
-- closed by the text's end, where this is the `last` gap of the text.
abbrev pub is_gap : Bool → Bool → List ℕ → Bool
is_gap last comment [] = last || not comment
is_gap last true (b ∷ bs) = is_gap last (not (b == 10)) bs
is_gap last false (b ∷ bs) = if b == 37 then is_gap last true bs else is_space b && is_gap last false bs

-- behind a gap the text has this symbol, no longer one, and then the rest
pub record Begins (comment : Bool) (text : List ℕ) (x : Lexeme) (rest : List ℕ) : Type 0 where
  pub gap : List ℕ
  pub between : is_gap false comment gap ≡ true
  pub symbol : is_symbol x ≡ true
  pub longest : goes_on x rest ≡ false
  pub parts : text ≡ gap ++ (lexeme_bytes x ++ rest)

-- The text is these symbols with white space and comments before, between and after them. `comment` says that a comment
-- is open at its front.
abbrev pub SpellsFrom : Bool → List ℕ → List Lexeme → Type 0
SpellsFrom comment text [] = is_gap true comment text ≡ true
SpellsFrom comment text (x ∷ xs) = (rest : List ℕ) × Begins comment text x rest × SpellsFrom false rest xs

abbrev pub Spells : List ℕ → List Lexeme → Type 0
Spells text xs = SpellsFrom false text xs

abbrev pub term_lexemes : WrittenTerm → List Lexeme
term_lexemes (term.Atom w) = lexeme.Identifier w ∷ []
term_lexemes (term.Variable w) = lexeme.Variable w ∷ []
term_lexemes (term.Taken w) = lexeme.Sign sign.Question ∷ lexeme.Variable w ∷ []

abbrev pub feat_lexemes : WrittenFeat → List Lexeme
feat_lexemes f = lexeme.Identifier f.name ∷ lexeme.Sign sign.Colon ∷ term_lexemes f.term

-- the parts with a comma between two of them
abbrev pub listed : List (List Lexeme) → List Lexeme
listed [] = []
listed (x ∷ []) = x
listed (x ∷ y ∷ ys) = x ++ lexeme.Sign sign.Comma ∷ listed (y ∷ ys)

abbrev pub category_lexemes : Lexeme → List WrittenFeat → List Lexeme
category_lexemes name [] = name ∷ []
category_lexemes name (f ∷ fs) = name ∷ lexeme.Sign sign.OpenParen ∷ listed (map feat_lexemes (f ∷ fs)) ++ lexeme.Sign sign.CloseParen ∷ []

abbrev pub named : WrittenCategory → List Lexeme
named c = category_lexemes (lexeme.Identifier c.name) c.feats

-- patterns, each with this sign before it
abbrev pub signed : Sign → List WrittenCategory → List Lexeme
signed s cs = flat_map (λ c. lexeme.Sign s ∷ named c) cs

abbrev pub element_lexemes : WrittenElement → List Lexeme
element_lexemes (element.Terminal t) = lexeme.Terminal t ∷ []
element_lexemes (element.Preterminal c) = lexeme.Sign sign.Dollar ∷ category_lexemes (lexeme.Kind c.name) c.feats
element_lexemes (element.Sub c) = named c
element_lexemes (element.Position x) = lexeme.Sign sign.Hash ∷ lexeme.Variable x ∷ []
element_lexemes element.Opener = lexeme.Sign sign.Scope ∷ []
element_lexemes (element.Forward c) = lexeme.Sign sign.Weak ∷ named c
element_lexemes (element.Strong c) = lexeme.Sign sign.Strong ∷ named c
element_lexemes (element.Back ps ns) = lexeme.Sign sign.Back ∷ signed sign.Plus ps ++ signed sign.Minus ns
element_lexemes (element.NoBack ps) = lexeme.Sign sign.NoBack ∷ signed sign.Plus ps

abbrev pub label_lexemes : Option (List ℕ) → List Lexeme
label_lexemes None = []
label_lexemes (Some w) = lexeme.Sign sign.OpenBrace ∷ lexeme.Label w ∷ lexeme.Sign sign.CloseBrace ∷ []

abbrev pub arrow : Bool → Lexeme
arrow true = lexeme.Sign sign.Closing
arrow false = lexeme.Sign sign.Normal

abbrev pub body_lexemes : List WrittenElement → List Lexeme
body_lexemes es = flat_map element_lexemes es

abbrev pub domain_lexemes : Domain → List Lexeme
domain_lexemes domain.Words = lexeme.Keyword (codes "word") ∷ []
domain_lexemes domain.Positions = lexeme.Keyword (codes "position") ∷ []
domain_lexemes (domain.Atoms atoms) = listed (map (λ a. lexeme.Identifier a ∷ []) atoms)

abbrev pub item_lexemes : WrittenItem → List Lexeme
item_lexemes (item.Feature name d) = lexeme.Keyword (codes "feature") ∷ lexeme.Identifier name ∷ lexeme.Sign sign.Colon ∷ domain_lexemes d
    ++ lexeme.Sign sign.Stop ∷ []
item_lexemes (item.Rule r) = label_lexemes r.label ++ (named r.head ++ (arrow r.closing ∷ (body_lexemes r.body ++ lexeme.Sign sign.Stop ∷ [])))

-- the symbols of declarations and rules
abbrev pub lexemes : List WrittenItem → List Lexeme
lexemes items = flat_map item_lexemes items

abbrev pub is_marked : WrittenTerm → Bool
is_marked (term.Atom w) = false
is_marked (term.Variable w) = false
is_marked (term.Taken w) = true

-- no variable is marked
abbrev pub is_plain : WrittenCategory → Bool
is_plain c = list_all (λ f. not (is_marked f.term)) c.feats

abbrev pub is_empty : {X : Type 0} → List X → Bool
is_empty [] = true
is_empty (x ∷ xs) = false

-- a reference has a positive pattern, and only such patterns of < have marked variables
abbrev pub element_fits : WrittenElement → Bool
element_fits (element.Preterminal c) = is_plain c
element_fits (element.Sub c) = is_plain c
element_fits (element.Forward c) = is_plain c
element_fits (element.Strong c) = is_plain c
element_fits (element.Back ps ns) = not (is_empty ps) && list_all is_plain ns
element_fits (element.NoBack ps) = not (is_empty ps) && list_all is_plain ps
element_fits _ = true

abbrev pub domain_fits : Domain → Bool
domain_fits domain.Words = true
domain_fits domain.Positions = true
domain_fits (domain.Atoms atoms) = not (is_empty atoms)

abbrev pub item_fits : WrittenItem → Bool
item_fits (item.Feature name d) = domain_fits d
item_fits (item.Rule r) = is_plain r.head && list_all element_fits r.body

-- the text is a sentence of the notation, and these are its declarations and rules
pub record IsSpelling (text : List ℕ) (items : List WrittenItem) : Type 0 where
  pub fits : list_all item_fits items ≡ true
  pub spells : Spells text (lexemes items)

abbrev pub IsSentence : List ℕ → Type 0
IsSentence text = (items : List WrittenItem) × IsSpelling text items

-- some continuation of the text is a sentence
abbrev pub HasContinuation : List ℕ → Type 0
HasContinuation text = (more : List ℕ) × IsSentence (text ++ more)

-- The text is no sentence; the bytes before this place go on to one, and with the byte there they don't. At the text's
-- end, the text itself goes on to a sentence.
pub record IsSyntaxFault (text : List ℕ) (place : ℕ) : Type 0 where
  pub within : place ≤ length text
  pub none : IsSentence text → ⊥
  pub before : HasContinuation (take place text)
  pub at : place < length text → HasContinuation (take (place + 1) text) → ⊥

-- what is said by the fault that a reading answers, unless memory ran out
abbrev pub TellsFault : List ℕ → SyntaxFault → Type 0
TellsFault text (fault.At place) = IsSyntaxFault text place
TellsFault text fault.Memory = Unit {0}

-- the call found these declarations and rules, unless memory ran out
abbrev pub Finds : List WrittenItem → Result (List WrittenItem) SyntaxFault → Type 0
Finds items (Ok found) = found ≡ items
Finds items (Err (fault.At place)) = ⊥
Finds items (Err fault.Memory) = Unit {0}
