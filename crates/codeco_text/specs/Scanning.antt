-- Reading a text byte by byte. Only calls inside the crate speak of it.
use Rattle.std.specs.Prelude.{◌≡◌, ℕ, Bool, true, false, ◌&&◌, ◌||◌, ◌==◌, List, [], ◌∷◌, ◌++◌, Option, Some, None, option_map, is_some, if◌then◌else◌, Result, Ok, Err, ◌+◌}
use Rattle.codeco_text.specs.declared.symbols.Sign.{Sign}
use Rattle.codeco_text.specs.declared.symbols.Sign.TheVariants as sign
use Rattle.codeco_text.specs.declared.symbols.Lexeme.TheVariants as lexeme
use Rattle.codeco_text.specs.declared.spot.Spot.{Spot}
use Rattle.codeco_text.specs.declared.spot.Spot.TheVariants as spot
use Rattle.codeco_text.specs.declared.written.WrittenItem.{WrittenItem}
use Rattle.codeco_text.specs.declared.builder.Builder.{Builder}
use Rattle.codeco_text.specs.Names.{is_space, is_word_byte, is_terminal_byte, is_terminal}
use Rattle.codeco_text.specs.Reading.{◌>>=◌, wants, as_word, may_begin, may_go_on, next_spot}
use Rattle.codeco_text.specs.Building.{push, grow, nothing}
use Rattle.codeco_text.specs.declared.written.WrittenTerm.TheVariants as term

-- in what a reading is: in white space, in a comment, or in a symbol with its bytes so far
pub data Mode : Type 0 where
  between : Mode
  comment : Mode
  word : List ℕ → Mode
  terminal : List ℕ → Mode
  dash : Mode
  dashes : Mode
  tilde : Mode
  tildes : Mode
  slash : Mode
  greater : Mode

-- a reading that has read nothing
abbrev pub fresh : Builder
fresh = record {
  spot = spot.Items;
  items = [];
  declaration = record { name = []; atom = []; atoms = []; positions = false };
  category = record { name = []; feats = []; feature = []; term = term.Atom [] };
  rule = record { pending = []; label = None; head = nothing; closing = false; body = []; positives = []; negatives = [] };
}

abbrev pub takes_sign : Builder → Sign → Bool
takes_sign b s = is_some (next_spot b.spot (lexeme.Sign s))

abbrev pub takes_terminal : Builder → Bool
takes_terminal b = is_some (next_spot b.spot (lexeme.Terminal []))

abbrev pub guard : {A : Type 0} → Bool → A → Option A
guard t x = if t then Some x else None

-- behind a symbol that was taken
abbrev pub behind : Option Builder → Option (Builder × Mode)
behind o = option_map (λ b. (b, between)) o

-- the sign that the byte is by itself
abbrev pub single : ℕ → Option Sign
single x =
    if x == 58 then Some sign.Colon
    else (if x == 44 then Some sign.Comma
    else (if x == 46 then Some sign.Stop
    else (if x == 123 then Some sign.OpenBrace
    else (if x == 125 then Some sign.CloseBrace
    else (if x == 40 then Some sign.OpenParen
    else (if x == 41 then Some sign.CloseParen
    else (if x == 36 then Some sign.Dollar
    else (if x == 35 then Some sign.Hash
    else (if x == 60 then Some sign.Back
    else (if x == 43 then Some sign.Plus
    else (if x == 63 then Some sign.Question
    else None)))))))))))

abbrev pub begin_dash : Builder → Option (Builder × Mode)
begin_dash b = if takes_sign b sign.Minus then behind (grow b (lexeme.Sign sign.Minus)) else guard (takes_sign b sign.Normal) (b, dash)

abbrev pub begin_single : Builder → ℕ → Option (Builder × Mode)
begin_single b x = single x >>= λ s. behind (grow b (lexeme.Sign s))

abbrev pub begin_sign : Builder → ℕ → Option (Builder × Mode)
begin_sign b x =
    if x == 91 then guard (takes_terminal b) (b, terminal [])
    else (if x == 45 then begin_dash b
    else (if x == 126 then guard (takes_sign b sign.Closing) (b, tilde)
    else (if x == 47 then guard (takes_sign b sign.Scope) (b, slash)
    else (if x == 62 then guard (takes_sign b sign.Weak) (b, greater)
    else begin_single b x))))

-- a byte outside symbols
abbrev pub begin : Builder → ℕ → Option (Builder × Mode)
begin b x =
    if is_space x then Some (b, between)
    else (if x == 37 then Some (b, comment)
    else (if may_begin (wants b.spot) x then Some (b, word (x ∷ []))
    else begin_sign b x))

-- where the symbol that is being read is whole
abbrev pub finish : Builder → Mode → Option Builder
finish b between = Some b
finish b comment = Some b
finish b (word w) = as_word (wants b.spot) w >>= λ x. grow b x
finish b (terminal t) = None
finish b dash = None
finish b dashes = None
finish b tilde = None
finish b tildes = None
finish b slash = None
finish b greater = grow b (lexeme.Sign sign.Weak)

-- behind a terminal of these bytes
abbrev pub if_terminal : Builder → List ℕ → Option (Builder × Mode)
if_terminal b t = if is_terminal t then behind (grow b (lexeme.Terminal t)) else None

-- one byte
abbrev pub step : Builder → Mode → ℕ → Option (Builder × Mode)
step b between x = begin b x
step b comment x = Some (b, if x == 10 then between else comment)
step b (word w) x = if is_word_byte x then guard (may_go_on (wants b.spot) (push w x)) (b, word (push w x)) else (finish b (word w) >>= λ c. begin c x)
step b (terminal t) x = if x == 93 then if_terminal b t else guard (is_terminal_byte x) (b, terminal (push t x))
step b dash x = guard (x == 45) (b, dashes)
step b dashes x = if x == 62 then behind (grow b (lexeme.Sign sign.Normal)) else None
step b tilde x = guard (x == 126) (b, tildes)
step b tildes x = if x == 62 then behind (grow b (lexeme.Sign sign.Closing)) else None
step b slash x = if x == 47 then behind (grow b (lexeme.Sign sign.Scope)) else (if x == 60 then behind (grow b (lexeme.Sign sign.NoBack)) else None)
step b greater x = if x == 62 then behind (grow b (lexeme.Sign sign.Strong)) else (finish b greater >>= λ c. begin c x)

abbrev pub is_between_items : Spot → Bool
is_between_items spot.Items = true
is_between_items _ = false

-- the items at the end of a text
abbrev pub ended : Builder → Mode → Option (List WrittenItem)
ended b m = finish b m >>= λ c. guard (is_between_items c.spot) c.items

abbrev pub ok_or_place : {A : Type 0} → Option A → ℕ → Result A ℕ
ok_or_place None n = Err n
ok_or_place (Some x) n = Ok x

abbrev pub carry : {A : Type 0} → Option (Builder × Mode) → ℕ → (Builder × Mode → Result A ℕ) → Result A ℕ
carry None n f = Err n
carry (Some s) n f = f s

-- the items that the bytes spell from here, or the place of the first byte that doesn't fit; n bytes stand before them
abbrev pub reading : Builder → Mode → List ℕ → ℕ → Result (List WrittenItem) ℕ
reading b m [] n = ok_or_place (ended b m) n
reading b m (x ∷ xs) n = carry (step b m x) n (λ s. reading s.0 s.1 xs (n + 1))
