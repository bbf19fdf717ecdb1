-- What is written from left to right is what is printed.
use Rattle.std.proofs.Common.{◌≡◌, ℕ, Bool, true, false, not, ◌&&◌, ◌||◌, cond, eqb, List, [], ◌∷◌, ◌++◌, refl, sym, ap, subst, ◌∙◌, append_assoc}
use Rattle.std.specs.List.{list_all}
use Rattle.std.proofs.lemmas.List.{append-nil}
use Rattle.std.proofs.lemmas.Bool.{and_parts, or_left, or_right, ne_eqb, and_left, both_ways}
use Rattle.codeco_text.specs.declared.symbols.Sign.{Sign}
use Rattle.codeco_text.specs.declared.symbols.Sign.TheVariants as sign
use Rattle.codeco_text.specs.declared.symbols.Lexeme.{Lexeme}
use Rattle.codeco_text.specs.declared.symbols.Lexeme.TheVariants as lexeme
use Rattle.codeco_text.specs.Names.{is_lower, is_upper, is_word_byte, keywords}
use Rattle.codeco_text.specs.Notation.{labels, kinds, sign_bytes, lexeme_bytes, is_symbol, begins_by, has_front, sign_goes_on, goes_on}
use Rattle.codeco_printer.specs.Printing.{spaced, printed}
use Rattle.codeco_printer.specs.Writing.{Output, put, write}
use Rattle.codeco_printer.proofs.PrintLaws.{begins_lower, identifier_begins, among_begins}
use Rattle.codeco_printer.proofs.Led.{is_word, leads, leads_sign, begins_word, led}

lower_word : (w rest : List ℕ) → begins_lower w ≡ true → begins_by is_word_byte (w ++ rest) ≡ true
lower_word [] rest h = absurd cc
lower_word (b ∷ bs) rest h = or_left _ (eqb b 95) (or_left _ _ (or_left (is_lower b) (is_upper b) h))

sign_word : (s : Sign) (rest : List ℕ) → begins_by is_word_byte (sign_bytes s ++ rest) ≡ false
sign_word sign.Colon rest = refl
sign_word s rest = refl

symbol_word : (x : Lexeme) (rest : List ℕ) → is_symbol x ≡ true → begins_by is_word_byte (lexeme_bytes x ++ rest) ≡ is_word x
symbol_word (lexeme.Identifier w) rest h = lower_word w rest (identifier_begins w h)
symbol_word (lexeme.Variable []) rest h = absurd cc
symbol_word (lexeme.Variable (b ∷ bs)) rest h =
    or_left _ (eqb b 95) (or_left _ _ (or_right (is_lower b) (is_upper b) (and_parts (is_upper b) (list_all is_word_byte bs) h).0))
symbol_word (lexeme.Keyword w) rest h = lower_word w rest (among_begins keywords w refl h)
symbol_word (lexeme.Label w) rest h = lower_word w rest (among_begins labels w refl h)
symbol_word (lexeme.Kind w) rest h = lower_word w rest (among_begins kinds w refl h)
symbol_word (lexeme.Terminal t) rest h = refl
symbol_word (lexeme.Sign s) rest h = sign_word s rest

words_begin : (xs : List Lexeme) → list_all is_symbol xs ≡ true → begins_by is_word_byte (printed xs) ≡ begins_word xs
words_begin [] h = refl
words_begin (x ∷ xs) h = symbol_word x (spaced x (printed xs)) (and_parts (is_symbol x) (list_all is_symbol xs) h).0

no_front : (c : ℕ) (cs text : List ℕ) → is_word_byte c ≡ false → begins_by is_word_byte text ≡ true → has_front (c ∷ cs) text ≡ false
no_front c cs [] h begins = refl
no_front c cs (b ∷ bs) h begins = and_left (eqb c b) (has_front cs bs)
    (ne_eqb c b (λ e. both_ways (is_word_byte b) (subst (λ n. is_word_byte n ≡ false) e h) begins))

sign_goes : (s : Sign) (xs : List Lexeme) → (not (leads_sign s) || begins_word xs) ≡ true → list_all is_symbol xs ≡ true → sign_goes_on s (printed xs) ≡ false
sign_goes sign.Weak xs l h = no_front 62 [] (printed xs) refl (words_begin xs h ∙ l)
sign_goes sign.Minus xs l h = no_front 45 (62 ∷ []) (printed xs) refl (words_begin xs h ∙ l)
sign_goes _ xs l h = refl

goes : (x : Lexeme) (xs : List Lexeme) → (not (leads x) || begins_word xs) ≡ true → list_all is_symbol xs ≡ true
    → goes_on x (printed xs) ≡ (is_word x && begins_word xs)
goes (lexeme.Terminal t) xs l h = refl
goes (lexeme.Sign s) xs l h = sign_goes s xs l h
goes x xs l h = words_begin xs h

abbrev pub text_after : Bool → List Lexeme → List ℕ
text_after after_word xs = cond (after_word && begins_word xs) (32 ∷ printed xs) (printed xs)

abbrev output : List ℕ → Bool → Output
output bytes after_word = record { bytes = bytes; after_word = after_word }

abbrev gap : Bool → Lexeme → List ℕ
gap after_word x = cond (after_word && is_word x) (32 ∷ []) []

put_bytes : (bytes : List ℕ) (after_word : Bool) (x : Lexeme) → (put (output bytes after_word) x).bytes ≡ bytes ++ (gap after_word x ++ lexeme_bytes x)
put_bytes bytes true (lexeme.Identifier w) = append_assoc bytes (32 ∷ []) w
put_bytes bytes true (lexeme.Variable w) = append_assoc bytes (32 ∷ []) w
put_bytes bytes true (lexeme.Keyword w) = append_assoc bytes (32 ∷ []) w
put_bytes bytes true (lexeme.Label w) = append_assoc bytes (32 ∷ []) w
put_bytes bytes true (lexeme.Kind w) = append_assoc bytes (32 ∷ []) w
put_bytes bytes false (lexeme.Identifier w) = refl
put_bytes bytes after_word x = refl

put_after : (bytes : List ℕ) (after_word : Bool) (x : Lexeme) → (put (output bytes after_word) x).after_word ≡ is_word x
put_after bytes after_word (lexeme.Identifier w) = refl
put_after bytes after_word x = refl

gap_text : (b : Bool) (text : List ℕ) → cond b (32 ∷ []) [] ++ text ≡ cond b (32 ∷ text) text
gap_text true text = refl
gap_text false text = refl

none_after : (b : Bool) → cond {A = List ℕ} (b && false) (32 ∷ []) [] ≡ []
none_after true = refl
none_after false = refl

pub write_is : (bytes : List ℕ) (after_word : Bool) (xs : List Lexeme) → led xs ≡ true → list_all is_symbol xs ≡ true
    → (write (output bytes after_word) xs).bytes ≡ bytes ++ text_after after_word xs
write_is bytes after_word [] l h = sym (ap (λ (x : List ℕ). bytes ++ x) (none_after after_word) ∙ append-nil bytes)
write_is bytes after_word (x ∷ xs) l h =
    let leads_parts = and_parts (not (leads x) || begins_word xs) (led xs) l in
    let parts = and_parts (is_symbol x) (list_all is_symbol xs) h in
    let next = put (output bytes after_word) x in
    let rest : text_after (is_word x) xs ≡ spaced x (printed xs) = ap (λ b. cond b (32 ∷ printed xs) (printed xs)) (sym (goes x xs leads_parts.0 parts.1)) in
    write_is next.bytes next.after_word xs leads_parts.1 parts.1
    ∙ ap (λ b. next.bytes ++ text_after b xs) (put_after bytes after_word x)
    ∙ ap (λ (t : List ℕ). next.bytes ++ t) rest
    ∙ ap (λ (t : List ℕ). t ++ spaced x (printed xs)) (put_bytes bytes after_word x)
    ∙ append_assoc bytes (gap after_word x ++ lexeme_bytes x) (spaced x (printed xs))
    ∙ ap (λ (t : List ℕ). bytes ++ t) (append_assoc (gap after_word x) (lexeme_bytes x) (spaced x (printed xs))
    ∙ gap_text (after_word && is_word x) (lexeme_bytes x ++ spaced x (printed xs)))
