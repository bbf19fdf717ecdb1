-- A line that was cut before its last byte is no request: an object is open in it.
use Rattle.std.proofs.Common.{◌≡◌, ℕ, zero, suc, ◌+◌, ◌<◌, ◌≤◌, Bool, true, false, cond, ◌==◌, nat_lt, List, [], ◌∷◌, ◌++◌, length, take, drop, Option, Some, None, All, option_and_then, decimal, ◌^◌, refl, sym, ap, ◌∙◌, subst, arith}
use Rattle.std.specs.Prelude.{⊤}
use Rattle.std.specs.Str.{is_utf8}
use Rattle.std.proofs.lemmas.List.{append_assoc, take-append-drop, length-append}
use Rattle.std.proofs.lemmas.List.Elements.{All-head}
use Rattle.json.specs.Ascii as ascii
use Rattle.json.specs.Token.{Token}
use Rattle.json.specs.Text.{content, plain}
use Rattle.json.specs.Word.{head, ends_word, after_number, literal, number_before, word}
use Rattle.json.specs.Lex as lexer
use Rattle.json.specs.Lex.{Lexeme, Class, Mode, Place, token, comma, colon, quote, backslash, operator, space, other, between, in_word, in_string, in_escape, fresh, after_value, after_comma, after_key, operator_lexeme, string_token, lex_byte, lex, if_allowed, place_token, may_begin, may_close, begins_colon, punctuate}
use Rattle.json.specs.Print.{escape, quoted}
use Rattle.json.specs.Json as json
use Rattle.json.specs.Json.{Parse, parse_map, after_end_array, read_key, items_step, members_step, value_with, items, members, value}
use Rattle.json.proofs.Printed.Decimals.{IsNumber-decimal}
use Rattle.json.proofs.Printed.Numbers.{lex-number}
use Rattle.json.proofs.Printed.Strings.{lex-escape}
use Rattle.serde_json.specs.Data.{Data, null, boolean, number, unsigned, negative, float, string, array, object, Items, no_items, item, Members, no_members, member}
use Rattle.serde_json.specs.Read.{of_json, read, max_depth}
use Rattle.serde_json.specs.Written.{comma_if, compact_text, items_text, members_text}
use Rattle.lexicon.specs.declared.words.TheConstants.{LAST_NUMBER}
use Rattle.wiki_io.specs.declared.limits.TheConstants.{MAX_LINE}
use Rattle.wiki_talk.specs.declared.requests.Request.{Request}
use Rattle.wiki_talk.specs.declared.requests.Request.TheVariants as requests
use Rattle.wiki_talk.specs.declared.requests.WikiRequest.TheVariants as of_wiki
use Rattle.wiki_talk.specs.declared.requests.WordRequest.TheVariants as of_word
use Rattle.wiki_talk.specs.declared.requests.ArticleRequest.TheVariants as of_article
use Rattle.wiki_talk.specs.declared.requests.SessionRequest.TheVariants as of_session
use Rattle.wire_json.specs.Values.{texts_items}
use Rattle.wire_json.specs.Requests.{request_value, line_request_in, line_request_of}
use Rattle.wire_json.specs.Told.{CanBeTold, request_text}
use Rattle.wire_json.proofs.TextLemmas.{IsWhole}

-- ---- the brackets of objects among tokens

abbrev opened : Token → ℕ
opened Token.begin_object = 1
opened Token.end_object = 0
opened Token.begin_array = 0
opened Token.end_array = 0
opened (Token.key s) = 0
opened (Token.string s) = 0
opened (Token.number s) = 0
opened (Token.boolean b) = 0
opened Token.null = 0
opened Token.bad = 0

abbrev closed : Token → ℕ
closed Token.begin_object = 0
closed Token.end_object = 1
closed Token.begin_array = 0
closed Token.end_array = 0
closed (Token.key s) = 0
closed (Token.string s) = 0
closed (Token.number s) = 0
closed (Token.boolean b) = 0
closed Token.null = 0
closed Token.bad = 0

abbrev opens : List Token → ℕ
opens [] = 0
opens (t ∷ ts) = opened t + opens ts

abbrev closes : List Token → ℕ
closes [] = 0
closes (t ∷ ts) = closed t + closes ts

-- ---- what the grammar takes of tokens closes what it opens

-- what was taken closes n objects more than it opens
abbrev Takes : {A : Type 0} → ℕ → List Token → Option (A × List Token) → Type 0
Takes n ts None = ⊤
Takes n ts (Some p) = opens ts + closes p.1 + n ≡ closes ts + opens p.1

Takes-map : {A B : Type 0} (f : A → B) (n : ℕ) (ts : List Token) (o : Option (A × List Token)) → Takes n ts o → Takes n ts (parse_map f o)
Takes-map f n ts None h = tt
Takes-map f n ts (Some p) h = h

Takes-after : {A : Type 0} (n : ℕ) (ts us : List Token) (o : Option (A × List Token)) → opens ts + closes us + 0 ≡ closes ts + opens us → Takes n us o
    → Takes n ts o
Takes-after n ts us None e h = tt
Takes-after n ts us (Some p) e h = omega arith

Takes-then : {A B C : Type 0} (g : A → B → C) (more : Parse B) (n : ℕ) (ts : List Token) (o : Option (A × List Token)) → Takes 0 ts o
    → ((us : List Token) → Takes n us (more us)) → Takes n ts (option_and_then (λ p. parse_map (g p.0) (more p.1)) o)
Takes-then g more n ts None h each = tt
Takes-then g more n ts (Some p) h each = Takes-map (g p.0) n ts (more p.1) (Takes-after n ts p.1 (more p.1) h (each p.1))

abbrev Ends : List Token → Option (List Token) → Type 0
Ends ts None = ⊤
Ends ts (Some us) = opens ts + closes us + 0 ≡ closes ts + opens us

ends : (ts : List Token) → Ends ts (after_end_array ts)
ends [] = tt
ends (Token.begin_object ∷ ts) = tt
ends (Token.end_object ∷ ts) = tt
ends (Token.begin_array ∷ ts) = tt
ends (Token.end_array ∷ ts) = omega arith
ends (Token.key s ∷ ts) = tt
ends (Token.string s ∷ ts) = tt
ends (Token.number s ∷ ts) = tt
ends (Token.boolean b ∷ ts) = tt
ends (Token.null ∷ ts) = tt
ends (Token.bad ∷ ts) = tt

abbrev KeyIsRead : List Token → Option (Option (List ℕ) × List Token) → Type 0
KeyIsRead ts None = ⊤
KeyIsRead ts (Some (None, us)) = opens ts + closes us + 1 ≡ closes ts + opens us
KeyIsRead ts (Some (Some k, us)) = opens ts + closes us + 0 ≡ closes ts + opens us

key_is_read : (ts : List Token) → KeyIsRead ts (read_key ts)
key_is_read [] = tt
key_is_read (Token.begin_object ∷ ts) = tt
key_is_read (Token.end_object ∷ ts) = omega arith
key_is_read (Token.begin_array ∷ ts) = tt
key_is_read (Token.end_array ∷ ts) = tt
key_is_read (Token.key s ∷ ts) = omega arith
key_is_read (Token.string s ∷ ts) = tt
key_is_read (Token.number s ∷ ts) = tt
key_is_read (Token.boolean b ∷ ts) = tt
key_is_read (Token.null ∷ ts) = tt
key_is_read (Token.bad ∷ ts) = tt

module _ (v : Parse json.Json) (each : (us : List Token) → Takes 0 us (v us)) where
  Takes-items_step : (more : Parse json.Items) → ((us : List Token) → Takes 0 us (more us)) → (ts : List Token) (o : Option (List Token)) → Ends ts o
      → Takes 0 ts (items_step v more ts o)
  Takes-items_step more then_each ts None h = Takes-then json.item more 0 ts (v ts) (each ts) then_each
  Takes-items_step more then_each ts (Some us) h = h

  Takes-items : (n : ℕ) (ts : List Token) → Takes 0 ts (items v n ts)
  unfolding items
  Takes-items zero ts = tt
  Takes-items (suc n) ts = Takes-items_step (items v n) (Takes-items n) ts (after_end_array ts) (ends ts)

  Takes-members_step : (more : Parse json.Members) → ((us : List Token) → Takes 1 us (more us)) → (ts : List Token)
      (o : Option (Option (List ℕ) × List Token)) → KeyIsRead ts o → Takes 1 ts (option_and_then (λ p. members_step v more p.0 p.1) o)
  Takes-members_step more then_each ts None h = tt
  Takes-members_step more then_each ts (Some (None, us)) h = h
  Takes-members_step more then_each ts (Some (Some k, us)) h =
      Takes-after 1 ts us (option_and_then (λ p. parse_map (json.member k p.0) (more p.1)) (v us)) h
      (Takes-then (json.member k) more 1 us (v us) (each us) then_each)

  Takes-members : (n : ℕ) (ts : List Token) → Takes 1 ts (members v n ts)
  unfolding members
  Takes-members zero ts = tt
  Takes-members (suc n) ts = Takes-members_step (members v n) (Takes-members n) ts (read_key ts) (key_is_read ts)

in_object : {A : Type 0} (ts : List Token) (o : Option (A × List Token)) → Takes 1 ts o → Takes 0 (Token.begin_object ∷ ts) o
in_object ts None h = tt
in_object ts (Some p) h = omega arith

in_array : {A : Type 0} (ts : List Token) (o : Option (A × List Token)) → Takes 0 ts o → Takes 0 (Token.begin_array ∷ ts) o
in_array ts None h = tt
in_array ts (Some p) h = omega arith

Takes-value_with : (a : Parse json.Items) (o : Parse json.Members) → ((us : List Token) → Takes 0 us (a us)) → ((us : List Token) → Takes 1 us (o us))
    → (ts : List Token) → Takes 0 ts (value_with a o ts)
Takes-value_with a o of_items of_members [] = tt
Takes-value_with a o of_items of_members (Token.begin_object ∷ ts) =
    Takes-map json.object 0 (Token.begin_object ∷ ts) (o ts) (in_object ts (o ts) (of_members ts))
Takes-value_with a o of_items of_members (Token.end_object ∷ ts) = tt
Takes-value_with a o of_items of_members (Token.begin_array ∷ ts) =
    Takes-map json.array 0 (Token.begin_array ∷ ts) (a ts) (in_array ts (a ts) (of_items ts))
Takes-value_with a o of_items of_members (Token.end_array ∷ ts) = tt
Takes-value_with a o of_items of_members (Token.key s ∷ ts) = tt
Takes-value_with a o of_items of_members (Token.string s ∷ ts) = omega arith
Takes-value_with a o of_items of_members (Token.number s ∷ ts) = omega arith
Takes-value_with a o of_items of_members (Token.boolean b ∷ ts) = omega arith
Takes-value_with a o of_items of_members (Token.null ∷ ts) = omega arith
Takes-value_with a o of_items of_members (Token.bad ∷ ts) = tt

Takes-value : (d : ℕ) (ts : List Token) → Takes 0 ts (value d ts)
unfolding value
Takes-value zero ts = Takes-value_with (λ us. None) (λ us. None) (λ us. tt) (λ us. tt) ts
Takes-value (suc d) ts = Takes-value_with (λ us. items (value d) (length us) us) (λ us. members (value d) (length us) us)
    (λ us. Takes-items (value d) (Takes-value d) (length us) us) (λ us. Takes-members (value d) (Takes-value d) (length us) us) ts

abbrev whole : Option (json.Json × List Token) → Option Data
whole found = option_and_then of_json (option_and_then (λ p. json.if_last p.0 p.1) found)

unfinished : (ts : List Token) (o : Option (json.Json × List Token)) → Takes 0 ts o → closes ts < opens ts → whole o ≡ None
unfinished ts None h few = refl
unfinished ts (Some (j, [])) h few = absurd (omega arith)
unfinished ts (Some (j, t ∷ rest)) h few = refl

-- ---- tokens close no more than the lexemes that they are made of

abbrev closed_by : Lexeme → ℕ
closed_by (token t) = closed t
closed_by comma = 0
closed_by colon = 0

abbrev shuts : List Lexeme → ℕ
shuts [] = 0
shuts (l ∷ ls) = closed_by l + shuts ls

allowed : (b : Bool) (t : Token) (k : Place → List Token) (next : Place) (n : ℕ) → closes (k next) ≤ n → closes (if_allowed b t k next) ≤ closed t + n
allowed true t k next n h = omega arith
allowed false t k next n h = omega arith

placed : (p : Place) (t : Token) (b : Bool) (k : Place → List Token) (n : ℕ) → ((q : Place) → closes (k q) ≤ n) → closes (place_token p t b k) ≤ closed t + n
placed p Token.begin_object b k n h = allowed (may_begin p) Token.begin_object k fresh n (h fresh)
placed p Token.end_object b k n h = allowed (may_close p) Token.end_object k after_value n (h after_value)
placed p Token.begin_array b k n h = allowed (may_begin p) Token.begin_array k fresh n (h fresh)
placed p Token.end_array b k n h = allowed (may_close p) Token.end_array k after_value n (h after_value)
placed p (Token.key s) b k n h = omega arith
placed p (Token.string s) true k n h = allowed (may_begin p) (Token.key s) k after_key n (h after_key)
placed p (Token.string s) false k n h = allowed (may_begin p) (Token.string s) k after_value n (h after_value)
placed p (Token.number s) b k n h = allowed (may_begin p) (Token.number s) k after_value n (h after_value)
placed p (Token.boolean c) b k n h = allowed (may_begin p) (Token.boolean c) k after_value n (h after_value)
placed p Token.null b k n h = allowed (may_begin p) Token.null k after_value n (h after_value)
placed p Token.bad b k n h = omega arith

closes-punctuate : (p : Place) (ls : List Lexeme) → closes (punctuate p ls) ≤ shuts ls
unfolding punctuate
closes-punctuate fresh [] = omega arith
closes-punctuate after_value [] = omega arith
closes-punctuate after_comma [] = omega arith
closes-punctuate after_key [] = omega arith
closes-punctuate fresh (token t ∷ ls) = placed fresh t (begins_colon ls) (λ q. punctuate q ls) (shuts ls) (λ q. closes-punctuate q ls)
closes-punctuate after_value (token t ∷ ls) = placed after_value t (begins_colon ls) (λ q. punctuate q ls) (shuts ls) (λ q. closes-punctuate q ls)
closes-punctuate after_comma (token t ∷ ls) = placed after_comma t (begins_colon ls) (λ q. punctuate q ls) (shuts ls) (λ q. closes-punctuate q ls)
closes-punctuate after_key (token t ∷ ls) = placed after_key t (begins_colon ls) (λ q. punctuate q ls) (shuts ls) (λ q. closes-punctuate q ls)
closes-punctuate fresh (comma ∷ ls) = omega arith
closes-punctuate after_value (comma ∷ ls) = omega (arith, closes-punctuate after_comma ls)
closes-punctuate after_comma (comma ∷ ls) = omega arith
closes-punctuate after_key (comma ∷ ls) = omega arith
closes-punctuate fresh (colon ∷ ls) = omega arith
closes-punctuate after_value (colon ∷ ls) = omega arith
closes-punctuate after_comma (colon ∷ ls) = omega arith
closes-punctuate after_key (colon ∷ ls) = omega (arith, closes-punctuate fresh ls)

-- ---- the lexemes of a front part close no more than those of the whole

closed-string_token : (o : Option (List ℕ)) → closed (string_token o) ≡ 0
closed-string_token None = refl
closed-string_token (Some s) = refl

closed-cond : (b : Bool) (t u : Token) → closed t ≡ 0 → closed u ≡ 0 → closed (cond b t u) ≡ 0
closed-cond true t u h k = h
closed-cond false t u h k = k

closed-number_before : (xs : List ℕ) (o : Option (List ℕ)) → closed (number_before xs o) ≡ 0
closed-number_before xs None = refl
closed-number_before xs (Some rest) = closed-cond (ends_word rest) (Token.number (take _ xs)) Token.bad refl refl

closed-literal : (name : List ℕ) (t : Token) (xs : List ℕ) → closed t ≡ 0 → closed (literal name t xs) ≡ 0
closed-literal name t xs h = closed-cond _ t Token.bad h refl

closed-word : (xs : List ℕ) → closed (word xs) ≡ 0
unfolding word
closed-word xs =
    let last = closed-number_before xs (after_number xs) in
    let third = closed-cond (head xs == ascii.lower_n) (literal ascii.null_text Token.null xs) (number_before xs (after_number xs))
    (closed-literal ascii.null_text Token.null xs refl) last in
    let second = closed-cond (head xs == ascii.lower_f) (literal ascii.false_text (Token.boolean false) xs) _
    (closed-literal ascii.false_text (Token.boolean false) xs refl) third in
    closed-cond (head xs == ascii.lower_t) (literal ascii.true_text (Token.boolean true) xs) _
    (closed-literal ascii.true_text (Token.boolean true) xs refl) second

module _ (x : ℕ) (xs ys : List ℕ) (k l : Mode → List Lexeme) (h : (m : Mode) → shuts (k m) ≤ shuts (l m)) where
  shuts-lex_byte : (m : Mode) (c : Class) → shuts (lex_byte m c x xs k) ≤ shuts (lex_byte m c x ys l)
  shuts-lex_byte between quote = omega (arith, h in_string, closed-string_token (content plain xs), closed-string_token (content plain ys))
  shuts-lex_byte between backslash = omega (arith, h in_word)
  shuts-lex_byte between operator = omega (arith, h between)
  shuts-lex_byte between space = h between
  shuts-lex_byte between other = omega (arith, h in_word, closed-word (x ∷ xs), closed-word (x ∷ ys))
  shuts-lex_byte in_word quote = h in_word
  shuts-lex_byte in_word backslash = h in_word
  shuts-lex_byte in_word operator = omega (arith, h between)
  shuts-lex_byte in_word space = h between
  shuts-lex_byte in_word other = h in_word
  shuts-lex_byte in_string quote = h between
  shuts-lex_byte in_string backslash = h in_escape
  shuts-lex_byte in_string operator = h in_string
  shuts-lex_byte in_string space = h in_string
  shuts-lex_byte in_string other = h in_string
  shuts-lex_byte in_escape c = h in_string

shuts-front : (m : Mode) (xs ys : List ℕ) → shuts (lex m xs) ≤ shuts (lex m (xs ++ ys))
unfolding lex
shuts-front m [] ys = omega arith
shuts-front m (x ∷ xs) ys =
    shuts-lex_byte x xs (xs ++ ys) (λ q. lex q xs) (λ q. lex q (xs ++ ys)) (λ q. shuts-front q xs ys) m (lexer.class x)

-- ---- an object of texts, numbers and lists of texts, without its last byte, closes nothing

abbrev AreTexts : Items → Type 0
AreTexts no_items = ⊤
AreTexts (item (string s) ds) = AreTexts ds
AreTexts (item d ds) = ⊥

abbrev IsSimple : Data → Type 0
IsSimple null = ⊥
IsSimple (boolean b) = ⊥
IsSimple (number n) = IsWhole n
IsSimple (string s) = ⊤
IsSimple (array ds) = AreTexts ds
IsSimple (object ms) = ⊥

abbrev AreSimple : Members → Type 0
AreSimple no_members = ⊤
AreSimple (member k d ms) = IsSimple d × AreSimple ms

-- the members without the bracket behind them
abbrev body : Bool → Members → List ℕ
body later no_members = []
body later (member k d ms) = comma_if later ++ (quoted k ++ 58 ∷ (compact_text d ++ body true ms))

members_text-body : (later : Bool) (ms : Members) → members_text later ms ≡ body later ms ++ 125 ∷ []
members_text-body later no_members = refl
members_text-body later (member k d ms) =
    let c = compact_text d in
    let b = body true ms in
    ap (λ (l : List ℕ). comma_if later ++ (quoted k ++ 58 ∷ (c ++ l))) (members_text-body true ms)
    ∙ ap (λ (l : List ℕ). comma_if later ++ (quoted k ++ 58 ∷ l)) (sym (append_assoc c b (125 ∷ [])))
    ∙ ap (λ (l : List ℕ). comma_if later ++ l) (sym (append_assoc (quoted k) (58 ∷ (c ++ b)) (125 ∷ [])))
    ∙ sym (append_assoc (comma_if later) (quoted k ++ 58 ∷ (c ++ b)) (125 ∷ []))

shuts-quoted : (s rest : List ℕ) → shuts (lex between (quoted s ++ rest)) ≡ shuts (lex between rest)
unfolding lex
shuts-quoted s rest =
    let inside = ap (λ (l : List ℕ). shuts (lex in_string l)) (append_assoc (escape s) (34 ∷ []) rest) ∙ ap shuts (lex-escape s rest) in
    omega (arith, inside, closed-string_token (content plain ((escape s ++ 34 ∷ []) ++ rest)))

shuts-comma : (later : Bool) (xs : List ℕ) → shuts (lex between (comma_if later ++ xs)) ≡ shuts (lex between xs)
unfolding lex
shuts-comma true xs = omega arith
shuts-comma false xs = refl

shuts-bracket : (xs : List ℕ) → shuts (lex between (91 ∷ xs)) ≡ shuts (lex between xs)
unfolding lex
shuts-bracket xs = omega arith

shuts-end : (xs : List ℕ) → shuts (lex between (93 ∷ xs)) ≡ shuts (lex between xs)
unfolding lex
shuts-end xs = omega arith

shuts-colon : (xs : List ℕ) → shuts (lex between (58 ∷ xs)) ≡ shuts (lex between xs)
unfolding lex
shuts-colon xs = omega arith

shuts-items : (later : Bool) (ds : Items) (rest : List ℕ) → AreTexts ds → shuts (lex between (items_text later ds ++ rest)) ≡ shuts (lex between rest)
shuts-items later no_items rest h = shuts-end rest
shuts-items later (item (string s) ds) rest h =
    ap (λ (l : List ℕ). shuts (lex between l))
    (append_assoc (comma_if later) (quoted s ++ items_text true ds) rest
    ∙ ap (λ (l : List ℕ). comma_if later ++ l) (append_assoc (quoted s) (items_text true ds) rest))
    ∙ shuts-comma later (quoted s ++ (items_text true ds ++ rest)) ∙ shuts-quoted s (items_text true ds ++ rest) ∙ shuts-items true ds rest h
shuts-items later (item null ds) rest h = absurd h
shuts-items later (item (boolean b) ds) rest h = absurd h
shuts-items later (item (number n) ds) rest h = absurd h
shuts-items later (item (array es) ds) rest h = absurd h
shuts-items later (item (object ms) ds) rest h = absurd h

shuts-value : (d : Data) (rest : List ℕ) → IsSimple d → ends_word rest ≡ true → shuts (lex between (compact_text d ++ rest)) ≡ shuts (lex between rest)
shuts-value null rest h ended = absurd h
shuts-value (boolean b) rest h ended = absurd h
shuts-value (number (unsigned n)) rest h ended =
    let read = ap shuts (lex-number (decimal n) rest (IsNumber-decimal n h) ended) in
    omega (arith, read)
shuts-value (number (negative z)) rest h ended = absurd h
shuts-value (number (float x)) rest h ended = absurd h
shuts-value (string s) rest h ended = shuts-quoted s rest
shuts-value (array ds) rest h ended = shuts-bracket (items_text false ds ++ rest) ∙ shuts-items false ds rest h
shuts-value (object ms) rest h ended = absurd h

ends_word-body : (ms : Members) → ends_word (body true ms) ≡ true
ends_word-body no_members = refl
ends_word-body (member k d ms) = refl

shuts-body : (later : Bool) (ms : Members) → AreSimple ms → shuts (lex between (body later ms)) ≡ 0
unfolding lex
shuts-body later no_members h = refl
shuts-body later (member k d ms) h =
    let rest = compact_text d ++ body true ms in
    shuts-comma later (quoted k ++ 58 ∷ rest) ∙ shuts-quoted k (58 ∷ rest) ∙ shuts-colon rest ∙ shuts-value d (body true ms) h.0 (ends_word-body ms)
    ∙ shuts-body true ms h.1

-- ---- a front part of such an object

pub take-before : (n : ℕ) (xs ys : List ℕ) → n ≤ length xs → take n (xs ++ ys) ≡ take n xs
take-before zero xs ys h = refl
take-before (suc n) [] ys h = absurd (omega arith)
take-before (suc n) (x ∷ xs) ys h = ap (λ (l : List ℕ). x ∷ l) (take-before n xs ys (omega arith))

read-nothing : read [] ≡ None
unfolding lex punctuate value
read-nothing = refl

open_tokens : (xs : List ℕ) → lexer.tokens (123 ∷ xs) ≡ Token.begin_object ∷ punctuate fresh (lex between xs)
unfolding lex punctuate
open_tokens xs = refl

read-open : (xs : List ℕ) → shuts (lex between xs) ≡ 0 → read (123 ∷ xs) ≡ None
read-open xs quiet =
    let inside = punctuate fresh (lex between xs) in
    let few : closes (Token.begin_object ∷ inside) < opens (Token.begin_object ∷ inside) = omega (arith, closes-punctuate fresh (lex between xs), quiet) in
    ap (λ ts. whole (value max_depth ts)) (open_tokens xs)
    ∙ unfinished (Token.begin_object ∷ inside) (value max_depth (Token.begin_object ∷ inside)) (Takes-value max_depth (Token.begin_object ∷ inside)) few

read-front : (ms : Members) → AreSimple ms → (n : ℕ) → n < length (compact_text (object ms)) → read (take n (compact_text (object ms))) ≡ None
read-front ms h zero short = read-nothing
read-front ms h (suc n) short =
    let b = body false ms in
    let long : length (members_text false ms) ≡ length b + 1 = ap length (members_text-body false ms) ∙ length-append b (125 ∷ []) in
    let inside : n ≤ length b = omega arith in
    let front : take n (members_text false ms) ≡ take n b = ap (λ (l : List ℕ). take n l) (members_text-body false ms) ∙ take-before n b (125 ∷ []) inside in
    let kept : shuts (lex between (take n b ++ drop n b)) ≡ 0 = ap (λ (l : List ℕ). shuts (lex between l)) (take-append-drop n b) ∙ shuts-body false ms h in
    let quiet : shuts (lex between (take n b)) ≡ 0 = omega (arith, shuts-front between (take n b) (drop n b)) in
    ap (λ (l : List ℕ). read (123 ∷ l)) front ∙ read-open (take n b) quiet

-- ---- requests

no_request : (t u : Bool) (o : Option Data) → o ≡ None → cond t (option_and_then line_request_in (cond u o None)) None ≡ None
no_request true true o none = rw none refl
no_request true false o none = refl
no_request false u o none = refl

line_request_of-unread : (line : List ℕ) → read line ≡ None → line_request_of line ≡ None
unfolding line_request_of
line_request_of-unread line none = no_request (nat_lt (length line) MAX_LINE) (is_utf8 line) (read line) none

AreTexts-texts : (texts : List (List ℕ)) → AreTexts (texts_items texts)
AreTexts-texts [] = tt
AreTexts-texts (t ∷ texts) = AreTexts-texts texts

abbrev members_of : Data → Members
members_of (object ms) = ms
members_of d = no_members

fits : (n : ℕ) → All (λ m. m ≤ LAST_NUMBER) (n ∷ []) → n < 2 ^ 64
fits n h = let small : n ≤ LAST_NUMBER = All-head (λ m. m ≤ LAST_NUMBER) n [] h in omega arith

-- the value of a request has texts, numbers and lists of texts
simple_request : (r : Request) → CanBeTold r → (ms : Members) × (request_value r ≡ object ms) × AreSimple ms
simple_request (requests.OnWiki (of_wiki.Word kind forms)) h =
    (members_of (request_value (requests.OnWiki (of_wiki.Word kind forms))), refl, (tt, (AreTexts-texts forms, (tt, tt))))
simple_request (requests.OnWord word of_word.Find) h = (members_of (request_value (requests.OnWord word of_word.Find)), refl, (tt, (tt, tt)))
simple_request (requests.OnWiki of_wiki.Words) h = (members_of (request_value (requests.OnWiki of_wiki.Words)), refl, (tt, tt))
simple_request (requests.OnWiki (of_wiki.Parse sent)) h = (members_of (request_value (requests.OnWiki (of_wiki.Parse sent))), refl, (tt, (tt, tt)))
simple_request (requests.OnWord word (of_word.Reword forms)) h =
    (members_of (request_value (requests.OnWord word (of_word.Reword forms))), refl, (tt, (AreTexts-texts forms, (tt, tt))))
simple_request (requests.OnWord word of_word.Unword) h = (members_of (request_value (requests.OnWord word of_word.Unword)), refl, (tt, (tt, tt)))
simple_request (requests.OnWiki (of_wiki.Grammar sent)) h = (members_of (request_value (requests.OnWiki (of_wiki.Grammar sent))), refl, (tt, (tt, tt)))
simple_request (requests.OnArticle article (of_article.Add None sent)) h =
    (members_of (request_value (requests.OnArticle article (of_article.Add None sent))), refl, (tt, (tt, (tt, tt))))
simple_request (requests.OnArticle article (of_article.Add (Some place) sent)) h =
    (members_of (request_value (requests.OnArticle article (of_article.Add (Some place) sent))), refl, (tt, (fits place h.numbers, (tt, (tt, tt)))))
simple_request (requests.OnArticle article (of_article.Edit place sent)) h =
    (members_of (request_value (requests.OnArticle article (of_article.Edit place sent))), refl, (tt, (fits place h.numbers, (tt, (tt, tt)))))
simple_request (requests.OnArticle article (of_article.Remove place)) h =
    (members_of (request_value (requests.OnArticle article (of_article.Remove place))), refl, (tt, (fits place h.numbers, (tt, tt))))
simple_request (requests.OnArticle article (of_article.Retract place)) h =
    (members_of (request_value (requests.OnArticle article (of_article.Retract place))), refl, (tt, (fits place h.numbers, (tt, tt))))
simple_request (requests.OnArticle article (of_article.Reassert place)) h =
    (members_of (request_value (requests.OnArticle article (of_article.Reassert place))), refl, (tt, (fits place h.numbers, (tt, tt))))
simple_request (requests.OnArticle article of_article.Read) h = (members_of (request_value (requests.OnArticle article of_article.Read)), refl, (tt, (tt, tt)))
simple_request (requests.OnArticle article (of_article.Axioms place)) h =
    (members_of (request_value (requests.OnArticle article (of_article.Axioms place))), refl, (tt, (fits place h.numbers, (tt, tt))))
simple_request (requests.OnArticle article of_article.Open) h = (members_of (request_value (requests.OnArticle article of_article.Open)), refl, (tt, (tt, tt)))
simple_request (requests.OnSession session (of_session.Type sent)) h =
    (members_of (request_value (requests.OnSession session (of_session.Type sent))), refl, (tt, (fits session h.numbers, (tt, tt))))
simple_request (requests.OnSession session of_session.Back) h =
    (members_of (request_value (requests.OnSession session of_session.Back)), refl, (tt, (fits session h.numbers, tt)))
simple_request (requests.OnSession session of_session.Menu) h =
    (members_of (request_value (requests.OnSession session of_session.Menu)), refl, (tt, (fits session h.numbers, tt)))
simple_request (requests.OnSession session of_session.Commit) h =
    (members_of (request_value (requests.OnSession session of_session.Commit)), refl, (tt, (fits session h.numbers, tt)))
simple_request (requests.OnSession session of_session.Refresh) h =
    (members_of (request_value (requests.OnSession session of_session.Refresh)), refl, (tt, (fits session h.numbers, tt)))
simple_request (requests.OnSession session of_session.Drop) h =
    (members_of (request_value (requests.OnSession session of_session.Drop)), refl, (tt, (fits session h.numbers, tt)))

-- the line of a request that was cut before its last byte is no request
pub cut_is_no_request : (r : Request) → CanBeTold r → (n : ℕ) → n < length (request_text r) → line_request_of (take n (request_text r)) ≡ None
cut_is_no_request r h n short =
    let simple = simple_request r h in
    let same : request_text r ≡ compact_text (object simple.0) = ap compact_text simple.1 in
    let within : n < length (compact_text (object simple.0)) = subst (λ l. n < length l) same short in
    line_request_of-unread (take n (request_text r)) (ap (λ (l : List ℕ). read (take n l)) same ∙ read-front simple.0 simple.2 n within)
