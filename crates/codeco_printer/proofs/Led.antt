-- In the symbols of declarations and rules a word stands behind each > and each -, so that spaces stand between words alone.
use Rattle.std.proofs.Common.{◌≡◌, ℕ, Bool, true, false, not, ◌&&◌, ◌||◌, List, [], ◌∷◌, ◌++◌, map, refl, ap, ◌∙◌, append_assoc}
use Rattle.codeco_text.specs.declared.symbols.Sign.{Sign}
use Rattle.codeco_text.specs.declared.symbols.Sign.TheVariants as sign
use Rattle.codeco_text.specs.declared.symbols.Lexeme.{Lexeme}
use Rattle.codeco_text.specs.declared.symbols.Lexeme.TheVariants as lexeme
use Rattle.codeco_text.specs.declared.written.WrittenTerm.{WrittenTerm}
use Rattle.codeco_text.specs.declared.written.WrittenTerm.TheVariants as term
use Rattle.codeco_text.specs.declared.written.WrittenFeat.{WrittenFeat}
use Rattle.codeco_text.specs.declared.written.WrittenCategory.{WrittenCategory}
use Rattle.codeco_text.specs.declared.written.WrittenElement.{WrittenElement}
use Rattle.codeco_text.specs.declared.written.WrittenElement.TheVariants as element
use Rattle.codeco_text.specs.declared.written.Domain.{Domain}
use Rattle.codeco_text.specs.declared.written.Domain.TheVariants as domain
use Rattle.codeco_text.specs.declared.written.WrittenItem.{WrittenItem}
use Rattle.codeco_text.specs.declared.written.WrittenItem.TheVariants as item
use Rattle.codeco_text.specs.Notation.{listed, term_lexemes, category_lexemes, named, signed, element_lexemes, label_lexemes, arrow, body_lexemes, domain_lexemes, item_lexemes, lexemes}
use Rattle.codeco_printer.specs.Writing.{closed_feats}
use Rattle.codeco_printer.proofs.WriteLaws.{category_closed}
use Rattle.std.proofs.Common.{Option, Some, None}

abbrev pub is_word : Lexeme → Bool
is_word (lexeme.Terminal t) = false
is_word (lexeme.Sign s) = false
is_word _ = true

abbrev pub leads_sign : Sign → Bool
leads_sign sign.Weak = true
leads_sign sign.Minus = true
leads_sign _ = false

-- a sign that a longer one begins with
abbrev pub leads : Lexeme → Bool
leads (lexeme.Sign s) = leads_sign s
leads _ = false

abbrev pub begins_word : List Lexeme → Bool
begins_word [] = false
begins_word (x ∷ xs) = is_word x

abbrev pub led : List Lexeme → Bool
led [] = true
led (x ∷ xs) = (not (leads x) || begins_word xs) && led xs

led_term : (t : WrittenTerm) (rest : List Lexeme) → led (term_lexemes t ++ rest) ≡ led rest
led_term (term.Atom w) rest = refl
led_term (term.Variable w) rest = refl
led_term (term.Taken w) rest = refl

led_feats : (opened : Bool) (fs : List WrittenFeat) (rest : List Lexeme) → led (closed_feats opened fs ++ rest) ≡ led rest
led_feats false [] rest = refl
led_feats true [] rest = refl
led_feats false (f ∷ fs) rest = ap led (append_assoc (term_lexemes f.term) (closed_feats true fs) rest) ∙ led_term f.term (closed_feats true fs ++ rest)
    ∙ led_feats true fs rest
led_feats true (f ∷ fs) rest = ap led (append_assoc (term_lexemes f.term) (closed_feats true fs) rest) ∙ led_term f.term (closed_feats true fs ++ rest)
    ∙ led_feats true fs rest

led_named : (c : WrittenCategory) (rest : List Lexeme) → led (named c ++ rest) ≡ led rest
led_named c rest = ap (λ (x : List Lexeme). led (x ++ rest)) (category_closed (lexeme.Identifier c.name) c.feats) ∙ led_feats false c.feats rest

led_kind : (w : List ℕ) (fs : List WrittenFeat) (rest : List Lexeme) → led (category_lexemes (lexeme.Kind w) fs ++ rest) ≡ led rest
led_kind w fs rest = ap (λ (x : List Lexeme). led (x ++ rest)) (category_closed (lexeme.Kind w) fs) ∙ led_feats false fs rest

begins_named : (c : WrittenCategory) (rest : List Lexeme) → begins_word (named c ++ rest) ≡ true
begins_named c rest = ap (λ (x : List Lexeme). begins_word (x ++ rest)) (category_closed (lexeme.Identifier c.name) c.feats)

or_true : (x y : Bool) → ((x || true) && y) ≡ y
or_true true y = refl
or_true false y = refl

-- a sign before a category
led_sign : (s : Sign) (c : WrittenCategory) (rest : List Lexeme) → led (lexeme.Sign s ∷ (named c ++ rest)) ≡ led rest
led_sign s c rest =
    ap (λ b. (not (leads_sign s) || b) && led (named c ++ rest)) (begins_named c rest)
    ∙ or_true (not (leads_sign s)) (led (named c ++ rest))
    ∙ led_named c rest

led_signed : (s : Sign) (cs : List WrittenCategory) (rest : List Lexeme) → led (signed s cs ++ rest) ≡ led rest
led_signed s [] rest = refl
led_signed s (c ∷ cs) rest =
    ap (λ (x : List Lexeme). led (lexeme.Sign s ∷ x)) (append_assoc (named c) (signed s cs) rest)
    ∙ led_sign s c (signed s cs ++ rest)
    ∙ led_signed s cs rest

led_element : (e : WrittenElement) (rest : List Lexeme) → led (element_lexemes e ++ rest) ≡ led rest
led_element (element.Terminal t) rest = refl
led_element (element.Preterminal c) rest = led_kind c.name c.feats rest
led_element (element.Sub c) rest = led_named c rest
led_element (element.Position x) rest = refl
led_element element.Opener rest = refl
led_element (element.Forward c) rest = led_sign sign.Weak c rest
led_element (element.Strong c) rest = led_sign sign.Strong c rest
led_element (element.Back ps ns) rest = ap led (append_assoc (signed sign.Plus ps) (signed sign.Minus ns) rest)
    ∙ led_signed sign.Plus ps (signed sign.Minus ns ++ rest) ∙ led_signed sign.Minus ns rest
led_element (element.NoBack ps) rest = led_signed sign.Plus ps rest

led_body : (es : List WrittenElement) (rest : List Lexeme) → led (body_lexemes es ++ rest) ≡ led rest
led_body [] rest = refl
led_body (e ∷ es) rest = ap led (append_assoc (element_lexemes e) (body_lexemes es) rest) ∙ led_element e (body_lexemes es ++ rest) ∙ led_body es rest

led_label : (label : Option (List ℕ)) (rest : List Lexeme) → led (label_lexemes label ++ rest) ≡ led rest
led_label None rest = refl
led_label (Some w) rest = refl

led_arrow : (closing : Bool) (rest : List Lexeme) → led (arrow closing ∷ rest) ≡ led rest
led_arrow true rest = refl
led_arrow false rest = refl

led_atoms : (atoms : List (List ℕ)) (rest : List Lexeme) → led (listed (map (λ a. lexeme.Identifier a ∷ []) atoms) ++ rest) ≡ led rest
led_atoms [] rest = refl
led_atoms (a ∷ []) rest = refl
led_atoms (a ∷ b ∷ bs) rest = led_atoms (b ∷ bs) rest

led_domain : (d : Domain) (rest : List Lexeme) → led (domain_lexemes d ++ rest) ≡ led rest
led_domain domain.Words rest = refl
led_domain domain.Positions rest = refl
led_domain (domain.Atoms atoms) rest = led_atoms atoms rest

led_item : (i : WrittenItem) (rest : List Lexeme) → led (item_lexemes i ++ rest) ≡ led rest
led_item (item.Feature name d) rest = ap led (append_assoc (domain_lexemes d) (lexeme.Sign sign.Stop ∷ []) rest) ∙ led_domain d (lexeme.Sign sign.Stop ∷ rest)
led_item (item.Rule r) rest =
    let stop : List Lexeme = lexeme.Sign sign.Stop ∷ [] in
    let body : List Lexeme = arrow r.closing ∷ (body_lexemes r.body ++ stop) in
    ap led (append_assoc (label_lexemes r.label) (named r.head ++ body) rest)
    ∙ led_label r.label ((named r.head ++ body) ++ rest)
    ∙ ap led (append_assoc (named r.head) body rest)
    ∙ led_named r.head (body ++ rest)
    ∙ led_arrow r.closing ((body_lexemes r.body ++ stop) ++ rest)
    ∙ ap led (append_assoc (body_lexemes r.body) stop rest)
    ∙ led_body r.body (stop ++ rest)

pub led_items : (items : List WrittenItem) → led (lexemes items) ≡ true
led_items [] = refl
led_items (i ∷ is) = led_item i (lexemes is) ∙ led_items is
