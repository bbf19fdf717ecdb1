-- Declarations and rules whose names, variables and terminals are those of the notation have such symbols.
use Rattle.std.proofs.Common.{◌≡◌, ℕ, Bool, true, false, ◌&&◌, List, [], ◌∷◌, ◌++◌, map, Option, Some, None, refl, ap, ◌∙◌}
use Rattle.std.specs.List.{list_all}
use Rattle.std.proofs.lemmas.Bool.{and_parts, and_from}
use Rattle.codeco_text.specs.declared.symbols.Sign.{Sign}
use Rattle.codeco_text.specs.declared.symbols.Sign.TheVariants as sign
use Rattle.codeco_text.specs.declared.symbols.Lexeme.{Lexeme}
use Rattle.codeco_text.specs.declared.symbols.Lexeme.TheVariants as lexeme
use Rattle.codeco_text.specs.declared.written.WrittenTerm.{WrittenTerm}
use Rattle.codeco_text.specs.declared.written.WrittenTerm.TheVariants as term
use Rattle.codeco_text.specs.declared.written.WrittenFeat.{WrittenFeat}
use Rattle.codeco_text.specs.declared.written.WrittenCategory.{WrittenCategory}
use Rattle.codeco_text.specs.declared.written.WrittenElement.{WrittenElement}
use Rattle.codeco_text.specs.declared.written.WrittenElement.TheVariants as element
use Rattle.codeco_text.specs.declared.written.Domain.{Domain}
use Rattle.codeco_text.specs.declared.written.Domain.TheVariants as domain
use Rattle.codeco_text.specs.declared.written.WrittenItem.{WrittenItem}
use Rattle.codeco_text.specs.declared.written.WrittenItem.TheVariants as item
use Rattle.codeco_text.specs.Names.{is_identifier, is_variable, is_terminal, is_among}
use Rattle.codeco_text.specs.Notation.{labels, kinds, is_symbol, listed, term_lexemes, category_lexemes, named, signed, element_lexemes, label_lexemes, arrow, body_lexemes, domain_lexemes, item_lexemes, lexemes}
use Rattle.codeco_printer.specs.Writing.{closed_feats}
use Rattle.codeco_printer.proofs.WriteLaws.{category_closed}
use Rattle.codeco_numbering.proofs.Sound.Spelled.{term_spelled, feat_spelled, category_spelled, element_spelled, label_spelled, domain_spelled, item_spelled}
use Rattle.wiki_base.proofs.ListLaws.{all_append}

abbrev AreSymbols : List Lexeme → Type 0
AreSymbols xs = list_all is_symbol xs ≡ true

term_symbols : (t : WrittenTerm) → term_spelled t ≡ true → AreSymbols (term_lexemes t)
term_symbols (term.Atom w) h = and_from (is_identifier w) true h refl
term_symbols (term.Variable w) h = and_from (is_variable w) true h refl
term_symbols (term.Taken w) h = and_from (is_variable w) true h refl

feats_symbols : (opened : Bool) (fs : List WrittenFeat) → list_all feat_spelled fs ≡ true → AreSymbols (closed_feats opened fs)
feats_symbols false [] h = refl
feats_symbols true [] h = refl
feats_symbols false (f ∷ fs) h =
    let parts = and_parts (feat_spelled f) (list_all feat_spelled fs) h in
    let here = and_parts (is_identifier f.name) (term_spelled f.term) parts.0 in
    and_from (is_identifier f.name) (list_all is_symbol (term_lexemes f.term ++ closed_feats true fs)) here.0
    (all_append is_symbol (term_lexemes f.term) (closed_feats true fs) (term_symbols f.term here.1) (feats_symbols true fs parts.1))
feats_symbols true (f ∷ fs) h =
    let parts = and_parts (feat_spelled f) (list_all feat_spelled fs) h in
    let here = and_parts (is_identifier f.name) (term_spelled f.term) parts.0 in
    and_from (is_identifier f.name) (list_all is_symbol (term_lexemes f.term ++ closed_feats true fs)) here.0
    (all_append is_symbol (term_lexemes f.term) (closed_feats true fs) (term_symbols f.term here.1) (feats_symbols true fs parts.1))

category_symbols : (name : Lexeme) (fs : List WrittenFeat) → is_symbol name ≡ true → list_all feat_spelled fs ≡ true → AreSymbols (category_lexemes name fs)
category_symbols name fs h k =
    ap (list_all is_symbol) (category_closed name fs) ∙ and_from (is_symbol name) (list_all is_symbol (closed_feats false fs)) h (feats_symbols false fs k)

named_symbols : (c : WrittenCategory) → category_spelled c ≡ true → AreSymbols (named c)
named_symbols c h =
    let parts = and_parts (is_identifier c.name) (list_all feat_spelled c.feats) h in
    category_symbols (lexeme.Identifier c.name) c.feats parts.0 parts.1

signed_symbols : (s : Sign) (cs : List WrittenCategory) → list_all category_spelled cs ≡ true → AreSymbols (signed s cs)
signed_symbols s [] h = refl
signed_symbols s (c ∷ cs) h =
    let parts = and_parts (category_spelled c) (list_all category_spelled cs) h in
    all_append is_symbol (named c) (signed s cs) (named_symbols c parts.0) (signed_symbols s cs parts.1)

element_symbols : (e : WrittenElement) → element_spelled e ≡ true → AreSymbols (element_lexemes e)
element_symbols (element.Terminal t) h = and_from (is_terminal t) true h refl
element_symbols (element.Preterminal c) h =
    let parts = and_parts (is_among kinds c.name) (list_all feat_spelled c.feats) h in
    category_symbols (lexeme.Kind c.name) c.feats parts.0 parts.1
element_symbols (element.Sub c) h = named_symbols c h
element_symbols (element.Position x) h = and_from (is_variable x) true h refl
element_symbols element.Opener h = refl
element_symbols (element.Forward c) h = named_symbols c h
element_symbols (element.Strong c) h = named_symbols c h
element_symbols (element.Back ps ns) h =
    let parts = and_parts (list_all category_spelled ps) (list_all category_spelled ns) h in
    all_append is_symbol (signed sign.Plus ps) (signed sign.Minus ns) (signed_symbols sign.Plus ps parts.0) (signed_symbols sign.Minus ns parts.1)
element_symbols (element.NoBack ps) h = signed_symbols sign.Plus ps h

body_symbols : (es : List WrittenElement) → list_all element_spelled es ≡ true → AreSymbols (body_lexemes es)
body_symbols [] h = refl
body_symbols (e ∷ es) h =
    let parts = and_parts (element_spelled e) (list_all element_spelled es) h in
    all_append is_symbol (element_lexemes e) (body_lexemes es) (element_symbols e parts.0) (body_symbols es parts.1)

label_symbols : (label : Option (List ℕ)) → label_spelled label ≡ true → AreSymbols (label_lexemes label)
label_symbols None h = refl
label_symbols (Some w) h = and_from (is_among labels w) true h refl

atoms_symbols : (atoms : List (List ℕ)) → list_all is_identifier atoms ≡ true → AreSymbols (listed (map (λ a. lexeme.Identifier a ∷ []) atoms))
atoms_symbols [] h = refl
atoms_symbols (a ∷ []) h = h
atoms_symbols (a ∷ b ∷ bs) h =
    let parts = and_parts (is_identifier a) (list_all is_identifier (b ∷ bs)) h in
    and_from (is_identifier a) (list_all is_symbol (listed (map (λ a. lexeme.Identifier a ∷ []) (b ∷ bs)))) parts.0 (atoms_symbols (b ∷ bs) parts.1)

domain_symbols : (d : Domain) → domain_spelled d ≡ true → AreSymbols (domain_lexemes d)
domain_symbols domain.Words h = refl
domain_symbols domain.Positions h = refl
domain_symbols (domain.Atoms atoms) h = atoms_symbols atoms h

arrow_symbol : (closing : Bool) → is_symbol (arrow closing) ≡ true
arrow_symbol true = refl
arrow_symbol false = refl

item_symbols : (i : WrittenItem) → item_spelled i ≡ true → AreSymbols (item_lexemes i)
item_symbols (item.Feature name d) h =
    let parts = and_parts (is_identifier name) (domain_spelled d) h in
    and_from (is_identifier name) (list_all is_symbol (domain_lexemes d ++ lexeme.Sign sign.Stop ∷ [])) parts.0
    (all_append is_symbol (domain_lexemes d) (lexeme.Sign sign.Stop ∷ []) (domain_symbols d parts.1) refl)
item_symbols (item.Rule r) h =
    let parts = and_parts (label_spelled r.label) (category_spelled r.head && list_all element_spelled r.body) h in
    let inner = and_parts (category_spelled r.head) (list_all element_spelled r.body) parts.1 in
    let stop : List Lexeme = lexeme.Sign sign.Stop ∷ [] in
    let body = all_append is_symbol (body_lexemes r.body) stop (body_symbols r.body inner.1) refl in
    all_append is_symbol (label_lexemes r.label) (named r.head ++ (arrow r.closing ∷ (body_lexemes r.body ++ stop))) (label_symbols r.label parts.0)
    (all_append is_symbol (named r.head) (arrow r.closing ∷ (body_lexemes r.body ++ stop)) (named_symbols r.head inner.0)
    (and_from (is_symbol (arrow r.closing)) (list_all is_symbol (body_lexemes r.body ++ stop)) (arrow_symbol r.closing) body))

pub items_symbols : (items : List WrittenItem) → list_all item_spelled items ≡ true → list_all is_symbol (lexemes items) ≡ true
items_symbols [] h = refl
items_symbols (i ∷ is) h =
    let parts = and_parts (item_spelled i) (list_all item_spelled is) h in
    all_append is_symbol (item_lexemes i) (lexemes is) (item_symbols i parts.0) (items_symbols is parts.1)
