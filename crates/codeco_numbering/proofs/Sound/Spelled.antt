-- The names, variables and terminals of what a text spells are those of the notation.
use Rattle.std.proofs.Common.{◌≡◌, ℕ, Bool, true, false, ◌&&◌, List, [], ◌∷◌, ◌++◌, map, Option, Some, None, refl}
use Rattle.std.specs.List.{list_all}
use Rattle.std.proofs.lemmas.Bool.{and_parts, and_from}
use Rattle.codeco_text.specs.declared.symbols.Sign.{Sign}
use Rattle.codeco_text.specs.declared.symbols.Sign.TheVariants as sign
use Rattle.codeco_text.specs.declared.symbols.Lexeme.{Lexeme}
use Rattle.codeco_text.specs.declared.symbols.Lexeme.TheVariants as lexeme
use Rattle.codeco_text.specs.declared.written.WrittenTerm.{WrittenTerm}
use Rattle.codeco_text.specs.declared.written.WrittenTerm.TheVariants as term
use Rattle.codeco_text.specs.declared.written.WrittenFeat.{WrittenFeat}
use Rattle.codeco_text.specs.declared.written.WrittenCategory.{WrittenCategory}
use Rattle.codeco_text.specs.declared.written.WrittenElement.{WrittenElement}
use Rattle.codeco_text.specs.declared.written.WrittenElement.TheVariants as element
use Rattle.codeco_text.specs.declared.written.Domain.{Domain}
use Rattle.codeco_text.specs.declared.written.Domain.TheVariants as domain
use Rattle.codeco_text.specs.declared.written.WrittenItem.{WrittenItem}
use Rattle.codeco_text.specs.declared.written.WrittenItem.TheVariants as item
use Rattle.codeco_text.specs.Names.{is_identifier, is_variable, is_terminal, is_among}
use Rattle.codeco_text.specs.Notation.{labels, kinds, is_symbol, SpellsFrom, IsSpelling, listed, term_lexemes, feat_lexemes, category_lexemes, named, signed, element_lexemes, label_lexemes, arrow, body_lexemes, domain_lexemes, item_lexemes, lexemes}
use Rattle.wiki_base.proofs.ListLaws.{all_split}

abbrev pub term_spelled : WrittenTerm → Bool
term_spelled (term.Atom w) = is_identifier w
term_spelled (term.Variable w) = is_variable w
term_spelled (term.Taken w) = is_variable w

abbrev pub feat_spelled : WrittenFeat → Bool
feat_spelled f = is_identifier f.name && term_spelled f.term

abbrev pub category_spelled : WrittenCategory → Bool
category_spelled c = is_identifier c.name && list_all feat_spelled c.feats

abbrev pub kind_spelled : WrittenCategory → Bool
kind_spelled c = is_among kinds c.name && list_all feat_spelled c.feats

abbrev pub element_spelled : WrittenElement → Bool
element_spelled (element.Terminal t) = is_terminal t
element_spelled (element.Preterminal c) = kind_spelled c
element_spelled (element.Sub c) = category_spelled c
element_spelled (element.Position x) = is_variable x
element_spelled element.Opener = true
element_spelled (element.Forward c) = category_spelled c
element_spelled (element.Strong c) = category_spelled c
element_spelled (element.Back ps ns) = list_all category_spelled ps && list_all category_spelled ns
element_spelled (element.NoBack ps) = list_all category_spelled ps

abbrev pub label_spelled : Option (List ℕ) → Bool
label_spelled None = true
label_spelled (Some w) = is_among labels w

abbrev pub domain_spelled : Domain → Bool
domain_spelled domain.Words = true
domain_spelled domain.Positions = true
domain_spelled (domain.Atoms atoms) = list_all is_identifier atoms

abbrev pub item_spelled : WrittenItem → Bool
item_spelled (item.Feature name d) = is_identifier name && domain_spelled d
item_spelled (item.Rule r) = label_spelled r.label && (category_spelled r.head && list_all element_spelled r.body)

abbrev AreSymbols : List Lexeme → Type 0
AreSymbols xs = list_all is_symbol xs ≡ true

term_is : (t : WrittenTerm) → AreSymbols (term_lexemes t) → term_spelled t ≡ true
term_is (term.Atom w) h = (and_parts (is_identifier w) true h).0
term_is (term.Variable w) h = (and_parts (is_variable w) true h).0
term_is (term.Taken w) h = (and_parts (is_variable w) true h).0

feat_is : (f : WrittenFeat) → AreSymbols (feat_lexemes f) → feat_spelled f ≡ true
feat_is f h =
    let parts = and_parts (is_identifier f.name) (list_all is_symbol (term_lexemes f.term)) h in
    and_from (is_identifier f.name) (term_spelled f.term) parts.0 (term_is f.term parts.1)

feats_are : (f : WrittenFeat) (fs : List WrittenFeat) → AreSymbols (listed (map feat_lexemes (f ∷ fs))) → list_all feat_spelled (f ∷ fs) ≡ true
feats_are f [] h = and_from (feat_spelled f) true (feat_is f h) refl
feats_are f (g ∷ gs) h =
    let parts = all_split is_symbol (feat_lexemes f) (lexeme.Sign sign.Comma ∷ listed (map feat_lexemes (g ∷ gs))) h in
    and_from (feat_spelled f) (list_all feat_spelled (g ∷ gs)) (feat_is f parts.0) (feats_are g gs parts.1)

category_is : (name : Lexeme) (fs : List WrittenFeat) → AreSymbols (category_lexemes name fs) → (is_symbol name ≡ true) × (list_all feat_spelled fs ≡ true)
category_is name [] h = ((and_parts (is_symbol name) true h).0, refl)
category_is name (f ∷ fs) h =
    let parts = and_parts (is_symbol name) (list_all is_symbol (listed (map feat_lexemes (f ∷ fs)) ++ lexeme.Sign sign.CloseParen ∷ [])) h in
    (parts.0, feats_are f fs (all_split is_symbol (listed (map feat_lexemes (f ∷ fs))) (lexeme.Sign sign.CloseParen ∷ []) parts.1).0)

named_is : (c : WrittenCategory) → AreSymbols (named c) → category_spelled c ≡ true
named_is c h =
    let parts = category_is (lexeme.Identifier c.name) c.feats h in
    and_from (is_identifier c.name) (list_all feat_spelled c.feats) parts.0 parts.1

signed_are : (s : Sign) (cs : List WrittenCategory) → AreSymbols (signed s cs) → list_all category_spelled cs ≡ true
signed_are s [] h = refl
signed_are s (c ∷ cs) h =
    let parts = all_split is_symbol (named c) (signed s cs) h in
    and_from (category_spelled c) (list_all category_spelled cs) (named_is c parts.0) (signed_are s cs parts.1)

element_is : (e : WrittenElement) → AreSymbols (element_lexemes e) → element_spelled e ≡ true
element_is (element.Terminal t) h = (and_parts (is_terminal t) true h).0
element_is (element.Preterminal c) h =
    let parts = category_is (lexeme.Kind c.name) c.feats h in
    and_from (is_among kinds c.name) (list_all feat_spelled c.feats) parts.0 parts.1
element_is (element.Sub c) h = named_is c h
element_is (element.Position x) h = (and_parts (is_variable x) true h).0
element_is element.Opener h = refl
element_is (element.Forward c) h = named_is c h
element_is (element.Strong c) h = named_is c h
element_is (element.Back ps ns) h =
    let parts = all_split is_symbol (signed sign.Plus ps) (signed sign.Minus ns) h in
    and_from (list_all category_spelled ps) (list_all category_spelled ns) (signed_are sign.Plus ps parts.0) (signed_are sign.Minus ns parts.1)
element_is (element.NoBack ps) h = signed_are sign.Plus ps h

body_is : (es : List WrittenElement) → AreSymbols (body_lexemes es) → list_all element_spelled es ≡ true
body_is [] h = refl
body_is (e ∷ es) h =
    let parts = all_split is_symbol (element_lexemes e) (body_lexemes es) h in
    and_from (element_spelled e) (list_all element_spelled es) (element_is e parts.0) (body_is es parts.1)

label_is : (label : Option (List ℕ)) → AreSymbols (label_lexemes label) → label_spelled label ≡ true
label_is None h = refl
label_is (Some w) h = (and_parts (is_among labels w) true h).0

atoms_are : (atoms : List (List ℕ)) → AreSymbols (listed (map (λ a. lexeme.Identifier a ∷ []) atoms)) → list_all is_identifier atoms ≡ true
atoms_are [] h = refl
atoms_are (a ∷ []) h = h
atoms_are (a ∷ b ∷ bs) h =
    let parts = and_parts (is_identifier a) (list_all is_symbol (listed (map (λ x. lexeme.Identifier x ∷ []) (b ∷ bs)))) h in
    and_from (is_identifier a) (list_all is_identifier (b ∷ bs)) parts.0 (atoms_are (b ∷ bs) parts.1)

domain_is : (d : Domain) → AreSymbols (domain_lexemes d) → domain_spelled d ≡ true
domain_is domain.Words h = refl
domain_is domain.Positions h = refl
domain_is (domain.Atoms atoms) h = atoms_are atoms h

item_is : (i : WrittenItem) → AreSymbols (item_lexemes i) → item_spelled i ≡ true
item_is (item.Feature name d) h =
    let parts = and_parts (is_identifier name) (list_all is_symbol (domain_lexemes d ++ lexeme.Sign sign.Stop ∷ [])) h in
    and_from (is_identifier name) (domain_spelled d) parts.0 (domain_is d (all_split is_symbol (domain_lexemes d) (lexeme.Sign sign.Stop ∷ []) parts.1).0)
item_is (item.Rule r) h =
    let stop : List Lexeme = lexeme.Sign sign.Stop ∷ [] in
    let tail = arrow r.closing ∷ (body_lexemes r.body ++ stop) in
    let front = all_split is_symbol (label_lexemes r.label) (named r.head ++ tail) h in
    let heads = all_split is_symbol (named r.head) tail front.1 in
    let rest = and_parts (is_symbol (arrow r.closing)) (list_all is_symbol (body_lexemes r.body ++ stop)) heads.1 in
    and_from (label_spelled r.label) (category_spelled r.head && list_all element_spelled r.body) (label_is r.label front.0)
    (and_from (category_spelled r.head) (list_all element_spelled r.body) (named_is r.head heads.0)
    (body_is r.body (all_split is_symbol (body_lexemes r.body) stop rest.1).0))

items_are : (items : List WrittenItem) → AreSymbols (lexemes items) → list_all item_spelled items ≡ true
items_are [] h = refl
items_are (i ∷ is) h =
    let parts = all_split is_symbol (item_lexemes i) (lexemes is) h in
    and_from (item_spelled i) (list_all item_spelled is) (item_is i parts.0) (items_are is parts.1)

all_symbols : (comment : Bool) (text : List ℕ) (xs : List Lexeme) → SpellsFrom comment text xs → AreSymbols xs
all_symbols comment text [] h = refl
all_symbols comment text (x ∷ xs) h = and_from (is_symbol x) (list_all is_symbol xs) h.1.symbol (all_symbols false h.0 xs h.2)

-- what a text spells has the names of the notation
pub items_spelled : (text : List ℕ) (items : List WrittenItem) → IsSpelling text items → list_all item_spelled items ≡ true
items_spelled text items s = items_are items (all_symbols false text (lexemes items) s.spells)
