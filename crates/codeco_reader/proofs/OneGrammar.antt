-- The one grammar of a text: it is sound, and its terminals are short, and in UTF-8 where the text is.
use Rattle.std.proofs.Common.{◌≡◌, ℕ, suc, ◌+◌, ◌<◌, ◌≤◌, Bool, true, false, not, ◌&&◌, ◌||◌, eqb, ltb, List, [], ◌∷◌, ◌++◌, map, length, get_or, drop, Option, Some, None, All, IsUtf8, refl, sym, ap, subst, ◌∙◌, arith, lit<, inl, inr, append_assoc, append-nil, length-append}
use Rattle.std.specs.Prelude.{slice_index_or}
use Rattle.std.specs.List.{list_all, list_any, flat_map}
use Rattle.std.proofs.lemmas.Bool.{cases_Bool, cond-true, cond-false, and_parts, or_parts, or_left, or_right, not-true, eqb-true, eq-eqb, ltb-true, ltb-false}
use Rattle.std.proofs.lemmas.List.{take_at, drop_at, length_push, get_or_at, get_or_default}
use Rattle.std.proofs.lemmas.List.Elements.{All-nil, All-cons, All-append}
use Rattle.std.proofs.lemmas.Str.{IsUtf8-take, IsUtf8-drop, IsCharBoundary-before_ascii, IsCharBoundary-after_ascii}
use Rattle.std.proofs.lemmas.Grind.{flat_map-append}
use Rattle.wiki_base.proofs.ListLaws.{flat_all, none_each}
use Rattle.codeco_terms.specs.declared.rules.Rule.{Rule}
use Rattle.codeco_terms.specs.GrammarParts.{GrammarParts}
use Rattle.codeco_text.specs.declared.symbols.Sign.{Sign}
use Rattle.codeco_text.specs.declared.symbols.Sign.TheVariants as sign
use Rattle.codeco_text.specs.declared.symbols.Lexeme.{Lexeme}
use Rattle.codeco_text.specs.declared.symbols.Lexeme.TheVariants as lexeme
use Rattle.codeco_text.specs.declared.written.WrittenTerm.{WrittenTerm}
use Rattle.codeco_text.specs.declared.written.WrittenTerm.TheVariants as term
use Rattle.codeco_text.specs.declared.written.WrittenFeat.{WrittenFeat}
use Rattle.codeco_text.specs.declared.written.WrittenCategory.{WrittenCategory}
use Rattle.codeco_text.specs.declared.written.WrittenElement.{WrittenElement}
use Rattle.codeco_text.specs.declared.written.WrittenElement.TheVariants as element
use Rattle.codeco_text.specs.declared.written.Domain.{Domain}
use Rattle.codeco_text.specs.declared.written.Domain.TheVariants as domain
use Rattle.codeco_text.specs.declared.written.WrittenItem.{WrittenItem}
use Rattle.codeco_text.specs.declared.written.WrittenItem.TheVariants as item
use Rattle.codeco_text.specs.Names.{is_among}
use Rattle.codeco_text.specs.Notation.{lexeme_bytes, listed, term_lexemes, feat_lexemes, category_lexemes, named, signed, element_lexemes, label_lexemes, arrow, body_lexemes, domain_lexemes, item_lexemes, lexemes, SpellsFrom, IsSpelling}
use Rattle.codeco_text.proofs.SoFar.{so_far}
use Rattle.codeco_text.proofs.OneSpelling.{lexemes_same}
use Rattle.codeco_text.proofs.Exactness.{spelling_ends}
use Rattle.codeco_checked.specs.declared.fault.GrammarFault.TheVariants.{TooLarge}
use Rattle.codeco_checked.specs.Occurrences.{patterns, rule_variables, rule_terminals}
use Rattle.codeco_checked.specs.Numbering.{counts_up, count_different, grammar_terminals, IsNumbered}
use Rattle.codeco_checked.specs.Faults.{at_rule, is_large_rule, has_large_declarations, has_broad_category}
use Rattle.codeco_checked.specs.Sound.{IsWritten, IsSound}
use Rattle.codeco_numbering.specs.Numbered.{gathered, rules_of, written_terminals, numbered_of}
use Rattle.codeco_numbering.proofs.Sound.Faults.{at_no_rule}
use Rattle.codeco_numbering.proofs.Sound.Numbered.{sound_without_bad_values}
use Rattle.codeco_reader.specs.Texts.{IsFaultless, IsTextOf}

-- A text spells one list of declarations and rules

same_items : (text : List ℕ) (items others : List WrittenItem) → IsSpelling text items → IsSpelling text others → items ≡ others
same_items text items others s t =
    let one = spelling_ends text items s in
    let other = spelling_ends text others t in
    let both : Some one.0 ≡ Some other.0 = sym one.1 ∙ other.1 in
    let same : one.0 ≡ other.0 = cc in
    lexemes_same items others (sym one.3 ∙ ap so_far same ∙ other.3)

-- a text is that of one grammar
pub same_grammar : (text : List ℕ) (g other : GrammarParts) → IsTextOf text g → IsTextOf text other → g ≡ other
same_grammar text g other h k = sym h.makes.2 ∙ ap numbered_of (same_items text h.makes.0 k.makes.0 h.makes.1 k.makes.1) ∙ k.makes.2

-- the grammar of a text is sound
pub text_sound : (text : List ℕ) (g : GrammarParts) → IsTextOf text g → IsSound g
text_sound text g h =
    let m = h.makes in
    let none : IsFaultless (numbered_of m.0) = subst IsFaultless (sym m.2) h.faultless in
    let sound = sound_without_bad_values text m.0 m.1 (λ f before. none f) in
    record { written = subst IsWritten m.2 sound.0; numbered = subst IsNumbered m.2 sound.1; faultless = h.faultless }

-- The terminals of a sound grammar are short

-- each number up to how many there are stands among those that are given by first occurrence
counted_passes : (p : ℕ → Bool) (next total : ℕ) (xs : List ℕ) → counts_up next total xs ≡ true → list_all p xs ≡ true → (k : ℕ) → next ≤ k → k < total
    → p k ≡ true
counted_passes p next total [] h all k low lt = let e = eqb-true next total h in absurd (omega arith)
counted_passes p next total (x ∷ xs) h all k low lt =
    let passes = and_parts (p x) (list_all p xs) all in
    elim (cases_Bool (ltb x next)) [
      | inl old ↦ counted_passes p next total xs
          (sym (cond-true (ltb x next) (counts_up next total xs) (eqb x next && counts_up (next + 1) total xs) old) ∙ h) passes.1 k low lt
      | inr new ↦
          let parts = and_parts (eqb x next) (counts_up (next + 1) total xs)
          (sym (cond-false (ltb x next) (counts_up next total xs) (eqb x next && counts_up (next + 1) total xs) new) ∙ h) in
          let same = eqb-true x next parts.0 in
          elim (cases_Bool (eqb k next)) [
            | inl here ↦ ap p (eqb-true k next here ∙ sym same) ∙ passes.0
            | inr past ↦ counted_passes p (next + 1) total xs parts.1 passes.1 k (above next k low past) lt
          ]
    ]
  where
    above : (n k : ℕ) → n ≤ k → eqb k n ≡ false → n + 1 ≤ k
    above n k low other = elim (cases_Bool (ltb n k)) [
      | inl lt ↦ omega (arith, ltb-true n k lt)
      | inr not_lt ↦ absurd (let e = eq-eqb k n (omega (arith, ltb-false n k not_lt)) in cc)
    ]

-- the terminal of a number has at most 64 bytes
abbrev is_short_number : GrammarParts → ℕ → Bool
is_short_number g t = not (ltb 64 (length (slice_index_or g.terminals t [])))

rule_short : (g : GrammarParts) (r : Rule) → is_large_rule g r ≡ false → list_all (is_short_number g) (rule_terminals r) ≡ true
rule_short g r h =
    let long : ℕ → Bool = λ t. ltb 64 (length (slice_index_or g.terminals t [])) in
    let parts = or_parts (ltb 16 (length r.body) || ltb 16 (length (flat_map patterns r.body)) || ltb 16 (count_different (rule_variables r)))
    (list_any long (rule_terminals r)) h in
    none_each long (is_short_number g) (λ t k. ap not k) (rule_terminals r) parts.1

-- the terminals of a sound grammar have at most 64 bytes each
pub sound_short : (g : GrammarParts) → IsSound g → All (λ terminal. length terminal ≤ 64) g.terminals
sound_short g s k d lt =
    let none = at_no_rule (is_large_rule g) g.rules (λ n h.
    s.faultless (TooLarge n) (or_left ((eqb n 0 && has_large_declarations g) || (eqb n 1 && has_broad_category g) || at_rule (is_large_rule g) g.rules n)
    (eqb n 501 && ltb 500 (length g.rules))
    (or_right ((eqb n 0 && has_large_declarations g) || (eqb n 1 && has_broad_category g)) (at_rule (is_large_rule g) g.rules n) h))) in
    let each = none_each (is_large_rule g) (λ r. list_all (is_short_number g) (rule_terminals r)) (rule_short g) g.rules none in
    let all : list_all (is_short_number g) (grammar_terminals g) ≡ true = flat_all (is_short_number g) rule_terminals g.rules each in
    let long : ltb 64 (length (get_or g.terminals k [])) ≡ false =
    not-true (ltb 64 (length (get_or g.terminals k [])))
    (counted_passes (is_short_number g) 0 (length g.terminals) (grammar_terminals g) s.numbered.terminals all k (omega arith) lt) in
    let few = ltb-false 64 (length (get_or g.terminals k [])) long in
    subst (λ (t : List ℕ). length t ≤ 64) (get_or_default g.terminals k [] d lt) few

-- The terminals of a text in UTF-8 are in UTF-8

-- a text in UTF-8 is cut at an ASCII byte
split_utf8 : (xs ys : List ℕ) (b : ℕ) → b < 128 → IsUtf8 (xs ++ b ∷ ys) → IsUtf8 xs × IsUtf8 ys
split_utf8 xs ys b low utf8 =
    let there : length xs < length (xs ++ b ∷ ys) = omega (arith, length-append xs (b ∷ ys)) in
    let small : get_or (xs ++ b ∷ ys) (length xs) 0 < 128 = omega (arith, get_or_at xs b ys 0 (length xs) refl) in
    let rest : drop (length xs + 1) (xs ++ b ∷ ys) ≡ ys =
    ap (drop (length xs + 1)) (sym (append_assoc xs (b ∷ []) ys)) ∙ drop_at (xs ++ b ∷ []) ys (length xs + 1) (length_push xs b) in (
      subst IsUtf8 (take_at xs (b ∷ ys) (length xs) refl)
          (IsUtf8-take (xs ++ b ∷ ys) (length xs) utf8 (IsCharBoundary-before_ascii (xs ++ b ∷ ys) (length xs) there small)),
      subst IsUtf8 rest (IsUtf8-drop (xs ++ b ∷ ys) (length xs + 1) utf8 (IsCharBoundary-after_ascii (xs ++ b ∷ ys) (length xs) utf8 there small)),
    )

-- the terminal that a symbol is
abbrev own_terminal : Lexeme → List (List ℕ)
own_terminal (lexeme.Terminal t) = t ∷ []
own_terminal _ = []

abbrev terminals_in : List Lexeme → List (List ℕ)
terminals_in xs = flat_map own_terminal xs

symbol_utf8 : (front : List ℕ) (x : Lexeme) (rest : List ℕ) → IsUtf8 (front ++ (lexeme_bytes x ++ rest)) → All IsUtf8 (own_terminal x)
symbol_utf8 front (lexeme.Terminal t) rest h =
    let apart : IsUtf8 (front ++ 91 ∷ (t ++ 93 ∷ rest)) = subst (λ (more : List ℕ). IsUtf8 (front ++ 91 ∷ more)) (append_assoc t (93 ∷ []) rest) h in
    let behind = (split_utf8 front (t ++ 93 ∷ rest) 91 (lit< tt) apart).1 in
    All-cons IsUtf8 t [] (split_utf8 t rest 93 (lit< tt) behind).0 (All-nil IsUtf8)
symbol_utf8 front x rest h = All-nil IsUtf8

-- each terminal that a text spells behind this front
spelled_utf8 : (front text : List ℕ) (comment : Bool) (xs : List Lexeme) → IsUtf8 (front ++ text) → SpellsFrom comment text xs → All IsUtf8 (terminals_in xs)
spelled_utf8 front text comment [] utf8 h = All-nil IsUtf8
spelled_utf8 front text comment (x ∷ xs) utf8 h =
    let gap = h.1.gap in
    let bytes = lexeme_bytes x in
    let here : IsUtf8 ((front ++ gap) ++ (bytes ++ h.0)) =
    subst IsUtf8 (ap (λ (t : List ℕ). front ++ t) h.1.parts ∙ sym (append_assoc front gap (bytes ++ h.0))) utf8 in
    let later : IsUtf8 (((front ++ gap) ++ bytes) ++ h.0) = subst IsUtf8 (sym (append_assoc (front ++ gap) bytes h.0)) here in
    All-append IsUtf8 (own_terminal x) (terminals_in xs) (symbol_utf8 (front ++ gap) x h.0 here)
    (spelled_utf8 ((front ++ gap) ++ bytes) h.0 false xs later h.2)

-- The terminals of the symbols of declarations and rules are those of the bodies

none_more : (xs ys : List Lexeme) → terminals_in xs ≡ [] → terminals_in (xs ++ ys) ≡ terminals_in ys
none_more xs ys h = flat_map-append own_terminal xs ys ∙ ap (λ (ts : List (List ℕ)). ts ++ terminals_in ys) h

term_none : (t : WrittenTerm) → terminals_in (term_lexemes t) ≡ []
term_none (term.Atom w) = refl
term_none (term.Variable w) = refl
term_none (term.Taken w) = refl

feats_none : (f : WrittenFeat) (fs : List WrittenFeat) → terminals_in (listed (map feat_lexemes (f ∷ fs))) ≡ []
feats_none f [] = term_none f.term
feats_none f (g ∷ gs) =
    none_more (feat_lexemes f) (lexeme.Sign sign.Comma ∷ listed (map feat_lexemes (g ∷ gs))) (term_none f.term) ∙ feats_none g gs

category_none : (name : Lexeme) (fs : List WrittenFeat) → own_terminal name ≡ [] → terminals_in (category_lexemes name fs) ≡ []
category_none name [] h = ap (λ (ts : List (List ℕ)). ts ++ []) h
category_none name (f ∷ fs) h =
    let feats = listed (map feat_lexemes (f ∷ fs)) in
    let close : List Lexeme = lexeme.Sign sign.CloseParen ∷ [] in
    ap (λ (ts : List (List ℕ)). ts ++ terminals_in (feats ++ close)) h ∙ none_more feats close (feats_none f fs)

named_none : (c : WrittenCategory) → terminals_in (named c) ≡ []
named_none c = category_none (lexeme.Identifier c.name) c.feats refl

signed_none : (s : Sign) (cs : List WrittenCategory) → terminals_in (signed s cs) ≡ []
signed_none s [] = refl
signed_none s (c ∷ cs) = none_more (named c) (signed s cs) (named_none c) ∙ signed_none s cs

element_terminals_are : (e : WrittenElement) → terminals_in (element_lexemes e) ≡ written_terminals e
element_terminals_are (element.Terminal t) = refl
element_terminals_are (element.Preterminal c) = category_none (lexeme.Kind c.name) c.feats refl
element_terminals_are (element.Sub c) = named_none c
element_terminals_are (element.Position x) = refl
element_terminals_are element.Opener = refl
element_terminals_are (element.Forward c) = named_none c
element_terminals_are (element.Strong c) = named_none c
element_terminals_are (element.Back ps ns) = none_more (signed sign.Plus ps) (signed sign.Minus ns) (signed_none sign.Plus ps) ∙ signed_none sign.Minus ns
element_terminals_are (element.NoBack ps) = signed_none sign.Plus ps

body_terminals_are : (es : List WrittenElement) → terminals_in (body_lexemes es) ≡ flat_map written_terminals es
body_terminals_are [] = refl
body_terminals_are (e ∷ es) =
    flat_map-append own_terminal (element_lexemes e) (body_lexemes es)
    ∙ ap (λ (ts : List (List ℕ)). ts ++ terminals_in (body_lexemes es)) (element_terminals_are e)
    ∙ ap (λ (ts : List (List ℕ)). written_terminals e ++ ts) (body_terminals_are es)

label_none : (label : Option (List ℕ)) → terminals_in (label_lexemes label) ≡ []
label_none None = refl
label_none (Some w) = refl

arrow_none : (closing : Bool) → own_terminal (arrow closing) ≡ []
arrow_none true = refl
arrow_none false = refl

atoms_none : (atoms : List (List ℕ)) → terminals_in (listed (map (λ a. lexeme.Identifier a ∷ []) atoms)) ≡ []
atoms_none [] = refl
atoms_none (a ∷ []) = refl
atoms_none (a ∷ b ∷ bs) = atoms_none (b ∷ bs)

domain_none : (d : Domain) → terminals_in (domain_lexemes d) ≡ []
domain_none domain.Words = refl
domain_none domain.Positions = refl
domain_none (domain.Atoms atoms) = atoms_none atoms

abbrev bodies_terminals : List WrittenItem → List (List ℕ)
bodies_terminals items = flat_map (λ r. flat_map written_terminals r.body) (rules_of items)

items_terminals_are : (items : List WrittenItem) → terminals_in (lexemes items) ≡ bodies_terminals items
items_terminals_are [] = refl
items_terminals_are (item.Feature name d ∷ is) =
    none_more (item_lexemes (item.Feature name d)) (lexemes is) (none_more (domain_lexemes d) (lexeme.Sign sign.Stop ∷ []) (domain_none d))
    ∙ items_terminals_are is
items_terminals_are (item.Rule r ∷ is) =
    let stop : List Lexeme = lexeme.Sign sign.Stop ∷ [] in
    let tail = arrow r.closing ∷ (body_lexemes r.body ++ stop) in
    let own : terminals_in (item_lexemes (item.Rule r)) ≡ flat_map written_terminals r.body =
    none_more (label_lexemes r.label) (named r.head ++ tail) (label_none r.label)
    ∙ none_more (named r.head) tail (named_none r.head)
    ∙ ap (λ (ts : List (List ℕ)). ts ++ terminals_in (body_lexemes r.body ++ stop)) (arrow_none r.closing)
    ∙ flat_map-append own_terminal (body_lexemes r.body) stop
    ∙ append-nil (terminals_in (body_lexemes r.body))
    ∙ body_terminals_are r.body in
    flat_map-append own_terminal (item_lexemes (item.Rule r)) (lexemes is)
    ∙ ap (λ (ts : List (List ℕ)). ts ++ terminals_in (lexemes is)) own
    ∙ ap (λ (ts : List (List ℕ)). flat_map written_terminals r.body ++ ts) (items_terminals_are is)

-- where the names and the words pass, all that are gathered pass
gathered_pass : (P : List ℕ → Type 0) (names ws : List (List ℕ)) → All P names → All P ws → All P (gathered names ws)
gathered_pass P names [] h k = h
gathered_pass P names (w ∷ ws) h k =
    let later : All P ws = λ n d lt. k (suc n) d (omega arith) in
    elim (cases_Bool (is_among names w)) [
      | inl old ↦ subst (λ (x : List (List ℕ)). All P (gathered x ws)) (sym (cond-true (is_among names w) names (names ++ w ∷ []) old))
          (gathered_pass P names ws h later)
      | inr new ↦ subst (λ (x : List (List ℕ)). All P (gathered x ws)) (sym (cond-false (is_among names w) names (names ++ w ∷ []) new))
          (gathered_pass P (names ++ w ∷ []) ws (All-append P names (w ∷ []) h (All-cons P w [] (k 0 w (omega arith)) (All-nil P))) later)
    ]

-- the terminals of a text in UTF-8 are in UTF-8
pub text_utf8 : (text : List ℕ) (g : GrammarParts) → IsUtf8 text → IsTextOf text g → All IsUtf8 g.terminals
text_utf8 text g utf8 h =
    let m = h.makes in
    let spelled : All IsUtf8 (terminals_in (lexemes m.0)) = spelled_utf8 [] text false (lexemes m.0) utf8 m.1.spells in
    let all : All IsUtf8 (numbered_of m.0).terminals =
    gathered_pass IsUtf8 [] (bodies_terminals m.0) (All-nil IsUtf8) (subst (All IsUtf8) (items_terminals_are m.0) spelled) in
    subst (λ (x : GrammarParts). All IsUtf8 x.terminals) m.2 all
