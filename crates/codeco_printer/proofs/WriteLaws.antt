-- Symbols that are written one behind the other.
use Rattle.std.proofs.Common.{◌≡◌, ℕ, suc, ◌<◌, ◌≤◌, ◌+◌, ◌-◌, Bool, true, false, ltb, ◌||◌, List, [], ◌∷◌, ◌++◌, length, map, get_or, take, drop, refl, sym, ap, ◌∙◌, append_assoc, arith}
use Rattle.std.specs.Prelude.{codes, option_map}
use Rattle.std.proofs.lemmas.List.{append-nil, map-append, length-map, length-take-le, at_drop_more, drop-drop, take_rest}
use Rattle.std.proofs.lemmas.Bool.{lt-ltb}
use Rattle.codeco_terms.specs.declared.values.Term.{Term}
use Rattle.codeco_terms.specs.declared.categories.Category.{Category}
use Rattle.codeco_terms.specs.declared.categories.Pattern.{Pattern}
use Rattle.codeco_terms.specs.declared.declarations.Declared.{Declared}
use Rattle.codeco_terms.specs.declared.declarations.Declared.TheVariants as declared
use Rattle.codeco_terms.specs.declared.declarations.Feature.{Feature}
use Rattle.codeco_terms.specs.declared.rules.Rule.{Rule}
use Rattle.codeco_terms.specs.GrammarParts.{GrammarParts}
use Rattle.codeco_text.specs.declared.symbols.Sign.TheVariants as sign
use Rattle.codeco_text.specs.declared.symbols.Lexeme.{Lexeme}
use Rattle.codeco_text.specs.declared.symbols.Lexeme.TheVariants as lexeme
use Rattle.codeco_text.specs.declared.written.WrittenTerm.{WrittenTerm}
use Rattle.codeco_text.specs.declared.written.WrittenTerm.TheVariants as term
use Rattle.codeco_text.specs.declared.written.WrittenFeat.{WrittenFeat}
use Rattle.codeco_text.specs.declared.written.Domain.TheVariants as domain
use Rattle.codeco_text.specs.declared.written.WrittenItem.TheVariants as item
use Rattle.codeco_text.specs.Notation.{listed, feat_lexemes, category_lexemes, named, label_lexemes, arrow, body_lexemes, domain_lexemes, item_lexemes, lexemes}
use Rattle.codeco_checked.specs.Numbering.{is_declared}
use Rattle.codeco_printer.specs.Unnumbered.{name_at, feature_name, letter, written_term, plain_terms, taken_terms, below, from, merged, with_names, written_category, written_pattern, written_element, written_rule, declaration, written_feature}
use Rattle.codeco_numbering.specs.Labels.{label_name}
use Rattle.codeco_printer.specs.Writing.{Output, put_word, put, write, separator, opened_feats, closed_feats, other_atoms, values_lexemes}

pub write_append : (o : Output) (xs ys : List Lexeme) → write o (xs ++ ys) ≡ write (write o xs) ys
write_append o [] ys = refl
write_append o (x ∷ xs) ys = write_append (put o x) xs ys

-- the features of a category, with what stands between them, in two ways
listed_closed : (f : WrittenFeat) (fs : List WrittenFeat)
    → listed (map feat_lexemes (f ∷ fs)) ++ lexeme.Sign sign.CloseParen ∷ [] ≡ feat_lexemes f ++ closed_feats true fs
listed_closed f [] = refl
listed_closed f (h ∷ hs) =
    append_assoc (feat_lexemes f) (lexeme.Sign sign.Comma ∷ listed (map feat_lexemes (h ∷ hs))) (lexeme.Sign sign.CloseParen ∷ [])
    ∙ ap (λ (x : List Lexeme). feat_lexemes f ++ lexeme.Sign sign.Comma ∷ x) (listed_closed h hs)

pub category_closed : (name : Lexeme) (fs : List WrittenFeat) → category_lexemes name fs ≡ name ∷ closed_feats false fs
category_closed name [] = refl
category_closed name (f ∷ fs) = ap (λ (x : List Lexeme). name ∷ lexeme.Sign sign.OpenParen ∷ x) (listed_closed f fs)

-- a category's name is written as any other word
pub write_kind : (o : Output) (w : List ℕ) (fs : List WrittenFeat)
    → write o (category_lexemes (lexeme.Kind w) fs) ≡ write o (category_lexemes (lexeme.Identifier w) fs)
write_kind o w [] = refl
write_kind o w (f ∷ fs) = refl

ltb_suc : (n : ℕ) → ltb 0 (suc n) ≡ true
ltb_suc n = lt-ltb 0 (suc n) (omega arith)

pub closed_append : (opened : Bool) (fs hs : List WrittenFeat)
    → closed_feats opened (fs ++ hs) ≡ opened_feats opened fs ++ closed_feats (opened || ltb 0 (length fs)) hs
closed_append true [] hs = refl
closed_append false [] hs = refl
closed_append true (f ∷ fs) hs = ap (λ (x : List Lexeme). separator true ∷ feat_lexemes f ++ x) (closed_append true fs hs)
    ∙ sym (append_assoc (separator true ∷ feat_lexemes f) (opened_feats true fs) (closed_feats true hs))
closed_append false (f ∷ fs) hs =
    ap (λ (x : List Lexeme). separator false ∷ feat_lexemes f ++ x) (closed_append true fs hs)
    ∙ sym (append_assoc (separator false ∷ feat_lexemes f) (opened_feats true fs) (closed_feats true hs))
    ∙ ap (λ b. opened_feats false (f ∷ fs) ++ closed_feats b hs) (sym (ltb_suc (length fs)))

pub merged_none : (fs : List (ℕ × WrittenTerm)) → merged fs [] ≡ fs
merged_none [] = refl
merged_none (f ∷ fs) = ap (λ (x : List (ℕ × WrittenTerm)). f ∷ x) (merged_none fs)

pub not_none_push : {X : Type 0} (opened : Bool) (xs : List X) (x : X) → (opened || ltb 0 (length (xs ++ x ∷ []))) ≡ true
not_none_push true xs x = refl
not_none_push false [] x = refl
not_none_push false (y ∷ ys) x = ltb_suc (length (ys ++ x ∷ []))

-- marked features before another one, and that one, come before the others
pub merged_step : (g : GrammarParts) (opened : Bool) (f : ℕ × WrittenTerm) (fs ts : List (ℕ × WrittenTerm))
    → closed_feats opened (with_names g (merged (f ∷ fs) ts))
    ≡ opened_feats opened (with_names g (below f.0 ts ++ f ∷ [])) ++ closed_feats true (with_names g (merged fs (from f.0 ts)))
merged_step g opened f fs ts =
    let named : ℕ × WrittenTerm → WrittenFeat = λ h. record { name = feature_name g.features h.0; term = h.1 } in
    let others = merged fs (from f.0 ts) in
    let front = below f.0 ts ++ f ∷ [] in
    let split : merged (f ∷ fs) ts ≡ front ++ others = sym (append_assoc (below f.0 ts) (f ∷ []) others) in
    let named_split : with_names g (merged (f ∷ fs) ts) ≡ with_names g front ++ with_names g others = ap (with_names g) split ∙ map-append named front others in
    let ends : (opened || ltb 0 (length (with_names g front))) ≡ true =
    ap (λ (x : List WrittenFeat). opened || ltb 0 (length x)) (map-append named (below f.0 ts) (f ∷ []))
    ∙ not_none_push opened (with_names g (below f.0 ts)) (named f) in
    ap (closed_feats opened) named_split ∙ closed_append opened (with_names g front) (with_names g others)
    ∙ ap (λ b. opened_feats opened (with_names g front) ++ closed_feats b (with_names g others)) ends

pub opened_append : (opened : Bool) (fs hs : List WrittenFeat)
    → opened_feats opened (fs ++ hs) ≡ opened_feats opened fs ++ opened_feats (opened || ltb 0 (length fs)) hs
opened_append true [] hs = refl
opened_append false [] hs = refl
opened_append true (f ∷ fs) hs = ap (λ (x : List Lexeme). separator true ∷ feat_lexemes f ++ x) (opened_append true fs hs)
    ∙ sym (append_assoc (separator true ∷ feat_lexemes f) (opened_feats true fs) (opened_feats true hs))
opened_append false (f ∷ fs) hs =
    ap (λ (x : List Lexeme). separator false ∷ feat_lexemes f ++ x) (opened_append true fs hs)
    ∙ sym (append_assoc (separator false ∷ feat_lexemes f) (opened_feats true fs) (opened_feats true hs))
    ∙ ap (λ b. opened_feats false (f ∷ fs) ++ opened_feats b hs) (sym (ltb_suc (length fs)))

opened_one : (front : List Lexeme) (opened : Bool) (f : WrittenFeat)
    → front ++ opened_feats opened (f ∷ []) ≡ front ++ (separator opened ∷ feat_lexemes f ++ [])
opened_one front true f = refl
opened_one front false f = refl

-- a feature behind the marked ones that stand before it
pub feature_written : (g : GrammarParts) (opened more : Bool) (o marked : Output) (front : List (ℕ × WrittenTerm)) (f : ℕ × WrittenTerm)
    → marked ≡ write o (opened_feats opened (with_names g front)) → more ≡ (opened || ltb 0 (length front))
    → write (put marked (separator more)) (feat_lexemes (record { name = feature_name g.features f.0; term = f.1 }))
    ≡ write o (opened_feats opened (with_names g (front ++ f ∷ [])))
feature_written g opened more o marked front f is_marked is_more =
    let named : ℕ × WrittenTerm → WrittenFeat = λ h. record { name = feature_name g.features h.0; term = h.1 } in
    let split : with_names g (front ++ f ∷ []) ≡ with_names g front ++ named f ∷ [] = map-append named front (f ∷ []) in
    let same : length (with_names g front) ≡ length front = length-map front named in
    let more_is : (opened || ltb 0 (length (with_names g front))) ≡ more = ap (λ n. opened || ltb 0 n) same ∙ sym is_more in
    let lists : opened_feats opened (with_names g (front ++ f ∷ []))
    ≡ opened_feats opened (with_names g front) ++ (separator more ∷ feat_lexemes (named f) ++ []) =
    ap (opened_feats opened) split ∙ opened_append opened (with_names g front) (named f ∷ [])
    ∙ ap (λ b. opened_feats opened (with_names g front) ++ opened_feats b (named f ∷ [])) more_is
    ∙ opened_one (opened_feats opened (with_names g front)) more (named f) in
    sym (ap (write o) lists ∙ write_append o (opened_feats opened (with_names g front)) (separator more ∷ feat_lexemes (named f) ++ [])
    ∙ ap (λ (x : List Lexeme). write (write o (opened_feats opened (with_names g front))) (separator more ∷ x)) (append-nil (feat_lexemes (named f)))
    ∙ ap (λ m. write m (separator more ∷ feat_lexemes (named f))) (sym is_marked))

closed_end : (opened : Bool) (fs : List WrittenFeat) → closed_feats opened fs ≡ opened_feats opened fs ++ closed_feats (opened || ltb 0 (length fs)) []
closed_end opened fs = ap (closed_feats opened) (sym (append-nil fs)) ∙ closed_append opened fs []

-- what closes features that were written
pub last_closed : (o marked : Output) (opened : Bool) (fs : List WrittenFeat) (n : ℕ) → marked ≡ write o (opened_feats opened fs) → n ≡ length fs
    → (opened || ltb 0 n) ≡ true → put marked (lexeme.Sign sign.CloseParen) ≡ write o (closed_feats opened fs)
last_closed o marked opened fs n is_marked is_n some =
    let ends : (opened || ltb 0 (length fs)) ≡ true = ap (λ k. opened || ltb 0 k) (sym is_n) ∙ some in
    let lists : closed_feats opened fs ≡ opened_feats opened fs ++ (lexeme.Sign sign.CloseParen ∷ []) =
    closed_end opened fs ∙ ap (λ b. opened_feats opened fs ++ closed_feats b []) ends in
    sym (ap (write o) lists ∙ write_append o (opened_feats opened fs) (lexeme.Sign sign.CloseParen ∷ [])
    ∙ ap (λ m. put m (lexeme.Sign sign.CloseParen)) (sym is_marked))

pub last_open : (o marked : Output) (opened : Bool) (fs : List WrittenFeat) (n : ℕ) → marked ≡ write o (opened_feats opened fs) → n ≡ length fs
    → (opened || ltb 0 n) ≡ false → marked ≡ write o (closed_feats opened fs)
last_open o marked opened fs n is_marked is_n none =
    let ends : (opened || ltb 0 (length fs)) ≡ false = ap (λ k. opened || ltb 0 k) (sym is_n) ∙ none in
    let lists : closed_feats opened fs ≡ opened_feats opened fs ++ [] = closed_end opened fs ∙ ap (λ b. opened_feats opened fs ++ closed_feats b []) ends in
    is_marked ∙ sym (ap (write o) lists ∙ ap (write o) (append-nil (opened_feats opened fs)))

-- one more feature in a loop over them
pub features_more : (g : GrammarParts) (o now next : Output) (whole : List Lexeme) (opened : Bool) (f : ℕ × WrittenTerm) (fs ts others : List (ℕ × WrittenTerm))
    → write now (closed_feats opened (with_names g (merged (f ∷ fs) ts))) ≡ write o whole
    → next ≡ write now (opened_feats opened (with_names g (below f.0 ts ++ f ∷ []))) → others ≡ from f.0 ts
    → write next (closed_feats true (with_names g (merged fs others))) ≡ write o whole
features_more g o now next whole opened f fs ts others before step is_others =
    ap (λ (x : List (ℕ × WrittenTerm)). write next (closed_feats true (with_names g (merged fs x)))) is_others
    ∙ ap (λ m. write m (closed_feats true (with_names g (merged fs (from f.0 ts))))) step
    ∙ sym (write_append now (opened_feats opened (with_names g (below f.0 ts ++ f ∷ []))) (closed_feats true (with_names g (merged fs (from f.0 ts)))))
    ∙ ap (write now) (sym (merged_step g opened f fs ts))
    ∙ before

pub length_taken : (g : GrammarParts) (taken : List (ℕ × ℕ)) → length (with_names g (taken_terms taken)) ≡ length taken
length_taken g [] = refl
length_taken g (t ∷ ts) = ap suc (length_taken g ts)

pub taken_count : (taken : List (ℕ × ℕ)) (n : ℕ) (front : List (ℕ × WrittenTerm)) → n ≤ length taken → taken_terms (take n taken) ≡ front → n ≡ length front
taken_count taken n front bound is_front =
    sym (length-take-le n taken bound) ∙ sym (length-map (take n taken) (λ t. (t.0, term.Taken (letter t.1)))) ∙ ap length is_front

-- one turn of a loop over the features of a category
pub feature_turn : (g : GrammarParts) (o now next : Output) (whole : List Lexeme) (opened : Bool) (feats : List (ℕ × Term)) (i : ℕ) (d : ℕ × Term)
    (taken part : List (ℕ × ℕ)) (done count : ℕ) → i < length feats → part ≡ drop done taken
    → write now (closed_feats opened (with_names g (merged (plain_terms g (drop i feats)) (taken_terms (drop done taken))))) ≡ write o whole
    → next ≡ write now (opened_feats opened
    (with_names g (below (get_or feats i d).0 (taken_terms part) ++ ((get_or feats i d).0, written_term g (get_or feats i d).1) ∷ [])))
    → taken_terms (drop count part) ≡ from (get_or feats i d).0 (taken_terms part)
    → write next (closed_feats true (with_names g (merged (plain_terms g (drop (i + 1) feats)) (taken_terms (drop (done + count) taken))))) ≡ write o whole
feature_turn g o now next whole opened feats i d taken part done count lt is_part before step is_from =
    let f = get_or feats i d in
    let split = at_drop_more (λ fs. write now (closed_feats opened (with_names g (merged (plain_terms g fs) (taken_terms (drop done taken)))))) feats i d lt in
    let rest : drop (done + count) taken ≡ drop count part = sym (drop-drop count done taken) ∙ ap (drop count) (sym is_part) in
    features_more g o now next whole opened (f.0, written_term g f.1) (plain_terms g (drop (i + 1) feats)) (taken_terms part)
    (taken_terms (drop (done + count) taken))
    (ap (λ (x : List (ℕ × ℕ)). write now
    (closed_feats opened (with_names g (merged ((f.0, written_term g f.1) ∷ plain_terms g (drop (i + 1) feats)) (taken_terms x))))) is_part ∙ sym split
    ∙ before)
    step
    (ap taken_terms rest ∙ is_from)

pub category_written : (g : GrammarParts) (o next : Output) (c : Category)
    → next ≡ write (put_word o (name_at g.categories c.name)) (closed_feats false (with_names g (merged (plain_terms g c.feats) [])))
    → next ≡ write o (named (written_category g c))
category_written g o next c h =
    h ∙ ap (λ (x : List (ℕ × WrittenTerm)). write (put_word o (name_at g.categories c.name)) (closed_feats false (with_names g x)))
    (merged_none (plain_terms g c.feats))
    ∙ sym (ap (write o) (category_closed (lexeme.Identifier (name_at g.categories c.name)) (with_names g (plain_terms g c.feats))))

pub pattern_written : (g : GrammarParts) (o next : Output) (p : Pattern)
    → next ≡ write (put_word o (name_at g.categories p.cat.name)) (closed_feats false (with_names g (merged (plain_terms g p.cat.feats) (taken_terms p.taken))))
    → next ≡ write o (named (written_pattern g p))
pattern_written g o next p h =
    h ∙ sym (ap (write o) (category_closed (lexeme.Identifier (name_at g.categories p.cat.name))
    (with_names g (merged (plain_terms g p.cat.feats) (taken_terms p.taken)))))

-- one turn of a loop that writes the items of a list, each as its own symbols
pub list_turn : {X : Type 0} (F : List X → List Lexeme) (f : X → List Lexeme) → ((x : X) (xs : List X) → F (x ∷ xs) ≡ f x ++ F xs)
    → (o now next : Output) (whole : List Lexeme) (xs : List X) (i : ℕ) (x : X) → i < length xs → x ≡ get_or xs i x → write now (F (drop i xs)) ≡ write o whole
    → next ≡ write now (f x) → write next (F (drop (i + 1) xs)) ≡ write o whole
list_turn F f step o now next whole xs i x lt is before after =
    ap (λ m. write m (F (drop (i + 1) xs))) after
    ∙ sym (write_append now (f x) (F (drop (i + 1) xs)))
    ∙ ap (write now) (sym (step x (drop (i + 1) xs)))
    ∙ ap (λ y. write now (F (y ∷ drop (i + 1) xs))) is
    ∙ sym (at_drop_more (λ ys. write now (F ys)) xs i x lt)
    ∙ before

-- a rule from its parts
pub write-rule : (g : GrammarParts) (r : Rule) (o labelled headed next : Output) (a : Lexeme) (bodied : Output)
    → labelled ≡ write o (label_lexemes (option_map label_name r.label)) → headed ≡ write labelled (named (written_category g r.head)) → a ≡ arrow r.closing
    → bodied ≡ write (put headed a) (body_lexemes (map (written_element g) r.body)) → next ≡ put bodied (lexeme.Sign sign.Stop)
    → next ≡ write o (item_lexemes (item.Rule (written_rule g r)))
write-rule g r o labelled headed next a bodied is_labelled is_headed is_arrow is_bodied is_next =
    let label = label_lexemes (option_map label_name r.label) in
    let head = named (written_category g r.head) in
    let body = body_lexemes (map (written_element g) r.body) in
    let stop = lexeme.Sign sign.Stop ∷ [] in
    is_next
    ∙ ap (λ m. write m stop) (is_bodied ∙ ap (λ x. write (put headed x) body) is_arrow)
    ∙ sym (write_append (put headed (arrow r.closing)) body stop)
    ∙ ap (λ m. write (put m (arrow r.closing)) (body ++ stop)) is_headed
    ∙ sym (write_append labelled head (arrow r.closing ∷ (body ++ stop)))
    ∙ ap (λ m. write m (head ++ (arrow r.closing ∷ (body ++ stop)))) is_labelled
    ∙ sym (write_append o label (head ++ (arrow r.closing ∷ (body ++ stop))))

stops : (o valued next : Output) (front values : List Lexeme) → valued ≡ write (write o front) values → next ≡ put valued (lexeme.Sign sign.Stop)
    → next ≡ write o ((front ++ (values ++ lexeme.Sign sign.Stop ∷ [])) ++ [])
stops o valued next front values is_valued is_next =
    is_next ∙ ap (λ m. put m (lexeme.Sign sign.Stop)) is_valued
    ∙ sym (write_append (write o front) values (lexeme.Sign sign.Stop ∷ []))
    ∙ sym (write_append o front (values ++ lexeme.Sign sign.Stop ∷ []))
    ∙ ap (write o) (sym (append-nil (front ++ (values ++ lexeme.Sign sign.Stop ∷ []))))

declared_written : (g : GrammarParts) (name : List ℕ) (d : Declared) (o valued next : Output) → is_declared d ≡ true
    → valued ≡ write (put (put (put o (lexeme.Keyword (codes "feature"))) (lexeme.Identifier name)) (lexeme.Sign sign.Colon)) (values_lexemes g d)
    → next ≡ put valued (lexeme.Sign sign.Stop) → next ≡ write o (lexemes (declaration g name d))
declared_written g name declared.Undeclared o valued next is is_valued is_next = absurd cc
declared_written g name declared.Words o valued next is is_valued is_next =
    stops o valued next (lexeme.Keyword (codes "feature") ∷ lexeme.Identifier name ∷ lexeme.Sign sign.Colon ∷ []) (domain_lexemes domain.Words) is_valued
    is_next
declared_written g name declared.Positions o valued next is is_valued is_next =
    stops o valued next (lexeme.Keyword (codes "feature") ∷ lexeme.Identifier name ∷ lexeme.Sign sign.Colon ∷ []) (domain_lexemes domain.Positions) is_valued
    is_next
declared_written g name (declared.Atoms atoms) o valued next is is_valued is_next =
    stops o valued next (lexeme.Keyword (codes "feature") ∷ lexeme.Identifier name ∷ lexeme.Sign sign.Colon ∷ [])
    (domain_lexemes (domain.Atoms (map (name_at g.atoms) atoms))) is_valued is_next

-- a declaration from its parts
pub declaration_written : (g : GrammarParts) (f : Feature) (o valued next : Output) → is_declared f.declared ≡ true
    → valued ≡ write (put (put (put o (lexeme.Keyword (codes "feature"))) (lexeme.Identifier f.name)) (lexeme.Sign sign.Colon)) (values_lexemes g f.declared)
    → next ≡ put valued (lexeme.Sign sign.Stop) → next ≡ write o (lexemes (written_feature g f))
declaration_written g f o valued next is is_valued is_next = declared_written g f.name f.declared o valued next is is_valued is_next

atoms_listed : (g : GrammarParts) (a : ℕ) (others : List ℕ)
    → domain_lexemes (domain.Atoms (map (name_at g.atoms) (a ∷ others))) ≡ lexeme.Identifier (name_at g.atoms a) ∷ other_atoms g others
atoms_listed g a [] = refl
atoms_listed g a (b ∷ bs) = ap (λ (x : List Lexeme). lexeme.Identifier (name_at g.atoms a) ∷ lexeme.Sign sign.Comma ∷ x) (atoms_listed g b bs)

pub atoms_written : (g : GrammarParts) (o first next : Output) (atoms : List ℕ) → 1 ≤ length atoms → first ≡ put_word o (name_at g.atoms (get_or atoms 0 0))
    → next ≡ write first (other_atoms g (take (length atoms - 1) (drop 1 atoms))) → next ≡ write o (domain_lexemes (domain.Atoms (map (name_at g.atoms) atoms)))
atoms_written g o first next [] some is_first h = absurd (omega arith)
atoms_written g o first next (a ∷ others) some is_first h =
    h ∙ ap (λ (x : List ℕ). write first (other_atoms g x)) (take_rest (a ∷ others) 1) ∙ ap (λ m. write m (other_atoms g others)) is_first
    ∙ sym (ap (write o) (atoms_listed g a others))
