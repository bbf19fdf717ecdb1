-- No two lists of declarations and rules have the same symbols.
use Rattle.std.proofs.Common.{◌≡◌, ℕ, Bool, true, false, not, ◌&&◌, ◌||◌, List, [], ◌∷◌, ◌++◌, map, Option, Some, None, refl, sym, ap, ◌∙◌, append_assoc}
use Rattle.std.specs.Prelude.{codes}
use Rattle.std.proofs.lemmas.Bool.{both_ways, or_parts, not-true}
use Rattle.codeco_text.specs.declared.symbols.Sign.{Sign}
use Rattle.codeco_text.specs.declared.symbols.Sign.TheVariants as sign
use Rattle.codeco_text.specs.declared.symbols.Lexeme.{Lexeme}
use Rattle.codeco_text.specs.declared.symbols.Lexeme.TheVariants as lexeme
use Rattle.codeco_text.specs.declared.written.WrittenTerm.{WrittenTerm}
use Rattle.codeco_text.specs.declared.written.WrittenTerm.TheVariants as term
use Rattle.codeco_text.specs.declared.written.WrittenFeat.{WrittenFeat}
use Rattle.codeco_text.specs.declared.written.WrittenCategory.{WrittenCategory}
use Rattle.codeco_text.specs.declared.written.WrittenElement.{WrittenElement}
use Rattle.codeco_text.specs.declared.written.WrittenElement.TheVariants as element
use Rattle.codeco_text.specs.declared.written.WrittenRule.{WrittenRule}
use Rattle.codeco_text.specs.declared.written.Domain.{Domain}
use Rattle.codeco_text.specs.declared.written.Domain.TheVariants as domain
use Rattle.codeco_text.specs.declared.written.WrittenItem.{WrittenItem}
use Rattle.codeco_text.specs.declared.written.WrittenItem.TheVariants as item
use Rattle.codeco_text.specs.Notation.{term_lexemes, feat_lexemes, listed, category_lexemes, named, signed, element_lexemes, label_lexemes, arrow, body_lexemes, domain_lexemes, item_lexemes, lexemes}
use Rattle.codeco_text.specs.Reading.{is_sign, begins_pattern}
use Rattle.codeco_text.proofs.Trees.{starts_body, starts_plain, features, category_features}

tail_is : {x y : Lexeme} {xs ys : List Lexeme} → x ∷ xs ≡ y ∷ ys → xs ≡ ys
tail_is e = cc

head_is : (x y : Lexeme) (xs ys : List Lexeme) → x ∷ xs ≡ y ∷ ys → x ≡ y
head_is x y xs ys e = cc

body_plain : (xs : List Lexeme) → starts_body xs ≡ true → starts_plain xs ≡ true
body_plain [] h = absurd cc
body_plain (x ∷ xs) h = rw (or_parts (is_sign sign.OpenParen x) (begins_pattern x) (not-true (is_sign sign.OpenParen x || begins_pattern x) h)).0 refl

-- Categories

term_split : (t u : WrittenTerm) (r s : List Lexeme) → term_lexemes t ++ r ≡ term_lexemes u ++ s → (t ≡ u) × (r ≡ s)
term_split (term.Atom w) (term.Atom v) r s e = (cc, cc)
term_split (term.Variable w) (term.Variable v) r s e = (cc, cc)
term_split (term.Taken w) (term.Taken v) r s e = (cc, cc)
term_split t u r s e = absurd cc

feat_eq : (f g : WrittenFeat) → f.name ≡ g.name → f.term ≡ g.term → f ≡ g
feat_eq f g p q = λ i. record { name = p i; term = q i }

feat_split : (f g : WrittenFeat) (r s : List Lexeme) → feat_lexemes f ++ r ≡ feat_lexemes g ++ s → (f ≡ g) × (r ≡ s)
feat_split f g r s e =
    let name : f.name ≡ g.name = cc in
    let rest = term_split f.term g.term r s cc in
    (feat_eq f g name rest.0, rest.1)

listed_split : (f : WrittenFeat) (fs : List WrittenFeat) (g : WrittenFeat) (gs : List WrittenFeat) (r s : List Lexeme)
    → listed (map feat_lexemes (f ∷ fs)) ++ lexeme.Sign sign.CloseParen ∷ r ≡ listed (map feat_lexemes (g ∷ gs)) ++ lexeme.Sign sign.CloseParen ∷ s
    → (f ∷ fs ≡ g ∷ gs) × (r ≡ s)
listed_split f [] g [] r s e =
    let one = feat_split f g (lexeme.Sign sign.CloseParen ∷ r) (lexeme.Sign sign.CloseParen ∷ s) e in
    (ap (λ (x : WrittenFeat). x ∷ []) one.0, tail_is one.1)
listed_split f [] g (h ∷ hs) r s e =
    let one = feat_split f g (lexeme.Sign sign.CloseParen ∷ r)
    (lexeme.Sign sign.Comma ∷ (listed (map feat_lexemes (h ∷ hs)) ++ lexeme.Sign sign.CloseParen ∷ s))
    (e ∙ append_assoc (feat_lexemes g) (lexeme.Sign sign.Comma ∷ listed (map feat_lexemes (h ∷ hs))) (lexeme.Sign sign.CloseParen ∷ s)) in
    absurd (let clash = one.1 in cc)
listed_split f (h ∷ hs) g [] r s e =
    let one = feat_split f g (lexeme.Sign sign.Comma ∷ (listed (map feat_lexemes (h ∷ hs)) ++ lexeme.Sign sign.CloseParen ∷ r))
    (lexeme.Sign sign.CloseParen ∷ s)
    (sym (append_assoc (feat_lexemes f) (lexeme.Sign sign.Comma ∷ listed (map feat_lexemes (h ∷ hs))) (lexeme.Sign sign.CloseParen ∷ r)) ∙ e) in
    absurd (let clash = one.1 in cc)
listed_split f (h ∷ hs) g (k ∷ ks) r s e =
    let one = feat_split f g (lexeme.Sign sign.Comma ∷ (listed (map feat_lexemes (h ∷ hs)) ++ lexeme.Sign sign.CloseParen ∷ r))
    (lexeme.Sign sign.Comma ∷ (listed (map feat_lexemes (k ∷ ks)) ++ lexeme.Sign sign.CloseParen ∷ s))
    (sym (append_assoc (feat_lexemes f) (lexeme.Sign sign.Comma ∷ listed (map feat_lexemes (h ∷ hs))) (lexeme.Sign sign.CloseParen ∷ r)) ∙ e
    ∙ append_assoc (feat_lexemes g) (lexeme.Sign sign.Comma ∷ listed (map feat_lexemes (k ∷ ks))) (lexeme.Sign sign.CloseParen ∷ s)) in
    let others = listed_split h hs k ks r s (tail_is one.1) in
    (ap (λ (x : WrittenFeat). x ∷ h ∷ hs) one.0 ∙ ap (λ (xs : List WrittenFeat). g ∷ xs) others.0, others.1)

features_split : (fs gs : List WrittenFeat) (r s : List Lexeme) → starts_plain r ≡ true → starts_plain s ≡ true → features fs ++ r ≡ features gs ++ s
    → (fs ≡ gs) × (r ≡ s)
features_split [] [] r s h k e = (refl, e)
features_split [] (g ∷ gs) r s h k e = absurd (both_ways (starts_plain r) (ap starts_plain e) h)
features_split (f ∷ fs) [] r s h k e = absurd (both_ways (starts_plain s) (ap starts_plain (sym e)) k)
features_split (f ∷ fs) (g ∷ gs) r s h k e =
    listed_split f fs g gs r s (sym (append_assoc (listed (map feat_lexemes (f ∷ fs))) (lexeme.Sign sign.CloseParen ∷ []) r) ∙ tail_is e
    ∙ append_assoc (listed (map feat_lexemes (g ∷ gs))) (lexeme.Sign sign.CloseParen ∷ []) s)

category_eq : (c d : WrittenCategory) → c.name ≡ d.name → c.feats ≡ d.feats → c ≡ d
category_eq c d p q = λ i. record { name = p i; feats = q i }

named_split : (how : List ℕ → Lexeme) (c d : WrittenCategory) (r s : List Lexeme) → starts_plain r ≡ true → starts_plain s ≡ true
    → ((w v : List ℕ) → how w ≡ how v → w ≡ v)
    → category_lexemes (how c.name) c.feats ++ r ≡ category_lexemes (how d.name) d.feats ++ s → (c ≡ d) × (r ≡ s)
named_split how c d r s h k inj e =
    let shaped : how c.name ∷ (features c.feats ++ r) ≡ how d.name ∷ (features d.feats ++ s) =
    sym (ap (λ (xs : List Lexeme). xs ++ r) (category_features (how c.name) c.feats)) ∙ e
    ∙ ap (λ (xs : List Lexeme). xs ++ s) (category_features (how d.name) d.feats) in
    let name = inj c.name d.name (head_is (how c.name) (how d.name) (features c.feats ++ r) (features d.feats ++ s) shaped) in
    let rest = features_split c.feats d.feats r s h k (tail_is shaped) in
    (category_eq c d name rest.0, rest.1)

-- References

-- the list goes on with a symbol that is neither this sign nor opens features
starts_without : Sign → List Lexeme → Bool
starts_without y [] = false
starts_without y (x ∷ xs) = not (is_sign sign.OpenParen x || is_sign y x)

without_plain : (y : Sign) (xs : List Lexeme) → starts_without y xs ≡ true → starts_plain xs ≡ true
unfolding starts_without
without_plain y [] h = absurd cc
without_plain y (x ∷ xs) h = rw (or_parts (is_sign sign.OpenParen x) (is_sign y x) (not-true (is_sign sign.OpenParen x || is_sign y x) h)).0 refl

without_clash : (y : Sign) (xs more : List Lexeme) → is_sign y (lexeme.Sign y) ≡ true → starts_without y xs ≡ true → xs ≡ lexeme.Sign y ∷ more → ⊥
unfolding starts_without
without_clash y xs more own h e =
    let there : not (is_sign sign.OpenParen (lexeme.Sign y) || is_sign y (lexeme.Sign y)) ≡ true = ap (starts_without y) (sym e) ∙ h in
    let parts = or_parts (is_sign sign.OpenParen (lexeme.Sign y)) (is_sign y (lexeme.Sign y)) (not-true _ there) in
    both_ways (is_sign y (lexeme.Sign y)) parts.1 own

signed_plain : (y : Sign) (cs : List WrittenCategory) (r : List Lexeme) → is_sign sign.OpenParen (lexeme.Sign y) ≡ false → starts_without y r ≡ true
    → starts_plain (signed y cs ++ r) ≡ true
signed_plain y [] r o h = without_plain y r h
signed_plain y (c ∷ cs) r o h = rw o refl

signed_own : (y : Sign) (cs ds : List WrittenCategory) (r s : List Lexeme) → is_sign sign.OpenParen (lexeme.Sign y) ≡ false → is_sign y (lexeme.Sign y) ≡ true
    → starts_without y r ≡ true → starts_without y s ≡ true
    → signed y cs ++ r ≡ signed y ds ++ s → (cs ≡ ds) × (r ≡ s)
signed_own y [] [] r s o own h k e = (refl, e)
signed_own y [] (d ∷ ds) r s o own h k e = absurd (without_clash y r ((named d ++ signed y ds) ++ s) own h e)
signed_own y (c ∷ cs) [] r s o own h k e = absurd (without_clash y s ((named c ++ signed y cs) ++ r) own k (sym e))
signed_own y (c ∷ cs) (d ∷ ds) r s o own h k e =
    let one = named_split (λ w. lexeme.Identifier w) c d (signed y cs ++ r) (signed y ds ++ s) (signed_plain y cs r o h) (signed_plain y ds s o k) (λ w v g. cc)
    (sym (append_assoc (named c) (signed y cs) r) ∙ tail_is e ∙ append_assoc (named d) (signed y ds) s) in
    let others = signed_own y cs ds r s o own h k one.1 in
    (ap (λ (x : WrittenCategory). x ∷ cs) one.0 ∙ ap (λ (xs : List WrittenCategory). d ∷ xs) others.0, others.1)

body_without_plus : (xs : List Lexeme) → starts_body xs ≡ true → starts_without sign.Plus xs ≡ true
unfolding starts_without
body_without_plus [] h = absurd cc
body_without_plus (x ∷ xs) h =
    let parts = or_parts (is_sign sign.OpenParen x) (begins_pattern x) (not-true (is_sign sign.OpenParen x || begins_pattern x) h) in
    let signs = or_parts (is_sign sign.Plus x) (is_sign sign.Minus x) parts.1 in
    rw (parts.0, signs.0) refl

body_without_minus : (xs : List Lexeme) → starts_body xs ≡ true → starts_without sign.Minus xs ≡ true
unfolding starts_without
body_without_minus [] h = absurd cc
body_without_minus (x ∷ xs) h =
    let parts = or_parts (is_sign sign.OpenParen x) (begins_pattern x) (not-true (is_sign sign.OpenParen x || begins_pattern x) h) in
    let signs = or_parts (is_sign sign.Plus x) (is_sign sign.Minus x) parts.1 in
    rw (parts.0, signs.1) refl

minus_without_plus : (ns : List WrittenCategory) (r : List Lexeme) → starts_body r ≡ true → starts_without sign.Plus (signed sign.Minus ns ++ r) ≡ true
unfolding starts_without
minus_without_plus [] r h = body_without_plus r h
minus_without_plus (n ∷ ns) r h = refl

back_split : (ps ns qs ms : List WrittenCategory) (r s : List Lexeme) → starts_body r ≡ true → starts_body s ≡ true
    → (signed sign.Plus ps ++ signed sign.Minus ns) ++ r ≡ (signed sign.Plus qs ++ signed sign.Minus ms) ++ s
    → (element.Back ps ns ≡ element.Back qs ms) × (r ≡ s)
back_split ps ns qs ms r s h k e =
    let one = signed_own sign.Plus ps qs (signed sign.Minus ns ++ r) (signed sign.Minus ms ++ s) refl refl (minus_without_plus ns r h)
    (minus_without_plus ms s k)
    (sym (append_assoc (signed sign.Plus ps) (signed sign.Minus ns) r) ∙ e ∙ append_assoc (signed sign.Plus qs) (signed sign.Minus ms) s) in
    let others = signed_own sign.Minus ns ms r s refl refl (body_without_minus r h) (body_without_minus s k) one.1 in
    (ap (λ (x : List WrittenCategory). element.Back x ns) one.0 ∙ ap (λ (x : List WrittenCategory). element.Back qs x) others.0, others.1)

-- Elements

element_head : WrittenElement → Lexeme
element_head (element.Terminal t) = lexeme.Terminal t
element_head (element.Preterminal c) = lexeme.Sign sign.Dollar
element_head (element.Sub c) = lexeme.Identifier c.name
element_head (element.Position x) = lexeme.Sign sign.Hash
element_head element.Opener = lexeme.Sign sign.Scope
element_head (element.Forward c) = lexeme.Sign sign.Weak
element_head (element.Strong c) = lexeme.Sign sign.Strong
element_head (element.Back ps ns) = lexeme.Sign sign.Back
element_head (element.NoBack ps) = lexeme.Sign sign.NoBack

head_or : List Lexeme → Lexeme
head_or [] = lexeme.Sign sign.Stop
head_or (x ∷ xs) = x

element_first : (e : WrittenElement) (r : List Lexeme) → head_or (element_lexemes e ++ r) ≡ element_head e
unfolding element_head head_or
element_first (element.Sub c) r = ap (λ (xs : List Lexeme). head_or (xs ++ r)) (category_features (lexeme.Identifier c.name) c.feats)
element_first e r = refl

heads : (e f : WrittenElement) (r s : List Lexeme) → element_lexemes e ++ r ≡ element_lexemes f ++ s → element_head e ≡ element_head f
heads e f r s q = sym (element_first e r) ∙ ap head_or q ∙ element_first f s

element_split : (a b : WrittenElement) (r s : List Lexeme) → starts_body r ≡ true → starts_body s ≡ true → element_lexemes a ++ r ≡ element_lexemes b ++ s
    → (a ≡ b) × (r ≡ s)
unfolding element_head
element_split (element.Terminal t) (element.Terminal u) r s h k e = (cc, cc)
element_split (element.Preterminal c) (element.Preterminal d) r s h k e = let f =
    named_split (λ w. lexeme.Kind w) c d r s (body_plain r h) (body_plain s k) (λ w v g. cc) (tail_is e) in
    (ap (λ (x : WrittenCategory). element.Preterminal x) f.0, f.1)
element_split (element.Sub c) (element.Sub d) r s h k e = let f =
    named_split (λ w. lexeme.Identifier w) c d r s (body_plain r h) (body_plain s k) (λ w v g. cc) e in (ap (λ (x : WrittenCategory). element.Sub x) f.0, f.1)
element_split (element.Position x) (element.Position y) r s h k e = (cc, cc)
element_split element.Opener element.Opener r s h k e = (refl, cc)
element_split (element.Forward c) (element.Forward d) r s h k e = let f =
    named_split (λ w. lexeme.Identifier w) c d r s (body_plain r h) (body_plain s k) (λ w v g. cc) (tail_is e) in
    (ap (λ (x : WrittenCategory). element.Forward x) f.0, f.1)
element_split (element.Strong c) (element.Strong d) r s h k e = let f =
    named_split (λ w. lexeme.Identifier w) c d r s (body_plain r h) (body_plain s k) (λ w v g. cc) (tail_is e) in
    (ap (λ (x : WrittenCategory). element.Strong x) f.0, f.1)
element_split (element.Back ps ns) (element.Back qs ms) r s h k e = back_split ps ns qs ms r s h k (tail_is e)
element_split (element.NoBack ps) (element.NoBack qs) r s h k e = let f =
    signed_own sign.Plus ps qs r s refl refl (body_without_plus r h) (body_without_plus s k) (tail_is e) in
    (ap (λ (x : List WrittenCategory). element.NoBack x) f.0, f.1)
element_split a b r s h k e = absurd (let f = heads a b r s e in cc)

element_starts : (e : WrittenElement) (rest : List Lexeme) → starts_body (element_lexemes e ++ rest) ≡ true
element_starts (element.Sub c) rest = ap (λ (xs : List Lexeme). starts_body (xs ++ rest)) (category_features (lexeme.Identifier c.name) c.feats)
element_starts e rest = refl

body_starts : (es : List WrittenElement) (r : List Lexeme) → starts_body (body_lexemes es ++ lexeme.Sign sign.Stop ∷ r) ≡ true
body_starts [] r = refl
body_starts (e ∷ es) r = ap starts_body (append_assoc (element_lexemes e) (body_lexemes es) (lexeme.Sign sign.Stop ∷ r))
    ∙ element_starts e (body_lexemes es ++ lexeme.Sign sign.Stop ∷ r)

no_stop : (e : WrittenElement) → element_head e ≡ lexeme.Sign sign.Stop → ⊥
unfolding element_head
no_stop (element.Terminal t) h = cc
no_stop e h = cc

stop_clash : (e : WrittenElement) (es : List WrittenElement) (r s : List Lexeme)
    → lexeme.Sign sign.Stop ∷ r ≡ body_lexemes (e ∷ es) ++ lexeme.Sign sign.Stop ∷ s → ⊥
unfolding head_or
stop_clash e es r s q = no_stop e (sym (ap head_or (q ∙ append_assoc (element_lexemes e) (body_lexemes es) (lexeme.Sign sign.Stop ∷ s))
    ∙ element_first e (body_lexemes es ++ lexeme.Sign sign.Stop ∷ s)))

body_split : (es fs : List WrittenElement) (r s : List Lexeme) → body_lexemes es ++ lexeme.Sign sign.Stop ∷ r ≡ body_lexemes fs ++ lexeme.Sign sign.Stop ∷ s
    → (es ≡ fs) × (r ≡ s)
body_split [] [] r s e = (refl, tail_is e)
body_split [] (f ∷ fs) r s e = absurd (stop_clash f fs r s e)
body_split (g ∷ es) [] r s e = absurd (stop_clash g es s r (sym e))
body_split (g ∷ es) (f ∷ fs) r s e =
    let one = element_split g f (body_lexemes es ++ lexeme.Sign sign.Stop ∷ r) (body_lexemes fs ++ lexeme.Sign sign.Stop ∷ s) (body_starts es r)
    (body_starts fs s)
    (sym (append_assoc (element_lexemes g) (body_lexemes es) (lexeme.Sign sign.Stop ∷ r)) ∙ e
    ∙ append_assoc (element_lexemes f) (body_lexemes fs) (lexeme.Sign sign.Stop ∷ s)) in
    let others = body_split es fs r s one.1 in
    (ap (λ (x : WrittenElement). x ∷ es) one.0 ∙ ap (λ (xs : List WrittenElement). f ∷ xs) others.0, others.1)

-- Rules and declarations

arrow_split : (a b : Bool) → arrow a ≡ arrow b → a ≡ b
arrow_split true true e = refl
arrow_split false false e = refl
arrow_split a b e = absurd cc

arrow_plain : (a : Bool) (r : List Lexeme) → starts_plain (arrow a ∷ r) ≡ true
arrow_plain true r = refl
arrow_plain false r = refl

abbrev rule_rest : WrittenRule → List Lexeme → List Lexeme
rule_rest c r = arrow c.closing ∷ (body_lexemes c.body ++ lexeme.Sign sign.Stop ∷ r)

rule_eq : (c d : WrittenRule) → c.label ≡ d.label → c.head ≡ d.head → c.closing ≡ d.closing → c.body ≡ d.body → c ≡ d
rule_eq c d p q t u = λ i. record { label = p i; head = q i; closing = t i; body = u i }

head_split : (c d : WrittenRule) (r s : List Lexeme) → c.label ≡ d.label → named c.head ++ rule_rest c r ≡ named d.head ++ rule_rest d s → (c ≡ d) × (r ≡ s)
head_split c d r s label e =
    let one = named_split (λ w. lexeme.Identifier w) c.head d.head (rule_rest c r) (rule_rest d s)
    (arrow_plain c.closing (body_lexemes c.body ++ lexeme.Sign sign.Stop ∷ r)) (arrow_plain d.closing (body_lexemes d.body ++ lexeme.Sign sign.Stop ∷ s))
    (λ w v g. cc) e in
    let closing = arrow_split c.closing d.closing
    (head_is (arrow c.closing) (arrow d.closing) (body_lexemes c.body ++ lexeme.Sign sign.Stop ∷ r) (body_lexemes d.body ++ lexeme.Sign sign.Stop ∷ s)
    one.1) in
    let body = body_split c.body d.body r s (tail_is one.1) in
    (rule_eq c d label one.0 closing body.0, body.1)

named_first : (c : WrittenCategory) (r : List Lexeme) → named c ++ r ≡ lexeme.Identifier c.name ∷ (features c.feats ++ r)
named_first c r = ap (λ (xs : List Lexeme). xs ++ r) (category_features (lexeme.Identifier c.name) c.feats)

label_split : (l m : Option (List ℕ)) (c d : WrittenRule) (r s : List Lexeme) → c.label ≡ l → d.label ≡ m
    → label_lexemes l ++ (named c.head ++ rule_rest c r) ≡ label_lexemes m ++ (named d.head ++ rule_rest d s) → (c ≡ d) × (r ≡ s)
label_split None None c d r s p q e = head_split c d r s (p ∙ sym q) e
label_split None (Some w) c d r s p q e = absurd (let clash = sym (named_first c.head (rule_rest c r)) ∙ e in cc)
label_split (Some v) None c d r s p q e = absurd (let clash = sym (named_first d.head (rule_rest d s)) ∙ sym e in cc)
label_split (Some v) (Some w) c d r s p q e =
    let same : v ≡ w = cc in
    head_split c d r s (p ∙ ap (λ (x : List ℕ). Some x) same ∙ sym q) (tail_is (tail_is (tail_is e)))

rule_shape : (label named body : List Lexeme) (a : Lexeme) (rest : List Lexeme)
    → (label ++ (named ++ (a ∷ (body ++ lexeme.Sign sign.Stop ∷ [])))) ++ rest ≡ label ++ (named ++ (a ∷ (body ++ lexeme.Sign sign.Stop ∷ rest)))
rule_shape label named body a rest = simp append_assoc

rule_is : (c : WrittenRule) (r : List Lexeme) → item_lexemes (item.Rule c) ++ r ≡ label_lexemes c.label ++ (named c.head ++ rule_rest c r)
rule_is c r = rule_shape (label_lexemes c.label) (named c.head) (body_lexemes c.body) (arrow c.closing) r

atoms_split : (a : List ℕ) (others : List (List ℕ)) (b : List ℕ) (bs : List (List ℕ)) (r s : List Lexeme)
    → listed (map (λ a. lexeme.Identifier a ∷ []) (a ∷ others)) ++ lexeme.Sign sign.Stop ∷ r
    ≡ listed (map (λ a. lexeme.Identifier a ∷ []) (b ∷ bs)) ++ lexeme.Sign sign.Stop ∷ s → (a ∷ others ≡ b ∷ bs) × (r ≡ s)
atoms_split a [] b [] r s e = (cc, tail_is (tail_is e))
atoms_split a [] b (d ∷ ds) r s e = absurd (let clash = tail_is e in cc)
atoms_split a (c ∷ cs) b [] r s e = absurd (let clash = tail_is e in cc)
atoms_split a (c ∷ cs) b (d ∷ ds) r s e =
    let others = atoms_split c cs d ds r s (tail_is (tail_is e)) in
    let one : a ≡ b = let h = head_is (lexeme.Identifier a) (lexeme.Identifier b) _ _ e in cc in
    (ap (λ (x : List ℕ). x ∷ c ∷ cs) one ∙ ap (λ (xs : List (List ℕ)). b ∷ xs) others.0, others.1)

domain_head : Domain → Lexeme
domain_head domain.Words = lexeme.Keyword (codes "word")
domain_head domain.Positions = lexeme.Keyword (codes "position")
domain_head (domain.Atoms []) = lexeme.Sign sign.Stop
domain_head (domain.Atoms (a ∷ others)) = lexeme.Identifier a

domain_first : (d : Domain) (r : List Lexeme) → head_or (domain_lexemes d ++ lexeme.Sign sign.Stop ∷ r) ≡ domain_head d
unfolding domain_head head_or
domain_first (domain.Atoms (a ∷ b ∷ bs)) r = refl
domain_first d r = refl

domain_split : (c d : Domain) (r s : List Lexeme) → domain_lexemes c ++ lexeme.Sign sign.Stop ∷ r ≡ domain_lexemes d ++ lexeme.Sign sign.Stop ∷ s
    → (c ≡ d) × (r ≡ s)
unfolding domain_head
domain_split domain.Words domain.Words r s e = (refl, tail_is (tail_is e))
domain_split domain.Positions domain.Positions r s e = (refl, tail_is (tail_is e))
domain_split domain.Words domain.Positions r s e = absurd cc
domain_split domain.Positions domain.Words r s e = absurd cc
domain_split domain.Words (domain.Atoms []) r s e = absurd cc
domain_split domain.Positions (domain.Atoms []) r s e = absurd cc
domain_split (domain.Atoms []) (domain.Atoms []) r s e = (refl, tail_is e)
domain_split (domain.Atoms (a ∷ others)) (domain.Atoms (b ∷ bs)) r s e =
    let all = atoms_split a others b bs r s e in
    (ap (λ (x : List (List ℕ)). domain.Atoms x) all.0, all.1)
domain_split c d r s e = absurd (let f : domain_head c ≡ domain_head d = sym (domain_first c r) ∙ ap head_or e ∙ domain_first d s in cc)

rule_first : (l : Option (List ℕ)) (c : WrittenCategory) (more : List Lexeme) (r : List Lexeme)
    → lexeme.Keyword (codes "feature") ∷ r ≡ label_lexemes l ++ (named c ++ more) → ⊥
rule_first None c more r e = let clash = e ∙ named_first c more in cc
rule_first (Some w) c more r e = cc

feature_is : (name : List ℕ) (d : Domain) (r : List Lexeme)
    → item_lexemes (item.Feature name d) ++ r
    ≡ lexeme.Keyword (codes "feature") ∷ lexeme.Identifier name ∷ lexeme.Sign sign.Colon ∷ (domain_lexemes d ++ lexeme.Sign sign.Stop ∷ r)
feature_is name d r = ap (λ (xs : List Lexeme). lexeme.Keyword (codes "feature") ∷ lexeme.Identifier name ∷ lexeme.Sign sign.Colon ∷ xs)
    (append_assoc (domain_lexemes d) (lexeme.Sign sign.Stop ∷ []) r)

item_split : (i j : WrittenItem) (r s : List Lexeme) → item_lexemes i ++ r ≡ item_lexemes j ++ s → (i ≡ j) × (r ≡ s)
item_split (item.Feature name d) (item.Feature other f) r s e =
    let shaped = sym (feature_is name d r) ∙ e ∙ feature_is other f s in
    let same : name ≡ other = let h = tail_is shaped in let k = head_is (lexeme.Identifier name) (lexeme.Identifier other) _ _ h in cc in
    let rest = domain_split d f r s (tail_is (tail_is (tail_is shaped))) in
    (ap (λ (x : List ℕ). item.Feature x d) same ∙ ap (λ (x : Domain). item.Feature other x) rest.0, rest.1)
item_split (item.Feature name d) (item.Rule c) r s e = absurd (rule_first c.label c.head (rule_rest c s) _ (sym (feature_is name d r) ∙ e ∙ rule_is c s))
item_split (item.Rule c) (item.Feature name d) r s e = absurd (rule_first c.label c.head (rule_rest c r) _ (sym (feature_is name d s) ∙ sym e ∙ rule_is c r))
item_split (item.Rule c) (item.Rule d) r s e =
    let rest = label_split c.label d.label c d r s refl refl (sym (rule_is c r) ∙ e ∙ rule_is d s) in
    (ap (λ (x : WrittenRule). item.Rule x) rest.0, rest.1)

item_some : (i : WrittenItem) (r : List Lexeme) → [] ≡ item_lexemes i ++ r → ⊥
item_some (item.Feature name d) r e = cc
item_some (item.Rule c) r e = rule_some c.label c.head (rule_rest c r) (e ∙ rule_is c r) where
  rule_some : (l : Option (List ℕ)) (h : WrittenCategory) (more : List Lexeme) → [] ≡ label_lexemes l ++ (named h ++ more) → ⊥
  rule_some None h more e = let clash = e ∙ named_first h more in cc
  rule_some (Some w) h more e = cc

-- the same symbols are those of the same declarations and rules
pub lexemes_same : (is js : List WrittenItem) → lexemes is ≡ lexemes js → is ≡ js
lexemes_same [] [] e = refl
lexemes_same [] (j ∷ js) e = absurd (item_some j (lexemes js) e)
lexemes_same (i ∷ is) [] e = absurd (item_some i (lexemes is) (sym e))
lexemes_same (i ∷ is) (j ∷ js) e =
    let one = item_split i j (lexemes is) (lexemes js) e in
    let others = lexemes_same is js one.1 in
    ap (λ (x : WrittenItem). x ∷ is) one.0 ∙ ap (λ (xs : List WrittenItem). j ∷ xs) others
