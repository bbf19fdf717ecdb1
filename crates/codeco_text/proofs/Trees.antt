-- The symbols of declarations and rules lead from between items to between items, exactly where these are as they must be.
use Rattle.std.proofs.Common.{◌≡◌, ℕ, Bool, true, false, cond, not, ◌&&◌, ◌||◌, List, [], ◌∷◌, ◌++◌, map, Option, Some, None, refl, sym, ap, ◌∙◌, append_assoc}
use Rattle.std.specs.List.{list_all}
use Rattle.std.proofs.lemmas.Bool.{or_parts, not-true}
use Rattle.codeco_text.specs.declared.symbols.Sign.{Sign}
use Rattle.codeco_text.specs.declared.symbols.Sign.TheVariants as sign
use Rattle.codeco_text.specs.declared.symbols.Lexeme.{Lexeme}
use Rattle.codeco_text.specs.declared.symbols.Lexeme.TheVariants as lexeme
use Rattle.codeco_text.specs.declared.spot.Role.{Role}
use Rattle.codeco_text.specs.declared.spot.Role.TheVariants as role
use Rattle.codeco_text.specs.declared.spot.Part.TheVariants as part
use Rattle.codeco_text.specs.declared.spot.Spot.{Spot}
use Rattle.codeco_text.specs.declared.spot.Spot.TheVariants as spot
use Rattle.codeco_text.specs.declared.written.WrittenTerm.{WrittenTerm}
use Rattle.codeco_text.specs.declared.written.WrittenTerm.TheVariants as term
use Rattle.codeco_text.specs.declared.written.WrittenFeat.{WrittenFeat}
use Rattle.codeco_text.specs.declared.written.WrittenCategory.{WrittenCategory}
use Rattle.codeco_text.specs.declared.written.WrittenElement.{WrittenElement}
use Rattle.codeco_text.specs.declared.written.WrittenElement.TheVariants as element
use Rattle.codeco_text.specs.declared.written.Domain.{Domain}
use Rattle.codeco_text.specs.declared.written.Domain.TheVariants as domain
use Rattle.codeco_text.specs.declared.written.WrittenItem.{WrittenItem}
use Rattle.codeco_text.specs.declared.written.WrittenItem.TheVariants as item
use Rattle.codeco_text.specs.Notation.{term_lexemes, feat_lexemes, listed, category_lexemes, named, signed, element_lexemes, label_lexemes, arrow, body_lexemes, domain_lexemes, item_lexemes, lexemes, is_marked, is_plain, is_empty, element_fits, domain_fits, item_fits}
use Rattle.codeco_text.specs.Reading.{◌>>=◌, after_category, is_sign, begins_pattern, next_spot}
use Rattle.codeco_text.proofs.SoFar.{name_lexeme}

-- where a reading stands behind these symbols
abbrev pub runs : Spot → List Lexeme → Option Spot
runs s [] = Some s
runs s (x ∷ xs) = next_spot s x >>= λ t. runs t xs

abbrev pub only_if : {A : Type 0} → Bool → Option A → Option A
only_if t o = cond t o None

only_if-both : {A : Type 0} (s t : Bool) (o : Option A) → only_if s (only_if t o) ≡ only_if (s && t) o
only_if-both true t o = refl
only_if-both false t o = refl

-- the list goes on with a symbol that neither opens features nor begins a pattern
abbrev pub starts_body : List Lexeme → Bool
starts_body [] = false
starts_body (x ∷ xs) = not (is_sign sign.OpenParen x || begins_pattern x)

abbrev pub starts_plain : List Lexeme → Bool
starts_plain [] = false
starts_plain (x ∷ xs) = not (is_sign sign.OpenParen x)

body_plain : (xs : List Lexeme) → starts_body xs ≡ true → starts_plain xs ≡ true
body_plain [] h = absurd cc
body_plain (x ∷ xs) h = rw (or_parts (is_sign sign.OpenParen x) (begins_pattern x) (not-true (is_sign sign.OpenParen x || begins_pattern x) h)).0 refl

abbrev pub term_allowed : Role → WrittenTerm → Bool
term_allowed role.Positive t = true
term_allowed _ t = not (is_marked t)

abbrev pub feats_fit : Role → List WrittenFeat → Bool
feats_fit r fs = list_all (λ f. term_allowed r f.term) fs

term_runs : (r : Role) (t : WrittenTerm) (rest : List Lexeme)
    → runs (spot.Category part.Term r) (term_lexemes t ++ rest) ≡ only_if (term_allowed r t) (runs (spot.Category part.Next r) rest)
term_runs role.Positive (term.Atom w) rest = refl
term_runs _ (term.Atom w) rest = refl
term_runs role.Positive (term.Variable w) rest = refl
term_runs _ (term.Variable w) rest = refl
term_runs role.Positive (term.Taken w) rest = refl
term_runs _ (term.Taken w) rest = refl

feat_runs : (r : Role) (f : WrittenFeat) (rest : List Lexeme)
    → runs (spot.Category part.Feature r) (feat_lexemes f ++ rest) ≡ only_if (term_allowed r f.term) (runs (spot.Category part.Next r) rest)
feat_runs r f rest = term_runs r f.term rest

feats_run : (r : Role) (f : WrittenFeat) (fs : List WrittenFeat) (rest : List Lexeme)
    → runs (spot.Category part.Feature r) (listed (map feat_lexemes (f ∷ fs)) ++ lexeme.Sign sign.CloseParen ∷ rest)
    ≡ only_if (feats_fit r (f ∷ fs)) (runs (spot.Category part.Whole r) rest)
feats_run r f [] rest = feat_runs r f (lexeme.Sign sign.CloseParen ∷ rest) ∙ only_if-both (term_allowed r f.term) true (runs (spot.Category part.Whole r) rest)
feats_run r f (g ∷ gs) rest =
    ap (runs (spot.Category part.Feature r))
    (append_assoc (feat_lexemes f) (lexeme.Sign sign.Comma ∷ listed (map feat_lexemes (g ∷ gs))) (lexeme.Sign sign.CloseParen ∷ rest))
    ∙ feat_runs r f (lexeme.Sign sign.Comma ∷ (listed (map feat_lexemes (g ∷ gs)) ++ lexeme.Sign sign.CloseParen ∷ rest))
    ∙ ap (only_if (term_allowed r f.term)) (feats_run r g gs rest)
    ∙ only_if-both (term_allowed r f.term) (feats_fit r (g ∷ gs)) (runs (spot.Category part.Whole r) rest)

-- behind its name a category has its features
abbrev pub features : List WrittenFeat → List Lexeme
features [] = []
features (f ∷ fs) = lexeme.Sign sign.OpenParen ∷ listed (map feat_lexemes (f ∷ fs)) ++ lexeme.Sign sign.CloseParen ∷ []

pub category_features : (name : Lexeme) (fs : List WrittenFeat) → category_lexemes name fs ≡ name ∷ features fs
category_features name [] = refl
category_features name (f ∷ fs) = refl

named_next : (r : Role) (x : Lexeme) → is_sign sign.OpenParen x ≡ false → next_spot (spot.Category part.Named r) x ≡ next_spot (after_category r) x
named_next role.Head x h = rw h refl
named_next r x h = rw h refl

whole_next : (r : Role) (x : Lexeme) → next_spot (spot.Category part.Whole r) x ≡ next_spot (after_category r) x
whole_next role.Head x = refl
whole_next r x = refl

named_rest : (r : Role) (rest : List Lexeme) → starts_plain rest ≡ true → runs (spot.Category part.Named r) rest ≡ runs (after_category r) rest
named_rest r [] h = absurd cc
named_rest r (x ∷ xs) h = ap (λ (o : Option Spot). o >>= λ t. runs t xs) (named_next r x (not-true (is_sign sign.OpenParen x) h))

whole_rest : (r : Role) (rest : List Lexeme) → starts_plain rest ≡ true → runs (spot.Category part.Whole r) rest ≡ runs (after_category r) rest
whole_rest r [] h = absurd cc
whole_rest r (x ∷ xs) h = ap (λ (o : Option Spot). o >>= λ t. runs t xs) (whole_next r x)

named_runs : (r : Role) (fs : List WrittenFeat) (rest : List Lexeme) → starts_plain rest ≡ true
    → runs (spot.Category part.Named r) (features fs ++ rest) ≡ only_if (feats_fit r fs) (runs (after_category r) rest)
named_runs r [] rest h = named_rest r rest h
named_runs r (f ∷ fs) rest h =
    ap (runs (spot.Category part.Feature r)) (append_assoc (listed (map feat_lexemes (f ∷ fs))) (lexeme.Sign sign.CloseParen ∷ []) rest)
    ∙ feats_run r f fs rest
    ∙ ap (only_if (feats_fit r (f ∷ fs))) (whole_rest r rest h)

name_runs : (r : Role) (w : List ℕ) (rest : List Lexeme) → runs (spot.Category part.Name r) (name_lexeme r w ∷ rest) ≡ runs (spot.Category part.Named r) rest
name_runs role.Head w rest = refl
name_runs r w rest = refl

category_runs : (r : Role) (w : List ℕ) (fs : List WrittenFeat) (rest : List Lexeme) → starts_plain rest ≡ true
    → runs (spot.Category part.Name r) (category_lexemes (name_lexeme r w) fs ++ rest) ≡ only_if (feats_fit r fs) (runs (after_category r) rest)
category_runs r w fs rest h = ap (λ (xs : List Lexeme). runs (spot.Category part.Name r) (xs ++ rest)) (category_features (name_lexeme r w) fs)
    ∙ name_runs r w (features fs ++ rest) ∙ named_runs r fs rest h

-- References

negatives_next : (x : Lexeme) → begins_pattern x ≡ false → next_spot spot.Negatives x ≡ next_spot spot.Body x
negatives_next x h = rw h refl

positives_next : (x : Lexeme) → begins_pattern x ≡ false → next_spot spot.Positives x ≡ next_spot spot.Body x
positives_next x h = rw h refl

absents_next : (x : Lexeme) → begins_pattern x ≡ false → next_spot spot.Absents x ≡ next_spot spot.Body x
absents_next x h = rw h refl

no_pattern : (x : Lexeme) (xs : List Lexeme) → starts_body (x ∷ xs) ≡ true → begins_pattern x ≡ false
no_pattern x xs h = (or_parts (is_sign sign.OpenParen x) (begins_pattern x) (not-true (is_sign sign.OpenParen x || begins_pattern x) h)).1

signed_plain : (s : Sign) (cs : List WrittenCategory) (rest : List Lexeme) → is_sign sign.OpenParen (lexeme.Sign s) ≡ false → starts_body rest ≡ true
    → starts_plain (signed s cs ++ rest) ≡ true
signed_plain s [] rest h k = body_plain rest k
signed_plain s (c ∷ cs) rest h k = rw h refl

pattern_shape : (s : Sign) (c : WrittenCategory) (cs : List WrittenCategory) (rest : List Lexeme)
    → signed s (c ∷ cs) ++ rest ≡ lexeme.Sign s ∷ (named c ++ (signed s cs ++ rest))
pattern_shape s c cs rest = append_assoc (lexeme.Sign s ∷ named c) (signed s cs) rest

plain_fits : (r : Role) → ((t : WrittenTerm) → term_allowed r t ≡ not (is_marked t)) → (fs : List WrittenFeat)
    → feats_fit r fs ≡ list_all (λ f. not (is_marked f.term)) fs
plain_fits r h [] = refl
plain_fits r h (f ∷ fs) = rw (h f.term, plain_fits r h fs) refl

all_fit : (fs : List WrittenFeat) → feats_fit role.Positive fs ≡ true
all_fit [] = refl
all_fit (f ∷ fs) = all_fit fs

negatives_run : (ns : List WrittenCategory) (rest : List Lexeme) → starts_body rest ≡ true
    → runs spot.Negatives (signed sign.Minus ns ++ rest) ≡ only_if (list_all is_plain ns) (runs spot.Body rest)
negatives_run [] [] h = absurd cc
negatives_run [] (x ∷ xs) h = ap (λ (o : Option Spot). o >>= λ t. runs t xs) (negatives_next x (no_pattern x xs h))
negatives_run (n ∷ ns) rest h =
    ap (runs spot.Negatives) (pattern_shape sign.Minus n ns rest)
    ∙ category_runs role.Negative n.name n.feats (signed sign.Minus ns ++ rest) (signed_plain sign.Minus ns rest refl h)
    ∙ ap (λ (t : Bool). only_if t (runs spot.Negatives (signed sign.Minus ns ++ rest))) (plain_fits role.Negative (λ t. refl) n.feats)
    ∙ ap (only_if (is_plain n)) (negatives_run ns rest h)
    ∙ only_if-both (is_plain n) (list_all is_plain ns) (runs spot.Body rest)

plus_plain : (ps ns : List WrittenCategory) (rest : List Lexeme) → starts_body rest ≡ true
    → starts_plain (signed sign.Plus ps ++ (signed sign.Minus ns ++ rest)) ≡ true
plus_plain [] ns rest h = signed_plain sign.Minus ns rest refl h
plus_plain (p ∷ ps) ns rest h = refl

positives_run : (ps ns : List WrittenCategory) (rest : List Lexeme) → starts_body rest ≡ true
    → runs spot.Positives (signed sign.Plus ps ++ (signed sign.Minus ns ++ rest)) ≡ only_if (list_all is_plain ns) (runs spot.Body rest)
positives_run [] [] [] h = absurd cc
positives_run [] [] (x ∷ xs) h = ap (λ (o : Option Spot). o >>= λ t. runs t xs) (positives_next x (no_pattern x xs h))
positives_run [] (n ∷ ns) rest h =
    ap (runs spot.Positives) (pattern_shape sign.Minus n ns rest)
    ∙ sym (ap (runs spot.Negatives) (pattern_shape sign.Minus n ns rest))
    ∙ negatives_run (n ∷ ns) rest h
positives_run (p ∷ ps) ns rest h =
    ap (runs spot.Positives) (pattern_shape sign.Plus p ps (signed sign.Minus ns ++ rest))
    ∙ category_runs role.Positive p.name p.feats (signed sign.Plus ps ++ (signed sign.Minus ns ++ rest)) (plus_plain ps ns rest h)
    ∙ ap (λ (t : Bool). only_if t (runs spot.Positives (signed sign.Plus ps ++ (signed sign.Minus ns ++ rest)))) (all_fit p.feats)
    ∙ positives_run ps ns rest h

absents_run : (ps : List WrittenCategory) (rest : List Lexeme) → starts_body rest ≡ true
    → runs spot.Absents (signed sign.Plus ps ++ rest) ≡ only_if (list_all is_plain ps) (runs spot.Body rest)
absents_run [] [] h = absurd cc
absents_run [] (x ∷ xs) h = ap (λ (o : Option Spot). o >>= λ t. runs t xs) (absents_next x (no_pattern x xs h))
absents_run (p ∷ ps) rest h =
    ap (runs spot.Absents) (pattern_shape sign.Plus p ps rest)
    ∙ category_runs role.Absent p.name p.feats (signed sign.Plus ps ++ rest) (signed_plain sign.Plus ps rest refl h)
    ∙ ap (λ (t : Bool). only_if t (runs spot.Absents (signed sign.Plus ps ++ rest))) (plain_fits role.Absent (λ t. refl) p.feats)
    ∙ ap (only_if (is_plain p)) (absents_run ps rest h)
    ∙ only_if-both (is_plain p) (list_all is_plain ps) (runs spot.Body rest)

-- a symbol other than + doesn't stand behind < and /<
back_next : (x : Lexeme) → is_sign sign.Plus x ≡ false → next_spot spot.BackPattern x ≡ None
back_next (lexeme.Identifier w) h = refl
back_next (lexeme.Variable w) h = refl
back_next (lexeme.Keyword w) h = refl
back_next (lexeme.Label w) h = refl
back_next (lexeme.Kind w) h = refl
back_next (lexeme.Terminal t) h = refl
back_next (lexeme.Sign sign.Plus) h = absurd cc
back_next (lexeme.Sign _) h = refl

absent_next : (x : Lexeme) → is_sign sign.Plus x ≡ false → next_spot spot.AbsentPattern x ≡ None
absent_next (lexeme.Identifier w) h = refl
absent_next (lexeme.Variable w) h = refl
absent_next (lexeme.Keyword w) h = refl
absent_next (lexeme.Label w) h = refl
absent_next (lexeme.Kind w) h = refl
absent_next (lexeme.Terminal t) h = refl
absent_next (lexeme.Sign sign.Plus) h = absurd cc
absent_next (lexeme.Sign _) h = refl

no_plus : (x : Lexeme) (xs : List Lexeme) → starts_body (x ∷ xs) ≡ true → is_sign sign.Plus x ≡ false
no_plus x xs h = (or_parts (is_sign sign.Plus x) (is_sign sign.Minus x) (no_pattern x xs h)).0

back_run : (ps ns : List WrittenCategory) (rest : List Lexeme) → starts_body rest ≡ true
    → runs spot.BackPattern (signed sign.Plus ps ++ (signed sign.Minus ns ++ rest)) ≡ only_if (not (is_empty ps) && list_all is_plain ns) (runs spot.Body rest)
back_run [] [] [] h = absurd cc
back_run [] [] (x ∷ xs) h = ap (λ (o : Option Spot). o >>= λ t. runs t xs) (back_next x (no_plus x xs h))
back_run [] (n ∷ ns) rest h = refl
back_run (p ∷ ps) ns rest h =
    ap (runs spot.BackPattern) (pattern_shape sign.Plus p ps (signed sign.Minus ns ++ rest))
    ∙ sym (ap (runs spot.Positives) (pattern_shape sign.Plus p ps (signed sign.Minus ns ++ rest)))
    ∙ positives_run (p ∷ ps) ns rest h

absent_run : (ps : List WrittenCategory) (rest : List Lexeme) → starts_body rest ≡ true
    → runs spot.AbsentPattern (signed sign.Plus ps ++ rest) ≡ only_if (not (is_empty ps) && list_all is_plain ps) (runs spot.Body rest)
absent_run [] [] h = absurd cc
absent_run [] (x ∷ xs) h = ap (λ (o : Option Spot). o >>= λ t. runs t xs) (absent_next x (no_plus x xs h))
absent_run (p ∷ ps) rest h =
    ap (runs spot.AbsentPattern) (pattern_shape sign.Plus p ps rest)
    ∙ sym (ap (runs spot.Absents) (pattern_shape sign.Plus p ps rest))
    ∙ absents_run (p ∷ ps) rest h

-- Bodies

plain_run : (r : Role) → after_category r ≡ spot.Body → ((t : WrittenTerm) → term_allowed r t ≡ not (is_marked t))
    → (w : List ℕ) (fs : List WrittenFeat) (rest : List Lexeme) → starts_body rest ≡ true
    → runs (spot.Category part.Name r) (category_lexemes (name_lexeme r w) fs ++ rest)
    ≡ only_if (list_all (λ f. not (is_marked f.term)) fs) (runs spot.Body rest)
plain_run r e k w fs rest h =
    category_runs r w fs rest (body_plain rest h)
    ∙ ap (λ (t : Bool). only_if t (runs (after_category r) rest)) (plain_fits r k fs)
    ∙ ap (λ (s : Spot). only_if (list_all (λ f. not (is_marked f.term)) fs) (runs s rest)) e

sub_run : (w : List ℕ) (fs : List WrittenFeat) (rest : List Lexeme) → starts_body rest ≡ true
    → runs spot.Body (category_lexemes (lexeme.Identifier w) fs ++ rest) ≡ only_if (list_all (λ f. not (is_marked f.term)) fs) (runs spot.Body rest)
sub_run w fs rest h =
    ap (λ (xs : List Lexeme). runs spot.Body (xs ++ rest)) (category_features (lexeme.Identifier w) fs)
    ∙ sym (ap (λ (xs : List Lexeme). runs (spot.Category part.Name role.Sub) (xs ++ rest)) (category_features (lexeme.Identifier w) fs))
    ∙ plain_run role.Sub refl (λ t. refl) w fs rest h

element_run : (e : WrittenElement) (rest : List Lexeme) → starts_body rest ≡ true
    → runs spot.Body (element_lexemes e ++ rest) ≡ only_if (element_fits e) (runs spot.Body rest)
element_run (element.Terminal t) rest h = refl
element_run (element.Preterminal c) rest h = plain_run role.Preterminal refl (λ t. refl) c.name c.feats rest h
element_run (element.Sub c) rest h = sub_run c.name c.feats rest h
element_run (element.Position x) rest h = refl
element_run element.Opener rest h = refl
element_run (element.Forward c) rest h = plain_run role.Forward refl (λ t. refl) c.name c.feats rest h
element_run (element.Strong c) rest h = plain_run role.Strong refl (λ t. refl) c.name c.feats rest h
element_run (element.Back ps ns) rest h = ap (runs spot.BackPattern) (append_assoc (signed sign.Plus ps) (signed sign.Minus ns) rest) ∙ back_run ps ns rest h
element_run (element.NoBack ps) rest h = absent_run ps rest h

category_starts : (w : List ℕ) (fs : List WrittenFeat) (rest : List Lexeme) → starts_body (category_lexemes (lexeme.Identifier w) fs ++ rest) ≡ true
category_starts w [] rest = refl
category_starts w (f ∷ fs) rest = refl

element_starts : (e : WrittenElement) (rest : List Lexeme) → starts_body (element_lexemes e ++ rest) ≡ true
element_starts (element.Sub c) rest = category_starts c.name c.feats rest
element_starts e rest = refl

body_starts : (es : List WrittenElement) (rest : List Lexeme) → starts_body rest ≡ true → starts_body (body_lexemes es ++ rest) ≡ true
body_starts [] rest h = h
body_starts (e ∷ es) rest h = ap starts_body (append_assoc (element_lexemes e) (body_lexemes es) rest) ∙ element_starts e (body_lexemes es ++ rest)

body_run : (es : List WrittenElement) (rest : List Lexeme) → starts_body rest ≡ true
    → runs spot.Body (body_lexemes es ++ rest) ≡ only_if (list_all element_fits es) (runs spot.Body rest)
body_run [] rest h = refl
body_run (e ∷ es) rest h =
    ap (runs spot.Body) (append_assoc (element_lexemes e) (body_lexemes es) rest)
    ∙ element_run e (body_lexemes es ++ rest) (body_starts es rest h)
    ∙ ap (only_if (element_fits e)) (body_run es rest h)
    ∙ only_if-both (element_fits e) (list_all element_fits es) (runs spot.Body rest)

-- Rules and declarations

arrow_runs : (closing : Bool) (rest : List Lexeme) → runs spot.Arrow (arrow closing ∷ rest) ≡ runs spot.Body rest
arrow_runs true rest = refl
arrow_runs false rest = refl

arrow_plain : (closing : Bool) (rest : List Lexeme) → starts_plain (arrow closing ∷ rest) ≡ true
arrow_plain true rest = refl
arrow_plain false rest = refl

behind_head : (closing : Bool) (es : List WrittenElement) (rest : List Lexeme)
    → runs spot.Arrow (arrow closing ∷ (body_lexemes es ++ lexeme.Sign sign.Stop ∷ rest)) ≡ only_if (list_all element_fits es) (runs spot.Items rest)
behind_head closing es rest = arrow_runs closing (body_lexemes es ++ lexeme.Sign sign.Stop ∷ rest) ∙ body_run es (lexeme.Sign sign.Stop ∷ rest) refl

head_run : (c : WrittenCategory) (closing : Bool) (es : List WrittenElement) (rest : List Lexeme)
    → runs (spot.Category part.Named role.Head) (features c.feats ++ (arrow closing ∷ (body_lexemes es ++ lexeme.Sign sign.Stop ∷ rest)))
    ≡ only_if (is_plain c && list_all element_fits es) (runs spot.Items rest)
head_run c closing es rest =
    named_runs role.Head c.feats (arrow closing ∷ (body_lexemes es ++ lexeme.Sign sign.Stop ∷ rest))
    (arrow_plain closing (body_lexemes es ++ lexeme.Sign sign.Stop ∷ rest))
    ∙ ap (λ (t : Bool). only_if t (runs spot.Arrow (arrow closing ∷ (body_lexemes es ++ lexeme.Sign sign.Stop ∷ rest))))
    (plain_fits role.Head (λ t. refl) c.feats)
    ∙ ap (only_if (is_plain c)) (behind_head closing es rest)
    ∙ only_if-both (is_plain c) (list_all element_fits es) (runs spot.Items rest)

rule_shape : (label named body : List Lexeme) (a : Lexeme) (rest : List Lexeme)
    → (label ++ (named ++ (a ∷ (body ++ lexeme.Sign sign.Stop ∷ [])))) ++ rest ≡ label ++ (named ++ (a ∷ (body ++ lexeme.Sign sign.Stop ∷ rest)))
rule_shape label named body a rest = simp append_assoc

from_items : (c : WrittenCategory) (tail : List Lexeme)
    → runs spot.Items (named c ++ tail) ≡ runs (spot.Category part.Named role.Head) (features c.feats ++ tail)
from_items c tail = ap (λ (xs : List Lexeme). runs spot.Items (xs ++ tail)) (category_features (lexeme.Identifier c.name) c.feats)

from_label : (c : WrittenCategory) (tail : List Lexeme)
    → runs spot.RuleHead (named c ++ tail) ≡ runs (spot.Category part.Named role.Head) (features c.feats ++ tail)
from_label c tail = ap (λ (xs : List Lexeme). runs spot.RuleHead (xs ++ tail)) (category_features (lexeme.Identifier c.name) c.feats)

labelled_run : (label : Option (List ℕ)) (c : WrittenCategory) (closing : Bool) (es : List WrittenElement) (rest : List Lexeme)
    → runs spot.Items (label_lexemes label ++ (named c ++ (arrow closing ∷ (body_lexemes es ++ lexeme.Sign sign.Stop ∷ rest))))
    ≡ only_if (is_plain c && list_all element_fits es) (runs spot.Items rest)
labelled_run None c closing es rest = from_items c (arrow closing ∷ (body_lexemes es ++ lexeme.Sign sign.Stop ∷ rest)) ∙ head_run c closing es rest
labelled_run (Some w) c closing es rest = from_label c (arrow closing ∷ (body_lexemes es ++ lexeme.Sign sign.Stop ∷ rest)) ∙ head_run c closing es rest

atoms_run : (a : List ℕ) (all : List (List ℕ)) (rest : List Lexeme)
    → runs spot.AtomName (listed (map (λ a. lexeme.Identifier a ∷ []) (a ∷ all)) ++ lexeme.Sign sign.Stop ∷ rest) ≡ runs spot.Items rest
atoms_run a [] rest = refl
atoms_run a (b ∷ all) rest = atoms_run b all rest

first_atom : (a : List ℕ) (all : List (List ℕ)) (rest : List Lexeme)
    → runs spot.FeatureValue (listed (map (λ a. lexeme.Identifier a ∷ []) (a ∷ all)) ++ lexeme.Sign sign.Stop ∷ rest) ≡ runs spot.Items rest
first_atom a [] rest = refl
first_atom a (b ∷ all) rest = atoms_run b all rest

domain_run : (d : Domain) (rest : List Lexeme)
    → runs spot.FeatureValue (domain_lexemes d ++ lexeme.Sign sign.Stop ∷ rest) ≡ only_if (domain_fits d) (runs spot.Items rest)
domain_run domain.Words rest = refl
domain_run domain.Positions rest = refl
domain_run (domain.Atoms []) rest = refl
domain_run (domain.Atoms (a ∷ all)) rest = first_atom a all rest

item_run : (i : WrittenItem) (rest : List Lexeme) → runs spot.Items (item_lexemes i ++ rest) ≡ only_if (item_fits i) (runs spot.Items rest)
item_run (item.Feature name d) rest = ap (runs spot.FeatureValue) (append_assoc (domain_lexemes d) (lexeme.Sign sign.Stop ∷ []) rest) ∙ domain_run d rest
item_run (item.Rule r) rest = ap (runs spot.Items) (rule_shape (label_lexemes r.label) (named r.head) (body_lexemes r.body) (arrow r.closing) rest)
    ∙ labelled_run r.label r.head r.closing r.body rest

-- the symbols of items lead to between items exactly where the items are as they must be
pub items_run : (items : List WrittenItem) → runs spot.Items (lexemes items) ≡ only_if (list_all item_fits items) (Some spot.Items)
items_run [] = refl
items_run (i ∷ items) =
    item_run i (lexemes items)
    ∙ ap (only_if (item_fits i)) (items_run items)
    ∙ only_if-both (item_fits i) (list_all item_fits items) (Some spot.Items)
