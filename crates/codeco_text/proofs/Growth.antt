-- Each symbol that a reading takes stands at the end of those that it has read.
use Rattle.std.proofs.Common.{◌≡◌, ℕ, Bool, true, false, cond, List, [], ◌∷◌, ◌++◌, map, Option, Some, None, refl, sym, ap, subst, ◌∙◌, append_assoc, eqb}
use Rattle.std.specs.Prelude.{codes, IfSome, flat_map}
use Rattle.std.specs.Option.{option_map}
use Rattle.std.proofs.lemmas.List.{append-nil}
use Rattle.std.proofs.lemmas.List.Concat.{flat_map-append}
use Rattle.std.proofs.lemmas.Bool.{and_parts, eqb-true, or_cases, and_from, eq-eqb}
use Rattle.codeco_text.specs.declared.symbols.Sign.{Sign}
use Rattle.codeco_text.specs.declared.symbols.Sign.TheVariants as sign
use Rattle.codeco_text.specs.declared.symbols.Lexeme.{Lexeme}
use Rattle.codeco_text.specs.declared.symbols.Lexeme.TheVariants as lexeme
use Rattle.codeco_text.specs.declared.spot.Role.{Role}
use Rattle.codeco_text.specs.declared.spot.Role.TheVariants as role
use Rattle.codeco_text.specs.declared.spot.Part.TheVariants as part
use Rattle.codeco_text.specs.declared.spot.Spot.{Spot}
use Rattle.codeco_text.specs.declared.spot.Spot.TheVariants as spot
use Rattle.codeco_text.specs.declared.written.WrittenFeat.{WrittenFeat}
use Rattle.codeco_text.specs.declared.written.WrittenCategory.{WrittenCategory}
use Rattle.codeco_text.specs.declared.written.WrittenElement.{WrittenElement}
use Rattle.codeco_text.specs.declared.written.WrittenItem.{WrittenItem}
use Rattle.codeco_text.specs.declared.builder.Builder.{Builder}
use Rattle.codeco_text.specs.Names.{same_bytes}
use Rattle.std.proofs.Common.{inl, inr}
use Rattle.std.specs.Prelude.{◌||◌}
use Rattle.codeco_text.specs.declared.written.WrittenElement.TheVariants as element
use Rattle.codeco_text.specs.declared.written.Domain.TheVariants as domain
use Rattle.codeco_text.specs.Notation.{listed, feat_lexemes, category_lexemes, named, signed, element_lexemes, item_lexemes, lexemes}
use Rattle.codeco_text.specs.Reading.{after_identifier, after_variable, after_keyword, after_label, after_kind, after_terminal, after_category, after_sign, advance, begins_pattern}
use Rattle.codeco_text.specs.Building.{push, identifier_at, variable_at, with_keyword, with_label, with_kind, with_terminal, sign_at, with_lexeme, settle_at, settle_into, settled_builder, close_at, closed_builder, opens_features, ready, moved, grow, values_domain, with_declaration}
use Rattle.codeco_text.proofs.SoFar.{opened, name_lexeme, so_far_at, so_far, role_front, atoms_open, value_front, values_word}

-- a text is the same as itself, and what is the same is equal
pub same_bytes_refl : (w : List ℕ) → same_bytes w w ≡ true
same_bytes_refl [] = refl
same_bytes_refl (x ∷ w) = and_from (eqb x x) (same_bytes w w) (eq-eqb x x refl) (same_bytes_refl w)

pub same_is : (xs ys : List ℕ) → same_bytes xs ys ≡ true → xs ≡ ys
same_is [] [] h = refl
same_is [] (y ∷ ys) h = absurd cc
same_is (x ∷ xs) [] h = absurd cc
same_is (x ∷ xs) (y ∷ ys) h =
    let parts = and_parts (eqb x y) (same_bytes xs ys) h in
    let first = eqb-true x y parts.0 in
    let rest = same_is xs ys parts.1 in
    cc

-- an identifier
adds_identifier : (s : Spot) (b : Builder) (w : List ℕ)
    → IfSome (after_identifier s) (λ v. so_far_at v (identifier_at s b w) ≡ push (so_far_at s b) (lexeme.Identifier w))
adds_identifier spot.Items b w = simp append-nil
adds_identifier spot.RuleHead b w = refl
adds_identifier spot.FeatureName b w = refl
adds_identifier spot.FeatureValue b w = simp (append_assoc, append-nil)
adds_identifier spot.AtomName b w = refl
adds_identifier (spot.Category part.Name role.Head) b w = simp (append_assoc, append-nil)
adds_identifier (spot.Category part.Name role.Sub) b w = simp (append_assoc, append-nil)
adds_identifier (spot.Category part.Name role.Forward) b w = simp (append_assoc, append-nil)
adds_identifier (spot.Category part.Name role.Strong) b w = simp (append_assoc, append-nil)
adds_identifier (spot.Category part.Name role.Positive) b w = simp (append_assoc, append-nil)
adds_identifier (spot.Category part.Name role.Negative) b w = simp (append_assoc, append-nil)
adds_identifier (spot.Category part.Name role.Absent) b w = simp (append_assoc, append-nil)
adds_identifier (spot.Category part.Feature r) b w = simp append_assoc
adds_identifier (spot.Category part.Term r) b w = simp append_assoc
adds_identifier spot.Body b w = refl
adds_identifier s b w = tt

body_more : (es : List WrittenElement) (e : WrittenElement) → flat_map element_lexemes (push es e) ≡ flat_map element_lexemes es ++ element_lexemes e
body_more es e = flat_map-append element_lexemes es (e ∷ []) ∙ ap (λ (x : List Lexeme). flat_map element_lexemes es ++ x) (append-nil (element_lexemes e))

items_more : (is : List WrittenItem) (i : WrittenItem) → lexemes (push is i) ≡ lexemes is ++ item_lexemes i
items_more is i = flat_map-append item_lexemes is (i ∷ []) ∙ ap (λ (x : List Lexeme). lexemes is ++ x) (append-nil (item_lexemes i))

signed_more : (s : Sign) (cs : List WrittenCategory) (c : WrittenCategory) → signed s (push cs c) ≡ signed s cs ++ (lexeme.Sign s ∷ named c)
signed_more s cs c = flat_map-append (λ c. lexeme.Sign s ∷ named c) cs (c ∷ [])
    ∙ ap (λ (x : List Lexeme). signed s cs ++ x) (append-nil (lexeme.Sign s ∷ named c))

adds_variable : (s : Spot) (b : Builder) (w : List ℕ)
    → IfSome (after_variable s) (λ v. so_far_at v (variable_at s b w) ≡ push (so_far_at s b) (lexeme.Variable w))
adds_variable (spot.Category part.Term r) b w = simp append_assoc
adds_variable (spot.Category part.Taken r) b w = simp append_assoc
adds_variable spot.PositionName b w = rw (body_more b.rule.body) (simp append_assoc)
adds_variable s b w = tt

if_some_guard : {A : Type 0} (t : Bool) (v : A) (P : A → Type 0) → (t ≡ true → P v) → IfSome (cond t (Some v) None) P
if_some_guard true v P h = h refl
if_some_guard false v P h = tt

keyword_is : (w : List ℕ) → (same_bytes w (codes "word") || same_bytes w (codes "position")) ≡ true → values_word (same_bytes w (codes "position")) ≡ w
keyword_is w h = elim (or_cases (same_bytes w (codes "word")) (same_bytes w (codes "position")) h) [
  | inl e ↦ subst (λ (v : List ℕ). values_word (same_bytes v (codes "position")) ≡ v) (sym (same_is w (codes "word") e)) refl
  | inr e ↦ ap values_word e ∙ sym (same_is w (codes "position") e)
]

adds_keyword : (s : Spot) (b : Builder) (w : List ℕ)
    → IfSome (after_keyword s w) (λ v. so_far_at v (with_keyword b w) ≡ push (so_far_at s b) (lexeme.Keyword w))
adds_keyword spot.Items b w = if_some_guard (same_bytes w (codes "feature")) spot.FeatureName
    (λ v. so_far_at v (with_keyword b w) ≡ push (so_far_at spot.Items b) (lexeme.Keyword w))
    (λ e. ap (λ (v : List ℕ). push (lexemes b.items) (lexeme.Keyword v)) (sym (same_is w (codes "feature") e)))
adds_keyword spot.FeatureValue b w = if_some_guard (same_bytes w (codes "word") || same_bytes w (codes "position")) spot.FeatureEnd
    (λ v. so_far_at v (with_keyword b w) ≡ push (so_far_at spot.FeatureValue b) (lexeme.Keyword w))
    (λ e. ap (λ (v : List ℕ). push (so_far_at spot.FeatureValue b) (lexeme.Keyword v)) (keyword_is w e))
adds_keyword _ b w = tt

adds_label : (s : Spot) (b : Builder) (w : List ℕ) → IfSome (after_label s) (λ v. so_far_at v (with_label b w) ≡ push (so_far_at s b) (lexeme.Label w))
adds_label spot.LabelName b w = refl
adds_label _ b w = tt

adds_kind : (s : Spot) (b : Builder) (w : List ℕ) → IfSome (after_kind s) (λ v. so_far_at v (with_kind b w) ≡ push (so_far_at s b) (lexeme.Kind w))
adds_kind (spot.Category part.Name role.Preterminal) b w = simp (append_assoc, append-nil)
adds_kind _ b w = tt

adds_terminal : (s : Spot) (b : Builder) (w : List ℕ)
    → IfSome (after_terminal s) (λ v. so_far_at v (with_terminal b w) ≡ push (so_far_at s b) (lexeme.Terminal w))
adds_terminal spot.Body b w = rw (body_more b.rule.body) (simp append_assoc)
adds_terminal _ b w = tt

listed_atoms : (all : List (List ℕ)) (a : List ℕ) → listed (map (λ a. lexeme.Identifier a ∷ []) (push all a)) ≡ atoms_open all ++ (lexeme.Identifier a ∷ [])
listed_atoms [] a = refl
listed_atoms (x ∷ []) a = refl
listed_atoms (x ∷ y ∷ ys) a = ap (λ (t : List Lexeme). lexeme.Identifier x ∷ lexeme.Sign sign.Comma ∷ t) (listed_atoms (y ∷ ys) a)

atoms_more : (all : List (List ℕ)) (a : List ℕ) → atoms_open (push all a) ≡ atoms_open all ++ (lexeme.Identifier a ∷ lexeme.Sign sign.Comma ∷ [])
atoms_more all a = flat_map-append (λ a. lexeme.Identifier a ∷ lexeme.Sign sign.Comma ∷ []) all (a ∷ [])

comma_step : (y f x : List Lexeme) → y ++ lexeme.Sign sign.Comma ∷ (f ++ x) ≡ ((y ++ lexeme.Sign sign.Comma ∷ []) ++ f) ++ x
comma_step y f x = simp append_assoc

listed_feats : (fs : List WrittenFeat) (f : WrittenFeat)
    → listed (map feat_lexemes (push fs f)) ≡ flat_map (λ f. push (feat_lexemes f) (lexeme.Sign sign.Comma)) fs ++ feat_lexemes f
listed_feats [] f = refl
listed_feats (g ∷ []) f = simp (append_assoc, append-nil)
listed_feats (g ∷ h ∷ hs) f = ap (λ (t : List Lexeme). feat_lexemes g ++ lexeme.Sign sign.Comma ∷ t) (listed_feats (h ∷ hs) f)
    ∙ comma_step (feat_lexemes g) (flat_map (λ f. push (feat_lexemes f) (lexeme.Sign sign.Comma)) (h ∷ hs)) (feat_lexemes f)

opened_more : (name : Lexeme) (fs : List WrittenFeat) (f : WrittenFeat)
    → opened name (push fs f) ≡ opened name fs ++ push (feat_lexemes f) (lexeme.Sign sign.Comma)
opened_more name fs f = ap (λ (t : List Lexeme). name ∷ lexeme.Sign sign.OpenParen ∷ t)
    (flat_map-append (λ f. push (feat_lexemes f) (lexeme.Sign sign.Comma)) fs (f ∷ [])
    ∙ ap (λ (t : List Lexeme). flat_map (λ f. push (feat_lexemes f) (lexeme.Sign sign.Comma)) fs ++ t)
    (append-nil (push (feat_lexemes f) (lexeme.Sign sign.Comma))))

category_is : (name : Lexeme) (fs : List WrittenFeat) (f : WrittenFeat)
    → category_lexemes name (push fs f) ≡ name ∷ lexeme.Sign sign.OpenParen ∷ listed (map feat_lexemes (push fs f)) ++ lexeme.Sign sign.CloseParen ∷ []
category_is name [] f = refl
category_is name (g ∷ gs) f = refl

category_more : (name : Lexeme) (fs : List WrittenFeat) (f : WrittenFeat)
    → category_lexemes name (push fs f) ≡ push (opened name fs ++ feat_lexemes f) (lexeme.Sign sign.CloseParen)
category_more name fs f = category_is name fs f
    ∙ ap (λ (t : List Lexeme). name ∷ lexeme.Sign sign.OpenParen ∷ t ++ lexeme.Sign sign.CloseParen ∷ []) (listed_feats fs f)

values_end : (p : Bool) (b : Builder) → so_far_at spot.Items (with_declaration b (values_domain p))
    ≡ push (push (value_front b.items b.declaration.name) (lexeme.Keyword (values_word p))) (lexeme.Sign sign.Stop)
values_end true b = rw (items_more b.items) (simp append_assoc)
values_end false b = rw (items_more b.items) (simp append_assoc)

atoms_end : (b : Builder) → so_far_at spot.Items (with_declaration b (domain.Atoms (push b.declaration.atoms b.declaration.atom)))
    ≡ push (push (value_front b.items b.declaration.name ++ atoms_open b.declaration.atoms) (lexeme.Identifier b.declaration.atom)) (lexeme.Sign sign.Stop)
atoms_end b = rw (items_more b.items, listed_atoms b.declaration.atoms b.declaration.atom) (simp append_assoc)

adds_sign : (s : Spot) (b : Builder) (x : Sign) → IfSome (after_sign s x) (λ v. so_far_at v (sign_at s b x) ≡ push (so_far_at s b) (lexeme.Sign x))
adds_sign spot.Items b sign.OpenBrace = refl
adds_sign spot.Items b _ = tt
adds_sign spot.LabelName b x = tt
adds_sign spot.LabelEnd b sign.CloseBrace = simp append_assoc
adds_sign spot.LabelEnd b _ = tt
adds_sign spot.RuleHead b x = tt
adds_sign spot.FeatureName b x = tt
adds_sign spot.FeatureColon b sign.Colon = refl
adds_sign spot.FeatureColon b _ = tt
adds_sign spot.FeatureValue b x = tt
adds_sign spot.AtomNext b sign.Comma = rw (atoms_more b.declaration.atoms b.declaration.atom) (simp append_assoc)
adds_sign spot.AtomNext b sign.Stop = atoms_end b
adds_sign spot.AtomNext b _ = tt
adds_sign spot.AtomName b x = tt
adds_sign spot.FeatureEnd b sign.Stop = values_end b.declaration.positions b
adds_sign spot.FeatureEnd b _ = tt
adds_sign (spot.Category part.Name r) b x = tt
adds_sign (spot.Category part.Named r) b sign.OpenParen = simp append_assoc
adds_sign (spot.Category part.Named r) b _ = tt
adds_sign (spot.Category part.Feature r) b x = tt
adds_sign (spot.Category part.Colon r) b sign.Colon = simp append_assoc
adds_sign (spot.Category part.Colon r) b _ = tt
adds_sign (spot.Category part.Term role.Positive) b sign.Question = simp append_assoc
adds_sign (spot.Category part.Term _) b sign.Question = tt
adds_sign (spot.Category part.Term r) b _ = tt
adds_sign (spot.Category part.Taken r) b x = tt
adds_sign (spot.Category part.Next r) b sign.Comma = rw (opened_more (name_lexeme r b.category.name) b.category.feats) (simp append_assoc)
adds_sign (spot.Category part.Next r) b sign.CloseParen = rw (category_more (name_lexeme r b.category.name) b.category.feats) (simp append_assoc)
adds_sign (spot.Category part.Next r) b _ = tt
adds_sign (spot.Category part.Whole r) b x = tt
adds_sign spot.Arrow b sign.Normal = simp append-nil
adds_sign spot.Arrow b sign.Closing = simp append-nil
adds_sign spot.Arrow b _ = tt
adds_sign spot.Body b sign.Stop = rw (items_more b.items) (simp append_assoc)
adds_sign spot.Body b sign.Dollar = simp append-nil
adds_sign spot.Body b sign.Hash = refl
adds_sign spot.Body b sign.Scope = rw (body_more b.rule.body) (simp append_assoc)
adds_sign spot.Body b sign.Weak = simp append-nil
adds_sign spot.Body b sign.Strong = simp append-nil
adds_sign spot.Body b sign.Back = refl
adds_sign spot.Body b sign.NoBack = refl
adds_sign spot.Body b _ = tt
adds_sign spot.PositionName b x = tt
adds_sign spot.BackPattern b sign.Plus = simp append-nil
adds_sign spot.BackPattern b _ = tt
adds_sign spot.Positives b sign.Plus = simp append-nil
adds_sign spot.Positives b sign.Minus = simp append-nil
adds_sign spot.Positives b _ = tt
adds_sign spot.Negatives b sign.Minus = simp append-nil
adds_sign spot.Negatives b _ = tt
adds_sign spot.AbsentPattern b sign.Plus = simp append-nil
adds_sign spot.AbsentPattern b _ = tt
adds_sign spot.Absents b sign.Plus = simp append-nil
adds_sign spot.Absents b _ = tt

-- What becomes whole adds nothing.

settles : (r : Role) (b : Builder) (feats : List WrittenFeat)
    → so_far_at (after_category r) (settle_into b r feats) ≡ role_front r b.items b.rule ++ category_lexemes (name_lexeme r b.category.name) feats
settles role.Head b feats = refl
settles role.Positive b feats = rw (signed_more sign.Plus b.rule.positives) (simp append_assoc)
settles role.Negative b feats = rw (signed_more sign.Minus b.rule.negatives) (simp append_assoc)
settles role.Absent b feats = rw (signed_more sign.Plus b.rule.positives) (simp append_assoc)
settles r b feats = rw (body_more b.rule.body) (simp append_assoc)

settled_adds : (s : Spot) (b : Builder) → b.spot ≡ s → so_far (settle_at s b) ≡ so_far b
settled_adds (spot.Category part.Named r) b e = settles r b [] ∙ sym (ap (λ (t : Spot). so_far_at t b) e)
settled_adds (spot.Category part.Whole r) b e = settles r b b.category.feats ∙ sym (ap (λ (t : Spot). so_far_at t b) e)
settled_adds _ b e = refl

closed_adds : (s : Spot) (b : Builder) → b.spot ≡ s → so_far (close_at s b) ≡ so_far b
closed_adds spot.Positives b e = rw (body_more b.rule.body (element.Back b.rule.positives [])) (simp (append_assoc, append-nil))
    ∙ sym (ap (λ (t : Spot). so_far_at t b) e)
closed_adds spot.Negatives b e = rw (body_more b.rule.body (element.Back b.rule.positives b.rule.negatives)) (simp append_assoc)
    ∙ sym (ap (λ (t : Spot). so_far_at t b) e)
closed_adds spot.Absents b e = rw (body_more b.rule.body (element.NoBack b.rule.positives)) (simp append_assoc) ∙ sym (ap (λ (t : Spot). so_far_at t b) e)
closed_adds _ b e = refl

choice_adds : (t : Bool) (x y b : Builder) → so_far x ≡ so_far b → so_far y ≡ so_far b → so_far (cond t x y) ≡ so_far b
choice_adds true x y b p q = p
choice_adds false x y b p q = q

pub ready_adds : (b : Builder) (x : Lexeme) → so_far (ready b x) ≡ so_far b
ready_adds b x =
    let first = choice_adds (opens_features b.spot x) b (settled_builder b) b refl (settled_adds b.spot b refl) in
    let whole = cond (opens_features b.spot x) b (settled_builder b) in
    choice_adds (begins_pattern x) whole (closed_builder whole) b first (closed_adds whole.spot whole refl ∙ first)

adds_lexeme : (b : Builder) (x : Lexeme) → IfSome (advance b.spot x) (λ v. so_far_at v (with_lexeme b x) ≡ push (so_far b) x)
adds_lexeme b (lexeme.Identifier w) = adds_identifier b.spot b w
adds_lexeme b (lexeme.Variable w) = adds_variable b.spot b w
adds_lexeme b (lexeme.Keyword w) = adds_keyword b.spot b w
adds_lexeme b (lexeme.Label w) = adds_label b.spot b w
adds_lexeme b (lexeme.Kind w) = adds_kind b.spot b w
adds_lexeme b (lexeme.Terminal w) = adds_terminal b.spot b w
adds_lexeme b (lexeme.Sign s) = adds_sign b.spot b s

moved_same : (v t : Spot) (b : Builder) → so_far_at v (moved b t) ≡ so_far_at v b
moved_same spot.Items t b = refl
moved_same v t b = refl

taken_adds : (o : Option Spot) (b c : Builder) (x : Lexeme) → IfSome o (λ v. so_far_at v c ≡ push (so_far b) x) → (d : Builder)
    → option_map (moved c) o ≡ Some d → so_far d ≡ push (so_far b) x
taken_adds None b c x h d e = absurd cc
taken_adds (Some v) b c x h d e =
    let is : moved c v ≡ d = cc in
    subst (λ (t : Builder). so_far t ≡ push (so_far b) x) is (moved_same v v c ∙ h)

-- a symbol that is taken stands at the end
pub grow_adds : (b : Builder) (x : Lexeme) (d : Builder) → grow b x ≡ Some d → so_far d ≡ push (so_far b) x
grow_adds b x d e =
    let c = ready b x in
    taken_adds (advance c.spot x) c (with_lexeme c x) x (adds_lexeme c x) d e ∙ ap (λ (t : List Lexeme). push t x) (ready_adds b x)
