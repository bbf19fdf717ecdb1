-- What a reading takes is spelled by the text.
use Rattle.std.proofs.Common.{◌≡◌, ℕ, Bool, true, false, cond, ◌&&◌, ◌||◌, ◌⊎◌, List, [], ◌∷◌, ◌++◌, Option, Some, None, refl, sym, ap, ◌∙◌, inl, inr}
use Rattle.std.specs.Prelude.{codes}
use Rattle.std.specs.Option.{option_map}
use Rattle.std.proofs.lemmas.Bool.{cases_Bool}
use Rattle.codeco_text.specs.declared.symbols.Sign.TheVariants as sign
use Rattle.codeco_text.specs.declared.symbols.Lexeme.{Lexeme}
use Rattle.codeco_text.specs.declared.symbols.Lexeme.TheVariants as lexeme
use Rattle.codeco_text.specs.declared.spot.Part.TheVariants as part
use Rattle.codeco_text.specs.declared.spot.Spot.{Spot}
use Rattle.codeco_text.specs.declared.spot.Spot.TheVariants as spot
use Rattle.codeco_text.specs.declared.spot.Wanted.{Wanted}
use Rattle.codeco_text.specs.declared.spot.Wanted.TheVariants as wanted
use Rattle.codeco_text.specs.declared.builder.Builder.{Builder}
use Rattle.codeco_text.specs.Names.{same_bytes, is_among, is_word_byte, is_identifier, is_variable, keywords}
use Rattle.codeco_text.specs.Notation.{labels, kinds, lexeme_bytes, is_symbol, goes_on}
use Rattle.codeco_text.specs.Reading.{◌>>=◌, as_word, identifier, advance, is_sign, begins_pattern, settled, closed, ready_spot, next_spot}
use Rattle.codeco_text.specs.Building.{settle_at, settled_builder, close_at, is_named, ready, moved, with_lexeme, grow}
use Rattle.codeco_text.specs.Scanning.{Mode, between, word, guard, behind}

pub bind_some : {A B : Type 0} (o : Option A) (f : A → Option B) (y : B) → (o >>= f) ≡ Some y → (x : A) × (o ≡ Some x) × (f x ≡ Some y)
bind_some None f y e = absurd cc
bind_some (Some x) f y e = (x, refl, e)

pub guard_some : {A : Type 0} (t : Bool) (x y : A) → guard t x ≡ Some y → (t ≡ true) × (x ≡ y)
guard_some true x y e = (refl, cc)
guard_some false x y e = absurd cc

pub behind_some : (o : Option Builder) (s : Builder × Mode) → behind o ≡ Some s → (d : Builder) × (o ≡ Some d) × ((d, between) ≡ s)
behind_some None s e = absurd cc
behind_some (Some d) s e = (d, refl, cc)

pub chosen : {A : Type 0} (t : Bool) (x y z : A) → cond t x y ≡ z → ((t ≡ true) × (x ≡ z)) ⊎ ((t ≡ false) × (y ≡ z))
chosen true x y z e = inl (refl, e)
chosen false x y z e = inr (refl, e)

-- The stand of what takes a symbol

settled_is : (s : Spot) (b : Builder) (o : Bool) → b.spot ≡ s → (cond (is_named s && o) b (settle_at s b)).spot ≡ settled s o
settled_is (spot.Category part.Named r) b false e = refl
settled_is (spot.Category part.Whole r) b o e = refl
settled_is s b o e = e

same_either : (p : Bool) (b : Builder) (s : Spot) → b.spot ≡ s → (cond p b b).spot ≡ s
same_either true b s e = e
same_either false b s e = e

closed_is : (s : Spot) (b : Builder) (p : Bool) → b.spot ≡ s → (cond p b (close_at s b)).spot ≡ closed s p
closed_is spot.Positives b true e = e
closed_is spot.Positives b false e = refl
closed_is spot.Negatives b true e = e
closed_is spot.Negatives b false e = refl
closed_is spot.Absents b true e = e
closed_is spot.Absents b false e = refl
closed_is (spot.Category p r) b o e = same_either o b (spot.Category p r) e
closed_is spot.Items b o e = same_either o b spot.Items e
closed_is spot.LabelName b o e = same_either o b spot.LabelName e
closed_is spot.LabelEnd b o e = same_either o b spot.LabelEnd e
closed_is spot.RuleHead b o e = same_either o b spot.RuleHead e
closed_is spot.FeatureName b o e = same_either o b spot.FeatureName e
closed_is spot.FeatureColon b o e = same_either o b spot.FeatureColon e
closed_is spot.FeatureValue b o e = same_either o b spot.FeatureValue e
closed_is spot.AtomNext b o e = same_either o b spot.AtomNext e
closed_is spot.AtomName b o e = same_either o b spot.AtomName e
closed_is spot.FeatureEnd b o e = same_either o b spot.FeatureEnd e
closed_is spot.Arrow b o e = same_either o b spot.Arrow e
closed_is spot.Body b o e = same_either o b spot.Body e
closed_is spot.PositionName b o e = same_either o b spot.PositionName e
closed_is spot.BackPattern b o e = same_either o b spot.BackPattern e
closed_is spot.AbsentPattern b o e = same_either o b spot.AbsentPattern e

pub ready_is : (b : Builder) (x : Lexeme) → (ready b x).spot ≡ ready_spot b.spot x
ready_is b x =
    let whole = cond (is_named b.spot && is_sign sign.OpenParen x) b (settled_builder b) in
    let first : whole.spot ≡ settled b.spot (is_sign sign.OpenParen x) = settled_is b.spot b (is_sign sign.OpenParen x) refl in
    closed_is whole.spot whole (begins_pattern x) refl ∙ ap (λ (s : Spot). closed s (begins_pattern x)) first

moved_spot : (o : Option Spot) (b d : Builder) → option_map (moved b) o ≡ Some d → o ≡ Some d.spot
moved_spot None b d e = absurd cc
moved_spot (Some v) b d e =
    let is : moved b v ≡ d = cc in
    ap (λ (t : Builder). Some t.spot) is

-- a symbol that is taken leads to the next stand
pub grow_spot : (b : Builder) (x : Lexeme) (d : Builder) → grow b x ≡ Some d → next_spot b.spot x ≡ Some d.spot
grow_spot b x d e =
    let c = ready b x in
    ap (λ (s : Spot). advance s x) (sym (ready_is b x)) ∙ moved_spot (advance c.spot x) (with_lexeme c x) d e

option_grows : (o : Option Spot) (b : Builder) (t : Spot) → o ≡ Some t → (d : Builder) × (option_map (moved b) o ≡ Some d) × (d.spot ≡ t)
option_grows None b t e = absurd cc
option_grows (Some v) b t e = (moved b v, refl, cc)

-- and one that may stand here is taken
pub spot_grow : (b : Builder) (x : Lexeme) (t : Spot) → next_spot b.spot x ≡ Some t → (d : Builder) × (grow b x ≡ Some d) × (d.spot ≡ t)
spot_grow b x t e =
    let c = ready b x in
    option_grows (advance c.spot x) (with_lexeme c x) t (ap (λ (s : Spot). advance s x) (ready_is b x) ∙ e)

-- Words

identifier_some : (w : List ℕ) (x : Lexeme) → identifier w ≡ Some x → (lexeme_bytes x ≡ w) × (is_symbol x ≡ true)
identifier_some w x e =
    let g = guard_some (is_identifier w) (lexeme.Identifier w) x e in
    (ap lexeme_bytes (sym g.1), ap is_symbol (sym g.1) ∙ g.0)

feature_among : (w : List ℕ) → same_bytes w (codes "feature") ≡ true → is_among keywords w ≡ true
feature_among w h = rw h refl

value_among : (w : List ℕ) → (same_bytes w (codes "word") || same_bytes w (codes "position")) ≡ true → is_among keywords w ≡ true
value_among w h = elim (cases_Bool (same_bytes w (codes "feature"))) [
  | inl e ↦ rw e refl
  | inr e ↦ rw e (elim (cases_Bool (same_bytes w (codes "word"))) [
    | inl f ↦ rw f refl
    | inr f ↦ let last : same_bytes w (codes "position") ≡ true = rw f at h in rw (f, last) refl
  ])
]

keyword_some : (t : Bool) (w : List ℕ) (x : Lexeme) → (t ≡ true → is_among keywords w ≡ true) → cond t (Some (lexeme.Keyword w)) (identifier w) ≡ Some x
    → (lexeme_bytes x ≡ w) × (is_symbol x ≡ true)
keyword_some true w x h e =
    let is : lexeme.Keyword w ≡ x = cc in
    (ap lexeme_bytes (sym is), ap is_symbol (sym is) ∙ h refl)
keyword_some false w x h e = identifier_some w x e

variable_some : (t : Bool) (w : List ℕ) (x : Lexeme) → (t ≡ true → is_variable w ≡ true) → cond t (Some (lexeme.Variable w)) (identifier w) ≡ Some x
    → (lexeme_bytes x ≡ w) × (is_symbol x ≡ true)
variable_some true w x h e =
    let is : lexeme.Variable w ≡ x = cc in
    (ap lexeme_bytes (sym is), ap is_symbol (sym is) ∙ h refl)
variable_some false w x h e = identifier_some w x e

guarded_some : (t : Bool) (w : List ℕ) (y x : Lexeme) → lexeme_bytes y ≡ w → is_symbol y ≡ t → guard t y ≡ Some x → (lexeme_bytes x ≡ w) × (is_symbol x ≡ true)
guarded_some t w y x bytes symbol e =
    let g = guard_some t y x e in
    (ap lexeme_bytes (sym g.1) ∙ bytes, ap is_symbol (sym g.1) ∙ symbol ∙ g.0)

-- a word that is found has its bytes, and is a symbol
pub word_some : (k : Wanted) (w : List ℕ) (x : Lexeme) → as_word k w ≡ Some x → (lexeme_bytes x ≡ w) × (is_symbol x ≡ true)
word_some wanted.Nothing w x e = absurd cc
word_some wanted.Item w x e = keyword_some (same_bytes w (codes "feature")) w x (feature_among w) e
word_some wanted.Identifier w x e = identifier_some w x e
word_some wanted.Value w x e = keyword_some (same_bytes w (codes "word") || same_bytes w (codes "position")) w x (value_among w) e
word_some wanted.Label w x e = guarded_some (is_among labels w) w (lexeme.Label w) x refl refl e
word_some wanted.Kind w x e = guarded_some (is_among kinds w) w (lexeme.Kind w) x refl refl e
word_some wanted.Variable w x e = guarded_some (is_variable w) w (lexeme.Variable w) x refl refl e
word_some wanted.Term w x e = variable_some (is_variable w) w x (λ h. h) e

-- a word, which goes on with bytes of words alone
abbrev pub is_word : Lexeme → Bool
is_word (lexeme.Terminal t) = false
is_word (lexeme.Sign s) = false
is_word _ = true

identifier_word : (w : List ℕ) (x : Lexeme) → identifier w ≡ Some x → is_word x ≡ true
identifier_word w x e = ap is_word (sym (guard_some (is_identifier w) (lexeme.Identifier w) x e).1)

either_word : (t : Bool) (w : List ℕ) (y x : Lexeme) → is_word y ≡ true → cond t (Some y) (identifier w) ≡ Some x → is_word x ≡ true
either_word true w y x h e =
    let is : y ≡ x = cc in
    ap is_word (sym is) ∙ h
either_word false w y x h e = identifier_word w x e

pub word_is : (k : Wanted) (w : List ℕ) (x : Lexeme) → as_word k w ≡ Some x → is_word x ≡ true
word_is wanted.Nothing w x e = absurd cc
word_is wanted.Item w x e = either_word (same_bytes w (codes "feature")) w (lexeme.Keyword w) x refl e
word_is wanted.Identifier w x e = identifier_word w x e
word_is wanted.Value w x e = either_word (same_bytes w (codes "word") || same_bytes w (codes "position")) w (lexeme.Keyword w) x refl e
word_is wanted.Label w x e = ap is_word (sym (guard_some (is_among labels w) (lexeme.Label w) x e).1)
word_is wanted.Kind w x e = ap is_word (sym (guard_some (is_among kinds w) (lexeme.Kind w) x e).1)
word_is wanted.Variable w x e = ap is_word (sym (guard_some (is_variable w) (lexeme.Variable w) x e).1)
word_is wanted.Term w x e = either_word (is_variable w) w (lexeme.Variable w) x refl e

pub word_stops : (x : Lexeme) (b : ℕ) (bs : List ℕ) → is_word x ≡ true → is_word_byte b ≡ false → goes_on x (b ∷ bs) ≡ false
word_stops (lexeme.Terminal t) b bs h n = absurd cc
word_stops (lexeme.Sign s) b bs h n = absurd cc
word_stops x b bs h n = n

pub ends_all : (x : Lexeme) → goes_on x [] ≡ false
ends_all (lexeme.Identifier w) = refl
ends_all (lexeme.Variable w) = refl
ends_all (lexeme.Keyword w) = refl
ends_all (lexeme.Label w) = refl
ends_all (lexeme.Kind w) = refl
ends_all (lexeme.Terminal t) = refl
ends_all (lexeme.Sign sign.Weak) = refl
ends_all (lexeme.Sign sign.Minus) = refl
ends_all (lexeme.Sign _) = refl
