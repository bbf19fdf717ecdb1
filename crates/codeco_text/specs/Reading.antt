-- Reading a text from left to right: where it stands, and what it has read. Only calls inside the crate speak of it.
use Rattle.std.specs.Prelude.{◌≡◌, ℕ, Bool, true, false, ◌&&◌, ◌||◌, ◌==◌, List, [], ◌∷◌, ◌++◌, codes, Option, Some, None, if◌then◌else◌, ◌+◌}
use Rattle.std.specs.List.{list_any}
use Rattle.codeco_text.specs.declared.symbols.Sign.{Sign}
use Rattle.codeco_text.specs.declared.symbols.Sign.TheVariants as sign
use Rattle.codeco_text.specs.declared.symbols.Lexeme.{Lexeme}
use Rattle.codeco_text.specs.declared.symbols.Lexeme.TheVariants as lexeme
use Rattle.codeco_text.specs.declared.spot.Role.{Role}
use Rattle.codeco_text.specs.declared.spot.Role.TheVariants as role
use Rattle.codeco_text.specs.declared.spot.Part.{Part}
use Rattle.codeco_text.specs.declared.spot.Part.TheVariants as part
use Rattle.codeco_text.specs.declared.spot.Spot.{Spot}
use Rattle.codeco_text.specs.declared.spot.Spot.TheVariants as spot
use Rattle.codeco_text.specs.declared.spot.Wanted.{Wanted}
use Rattle.codeco_text.specs.declared.spot.Wanted.TheVariants as wanted
use Rattle.codeco_text.specs.Names.{same_bytes, is_among, is_lower, is_upper, is_identifier, is_variable}
use Rattle.codeco_text.specs.Notation.{labels, kinds, has_front}

infixl 10 ◌>>=◌
abbrev pub ◌>>=◌ : {A B : Type 0} → Option A → (A → Option B) → Option B
None >>= f = None
(Some x) >>= f = f x

-- Words

abbrev pub name_wanted : Role → Wanted
name_wanted role.Preterminal = wanted.Kind
name_wanted _ = wanted.Identifier

-- behind a category whose phrase, or whose pattern, may be followed by another category
abbrev pub follower_wanted : Role → Wanted
follower_wanted role.Head = wanted.Nothing
follower_wanted _ = wanted.Identifier

abbrev pub part_wants : Part → Role → Wanted
part_wants part.Name r = name_wanted r
part_wants part.Named r = follower_wanted r
part_wants part.Feature r = wanted.Identifier
part_wants part.Colon r = wanted.Nothing
part_wants part.Term r = wanted.Term
part_wants part.Taken r = wanted.Variable
part_wants part.Next r = wanted.Nothing
part_wants part.Whole r = follower_wanted r

-- the words that may come next
abbrev pub wants : Spot → Wanted
wants spot.Items = wanted.Item
wants spot.LabelName = wanted.Label
wants spot.RuleHead = wanted.Identifier
wants spot.FeatureName = wanted.Identifier
wants spot.FeatureValue = wanted.Value
wants spot.AtomName = wanted.Identifier
wants (spot.Category p r) = part_wants p r
wants spot.Body = wanted.Identifier
wants spot.PositionName = wanted.Variable
wants spot.Positives = wanted.Identifier
wants spot.Negatives = wanted.Identifier
wants spot.Absents = wanted.Identifier
wants _ = wanted.Nothing

abbrev pub identifier : List ℕ → Option Lexeme
identifier w = if is_identifier w then Some (lexeme.Identifier w) else None

-- the symbol that a word is, among those that are wanted
abbrev pub as_word : Wanted → List ℕ → Option Lexeme
as_word wanted.Nothing w = None
as_word wanted.Item w = if same_bytes w (codes "feature") then Some (lexeme.Keyword w) else identifier w
as_word wanted.Identifier w = identifier w
as_word wanted.Value w = if same_bytes w (codes "word") || same_bytes w (codes "position") then Some (lexeme.Keyword w) else identifier w
as_word wanted.Label w = if is_among labels w then Some (lexeme.Label w) else None
as_word wanted.Kind w = if is_among kinds w then Some (lexeme.Kind w) else None
as_word wanted.Variable w = if is_variable w then Some (lexeme.Variable w) else None
as_word wanted.Term w = if is_variable w then Some (lexeme.Variable w) else identifier w

-- some of the texts begins so
abbrev pub is_front_among : List (List ℕ) → List ℕ → Bool
is_front_among texts word = list_any (λ t. has_front word t) texts

-- a wanted word may begin with the byte
abbrev pub may_begin : Wanted → ℕ → Bool
may_begin wanted.Nothing b = false
may_begin wanted.Item b = is_lower b
may_begin wanted.Identifier b = is_lower b
may_begin wanted.Value b = is_lower b
may_begin wanted.Label b = is_front_among labels (b ∷ [])
may_begin wanted.Kind b = is_front_among kinds (b ∷ [])
may_begin wanted.Variable b = is_upper b
may_begin wanted.Term b = is_upper b || is_lower b

-- with a further byte of words, a wanted word may still begin so
abbrev pub may_go_on : Wanted → List ℕ → Bool
may_go_on wanted.Label w = is_front_among labels w
may_go_on wanted.Kind w = is_front_among kinds w
may_go_on _ _ = true

-- Stands

abbrev pub after_category : Role → Spot
after_category role.Head = spot.Arrow
after_category role.Positive = spot.Positives
after_category role.Negative = spot.Negatives
after_category role.Absent = spot.Absents
after_category _ = spot.Body

abbrev pub after_part_identifier : Part → Role → Option Spot
after_part_identifier part.Name role.Preterminal = None
after_part_identifier part.Name r = Some (spot.Category part.Named r)
after_part_identifier part.Feature r = Some (spot.Category part.Colon r)
after_part_identifier part.Term r = Some (spot.Category part.Next r)
after_part_identifier _ r = None

abbrev pub after_identifier : Spot → Option Spot
after_identifier spot.Items = Some (spot.Category part.Named role.Head)
after_identifier spot.RuleHead = Some (spot.Category part.Named role.Head)
after_identifier spot.FeatureName = Some spot.FeatureColon
after_identifier spot.FeatureValue = Some spot.AtomNext
after_identifier spot.AtomName = Some spot.AtomNext
after_identifier (spot.Category p r) = after_part_identifier p r
after_identifier spot.Body = Some (spot.Category part.Named role.Sub)
after_identifier _ = None

abbrev pub after_part_variable : Part → Role → Option Spot
after_part_variable part.Term r = Some (spot.Category part.Next r)
after_part_variable part.Taken r = Some (spot.Category part.Next r)
after_part_variable _ r = None

abbrev pub after_variable : Spot → Option Spot
after_variable (spot.Category p r) = after_part_variable p r
after_variable spot.PositionName = Some spot.Body
after_variable _ = None

abbrev pub after_keyword : Spot → List ℕ → Option Spot
after_keyword spot.Items w = if same_bytes w (codes "feature") then Some spot.FeatureName else None
after_keyword spot.FeatureValue w = if same_bytes w (codes "word") || same_bytes w (codes "position") then Some spot.FeatureEnd else None
after_keyword _ w = None

abbrev pub after_label : Spot → Option Spot
after_label spot.LabelName = Some spot.LabelEnd
after_label _ = None

abbrev pub after_part_kind : Part → Role → Option Spot
after_part_kind part.Name role.Preterminal = Some (spot.Category part.Named role.Preterminal)
after_part_kind part.Name _ = None
after_part_kind _ r = None

abbrev pub after_kind : Spot → Option Spot
after_kind (spot.Category p r) = after_part_kind p r
after_kind _ = None

abbrev pub after_terminal : Spot → Option Spot
after_terminal spot.Body = Some spot.Body
after_terminal _ = None

abbrev pub question_after : Role → Option Spot
question_after role.Positive = Some (spot.Category part.Taken role.Positive)
question_after _ = None

abbrev pub part_sign : Part → Role → Sign → Option Spot
part_sign part.Named r sign.OpenParen = Some (spot.Category part.Feature r)
part_sign part.Named r _ = None
part_sign part.Colon r sign.Colon = Some (spot.Category part.Term r)
part_sign part.Colon r _ = None
part_sign part.Term r sign.Question = question_after r
part_sign part.Term r _ = None
part_sign part.Next r sign.Comma = Some (spot.Category part.Feature r)
part_sign part.Next r sign.CloseParen = Some (spot.Category part.Whole r)
part_sign part.Next r _ = None
part_sign _ r s = None

abbrev pub body_sign : Sign → Option Spot
body_sign sign.Stop = Some spot.Items
body_sign sign.Dollar = Some (spot.Category part.Name role.Preterminal)
body_sign sign.Hash = Some spot.PositionName
body_sign sign.Scope = Some spot.Body
body_sign sign.Weak = Some (spot.Category part.Name role.Forward)
body_sign sign.Strong = Some (spot.Category part.Name role.Strong)
body_sign sign.Back = Some spot.BackPattern
body_sign sign.NoBack = Some spot.AbsentPattern
body_sign _ = None

abbrev pub plus_after : Sign → Role → Option Spot
plus_after sign.Plus r = Some (spot.Category part.Name r)
plus_after _ r = None

abbrev pub item_sign : Spot → Sign → Option Spot
item_sign spot.Items sign.OpenBrace = Some spot.LabelName
item_sign spot.Items _ = None
item_sign spot.LabelEnd sign.CloseBrace = Some spot.RuleHead
item_sign spot.LabelEnd _ = None
item_sign spot.FeatureColon sign.Colon = Some spot.FeatureValue
item_sign spot.FeatureColon _ = None
item_sign spot.AtomNext sign.Comma = Some spot.AtomName
item_sign spot.AtomNext sign.Stop = Some spot.Items
item_sign spot.AtomNext _ = None
item_sign spot.FeatureEnd sign.Stop = Some spot.Items
item_sign spot.FeatureEnd _ = None
item_sign _ s = None

abbrev pub after_sign : Spot → Sign → Option Spot
after_sign (spot.Category p r) s = part_sign p r s
after_sign spot.Arrow sign.Normal = Some spot.Body
after_sign spot.Arrow sign.Closing = Some spot.Body
after_sign spot.Arrow _ = None
after_sign spot.Body s = body_sign s
after_sign spot.BackPattern s = plus_after s role.Positive
after_sign spot.Positives sign.Plus = Some (spot.Category part.Name role.Positive)
after_sign spot.Positives sign.Minus = Some (spot.Category part.Name role.Negative)
after_sign spot.Positives _ = None
after_sign spot.Negatives sign.Minus = Some (spot.Category part.Name role.Negative)
after_sign spot.Negatives _ = None
after_sign spot.AbsentPattern s = plus_after s role.Absent
after_sign spot.Absents s = plus_after s role.Absent
after_sign s x = item_sign s x

-- where a reading stands behind the symbol
abbrev pub advance : Spot → Lexeme → Option Spot
advance s (lexeme.Identifier w) = after_identifier s
advance s (lexeme.Variable w) = after_variable s
advance s (lexeme.Keyword w) = after_keyword s w
advance s (lexeme.Label w) = after_label s
advance s (lexeme.Kind w) = after_kind s
advance s (lexeme.Terminal t) = after_terminal s
advance s (lexeme.Sign x) = after_sign s x

abbrev pub is_sign : Sign → Lexeme → Bool
is_sign sign.OpenParen (lexeme.Sign sign.OpenParen) = true
is_sign sign.Plus (lexeme.Sign sign.Plus) = true
is_sign sign.Minus (lexeme.Sign sign.Minus) = true
is_sign _ _ = false

-- the category is whole, unless the symbol opens its features
abbrev pub settled : Spot → Bool → Spot
settled (spot.Category part.Named r) opens = if opens then spot.Category part.Named r else after_category r
settled (spot.Category part.Whole r) opens = after_category r
settled s opens = s

-- the reference is whole, unless the symbol begins a pattern of it
abbrev pub closed : Spot → Bool → Spot
closed spot.Positives pattern = if pattern then spot.Positives else spot.Body
closed spot.Negatives pattern = if pattern then spot.Negatives else spot.Body
closed spot.Absents pattern = if pattern then spot.Absents else spot.Body
closed s pattern = s

abbrev pub begins_pattern : Lexeme → Bool
begins_pattern x = is_sign sign.Plus x || is_sign sign.Minus x

-- where a reading stands when it takes the symbol
abbrev pub ready_spot : Spot → Lexeme → Spot
ready_spot s x = closed (settled s (is_sign sign.OpenParen x)) (begins_pattern x)

abbrev pub next_spot : Spot → Lexeme → Option Spot
next_spot s x = advance (ready_spot s x) x
