-- What was read, as symbols.
use Rattle.std.specs.Prelude.{◌≡◌, ℕ, Bool, true, false, ◌&&◌, List, [], ◌∷◌, ◌++◌, flat_map, codes, if◌then◌else◌}
use Rattle.codeco_text.specs.declared.symbols.Sign.TheVariants as sign
use Rattle.codeco_text.specs.declared.symbols.Lexeme.{Lexeme}
use Rattle.codeco_text.specs.declared.symbols.Lexeme.TheVariants as lexeme
use Rattle.codeco_text.specs.declared.spot.Role.{Role}
use Rattle.codeco_text.specs.declared.spot.Role.TheVariants as role
use Rattle.codeco_text.specs.declared.spot.Part.{Part}
use Rattle.codeco_text.specs.declared.spot.Part.TheVariants as part
use Rattle.codeco_text.specs.declared.spot.Spot.{Spot}
use Rattle.codeco_text.specs.declared.spot.Spot.TheVariants as spot
use Rattle.codeco_text.specs.declared.written.WrittenTerm.TheVariants as term
use Rattle.codeco_text.specs.declared.written.WrittenFeat.{WrittenFeat}
use Rattle.codeco_text.specs.declared.written.WrittenItem.{WrittenItem}
use Rattle.codeco_text.specs.declared.builder.OpenCategory.{OpenCategory}
use Rattle.codeco_text.specs.declared.builder.OpenRule.{OpenRule}
use Rattle.codeco_text.specs.declared.builder.Builder.{Builder}
use Rattle.codeco_text.specs.Notation.{lexemes, label_lexemes, named, arrow, body_lexemes, signed, feat_lexemes, category_lexemes}
use Rattle.codeco_text.specs.Building.{push}

-- `name ( f: t, ..,`
abbrev pub opened : Lexeme → List WrittenFeat → List Lexeme
opened name feats = name ∷ lexeme.Sign sign.OpenParen ∷ flat_map (λ f. push (feat_lexemes f) (lexeme.Sign sign.Comma)) feats

abbrev pub name_lexeme : Role → List ℕ → Lexeme
name_lexeme role.Preterminal w = lexeme.Kind w
name_lexeme _ w = lexeme.Identifier w

abbrev pub part_lexemes : Part → Role → OpenCategory → List Lexeme
part_lexemes part.Name r c = []
part_lexemes part.Named r c = name_lexeme r c.name ∷ []
part_lexemes part.Feature r c = opened (name_lexeme r c.name) c.feats
part_lexemes part.Colon r c = push (opened (name_lexeme r c.name) c.feats) (lexeme.Identifier c.feature)
part_lexemes part.Term r c = push (push (opened (name_lexeme r c.name) c.feats) (lexeme.Identifier c.feature)) (lexeme.Sign sign.Colon)
part_lexemes part.Taken r c = push (push (push (opened (name_lexeme r c.name) c.feats) (lexeme.Identifier c.feature)) (lexeme.Sign sign.Colon))
    (lexeme.Sign sign.Question)
part_lexemes part.Next r c = opened (name_lexeme r c.name) c.feats ++ feat_lexemes (record { name = c.feature; term = c.term })
part_lexemes part.Whole r c = category_lexemes (name_lexeme r c.name) c.feats

abbrev pub atoms_open : List (List ℕ) → List Lexeme
atoms_open atoms = flat_map (λ a. lexeme.Identifier a ∷ lexeme.Sign sign.Comma ∷ []) atoms

abbrev pub declaration_front : List WrittenItem → List Lexeme
declaration_front items = push (lexemes items) (lexeme.Keyword (codes "feature"))

abbrev pub value_front : List WrittenItem → List ℕ → List Lexeme
value_front items name = push (push (declaration_front items) (lexeme.Identifier name)) (lexeme.Sign sign.Colon)

abbrev pub values_word : Bool → List ℕ
values_word true = codes "position"
values_word false = codes "word"

abbrev pub head_front : List WrittenItem → OpenRule → List Lexeme
head_front items r = lexemes items ++ label_lexemes r.label

abbrev pub arrow_front : List WrittenItem → OpenRule → List Lexeme
arrow_front items r = head_front items r ++ named r.head

abbrev pub body_front : List WrittenItem → OpenRule → List Lexeme
body_front items r = push (arrow_front items r) (arrow r.closing) ++ body_lexemes r.body

abbrev pub back_front : List WrittenItem → OpenRule → List Lexeme
back_front items r = push (body_front items r) (lexeme.Sign sign.Back) ++ signed sign.Plus r.positives

abbrev pub negative_front : List WrittenItem → OpenRule → List Lexeme
negative_front items r = back_front items r ++ signed sign.Minus r.negatives

abbrev pub absent_front : List WrittenItem → OpenRule → List Lexeme
absent_front items r = push (body_front items r) (lexeme.Sign sign.NoBack) ++ signed sign.Plus r.positives

abbrev pub role_front : Role → List WrittenItem → OpenRule → List Lexeme
role_front role.Head items r = head_front items r
role_front role.Preterminal items r = push (body_front items r) (lexeme.Sign sign.Dollar)
role_front role.Sub items r = body_front items r
role_front role.Forward items r = push (body_front items r) (lexeme.Sign sign.Weak)
role_front role.Strong items r = push (body_front items r) (lexeme.Sign sign.Strong)
role_front role.Positive items r = push (back_front items r) (lexeme.Sign sign.Plus)
role_front role.Negative items r = push (negative_front items r) (lexeme.Sign sign.Minus)
role_front role.Absent items r = push (absent_front items r) (lexeme.Sign sign.Plus)

abbrev pub so_far_at : Spot → Builder → List Lexeme
so_far_at spot.Items b = lexemes b.items
so_far_at spot.LabelName b = push (lexemes b.items) (lexeme.Sign sign.OpenBrace)
so_far_at spot.LabelEnd b = push (push (lexemes b.items) (lexeme.Sign sign.OpenBrace)) (lexeme.Label b.rule.pending)
so_far_at spot.RuleHead b = head_front b.items b.rule
so_far_at spot.FeatureName b = declaration_front b.items
so_far_at spot.FeatureColon b = push (declaration_front b.items) (lexeme.Identifier b.declaration.name)
so_far_at spot.FeatureValue b = value_front b.items b.declaration.name
so_far_at spot.AtomNext b = push (value_front b.items b.declaration.name ++ atoms_open b.declaration.atoms) (lexeme.Identifier b.declaration.atom)
so_far_at spot.AtomName b = value_front b.items b.declaration.name ++ atoms_open b.declaration.atoms
so_far_at spot.FeatureEnd b = push (value_front b.items b.declaration.name) (lexeme.Keyword (values_word b.declaration.positions))
so_far_at (spot.Category p r) b = role_front r b.items b.rule ++ part_lexemes p r b.category
so_far_at spot.Arrow b = arrow_front b.items b.rule
so_far_at spot.Body b = body_front b.items b.rule
so_far_at spot.PositionName b = push (body_front b.items b.rule) (lexeme.Sign sign.Hash)
so_far_at spot.BackPattern b = push (body_front b.items b.rule) (lexeme.Sign sign.Back)
so_far_at spot.Positives b = back_front b.items b.rule
so_far_at spot.Negatives b = negative_front b.items b.rule
so_far_at spot.AbsentPattern b = push (body_front b.items b.rule) (lexeme.Sign sign.NoBack)
so_far_at spot.Absents b = absent_front b.items b.rule

-- the symbols that were read
abbrev pub so_far : Builder → List Lexeme
so_far b = so_far_at b.spot b
