-- What a reading has of the declarations and rules, symbol by symbol. Only calls inside the crate speak of it.
use Rattle.std.specs.Prelude.{◌≡◌, ℕ, Bool, true, false, ◌&&◌, List, [], ◌∷◌, ◌++◌, codes, Option, Some, None, option_map, if◌then◌else◌, Result, Ok, Err}
use Rattle.codeco_text.specs.declared.symbols.Sign.{Sign}
use Rattle.codeco_text.specs.declared.symbols.Sign.TheVariants as sign
use Rattle.codeco_text.specs.declared.symbols.Lexeme.{Lexeme}
use Rattle.codeco_text.specs.declared.symbols.Lexeme.TheVariants as lexeme
use Rattle.codeco_text.specs.declared.spot.Role.{Role}
use Rattle.codeco_text.specs.declared.spot.Role.TheVariants as role
use Rattle.codeco_text.specs.declared.spot.Part.{Part}
use Rattle.codeco_text.specs.declared.spot.Part.TheVariants as part
use Rattle.codeco_text.specs.declared.spot.Spot.{Spot}
use Rattle.codeco_text.specs.declared.spot.Spot.TheVariants as spot
use Rattle.codeco_text.specs.declared.written.WrittenTerm.TheVariants as term
use Rattle.codeco_text.specs.declared.written.WrittenFeat.{WrittenFeat}
use Rattle.codeco_text.specs.declared.written.WrittenCategory.{WrittenCategory}
use Rattle.codeco_text.specs.declared.written.WrittenElement.{WrittenElement}
use Rattle.codeco_text.specs.declared.written.WrittenElement.TheVariants as element
use Rattle.codeco_text.specs.declared.written.Domain.{Domain}
use Rattle.codeco_text.specs.declared.written.Domain.TheVariants as domain
use Rattle.codeco_text.specs.declared.written.WrittenItem.TheVariants as item
use Rattle.codeco_text.specs.declared.builder.OpenCategory.{OpenCategory}
use Rattle.codeco_text.specs.declared.builder.OpenRule.{OpenRule}
use Rattle.codeco_text.specs.declared.builder.Builder.{Builder}
use Rattle.lists.specs.declared.memory.Memory.{Memory}
use Rattle.codeco_text.specs.Names.{same_bytes}
use Rattle.codeco_text.specs.Reading.{after_category, advance, is_sign, begins_pattern}

abbrev pub push : {X : Type 0} → List X → X → List X
push xs x = xs ++ x ∷ []

-- What the words, terminals and signs add

abbrev pub named_category : OpenCategory → List ℕ → OpenCategory
named_category c w = record c { name = w; feats = [] }

abbrev pub with_part_identifier : Part → OpenCategory → List ℕ → OpenCategory
with_part_identifier part.Name c w = named_category c w
with_part_identifier part.Named c w = c
with_part_identifier part.Feature c w = record c { feature = w }
with_part_identifier part.Colon c w = c
with_part_identifier part.Term c w = record c { term = term.Atom w }
with_part_identifier part.Taken c w = c
with_part_identifier part.Next c w = c
with_part_identifier part.Whole c w = c

abbrev pub identifier_at : Spot → Builder → List ℕ → Builder
identifier_at spot.Items b w = record b { category = named_category b.category w; rule = record b.rule { label = None } }
identifier_at spot.RuleHead b w = record b { category = named_category b.category w }
identifier_at spot.FeatureName b w = record b { declaration = record b.declaration { name = w } }
identifier_at spot.FeatureValue b w = record b { declaration = record b.declaration { atom = w; atoms = [] } }
identifier_at spot.AtomName b w = record b { declaration = record b.declaration { atom = w } }
identifier_at (spot.Category p r) b w = record b { category = with_part_identifier p b.category w }
identifier_at spot.Body b w = record b { category = named_category b.category w }
identifier_at _ b w = b

abbrev pub with_identifier : Builder → List ℕ → Builder
with_identifier b w = identifier_at b.spot b w

abbrev pub variable_at : Spot → Builder → List ℕ → Builder
variable_at (spot.Category part.Term r) b w = record b { category = record b.category { term = term.Variable w } }
variable_at (spot.Category part.Taken r) b w = record b { category = record b.category { term = term.Taken w } }
variable_at spot.PositionName b w = record b { rule = record b.rule { body = push b.rule.body (element.Position w) } }
variable_at _ b w = b

abbrev pub with_variable : Builder → List ℕ → Builder
with_variable b w = variable_at b.spot b w

abbrev pub with_keyword : Builder → List ℕ → Builder
with_keyword b w = record b { declaration = record b.declaration { positions = same_bytes w (codes "position") } }

abbrev pub with_label : Builder → List ℕ → Builder
with_label b w = record b { rule = record b.rule { pending = w } }

abbrev pub with_kind : Builder → List ℕ → Builder
with_kind b w = record b { category = named_category b.category w }

abbrev pub with_terminal : Builder → List ℕ → Builder
with_terminal b t = record b { rule = record b.rule { body = push b.rule.body (element.Terminal t) } }

-- the feature that was read, at the end of the category's features
abbrev pub with_feat : OpenCategory → OpenCategory
with_feat c = record c { feats = push c.feats (record { name = c.feature; term = c.term }); feature = []; term = term.Atom [] }

abbrev pub values_domain : Bool → Domain
values_domain true = domain.Positions
values_domain false = domain.Words

-- a declaration at the end of the items
abbrev pub with_declaration : Builder → Domain → Builder
with_declaration b d = record b {
  items = push b.items (item.Feature b.declaration.name d);
  declaration = record b.declaration { name = []; atom = []; atoms = [] };
}

abbrev pub nothing : WrittenCategory
nothing = record { name = []; feats = [] }

abbrev pub with_rule : Builder → Builder
with_rule b = record b {
  items = push b.items (item.Rule (record { label = b.rule.label; head = b.rule.head; closing = b.rule.closing; body = b.rule.body }));
  rule = record b.rule { label = None; head = nothing; body = [] };
}

abbrev pub with_patterns : OpenRule → OpenRule
with_patterns r = record r { positives = []; negatives = [] }

abbrev pub body_sign_at : Builder → Sign → Builder
body_sign_at b sign.Stop = with_rule b
body_sign_at b sign.Scope = record b { rule = record b.rule { body = push b.rule.body element.Opener } }
body_sign_at b _ = b

abbrev pub closes : Sign → Bool
closes sign.Closing = true
closes _ = false

abbrev pub arrow_at : Builder → Sign → Builder
arrow_at b s = record b { rule = record b.rule { closing = closes s; body = [] } }

abbrev pub end_atom : Builder → Sign → Builder
end_atom b sign.Stop = with_declaration b (domain.Atoms (push b.declaration.atoms b.declaration.atom))
end_atom b _ = record b { declaration = record b.declaration { atoms = push b.declaration.atoms b.declaration.atom; atom = [] } }

abbrev pub sign_at : Spot → Builder → Sign → Builder
sign_at spot.LabelEnd b s = record b { rule = record b.rule { label = Some b.rule.pending; pending = [] } }
sign_at spot.AtomNext b s = end_atom b s
sign_at spot.FeatureEnd b s = with_declaration b (values_domain b.declaration.positions)
sign_at (spot.Category part.Named r) b s = record b { category = record b.category { feats = [] } }
sign_at (spot.Category part.Next r) b s = record b { category = with_feat b.category }
sign_at spot.Arrow b s = arrow_at b s
sign_at spot.Body b s = body_sign_at b s
sign_at spot.BackPattern b s = record b { rule = with_patterns b.rule }
sign_at spot.AbsentPattern b s = record b { rule = with_patterns b.rule }
sign_at spot.Positives b sign.Minus = record b { rule = record b.rule { negatives = [] } }
sign_at _ b s = b

abbrev pub with_sign : Builder → Sign → Builder
with_sign b s = sign_at b.spot b s

-- What is whole

abbrev pub settled_rule : Role → OpenRule → WrittenCategory → OpenRule
settled_rule role.Head r c = record r { head = c }
settled_rule role.Preterminal r c = record r { body = push r.body (element.Preterminal c) }
settled_rule role.Sub r c = record r { body = push r.body (element.Sub c) }
settled_rule role.Forward r c = record r { body = push r.body (element.Forward c) }
settled_rule role.Strong r c = record r { body = push r.body (element.Strong c) }
settled_rule role.Positive r c = record r { positives = push r.positives c }
settled_rule role.Negative r c = record r { negatives = push r.negatives c }
settled_rule role.Absent r c = record r { positives = push r.positives c }

-- a category that is whole stands in its place
abbrev pub settle_into : Builder → Role → List WrittenFeat → Builder
settle_into b r feats = record b {
  spot = after_category r;
  category = named_category b.category [];
  rule = settled_rule r b.rule (record { name = b.category.name; feats = feats });
}

abbrev pub settle_at : Spot → Builder → Builder
settle_at (spot.Category part.Named r) b = settle_into b r []
settle_at (spot.Category part.Whole r) b = settle_into b r b.category.feats
settle_at _ b = b

abbrev pub settled_builder : Builder → Builder
settled_builder b = settle_at b.spot b

-- a reference that is whole stands in the body
abbrev pub close_into : Builder → WrittenElement → Builder
close_into b e = record b { spot = spot.Body; rule = record b.rule { body = push b.rule.body e; positives = []; negatives = [] } }

abbrev pub close_at : Spot → Builder → Builder
close_at spot.Positives b = close_into b (element.Back b.rule.positives [])
close_at spot.Negatives b = close_into b (element.Back b.rule.positives b.rule.negatives)
close_at spot.Absents b = close_into b (element.NoBack b.rule.positives)
close_at _ b = b

abbrev pub closed_builder : Builder → Builder
closed_builder b = close_at b.spot b

abbrev pub is_named : Spot → Bool
is_named (spot.Category part.Named r) = true
is_named _ = false

abbrev pub opens_features : Spot → Lexeme → Bool
opens_features s x = is_named s && is_sign sign.OpenParen x

-- what takes the symbol
abbrev pub ready : Builder → Lexeme → Builder
ready b x =
    let whole = if opens_features b.spot x then b else settled_builder b in
    if begins_pattern x then whole else closed_builder whole

-- The symbol taken

abbrev pub with_lexeme : Builder → Lexeme → Builder
with_lexeme b (lexeme.Identifier w) = with_identifier b w
with_lexeme b (lexeme.Variable w) = with_variable b w
with_lexeme b (lexeme.Keyword w) = with_keyword b w
with_lexeme b (lexeme.Label w) = with_label b w
with_lexeme b (lexeme.Kind w) = with_kind b w
with_lexeme b (lexeme.Terminal t) = with_terminal b t
with_lexeme b (lexeme.Sign s) = with_sign b s

abbrev pub moved : Builder → Spot → Builder
moved b s = record b { spot = s }

abbrev pub take_ready : Builder → Lexeme → Option Builder
take_ready b x = option_map (moved (with_lexeme b x)) (advance b.spot x)

abbrev pub grow : Builder → Lexeme → Option Builder
grow b x = take_ready (ready b x) x

-- whether a call took what it was to take, unless memory ran out
abbrev pub Takes : Option Builder → Result Bool Memory → Builder → Type 0
Takes grown (Ok true) new = grown ≡ Some new
Takes grown (Ok false) new = grown ≡ None
Takes grown (Err e) new = Unit {0}
