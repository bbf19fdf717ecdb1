-- Labels of rules: what each asks of the rule that has it, and the kinds of phrases that fit the rules of a grammar.
use Rattle.std.specs.Prelude.{◌≡◌, ℕ, ◌-◌, ◌<◌, ◌==◌, ◌⊎◌, if◌then◌else◌, Bool, true, false, not, ◌&&◌, ◌||◌, List, [], ◌∷◌, map, filter, flat_map, count_by, take, slice_get, Some, is_some, IsTrue}
use Rattle.std.specs.List.{list_all, list_any, filter_map}
use Rattle.std.specs.Option.{option_map_or}
use Rattle.codeco_terms.specs.declared.elements.Element.{Element}
use Rattle.codeco_terms.specs.declared.elements.Element.TheVariants.{Terminal, Preterminal, Position, Opener, Forward, Strong, Back}
use Rattle.codeco_terms.specs.declared.rules.Label.{Label}
use Rattle.codeco_terms.specs.declared.rules.Label.TheVariants as label
use Rattle.codeco_terms.specs.declared.rules.Rule.{Rule}
use Rattle.codeco_checked.specs.declared.labels.Kind.{Kind}
use Rattle.codeco_checked.specs.declared.labels.Kind.TheVariants.{Text, Sentence, VerbPhrase, NounPhrase, NounBar, Question, Mark}
use Rattle.codeco_checked.specs.declared.labels.Heads.{Heads}
use Rattle.codeco_checked.specs.declared.labels.Heads.TheVariants.{Only, Clauses, Meanings}
use Rattle.codeco_checked.specs.declared.labels.Children.{Children}
use Rattle.codeco_checked.specs.declared.labels.Children.TheVariants.{One, Maybe, Two, Alike, TwoAlike}
use Rattle.codeco_checked.specs.declared.labels.Children.TheVariants as child
use Rattle.codeco_checked.specs.declared.labels.Words.{Words}
use Rattle.codeco_checked.specs.declared.labels.Words.TheVariants.{Name, Noun, Of, Verb, Relation, VerbThenNoun, VerbBehind, Any}
use Rattle.codeco_checked.specs.declared.labels.Words.TheVariants as word
use Rattle.codeco_checked.specs.declared.labels.LabelRow.{LabelRow}
use Rattle.codeco_checked.specs.declared.numbers.TheConstants.{FIRST_PLAIN}
use Rattle.codeco_text.specs.Names.{same_bytes}
use Rattle.codeco_checked.specs.Faults.{preterminals, sub_name}

-- The table of the labels: the kinds of the head, the children, the words, and whether a referent is introduced or referred to.

-- a row without referents
abbrev pub plain : Heads → Children → Words → LabelRow
plain heads children words = record { heads = heads; children = children; words = words; introduces = false; refers = false }

-- a row that introduces one referent
abbrev pub introducing : Heads → Children → Words → LabelRow
introducing heads children words = record { heads = heads; children = children; words = words; introduces = true; refers = false }

-- a row that refers back once
abbrev pub referring : Heads → Children → Words → LabelRow
referring heads children words = record { heads = heads; children = children; words = words; introduces = false; refers = true }

abbrev pub label_row : Label → LabelRow
label_row label.Statement = plain (Only Text) (One Sentence) word.No
label_row label.Ask = plain (Only Text) (One Question) word.No
label_row label.If = plain (Only Sentence) (Two Sentence Sentence) word.No
label_row label.Say = plain (Only Sentence) (Two NounPhrase VerbPhrase) word.No
label_row label.And = plain Clauses TwoAlike word.No
label_row label.Or = plain Clauses TwoAlike word.No
label_row label.Pass = plain Meanings Alike word.No
label_row label.Not = plain (Only VerbPhrase) (One VerbPhrase) word.No
label_row label.Does = plain (Only VerbPhrase) (One NounPhrase) Relation
label_row label.Done = plain (Only VerbPhrase) (One NounPhrase) Verb
label_row label.Class = plain (Only VerbPhrase) (Maybe VerbPhrase) Noun
label_row label.Top = plain (Only VerbPhrase) child.No word.No
label_row label.Same = plain (Only VerbPhrase) (One NounPhrase) word.No
label_row label.Only = introducing (Only VerbPhrase) child.No VerbThenNoun
label_row label.Gap = plain (Only VerbPhrase) (One NounPhrase) Verb
label_row label.Name = introducing (Only NounPhrase) child.No Name
label_row label.Refer = referring (Only NounPhrase) child.No Any
label_row label.Var = introducing (Only NounPhrase) child.No word.No
label_row label.Noun = introducing (Only NounBar) (Maybe VerbPhrase) Noun
label_row label.Part = introducing (Only NounBar) (One NounPhrase) Of
label_row label.Some = plain (Only NounPhrase) (One NounBar) word.No
label_row label.Every = plain (Only NounPhrase) (One NounBar) word.No
label_row label.No = plain (Only NounPhrase) (One NounBar) word.No
label_row label.Something = introducing (Only NounPhrase) (Maybe VerbPhrase) word.No
label_row label.Everything = introducing (Only NounPhrase) (Maybe VerbPhrase) word.No
label_row label.Nothing = introducing (Only NounPhrase) (Maybe VerbPhrase) word.No
label_row label.What = introducing (Only Question) (One VerbPhrase) word.No
label_row label.Which = plain (Only Question) (Two NounBar VerbPhrase) word.No
label_row label.Whichobj = plain (Only Question) (Two NounBar NounPhrase) VerbBehind
label_row label.Mark = plain (Only Mark) child.No word.No

-- Kinds

abbrev pub kind_number : Kind → ℕ
kind_number Text = 0
kind_number Sentence = 1
kind_number VerbPhrase = 2
kind_number NounPhrase = 3
kind_number NounBar = 4
kind_number Question = 5
kind_number Mark = 6

abbrev pub same_kind : Kind → Kind → Bool
same_kind k l = kind_number k == kind_number l

abbrev pub same_kinds : List Kind → List Kind → Bool
same_kinds [] [] = true
same_kinds [] (l ∷ ls) = false
same_kinds (k ∷ ks) [] = false
same_kinds (k ∷ ks) (l ∷ ls) = same_kind k l && same_kinds ks ls

abbrev pub is_mark : Kind → Bool
is_mark k = same_kind k Mark

-- the label mark: the one whose head is a mark
abbrev pub makes_mark : Heads → Bool
makes_mark (Only k) = is_mark k
makes_mark Clauses = false
makes_mark Meanings = false

abbrev pub is_mark_rule : Rule → Bool
is_mark_rule r = option_map_or (λ l. makes_mark (label_row l).heads) r.label false

-- some rule has the category as its head and the label mark
abbrev pub is_mark_in : List Rule → ℕ → Bool
is_mark_in rules name = list_any (λ r. is_mark_rule r && (r.head.name == name)) rules

-- Bodies

-- the categories in a body, from left to right
abbrev pub subs : List Element → List ℕ
subs body = filter_map sub_name body

-- the kinds of the children with a meaning
abbrev pub child_kinds : (ℕ → Kind) → List Element → List Kind
child_kinds kinds body = filter (λ k. not (is_mark k)) (map kinds (subs body))

-- the preterminals in a body, from left to right
abbrev pub word_names : List Element → List ℕ
word_names body = map (λ c. c.name) (flat_map preterminals body)

abbrev pub is_word : Element → Bool
is_word (Preterminal c) = true
is_word _ = false

-- what stands behind the first word
abbrev pub behind_word : List Element → List Element
behind_word [] = []
behind_word (e ∷ es) = if is_word e then es else behind_word es

abbrev pub is_introduction : Element → Bool
is_introduction (Forward c) = true
is_introduction (Strong c) = true
is_introduction _ = false

abbrev pub is_reference : Element → Bool
is_reference (Back ps ns) = true
is_reference _ = false

-- whether the elements up to and with this one end with a terminal or a word, where # and // are passed over
abbrev pub ends_with_token : Bool → Element → Bool
ends_with_token before (Terminal t) = true
ends_with_token before (Preterminal c) = true
ends_with_token before (Position x) = before
ends_with_token before Opener = before
ends_with_token _ _ = false

-- each referent is introduced right behind a terminal or a word
abbrev pub introduces_behind_tokens : Bool → List Element → Bool
introduces_behind_tokens before [] = true
introduces_behind_tokens before (e ∷ es) = (not (is_introduction e) || before) && introduces_behind_tokens (ends_with_token before e) es

-- What fits a row

abbrev pub head_fits : Heads → Kind → Bool
head_fits (Only k) head = same_kind head k
head_fits Clauses head = same_kind head Sentence || same_kind head VerbPhrase
head_fits Meanings head = not (same_kind head Text) && not (same_kind head Mark)

abbrev pub children_fit : Children → Kind → List Kind → Bool
children_fit child.No head ks = same_kinds ks []
children_fit (One k) head ks = same_kinds ks (k ∷ [])
children_fit (Maybe k) head ks = same_kinds ks [] || same_kinds ks (k ∷ [])
children_fit (Two k l) head ks = same_kinds ks (k ∷ l ∷ [])
children_fit Alike head ks = same_kinds ks (head ∷ [])
children_fit TwoAlike head ks = same_kinds ks (head ∷ head ∷ [])

-- the preterminals are numbered $name 0, $noun 1, $of 2, $verb 3, $adj 4
abbrev pub words_fit : Words → (ℕ → Kind) → List Element → Bool
words_fit word.No kinds body = same_bytes (word_names body) []
words_fit Name kinds body = same_bytes (word_names body) (0 ∷ [])
words_fit Noun kinds body = same_bytes (word_names body) (1 ∷ [])
words_fit Of kinds body = same_bytes (word_names body) (2 ∷ [])
words_fit Verb kinds body = same_bytes (word_names body) (3 ∷ [])
words_fit Relation kinds body = same_bytes (word_names body) (3 ∷ []) || same_bytes (word_names body) (4 ∷ []) || same_bytes (word_names body) (2 ∷ [])
words_fit VerbThenNoun kinds body = same_bytes (word_names body) (3 ∷ 1 ∷ [])
words_fit VerbBehind kinds body = same_bytes (word_names body) (3 ∷ []) && same_kinds (child_kinds kinds (behind_word body)) []
words_fit Any kinds body = true

-- how many a rule has to have of what it has once or not at all
abbrev pub one_if : Bool → ℕ
one_if b = if b then 1 else 0

-- the rule has what the row asks for, where the categories have these kinds
abbrev pub fits_row : (ℕ → Kind) → LabelRow → Rule → Bool
fits_row kinds row r = head_fits row.heads (kinds r.head.name)
    && children_fit row.children (kinds r.head.name) (child_kinds kinds r.body)
    && words_fit row.words kinds r.body
    && (count_by is_introduction r.body == one_if row.introduces)
    && (count_by is_reference r.body == one_if row.refers)
    && introduces_behind_tokens false r.body

-- a rule without a label fits all kinds
abbrev pub fits_label : (ℕ → Kind) → Rule → Bool
fits_label kinds r = option_map_or (λ l. fits_row kinds (label_row l) r) r.label true

-- One kind for each category: marks are the heads of rules with the label mark, text is a text, and the first rules fit.
pub record FitKinds (rules : List Rule) (n : ℕ) (kinds : ℕ → Kind) : Type 0 where
  pub marks : (name : ℕ) → is_mark (kinds name) ≡ is_mark_in rules name
  pub text : kinds FIRST_PLAIN ≡ Text
  pub fit : IsTrue (list_all (fits_label kinds) (take n rules))

-- The fault

-- the rule has a label and rule 1 has none, or the other way round
abbrev pub differs_from_first : List Rule → Rule → Bool
differs_from_first [] r = false
differs_from_first (first ∷ rules) r = if is_some first.label then not (is_some r.label) else is_some r.label

-- rule n has a label and rule 1 has none, or the other way round; or no kinds of the categories fit the first n rules
abbrev pub IsMisfit : List Rule → ℕ → Type 0
IsMisfit rules n = (r : Rule) × (0 < n) × (slice_get rules (n - 1) ≡ Some r)
    × (IsTrue (differs_from_first rules r) ⊎ ((kinds : ℕ → Kind) → FitKinds rules n kinds → ⊥))
