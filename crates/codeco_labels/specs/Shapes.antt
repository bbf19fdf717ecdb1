-- What of a body matters to its rule's label. Only private calls speak of it.
use Rattle.std.specs.Prelude.{ℕ, ◌==◌, nat_lt, if◌then◌else◌, Bool, true, false, not, ◌&&◌, ◌||◌, List, slice_index_or, Option, Some, None, fold}
use Rattle.std.specs.List.{list_all}
use Rattle.std.specs.Option.{option_map_or}
use Rattle.codeco_terms.specs.declared.elements.Element.{Element}
use Rattle.codeco_terms.specs.declared.elements.Element.TheVariants.{Terminal, Preterminal, Sub, Position, Opener, Forward, Strong, Back, NoBack}
use Rattle.codeco_terms.specs.declared.rules.Rule.{Rule}
use Rattle.codeco_checked.specs.declared.labels.Kind.{Kind}
use Rattle.codeco_checked.specs.declared.labels.Children.{Children}
use Rattle.codeco_checked.specs.declared.labels.Children.TheVariants as child
use Rattle.codeco_checked.specs.declared.labels.Words.{Words}
use Rattle.codeco_checked.specs.declared.labels.Words.TheVariants as word
use Rattle.codeco_checked.specs.declared.labels.LabelRow.{LabelRow}
use Rattle.codeco_checked.specs.Faults.{sub_name}
use Rattle.codeco_checked.specs.Labels.{same_kind, head_fits}
use Rattle.codeco_labels.specs.declared.found.Found.{Found}
use Rattle.codeco_labels.specs.declared.found.Found.TheVariants.{No, One, Two, More}
use Rattle.codeco_labels.specs.declared.found.Times.{Times}
use Rattle.codeco_labels.specs.declared.found.Times.TheVariants.{Never, Once, Often}
use Rattle.codeco_labels.specs.declared.shapes.Shape.{Shape}

-- one more
abbrev pub and_one : Found → ℕ → Found
and_one No x = One x
and_one (One y) x = Two y x
and_one (Two y z) x = More
and_one More x = More

abbrev pub once_more : Times → Times
once_more Never = Once
once_more Once = Often
once_more Often = Often

abbrev pub is_no : Found → Bool
is_no No = true
is_no _ = false

-- the one, where there is one
abbrev pub one_of : Found → Option ℕ
one_of (One x) = Some x
one_of _ = None

-- the two, where there are two
abbrev pub two_of : Found → Option (ℕ × ℕ)
two_of (Two x y) = Some (x, y)
two_of _ = None

-- once, or never
abbrev pub is_times : Bool → Times → Bool
is_times wanted Never = not wanted
is_times wanted Once = wanted
is_times wanted Often = false

abbrev pub empty_shape : Shape
empty_shape = record { children = No; words = No; introduced = Never; referred = Never; behind_tokens = true; after_token = false; child_behind_word = false }

-- the body with one more child, which may be a mark
abbrev pub with_child : Bool → Shape → ℕ → Shape
with_child mark s name =
    if mark then record s { after_token = false }
    else record s { children = and_one s.children name; after_token = false; child_behind_word = s.child_behind_word || not (is_no s.words) }

-- the body with one more element, where these categories are marks
abbrev pub with_element : List Bool → Shape → Element → Shape
with_element marks s (Terminal t) = record s { after_token = true }
with_element marks s (Preterminal c) = record s { words = and_one s.words c.name; after_token = true }
with_element marks s (Sub c) = with_child (slice_index_or marks c.name false) s c.name
with_element marks s (Position x) = s
with_element marks s Opener = s
with_element marks s (Forward c) = record s { introduced = once_more s.introduced; behind_tokens = s.behind_tokens && s.after_token; after_token = false }
with_element marks s (Strong c) = record s { introduced = once_more s.introduced; behind_tokens = s.behind_tokens && s.after_token; after_token = false }
with_element marks s (Back ps ns) = record s { referred = once_more s.referred; after_token = false }
with_element marks s (NoBack ps) = record s { after_token = false }

abbrev pub shape_of : List Bool → List Element → Shape
shape_of marks body = fold (with_element marks) empty_shape body

-- the one is this
abbrev pub is_one : Found → ℕ → Bool
is_one found x = option_map_or (λ y. y == x) (one_of found) false

abbrev pub are_two : Found → ℕ → ℕ → Bool
are_two found x y = option_map_or (λ p. (p.0 == x) && (p.1 == y)) (two_of found) false

-- the words are those that a row asks for
abbrev pub has_words : Words → Shape → Bool
has_words word.No s = is_no s.words
has_words word.Name s = is_one s.words 0
has_words word.Noun s = is_one s.words 1
has_words word.Of s = is_one s.words 2
has_words word.Verb s = is_one s.words 3
has_words word.Relation s = (is_one s.words 3 || is_one s.words 4) || is_one s.words 2
has_words word.VerbThenNoun s = are_two s.words 3 1
has_words word.VerbBehind s = is_one s.words 3 && not s.child_behind_word
has_words word.Any s = true

-- all that a row asks for but the kinds
abbrev pub has_shape : LabelRow → Shape → Bool
has_shape row s = ((has_words row.words s && is_times row.introduces s.introduced) && is_times row.refers s.referred) && s.behind_tokens

-- the children have the kinds that a row asks for, where the head has this one
abbrev pub children_have : Children → ℕ → (ℕ → Kind) → Found → Bool
children_have child.No head kinds found = is_no found
children_have (child.One k) head kinds found = option_map_or (λ c. same_kind (kinds c) k) (one_of found) false
children_have (child.Maybe k) head kinds found = is_no found || option_map_or (λ c. same_kind (kinds c) k) (one_of found) false
children_have (child.Two k l) head kinds found = option_map_or (λ p. same_kind (kinds p.0) k && same_kind (kinds p.1) l) (two_of found) false
children_have child.Alike head kinds found = option_map_or (λ c. same_kind (kinds c) (kinds head)) (one_of found) false
children_have child.TwoAlike head kinds found =
    option_map_or (λ p. same_kind (kinds p.0) (kinds head) && same_kind (kinds p.1) (kinds head)) (two_of found) false

-- the rule has all that a row asks for
abbrev pub row_holds : LabelRow → ℕ → Shape → (ℕ → Kind) → Bool
row_holds row head s kinds = has_shape row s && (head_fits row.heads (kinds head) && children_have row.children head kinds s.children)

-- the names in a rule's head and of its children are below this number
abbrev pub element_below : ℕ → Element → Bool
element_below n e = option_map_or (λ c. nat_lt c n) (sub_name e) true

abbrev pub names_below : ℕ → Rule → Bool
names_below n r = nat_lt r.head.name n && list_all (element_below n) r.body

abbrev pub found_below : ℕ → Found → Bool
found_below n No = true
found_below n (One x) = nat_lt x n
found_below n (Two x y) = nat_lt x n && nat_lt y n
found_below n More = true
