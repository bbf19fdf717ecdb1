-- The reading of a file, token by token: where it stands after some tokens, and which token has a fault.
use Rattle.std.specs.Prelude.{◌≡◌, ℕ, ◌+◌, ◌-◌, Bool, true, false, not, ◌&&◌, ◌||◌, ◌==◌, nat_le, nat_lt, if◌then◌else◌, List, [], ◌∷◌, ◌++◌, take, drop, Option, Some, None, Result, Ok, Err, codes}
use Rattle.wiki_base.specs.declared.numbers.WordId.{WordId}
use Rattle.logic_terms.specs.declared.expressions.Role.{Role}
use Rattle.logic_terms.specs.Same.{inverse}
use Rattle.logic_terms.specs.Concept.{Concept, Everything, Atomic, ComplementOf, Claim}
use Rattle.owl_tokens.specs.declared.tokens.TokenKind.{TokenKind}
use Rattle.owl_tokens.specs.declared.tokens.TokenKind.TheVariants as token
use Rattle.owl_tokens.specs.Tokens.{Token, Ending, Whole, Cut_off}
use Rattle.owl_reader.specs.declared.kinds.Construct.{Construct}
use Rattle.owl_reader.specs.declared.kinds.Construct.TheVariants as construct
use Rattle.owl_reader.specs.declared.kinds.Sort.{Sort}
use Rattle.owl_reader.specs.declared.kinds.Sort.TheVariants as sort
use Rattle.owl_reader.specs.declared.kinds.Makes.{Makes}
use Rattle.owl_reader.specs.declared.kinds.Makes.TheVariants as makes
use Rattle.owl_reader.specs.declared.kinds.EntityKind.{EntityKind}
use Rattle.owl_reader.specs.declared.kinds.EntityKind.TheVariants as kind
use Rattle.owl_reader.specs.declared.kinds.Entity.{Entity}
use Rattle.owl_reader.specs.declared.stand.Stand.{Stand}
use Rattle.owl_reader.specs.declared.stand.Stand.TheVariants as stand
use Rattle.owl_reader.specs.declared.faults.OwlFault.{OwlFault}
use Rattle.owl_reader.specs.declared.faults.OwlFault.TheVariants as fault
use Rattle.owl_reader.specs.declared.faults.TheConstants.{MOST_OPEN}
use Rattle.owl_reader.specs.declared.faults.Trouble.{Trouble}
use Rattle.owl_reader.specs.declared.faults.Trouble.TheVariants as trouble
use Rattle.owl_reader.specs.Grammar.{same_bytes, item_constructs, class_constructs, property_constructs, declared_constructs, construct_among, sorts, repeats, makes_of, takes_annotations, is_annotation}
use Rattle.owl_reader.specs.Names.{colon_at, Declared, declare, iri_of, first_prefixes, is_thing, is_nothing, is_top_property, is_bottom_property, entered, word_of}
use Rattle.owl_reader.specs.Claims.{claims_by, class_by, first_role}

-- a construct whose parenthesis is open: whether nothing stands in it yet, what must still come, and what it has
pub record Frame : Type 0 where
  pub construct : Construct
  pub fresh : Bool
  pub wanted : List Sort
  pub classes : List Concept
  pub roles : List Role
  pub names : List WordId

-- what was read: the innermost frame is the first, and a prefix is being declared with an IRI
pub record State : Type 0 where
  pub prefixes : Declared
  pub entities : List Entity
  pub claims : List Claim
  pub frames : List Frame
  pub stand : Stand
  pub open_count : ℕ
  pub prefix : List ℕ
  pub iri : List ℕ

-- nothing was read
abbrev pub fresh_state : State
fresh_state = record {
  prefixes = first_prefixes;
  entities = [];
  claims = [];
  frames = [];
  stand = stand.Lines;
  open_count = 0;
  prefix = [];
  iri = [];
}

-- Frames

abbrev pub new_frame : Construct → Frame
new_frame c = record { construct = c; fresh = true; wanted = sorts c; classes = []; roles = []; names = [] }

abbrev pub behind : List Sort → List Sort
behind [] = []
behind (s ∷ ss) = ss

abbrev pub first_sort : List Sort → Option Sort → Option Sort
first_sort [] more = more
first_sort (s ∷ ss) more = Some s

-- what may come next in a frame
abbrev pub next_sort : Frame → Option Sort
next_sort f = first_sort f.wanted (repeats f.construct)

-- a frame that has one more, which is no class, property or individual that it keeps
abbrev pub with_any : Frame → Frame
with_any f = record { construct = f.construct; fresh = false; wanted = behind f.wanted; classes = f.classes; roles = f.roles; names = f.names }

abbrev pub with_class : Concept → Frame → Frame
with_class c f = record { construct = f.construct; fresh = false; wanted = behind f.wanted; classes = f.classes ++ c ∷ []; roles = f.roles; names = f.names }

abbrev pub with_role : Role → Frame → Frame
with_role r f = record { construct = f.construct; fresh = false; wanted = behind f.wanted; classes = f.classes; roles = f.roles ++ r ∷ []; names = f.names }

abbrev pub with_name : WordId → Frame → Frame
with_name a f = record { construct = f.construct; fresh = false; wanted = behind f.wanted; classes = f.classes; roles = f.roles; names = f.names ++ a ∷ [] }

-- What stands in the innermost frame

abbrev pub moved : State → Stand → State
moved s to = record s { stand = to }

abbrev pub given_to : List Frame → State → (Frame → Frame) → Result State Trouble
given_to [] s give = Err trouble.Syntax
given_to (f ∷ fs) s give = Ok (record s { frames = give f ∷ fs; stand = stand.Within })

abbrev pub given : State → (Frame → Frame) → Result State Trouble
given s give = given_to s.frames s give

abbrev pub enter : State → Entity → State
enter s e = record s { entities = entered s.entities e }

abbrev pub entity : EntityKind → List ℕ → Entity
entity k iri = record { kind = k; iri = iri }

abbrev pub class_named : State → List ℕ → Result State Trouble
class_named s iri =
    if is_thing iri then given s (with_class Everything)
    else (if is_nothing iri then given s (with_class (ComplementOf Everything))
    else given (enter s (entity kind.Class iri)) (with_class (Atomic (word_of s.entities (entity kind.Class iri)))))

abbrev pub property_named : State → List ℕ → Result State Trouble
property_named s iri =
    given (enter s (entity kind.Property iri)) (with_role (record { id = word_of s.entities (entity kind.Property iri); inverted = false }))

abbrev pub individual_named : State → List ℕ → Result State Trouble
individual_named s iri = given (enter s (entity kind.Individual iri)) (with_name (word_of s.entities (entity kind.Individual iri)))

-- a name where something of a sort may come
abbrev pub name_by : Option Sort → State → List ℕ → Result State Trouble
name_by (Some sort.Class) s iri = class_named s iri
name_by (Some sort.Property) s iri = property_named s iri
name_by (Some sort.PropertyName) s iri = property_named s iri
name_by (Some sort.Individual) s iri = individual_named s iri
name_by (Some (sort.Name k)) s iri = given (enter s (entity k iri)) with_any
name_by (Some sort.AnnotationName) s iri = given s with_any
name_by _ s iri = Err trouble.Syntax

abbrev pub top_sort : List Frame → Option Sort
top_sort [] = None
top_sort (f ∷ fs) = next_sort f

-- a prefix that is to be declared: nothing stands behind its colon
abbrev pub prefix_named : State → List ℕ → List ℕ → Result State Trouble
prefix_named s prefix [] = Ok (record s { stand = stand.PrefixEquals; prefix = prefix })
prefix_named s prefix (b ∷ bs) = Err trouble.Syntax

-- whether names, keywords and closing parentheses are read by the innermost frame
abbrev pub is_inside : Stand → Bool
is_inside stand.Within = true
is_inside (stand.Heading n) = true
is_inside _ = false

abbrev pub is_prefix_name : Stand → Bool
is_prefix_name stand.PrefixName = true
is_prefix_name _ = false

abbrev pub name_in_place : State → List ℕ → List ℕ → List ℕ → Result State Trouble
name_in_place s prefix local iri =
    if is_prefix_name s.stand then prefix_named s prefix local
    else (if is_inside s.stand then name_by (top_sort s.frames) s iri else Err trouble.Syntax)

abbrev pub full_name : State → List ℕ → List ℕ → List ℕ → Result State Trouble
full_name s prefix local iri =
    if is_top_property iri then Err trouble.Unsupported
    else (if is_bottom_property iri then Err trouble.Unsupported
    else name_in_place s prefix local iri)

abbrev pub name_with : Option (List ℕ) → State → List ℕ → List ℕ → Result State Trouble
name_with (Some front) s prefix local = full_name s prefix local (front ++ local)
name_with None s prefix local = if is_prefix_name s.stand then prefix_named s prefix local else Err trouble.Prefix

-- a name of this prefix, with this behind its colon
abbrev pub name : State → List ℕ → List ℕ → Result State Trouble
name s prefix local =
    if same_bytes prefix (codes "_") then Err trouble.Unsupported
    else name_with (iri_of s.prefixes prefix) s prefix local

-- Keywords

abbrev pub begin : State → Option Construct → Result State Trouble
begin s None = Err trouble.Unsupported
begin s (Some c) = Ok (moved s (stand.Opening c))

-- a keyword where something of a sort may come
abbrev pub keyword_by : Option Sort → State → List ℕ → Result State Trouble
keyword_by (Some sort.Item) s word =
    if is_annotation word then Ok (moved s stand.AnnotationOpening) else begin s (construct_among item_constructs word)
keyword_by (Some sort.Class) s word = begin s (construct_among class_constructs word)
keyword_by (Some sort.Property) s word = begin s (construct_among property_constructs word)
keyword_by (Some sort.Declared) s word = begin s (construct_among declared_constructs word)
keyword_by _ s word = Err trouble.Syntax

-- whether annotations may stand next in a frame
abbrev pub may_annotate : List Frame → Bool
may_annotate [] = false
may_annotate (f ∷ fs) = f.fresh && takes_annotations (makes_of f.construct)

abbrev pub keyword_inside : State → List ℕ → Result State Trouble
keyword_inside s word =
    if may_annotate s.frames && same_bytes word (codes "Annotation") then Ok (moved s stand.AnnotationOpening)
    else keyword_by (top_sort s.frames) s word

abbrev pub keyword_of_line : State → List ℕ → Result State Trouble
keyword_of_line s word =
    if same_bytes word (codes "Prefix") then Ok (moved s stand.PrefixOpening)
    else (if same_bytes word (codes "Ontology") then Ok (moved s (stand.Opening construct.Ontology)) else Err trouble.Syntax)

abbrev pub is_lines : Stand → Bool
is_lines stand.Lines = true
is_lines _ = false

abbrev pub keyword_word : State → List ℕ → Result State Trouble
keyword_word s word =
    if is_lines s.stand then keyword_of_line s word
    else (if is_inside s.stand then keyword_inside s word else Err trouble.Syntax)

abbrev pub word_by : Option ℕ → State → List ℕ → Result State Trouble
word_by None s word = keyword_word s word
word_by (Some n) s word = name s (take n word) (drop (n + 1) word)

-- a word with a colon is a name, and another one a keyword
abbrev pub word : Stand → State → List ℕ → Result State Trouble
word (stand.Passing base) s text = Ok s
word _ s text = word_by (colon_at 0 text) s text

-- Parentheses

abbrev pub begun : Construct → Stand
begun construct.Ontology = stand.Heading 2
begun _ = stand.Within

-- the parentheses that are open, with one more, to stand here
abbrev pub deeper : State → Stand → State
deeper s to = record s { stand = to; open_count = s.open_count + 1 }

abbrev pub opened_by : Stand → State → Result State Trouble
opened_by stand.PrefixOpening s = Ok (deeper s stand.PrefixName)
opened_by (stand.Opening c) s = Ok (record s { frames = new_frame c ∷ s.frames; stand = begun c; open_count = s.open_count + 1 })
opened_by stand.AnnotationOpening s = Ok (deeper s (stand.Passing s.open_count))
opened_by (stand.Passing base) s = Ok (deeper s (stand.Passing base))
opened_by _ s = Err trouble.Syntax

abbrev pub finished : Makes → State → Frame → Result State Trouble
finished makes.Class s f = given s (with_class (class_by f.construct f.classes f.roles f.names))
finished makes.Property s f = given s (with_role (inverse (first_role f.roles)))
finished makes.Declared s f = given s with_any
finished makes.Axioms s f = Ok (record s { claims = s.claims ++ claims_by f.construct f.classes f.roles f.names; stand = stand.Within })
finished makes.End s f = Ok (moved s stand.Closed)

abbrev pub is_nil : List Sort → Bool
is_nil [] = true
is_nil (s ∷ ss) = false

-- the innermost frame may be closed where nothing must come any more
abbrev pub closed_top : List Frame → State → Result State Trouble
closed_top [] s = Err trouble.Syntax
closed_top (f ∷ fs) s =
    if is_nil f.wanted then finished (makes_of f.construct) (record s { frames = fs; open_count = s.open_count - 1 }) f else Err trouble.Syntax

-- in an annotation a parenthesis may be the last
abbrev pub passed : State → ℕ → State
passed s base =
    record s { stand = if s.open_count - 1 == base then stand.Within else stand.Passing base; open_count = s.open_count - 1 }

abbrev pub closed_by : Stand → State → Result State Trouble
closed_by stand.PrefixClose s =
    Ok (record s { prefixes = declare s.prefixes s.prefix s.iri; stand = stand.Lines; open_count = s.open_count - 1 })
closed_by stand.Within s = closed_top s.frames s
closed_by (stand.Heading n) s = closed_top s.frames s
closed_by (stand.Passing base) s = Ok (passed s base)
closed_by _ s = Err trouble.Syntax

-- The other tokens

abbrev pub equals_by : Stand → State → Result State Trouble
equals_by stand.PrefixEquals s = Ok (moved s stand.PrefixIri)
equals_by (stand.Passing base) s = Ok s
equals_by _ s = Err trouble.Syntax

abbrev pub heading : State → ℕ → Result State Trouble
heading s n = if n == 0 then Err trouble.Syntax else Ok (moved s (stand.Heading (n - 1)))

abbrev pub iri_by : Stand → State → List ℕ → Result State Trouble
iri_by stand.PrefixIri s iri = Ok (record s { stand = stand.PrefixClose; iri = iri })
iri_by (stand.Heading n) s iri = heading s n
iri_by (stand.Passing base) s iri = Ok s
iri_by _ s iri = Err trouble.Syntax

abbrev pub quoted_by : Stand → State → Result State Trouble
quoted_by (stand.Passing base) s = Ok s
quoted_by _ s = Err trouble.Syntax

-- one token
abbrev pub step : State → TokenKind → List ℕ → Result State Trouble
step s token.OpenParen text = if nat_le MOST_OPEN s.open_count then Err trouble.TooDeep else opened_by s.stand s
step s token.CloseParen text = closed_by s.stand s
step s token.Equals text = equals_by s.stand s
step s token.Iri text = iri_by s.stand s text
step s token.Quoted text = quoted_by s.stand s
step s token.Word text = word s.stand s text

-- The whole file

abbrev pub fault_at : Trouble → ℕ → OwlFault
fault_at trouble.Syntax at = fault.Syntax at
fault_at trouble.Unsupported at = fault.Unsupported at
fault_at trouble.Prefix at = fault.Prefix at
fault_at trouble.TooDeep at = fault.TooDeep at

abbrev pub is_closed : Stand → Bool
is_closed stand.Closed = true
is_closed _ = false

-- what a file has where it ends
abbrev pub ended : State → Ending → Result (List Entity × List Claim) OwlFault
ended s (Whole at) = if is_closed s.stand then Ok (s.entities, s.claims) else Err (fault.Syntax at)
ended s (Cut_off at) = Err (fault.Syntax at)

abbrev pub carry : {A : Type 0} → Result State Trouble → ℕ → (State → Result A OwlFault) → Result A OwlFault
carry (Err t) at more = Err (fault_at t at)
carry (Ok s) at more = more s

-- what the tokens say from here on, or the fault of the first that has one
abbrev pub reading : State → List Token → Ending → Result (List Entity × List Claim) OwlFault
reading s [] ending = ended s ending
reading s (t ∷ ts) ending = carry (step s t.kind t.text) t.at (λ next. reading next ts ending)
