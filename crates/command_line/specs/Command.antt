-- The command line: which words are a command, and how the program ends.
use Rattle.std.specs.Prelude.{ℕ, ◌==◌, ◌&&◌, not, Bool, false, List, [], ◌∷◌, ◌++◌, codes, if◌then◌else◌, nat_le, Option, Some, None, is_some, unwrap_or, option_map, option_and_then}
use Rattle.std.specs.Str.{bytes_eq, is_utf8}
use Rattle.wiki_base.specs.Text.{fault_of}
use Rattle.http_front.specs.Numbers.{number_of}
use Rattle.command_line.specs.declared.command.Command.{Command}
use Rattle.command_line.specs.declared.command.Command.TheVariants as commands
use Rattle.command_line.specs.declared.options.Options.{Options}
use Rattle.command_line.specs.declared.options.TheConstants.{MOST_BUDGET, MOST_EVENTS, MOST_MADE, MOST_PLACE, DEFAULT_BUDGET}
use Rattle.command_line.specs.declared.command.Outcome.{Outcome}
use Rattle.command_line.specs.declared.command.Outcome.TheVariants.{Done, Usage, ReadFault, WriteFault, LinkFault, TooMuch, Memory}

-- a command: `replay` with the budget of a search; `serve` with its address, the budget, and how many events it handles; `make` with how
-- many sentences, the seed of its draws, and the budget; `help`; `say`, `export` or `check` with the budget; `import`; or `why` with the form of an
-- article's word, a place there, the form of a name, if one is given, and the budget
pub data Asked : Type 0 where
  replay : ℕ → Asked
  serve : List ℕ → ℕ → ℕ → Asked
  make : ℕ → ℕ → ℕ → Asked
  help : Asked
  say : ℕ → Asked
  export : ℕ → Asked
  check : ℕ → Asked
  import : Asked
  why : List ℕ → ℕ → Option (List ℕ) → ℕ → Asked

-- a command of the program as what is asked
abbrev pub asked_by : Command → Asked
asked_by (commands.Replay budget) = replay budget
asked_by (commands.Serve address budget events) = serve address.now budget events
asked_by (commands.Make count seed budget) = make count seed budget
asked_by commands.Help = help
asked_by (commands.Say budget) = say budget
asked_by (commands.Export budget) = export budget
asked_by (commands.Check budget) = check budget
asked_by commands.Import = import
asked_by (commands.Why article at name budget) = why article.now at (option_map (λ form. form.now) name) budget

-- ---- options

-- the number that a word of 1 to 19 digits writes, if it stands between these two
abbrev pub number_within : ℕ → ℕ → List ℕ → Option ℕ
number_within least most word = option_and_then (λ n. if nat_le least n && nat_le n most then Some n else None) (number_of 19 word)

-- the options, each where it is given: the budget of a search, how many events are handled, and the form of a name
pub record Given : Type 0 where
  pub budget : Option ℕ
  pub events : Option ℕ
  pub name : Option (List ℕ)

-- the program's options as what is given
abbrev pub given_by : Options → Given
given_by options = record { budget = options.budget; events = options.events; name = option_map (λ form. form.now) options.name }

-- whether a word can be a form of a word of the wiki
abbrev pub is_form : List ℕ → Bool
is_form word = is_utf8 word && not (is_some (fault_of word))

abbrev pub form_given : List ℕ → Option (List ℕ)
form_given word = if is_form word then Some word else None

-- an option that wasn't given yet
abbrev pub with_budget : Given → List ℕ → Option Given
with_budget given value = if is_some given.budget then None else option_map (λ n. record given { budget = Some n }) (number_within 0 MOST_BUDGET value)

abbrev pub with_events : Given → List ℕ → Option Given
with_events given value = if is_some given.events then None else option_map (λ n. record given { events = Some n }) (number_within 1 MOST_EVENTS value)

abbrev pub with_name : Given → List ℕ → Option Given
with_name given value = if is_some given.name then None else option_map (λ form. record given { name = Some form }) (form_given value)

unfoldable pub with_option : Given → List ℕ → List ℕ → Option Given
with_option given name value =
    if bytes_eq name (codes "--budget") then with_budget given value else (
    if bytes_eq name (codes "--events") then with_events given value else (
    if bytes_eq name (codes "--name") then with_name given value else None))

-- the options that words tell, each in two words, beside those that were given
abbrev pub options_after : Given → List (List ℕ) → Option Given
options_after given [] = Some given
options_after given (name ∷ []) = None
options_after given (name ∷ value ∷ words) = option_and_then (λ more. options_after more words) (with_option given name value)

-- none was given
abbrev pub no_options : Given
no_options = record { budget = None; events = None; name = None }

-- no other option than a budget was given
abbrev pub has_budget_alone : Given → Bool
has_budget_alone given = not (is_some given.events) && not (is_some given.name)

-- the budget, or as many steps as a search may take where none is given
abbrev pub budget_in : Given → ℕ
budget_in given = unwrap_or given.budget DEFAULT_BUDGET

-- ---- commands

-- `replay [--budget N]`
abbrev pub replay_with : Given → Option Asked
replay_with given = if has_budget_alone given then Some (replay (budget_in given)) else None

-- a word that is a text and begins with no hyphen
abbrev pub begins_with_hyphen : List ℕ → Bool
begins_with_hyphen [] = false
begins_with_hyphen (b ∷ word) = b == 45

abbrev pub is_address : List ℕ → Bool
is_address word = not (begins_with_hyphen word) && is_utf8 word

-- `serve ADDRESS [--budget N] [--events N]`
abbrev pub serve_with : List ℕ → Given → Option Asked
serve_with address given =
    if is_some given.name then None else Some (serve address (budget_in given) (unwrap_or given.events MOST_EVENTS))

abbrev pub serve_of : List (List ℕ) → Option Asked
serve_of [] = None
serve_of (address ∷ words) = if is_address address then option_and_then (serve_with address) (options_after no_options words) else None

-- `make COUNT SEED [--budget N]`
abbrev pub make_with : ℕ → ℕ → Given → Option Asked
make_with count seed given = if has_budget_alone given then Some (make count seed (budget_in given)) else None

abbrev pub make_seeded : ℕ → List ℕ → List (List ℕ) → Option Asked
make_seeded count word words = option_and_then (λ seed. option_and_then (make_with count seed) (options_after no_options words)) (number_of 19 word)

abbrev pub make_counted : List ℕ → List (List ℕ) → Option Asked
make_counted word [] = None
make_counted word (seed ∷ words) = option_and_then (λ count. make_seeded count seed words) (number_within 1 MOST_MADE word)

abbrev pub make_of : List (List ℕ) → Option Asked
make_of [] = None
make_of (count ∷ words) = make_counted count words

-- `help` alone
abbrev pub help_of : List (List ℕ) → Option Asked
help_of [] = Some help
help_of (word ∷ words) = None

-- `say [--budget N]`
abbrev pub say_with : Given → Option Asked
say_with given = if has_budget_alone given then Some (say (budget_in given)) else None

-- `export [--budget N]`
abbrev pub export_with : Given → Option Asked
export_with given = if has_budget_alone given then Some (export (budget_in given)) else None

-- `check [--budget N]`
abbrev pub check_with : Given → Option Asked
check_with given = if has_budget_alone given then Some (check (budget_in given)) else None

-- `import` alone
abbrev pub import_of : List (List ℕ) → Option Asked
import_of [] = Some import
import_of (word ∷ words) = None

-- `why ARTICLE AT [--budget N] [--name NAME]`
abbrev pub why_with : List ℕ → ℕ → Given → Option Asked
why_with article at given = if is_some given.events then None else Some (why article at given.name (budget_in given))

abbrev pub why_at : List ℕ → List ℕ → List (List ℕ) → Option Asked
why_at article word words =
    option_and_then (λ at. option_and_then (why_with article at) (options_after no_options words)) (number_within 0 MOST_PLACE word)

abbrev pub why_about : List ℕ → List (List ℕ) → Option Asked
why_about article [] = None
why_about article (at ∷ words) = if is_form article then why_at article at words else None

abbrev pub why_of : List (List ℕ) → Option Asked
why_of [] = None
why_of (article ∷ words) = why_about article words

-- the command that the words are
abbrev pub command_of : List (List ℕ) → Option Asked
command_of [] = None
command_of (name ∷ words) =
    if bytes_eq name (codes "replay") then option_and_then replay_with (options_after no_options words) else (
    if bytes_eq name (codes "serve") then serve_of words else (
    if bytes_eq name (codes "make") then make_of words else (
    if bytes_eq name (codes "help") then help_of words else (
    if bytes_eq name (codes "say") then option_and_then say_with (options_after no_options words) else (
    if bytes_eq name (codes "export") then option_and_then export_with (options_after no_options words) else (
    if bytes_eq name (codes "check") then option_and_then check_with (options_after no_options words) else (
    if bytes_eq name (codes "import") then import_of words else (
    if bytes_eq name (codes "why") then why_of words else None))))))))

-- what `help` writes: a line for each command
unfoldable pub help_text : List ℕ
help_text =
    codes "acewiki replay [--budget N]\nacewiki serve ADDRESS [--budget N] [--events N]\n" ++ (codes "acewiki make COUNT SEED [--budget N]\nacewiki help\n"
    ++ (codes "acewiki say [--budget N]\nacewiki export [--budget N]\nacewiki check [--budget N]\n"
    ++ codes "acewiki import\nacewiki why ARTICLE AT [--budget N] [--name NAME]\n"))

-- ---- the end

-- the status of the process
abbrev pub status_of : Outcome → ℕ
status_of Done = 0
status_of Usage = 2
status_of ReadFault = 3
status_of WriteFault = 4
status_of LinkFault = 5
status_of TooMuch = 6
status_of Memory = 9

-- the words on standard error
abbrev pub words_of : Outcome → List ℕ
words_of Done = []
words_of Usage = codes "usage: acewiki replay|serve|make|help" ++ 10 ∷ []
words_of ReadFault = codes "read fault" ++ 10 ∷ []
words_of WriteFault = codes "write fault" ++ 10 ∷ []
words_of LinkFault = codes "link fault" ++ 10 ∷ []
words_of TooMuch = codes "input too large" ++ 10 ∷ []
words_of Memory = codes "out of memory" ++ 10 ∷ []
