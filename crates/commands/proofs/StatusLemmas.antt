-- What a command has done when it ends so, and why it ends.
use Rattle.std.proofs.Common.{◌≡◌, ◌↔◌, ℕ, ◌<◌, ◌≤◌, List, [], length, Option, Some, None, refl, sym, ap, subst, ◌∙◌, arith}
use Rattle.std.specs.Prelude.{option_map, IfSome}
use Rattle.std.specs.Io.KnownBytes.{Consumes}
use Rattle.std.proofs.lemmas.List.{length-append}
use Rattle.wiki_io.specs.declared.links.Event.{Event}
use Rattle.wiki_io.specs.Faults.{Rose}
use Rattle.wiki_io.specs.declared.limits.TheConstants.{MAX_INPUT}
use Rattle.owl_intake.specs.declared.input.TheConstants.{MOST_BYTES}
use Rattle.wiki_io.specs.Lines.{InputLine}
use Rattle.command_line.specs.declared.command.Command.{Command}
use Rattle.command_line.specs.declared.command.Outcome.{Outcome}
use Rattle.command_line.specs.declared.command.Outcome.TheVariants as outcomes
use Rattle.command_line.specs.Command.{Asked, replay, serve, make, help, say, export, check, import, why, asked_by, command_of}
use Rattle.commands.specs.Theorem.{World, EndsReading, ReadsLines, EndsServing, EndsRetelling, MakesSummary, WritesHelp, IsSaid, IsFile, IsWhy, Does, MayRemark, most_input, IsWithin, HasCause, Performs}
use Rattle.commands.specs.Wiki.{ace_wiki}

-- ---- the command

pub asked_so : (found : Option Command) (command : Option Asked) (c d : Command) → option_map asked_by found ≡ command → found ≡ Some c → c ≡ d
    → Some (asked_by d) ≡ command
asked_so found command c d is at_some same = sym (ap (option_map asked_by) (at_some ∙ ap Some same)) ∙ is

pub asked_none : (found : Option Command) (command : Option Asked) → option_map asked_by found ≡ command → found ≡ None → None ≡ command
asked_none found command is none = sym (ap (option_map asked_by) none) ∙ is

-- the words that a command line tells
pub told_words : (told : Option (List (List ℕ))) (items words : List (List ℕ)) → IfSome told (λ t. items ≡ t) → words ≡ items → IfSome told (λ t. words ≡ t)
told_words None items words same is = tt
told_words (Some t) items words same is = is ∙ same

-- ---- which outcomes a command has

-- reading has no such end
no_reading : (left : Option (List ℕ)) (outcome : Outcome) (left_after : Option (List ℕ)) (lines : List InputLine) → ReadsLines left outcome left_after lines
    → outcome ≡ outcomes.Usage → ⊥
no_reading left outcome left_after lines reads is = subst (λ (o : Outcome). EndsReading o reads.read left_after lines) is reads.ends

pub no_link_fault : (left : Option (List ℕ)) (outcome : Outcome) (left_after : Option (List ℕ)) (lines : List InputLine)
    → ReadsLines left outcome left_after lines → outcome ≡ outcomes.LinkFault → ⊥
no_link_fault left outcome left_after lines reads is = subst (λ (o : Outcome). EndsReading o reads.read left_after lines) is reads.ends

-- serving has no such end
no_serving : {S K L : Type 0} (read_so : Outcome) (address : List ℕ) (events : List Event) (most : ℕ) (before after : World S K L)
    → EndsServing read_so outcomes.Usage address events most before after → ⊥
no_serving outcomes.Done address events most before after ends = ends
no_serving outcomes.Usage address events most before after ends = ends
no_serving outcomes.ReadFault address events most before after ends = ends
no_serving outcomes.WriteFault address events most before after ends = ends
no_serving outcomes.LinkFault address events most before after ends = ends
no_serving outcomes.TooMuch address events most before after ends = ends
no_serving outcomes.Memory address events most before after ends = ends

-- retelling has no such end
no_retelling : (IsText : List ℕ → Type 0) (read_so : Outcome) (taken taken_after : Option (List ℕ))
    → EndsRetelling IsText read_so outcomes.Usage taken taken_after → ⊥
no_retelling IsText outcomes.Done taken taken_after ends = ends
no_retelling IsText outcomes.Usage taken taken_after ends = ends
no_retelling IsText outcomes.ReadFault taken taken_after ends = ends
no_retelling IsText outcomes.WriteFault taken taken_after ends = ends
no_retelling IsText outcomes.LinkFault taken taken_after ends = ends
no_retelling IsText outcomes.TooMuch taken taken_after ends = ends
no_retelling IsText outcomes.Memory taken taken_after ends = ends

-- no command that there is ends so
not_usage : {S K L : Type 0} (command : Asked) (remarks : List ℕ) (before after : World S K L) → Does (Some command) outcomes.Usage remarks before after → ⊥
not_usage (replay budget) remarks before after does =
    no_reading before.input.bytes outcomes.Usage after.input.bytes does.0.lines does.0.reads refl
not_usage (serve address budget most) remarks before after does = no_serving does.read_so address does.events most before after does.ends
not_usage (make count seed budget) remarks before after does = does.0
not_usage help remarks before after does = does.0
not_usage (say budget) remarks before after does =
    no_retelling (IsSaid does.0.last.wiki) does.0.read_so before.output.bytes after.output.bytes does.0.ends
not_usage (export budget) remarks before after does =
    no_retelling (IsFile does.0.last.wiki) does.0.read_so before.output.bytes after.output.bytes does.0.ends
not_usage (check budget) remarks before after does = does.0.ends
not_usage import remarks before after does = does.0.ends
not_usage (why article at name budget) remarks before after does =
    no_retelling (IsWhy budget article at name does.0.last.wiki) does.0.read_so before.output.bytes after.output.bytes does.0.ends

usage_of : {S K L : Type 0} (command : Option Asked) (outcome : Outcome) (remarks : List ℕ) (before after : World S K L)
    → Does command outcome remarks before after
    → (outcome ≡ outcomes.Usage) ↔ (command ≡ None)
usage_of None outcome remarks before after does = ((λ _. refl), λ _. does.0)
usage_of (Some command) outcome remarks before after does = (
  (λ is. absurd (not_usage command remarks before after (subst (λ (o : Outcome). Does (Some command) o remarks before after) is does))),
  λ none. absurd (some_or_none none),
)
  where
    some_or_none : Some command ≡ None → ⊥
    some_or_none h = cc

-- ---- why

-- what was read is no more than the input had
read_few : (bytes read : List ℕ) (l : Option (List ℕ)) → Consumes (Some bytes) l read → length read ≤ length bytes
read_few bytes read None consumes = absurd consumes
read_few bytes read (Some rest) consumes = omega (arith, ap length consumes, length-append read rest)

-- the input isn't too large where it is told to be within a bound
not_above : (most : ℕ) (left left_after : Option (List ℕ)) (read : List ℕ) → Consumes left left_after read → most < length read → ¬ IsWithin most left
not_above most left left_after read consumes above within =
    let source : Consumes (Some within.0) left_after read = subst (λ l. Consumes l left_after read) within.1 consumes in
    omega (arith, above, within.2, read_few within.0 read left_after source)

not_within : (left left_after : Option (List ℕ)) (lines : List InputLine) → ReadsLines left outcomes.TooMuch left_after lines → ¬ IsWithin MAX_INPUT left
not_within left left_after lines reads within = not_above MAX_INPUT left left_after reads.read reads.source reads.ends within

serving_too_much : {S K L : Type 0} (read_so : Outcome) (address : List ℕ) (events : List Event) (most : ℕ) (before after : World S K L)
    → EndsServing read_so outcomes.TooMuch address events most before after → read_so ≡ outcomes.TooMuch
serving_too_much outcomes.Done address events most before after ends = absurd ends
serving_too_much outcomes.Usage address events most before after ends = absurd ends
serving_too_much outcomes.ReadFault address events most before after ends = absurd ends
serving_too_much outcomes.WriteFault address events most before after ends = absurd ends
serving_too_much outcomes.LinkFault address events most before after ends = absurd ends
serving_too_much outcomes.TooMuch address events most before after ends = refl
serving_too_much outcomes.Memory address events most before after ends = absurd ends

retelling_too_much : (IsText : List ℕ → Type 0) (read_so : Outcome) (taken taken_after : Option (List ℕ))
    → EndsRetelling IsText read_so outcomes.TooMuch taken taken_after → read_so ≡ outcomes.TooMuch
retelling_too_much IsText outcomes.Done taken taken_after ends = absurd ends
retelling_too_much IsText outcomes.Usage taken taken_after ends = absurd ends
retelling_too_much IsText outcomes.ReadFault taken taken_after ends = absurd ends
retelling_too_much IsText outcomes.WriteFault taken taken_after ends = absurd ends
retelling_too_much IsText outcomes.LinkFault taken taken_after ends = absurd ends
retelling_too_much IsText outcomes.TooMuch taken taken_after ends = refl
retelling_too_much IsText outcomes.Memory taken taken_after ends = absurd ends

-- the input isn't too large where it is told to be within the bound, whatever of its lines came
not_within_so : (left left_after : Option (List ℕ)) (read_so : Outcome) (lines : List InputLine) → ReadsLines left read_so left_after lines
    → read_so ≡ outcomes.TooMuch → ¬ IsWithin MAX_INPUT left
not_within_so left left_after read_so lines reads is =
    not_within left left_after lines (subst (λ (o : Outcome). ReadsLines left o left_after lines) is reads)

too_much_of : {S K L : Type 0} (command : Option Asked) (remarks : List ℕ) (before after : World S K L) → Does command outcomes.TooMuch remarks before after
    → ¬ IsWithin (most_input command) before.input.bytes
too_much_of None remarks before after does within = cc does.0
too_much_of (Some (replay budget)) remarks before after does within =
    not_within before.input.bytes after.input.bytes does.0.lines does.0.reads within
too_much_of (Some (serve address budget most)) remarks before after does within =
    let reads : ReadsLines before.input.bytes outcomes.TooMuch after.input.bytes does.lines =
    subst (λ (o : Outcome). ReadsLines before.input.bytes o after.input.bytes does.lines)
    (serving_too_much does.read_so address does.events most before after does.ends) does.reads in
    not_within before.input.bytes after.input.bytes does.lines reads within
too_much_of (Some (make count seed budget)) remarks before after does within = absurd does.0
too_much_of (Some help) remarks before after does within = absurd does.0
too_much_of (Some (say budget)) remarks before after does within =
    not_within_so before.input.bytes after.input.bytes does.0.read_so does.0.lines does.0.reads
    (retelling_too_much (IsSaid does.0.last.wiki) does.0.read_so before.output.bytes after.output.bytes does.0.ends) within
too_much_of (Some (export budget)) remarks before after does within =
    not_within_so before.input.bytes after.input.bytes does.0.read_so does.0.lines does.0.reads
    (retelling_too_much (IsFile does.0.last.wiki) does.0.read_so before.output.bytes after.output.bytes does.0.ends) within
too_much_of (Some (check budget)) remarks before after does within =
    not_above MOST_BYTES before.input.bytes after.input.bytes does.0.read does.0.source does.0.ends.0 within
too_much_of (Some import) remarks before after does within =
    not_above MOST_BYTES before.input.bytes after.input.bytes does.0.read does.0.source does.0.ends.0 within
too_much_of (Some (why article at name budget)) remarks before after does within =
    not_within_so before.input.bytes after.input.bytes does.0.read_so does.0.lines does.0.reads
    (retelling_too_much (IsWhy budget article at name does.0.last.wiki) does.0.read_so before.output.bytes after.output.bytes does.0.ends) within

cause_of : {S K L : Type 0} (command : Option Asked) (outcome : Outcome) (remarks : List ℕ) (before after : World S K L)
    → Does command outcome remarks before after
    → (outcome ≡ outcomes.ReadFault → Rose before.input.faults after.input.faults)
    → (outcome ≡ outcomes.WriteFault → Rose before.output.faults after.output.faults)
    → (outcome ≡ outcomes.LinkFault → Rose before.link.faults after.link.faults) → HasCause command outcome before after
cause_of command outcomes.Done remarks before after does read write link = tt
cause_of command outcomes.Usage remarks before after does read write link = tt
cause_of command outcomes.ReadFault remarks before after does read write link = read refl
cause_of command outcomes.WriteFault remarks before after does read write link = write refl
cause_of command outcomes.LinkFault remarks before after does read write link = link refl
cause_of command outcomes.TooMuch remarks before after does read write link = too_much_of command remarks before after does
cause_of command outcomes.Memory remarks before after does read write link = tt

-- each command may have no remarks
may_be_quiet : (command : Option Asked) → MayRemark command []
may_be_quiet None = refl
may_be_quiet (Some (replay budget)) = refl
may_be_quiet (Some (serve address budget most)) = refl
may_be_quiet (Some (make count seed budget)) = refl
may_be_quiet (Some help) = refl
may_be_quiet (Some (say budget)) = refl
may_be_quiet (Some (export budget)) = refl
may_be_quiet (Some (check budget)) = refl
may_be_quiet (Some import) = tt
may_be_quiet (Some (why article at name budget)) = refl

-- what was done for the command that the words are
pub performed : {S K L : Type 0} (words : List (List ℕ)) (command : Option Asked) (outcome : Outcome) (remarks : List ℕ) (before after : World S K L)
    → command ≡ command_of words → Does command outcome remarks before after → MayRemark command remarks
    → (outcome ≡ outcomes.ReadFault → Rose before.input.faults after.input.faults)
    → (outcome ≡ outcomes.WriteFault → Rose before.output.faults after.output.faults)
    → (outcome ≡ outcomes.LinkFault → Rose before.link.faults after.link.faults) → Performs words outcome remarks before after
performed words command outcome remarks before after is does may read write link =
    let asked_for : Does (command_of words) outcome remarks before after = subst (λ (c : Option Asked). Does c outcome remarks before after) is does in
    record {
      usage = usage_of (command_of words) outcome remarks before after asked_for;
      does = asked_for;
      remarks_are = subst (λ (c : Option Asked). MayRemark c remarks) is may;
      cause = cause_of (command_of words) outcome remarks before after asked_for read write link;
    }

-- what was done for the command that the words are, where nothing is remarked
pub performed_quietly : {S K L : Type 0} (words : List (List ℕ)) (command : Option Asked) (outcome ended : Outcome) (remarks : List ℕ)
    (before after : World S K L) → ended ≡ outcome → remarks ≡ [] → command ≡ command_of words → Does command outcome [] before after
    → (outcome ≡ outcomes.ReadFault → Rose before.input.faults after.input.faults)
    → (outcome ≡ outcomes.WriteFault → Rose before.output.faults after.output.faults)
    → (outcome ≡ outcomes.LinkFault → Rose before.link.faults after.link.faults) → Performs words ended remarks before after
performed_quietly words command outcome ended remarks before after ends quiet is does read write link =
    let without : Performs words outcome [] before after =
    performed words command outcome [] before after is does (may_be_quiet command) read write link in
    let at_end : Performs words ended [] before after = subst (λ (o : Outcome). Performs words o [] before after) (sym ends) without in
    subst (λ (r : List ℕ). Performs words ended r before after) (sym quiet) at_end

-- ---- ends that a command hasn't

pub makes_not : (count seed budget : ℕ) (taken : Option (List ℕ)) (outcome other : Outcome) (taken_after : Option (List ℕ))
    → MakesSummary (ace_wiki budget) count seed taken outcome taken_after → outcome ≡ other
    → MakesSummary (ace_wiki budget) count seed taken other taken_after
makes_not count seed budget taken outcome other taken_after makes is =
    subst (λ (o : Outcome). MakesSummary (ace_wiki budget) count seed taken o taken_after) is makes

pub helps_not : (outcome other : Outcome) (taken taken_after : Option (List ℕ)) → WritesHelp outcome taken taken_after → outcome ≡ other
    → WritesHelp other taken taken_after
helps_not outcome other taken taken_after helps is = subst (λ (o : Outcome). WritesHelp o taken taken_after) is helps
