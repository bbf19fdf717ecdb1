-- Lines that are stepped, and events that are handled after them.
use Rattle.std.proofs.Common.{◌≡◌, ℕ, List, [], ◌∷◌, ◌++◌, length, map, Option, Some, None, refl, sym, ap, subst, ◌∙◌, append-nil, inl, inr, IsTrue, arith, ◌<◌, ◌≤◌}
use Rattle.std.specs.Prelude.{Result, Ok, Err, IfOk, ⊤}
use Rattle.std.specs.List.{flat_map}
use Rattle.std.specs.Io.KnownBytes.{IsAtEnd}
use Rattle.wiki_io.specs.declared.limits.TheConstants.{MAX_INPUT}
use Rattle.wiki_io.specs.declared.links.Event.{Event}
use Rattle.wiki_io.specs.declared.reader.Line.{Line}
use Rattle.wiki_io.specs.Lines.{InputLine}
use Rattle.wiki_io.specs.Link.{with_more}
use Rattle.wiki_io.specs.Reading.{Reading, answered, ReadsLine, HasNoLine}
use Rattle.wiki_talk.specs.declared.requests.LineRequest.{LineRequest}
use Rattle.wiki_talk.specs.declared.replies.Reply.{Reply}
use Rattle.wiki_talk.specs.Turns.{Exchange, answered as answered_by, no_request}
use Rattle.wire_json.specs.Replies.{reply_line}
use Rattle.server.specs.Kept.{Kept}
use Rattle.server.proofs.RunLemmas.{own_each}
use Rattle.serving.specs.declared.serving.Served.{Served}
use Rattle.serving.specs.declared.serving.Served.TheVariants as served
use Rattle.serving.specs.Handling.{turn_in, response_in}
use Rattle.serving.specs.Events.{Outside, RunsEvents, RunsAll, EndsServing as EndsServingSo, Ended}
use Rattle.serving.proofs.ServeLemmas.{told_same}
use Rattle.serving.proofs.DeliverLemmas.{Delivers-whole, with_more-nil}
use Rattle.serving.proofs.EventLemmas.{RunsEvents-none}
use Rattle.turning.proofs.RunLemmas.{tokens_own_recalling}
use Rattle.command_line.specs.declared.command.Outcome.{Outcome}
use Rattle.command_line.specs.declared.command.Outcome.TheVariants as outcomes
use Rattle.commands.specs.Lines.{asked, told, StepsLine, StepsLines}
use Rattle.commands.specs.Steps.{StepsInput, outcome_of, ServesLink}
use Rattle.commands.specs.Theorem.{Stream, Network, World, outside_of, EndsReading, Replays, AnswersAsPlainWiki, EndsAt, IsUntouched, ListensAt, EndsServing, Serves}
use Rattle.commands.specs.Wiki.{Holding, Recalling, KeptStep, KeptTurn}
use Rattle.commands.proofs.RunLemmas.{Running, Running-line, Replays-none, Replays-end, Replays-end_last, Replays-fault, Replays-too_large, Replays-cut}

-- ---- lines that are stepped

-- what was stepped, whatever was written
steps_of : (start : Recalling) (first taken : Option (List ℕ)) (outcome : Outcome) (left_after taken_after : Option (List ℕ)) (last : Recalling)
    (replays : Replays start first taken outcome left_after taken_after)
    → (outcome ≡ outcomes.Done → replays.last ≡ last) → StepsInput start first outcome left_after last
steps_of start first taken outcome left_after taken_after last replays last_is = record {
  lines = replays.lines;
  reads = replays.reads;
  exchanges = replays.exchanges;
  reached = replays.last;
  steps = replays.steps;
  last_is = last_is;
}

-- it ended before the end of the input
pub steps_other : (start : Recalling) (first taken : Option (List ℕ)) (outcome : Outcome) (left_after taken_after : Option (List ℕ)) (last : Recalling)
    → (outcome ≡ outcomes.Done → ⊥)
    → Replays start first taken outcome left_after taken_after → StepsInput start first outcome left_after last
steps_other start first taken outcome left_after taken_after last not_done replays =
    steps_of start first taken outcome left_after taken_after last replays (λ is. absurd (not_done is))

module _ (start : Recalling) (first left : Option (List ℕ)) (old : Reading) (wiki : Recalling) (input_first input : ℕ)
    (run : Running start first None left old wiki None input_first input 0 0)
    (said : Line) (new : Reading) (left_after : Option (List ℕ)) (call : ReadsLine left old said new left_after) (end : IsTrue new.ended → IsAtEnd left_after)
  where
    pub steps_end : answered said new.line ≡ [] → new.pending ≡ [] → new.count ≤ MAX_INPUT → IsAtEnd left_after
        → StepsInput start first outcomes.Done left_after wiki
    steps_end none pending within at_end = steps_of start first None outcomes.Done left_after None wiki
        (Replays-end start first None left old wiki None input_first input 0 0 run said new left_after call end none pending within at_end)
        (λ _. Replays-end_last start first None left old wiki None input_first input 0 0 run said new left_after call end none pending within at_end)

    pub steps_fault : answered said new.line ≡ [] → HasNoLine new → (last : Recalling) → StepsInput start first outcomes.ReadFault left_after last
    steps_fault none no_line last = steps_other start first None outcomes.ReadFault left_after None last (λ is. cc is)
        (Replays-fault start first None left old wiki None input_first input 0 0 run said new left_after call end none no_line)

    pub steps_too_large : MAX_INPUT < new.count → (last : Recalling) → StepsInput start first outcomes.TooMuch left_after last
    steps_too_large large last = steps_other start first None outcomes.TooMuch left_after None last (λ is. cc is)
        (Replays-too_large start first None left old wiki None input_first input 0 0 run said new left_after call end large)

    pub steps_memory : (line : InputLine) → answered said new.line ≡ line ∷ [] → (last : Recalling) → StepsInput start first outcomes.Memory left_after last
    steps_memory line gives last = steps_other start first None outcomes.Memory left_after None last (λ is. cc is)
        (Replays-cut start first None left old wiki None input_first input 0 0 run said new left_after call end line gives outcomes.Memory wiki None
        (record { state = inl refl; written = tt }))

    pub Running-step : (line : InputLine) → answered said new.line ≡ line ∷ [] → (wiki_after : Recalling) (input_after : ℕ) → new.count ≤ MAX_INPUT
        → (exchange : Exchange LineRequest Reply) × StepsLine wiki line exchange wiki_after → input ≤ input_after
        → Running start first None left_after new wiki_after None input_first input_after 0 0
    Running-step line gives wiki_after input_after within stepped kept =
        Running-line start first None left old wiki None input_first input 0 0 run said new left_after call end line gives wiki_after None input_after 0 within
        (record { reply = told stepped.0; replies = record { exchange = stepped.0; steps = stepped.1; is_told = refl }; written = tt }) kept (omega arith)

-- what a step on the request of a line is to the line
pub stepped_request : (old : Recalling) (line : InputLine) (new : Recalling) (request : LineRequest) → Some request ≡ asked line
    → (reply : Reply) × KeptTurn old request reply new
    → (exchange : Exchange LineRequest Reply) × StepsLine old line exchange new
stepped_request old line new request is_asked stepped = (answered_by request stepped.0, record { asked_now = is_asked; turn = stepped.1 })

-- a line that is no request changes nothing
pub stepped_none : (old : Recalling) (line : InputLine) → None ≡ asked line → (exchange : Exchange LineRequest Reply) × StepsLine old line exchange old
stepped_none old line is_asked = (no_request, record { asked_now = is_asked; turn = refl })

-- ---- the headline

-- lines were stepped, and then all of these events were handled
abbrev answers_of_run : (first : Recalling) (lines : List InputLine) (exchanges : List (Exchange LineRequest Reply)) (reached : Recalling)
    → StepsLines first lines exchanges reached
    → (outside : Outside) (events : List Event) (last : Holding) (kept : List Kept) (outside_after : Outside)
    → RunsEvents KeptStep reached.wiki [] outside events last kept outside_after → AnswersAsPlainWiki first lines outside events outside_after
answers_of_run first lines exchanges reached steps outside events last kept outside_after run = record {
  of_lines = exchanges;
  asked_then = steps.asked_then;
  handlings = run.handlings;
  kept = kept;
  turns = run.turns;
  own = own_each events (map turn_in run.handlings) kept run.turns;
  in_lines = run.in_lines;
  last = last;
  run = record { mid = reached; turns = steps.turns; steps = run.steps };
  tokens = tokens_own_recalling first.wiki.state.stored.grammar;
  journal = run.journal;
  responses = run.responses;
  whole = Delivers-whole (flat_map response_in run.handlings) outside.sent outside_after.sent outside.send_faults outside_after.send_faults run.responses;
}

-- ---- serving that ends with the lines of the input

-- nothing was read yet
pub StepsInput-none : (start : Recalling) (left : Option (List ℕ)) (last : Recalling) → StepsInput start left outcomes.Memory left last
StepsInput-none start left last = steps_other start left None outcomes.Memory left None last (λ is. cc is) (Replays-none start left None)

-- a command can end so before the lines of its input are all stepped
abbrev pub EndsInput : Outcome → Type 0
EndsInput outcomes.ReadFault = ⊤
EndsInput outcomes.TooMuch = ⊤
EndsInput outcomes.Memory = ⊤
EndsInput outcome = ⊥

-- how the lines of an input can end
pub ends_input : (outcome : Outcome) (read : List ℕ) (left : Option (List ℕ)) (lines : List InputLine) → EndsReading outcome read left lines
    → (outcome ≡ outcomes.Done → ⊥) → (outcome ≡ outcomes.WriteFault → ⊥) → EndsInput outcome
ends_input outcomes.Done read left lines ends done write = done refl
ends_input outcomes.Usage read left lines ends done write = ends
ends_input outcomes.ReadFault read left lines ends done write = tt
ends_input outcomes.WriteFault read left lines ends done write = write refl
ends_input outcomes.LinkFault read left lines ends done write = ends
ends_input outcomes.TooMuch read left lines ends done write = tt
ends_input outcomes.Memory read left lines ends done write = tt

none_at : (outcome : Outcome) → EndsInput outcome → (old : Holding) (kept : List Kept) (outside outside_after : Outside) → outside_after ≡ outside
    → EndsAt outcome old kept [] outside outside_after
none_at outcomes.Done ends old kept outside outside_after same = absurd ends
none_at outcomes.Usage ends old kept outside outside_after same = absurd ends
none_at outcomes.ReadFault ends old kept outside outside_after same = same
none_at outcomes.WriteFault ends old kept outside outside_after same = absurd ends
none_at outcomes.LinkFault ends old kept outside outside_after same = absurd ends
none_at outcomes.TooMuch ends old kept outside outside_after same = same
none_at outcomes.Memory ends old kept outside outside_after same = same

untouched : {S K L : Type 0} (outcome : Outcome) → EndsInput outcome → (address : List ℕ) (events : List Event) (most : ℕ) (before after : World S K L)
    → IsUntouched events before after → EndsServing outcome outcome address events most before after
untouched outcomes.Done ends address events most before after same = absurd ends
untouched outcomes.Usage ends address events most before after same = absurd ends
untouched outcomes.ReadFault ends address events most before after same = same
untouched outcomes.WriteFault ends address events most before after same = absurd ends
untouched outcomes.LinkFault ends address events most before after same = absurd ends
untouched outcomes.TooMuch ends address events most before after same = same
untouched outcomes.Memory ends address events most before after same = same

abbrev outside_with : {K L : Type 0} → Stream K → Network L → Outside
outside_with out net = record { journal = out.bytes; sent = net.sent; send_faults = net.send_faults }

outside_same : {S K L : Type 0} (before after : World S K L) → after.output ≡ before.output → after.link ≡ before.link
    → outside_of after ≡ outside_of before
outside_same {K} {L} before after output link =
    ap (λ (out : Stream K). outside_with out after.link) output ∙ ap (λ (net : Network L). outside_with before.output net) link

pub Serves-stopped : {S K L : Type 0} (first : Recalling) (address : List ℕ) (most : ℕ) (outcome : Outcome) (before after : World S K L) (last : Recalling)
    → StepsInput first before.input.bytes outcome after.input.bytes last → EndsInput outcome → after.output ≡ before.output → after.link ≡ before.link
    → Serves first address most outcome before after
Serves-stopped {L} first address most outcome before after last input ends output link =
    let outside = outside_of before in
    let answers : AnswersAsPlainWiki first input.lines outside [] outside =
    answers_of_run first input.lines input.exchanges input.reached input.steps outside [] input.reached.wiki [] outside
    (RunsEvents-none KeptStep input.reached.wiki [] outside) in
    record {
      read_so = outcome;
      lines = input.lines;
      reads = input.reads;
      events = [];
      are_handed = ap (λ (net : Network L). net.handed) link ∙ sym (with_more-nil before.link.handed);
      few = omega arith;
      answered = [];
      last_event = [];
      each = refl;
      outside_then = outside;
      answers = answers;
      at_last = none_at outcome ends answers.last answers.kept outside (outside_of after) (outside_same before after output link);
      ends = untouched outcome ends address [] most before after (refl, output, link);
    }

-- ---- serving that ends behind the lines of the input

module _ {S K L : Type 0} (first last : Recalling) (address : List ℕ) (most : ℕ) (before after : World S K L)
    (input : StepsInput first before.input.bytes outcomes.Done after.input.bytes last) where
  -- a run of events that begins where the lines end
  events_after : (events : List Event) (end : Holding) (kept : List Kept) (outside_after : Outside)
      → RunsEvents KeptStep last.wiki [] (outside_of before) events end kept outside_after
      → RunsEvents KeptStep input.reached.wiki [] (outside_of before) events end kept outside_after
  events_after events end kept outside_after run =
      subst (λ (s : Recalling). RunsEvents KeptStep s.wiki [] (outside_of before) events end kept outside_after) (sym (input.last_is refl)) run

  abbrev answers_after : (events : List Event) (end : Holding) (kept : List Kept) (outside_after : Outside)
      → RunsEvents KeptStep last.wiki [] (outside_of before) events end kept outside_after
      → AnswersAsPlainWiki first input.lines (outside_of before) events outside_after
  answers_after events end kept outside_after run =
      answers_of_run first input.lines input.exchanges input.reached input.steps (outside_of before) events end kept outside_after
      (events_after events end kept outside_after run)

  -- all events were answered
  Serves-all : (outcome : Outcome) (events : List Event) → after.link.handed ≡ with_more before.link.handed events → length events ≤ most
      → RunsAll KeptStep last.wiki (outside_of before) events (outside_of after)
      → ((old : Holding) (kept : List Kept) → EndsAt outcome old kept [] (outside_of after) (outside_of after))
      → EndsServing outcomes.Done outcome address events most before after → Serves first address most outcome before after
  Serves-all outcome events are_handed few all at_last ends = record {
    read_so = outcomes.Done;
    lines = input.lines;
    reads = input.reads;
    events = events;
    are_handed = are_handed;
    few = few;
    answered = events;
    last_event = [];
    each = sym (append-nil events);
    outside_then = outside_of after;
    answers = answers_after events all.last all.kept (outside_of after) all.run;
    at_last = at_last all.last all.kept;
    ends = ends;
  }

  -- all but a last one
  Serves-but_last : (outcome : Outcome) (events handled : List Event) (event : Event) (end : Holding) (kept : List Kept) (outside_then : Outside)
      → after.link.handed ≡ with_more before.link.handed events → length events ≤ most → events ≡ handled ++ event ∷ []
      → RunsEvents KeptStep last.wiki [] (outside_of before) handled end kept outside_then
      → EndsAt outcome end kept (event ∷ []) outside_then (outside_of after)
      → EndsServing outcomes.Done outcome address events most before after → Serves first address most outcome before after
  Serves-but_last outcome events handled event end kept outside_then are_handed few each run at_last ends = record {
    read_so = outcomes.Done;
    lines = input.lines;
    reads = input.reads;
    events = events;
    are_handed = are_handed;
    few = few;
    answered = handled;
    last_event = event ∷ [];
    each = each;
    outside_then = outside_then;
    answers = answers_after handled end kept outside_then run;
    at_last = at_last;
    ends = ends;
  }

  Serves-ended : ListensAt address after.link → (served_so : Served) (events : List Event) → after.link.handed ≡ with_more before.link.handed events
      → length events ≤ most
      → EndsServingSo KeptStep last.wiki most (outside_of before) events served_so after.link.coming (outside_of after)
      → Serves first address most (outcome_of served_so) before after
  Serves-ended listens served.Done events are_handed few ends =
      Serves-all outcomes.Done events are_handed few ends.0 (λ old kept. refl) (listens, ends.1)
  Serves-ended listens served.LinkFault events are_handed few ends =
      Serves-all outcomes.LinkFault events are_handed few ends (λ old kept. refl) (inl listens)
  Serves-ended listens served.JournalFault events are_handed few ends =
      Serves-but_last outcomes.WriteFault events ends.handled ends.last_event ends.before ends.kept ends.outside_before are_handed few ends.all ends.run
      (ends.last, ends.kept_after, ends.cut, ends.unsent.0, ends.unsent.1) listens
  Serves-ended listens served.Memory events are_handed few (inl all) = Serves-all outcomes.Memory events are_handed few all (λ old kept. refl) listens
  Serves-ended listens served.Memory events are_handed few (inr until) =
      Serves-but_last outcomes.Memory events until.handled until.last_event until.before until.kept (outside_of after) are_handed few until.all until.run
      ((until.last, until.was_handled), refl) listens

  -- the link could not listen
  Serves-unheard : outside_of after ≡ outside_of before → after.link.handed ≡ before.link.handed → Serves first address most outcomes.LinkFault before after
  Serves-unheard same same_handed =
      Serves-all outcomes.LinkFault [] (same_handed ∙ sym (with_more-nil before.link.handed)) (omega arith)
      (record {
        last = last.wiki;
        kept = [];
        run = subst (λ (o : Outside). RunsEvents KeptStep last.wiki [] (outside_of before) [] last.wiki [] o) (sym same)
            (RunsEvents-none KeptStep last.wiki [] (outside_of before));
      })
      (λ old kept. refl) (inr (refl, same))

-- the lines of the input, and then the link
pub Serves-link : {S K L : Type 0} (first last : Recalling) (address : List ℕ) (most : ℕ) (stepped outcome : Outcome) (before after : World S K L)
    → stepped ≡ outcomes.Done → StepsInput first before.input.bytes stepped after.input.bytes last → (served : Holding) → served ≡ last.wiki
    → ServesLink served most (outside_of before) before.link.handed outcome (after.link.listens_at address) (outside_of after) after.link.handed
    after.link.coming
    → Serves first address most outcome before after
Serves-link first last address most stepped outcome before after done input served same serves =
    let all : StepsInput first before.input.bytes outcomes.Done after.input.bytes last =
    subst (λ (o : Outcome). StepsInput first before.input.bytes o after.input.bytes last) done input in
    let by_link =
    subst
    (λ (wiki : Holding). ServesLink wiki most (outside_of before) before.link.handed outcome (after.link.listens_at address) (outside_of after)
    after.link.handed after.link.coming)
    same serves in
    elim by_link [
      | inl heard ↦
          let ended = heard.1.2 in
          subst (λ (o : Outcome). Serves first address most o before after) (sym heard.1.1)
          (Serves-ended first last address most before after all heard.0 heard.1.0 ended.0 ended.1 ended.2 ended.3)
      | inr unheard ↦
          subst (λ (o : Outcome). Serves first address most o before after) (sym unheard.0)
          (Serves-unheard first last address most before after all unheard.1 unheard.2)
    ]

-- ---- the link

pub fault_of_journal : (s : Served) → outcomes.WriteFault ≡ outcome_of s → s ≡ served.JournalFault
fault_of_journal served.Done is = absurd (cc is)
fault_of_journal served.LinkFault is = absurd (cc is)
fault_of_journal served.JournalFault is = refl
fault_of_journal served.Memory is = absurd (cc is)

pub no_read_fault : (s : Served) (outcome : Outcome) → outcome ≡ outcome_of s → outcome ≡ outcomes.ReadFault → ⊥
no_read_fault served.Done outcome is fault = cc (is, fault)
no_read_fault served.LinkFault outcome is fault = cc (is, fault)
no_read_fault served.JournalFault outcome is fault = cc (is, fault)
no_read_fault served.Memory outcome is fault = cc (is, fault)

-- what the link told before it listened
pub served_same : (first : Holding) (most : ℕ) (journal : Option (List ℕ)) (sent sent_then : Option (List (ℕ × List ℕ))) (faults faults_then : ℕ)
    (handed handed_then handed_after : Option (List Event)) (s : Served) (left : Option (List Event)) (after : Outside)
    → sent_then ≡ sent → faults_then ≡ faults → handed_then ≡ handed
    → Ended KeptStep first (record { journal = journal; sent = sent_then; send_faults = faults_then }) handed_then most handed_after s left after
    → Ended KeptStep first (record { journal = journal; sent = sent; send_faults = faults }) handed most handed_after s left after
served_same first most journal sent sent_then faults faults_then handed handed_then handed_after s left after same_sent same_faults same_handed ended =
    subst (λ (h : Option (List Event)). Ended KeptStep first (record { journal = journal; sent = sent; send_faults = faults }) h most handed_after s left after)
    same_handed
    (subst (λ (o : Outside). Ended KeptStep first o handed_then most handed_after s left after)
    (told_same journal sent sent_then faults faults_then same_sent same_faults) ended)

-- ---- a reply and its line

pub with_line : {E : Type 0} (old : Recalling) (request : LineRequest) (new : Recalling) (reply : Reply) (r : Result (List ℕ) E)
    → KeptTurn old request reply new
    → IfOk r (λ line. line ≡ reply_line reply)
    → IfOk r (λ line. (told : Reply) × KeptTurn old request told new × (line ≡ reply_line told))
with_line old request new reply (Ok line) stepped is = (reply, stepped, is)
with_line old request new reply (Err e) stepped is = tt
