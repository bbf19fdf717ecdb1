-- Runs that go on by one line, and runs that end.
use Rattle.std.proofs.Common.{◌≡◌, ℕ, ◌-◌, ◌<◌, ◌≤◌, List, [], ◌∷◌, ◌++◌, length, take, drop, map, Option, Some, None, IsTrue, refl, sym, ap, subst, ◌∙◌, append_assoc, append-nil, arith, take-append-drop, ◌⊎◌, inl, inr, ◌↔◌}
use Rattle.std.proofs.lemmas.Bool.{false≢true, cases_lt}
use Rattle.std.proofs.lemmas.Grind.{flat_map-append}
use Rattle.std.proofs.lemmas.List.{map_push, length-append, take_at}
use Rattle.std.specs.Io.KnownBytes.{Appends, Keeps, Consumes, IsAtEnd}
use Rattle.wiki_io.specs.declared.limits.TheConstants.{MAX_INPUT}
use Rattle.wiki_io.specs.declared.reader.Line.{Line}
use Rattle.wiki_io.specs.declared.reader.Line.TheVariants as said_by
use Rattle.wiki_io.specs.Faults.{Rose}
use Rattle.wiki_io.specs.Lines.{InputLine, input_lines, Begins, AreKnown, AreReadLines}
use Rattle.wiki_io.specs.Reading.{Reading, unread, answered, ReadsLine, HasNoLine, HasGivenFrom}
use Rattle.wiki_io.proofs.KnownLemmas.{Appends-nil, Appends-trans, Appends-kept, Consumes-nil}
use Rattle.wiki_io.proofs.ReadingLemmas.{HasGivenFrom-unread, HasGivenFrom-call, HasGiven-end, HasGiven-fault, HasGiven-known, AreKnown-front}
use Rattle.wiki_talk.specs.declared.requests.LineRequest.{LineRequest}
use Rattle.wiki_talk.specs.declared.replies.Reply.{Reply}
use Rattle.wiki_talk.specs.Turns.{Exchange, answered as answered_by, request_in}
use Rattle.wire_json.specs.Replies.{reply_line}
use Rattle.wiki_talk.proofs.TurnLemmas.{Turns-push}
use Rattle.commands.specs.Wiki.{Recalling, KeptTurn}
use Rattle.command_line.specs.declared.command.Outcome.{Outcome}
use Rattle.command_line.specs.declared.command.Outcome.TheVariants.{Done, ReadFault, WriteFault, TooMuch, Memory}
use Rattle.commands.specs.Lines.{asked, told, reply_lines, StepsLine, StepsLines, RepliesTo, WasStepped, AnswersLine, BeginsAnswer, CutsLine}
use Rattle.commands.specs.Theorem.{EndsReading, but_last, Replays}

-- ---- one line

-- what a step on the request of a line is to the line
pub RepliesTo-step : (old : Recalling) (line : InputLine) (new : Recalling) (request : LineRequest) (bytes : List ℕ) → Some request ≡ asked line
    → (reply : Reply) × KeptTurn old request reply new × (bytes ≡ reply_line reply) → RepliesTo old line new bytes
RepliesTo-step old line new request bytes is_asked stepped = record {
  exchange = answered_by request stepped.0;
  steps = record { asked_now = is_asked; turn = stepped.1 };
  is_told = stepped.2;
}

pub WasStepped-step : (old : Recalling) (line : InputLine) (new : Recalling) (request : LineRequest) → Some request ≡ asked line
    → (new ≡ old) ⊎ ((reply : Reply) × KeptTurn old request reply new) → WasStepped old line new
WasStepped-step old line new request is_asked (inl same) = inl same
WasStepped-step old line new request is_asked (inr stepped) = inr (answered_by request stepped.0, record { asked_now = is_asked; turn = stepped.1 })

-- ---- one more line

StepsLines-none : (first : Recalling) → StepsLines first [] [] first
StepsLines-none first = record { asked_then = refl; turns = refl }

StepsLines-push : (first : Recalling) (lines : List InputLine) (line : InputLine) (exchanges : List (Exchange LineRequest Reply))
    (exchange : Exchange LineRequest Reply)
    (before last : Recalling)
    → StepsLines first lines exchanges before → StepsLine before line exchange last → StepsLines first (lines ++ line ∷ []) (exchanges ++ exchange ∷ []) last
StepsLines-push first lines line exchanges exchange before last steps one = record {
  asked_then = map_push request_in exchanges exchange ∙ ap (λ l. l ++ request_in exchange ∷ []) steps.asked_then
      ∙ ap (λ o. map asked lines ++ o ∷ []) one.asked_now ∙ sym (map_push asked lines line);
  turns = Turns-push KeptTurn first exchanges exchange before last steps.turns one.turn;
}

reply_lines-push : (exchanges : List (Exchange LineRequest Reply)) (exchange : Exchange LineRequest Reply)
    → reply_lines (exchanges ++ exchange ∷ []) ≡ reply_lines exchanges ++ told exchange
reply_lines-push exchanges exchange = flat_map-append told exchanges (exchange ∷ [])
    ∙ ap (λ (l : List ℕ). reply_lines exchanges ++ l) (append-nil (told exchange))

but_last-push : (exchanges : List (Exchange LineRequest Reply)) (exchange : Exchange LineRequest Reply) → but_last (exchanges ++ exchange ∷ []) ≡ exchanges
but_last-push exchanges exchange =
    let size : length (exchanges ++ exchange ∷ []) - 1 ≡ length exchanges = omega (arith, length-append exchanges (exchange ∷ [])) in
    ap (λ (k : ℕ). take k (exchanges ++ exchange ∷ [])) size ∙ take_at exchanges (exchange ∷ []) (length exchanges) refl

-- the reply lines of all turns begin with those of all but the last
whole-all : (exchanges : List (Exchange LineRequest Reply)) → Begins (reply_lines (but_last exchanges)) (reply_lines exchanges)
whole-all exchanges =
    let k = length exchanges - 1 in
    (reply_lines (drop k exchanges), ap reply_lines (sym (take-append-drop k exchanges)) ∙ flat_map-append told (take k exchanges) (drop k exchanges))

Begins-refl : (l : List ℕ) → Begins l l
Begins-refl l = ([], sym (append-nil l))

-- ---- in the midst of a run

-- The lines that were given so far were stepped and answered, at a moment at which the input has `left` left and the
-- reader stands so. The counts of faults have not fallen.
pub record Running (start : Recalling) (first taken_first : Option (List ℕ)) (left : Option (List ℕ)) (reader : Reading) (wiki : Recalling)
    (taken : Option (List ℕ)) (input_first input output_first output : ℕ) : Type 0 where
  pub given : List InputLine
  pub lines : HasGivenFrom first given reader left
  pub at_end : IsTrue reader.ended → IsAtEnd left
  pub within : reader.count ≤ MAX_INPUT
  pub exchanges : List (Exchange LineRequest Reply)
  pub steps : StepsLines start given exchanges wiki
  pub sink : Appends taken_first taken (reply_lines exchanges)
  pub input_faults : input_first ≤ input
  pub output_faults : output_first ≤ output

pub Running-first : (start : Recalling) (first taken : Option (List ℕ)) (reader : Reading) (wiki : Recalling) (input output : ℕ) → reader ≡ unread
    → wiki ≡ start
    → Running start first taken first reader wiki taken input input output output
Running-first start first taken reader wiki input output fresh is_start =
    subst (λ r. Running start first taken first r wiki taken input input output output) (sym fresh)
    (subst (λ w. Running start first taken first unread w taken input input output output) (sym is_start) (record {
      given = [];
      lines = HasGivenFrom-unread first;
      at_end = λ ended. absurd (false≢true ended);
      within = omega arith;
      exchanges = [];
      steps = StepsLines-none start;
      sink = Appends-nil taken;
      input_faults = omega arith;
      output_faults = omega arith;
    }))

-- ---- the end of an input

read_all : (bytes read : List ℕ) (left : Option (List ℕ)) → Consumes (Some bytes) left read → IsAtEnd left → read ≡ bytes
read_all bytes read None consumes at_end = absurd consumes
read_all bytes read (Some rest) consumes at_end = sym (append-nil read) ∙ ap (λ bs. read ++ bs) (sym at_end) ∙ sym consumes

-- what was read up to the end of an input that tells its bytes is all of it
all_read : (first left : Option (List ℕ)) (read bytes : List ℕ) → Consumes first left read → IsAtEnd left → first ≡ Some bytes → read ≡ bytes
all_read first left read bytes source at_end told = read_all bytes read left (subst (λ l. Consumes l left read) told source) at_end

-- ---- one call of the reader further

module _ (start : Recalling) (first taken_first left : Option (List ℕ)) (old : Reading) (wiki : Recalling) (taken : Option (List ℕ))
    (input_first input output_first output : ℕ)
    (run : Running start first taken_first left old wiki taken input_first input output_first output)
    (said : Line) (new : Reading) (left_after : Option (List ℕ)) (call : ReadsLine left old said new left_after)
    (end : IsTrue new.ended → IsAtEnd left_after) where
  called : HasGivenFrom first (run.given ++ answered said new.line) new left_after
  called = HasGivenFrom-call first run.given old new left left_after said run.lines call

  known : AreKnown called.bytes left_after (run.given ++ answered said new.line)
  known = HasGiven-known called.bytes (run.given ++ answered said new.line) new left_after called.lines end

  none_given : answered said new.line ≡ [] → run.given ++ answered said new.line ≡ run.given
  none_given none = ap (λ (more : List InputLine). run.given ++ more) none ∙ append-nil run.given

  -- it ends with all lines so far answered
  Replays-answered : (outcome : Outcome) → EndsReading outcome called.bytes left_after run.given
      → (outcome ≡ Done → (bytes : List ℕ) → first ≡ Some bytes → run.given ≡ input_lines bytes)
      → (taken_after : Option (List ℕ)) → Appends taken taken_after [] → Replays start first taken_first outcome left_after taken_after
  Replays-answered outcome ends all taken_after kept = record {
    lines = run.given;
    reads = record {
      read = called.bytes;
      source = called.source;
      known = AreKnown-front called.bytes left_after run.given (answered said new.line) known;
      ends = ends;
      all = all;
    };
    exchanges = run.exchanges;
    last = wiki;
    steps = run.steps;
    written = reply_lines run.exchanges;
    sink = Appends-kept taken_first taken taken_after (reply_lines run.exchanges) run.sink kept;
    front = Begins-refl (reply_lines run.exchanges);
    whole = whole-all run.exchanges;
    all = λ _ _. refl;
  }

  given_all : answered said new.line ≡ [] → new.pending ≡ [] → run.given ≡ input_lines called.bytes
  given_all none pending = sym (none_given none) ∙ HasGiven-end called.bytes (run.given ++ answered said new.line) new called.lines pending

  pub Replays-end : answered said new.line ≡ [] → new.pending ≡ [] → new.count ≤ MAX_INPUT → IsAtEnd left_after
      → Replays start first taken_first Done left_after taken
  Replays-end none pending within at_end = Replays-answered Done (at_end, omega (arith, called.count, within), given_all none pending)
      (λ _ bytes told. given_all none pending ∙ ap input_lines (all_read first left_after called.bytes bytes called.source at_end told))
      taken (Appends-nil taken)

  -- and leaves the wiki as it is
  pub Replays-end_last : (none : answered said new.line ≡ []) (pending : new.pending ≡ []) (within : new.count ≤ MAX_INPUT) (at_end : IsAtEnd left_after)
      → (Replays-end none pending within at_end).last ≡ wiki
  unfolding Replays-end Replays-answered
  Replays-end_last none pending within at_end = refl

  pub Replays-fault : answered said new.line ≡ [] → HasNoLine new → Replays start first taken_first ReadFault left_after taken
  Replays-fault none no_line = Replays-answered ReadFault
      (subst (AreReadLines called.bytes) (none_given none) (HasGiven-fault called.bytes (run.given ++ answered said new.line) new called.lines no_line))
      (λ is. absurd (cc is)) taken (Appends-nil taken)

  pub Replays-too_large : MAX_INPUT < new.count → Replays start first taken_first TooMuch left_after taken
  Replays-too_large large = Replays-answered TooMuch (omega (arith, called.count, large)) (λ is. absurd (cc is)) taken (Appends-nil taken)

  module _ (line : InputLine) (gives : answered said new.line ≡ line ∷ []) where
    more_given : run.given ++ answered said new.line ≡ run.given ++ line ∷ []
    more_given = ap (λ (more : List InputLine). run.given ++ more) gives

    -- a reply that was cut
    Replays-begun : (wiki_after : Recalling) (taken_after : Option (List ℕ)) → BeginsAnswer wiki line taken wiki_after taken_after
        → Replays start first taken_first WriteFault left_after taken_after
    Replays-begun wiki_after taken_after begun =
        let exchange = begun.replies.exchange in
        let part = take begun.count begun.reply in
        record {
          lines = run.given ++ line ∷ [];
          reads = record {
            read = called.bytes;
            source = called.source;
            known = subst (AreKnown called.bytes left_after) more_given known;
            ends = tt;
            all = λ is. absurd (cc is);
          };
          exchanges = run.exchanges ++ exchange ∷ [];
          last = wiki_after;
          steps = StepsLines-push start run.given line run.exchanges exchange wiki wiki_after run.steps begun.replies.steps;
          written = reply_lines run.exchanges ++ part;
          sink = Appends-trans taken_first taken taken_after (reply_lines run.exchanges) part run.sink begun.written;
          front = (
            drop begun.count begun.reply,
            reply_lines-push run.exchanges exchange
                ∙ ap (λ (l : List ℕ). reply_lines run.exchanges ++ l) (sym begun.replies.is_told ∙ sym (take-append-drop begun.count begun.reply))
                ∙ sym (append_assoc (reply_lines run.exchanges) part (drop begun.count begun.reply)),
          );
          whole = (part, ap (λ (es : List (Exchange LineRequest Reply)). reply_lines es ++ part) (sym (but_last-push run.exchanges exchange)));
          all = λ not _. absurd (not refl);
        }

    -- the line had no whole reply
    pub Replays-cut : (outcome : Outcome) (wiki_after : Recalling) (taken_after : Option (List ℕ)) → CutsLine outcome wiki line taken wiki_after taken_after
        → Replays start first taken_first outcome left_after taken_after
    Replays-cut WriteFault wiki_after taken_after cut = Replays-begun wiki_after taken_after cut
    Replays-cut Memory wiki_after taken_after cut =
        Replays-answered Memory tt (λ is. absurd (cc is)) taken_after (Appends-none taken taken_after cut.written)
      where
        Appends-none : (a b : Option (List ℕ)) → Keeps a b → Appends a b []
        Appends-none None b kept = tt
        Appends-none (Some xs) None kept = kept
        Appends-none (Some xs) (Some ys) kept = kept ∙ sym (append-nil xs)
    Replays-cut Done wiki_after taken_after cut = absurd cut
    Replays-cut ReadFault wiki_after taken_after cut = absurd cut
    Replays-cut TooMuch wiki_after taken_after cut = absurd cut
    Replays-cut outcome wiki_after taken_after cut = absurd cut

    -- a reply that was written whole
    pub Running-line : (wiki_after : Recalling) (taken_after : Option (List ℕ)) (input_after output_after : ℕ) → new.count ≤ MAX_INPUT
        → AnswersLine wiki line taken wiki_after taken_after
        → input ≤ input_after → output ≤ output_after
        → Running start first taken_first left_after new wiki_after taken_after input_first input_after output_first output_after
    Running-line wiki_after taken_after input_after output_after within answers input_kept output_kept =
        let exchange = answers.replies.exchange in
        record {
          given = run.given ++ line ∷ [];
          lines = subst (λ (given : List InputLine). HasGivenFrom first given new left_after) more_given called;
          at_end = end;
          within = within;
          exchanges = run.exchanges ++ exchange ∷ [];
          steps = StepsLines-push start run.given line run.exchanges exchange wiki wiki_after run.steps answers.replies.steps;
          sink = subst (Appends taken_first taken_after)
              (ap (λ (l : List ℕ). reply_lines run.exchanges ++ l) answers.replies.is_told ∙ sym (reply_lines-push run.exchanges exchange))
              (Appends-trans taken_first taken taken_after (reply_lines run.exchanges) answers.reply run.sink answers.written);
          input_faults = omega (arith, run.input_faults);
          output_faults = omega (arith, run.output_faults);
        }

-- the source ended in this call or before
pub at_end-call : (left left_after : Option (List ℕ)) (old new : Reading) → (IsTrue old.ended → IsAtEnd left)
    → (IsTrue new.ended → IsTrue old.ended ⊎ IsAtEnd left_after) → (IsTrue old.ended → left_after ≡ left)
    → IsTrue new.ended → IsAtEnd left_after
at_end-call left left_after old new before nothing same ended = elim (nothing ended) [ inl was ↦ subst IsAtEnd (sym (same was)) (before was) | inr end ↦ end ]

-- nothing was read or written yet
pub Replays-none : (start : Recalling) (left taken : Option (List ℕ)) → Replays start left taken Memory left taken
Replays-none start left taken = record {
  lines = [];
  reads = record {
    read = [];
    source = Consumes-nil left;
    known = inl (λ rest. (input_lines rest, refl));
    ends = tt;
    all = λ is. absurd (cc is);
  };
  exchanges = [];
  last = start;
  steps = StepsLines-none start;
  written = [];
  sink = Appends-nil taken;
  front = ([], refl);
  whole = ([], refl);
  all = λ _ _. refl;
}

-- where a line was given, the input is not too large
pub within-call : (said : Line) (line : List ℕ) (given : InputLine) (count : ℕ) → answered said line ≡ given ∷ []
    → (said ≡ said_by.TooMuch) ↔ (MAX_INPUT < count) → count ≤ MAX_INPUT
within-call said line given count gives too_much = elim (cases_lt MAX_INPUT count) [
  | inl over ↦ absurd (nil≢cons (ap (λ (a : Line). answered a line) (sym (too_much.1 over)) ∙ gives))
  | inr within ↦ within
]
  where
    nil≢cons : [] ≡ given ∷ [] → ⊥
    nil≢cons is = cc

-- where the end was told, it is not too large either
pub within-end : (said : Line) (count : ℕ) → said ≡ said_by.End → (said ≡ said_by.TooMuch) ↔ (MAX_INPUT < count) → count ≤ MAX_INPUT
within-end said count ended too_much = elim (cases_lt MAX_INPUT count) [
  | inl over ↦ absurd (end_is_not (sym ended ∙ too_much.1 over))
  | inr within ↦ within
]
  where
    end_is_not : said_by.End ≡ said_by.TooMuch → ⊥
    end_is_not is = cc

-- a count that rose after it had not fallen
pub Rose-later : (first before now : ℕ) → first ≤ before → Rose before now → Rose first now
Rose-later first before now kept rose = omega arith
