-- The lines of requests read back as those requests, one after another.
use Rattle.std.proofs.Common.{◌≡◌, inl, inr, ℕ, ◌<◌, Bool, true, false, cond, eqb, List, [], ◌∷◌, ◌++◌, length, map, All, flat_map, Option, Some, option_map, refl, sym, ap, ◌∙◌}
use Rattle.std.specs.Prelude.{codes, option_and_then}
use Rattle.std.specs.Option.{option_or}
use Rattle.std.specs.List.{onto_first}
use Rattle.std.proofs.lemmas.Bool.{eqb-true}
use Rattle.std.proofs.lemmas.List.{append_assoc, append-nil, map-append}
use Rattle.std.proofs.lemmas.List.Elements.{All-nil, All-cons, All-head, All-tail}
use Rattle.wiki_io.specs.Lines.{cut_lines, HasNoNewline, InputLine, text, line_of, input_lines}
use Rattle.wiki_io.specs.declared.limits.TheConstants.{NEWLINE, MAX_LINE}
use Rattle.wiki_io.proofs.LineLemmas.{cut_lines-line, line_of-short}
use Rattle.wiki_talk.specs.declared.requests.Request.{Request}
use Rattle.wiki_talk.specs.declared.requests.LineRequest.{LineRequest}
use Rattle.wiki_talk.specs.declared.requests.LineRequest.TheVariants.{Step}
use Rattle.serde_json.specs.Data.{Data}
use Rattle.wire_json.specs.Requests.{request_value, request_in, request_line, text_at, change_named, line_request_in, line_request_of}
use Rattle.wire_json.specs.Told.{CanBeTold, asked_for, request_text, IsToldChange, EndsLine, ended}
use Rattle.wire_json.proofs.LineLemmas.{line_request_of_read}
use Rattle.wire_json.proofs.TextLemmas.{IsUtf8-compact_text, HasNoNewline-compact_text}
use Rattle.wire_json.proofs.ReadLemmas.{IsTold-request, read-request_text, request_comes_back}
use Rattle.wire_json.proofs.LengthLemmas.{request_line-text, change-fits}
pub use Rattle.wire_json.proofs.LengthLemmas.{length-request_line, length-change_line}

-- ---- one line

comes_back : (value : Data) (r : Request) → request_in value ≡ Some r → line_request_in value ≡ asked_for r
unfolding line_request_in
comes_back value r is =
    ap (λ (o : Option Request). option_or (option_map Step o) (option_and_then change_named (text_at (codes "do") value))) is

-- the line of a request reads as that request, if it isn't too long
pub reads_back : (r : Request) → CanBeTold r → length (request_text r) < MAX_LINE → line_request_of (request_text r) ≡ asked_for r
reads_back r h short =
    line_request_of_read (request_text r) (request_value r) short (IsUtf8-compact_text (request_value r) (IsTold-request r h)) (read-request_text r h)
    ∙ comes_back (request_value r) r (request_comes_back r h)

-- it has no newline but the one at its end
pub is_one_line : (r : Request) → CanBeTold r → HasNoNewline (request_text r)
is_one_line r h = HasNoNewline-compact_text (request_value r) (IsTold-request r h)

-- ---- lines behind others

record FirstLine (front more : List ℕ) : Type 0 where
  line : List ℕ
  lines : List (List ℕ)
  alone : cut_lines (front ++ NEWLINE ∷ []) ≡ line ∷ lines
  followed : cut_lines (front ++ NEWLINE ∷ more) ≡ line ∷ (lines ++ cut_lines more)

first_line : (front more : List ℕ) → FirstLine front more
first_line [] more = record { line = []; lines = []; alone = refl; followed = refl }
first_line (b ∷ front) more =
    let rest = first_line front more in
    go b rest (eqb b NEWLINE) refl
  where
    go : (b : ℕ) → FirstLine front more → (t : Bool) → eqb b NEWLINE ≡ t → FirstLine (b ∷ front) more
    go b rest true is = record {
      line = [];
      lines = rest.line ∷ rest.lines;
      alone = rw is (ap (λ (l : List (List ℕ)). [] ∷ l) rest.alone);
      followed = rw is (ap (λ (l : List (List ℕ)). [] ∷ l) rest.followed);
    }
    go b rest false is = record {
      line = b ∷ rest.line;
      lines = rest.lines;
      alone = rw is (ap (λ (l : List (List ℕ)). onto_first b l) rest.alone);
      followed = rw is (ap (λ (l : List (List ℕ)). onto_first b l) rest.followed);
    }

-- whole lines and what follows them are cut each for itself
pub cut_lines-behind : (former more : List ℕ) → EndsLine former → cut_lines (former ++ more) ≡ cut_lines former ++ cut_lines more
cut_lines-behind former more (inl none) = rw none refl
cut_lines-behind former more (inr whole) =
    let first = first_line whole.0 more in
    ap (λ (l : List ℕ). cut_lines (l ++ more)) whole.1 ∙ ap cut_lines (append_assoc whole.0 (NEWLINE ∷ []) more) ∙ first.followed
    ∙ ap (λ (l : List (List ℕ)). l ++ cut_lines more) (sym (ap cut_lines whole.1 ∙ first.alone))

pub input_lines-behind : (former more : List ℕ) → EndsLine former → input_lines (former ++ more) ≡ input_lines former ++ input_lines more
input_lines-behind former more whole =
    ap (map line_of) (cut_lines-behind former more whole) ∙ map-append line_of (cut_lines former) (cut_lines more)

-- ---- an input whose last line may lack its newline

abbrev IsWhole : List ℕ → Type 0
IsWhole bytes = (front : List ℕ) × (bytes ≡ front ++ NEWLINE ∷ [])

ended_one : (b : ℕ) (t : Bool) → eqb b NEWLINE ≡ t → IsWhole (cond t (b ∷ []) (b ∷ NEWLINE ∷ []))
ended_one b true is = ([], ap (λ (c : ℕ). c ∷ []) (eqb-true b NEWLINE is))
ended_one b false is = (b ∷ [], refl)

ended_some : (b : ℕ) (bytes : List ℕ) → IsWhole (ended (b ∷ bytes))
ended_some b [] = ended_one b (eqb b NEWLINE) refl
ended_some b (c ∷ bytes) = let rest = ended_some c bytes in (b ∷ rest.0, ap (λ (l : List ℕ). b ∷ l) rest.1)

pub EndsLine-ended : (bytes : List ℕ) → EndsLine (ended bytes)
EndsLine-ended [] = inl refl
EndsLine-ended (b ∷ bytes) = inr (ended_some b bytes)

cut_one : (b : ℕ) (t : Bool) → eqb b NEWLINE ≡ t → cut_lines (cond t (b ∷ []) (b ∷ NEWLINE ∷ [])) ≡ cut_lines (b ∷ [])
cut_one b true is = refl
cut_one b false is = rw is refl

cut_lines-ended : (bytes : List ℕ) → cut_lines (ended bytes) ≡ cut_lines bytes
cut_lines-ended [] = refl
cut_lines-ended (b ∷ []) = cut_one b (eqb b NEWLINE) refl
cut_lines-ended (b ∷ c ∷ bytes) = ap (λ (l : List (List ℕ)). cond (eqb b NEWLINE) ([] ∷ l) (onto_first b l)) (cut_lines-ended (c ∷ bytes))

-- that newline makes no line more
pub input_lines-ended : (bytes : List ℕ) → input_lines (ended bytes) ≡ input_lines bytes
input_lines-ended bytes = ap (map line_of) (cut_lines-ended bytes)

-- ---- the lines of requests, one after another

-- each can be told, in a line that isn't too long
abbrev pub HasLine : Request → Type 0
HasLine r = CanBeTold r × (length (request_text r) < MAX_LINE)

pub input_lines-request : (r : Request) (more : List ℕ) → HasLine r → input_lines (request_line r ++ more) ≡ text (request_text r) ∷ input_lines more
input_lines-request r more h =
    ap input_lines (ap (λ (l : List ℕ). l ++ more) (request_line-text r) ∙ append_assoc (request_text r) (NEWLINE ∷ []) more)
    ∙ ap (map line_of) (cut_lines-line (request_text r) more (is_one_line r h.0))
    ∙ ap (λ (l : InputLine). l ∷ input_lines more) (line_of-short (request_text r) h.1)

-- one line for each
pub input_lines-requests : (rs : List Request) → All HasLine rs → input_lines (flat_map request_line rs) ≡ map (λ r. text (request_text r)) rs
input_lines-requests [] h = refl
input_lines-requests (r ∷ rs) h =
    input_lines-request r (flat_map request_line rs) (All-head HasLine r rs h)
    ∙ ap (λ (l : List InputLine). text (request_text r) ∷ l) (input_lines-requests rs (All-tail HasLine r rs h))

-- an input that ends where a line ends, and behind it the lines of requests
pub input_lines-former : (former : List ℕ) (rs : List Request) → EndsLine former → All HasLine rs
    → input_lines (former ++ flat_map request_line rs) ≡ input_lines former ++ map (λ r. text (request_text r)) rs
input_lines-former former rs whole h =
    input_lines-behind former (flat_map request_line rs) whole ∙ ap (λ (l : List InputLine). input_lines former ++ l) (input_lines-requests rs h)

module _ (ask : InputLine → Option LineRequest) (asks : (bytes : List ℕ) → ask (text bytes) ≡ line_request_of bytes) where
  -- each line asks for its request
  asked_back : (rs : List Request) → All HasLine rs → map ask (map (λ r. text (request_text r)) rs) ≡ map asked_for rs
  asked_back [] h = refl
  asked_back (r ∷ rs) h =
      let one = All-head HasLine r rs h in
      ap (λ (o : Option LineRequest). o ∷ map ask (map (λ r. text (request_text r)) rs)) (asks (request_text r) ∙ reads_back r one.0 one.1)
      ∙ ap (λ (l : List (Option LineRequest)). asked_for r ∷ l) (asked_back rs (All-tail HasLine r rs h))

  -- What the input and the lines of requests behind it ask: what the input asks, and then these requests. `ask` is what a line asks, which for
  -- bytes is the request that they are.
  pub asked-former : (former : List ℕ) (rs : List Request) → EndsLine former → All HasLine rs
      → map ask (input_lines (former ++ flat_map request_line rs)) ≡ map ask (input_lines former) ++ map asked_for rs
  asked-former former rs whole h =
      ap (map ask) (input_lines-former former rs whole h) ∙ map-append ask (input_lines former) (map (λ r. text (request_text r)) rs)
      ∙ ap (λ (l : List (Option LineRequest)). map ask (input_lines former) ++ l) (asked_back rs h)

-- ---- the lines of changes

pub HasLine-changes : (rs : List Request) → All IsToldChange rs → All HasLine rs
HasLine-changes [] h = All-nil HasLine
HasLine-changes (r ∷ rs) h =
    let one = All-head IsToldChange r rs h in
    All-cons HasLine r rs (one.0, change-fits r one.0 one.1) (HasLine-changes rs (All-tail IsToldChange r rs h))

-- changes whose texts are no longer than those of a wiki have a line each, behind an input that ends where a line ends
pub input_lines-changes : (former : List ℕ) (rs : List Request) → EndsLine former → All IsToldChange rs
    → input_lines (former ++ flat_map request_line rs) ≡ input_lines former ++ map (λ r. text (request_text r)) rs
input_lines-changes former rs whole h = input_lines-former former rs whole (HasLine-changes rs h)

-- and what is asked is what the input asks, and then these changes
pub asked-changes : (ask : InputLine → Option LineRequest) → ((bytes : List ℕ) → ask (text bytes) ≡ line_request_of bytes)
    → (former : List ℕ) (rs : List Request)
    → EndsLine former → All IsToldChange rs
    → map ask (input_lines (former ++ flat_map request_line rs)) ≡ map ask (input_lines former) ++ map asked_for rs
asked-changes ask asks former rs whole h = asked-former ask asks former rs whole (HasLine-changes rs h)

-- the same behind an input whose last line may lack its newline, which is ended first
pub asked-next : (ask : InputLine → Option LineRequest) → ((bytes : List ℕ) → ask (text bytes) ≡ line_request_of bytes) → (former : List ℕ) (rs : List Request)
    → All IsToldChange rs
    → map ask (input_lines (ended former ++ flat_map request_line rs)) ≡ map ask (input_lines former) ++ map asked_for rs
asked-next ask asks former rs h =
    asked-changes ask asks (ended former) rs (EndsLine-ended former) h
    ∙ ap (λ (l : List InputLine). map ask l ++ map asked_for rs) (input_lines-ended former)

-- the lines of requests are whole lines
pub EndsLine-requests : (rs : List Request) → EndsLine (flat_map request_line rs)
EndsLine-requests [] = inl refl
EndsLine-requests (r ∷ rs) = behind (EndsLine-requests rs)
  where
    behind : EndsLine (flat_map request_line rs) → EndsLine (request_line r ++ flat_map request_line rs)
    behind (inl none) = inr (request_text r, rw none (append-nil (request_line r) ∙ request_line-text r))
    behind (inr whole) =
        inr (request_line r ++ whole.0, ap (λ (l : List ℕ). request_line r ++ l) whole.1 ∙ sym (append_assoc (request_line r) whole.0 (NEWLINE ∷ [])))
