-- What a journal asks whose last line was cut.
use Rattle.std.proofs.Common.{◌≡◌, ℕ, zero, suc, ◌+◌, ◌<◌, ◌≤◌, List, [], ◌∷◌, ◌++◌, length, take, map, All, flat_map, Option, None, inl, inr, refl, sym, ap, subst, ◌∙◌, arith}
use Rattle.std.proofs.lemmas.Bool.{cases_lt, lt-ltb, le-ltb}
use Rattle.std.proofs.lemmas.List.{append_assoc, append-nil, map-append, length-append, length-take, take_all}
use Rattle.std.proofs.lemmas.List.Elements.{All-nil, All-cons, All-head, All-tail}
use Rattle.wiki_io.specs.Lines.{HasNoNewline, InputLine, text, line_of, input_lines}
use Rattle.wiki_io.specs.declared.limits.TheConstants.{NEWLINE, MAX_LINE}
use Rattle.wiki_io.proofs.LineLemmas.{cut_lines-last, line_of-short}
use Rattle.wiki_talk.specs.declared.requests.Request.{Request}
use Rattle.wiki_talk.specs.declared.requests.LineRequest.{LineRequest}
use Rattle.wire_json.specs.Requests.{line_request_of, request_line}
use Rattle.wire_json.specs.Told.{asked_for, request_text, IsToldChange, EndsLine, ended, asked_by_front}
use Rattle.wire_json.proofs.LengthLemmas.{request_line-text}
use Rattle.wire_json.proofs.RequestLaws.{HasLine, HasLine-changes, asked-next, reads_back, is_one_line, input_lines-behind, input_lines-request, asked-former, EndsLine-requests, EndsLine-ended, input_lines-ended}
use Rattle.wire_json.proofs.CutLemmas.{take-before, cut_is_no_request}

abbrev IsOther : ℕ → Type 0
IsOther b = b ≡ NEWLINE → ⊥

front_has_none : (n : ℕ) (xs : List ℕ) → HasNoNewline xs → HasNoNewline (take n xs)
front_has_none zero xs h = All-nil IsOther
front_has_none (suc n) [] h = All-nil IsOther
front_has_none (suc n) (x ∷ xs) h = All-cons IsOther x (take n xs) (All-head IsOther x xs h) (front_has_none n xs (All-tail IsOther x xs h))

-- whole lines behind whole lines
pub EndsLine-append : (xs ys : List ℕ) → EndsLine xs → EndsLine ys → EndsLine (xs ++ ys)
EndsLine-append xs ys (inl none) more = subst (λ (l : List ℕ). EndsLine (l ++ ys)) (sym none) more
EndsLine-append xs ys (inr whole) (inl none) = inr (whole.0, ap (λ (l : List ℕ). xs ++ l) none ∙ append-nil xs ∙ whole.1)
EndsLine-append xs ys (inr whole) (inr more) =
    inr (xs ++ more.0, ap (λ (l : List ℕ). xs ++ l) more.1 ∙ sym (append_assoc xs more.0 (NEWLINE ∷ [])))

one_line : (xs : List ℕ) → HasNoNewline xs → 0 < length xs → length xs < MAX_LINE → input_lines xs ≡ text xs ∷ []
one_line [] none some short = absurd (omega arith)
one_line (b ∷ xs) none some short =
    ap (map line_of) (cut_lines-last b xs none) ∙ ap (λ (l : InputLine). l ∷ []) (line_of-short (b ∷ xs) short)

module _ (ask : InputLine → Option LineRequest) (asks : (bytes : List ℕ) → ask (text bytes) ≡ line_request_of bytes) (r : Request) (h : HasLine r) where
  -- a front part with a byte of it, and without its newline
  asked_part : (n : ℕ) → 0 < n → n ≤ length (request_text r) → map ask (input_lines (take n (request_line r))) ≡ line_request_of (take n (request_text r)) ∷ []
  asked_part n some within =
      let part = take n (request_text r) in
      let size : length part ≡ n = omega (arith, length-take n (request_text r)) in
      let same : take n (request_line r) ≡ part = ap (λ (l : List ℕ). take n l) (request_line-text r) ∙ take-before n (request_text r) (NEWLINE ∷ []) within in
      let short : length part < MAX_LINE = omega (arith, h.1) in
      ap (λ (l : List ℕ). map ask (input_lines l)) same
      ∙ ap (map ask) (one_line part (front_has_none n (request_text r) (is_one_line r h.0)) (omega arith) short)
      ∙ ap (λ (o : Option LineRequest). o ∷ []) (asks part)

  asked_cut : (n : ℕ) → 0 < n → n < length (request_text r) → map ask (input_lines (take n (request_line r))) ≡ None ∷ []
  asked_cut n some short = asked_part n some (omega arith) ∙ ap (λ (o : Option LineRequest). o ∷ []) (cut_is_no_request r h.0 n short)

  asked_whole : map ask (input_lines (request_line r)) ≡ asked_for r ∷ []
  asked_whole =
      ap (λ (l : List ℕ). map ask (input_lines l)) (sym (append-nil (request_line r))) ∙ ap (map ask) (input_lines-request r [] h)
      ∙ ap (λ (o : Option LineRequest). o ∷ []) (asks (request_text r) ∙ reads_back r h.0 h.1)

  asked_all : (n : ℕ) → 0 < n → length (request_text r) ≤ n → n ≤ length (request_line r) → map ask (input_lines (take n (request_line r))) ≡ asked_for r ∷ []
  asked_all n some long within =
      let size : length (request_line r) ≡ length (request_text r) + 1 = ap length (request_line-text r) ∙ length-append (request_text r) (NEWLINE ∷ []) in
      elim (cases_lt n (length (request_line r))) [
        | inl lacks ↦
            let all : take n (request_text r) ≡ request_text r = take_all n (request_text r) (omega arith) in
            asked_part n some (omega arith) ∙ ap (λ (l : List ℕ). line_request_of l ∷ []) all ∙ ap (λ (o : Option LineRequest). o ∷ []) (reads_back r h.0 h.1)
        | inr full ↦ ap (λ (l : List ℕ). map ask (input_lines l)) (take_all n (request_line r) full) ∙ asked_whole
      ]

  asked_front : (n : ℕ) → n ≤ length (request_line r) → map ask (input_lines (take n (request_line r))) ≡ asked_by_front n r
  asked_front zero within = refl
  asked_front (suc n) within = elim (cases_lt (suc n) (length (request_text r))) [
    | inl short ↦ asked_cut (suc n) (omega arith) short ∙ sym (rw (lt-ltb (suc n) (length (request_text r)) short) refl)
    | inr long ↦ asked_all (suc n) (omega arith) long within ∙ sym (rw (le-ltb (suc n) (length (request_text r)) long) refl)
  ]

  -- What an input asks with the lines of requests behind it, the last of which may have been cut: what the input asks, the requests, and at
  -- most one thing more, which is no request where a byte of it lacks besides the newline.
  pub asked-cut : (former : List ℕ) (rs : List Request) (n : ℕ) → All HasLine rs → n ≤ length (request_line r)
      → map ask (input_lines (ended former ++ (flat_map request_line rs ++ take n (request_line r))))
      ≡ (map ask (input_lines former) ++ map asked_for rs) ++ asked_by_front n r
  asked-cut former rs n each within =
      let before = ended former ++ flat_map request_line rs in
      let front = take n (request_line r) in
      let whole = EndsLine-append (ended former) (flat_map request_line rs) (EndsLine-ended former) (EndsLine-requests rs) in
      let split = ap input_lines (sym (append_assoc (ended former) (flat_map request_line rs) front)) ∙ input_lines-behind before front whole in
      ap (map ask) split ∙ map-append ask (input_lines before) (input_lines front)
      ∙ ap (λ (l : List (Option LineRequest)). l ++ map ask (input_lines front)) (asked-former ask asks (ended former) rs (EndsLine-ended former) each)
      ∙ ap (λ (l : List InputLine). (map ask l ++ map asked_for rs) ++ map ask (input_lines front)) (input_lines-ended former)
      ∙ ap (λ (l : List (Option LineRequest)). (map ask (input_lines former) ++ map asked_for rs) ++ l) (asked_front n within)

take-nothing : (n : ℕ) → take {A = ℕ} n [] ≡ []
take-nothing zero = refl
take-nothing (suc n) = refl

-- The same of changes whose texts are no longer than those of a wiki, where behind them at most one other has its line, which may be cut.
pub asked-cut-changes : (ask : InputLine → Option LineRequest) → ((bytes : List ℕ) → ask (text bytes) ≡ line_request_of bytes) → (former : List ℕ)
    (rs last : List Request) (n : ℕ) → length last ≤ 1 → All IsToldChange rs → All IsToldChange last → n ≤ length (flat_map request_line last)
    → map ask (input_lines (ended former ++ (flat_map request_line rs ++ take n (flat_map request_line last))))
    ≡ (map ask (input_lines former) ++ map asked_for rs) ++ flat_map (asked_by_front n) last
asked-cut-changes ask asks former rs [] n few told last_told within =
    ap (λ (l : List ℕ). map ask (input_lines (ended former ++ l)))
    (ap (λ (l : List ℕ). flat_map request_line rs ++ l) (take-nothing n) ∙ append-nil (flat_map request_line rs))
    ∙ asked-next ask asks former rs told ∙ sym (append-nil (map ask (input_lines former) ++ map asked_for rs))
asked-cut-changes ask asks former rs (r ∷ []) n few told last_told within =
    let one = append-nil (request_line r) in
    let fits : n ≤ length (request_line r) = omega (arith, ap length one) in
    let line : HasLine r = All-head HasLine r [] (HasLine-changes (r ∷ []) last_told) in
    ap (λ (l : List ℕ). map ask (input_lines (ended former ++ (flat_map request_line rs ++ take n l)))) one
    ∙ asked-cut ask asks r line former rs n (HasLine-changes rs told) fits
    ∙ ap (λ (l : List (Option LineRequest)). (map ask (input_lines former) ++ map asked_for rs) ++ l) (sym (append-nil (asked_by_front n r)))
asked-cut-changes ask asks former rs (r ∷ s ∷ last) n few told last_told within = absurd (omega arith)
