-- Runs of requests one after another.
use Rattle.std.proofs.Common.{◌≡◌, ℕ, suc, ◌+◌, ◌-◌, ◌%◌, ◌<◌, List, [], ◌∷◌, ◌++◌, map, refl, sym, ap, ◌∙◌, subst, arith}
use Rattle.std.specs.List.{range_with_len}
use Rattle.wiki_talk.specs.declared.requests.Request.{Request}
use Rattle.wiki_talk.specs.declared.replies.Reply.{Reply}
use Rattle.generator.specs.declared.summary.Summary.{Summary}
use Rattle.generator.specs.Drawn.{next_draw}
use Rattle.generator.specs.Requests.{sentence_of_kind, sentences_from}
use Rattle.generator.specs.Summary.{summed, with_reply}
use Rattle.making.specs.Making.{StepsAll, AddsUp}

steps_all-append : {S : Type 0} (step : S → Request → Reply → S → Type 0) (a b c : S) (qs ps : List Request) (rs ss : List Reply)
    → StepsAll step a qs rs b → StepsAll step b ps ss c → StepsAll step a (qs ++ ps) (rs ++ ss) c
steps_all-append step a b c [] ps [] ss h k = subst (λ x. StepsAll step x ps ss c) h k
steps_all-append step a b c [] ps (r ∷ rs) ss h k = absurd h
steps_all-append step a b c (q ∷ qs) ps [] ss h k = absurd h
steps_all-append step a b c (q ∷ qs) ps (r ∷ rs) ss h k = (h.0, h.1, steps_all-append step h.0 b c qs ps rs ss h.2 k)

summed-append : (s : Summary) (rs ss : List Reply) → summed s (rs ++ ss) ≡ summed (summed s rs) ss
summed-append s [] ss = refl
summed-append s (r ∷ rs) ss = summed-append (with_reply s r) rs ss

-- what one run adds up to and then another
pub adds_up-append : {S : Type 0} (step : S → Request → Reply → S → Type 0) (a b c : S) (qs ps : List Request) (s t u : Summary)
    → AddsUp step a qs s b t → AddsUp step b ps t c u → AddsUp step a (qs ++ ps) s c u
adds_up-append step a b c qs ps s t u h k = record {
  replies = h.replies ++ k.replies;
  steps = steps_all-append step a b c qs ps h.replies k.replies h.steps k.steps;
  sum = k.sum ∙ ap (λ x. summed x k.replies) h.sum ∙ sym (summed-append s h.replies k.replies);
}

-- what no request adds up to
pub adds_up-none : {S : Type 0} (step : S → Request → Reply → S → Type 0) (a : S) (s : Summary) → AddsUp step a [] s a s
adds_up-none step a s = record { replies = []; steps = refl; sum = refl }

-- What is left to ask decides: a run over the rest makes one over all.
abbrev pub Leads : {S : Type 0} → (S → Request → Reply → S → Type 0) → S → List Request → Summary → S → List Request → Summary → Type 0
Leads {S} step first requests before now rest so_far = (last : S) (after : Summary) → AddsUp step now rest so_far last after
    → AddsUp step first requests before last after

-- one request more was asked
pub leads-on : {S : Type 0} (step : S → Request → Reply → S → Type 0) (first : S) (qs : List Request) (before : Summary) (now next : S) (q : Request)
    (rest : List Request) (s t : Summary)
    → AddsUp step now (q ∷ []) s next t → Leads step first qs before now (q ∷ rest) s → Leads step first qs before next rest t
leads-on step first qs before now next q rest s t one leads =
    λ last after more. leads last after (adds_up-append step now next last (q ∷ []) rest s t after one more)

one_more : (n m : ℕ) → n < m → m - n ≡ suc (m - (n + 1))
one_more n m below = omega arith

-- the numbers from one on up to a bound, of which the first is below it
left_of_range : (n m : ℕ) → n < m → range_with_len n (m - n) ≡ n ∷ range_with_len (n + 1) (m - (n + 1))
left_of_range n m below = ap (range_with_len n) (one_more n m below)

-- the request with the next number was asked
pub leads-item : {S : Type 0} (step : S → Request → Reply → S → Type 0) (first : S) (qs : List Request) (before : Summary) (f : ℕ → Request) (now next : S)
    (n m : ℕ) (q : Request) (s t : Summary)
    → n < m → q ≡ f n → AddsUp step now (q ∷ []) s next t → Leads step first qs before now (map f (range_with_len n (m - n))) s
    → Leads step first qs before next (map f (range_with_len (n + 1) (m - (n + 1)))) t
leads-item step first qs before f now next n m q s t below is one leads =
    leads-on step first qs before now next q (map f (range_with_len (n + 1) (m - (n + 1)))) s t one
    (subst (λ rest. Leads step first qs before now rest s)
    (ap (map f) (left_of_range n m below) ∙ ap (λ x. x ∷ map f (range_with_len (n + 1) (m - (n + 1)))) (sym is)) leads)

-- the next sentence was added
pub leads-sentence : {S : Type 0} (step : S → Request → Reply → S → Type 0) (first : S) (qs : List Request) (before : Summary) (now next : S) (n m d e : ℕ)
    (q : Request) (s t : Summary)
    → n < m → e ≡ next_draw (next_draw (next_draw d)) → q ≡ sentence_of_kind (n % 5) (next_draw d) (next_draw (next_draw d)) e
    → AddsUp step now (q ∷ []) s next t → Leads step first qs before now (sentences_from n (m - n) d) s
    → Leads step first qs before next (sentences_from (n + 1) (m - (n + 1)) e) t
leads-sentence step first qs before now next n m d e q s t below drawn is one leads =
    leads-on step first qs before now next q (sentences_from (n + 1) (m - (n + 1)) e) s t one
    (subst (λ rest. Leads step first qs before now rest s)
    (ap (λ k. sentences_from n k d) (one_more n m below)
    ∙ ap (λ x. sentence_of_kind (n % 5) (next_draw d) (next_draw (next_draw d)) x ∷ sentences_from (n + 1) (m - (n + 1)) x) (sym drawn)
    ∙ ap (λ x. x ∷ sentences_from (n + 1) (m - (n + 1)) e) (sym is)) leads)

-- one request was asked
pub adds_up-one : {S : Type 0} (step : S → Request → Reply → S → Type 0) (a b : S) (q : Request) (r : Reply) (s t : Summary) → step a q r b → t ≡ with_reply s r
    → AddsUp step a (q ∷ []) s b t
adds_up-one step a b q r s t h e = record { replies = r ∷ []; steps = (b, h, refl); sum = e }
