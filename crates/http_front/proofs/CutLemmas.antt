-- What is seen in bytes doesn't depend on the pieces in which they come.
use Rattle.std.proofs.Common.{◌≡◌, ◌⊎◌, ℕ, ◌+◌, ◌≤◌, List, [], ◌++◌, Bool, true, false, length, take, drop, refl, sym, ap, ◌∙◌, subst, arith, inl, inr, None, append_assoc, append-nil, length-append}
use Rattle.std.specs.Prelude.{if◌then◌else◌, nat_lt}
use Rattle.std.proofs.lemmas.List.{take-append-le, drop-append-le}
use Rattle.std.proofs.lemmas.Bool.{ltb-false, le-ltb}
use Rattle.httparse.specs.Grammar.{RequestHead, print_request, ReadsRequest, MayBecomeRequest, EndsInTarget}
use Rattle.httparse.proofs.GrammarLemmas.{request_unique}
use Rattle.http_front.specs.declared.seen.Head.{Head}
use Rattle.http_front.specs.declared.seen.Seen.{Seen}
use Rattle.http_front.specs.declared.seen.Seen.TheVariants as seen
use Rattle.http_front.specs.declared.seen.Begun.{Begun}
use Rattle.http_front.specs.declared.seen.Begun.TheVariants as begun
use Rattle.http_front.specs.declared.limits.TheConstants.{MOST_HEAD, MOST_FIELDS}
use Rattle.http_front.specs.Front.{refused, half_begun, begun_by_head, head_part, HasTooManyFields, IsNoHead, IsHalfHead, BeginsWith, Begins, Sees, seen_with, seen_after, seen_by}
use Rattle.http_front.specs.Cuts.{HasHead, IsWaitOr, IsRefusedHead, IsCutAnywhere}
use Rattle.http_front.proofs.HeadLemmas.{prefix_stays}

-- ---- the bytes in which the head must end

-- what stands there stays, and more may come behind it
record Grows (before bytes : List ℕ) : Type 0 where
  come : List ℕ
  is : head_part bytes ≡ head_part before ++ come

grows : (before more bytes : List ℕ) → bytes ≡ before ++ more → Grows before bytes
grows before more bytes e = record {
  come = drop (length (head_part before)) (head_part (before ++ more));
  is = ap head_part e ∙ prefix_stays MOST_HEAD before more (head_part before) [] (sym (append-nil (head_part before)));
}

-- nothing comes behind them where they are all there
full_part : (before more bytes : List ℕ) → bytes ≡ before ++ more → MOST_HEAD ≤ length before → head_part bytes ≡ head_part before
full_part before more bytes e full = ap head_part e ∙ take-append-le MOST_HEAD before more full

-- a head that stands in some bytes stands in them when more come
head_stays : (before more bytes : List ℕ) → bytes ≡ before ++ more → (k : RequestHead) → BeginsWith k (head_part before) → BeginsWith k (head_part bytes)
head_stays before more bytes e k begins =
    let stays : head_part (before ++ more) ≡ print_request k ++ drop (length (print_request k)) (head_part (before ++ more)) =
    prefix_stays MOST_HEAD before more (print_request k) (drop (length (print_request k)) (head_part before)) begins.0.1 in
    subst (λ bs. BeginsWith k (head_part bs)) (sym e) ((begins.0.0, stays), begins.1)

-- ---- bytes with a head

-- what stands behind a head in the bytes in which it must end
abbrev behind_head : RequestHead → List ℕ → List ℕ
behind_head h bytes = drop (length (print_request h)) (head_part bytes)

no_head_against : (bytes come whole : List ℕ) (h : RequestHead) (rest : List ℕ) → whole ≡ bytes ++ come → ReadsRequest whole h rest
    → length h.fields ≤ MOST_FIELDS → IsNoHead bytes → ⊥
no_head_against bytes come whole h rest is reads few (inl never) = never come h rest (subst (λ bs. ReadsRequest bs h rest) is reads)
no_head_against bytes come whole h rest is reads few (inr many) =
    let over = many.0 come h rest (subst (λ bs. ReadsRequest bs h rest) is reads) in
    omega (arith, over, few)

half_by : (short : Bool) (b : Begun) → b ≡ (if short then begun.Wait else refused 413) → (b ≡ begun.Wait) ⊎ ((b ≡ refused 413) × (short ≡ false))
half_by true b is = inl is
half_by false b is = inr (is, refl)

half_cases : (before : List ℕ) (b : Begun) → b ≡ half_begun (length before) → (b ≡ begun.Wait) ⊎ ((b ≡ refused 413) × (MOST_HEAD ≤ length before))
half_cases before b is =
    elim (half_by (nat_lt (length before) MOST_HEAD) b is) [
      | inl waits ↦ inl waits
      | inr late ↦ inr (late.0, ltb-false (length before) MOST_HEAD late.1)
    ]

same_head : (bytes : List ℕ) (h k : RequestHead) → BeginsWith h (head_part bytes) → BeginsWith k (head_part bytes) → k ≡ h
same_head bytes h k one other = (request_unique (head_part bytes) k h _ _ other.0 one.0).0

-- of a part of the bytes more is waited for, or it begins with their head
part_begins : (before more bytes : List ℕ) (h : RequestHead) (b : Begun) → bytes ≡ before ++ more → BeginsWith h (head_part bytes) → Begins before b
    → (b ≡ begun.Wait) ⊎ (b ≡ begun_by_head h)
part_begins before more bytes h b e begins (inl refuses) =
    let g = grows before more bytes e in
    absurd (no_head_against (head_part before) g.come (head_part bytes) h _ g.is begins.0 begins.1 refuses.0)
part_begins before more bytes h b e begins (inr (inl half)) =
    elim (half_cases before b half.1) [
      | inl waits ↦ inl waits
      | inr late ↦ absurd (half.0.0 h (behind_head h bytes)
          (subst (λ bs. ReadsRequest bs h (behind_head h bytes)) (full_part before more bytes e late.1) begins.0))
    ]
part_begins before more bytes h b e begins (inr (inr whole)) =
    inr (whole.2 ∙ ap begun_by_head (same_head bytes h whole.0 begins (head_stays before more bytes e whole.0 whole.1)))

-- ---- the body

choose : (a b c d : Bool) (x y : Seen) → (a ≡ false → c ≡ false) → (a ≡ false → b ≡ false → d ≡ false) → (a ≡ false → b ≡ false → x ≡ y)
    → ((if a then seen.Wait else (if b then seen.Wait else x)) ≡ seen.Wait)
    ⊎ ((if a then seen.Wait else (if b then seen.Wait else x)) ≡ (if c then seen.Wait else (if d then seen.Wait else y)))
choose true b c d x y f g h = inl refl
choose false true c d x y f g h = inl refl
choose false false c d x y f g h =
    inr (sym (ap (λ t. if t then seen.Wait else (if d then seen.Wait else y)) (f refl) ∙ ap (λ t. if t then seen.Wait else y) (g refl refl)
    ∙ sym (h refl refl)))

after_more : (head : Head) (before more : List ℕ) → (seen_after head before ≡ seen.Wait) ⊎ (seen_after head before ≡ seen_after head (before ++ more))
unfolding seen_after
after_more head before more =
    let there : nat_lt (length before) head.start ≡ false → head.start ≤ length before = ltb-false (length before) head.start in
    let longer : length (before ++ more) ≡ length before + length more = length-append before more in
    let body : nat_lt (length before) head.start ≡ false → drop head.start (before ++ more) ≡ drop head.start before ++ more =
    λ a. drop-append-le head.start before more (there a) in
    let whole : nat_lt (length (drop head.start before)) head.length ≡ false → head.length ≤ length (drop head.start before) =
    ltb-false (length (drop head.start before)) head.length in
    choose (nat_lt (length before) head.start) (nat_lt (length (drop head.start before)) head.length) (nat_lt (length (before ++ more)) head.start)
    (nat_lt (length (drop head.start (before ++ more))) head.length)
    (seen_with head.own head (take head.length (drop head.start before)))
    (seen_with head.own head (take head.length (drop head.start (before ++ more))))
    (λ a. le-ltb (length (before ++ more)) head.start (omega (arith, there a, longer)))
    (λ a b. le-ltb (length (drop head.start (before ++ more))) head.length
    (omega (arith, whole b, ap length (body a), length-append (drop head.start before) more)))
    (λ a b. ap (seen_with head.own head)
    (sym (ap (take head.length) (body a) ∙ take-append-le head.length (drop head.start before) more (whole b))))

seen_more : (b : Begun) (before more : List ℕ) → (seen_by b before ≡ seen.Wait) ⊎ (seen_by b before ≡ seen_by b (before ++ more))
seen_more begun.Wait before more = inl refl
seen_more (begun.Refuse status allow) before more = inr refl
seen_more (begun.Head head) before more = after_more head before more

now_is : (bytes : List ℕ) (h : RequestHead) (b : Begun) → BeginsWith h (head_part bytes) → Begins bytes b → b ≡ begun_by_head h
now_is bytes h b begins (inl refuses) = absurd (no_head_against (head_part bytes) [] (head_part bytes) h _ (sym (append-nil (head_part bytes))) begins.0
    begins.1 refuses.0)
now_is bytes h b begins (inr (inl half)) = absurd (half.0.0 h (behind_head h bytes) begins.0)
now_is bytes h b begins (inr (inr whole)) = whole.2 ∙ ap begun_by_head (same_head bytes h whole.0 begins whole.1)

headed_by : (before more bytes : List ℕ) (b c : Begun) (now was : Seen) → bytes ≡ before ++ more → (b ≡ begun.Wait) ⊎ (b ≡ c) → was ≡ seen_by b before
    → now ≡ seen_by c bytes → IsWaitOr now was
headed_by before more bytes b c now was e (inl waits) told is = inl (told ∙ ap (λ x. seen_by x before) waits)
headed_by before more bytes b c now was e (inr same) told is =
    let here : was ≡ seen_by c before = told ∙ ap (λ x. seen_by x before) same in
    elim (seen_more c before more) [
      | inl waits ↦ inl (here ∙ waits)
      | inr alike ↦ inr (here ∙ alike ∙ ap (seen_by c) (sym e) ∙ sym is)
    ]

headed : (bytes : List ℕ) (now : Seen) → Sees bytes now → HasHead bytes → (before more : List ℕ) (was : Seen) → bytes ≡ before ++ more → Sees before was
    → IsWaitOr now was
headed bytes now sees has before more was e seen_before =
    let h = has.0 in
    headed_by before more bytes seen_before.0 (begun_by_head h) now was e (part_begins before more bytes h seen_before.0 e has.1 seen_before.1) seen_before.2
    (sees.2 ∙ ap (λ x. seen_by x bytes) (now_is bytes h sees.0 has.1 sees.1))

-- ---- bytes without one

abbrev Unlike : List ℕ → List ℕ → Seen → Seen → Type 0
Unlike before bytes was now = (was ≡ now) ⊎ (EndsInTarget (head_part bytes) ⊎ HasTooManyFields (head_part before))

-- a part can't be refused for its head where the bytes may still become a head, but for those two cases
refused_half : (before come bytes : List ℕ) (was now : Seen) → head_part bytes ≡ head_part before ++ come → IsNoHead (head_part before)
    → MayBecomeRequest (head_part bytes) → Unlike before bytes was now
refused_half before come bytes was now is (inl never) (inl may) =
    absurd (never (come ++ may.0) may.1 []
    (subst (λ bs. ReadsRequest bs may.1 []) (ap (λ bs. bs ++ may.0) is ∙ append_assoc (head_part before) come may.0) may.2))
refused_half before come bytes was now is (inl never) (inr ends) = inr (inl ends)
refused_half before come bytes was now is (inr many) may = inr (inr many)

-- the same where the part is too long for half a head
half_refused : (before bytes : List ℕ) (was now : Seen) → head_part bytes ≡ head_part before → MayBecomeRequest (head_part before) → IsNoHead (head_part bytes)
    → Unlike before bytes was now
half_refused before bytes was now is (inl may) (inl never) =
    absurd (never may.0 may.1 [] (subst (λ bs. ReadsRequest (bs ++ may.0) may.1 []) (sym is) may.2))
half_refused before bytes was now is (inr ends) (inl never) = inr (inl (subst EndsInTarget (sym is) ends))
half_refused before bytes was now is may (inr many) = inr (inr (subst HasTooManyFields is many))

no_head_now : (before more bytes : List ℕ) (b : Begun) (was now : Seen) → bytes ≡ before ++ more → (HasHead bytes → ⊥) → IsNoHead (head_part before)
    → was ≡ seen.Refuse 400 None false → Begins bytes b → now ≡ seen_by b bytes → Unlike before bytes was now
no_head_now before more bytes b was now e none refuses told (inl now_refuses) is = inl (told ∙ sym (is ∙ ap (λ x. seen_by x bytes) now_refuses.1))
no_head_now before more bytes b was now e none refuses told (inr (inl half)) is =
    let g = grows before more bytes e in
    refused_half before g.come bytes was now g.is refuses half.0.1
no_head_now before more bytes b was now e none refuses told (inr (inr whole)) is = absurd (none (whole.0, whole.1))

half_now : (before more bytes : List ℕ) (b : Begun) (was now : Seen) → bytes ≡ before ++ more → (HasHead bytes → ⊥) → MOST_HEAD ≤ length before
    → IsHalfHead (head_part before) → was ≡ seen.Refuse 413 None false → Begins bytes b → now ≡ seen_by b bytes → Unlike before bytes was now
half_now before more bytes b was now e none full half told (inl now_refuses) is =
    half_refused before bytes was now (full_part before more bytes e full) half.1 now_refuses.0
half_now before more bytes b was now e none full half told (inr (inl now_half)) is =
    let long : MOST_HEAD ≤ length bytes = omega (arith, full, ap length e, length-append before more) in
    let late : half_begun (length bytes) ≡ refused 413 = ap (λ t. if t then begun.Wait else refused 413) (le-ltb (length bytes) MOST_HEAD long) in
    inl (told ∙ sym (is ∙ ap (λ x. seen_by x bytes) (now_half.1 ∙ late)))
half_now before more bytes b was now e none full half told (inr (inr whole)) is = absurd (none (whole.0, whole.1))

headless_by : (before more bytes : List ℕ) (b c : Begun) (was now : Seen) → bytes ≡ before ++ more → (HasHead bytes → ⊥) → Begins before b
    → was ≡ seen_by b before → Begins bytes c → now ≡ seen_by c bytes
    → (was ≡ seen.Wait) ⊎ (IsRefusedHead was × Unlike before bytes was now)
headless_by before more bytes b c was now e none (inl refuses) told now_begins is =
    let told_400 : was ≡ seen.Refuse 400 None false = told ∙ ap (λ x. seen_by x before) refuses.1 in
    inr (inl told_400, no_head_now before more bytes c was now e none refuses.0 told_400 now_begins is)
headless_by before more bytes b c was now e none (inr (inl half)) told now_begins is =
    elim (half_cases before b half.1) [
      | inl waits ↦ inl (told ∙ ap (λ x. seen_by x before) waits)
      | inr late ↦
          let told_413 : was ≡ seen.Refuse 413 None false = told ∙ ap (λ x. seen_by x before) late.0 in
          inr (inr told_413, half_now before more bytes c was now e none late.1 half.0 told_413 now_begins is)
    ]
headless_by before more bytes b c was now e none (inr (inr whole)) told now_begins is =
    absurd (none (whole.0, head_stays before more bytes e whole.0 whole.1))

-- what is seen in bytes is so however they came
pub cut_anywhere : (bytes : List ℕ) (now : Seen) → Sees bytes now → IsCutAnywhere bytes now
cut_anywhere bytes now sees = record {
  headed = headed bytes now sees;
  headless = λ none before more was e seen_before. headless_by before more bytes seen_before.0 sees.0 was now e none seen_before.1 seen_before.2 sees.1 sees.2;
}
