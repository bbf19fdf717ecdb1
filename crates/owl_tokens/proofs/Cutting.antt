-- Each text is cut in one way.
use Rattle.std.proofs.Common.{◌≡◌, ℕ, zero, suc, ◌+◌, ◌≤◌, Bool, true, false, eqb, List, [], ◌∷◌, length, refl, sym, ap, subst, ◌∙◌, arith}
use Rattle.std.specs.Str.Lossy.{utf8_valid_len}
use Rattle.owl_tokens.specs.Tokens.{Token, Next, Found, Ends, Broken, IsWithin, Ending, Whole, Cut_off, next, Cuts, ending_of, utf8_front, has_mark, FileCuts, IsCut}
use Rattle.owl_tokens.proofs.Progress.{next_within}

-- what is known of a cut from the next token on
cut_by : (text : List ℕ) (from : ℕ) (n : Next) → next text from ≡ n
    → ((t : Token) → n ≡ Found t → (ts : List Token) × (ending : Ending) × Cuts text t.end ts ending)
    → (ts : List Token) × (ending : Ending) × Cuts text from ts ending
cut_by text from (Ends at) is more = ([], Whole at, is)
cut_by text from (Broken at) is more = ([], Cut_off at, is)
cut_by text from (Found t) is more = let rest = more t refl in (t ∷ rest.0, rest.1, (is, rest.2))

cut_within : (most : ℕ) (text : List ℕ) (from : ℕ) → from ≤ length text → length text ≤ from + most
    → (ts : List Token) × (ending : Ending) × Cuts text from ts ending
cut_within zero text from le left =
    cut_by text from (next text from) refl (λ t is. let h = subst (IsWithin from (length text)) is (next_within text from le) in absurd (omega arith))
cut_within (suc most) text from le left =
    cut_by text from (next text from) refl (λ t is.
    let h = subst (IsWithin from (length text)) is (next_within text from le) in cut_within most text t.end (omega arith) (omega arith))

-- from each place there is a cut
pub cut_from : (text : List ℕ) (from : ℕ) → from ≤ length text → (ts : List Token) × (ending : Ending) × Cuts text from ts ending
cut_from text from le = cut_within (length text) text from le (omega arith)

-- and one alone
pub one_cut_from : (text : List ℕ) (from : ℕ) (ts us : List Token) (e f : Ending) → Cuts text from ts e → Cuts text from us f → (ts ≡ us) × (e ≡ f)
one_cut_from text from [] [] (Whole at) (Whole place) h k = (refl, cc)
one_cut_from text from [] [] (Whole at) (Cut_off place) h k = absurd (cc)
one_cut_from text from [] [] (Cut_off at) (Whole place) h k = absurd (cc)
one_cut_from text from [] [] (Cut_off at) (Cut_off place) h k = (refl, cc)
one_cut_from text from [] (u ∷ us) (Whole at) f h k = let k0 = k.0 in absurd (cc)
one_cut_from text from [] (u ∷ us) (Cut_off at) f h k = let k0 = k.0 in absurd (cc)
one_cut_from text from (t ∷ ts) [] e (Whole at) h k = let h0 = h.0 in absurd (cc)
one_cut_from text from (t ∷ ts) [] e (Cut_off at) h k = let h0 = h.0 in absurd (cc)
one_cut_from text from (t ∷ ts) (u ∷ us) e f h k =
    let h0 = h.0 in
    let k0 = k.0 in
    let same : t ≡ u = cc in
    let rest = one_cut_from text u.end ts us e f (subst (λ (v : Token). Cuts text v.end ts e) same h.1) k.1 in
    ((let both = rest.0 in cc), rest.1)

pub is_cut : (text : List ℕ) → (ts : List Token) × (ending : Ending) × IsCut text ts ending
is_cut text = by (has_mark text)
  where
    by : (b : Bool) → (ts : List Token) × (ending : Ending) × FileCuts b text ts ending
    by true = ([], Cut_off 0, (refl, refl))
    by false =
        let cut = cut_from (utf8_front text) 0 (omega arith) in (cut.0, ending_of (eqb (utf8_valid_len text) (length text)) cut.1, (cut.1, cut.2, refl))

pub one_cut : (text : List ℕ) (ts us : List Token) (e f : Ending) → IsCut text ts e → IsCut text us f → (ts ≡ us) × (e ≡ f)
one_cut text ts us e f = by (has_mark text)
  where
    by : (b : Bool) → FileCuts b text ts e → FileCuts b text us f → (ts ≡ us) × (e ≡ f)
    by true h k = (h.0 ∙ sym k.0, h.1 ∙ sym k.1)
    by false h k =
        let same = one_cut_from (utf8_front text) 0 ts us h.0 k.0 h.1 k.1 in
        (same.0, h.2 ∙ (ap (ending_of (eqb (utf8_valid_len text) (length text))) same.1 ∙ sym k.2))
