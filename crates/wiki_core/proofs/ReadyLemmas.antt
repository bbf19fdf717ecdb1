-- What shows a sentence is read as the sentence, and stays so.
use Rattle.std.proofs.Common.{◌≡◌, ℕ, zero, suc, ◌-◌, ◌*◌, ◌<◌, ◌≤◌, ◌==◌, nat_lt, ◌++◌, Bool, true, false, cond, ◌&&◌, ◌||◌, List, [], ◌∷◌, length, drop, get_or, ◌⊎◌, inl, inr, Some, refl, sym, ap, subst, ◌∙◌, arith, lit<, length-append}
use Rattle.std.specs.Prelude.{slice_get, slice_index}
use Rattle.std.specs.List.{list_all}
use Rattle.std.specs.Char.{to_ascii_uppercase}
use Rattle.std.specs.Str.{bytes_eq, IsUtf8, IsAscii}
use Rattle.std.proofs.lemmas.Bool.{false≢true, and_from, and_parts, and_right, not-true, cases_lt}
use Rattle.std.proofs.lemmas.Bool.Decides.{nat_tests}
use Rattle.std.proofs.lemmas.Str.{IsUtf8-append, IsUtf8-nil, IsUtf8-drop, IsUtf8-from_ascii}
use Rattle.std.proofs.lemmas.Str.Ascii.{uppercase_ascii}
use Rattle.std.proofs.lemmas.Option.{slice_get_within}
use Rattle.std.proofs.lemmas.Slice.Eq.{bytes_eq-Decides}
use Rattle.wiki_base.specs.declared.numbers.WordId.{WordId}
use Rattle.codeco_text.specs.Names.{is_terminal_byte, ends_well, is_terminal as is_terminal_text}
use Rattle.codeco_terms.specs.GrammarParts.{GrammarParts}
use Rattle.codeco_checked.specs.Sound.{IsSound}
use Rattle.lexicon.specs.Terminals.{raised, is_spelling_of, is_reserved}
use Rattle.lexicon.specs.Words.{Listed, owner}
use Rattle.derivation_trees.specs.Cutting.{is_mark, ends_with_mark, is_whole, is_terminal, IsNotRaised, FirstIsNotRaised, cut_of, shown, shown_first, continued, gap, is_mark_token}
use Rattle.derivation_trees.specs.Sentences.{IsSentence}
use Rattle.derivation_trees.proofs.PieceLemmas.{Whole, whole_from_parts, cut_shown, boundary_one}
use Rattle.derivations.proofs.Members.{all_among}
use Rattle.derivations.proofs.CutLemmas.{Passing, any_passes, passes_any}
use Rattle.derivations.proofs.TokenLemmas.{terminal_token}
use Rattle.wiki_core.specs.Journaled.{NoneIsRaised, AreUtf8}
use Rattle.wiki_core.proofs.FormLemmas.{IsForm, kept_by_length}
use Rattle.wiki_core.proofs.GrammarLemmas.{terminal_short}
use Rattle.wiki_core.proofs.ReadableLemmas.{AreReadable, owner_there}
use Rattle.wiki_core.proofs.KnownTokens.{IsTerminalOrForm, sentence_known}

-- ---- terminals

unmarked_end : (b : ℕ) (bs : List ℕ) → ends_well (b ∷ bs) ≡ true → is_mark (get_or (b ∷ bs) (length bs) 0) ≡ false
unmarked_end b [] h = not-true (is_mark b) h
unmarked_end b (c ∷ cs) h = unmarked_end c cs h

unmarked_from : (b : ℕ) (bs : List ℕ) → is_mark (get_or (b ∷ bs) (length bs) 0) ≡ false → ends_with_mark (b ∷ bs) ≡ false
unmarked_from b bs h =
    let e : length (b ∷ bs) - 1 ≡ length bs = omega arith in
    and_right (nat_lt 1 (length (b ∷ bs))) (is_mark (slice_index (b ∷ bs) (length (b ∷ bs) - 1))) (ap (λ n. is_mark (slice_index (b ∷ bs) n)) e ∙ h)

unmarked_terminal : (t : List ℕ) → is_terminal_text t ≡ true → ends_with_mark t ≡ false
unmarked_terminal [] h = absurd (false≢true h)
unmarked_terminal (b ∷ []) h = refl
unmarked_terminal (b ∷ c ∷ bs) h =
    let outer = and_parts (is_terminal_byte b && list_all is_terminal_byte (c ∷ bs)) (ends_well (c ∷ bs)) h in
    unmarked_from b (c ∷ bs) (unmarked_end c bs outer.1)

whole_terminal : (g : GrammarParts) → IsSound g → (t : List ℕ) → is_terminal g.terminals t ≡ true → Whole t
whole_terminal g sound t is =
    let one : Passing (bytes_eq t) g.terminals = any_passes (bytes_eq t) g.terminals is in
    let same : t ≡ one.one = (bytes_eq-Decides t one.one).0 one.passes in
    let spelled : is_terminal_text t ≡ true = ap is_terminal_text same ∙ all_among is_terminal_text g.terminals one.one sound.written.terminals one.among in
    let token = terminal_token t spelled in
    record { kept = kept_by_length t token.0; spaceless = token.1; unmarked = unmarked_terminal t spelled }

-- ---- sentences

-- Words over a grammar, with which what shows a sentence is read as the sentence: the grammar is one of the notation, none of its terminals
-- is another with its first letter raised, and each form of a word is a token that is none of them.
pub record AreReady (g : GrammarParts) (words : Listed) : Type 0 where
  pub sound : IsSound g
  pub apart : NoneIsRaised g.terminals
  pub terminals : words.terminals ≡ g.terminals
  pub readable : AreReadable words.terminals words.live

-- a form of a live word
pub form_there : (g : GrammarParts) (words : Listed) → AreReady g words → (token : List ℕ) (word : WordId) → owner words.live token ≡ Some word → IsForm token
form_there g words ready token word owned = let one = owner_there words.live token word owned in ready.readable.forms one.0 one.1 token one.2

whole_token : (g : GrammarParts) (words : Listed) → AreReady g words → (token : List ℕ) → IsTerminalOrForm g words token → Whole token
whole_token g words ready token (inl terminal) = whole_terminal g ready.sound token terminal
whole_token g words ready token (inr (word, owned)) = (form_there g words ready token word owned).whole

all_whole : (tokens : List (List ℕ)) → ((k : ℕ) (token : List ℕ) → slice_get tokens k ≡ Some token → Whole token) → list_all is_whole tokens ≡ true
all_whole [] each = refl
all_whole (token ∷ tokens) each =
    and_from (is_whole token) (list_all is_whole tokens) (whole_from_parts token (each 0 token refl)) (all_whole tokens (λ k t at. each (suc k) t at))

reserved_by : (terminals : List (List ℕ)) (terminal token : List ℕ) → is_terminal terminals terminal ≡ true → token ≡ raised terminal
    → is_reserved terminals token ≡ true
reserved_by terminals terminal token is same =
    let one : Passing (bytes_eq terminal) terminals = any_passes (bytes_eq terminal) terminals is in
    let equal : terminal ≡ one.one = (bytes_eq-Decides terminal one.one).0 one.passes in
    passes_any (is_spelling_of token) terminals one.one one.among (either (bytes_eq token one.one) (bytes_eq token (raised one.one))
    ((bytes_eq-Decides token (raised one.one)).1 (same ∙ ap raised equal)))
  where
    either : (a b : Bool) → b ≡ true → (a || b) ≡ true
    either true b is = refl
    either false b is = is

token_not_raised : (g : GrammarParts) (words : Listed) → AreReady g words → (token : List ℕ) → IsTerminalOrForm g words token → IsNotRaised g.terminals token
token_not_raised g words ready token (inl terminal) = ready.apart token terminal
token_not_raised g words ready token (inr (word, owned)) = λ terminal is same.
    let one = owner_there words.live token word owned in
    let free : is_reserved words.terminals token ≡ false = ready.readable.free one.0 one.1 token one.2 in
    absurd (false≢true (sym free ∙ ap (λ (ts : List (List ℕ)). is_reserved ts token) ready.terminals ∙ reserved_by g.terminals terminal token is same))

first_not_raised : (g : GrammarParts) (words : Listed) → AreReady g words → (tokens : List (List ℕ))
    → ((k : ℕ) (token : List ℕ) → slice_get tokens k ≡ Some token → IsTerminalOrForm g words token) → FirstIsNotRaised g.terminals tokens
first_not_raised g words ready [] known = tt
first_not_raised g words ready (token ∷ tokens) known = token_not_raised g words ready token (known 0 token refl)

known_at : (g : GrammarParts) (words : Listed) (tokens : List (List ℕ)) → IsSentence g words tokens → (k : ℕ) (token : List ℕ)
    → slice_get tokens k ≡ Some token → IsTerminalOrForm g words token
known_at g words tokens sentence k token at = sentence_known g words tokens sentence k token (slice_get_within tokens k token at) at

-- What shows a sentence is read as the sentence.
pub shown_again : (g : GrammarParts) (words : Listed) → AreReady g words → (tokens : List (List ℕ)) → IsSentence g words tokens
    → cut_of g.terminals (shown g.terminals tokens) ≡ tokens
shown_again g words ready tokens sentence =
    let known = known_at g words tokens sentence in
    cut_shown g.terminals tokens (all_whole tokens (λ k token at. whole_token g words ready token (known k token at)))
    (first_not_raised g words ready tokens known)

-- ---- how long what shows a sentence is

short_token : (g : GrammarParts) (words : Listed) → AreReady g words → (token : List ℕ) → IsTerminalOrForm g words token
    → length token ≤ 64
short_token g words ready token (inl terminal) = terminal_short g ready.sound token terminal
short_token g words ready token (inr (word, owned)) = (form_there g words ready token word owned).short

gap_short : (token : List ℕ) (tokens : List (List ℕ)) → length (gap token tokens) ≤ 1
gap_short token tokens = by ((length tokens == 0) && is_mark_token token)
  where
    by : (b : Bool) → length {A = ℕ} (cond b [] (32 ∷ [])) ≤ 1
    by true = omega arith
    by false = omega arith

continued_short : (tokens : List (List ℕ)) → ((k : ℕ) (token : List ℕ) → slice_get tokens k ≡ Some token → length token ≤ 64)
    → length (continued tokens) ≤ 65 * length tokens
continued_short [] each = omega arith
continued_short (token ∷ tokens) each =
    let own = each 0 token refl in
    let before = gap_short token tokens in
    let rest = continued_short tokens (λ k t at. each (suc k) t at) in
    omega (arith, own, before, rest, length-append (gap token tokens ++ token) (continued tokens), length-append (gap token tokens) token)

raised_length : (token : List ℕ) → length (raised token) ≡ length token
raised_length [] = refl
raised_length (b ∷ bs) = refl

first_length : (terminals : List (List ℕ)) (token : List ℕ) → length (shown_first terminals token) ≡ length token
first_length terminals token = by (is_terminal terminals token)
  where
    by : (b : Bool) → length (cond b (raised token) token) ≡ length token
    by true = raised_length token
    by false = refl

-- What shows a sentence has at most 65 bytes for each token.
pub shown_short : (g : GrammarParts) (words : Listed) → AreReady g words → (tokens : List (List ℕ)) → IsSentence g words tokens
    → length (shown g.terminals tokens) ≤ 65 * length tokens
shown_short g words ready tokens sentence = by tokens (λ k token at. short_token g words ready token (known_at g words tokens sentence k token at))
  where
    by : (ts : List (List ℕ)) → ((k : ℕ) (token : List ℕ) → slice_get ts k ≡ Some token → length token ≤ 64) → length (shown g.terminals ts) ≤ 65 * length ts
    by [] each = omega arith
    by (token ∷ ts) each =
        let own = each 0 token refl in
        let rest = continued_short ts (λ k t at. each (suc k) t at) in
        omega (arith, own, rest, first_length g.terminals token, length-append (shown_first g.terminals token) (continued ts))

-- ---- what shows a sentence is in UTF-8

utf8_token : (g : GrammarParts) (words : Listed) → AreReady g words → AreUtf8 g.terminals → (token : List ℕ) → IsTerminalOrForm g words token → IsUtf8 token
utf8_token g words ready utf8 token (inl terminal) = utf8 token terminal
utf8_token g words ready utf8 token (inr (word, owned)) = (form_there g words ready token word owned).utf8

ascii_one : (b : ℕ) → b < 128 → IsAscii (b ∷ [])
ascii_one b low zero = low
ascii_one b low (suc i) = lit< tt

upper_low : (b : ℕ) → b < 128 → to_ascii_uppercase b < 128
upper_low b low = uppercase_ascii b low

upper_high : (b : ℕ) → 128 ≤ b → to_ascii_uppercase b ≡ b
upper_high b high = grind (arith, nat_tests)

utf8_raised : (token : List ℕ) → IsUtf8 token → IsUtf8 (raised token)
utf8_raised [] utf8 = utf8
utf8_raised (b ∷ bs) utf8 = by (cases_lt b 128)
  where
    by : (b < 128) ⊎ (128 ≤ b) → IsUtf8 (to_ascii_uppercase b ∷ bs)
    by (inl low) =
        let rest : IsUtf8 (drop 1 (b ∷ bs)) = IsUtf8-drop (b ∷ bs) 1 utf8 (boundary_one (b ∷ bs) utf8 (omega arith) low) in
        IsUtf8-append (to_ascii_uppercase b ∷ []) bs
        (IsUtf8-from_ascii (to_ascii_uppercase b ∷ []) (ascii_one (to_ascii_uppercase b) (upper_low b low))) rest
    by (inr high) = subst (λ (c : ℕ). IsUtf8 (c ∷ bs)) (sym (upper_high b high)) utf8

utf8_first : (terminals : List (List ℕ)) (token : List ℕ) → IsUtf8 token → IsUtf8 (shown_first terminals token)
utf8_first terminals token utf8 = by (is_terminal terminals token)
  where
    by : (b : Bool) → IsUtf8 (cond b (raised token) token)
    by true = utf8_raised token utf8
    by false = utf8

utf8_gap : (token : List ℕ) (tokens : List (List ℕ)) → IsUtf8 (gap token tokens)
utf8_gap token tokens = by ((length tokens == 0) && is_mark_token token)
  where
    by : (b : Bool) → IsUtf8 (cond b [] (32 ∷ []))
    by true = IsUtf8-nil
    by false = IsUtf8-from_ascii (32 ∷ []) (ascii_one 32 (lit< tt))

utf8_continued : (tokens : List (List ℕ)) → ((k : ℕ) (token : List ℕ) → slice_get tokens k ≡ Some token → IsUtf8 token) → IsUtf8 (continued tokens)
utf8_continued [] each = IsUtf8-nil
utf8_continued (token ∷ tokens) each =
    IsUtf8-append (gap token tokens ++ token) (continued tokens)
    (IsUtf8-append (gap token tokens) token (utf8_gap token tokens) (each 0 token refl)) (utf8_continued tokens (λ k t at. each (suc k) t at))

-- What shows a sentence is in UTF-8.
pub shown_utf8 : (g : GrammarParts) (words : Listed) → AreReady g words → AreUtf8 g.terminals → (tokens : List (List ℕ)) → IsSentence g words tokens
    → IsUtf8 (shown g.terminals tokens)
shown_utf8 g words ready utf8 tokens sentence = by tokens (λ k token at. utf8_token g words ready utf8 token (known_at g words tokens sentence k token at))
  where
    by : (ts : List (List ℕ)) → ((k : ℕ) (token : List ℕ) → slice_get ts k ≡ Some token → IsUtf8 token) → IsUtf8 (shown g.terminals ts)
    by [] each = IsUtf8-nil
    by (token ∷ ts) each =
        IsUtf8-append (shown_first g.terminals token) (continued ts) (utf8_first g.terminals token (each 0 token refl))
        (utf8_continued ts (λ k t at. each (suc k) t at))
