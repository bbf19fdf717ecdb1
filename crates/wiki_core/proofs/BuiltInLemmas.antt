-- What the built-in grammar's terminals are like.
use Rattle.std.proofs.Common.{◌≡◌, ℕ, ◌≤◌, Bool, true, false, not, ◌||◌, nat_le, List, length, refl, sym, ap, subst, ◌∙◌, arith}
use Rattle.std.specs.List.{list_all}
use Rattle.std.specs.Str.{bytes_eq, chars, is_utf8, IsUtf8}
use Rattle.std.proofs.lemmas.Bool.{false≢true}
use Rattle.std.proofs.lemmas.Bool.Decides.{nat_tests}
use Rattle.std.proofs.lemmas.Slice.Eq.{bytes_eq-Decides}
use Rattle.std.proofs.lemmas.Str.{IsUtf8-from_is_utf8}
use Rattle.lexicon.specs.Terminals.{raised}
use Rattle.derivations.proofs.Members.{all_among}
use Rattle.derivations.proofs.CutLemmas.{Passing, any_passes}
use Rattle.ace_grammar.specs.Names.{terminal_texts}
use Rattle.ace_grammar.specs.Grammar.{ace_grammar}
use Rattle.wiki_core.specs.Journaled.{NoneIsRaised, AreUtf8}

-- a terminal that is the other one raised is the other one
abbrev is_apart : List ℕ → List ℕ → Bool
is_apart one other = not (bytes_eq one (raised other)) || bytes_eq one other

abbrev are_apart : List (List ℕ) → Bool
are_apart terminals = list_all (λ one. list_all (is_apart one) terminals) terminals

apart_pair : (one other : List ℕ) → is_apart one other ≡ true → one ≡ raised other → one ≡ other
apart_pair one other apart is =
    (bytes_eq-Decides one other).0 (by (bytes_eq one (raised other)) (bytes_eq one other) ((bytes_eq-Decides one (raised other)).1 is) apart)
  where
    by : (a b : Bool) → a ≡ true → (not a || b) ≡ true → b ≡ true
    by true b passes apart = apart
    by false b never apart = absurd (false≢true never)

-- no terminal is another one raised, where the test says so
pub none_raised : (terminals : List (List ℕ)) → are_apart terminals ≡ true → NoneIsRaised terminals
none_raised terminals apart token is terminal also same =
    let one : Passing (bytes_eq token) terminals = any_passes (bytes_eq token) terminals is in
    let other : Passing (bytes_eq terminal) terminals = any_passes (bytes_eq terminal) terminals also in
    let first : token ≡ one.one = (bytes_eq-Decides token one.one).0 one.passes in
    let second : terminal ≡ other.one = (bytes_eq-Decides terminal other.one).0 other.passes in
    let row : list_all (is_apart one.one) terminals ≡ true =
    all_among (λ (t : List ℕ). list_all (is_apart t) terminals) terminals one.one apart one.among in
    let pair : is_apart one.one other.one ≡ true = all_among (is_apart one.one) terminals other.one row other.among in
    first ∙ apart_pair one.one other.one pair (sym first ∙ same ∙ ap raised second) ∙ sym second

-- each terminal is in UTF-8, where the test says so
pub all_utf8 : (terminals : List (List ℕ)) → list_all is_utf8 terminals ≡ true → AreUtf8 terminals
all_utf8 terminals utf8 terminal is =
    let one : Passing (bytes_eq terminal) terminals = any_passes (bytes_eq terminal) terminals is in
    let same : terminal ≡ one.one = (bytes_eq-Decides terminal one.one).0 one.passes in
    subst IsUtf8 (sym same) (IsUtf8-from_is_utf8 one.one (all_among is_utf8 terminals one.one utf8 one.among))

-- no terminal of the built-in grammar is another one raised
pub built_in_apart : NoneIsRaised ace_grammar.terminals
unfolding ace_grammar
built_in_apart = none_raised terminal_texts refl

-- and each is in UTF-8
pub built_in_utf8 : AreUtf8 ace_grammar.terminals
unfolding ace_grammar is_utf8 chars lib.Utf8.encode
built_in_utf8 = all_utf8 terminal_texts refl
