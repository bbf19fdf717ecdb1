-- The terminals of the wiki's own grammar: the words that sentences of axioms are made of, and that none of them is another one raised.
use Rattle.std.proofs.Common.{◌≡◌, ℕ, Bool, true, false, not, ◌||◌, List, refl, sym, ap, ◌∙◌}
use Rattle.std.specs.List.{list_all}
use Rattle.std.specs.Str.{bytes_eq}
use Rattle.std.proofs.lemmas.Bool.{false≢true}
use Rattle.std.proofs.lemmas.Slice.Eq.{bytes_eq-Decides}
use Rattle.lexicon.specs.Terminals.{raised}
use Rattle.derivation_trees.specs.Cutting.{is_terminal, IsNotRaised}
use Rattle.derivations.proofs.Members.{all_among}
use Rattle.derivations.proofs.CutLemmas.{Passing, any_passes}
use Rattle.ace_grammar.specs.Names.{terminal_texts}
use Rattle.ace_grammar.specs.Grammar.{ace_grammar}

-- a terminal that is the other one raised is the other one
abbrev is_apart : List ℕ → List ℕ → Bool
is_apart one other = not (bytes_eq one (raised other)) || bytes_eq one other

abbrev are_apart : List (List ℕ) → Bool
are_apart terminals = list_all (λ one. list_all (is_apart one) terminals) terminals

apart_pair : (one other : List ℕ) → is_apart one other ≡ true → one ≡ raised other → one ≡ other
apart_pair one other apart is =
    (bytes_eq-Decides one other).0 (by (bytes_eq one (raised other)) (bytes_eq one other) ((bytes_eq-Decides one (raised other)).1 is) apart)
  where
    by : (a b : Bool) → a ≡ true → (not a || b) ≡ true → b ≡ true
    by true b passes apart = apart
    by false b never apart = absurd (false≢true never)

none_raised : (terminals : List (List ℕ)) → are_apart terminals ≡ true → (token : List ℕ) → is_terminal terminals token ≡ true
    → IsNotRaised terminals token
none_raised terminals apart token is terminal also same =
    let one : Passing (bytes_eq token) terminals = any_passes (bytes_eq token) terminals is in
    let other : Passing (bytes_eq terminal) terminals = any_passes (bytes_eq terminal) terminals also in
    let first : token ≡ one.one = (bytes_eq-Decides token one.one).0 one.passes in
    let second : terminal ≡ other.one = (bytes_eq-Decides terminal other.one).0 other.passes in
    let row : list_all (is_apart one.one) terminals ≡ true =
    all_among (λ (t : List ℕ). list_all (is_apart t) terminals) terminals one.one apart one.among in
    let pair : is_apart one.one other.one ≡ true = all_among (is_apart one.one) terminals other.one row other.among in
    first ∙ apart_pair one.one other.one pair (sym first ∙ same ∙ ap raised second) ∙ sym second

-- no terminal is another one raised
pub terminal_not_raised : (token : List ℕ) → is_terminal terminal_texts token ≡ true → IsNotRaised terminal_texts token
terminal_not_raised = none_raised terminal_texts refl

-- they are the grammar's
pub ace_terminals : ace_grammar.terminals ≡ terminal_texts
unfolding ace_grammar
ace_terminals = refl
