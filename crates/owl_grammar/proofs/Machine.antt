-- Runs of the reading over tokens apart from their places, without the bound on open parentheses.
use Rattle.std.proofs.Common.{◌≡◌, ℕ, List, [], ◌∷◌, ◌++◌, Ok, Err, refl, ap, ◌∙◌}
use Rattle.std.specs.Prelude.{Result}
use Rattle.logic_terms.specs.Concept.{Claim}
use Rattle.owl_tokens.specs.declared.tokens.TokenKind.{TokenKind}
use Rattle.owl_tokens.specs.declared.tokens.TokenKind.TheVariants as token
use Rattle.owl_reader.specs.declared.faults.Trouble.{Trouble}
use Rattle.owl_reader.specs.declared.kinds.Entity.{Entity}
use Rattle.owl_reader.specs.declared.stand.Stand.{Stand}
use Rattle.owl_reader.specs.Names.{Declared}
use Rattle.owl_reader.specs.Reading.{State, Frame}
use Rattle.owl_reader.specs.Reading as machine
use Rattle.owl_grammar.specs.Files.{Piece}

abbrev pub free_by : TokenKind → State → List ℕ → Result State Trouble
free_by token.OpenParen s text = machine.opened_by s.stand s
free_by token.CloseParen s text = machine.closed_by s.stand s
free_by token.Equals s text = machine.equals_by s.stand s
free_by token.Iri s text = machine.iri_by s.stand s text
free_by token.Quoted s text = machine.quoted_by s.stand s
free_by token.Word s text = machine.word s.stand s text

-- one token
abbrev pub free : State → Piece → Result State Trouble
free s p = free_by p.kind s p.text

abbrev pub onward : Result State Trouble → (State → Result State Trouble) → Result State Trouble
onward (Ok s) more = more s
onward (Err x) more = Err x

-- tokens, one after another
abbrev pub runs : State → List Piece → Result State Trouble
runs s [] = Ok s
runs s (p ∷ ps) = onward (free s p) (λ n. runs n ps)

pub runs_append : (s : State) (ps qs : List Piece) → runs s (ps ++ qs) ≡ onward (runs s ps) (λ m. runs m qs)
runs_append s [] qs = refl
runs_append s (p ∷ ps) qs = by (free s p) (λ m. runs_append m ps qs)
  where
    by : (r : Result State Trouble) → ((m : State) → runs m (ps ++ qs) ≡ onward (runs m ps) (λ n. runs n qs))
        → onward r (λ n. runs n (ps ++ qs)) ≡ onward (onward r (λ n. runs n ps)) (λ n. runs n qs)
    by (Ok m) more = more m
    by (Err x) more = refl

pub chain : (s m n : State) (ps qs : List Piece) → runs s ps ≡ Ok m → runs m qs ≡ Ok n → runs s (ps ++ qs) ≡ Ok n
chain s m n ps qs h k = runs_append s ps qs ∙ (ap (λ r. onward r (λ t. runs t qs)) h ∙ k)

pub step_on : (s m n : State) (p : Piece) (ps : List Piece) → free s p ≡ Ok m → runs m ps ≡ Ok n → runs s (p ∷ ps) ≡ Ok n
step_on s m n p ps h k = ap (λ r. onward r (λ t. runs t ps)) h ∙ k

-- a state by its fields
abbrev pub at : Declared → List ℕ → List ℕ → List Entity → List Claim → List Frame → Stand → ℕ → State
at declared prefix iri entities claims frames stand count = record {
  prefixes = declared;
  entities = entities;
  claims = claims;
  frames = frames;
  stand = stand;
  open_count = count;
  prefix = prefix;
  iri = iri;
}
