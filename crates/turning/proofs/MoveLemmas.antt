-- What a turn of a line leaves, and what it comes to.
use Rattle.std.proofs.Common.{◌≡◌, ℕ, false, List, ◌⊎◌, inl, inr, refl, sym, ap, subst}
use Rattle.std.proofs.lemmas.Bool.{false≢true}
use Rattle.wiki_talk.specs.declared.refusals.Refusal.{Refusal}
use Rattle.wiki_talk.specs.declared.replies.Reply.{Reply}
use Rattle.wiki_talk.specs.declared.replies.Reply.TheVariants as replies
use Rattle.plain_wiki.specs.State.{State}
use Rattle.wiki_core.specs.Holding.{Holding}
use Rattle.turning.specs.Turning.{Former, HasNothing, IsAtLastRevision, PutsBack, Moves}
use Rattle.turning.specs.Laws.{is_refused}

-- the grammar, the words and the sessions stay
pub record KeepsSessions (old new : State) : Type 0 where
  pub grammar : new.stored.grammar ≡ old.stored.grammar
  pub words : new.stored.words ≡ old.stored.words
  pub sessions : new.sessions ≡ old.sessions
  pub last : new.last ≡ old.last

pub keeps_same : (old new : State) → new ≡ old → KeepsSessions old new
keeps_same old new same = subst (KeepsSessions old) (sym same) (record { grammar = refl; words = refl; sessions = refl; last = refl })

-- ---- what is taken back or done again

-- a move that was refused
abbrev pub IsStill : Holding → List Former → List Former → Refusal → Holding → List Former → List Former → Type 0
IsStill old from onto refusal new from_after onto_after =
    (HasNothing from refusal ⊎ IsAtLastRevision old from refusal) × (new ≡ old) × (from_after ≡ from) × (onto_after ≡ onto)

module _ (old : Holding) (from onto : List Former) (answer : List ℕ → Reply) (reply : Reply) (new : Holding) (from_after onto_after : List Former) where
  -- a move is refused or done
  pub move_outcome : Moves old from onto answer reply new from_after onto_after
      → ((refusal : Refusal) × IsStill old from onto refusal new from_after onto_after) ⊎ PutsBack old from onto answer reply new from_after onto_after
  move_outcome moves = by reply moves
    where
      by : (said : Reply) → Moves old from onto answer said new from_after onto_after
          → ((refusal : Refusal) × IsStill old from onto refusal new from_after onto_after) ⊎ PutsBack old from onto answer said new from_after onto_after
      by (replies.Refused refusal) moves = inl (refusal, moves)
      by said moves = inr moves

  -- a move that isn't refused is done
  pub move_done : is_refused reply ≡ false → Moves old from onto answer reply new from_after onto_after
      → PutsBack old from onto answer reply new from_after onto_after
  move_done done moves = by reply done moves
    where
      by : (said : Reply) → is_refused said ≡ false → Moves old from onto answer said new from_after onto_after
          → PutsBack old from onto answer said new from_after onto_after
      by (replies.Refused refusal) done moves = absurd (false≢true (sym done))
      by said done moves = moves

  -- a move leaves the grammar, the words and the sessions
  pub moved : Moves old from onto answer reply new from_after onto_after → KeepsSessions old.state new.state
  moved moves = by (move_outcome moves)
    where
      by : ((refusal : Refusal) × IsStill old from onto refusal new from_after onto_after) ⊎ PutsBack old from onto answer reply new from_after onto_after
          → KeepsSessions old.state new.state
      by (inl (refusal, still)) = keeps_same old.state new.state (ap (λ (w : Holding). w.state) still.1)
      by (inr puts) =
          subst (λ (w : Holding). KeepsSessions old.state w.state) (sym puts.after) (record { grammar = refl; words = refl; sessions = refl; last = refl })
