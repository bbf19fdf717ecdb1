use Rattle.std.proofs.Common.{take}
use Rattle.std.specs.Prelude.{All, IfSome}
use Rattle.std.specs.List.{AllZip}
use Rattle.consequences.specs.Known.{theory_in}
use Rattle.plain_wiki.specs.Telling.{TellsSentence}
use Rattle.wiki_parts.specs.Spending.{IsCutOff}
use Rattle.wiki_store.specs.Remembered.{IsRemembered}
use Rattle.wiki_store.specs.Settled.{AbsorbsKnown}
use Rattle.wiki_store.specs.Spending.{KeptHasUnknown}
use Rattle.wiki_store.proofs.base.Base.views.Given as goal

-- the sentences so far are told
abbrev pub invariant-loop-place : goal.invariant-loop-place
invariant-loop-place l =
    record {
      tells : AllZip (TellsSentence (IsCutOff l.self.budget) l.self.state) (take l.place l.sentences) l.views;
      unknown : AllZip (KeptHasUnknown l.self) (take l.place l.sentences) l.views;
      absorbed : IfSome l.known (λ k. AbsorbsKnown l.self.state l.names (theory_in k));
      remembered : All (IsRemembered l.self) l.remembered.rows;
    }
