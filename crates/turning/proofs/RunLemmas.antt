-- The laws of runs of a wiki with a history, passed on from one place.
pub use Rattle.turning.proofs.HearingLemmas.{tokens_own_recalling}
pub use Rattle.turning.proofs.ReadyLemmas.{changes_fit_recalling}
pub use Rattle.turning.proofs.StandingLemmas.{stands_again_recalling}
pub use Rattle.turning.proofs.BackLemmas.{undo_gives_back, redo_gives_back}
