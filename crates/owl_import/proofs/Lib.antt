pub mod AddLemmas
pub mod FateLemmas
pub mod KnownLemmas
pub mod MadeLemmas
pub mod SaidLemmas
pub mod SpokenLemmas
pub mod TerminalLemmas
pub mod WordLemmas
