pub mod FaultTests
pub mod NumberingLemmas
