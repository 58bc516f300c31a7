mod ImpossibleLemmas
pub mod ReachLemmas
mod TrivialLemmas
mod WaitingLemmas
