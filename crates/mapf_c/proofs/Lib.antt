pub mod MemoryLemmas
pub mod AsBox
pub mod AskingLemmas
