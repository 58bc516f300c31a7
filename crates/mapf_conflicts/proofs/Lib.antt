pub mod ConflictLemmas
pub mod ReplacementLemmas
