pub mod EngineLemmas
pub mod InputLemmas
