mod OnceLemmas
pub mod HistoryLemmas
pub mod ObjectLemmas
pub mod WordLemmas
pub mod StartedLemmas
